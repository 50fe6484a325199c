use Rattle.std.proofs.Common.{◌≡◌, ap, rules, ◌∙◌}
use Rattle.svr_record.specs.Bodies.{body_of}
use Rattle.svr_record.specs.Grammar.{record_in}
use Rattle.svr_record.specs.Limits.{IsRecord}
use Rattle.svr_record.proofs.Records.{record_in-body_of}
use Rattle.svr_record.proofs.write.write_record.Goals as goal

pub returns-clause-read_again : goal.returns-clause-read_again
returns-clause-read_again c =
    let body : c.write_record_into.new.out.items ≡ body_of c.args.entry.now = search rules in
    let is_record : IsRecord c.args.entry.now = search rules in
    ap record_in body ∙ record_in-body_of c.args.entry.now is_record
