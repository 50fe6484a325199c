use Rattle.std.proofs.Common.{ap, subst, ◌∙◌, arith}
use Rattle.svr_record.specs.Grammar.{record_in}
use Rattle.svr_record.specs.Reading.{Gives}
use Rattle.svr_record.proofs.Records.{is_found, record_in-body_of}
use Rattle.svr_record.proofs.read.read_record.Goals as goal

pub returns-clause-found : goal.returns-clause-found
returns-clause-found c = is_found c.args.body.now c.read.result (λ i. omega (arith, c.type_inv.body i)) c.read.ensures

pub returns-clause-only : goal.returns-clause-only
returns-clause-only c =
    λ entry fits e. subst (λ read. Gives (λ x. x) c.read.result read) (ap record_in e ∙ record_in-body_of entry fits) c.read.ensures
