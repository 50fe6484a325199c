use Rattle.std.proofs.Common.{◌≡◌, length, [], arith, rules}
use Rattle.svr_view.proofs.Empty.{StandsFor-no_rows}
use Rattle.svr_view.proofs.view.ScoreView.new.Goals as goal

pub returns : goal.returns
returns c =
    let many : length c.in_ok-new.field-0 ≡ length c.args.schema.now.components =
    omega (arith, c.in_ok-new.ensures.as_many, c.len.ensures, c.requires.few_components) in
    let none : c.new-2.result ≡ [] = search rules in
    StandsFor-no_rows c.args.schema.now (record { groups = c.in_ok-new.field-0; scores = c.new-2.result }) many c.in_ok-new.ensures.none none
