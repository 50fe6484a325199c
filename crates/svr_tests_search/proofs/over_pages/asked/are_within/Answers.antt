use Rattle.std.proofs.Common.{◌≡◌, List, ap, ◌∙◌, arith, rules}
use Rattle.svr_chunks.specs.Chosen.{chosen_rules}
use Rattle.svr_idmap.specs.Ids.{value_at}
use Rattle.svr_num.specs.declared.hit.Hit.{Hit}
use Rattle.svr_tests_search.specs.Bounded.{score_in}
use Rattle.svr_tests_search.proofs.Within.{rows_within}
use Rattle.svr_tests_search.proofs.over_pages.asked.are_within.Goals as goal

pub returns : goal.returns
returns c = λ e id entry there score is.
    let same : c.deref-hit-items.result.now ≡ c.args.scores.now.rows.items = search rules in
    rows_within (chosen_rules c.args.index.now.method).bound (value_at c.args.index.now.entries) c.deref-hit-items.result.now
    (λ k d lt. c.loop-hit.invariant k d (omega (arith, c.loop-hit-test.false, lt))) id entry there score
    (ap (λ (rows : List Hit). score_in rows id) same ∙ is)
