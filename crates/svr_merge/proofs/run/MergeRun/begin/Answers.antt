use Rattle.std.proofs.Common.{rules, ◌≡◌, subst, sym, None, List, ℕ}
use Rattle.svr_chunks.specs.Chosen.{chosen_rules}
use Rattle.svr_listing.specs.Merges.{begin}
use Rattle.svr_postpage.specs.declared.page_ref.PageRef.{PageRef}
use Rattle.svr_merge.specs.Layout.{HasKeysOf}
use Rattle.svr_merge.specs.Rules.{rules_now}
use Rattle.svr_merge.specs.Runs.{StandsForMerge}
use Rattle.svr_merge.proofs.Begun.{begun}
use Rattle.svr_merge.proofs.run.MergeRun.begin.Goals as goal

pub returns-clause-stands : goal.returns-clause-stands
returns-clause-stands c ds e =
    let same : chosen_rules c.method_for-method.result ≡ rules_now c.args.spec.now c.args.documents.now = search rules in
    let keys : HasKeysOf (chosen_rules c.method_for-method.result) c.args.documents.now c.in_ok-keys.keys = search rules in
    subst (λ (lists : List (List ℕ × List PageRef)). StandsForMerge
    (record { method = c.method_for-method.result; keys = c.in_ok-keys.keys; last = None; lists = lists })
    (begin (rules_now c.args.spec.now c.args.documents.now) ds)) (sym c.new.ensures)
    (begun c.method_for-method.result (rules_now c.args.spec.now c.args.documents.now) c.args.documents.now c.in_ok-keys.keys same keys ds e)
