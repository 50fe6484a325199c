use Rattle.std.proofs.Common.{◌≡◌, ◌≤◌, ◌<◌, ◌⊎◌, take, inl, inr, length, slice_index, rules, arith, subst, sym, ◌∙◌}
use Rattle.std.proofs.lemmas.List.{take_more_set, length-set}
use Rattle.svr_listing.specs.Bounds.{AreBounds, bounds_of}
use Rattle.svr_listing.proofs.Chunks.{bounds_of-AreBounds}
use Rattle.svr_chunks.proofs.Next.{SoFar-all, SoFar-found, SoFar-passed, by_recursion}
use Rattle.svr_chunks.proofs.Places.{ascends}
use Rattle.svr_chunks.proofs.bounds.bounds_of.Goals as goal
use Rattle.svr_chunks.proofs.bounds.bounds_of.Goals.{then-may_follow, else-may_follow, then-loop-at-test+else-len-lt-MOST_BOUNDS, else-loop-at-test}

pub loop-at-preserved : goal.loop-at-preserved
loop-at-preserved c =
    let scores = c.args.scores.now in
    let found = take c.loop-at.len c.loop-at.values in
    let there : c.loop-at.at < length scores = search rules in
    let room : c.loop-at.len < length c.loop-at.values = omega (arith, c.loop-at.invariant.0, c.if-len-lt-MOST_BOUNDS.true) in
    elim c.if-may_follow.branch [
      | then-may_follow w ↦ rw (w.values-is, w.len-is, w.bound-is, w.from-is) (
        length-set c.loop-at.values c.loop-at.len (slice_index scores c.loop-at.at) ∙ c.loop-at.invariant.0,
        SoFar-found scores c.args.ratio c.args.min_docs found _ c.loop-at.len c.loop-at.bound c.loop-at.from c.loop-at.at
            (ascends scores c.requires.ascending) there (search rules) (sym w.if-may_follow.ensures)
            (take_more_set c.loop-at.values c.loop-at.len (slice_index scores c.loop-at.at) room) c.loop-at.invariant.1,
      )
      | else-may_follow w ↦ rw (w.values-is, w.len-is, w.bound-is, w.from-is) (
        c.loop-at.invariant.0,
        SoFar-passed scores c.args.ratio c.args.min_docs found c.loop-at.len c.loop-at.bound c.loop-at.from c.loop-at.at
            there (sym w.if-may_follow.ensures) c.loop-at.invariant.1,
      )
    ]

found_all : (c : goal.Left-loop-at) → take c.loop-at.len c.loop-at.values ≡ bounds_of c.args.scores.now c.args.ratio c.args.min_docs
found_all c =
    let ended : (length c.args.scores.now ≤ c.loop-at.at) ⊎ (64 ≤ c.loop-at.len) =
    elim c.loop-at-test.branch [
      | then-loop-at-test+else-len-lt-MOST_BOUNDS w ↦ inr (search rules)
      | else-loop-at-test w ↦ inl (search rules)
    ] in
    SoFar-all c.args.scores.now c.args.ratio c.args.min_docs _ c.loop-at.len c.loop-at.bound c.loop-at.from c.loop-at.at ended
    c.loop-at.invariant.1

are_bounds : (c : goal.Left-loop-at) → AreBounds (take c.loop-at.len c.loop-at.values)
are_bounds c =
    subst AreBounds (sym (found_all c))
    (bounds_of-AreBounds c.args.scores.now c.args.ratio c.args.min_docs (by_recursion _ c.args.scores.now c.requires.within))

pub invariant_of-result : goal.invariant_of-result
invariant_of-result c = (c.loop-at.invariant.1.few, are_bounds c)

pub returns-clause-value : goal.returns-clause-value
returns-clause-value c = found_all c

pub returns-clause-are : goal.returns-clause-are
returns-clause-are c = are_bounds c
