use Rattle.std.proofs.Common.{rules, ◌≡◌, ◌∙◌, ℕ, Option, map, ap, subst, arith}
use Rattle.std.specs.Map.Iter.{deref_pair}
use Rattle.std.proofs.lemmas.Map.Iter.{rest_all}
use Rattle.svr_iter.specs.Marks.{marks_at}
use Rattle.svr_short.specs.Short.{Lists, marks_of, under_number}
use Rattle.svr_short.proofs.AtKey.{at_key, entries_at, gathered}
use Rattle.svr_short.proofs.Marking.{marked}
use Rattle.svr_short.proofs.Places.{place_at}
use Rattle.svr_short.proofs.short_lists.ShortListsShortSource.at_key.Goals as goal

pub returns : goal.returns
returns c =
    let top : ℕ = 18446744073709551615 in
    let n = c.in-Some.number.now in
    let es = c.self.inside.marks.entries in
    let none = rest_all deref_pair c.loop-place.place-iterator c.next.new.self c.next.result c.in-None.is c.next.ensures.steps in
    let range = entries_at c.range-place-items.result es c.new.result.start (place_at n c.args.key 0) c.new.result.end
    (place_at n c.args.key top) c.new.ensures.start c.new.ensures.end (c.range-place-items.ensures.between (search rules)) in
    subst (λ (v : Lists). c.loop-place.into.items ≡ marks_at c.args.key (marks_of v c.args.term.now)) c.self.view_is
    (gathered c.loop-place.into.items c.loop-place.place-iterator c.range-place-items.result (search rules) none ∙ ap (map marked) range
    ∙ at_key n c.args.key top es c.range-place-items.ensures.ordered c.self.invariant.1.key_fits c.self.invariant.1.id_fits (omega arith)
    ∙ ap (λ (o : Option ℕ). marks_at c.args.key (under_number es o)) c.in-Some.ensures.value)
