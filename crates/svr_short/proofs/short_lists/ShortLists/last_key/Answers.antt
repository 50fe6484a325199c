use Rattle.std.proofs.Common.{rules, ◌≡◌, ◌∙◌, ℕ, Some, None, Bor, length, option_map, subst, arith}
use Rattle.std.specs.BTreeMap.{get}
use Rattle.std.specs.Map.Iter.{deref}
use Rattle.std.specs.declared.ops.Bound.TheVariants.{Excluded, Included}
use Rattle.svr_iter.specs.Marks.{next_add}
use Rattle.svr_short.specs.Layout as spec
use Rattle.svr_short.specs.Short.{Lists, under_number}
use Rattle.svr_short.specs.declared.place.Place.{Place}
use Rattle.svr_short.proofs.NextKey.{below-none, below-some, last_key}
use Rattle.svr_short.proofs.Places.{between, place_at}
use Rattle.svr_short.proofs.short_lists.ShortLists.last_key.Goals as goal

pub returns-in-Some : goal.returns-in-Some
returns-in-Some c =
    let is : c.map.result ≡ option_map (λ (x : Bor Place). x.now.key) c.next_back.result = search rules in
    let n = c.args.term in
    rw c.in-Some.is (subst (λ (v : Lists). c.map.result ≡ next_add (Some c.in-Some.key) (under_number v.marks (Some n))) c.self.view_is
    (is ∙ last_key deref (length c.self.inside.numbers.entries) n (Some c.in-Some.key) (Included (place_at n 0 0))
    (Excluded (place_at n c.in-Some.key 0)) c.self.inside.marks.entries c.self.inside.adds (get spec.holding_cmp c.self.inside.held)
    c.range.result c.next_back.result c.next_back.new.self c.self.invariant.1 (below-some n c.in-Some.key)
    (c.range.ensures.in_range (search rules)) c.next_back.ensures.steps))

pub returns-in-None : goal.returns-in-None
returns-in-None c =
    let is : c.map-in-None.result ≡ option_map (λ (x : Bor Place). x.now.key) c.next_back-in-None.result = search rules in
    let top : ℕ = 18446744073709551615 in
    let n = c.args.term in
    rw c.in-None.is (subst (λ (v : Lists). c.map-in-None.result ≡ next_add None (under_number v.marks (Some n))) c.self.view_is
    (is ∙ last_key deref (length c.self.inside.numbers.entries) n None (Included (place_at n 0 0)) (Included (place_at n top top))
    c.self.inside.marks.entries c.self.inside.adds (get spec.holding_cmp c.self.inside.held) c.range-in-None.result
    c.next_back-in-None.result c.next_back-in-None.new.self c.self.invariant.1 (below-none n top (omega arith))
    (between c.self.inside.adds c.range-in-None.result c.new.result.start (place_at n 0 0) c.new.result.end (place_at n top top)
    c.new.ensures.start c.new.ensures.end (c.range-in-None.ensures.in_range (search rules))) c.next_back-in-None.ensures.steps))
