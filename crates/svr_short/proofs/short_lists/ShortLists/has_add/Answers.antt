use Rattle.std.proofs.Common.{ℕ, rules, ◌≡◌, ◌∙◌, length, subst, arith}
use Rattle.std.specs.BTreeMap.{get}
use Rattle.std.specs.Map.Iter.{deref}
use Rattle.svr_short.specs.Layout as spec
use Rattle.svr_short.specs.Short.{Lists}
use Rattle.svr_short.proofs.Places.{between, has_add-first, place_at}
use Rattle.svr_short.proofs.short_lists.ShortLists.has_add.Goals as goal

pub returns : goal.returns
returns c =
    let top : ℕ = 18446744073709551615 in
    let low = place_at c.args.term 0 0 in
    let high = place_at c.args.term top top in
    let range = between c.self.inside.adds c.range.result c.new.result.start low c.new.result.end high c.new.ensures.start c.new.ensures.end
    (c.range.ensures.in_range (search rules)) in
    subst (λ (v : Lists). c.is_some.result ≡ spec.any_add v.marks c.args.term) c.self.view_is
    (c.is_some.ensures ∙ has_add-first deref (length c.self.inside.numbers.entries) c.args.term top c.self.inside.marks.entries
    c.self.inside.adds (get spec.holding_cmp c.self.inside.held) c.range.result c.next.result c.next.new.self c.self.invariant.1
    (omega arith) range c.next.ensures.steps)
