use Rattle.std.proofs.Common.{rules, ◌≡◌, None, length, subst}
use Rattle.std.specs.BTreeMap.{get}
use Rattle.std.specs.BTreeSet.{contains}
use Rattle.svr_short.specs.Layout as spec
use Rattle.svr_short.specs.Short.{Lists, mark_at, place_cmp}
use Rattle.svr_short.specs.declared.place.Place.{Place}
use Rattle.svr_short.proofs.Keeping.{none-held}
use Rattle.svr_short.proofs.short_lists.ShortLists.first_of.Goals as goal

pub returns-in-None-clause-none : goal.returns-in-None-clause-none
returns-in-None-clause-none c = λ e.
    subst (λ (v : Lists). (p : Place) → p.id ≡ c.args.id → mark_at v.marks p ≡ None) c.self.view_is
    (none-held (length c.self.inside.numbers.entries) (get place_cmp c.self.inside.marks) (contains place_cmp c.self.inside.adds)
    (get spec.holding_cmp c.self.inside.held) c.args.id c.self.invariant.1
    (let none = (c.range.ensures.in_range (search rules)).5 (search rules) in search (rules, none)))
