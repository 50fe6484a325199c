use Rattle.std.proofs.Common.{rules, None, Some, ap, sym, subst}
use Rattle.std.specs.BTreeMap.{get, is_at}
use Rattle.std.specs.Map.{lookup}
use Rattle.std.specs.BTreeSet.{contains}
use Rattle.svr_short.specs.Layout as spec
use Rattle.svr_short.specs.Short.{Lists, mark_at, place_cmp}
use Rattle.svr_short.proofs.Keeping.{add-undone, held_by, holding-undone, mark-undone, marked-set}
use Rattle.svr_short.proofs.short_lists.ShortLists.set.Goals as goal

pub invariant_of-self-in-Ok : goal.invariant_of-self-in-Ok
invariant_of-self-in-Ok c = (
  c.self.invariant.0,
  marked-set _ _ _ _ _ _ _ c.args.place (Some c.args.mark) c.self.invariant.1 (λ some. (search rules, (c.requires.key, c.requires.id)))
      (subst (λ (v : Lists). spec.IsAlone (mark_at v.marks) c.args.place) (sym c.self.view_is) c.requires.alone)
      c.in_ok-insert.ensures.updates.0 c.in-Ok.ensures.adds c.in-Ok.ensures.held,
)

pub invariant_of-self-in-Err : goal.invariant_of-self-in-Err
invariant_of-self-in-Err c = (
  c.self.invariant.0,
  marked-set _ _ _ _ _ _ _ c.args.place None c.self.invariant.1 (λ some. absurd (cc))
      (subst (λ (v : Lists). spec.IsAlone (mark_at v.marks) c.args.place) (sym c.self.view_is) c.requires.alone)
      (mark-undone (get place_cmp c.self.inside.marks) (get place_cmp c.insert.new.self) (get place_cmp c.remove.new.self) c.args.place
      (Some c.args.mark) c.in_ok-insert.ensures.updates.0 c.remove.ensures.updates.0)
      (add-undone (contains place_cmp c.self.inside.adds) (contains place_cmp c.put_beside.new.adds)
      (contains place_cmp c.remove-in-Err.new.self) c.args.place c.in-Err.ensures.other_adds c.remove-in-Err.ensures.updates.0)
      (holding-undone (get spec.holding_cmp c.self.inside.held) (get spec.holding_cmp c.put_beside.new.held)
      (get spec.holding_cmp c.remove-in-Err-2.new.self) c.args.place
      (λ h. ap (λ es. lookup (is_at (spec.holding_cmp h)) es) c.in-Err.ensures.others_held)
      (held_by (get spec.holding_cmp c.put_beside.new.held) (get spec.holding_cmp c.remove-in-Err-2.new.self) c.args.place _
      c.holding_of.ensures c.remove-in-Err-2.ensures.updates.0)),
)
