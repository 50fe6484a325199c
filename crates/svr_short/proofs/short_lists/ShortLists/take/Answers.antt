use Rattle.std.proofs.Common.{rules, None}
use Rattle.svr_short.proofs.Keeping.{alone_there, held_by, marked-set}
use Rattle.svr_short.proofs.short_lists.ShortLists.take.Goals as goal

-- src
pub invariant_of-self : goal.invariant_of-self
invariant_of-self c = (
  c.self.invariant.0,
  marked-set _ _ _ _ _ _ _ c.args.place None c.self.invariant.1 (λ some. absurd (cc))
      (alone_there _ _ _ _ c.args.place c.self.invariant.1 (search rules)) c.remove.ensures.updates.0
      c.remove-then-is_some.ensures.updates.0 (held_by _ _ c.args.place _ c.holding_of.ensures c.remove-then-is_some-2.ensures.updates.0),
)
