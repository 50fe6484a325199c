use Rattle.std.proofs.Common.{◌≡◌, ◌∷◌, not, ap, rules}
use Rattle.svr_schema.proofs.Names.{are_different-free, are_different-taken}
use Rattle.svr_schema.proofs.named.+are_different.Goals as goal

pub returns-then-not-is_taken : goal.returns-then-not-is_taken
returns-then-not-is_taken g t c =
    let is : c.args.items.now ≡ c.in-Some.first.now ∷ c.in-Some.rest.now = search rules in
    let free = ap not c.if-not-is_taken.true in
    are_different-free _ c.args.items.now _ _ _ _ _ is c.name.ensures c.is_taken.ensures free c.are_different.ensures

pub returns-else-not-is_taken : goal.returns-else-not-is_taken
returns-else-not-is_taken g t c =
    let is : c.args.items.now ≡ c.in-Some.first.now ∷ c.in-Some.rest.now = search rules in
    are_different-taken _ c.args.items.now _ _ _ _ is c.name.ensures c.is_taken.ensures (ap not c.if-not-is_taken.false)
