-- A member nests no deeper than the object that has it.
use Rattle.std.proofs.Common.{◌≡◌, ◌≤◌, ℕ, max, List, Option, Some, None, ap, arith}
use Rattle.std.specs.Cmp.Lexicographic.{slice_cmp}
use Rattle.std.specs.Ordering.{match_ordering, nat_cmp}
use Rattle.std.specs.declared.cmp.Ordering.{Ordering}
use Rattle.std.specs.declared.cmp.Ordering.TheVariants.{Less, Equal, Greater}
use Rattle.serde_json.specs.Data.{Data, null, boolean, number, string, array, object, Members, no_members, member, depth, members_depth}
use Rattle.serde_json.specs.Find.{get, get_member}

by_order : (o : Ordering) (e : Data) (ms : Members) (v : Data) (rest : Option Data) → (rest ≡ Some v → depth v ≤ members_depth ms)
    → match_ordering o rest (Some e) rest ≡ Some v → depth v ≤ max (depth e) (members_depth ms)
by_order Less e ms v rest below h = omega (arith, below h)
by_order Equal e ms v rest below h =
    let is : e ≡ v = cc in
    omega (arith, ap depth is)
by_order Greater e ms v rest below h = omega (arith, below h)

depth-get_member : (k : List ℕ) (ms : Members) (v : Data) → get_member k ms ≡ Some v → depth v ≤ members_depth ms
depth-get_member k no_members v h = cc
depth-get_member k (member l e ms) v h = by_order (slice_cmp nat_cmp k l) e ms v (get_member k ms) (depth-get_member k ms v) h

pub depth-get : (k : List ℕ) (d v : Data) (n : ℕ) → get k d ≡ Some v → depth d ≤ n → depth v ≤ n
depth-get k null v n h few = cc
depth-get k (boolean b) v n h few = cc
depth-get k (number m) v n h few = cc
depth-get k (string s) v n h few = cc
depth-get k (array ds) v n h few = cc
depth-get k (object ms) v n h few = omega (arith, few, depth-get_member k ms v h)
