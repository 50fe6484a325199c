use Rattle.std.proofs.Common.{rules, arith, ◌≡◌, ◌∙◌, ◌+◌, ◌-◌, ◌++◌, ◌<◌, ◌≤◌, ℕ, List}
use Rattle.std.proofs.Common.{take, drop, length, min, sym, take_at, length-append}
use Rattle.std.proofs.lemmas.List.{take-append-drop, take_rest, drop-drop, drop_all, length-take-le, length-drop}
use Rattle.svr_fakes.proofs.source.MemSourceSource.read.Goals as goal

-- the bytes left are those that were put at the front of the buffer, and those after them
cut : (xs into given : List ℕ) (at n : ℕ) → length given ≡ n → given ≡ take n (drop at xs) →
    drop at xs ≡ take n (given ++ drop n into) ++ drop (at + n) xs
cut xs into given at n len is = rw (take_at given (drop n into) n len, ← drop-drop n at xs, is) (sym (take-append-drop n (drop at xs)))

-- a read of nothing, with room, is at the end
ended : (size at room step n : ℕ) → n ≡ min (min (size - at) room) step → n ≡ 0 → 0 < step → 0 < room → size ≤ at + n
ended size at room step n is z s r = omega (arith, is, z, s, r)

pub returns-clause-bytes : goal.returns-clause-bytes
returns-clause-bytes c =
    let n = c.min-count.result in
    let given = c.copy_from_slice.new.self in
    let into = c.args.into.now in
    let xs = c.self.inside.bytes.items in
    let at = c.self.inside.at in
    let is : n ≡ min (min (length xs - at) (length into)) c.self.inside.step =
    search (rules, c.min.ensures, c.min-count.ensures, c.deref.ensures, length-drop) in
    let after : given ≡ take n (drop at xs) = search (rules, c.copy_from_slice.ensures.after, c.deref.ensures, take_rest) in
    let len : length given ≡ n = c.copy_from_slice.ensures.len ∙ length-take-le n into (omega (arith, is)) in
    let sizes = length-append given (drop n into) in
    let rest = length-drop n into in (
      rw (← c.self.view_is) (cut xs into given at n len after),
      λ z room.
          let some : 0 < length into = omega (arith, room, sizes, rest) in
          drop_all (at + n) xs (ended (length xs) at (length into) c.self.inside.step n is z c.self.invariant.0 some),
    )
