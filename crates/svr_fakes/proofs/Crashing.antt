-- What a crash makes of the writes since the last sync is something that it may leave.
use Rattle.std.proofs.Common.{◌≡◌, ◌+◌, ◌≤◌, ℕ, List, [], ◌∷◌, length, drop, suc, refl, sym, ap, subst, arith}
use Rattle.svr_edge.specs.Disk.{Torn, overwritten}
use Rattle.svr_fakes.specs.declared.disk_call.Torn as tears
use Rattle.svr_fakes.specs.declared.disk_call.Torn.TheVariants.{Old, New, Mixed}
use Rattle.svr_fakes.specs.Platter.{MayLeave, crashed, mixed, platter_at}
use Rattle.svr_fakes.specs.Disks.{IsCrash, MemState, Torn-overwritten, Torn-same}

length-mixed : (turn : ℕ) (old piece : List ℕ) → length (mixed turn old piece) ≡ length piece
length-mixed turn old [] = refl
length-mixed turn old (byte ∷ piece) = ap suc (length-mixed (suc turn) (drop 1 old) piece)

crash_leaves : (torn : tears.Torn) (kept : List ℕ) (pending : List (ℕ × List ℕ)) → MayLeave kept pending (crashed torn kept pending)
crash_leaves Old kept [] = refl
crash_leaves Old kept (write ∷ pending) = (kept, crash_leaves Old kept pending, Torn-same write.0 (length write.1) kept)
crash_leaves New kept [] = refl
crash_leaves New kept (write ∷ pending) = (
  crashed New kept pending,
  crash_leaves New kept pending,
  Torn-overwritten write.0 (crashed New kept pending) write.1,
)
crash_leaves (Mixed n) kept [] = refl
crash_leaves (Mixed n) kept (write ∷ pending) =
    let piece = mixed (write.0 + n) (drop write.0 kept) write.1 in
    let before = crashed (Mixed n) kept pending in (
      before,
      crash_leaves (Mixed n) kept pending,
      subst (λ (size : ℕ). Torn write.0 size before (overwritten before write.0 piece)) (length-mixed (write.0 + n) (drop write.0 kept) write.1)
          (Torn-overwritten write.0 before piece),
    )

pub is_crash : (d : MemState) (calls : ℕ) (torn : tears.Torn) (image : List ℕ) → calls ≤ length d.past.calls
    → image ≡ crashed torn (platter_at d.past calls).kept (platter_at d.past calls).pending → IsCrash d calls torn image
is_crash d calls torn image le is =
    let p = platter_at d.past calls in
    record {
      is = is;
      left = (calls, omega arith, le, subst (λ (xs : List ℕ). MayLeave p.kept p.pending xs) (sym is) (crash_leaves torn p.kept p.pending));
    }
