-- The count of faults after a call.
use Rattle.std.specs.Prelude.{ℕ, Result, Ok, Err}
use Rattle.svr_edge.specs.Causes.{one_more}

-- a failed call counts one more, which stops at the end of u64
abbrev pub counted_fault : {T E : Type 0} → ℕ → Result T E → ℕ
counted_fault faults (Ok v) = faults
counted_fault faults (Err e) = one_more faults
