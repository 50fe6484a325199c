-- Two clauses on an answer.
use Rattle.std.proofs.Common.{Result, Ok, Err, OnOk}

-- what follows from both where the answer is Ok
pub on_both : {T E : Type 0} (P Q R : Type 0) (result : Result T E) → (P → Q → R) → OnOk result P → OnOk result Q → OnOk result R
on_both P Q R (Ok value) f p q = f p q
on_both P Q R (Err why) f p q = tt
