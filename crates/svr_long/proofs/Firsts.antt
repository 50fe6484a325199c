-- The first of the pairs that are left.
use Rattle.std.proofs.Common.{◌≡◌, ◌<◌, ◌^◌, true, List, [], ◌∷◌, ◌++◌, None, Some, slice_get, refl, subst}
use Rattle.std.specs.Option.{IfSome}
use Rattle.svr_iter.specs.MemPairs.{in_range}
use Rattle.svr_iter.specs.Truths.{and_left}
use Rattle.svr_postpage.specs.declared.pair.Pair.{Pair}
use Rattle.svr_long.specs.Cursor.{first_key_of}
use Rattle.svr_long.specs.Heads.{are_paged}

pub first_fits : (ps qs : List Pair) (p : Pair) → are_paged (ps ++ qs) ≡ true → slice_get ps 0 ≡ Some p → p.key < 2 ^ 48
first_fits [] qs p e at = absurd (cc)
first_fits (q ∷ ps) qs p e at =
    let same : q ≡ p = cc in subst (λ (r : Pair). r.key < 2 ^ 48) same (in_range q (and_left _ _ e)).0

pub next_fits : (ps : List Pair) → are_paged ps ≡ true → IfSome (first_key_of ps) (λ key. key < 2 ^ 48)
next_fits [] e = tt
next_fits (p ∷ ps) e = (in_range p (and_left _ _ e)).0

pub none_left : (ps : List Pair) → slice_get ps 0 ≡ None → ps ≡ []
none_left [] e = refl
none_left (p ∷ ps) e = absurd (cc)
