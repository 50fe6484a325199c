-- How many of the first pairs of a page stand in front of the next one, and the pairs that a buffer has left.
use Rattle.std.proofs.Common.{◌≡◌, ◌<◌, ◌+◌, ◌-◌, ℕ, zero, suc, Bool, true, false, cond, List, [], ◌∷◌, ◌++◌, take, drop, slice_get}
use Rattle.std.proofs.Common.{slice_range, Some, refl, sym, ap, subst, ◌∙◌, arith}
use Rattle.std.specs.List.{AllByRecursion}
use Rattle.svr_iter.specs.MemPairs.{IsPaged, before_trans}
use Rattle.svr_postpage.specs.Pairs.{first_pair, is_before}
use Rattle.svr_postpage.specs.declared.page_ref.PageRef.{PageRef}
use Rattle.svr_postpage.specs.declared.pair.Pair.{Pair}
use Rattle.svr_long.specs.Cursor.{is_ahead, kept}
use Rattle.svr_long.specs.PagedLaws.{all-behind}

take_last : (ps : List Pair) (n : ℕ) (x : Pair) → slice_get ps n ≡ Some x → take (suc n) ps ≡ take n ps ++ x ∷ []
take_last [] n x e = absurd (cc)
take_last (p ∷ ps) zero x e = let same : p ≡ x = cc in ap (λ (q : Pair). q ∷ []) same
take_last (p ∷ ps) (suc n) x e = ap (λ (qs : List Pair). p ∷ qs) (take_last ps n x e)

kept_one : (pages : List PageRef) (x : Pair) (b : Bool) → is_ahead pages x ≡ b → kept pages (x ∷ []) ≡ cond b (x ∷ []) []
kept_one pages x b e = ap (λ (t : Bool). cond t (x ∷ []) []) e

kept_last : (pages : List PageRef) (ps : List Pair) (x : Pair) → is_ahead pages x ≡ false → kept pages (ps ++ x ∷ []) ≡ kept pages ps
kept_last pages [] x e = kept_one pages x false e
kept_last pages (p ∷ ps) x e = ap (λ (qs : List Pair). cond (is_ahead pages p) (p ∷ qs) qs) (kept_last pages ps x e)

ahead_before : (pages : List PageRef) (p x : Pair) → is_before p x ≡ true → is_ahead pages x ≡ true → is_ahead pages p ≡ true
ahead_before [] p x b e = refl
ahead_before (next ∷ pages) p x b e = before_trans p x (first_pair next) b e

kept_whole : (pages : List PageRef) (ps : List Pair) (x : Pair) → IsPaged (ps ++ x ∷ []) → is_ahead pages x ≡ true
    → kept pages (ps ++ x ∷ []) ≡ ps ++ x ∷ []
kept_whole pages [] x h e = kept_one pages x true e
kept_whole pages (p ∷ ps) x h e =
    let here : is_before p x ≡ true = (all-behind (λ q. is_before p q ≡ true) ps (x ∷ []) h.1.0).0 in
    ap (λ (t : Bool). cond t (p ∷ kept pages (ps ++ x ∷ [])) (kept pages (ps ++ x ∷ []))) (ahead_before pages p x here e)
    ∙ ap (λ (qs : List Pair). p ∷ qs) (kept_whole pages ps x h.1.1 e)

all_take : (P : Pair → Type 0) (n : ℕ) (ps : List Pair) → AllByRecursion P ps → AllByRecursion P (take n ps)
all_take P zero ps all = tt
all_take P (suc n) [] all = tt
all_take P (suc n) (p ∷ ps) all = (all.0, all_take P n ps all.1)

IsPaged-take : (n : ℕ) (ps : List Pair) → IsPaged ps → IsPaged (take n ps)
IsPaged-take zero ps h = tt
IsPaged-take (suc n) [] h = tt
IsPaged-take (suc n) (p ∷ ps) h = (h.0, (all_take (λ q. is_before p q ≡ true) n ps h.1.0, IsPaged-take n ps h.1.1))

-- the last pair does not stand in front of the next page
pub ahead-less : (pages : List PageRef) (ps : List Pair) (end : ℕ) (x : Pair) → 0 < end → slice_get ps (end - 1) ≡ Some x
    → is_ahead pages x ≡ false → kept pages (take end ps) ≡ kept pages ps → kept pages (take (end - 1) ps) ≡ kept pages ps
ahead-less pages ps zero x some e not so = absurd (omega arith)
ahead-less pages ps (suc n) x some e not so =
    let less : suc n - 1 ≡ n = omega arith in
    let at : slice_get ps n ≡ Some x = subst (λ (m : ℕ). slice_get ps m ≡ Some x) less e in
    ap (λ (m : ℕ). kept pages (take m ps)) less
    ∙ sym (kept_last pages (take n ps) x not) ∙ ap (kept pages) (sym (take_last ps n x at)) ∙ so

-- it does, and so do all before it
pub ahead-done : (pages : List PageRef) (ps : List Pair) (end : ℕ) (x : Pair) → IsPaged ps → 0 < end → slice_get ps (end - 1) ≡ Some x
    → is_ahead pages x ≡ true → kept pages (take end ps) ≡ kept pages ps → take end ps ≡ kept pages ps
ahead-done pages ps zero x h some e is so = absurd (omega arith)
ahead-done pages ps (suc n) x h some e is so =
    let less : suc n - 1 ≡ n = omega arith in
    let at : slice_get ps n ≡ Some x = subst (λ (m : ℕ). slice_get ps m ≡ Some x) less e in
    let all : take (suc n) ps ≡ take n ps ++ x ∷ [] = take_last ps n x at in
    all ∙ sym (kept_whole pages (take n ps) x (subst IsPaged all (IsPaged-take (suc n) ps h)) is) ∙ ap (kept pages) (sym all) ∙ so

-- ---- the pairs that are left

drop_take : (n : ℕ) (ps : List Pair) → drop 1 (take (suc n) ps) ≡ take n (drop 1 ps)
drop_take zero [] = refl
drop_take (suc n) [] = refl
drop_take zero (p ∷ ps) = refl
drop_take (suc n) (p ∷ ps) = refl

drop_more : (n : ℕ) (ps : List Pair) → drop (suc n) ps ≡ drop 1 (drop n ps)
drop_more zero ps = refl
drop_more (suc n) [] = refl
drop_more (suc n) (p ∷ ps) = drop_more n ps

pub passed : (ps : List Pair) (place end : ℕ) → place < end → slice_range ps (place + 1) end ≡ drop 1 (slice_range ps place end)
passed ps place end lt =
    let left : end - place ≡ suc (end - (place + 1)) = omega arith in
    let next : place + 1 ≡ suc place = omega arith in
    ap (λ (n : ℕ). take (end - (place + 1)) (drop n ps)) next
    ∙ ap (take (end - (place + 1))) (drop_more place ps)
    ∙ sym (drop_take (end - (place + 1)) (drop place ps)) ∙ ap (λ (n : ℕ). drop 1 (take n (drop place ps))) (sym left)
