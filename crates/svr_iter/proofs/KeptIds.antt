-- Ids that are kept in place: those of the first so many that passed stand in front, the rest is as it was.
use Rattle.std.proofs.Common.{◌≡◌, ℕ, zero, suc, ◌+◌, ◌<◌, ◌≤◌, Bool, true, false, cond, List, [], ◌∷◌, ◌++◌, length, slice_index, set}
use Rattle.std.proofs.Common.{take, drop, filter, nat_le, refl, ap, sym, subst, ◌∙◌, arith}
use Rattle.std.specs.List.Sorted.{IsStrictlyIncreasing}
use Rattle.std.proofs.lemmas.List.{append-nil, drop-set-lt, take_more, take_more_set}
use Rattle.std.proofs.lemmas.Bool.{leb-true}
use Rattle.std.proofs.lemmas.Bool.Decides.{nat_tests}
use Rattle.std.proofs.lemmas.List.Elements.{filter-append}
use Rattle.svr_iter.specs.Layout.{IsPlaceOf}
use Rattle.svr_iter.proofs.MergeSteps.{drop_at}

pub record AreKept (p : ℕ → Bool) (all : List ℕ) (at kept : ℕ) (ids : List ℕ) : Type 0 where
  pub few : kept ≤ at
  pub same_length : length ids ≡ length all
  pub front : take kept ids ≡ filter p (take at all)
  pub rest : drop at ids ≡ drop at all

pub AreKept-start : (p : ℕ → Bool) (all ids : List ℕ) → ids ≡ all → AreKept p all 0 0 ids
AreKept-start p all ids e = record { few = omega arith; same_length = ap length e; front = refl; rest = e }

first_same : (x y : ℕ) (xs ys : List ℕ) → x ∷ xs ≡ y ∷ ys → x ≡ y
first_same x y xs ys e = cc

rest_same : (x y : ℕ) (xs ys : List ℕ) → x ∷ xs ≡ y ∷ ys → xs ≡ ys
rest_same x y xs ys e = cc

-- the next id, as it was
heads : {p : ℕ → Bool} {all ids : List ℕ} {at kept : ℕ} → AreKept p all at kept ids → at < length all
    → slice_index ids at ∷ drop (at + 1) ids ≡ slice_index all at ∷ drop (at + 1) all
heads {p} {all} {ids} {at} {kept} are lt =
    let lt' : at < length ids = omega (arith, are.same_length) in
    sym (drop_at ids at lt') ∙ are.rest ∙ drop_at all at lt

pub AreKept-id : {p : ℕ → Bool} {all ids : List ℕ} {at kept : ℕ} → AreKept p all at kept ids → at < length all
    → slice_index ids at ≡ slice_index all at
AreKept-id {p} {all} {ids} {at} {kept} are lt = first_same _ _ _ _ (heads are lt)

take_one : (p : ℕ → Bool) (all : List ℕ) (at : ℕ) (b : Bool) → at < length all → p (slice_index all at) ≡ b
    → filter p (take (at + 1) all) ≡ filter p (take at all) ++ cond b (slice_index all at ∷ []) []
take_one p all at b lt e =
    ap (filter p) (take_more all at 0 lt) ∙ filter-append p (take at all) (slice_index all at ∷ [])
    ∙ ap (λ (l : List ℕ). filter p (take at all) ++ l) (one b e)
  where
    one : (c : Bool) → p (slice_index all at) ≡ c → filter p (slice_index all at ∷ []) ≡ cond c (slice_index all at ∷ []) []
    one true f = rw f refl
    one false f = rw f refl

length-set : (xs : List ℕ) (i y : ℕ) → length (set xs i y) ≡ length xs
length-set [] i y = refl
length-set (x ∷ xs) zero y = refl
length-set (x ∷ xs) (suc i) y = ap suc (length-set xs i y)

-- one id more was looked at
pub AreKept-more : {p : ℕ → Bool} {all ids : List ℕ} {at kept : ℕ} → AreKept p all at kept ids → at < length all
    → (passed : Bool) (count : ℕ) (now : List ℕ)
    → passed ≡ p (slice_index all at) → count ≡ cond passed (kept + 1) kept → now ≡ cond passed (set ids kept (slice_index ids at)) ids
    → AreKept p all (at + 1) count now
AreKept-more {p} {all} {ids} {at} {kept} are lt true count now e f g =
    let few = are.few in
    let same = are.same_length in
    let lt' : kept < length ids = omega arith in
    record {
      few = omega arith;
      same_length = ap length g ∙ length-set ids kept (slice_index ids at) ∙ are.same_length;
      front = rw (f, g)
          (take_more_set ids kept (slice_index ids at) lt' ∙ ap (λ (l : List ℕ). l ++ slice_index ids at ∷ []) are.front
          ∙ ap (λ (n : ℕ). filter p (take at all) ++ n ∷ []) (AreKept-id are lt) ∙ sym (take_one p all at true lt (sym e)));
      rest = ap (drop (at + 1)) g ∙ drop-set-lt (at + 1) ids kept (slice_index ids at) (omega arith) ∙ rest_same _ _ _ _ (heads are lt);
    }
AreKept-more {p} {all} {ids} {at} {kept} are lt false count now e f g =
    let few = are.few in
    record {
      few = omega arith;
      same_length = ap length g ∙ are.same_length;
      front = rw (f, g) (are.front ∙ sym (append-nil (filter p (take at all))) ∙ sym (take_one p all at false lt (sym e)));
      rest = ap (drop (at + 1)) g ∙ rest_same _ _ _ _ (heads are lt);
    }

take_all : (n : ℕ) (xs : List ℕ) → length xs ≤ n → take n xs ≡ xs
take_all zero [] le = refl
take_all zero (x ∷ xs) le = absurd (omega arith)
take_all (suc n) [] le = refl
take_all (suc n) (x ∷ xs) le = ap (λ (l : List ℕ). x ∷ l) (take_all n xs (omega arith))

pub AreKept-end : {p : ℕ → Bool} {all ids : List ℕ} {at kept : ℕ} → AreKept p all at kept ids → length all ≤ at
    → take kept ids ≡ filter p all
AreKept-end {p} {all} {ids} {at} {kept} are le = are.front ∙ ap (filter p) (take_all at all le)

-- ---- the place of the next id among others

-- all before the place are below the next id
pub record IsPassed (others : List ℕ) (place : ℕ) (all : List ℕ) (at : ℕ) : Type 0 where
  pub within : place ≤ length others
  pub below : (j : ℕ) → j < place → at < length all → slice_index others j < slice_index all at

pub IsPassed-start : (others all : List ℕ) → IsPassed others 0 all 0
IsPassed-start others all = record { within = omega arith; below = λ j lt. absurd (omega arith) }

pub IsPassed-more : {others all : List ℕ} {place at : ℕ} → IsStrictlyIncreasing all → at < length all
    → IsPlaceOf (slice_index all at) others place → IsPassed others place all (at + 1)
IsPassed-more {others} {all} {place} {at} up lt is = record {
  within = is.within;
  below = λ j low more. (let first : slice_index others j < slice_index all at =
      is.below j low in let next : slice_index all at < slice_index all (at + 1) = up at more in omega arith);
}

pub rises : (xs : List ℕ) → IsStrictlyIncreasing xs → (j k : ℕ) → j ≤ k → k < length xs → slice_index xs j ≤ slice_index xs k
rises xs up j zero le lt = let e : j ≡ 0 = omega arith in rw e (omega arith)
rises xs up j (suc k) le lt = by (nat_le j k) refl (λ low. rises xs up j k low (omega arith))
  where
    one_more : suc k ≡ k + 1
    one_more = omega arith

    step : slice_index xs k < slice_index xs (suc k)
    step = subst (λ (n : ℕ). slice_index xs k < slice_index xs n) (sym one_more) (up k (omega arith))

    by : (b : Bool) → nat_le j k ≡ b → (j ≤ k → slice_index xs j ≤ slice_index xs k) → slice_index xs j ≤ slice_index xs (suc k)
    by true e far = let low : slice_index xs j ≤ slice_index xs k = far (leb-true j k e) in let near = step in omega arith
    by false e far = let same : j ≡ suc k = grind (arith, nat_tests) in rw same (omega arith)
