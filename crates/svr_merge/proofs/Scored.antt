-- Scores in ascending order.
use Rattle.std.proofs.Common.{◌≡◌, ◌<◌, ℕ, List, [], ◌∷◌, cond, true, false, refl, ap, sym, subst, ◌∙◌, arith, ◌≤◌, map, nat_le, nat_cmp, inl, inr}
use Rattle.std.specs.Cmp.{nat_cmp_is, nat_cmp_total}
use Rattle.std.specs.List.Sorted.{IsPermutation, IsSorted}
use Rattle.std.specs.Ordering.{is_gt}
use Rattle.std.specs.declared.cmp.Ordering.TheVariants.{Less, Equal}
use Rattle.std.proofs.lemmas.Bool.{cases_order}
use Rattle.std.proofs.lemmas.Bool.Decides.{nat_tests}
use Rattle.std.proofs.lemmas.Map.Lookups.{exact_unsigned}
use Rattle.std.specs.List.{All}
use Rattle.std.proofs.lemmas.List.Sorted.{All-permutation}
use Rattle.std.proofs.lemmas.List.Elements.{All-map}
use Rattle.svr_num.specs.declared.hit.Hit.{Hit}
use Rattle.svr_num.specs.declared.score.TheConstants.{SCORE_MAX}
use Rattle.svr_merge.specs.Rules.{ascending_scores, with_score}
use Rattle.svr_merge.proofs.Sorting.{Tells, in_order, in_order-is, put}

not_greater : (a b : ℕ) → (b < a → true ≡ false) → is_gt (nat_cmp a b) ≡ false
not_greater a b never = elim (cases_order a b) [
  | inl e ↦ ap is_gt (sym (nat_cmp_is a b Equal e))
  | inr o ↦ elim o [
    | inl l ↦ ap is_gt (sym (nat_cmp_is a b Less l))
    | inr g ↦ absurd (let h = never g in cc)
  ]
]

by_score : Tells nat_cmp nat_le
by_score = record {
  total = nat_cmp_total;
  exact = exact_unsigned;
  first = λ a b e. not_greater a b (λ less. grind (arith, nat_tests, e, less));
  later = λ a b e. not_greater b a (λ less. grind (arith, nat_tests, e, less));
}

with_score-is : (s : ℕ) (ss : List ℕ) → with_score s ss ≡ put nat_le s ss
with_score-is s [] = refl
with_score-is s (x ∷ ss) = ap (λ (l : List ℕ). cond (nat_le s x) (s ∷ x ∷ ss) (x ∷ l)) (with_score-is s ss)

ascending_scores-is : (ss : List ℕ) → ascending_scores ss ≡ in_order nat_le ss
ascending_scores-is [] = refl
ascending_scores-is (s ∷ ss) = with_score-is s (ascending_scores ss) ∙ ap (put nat_le s) (ascending_scores-is ss)

pub sorted-ascending : (xs ys : List ℕ) → IsPermutation xs ys → IsSorted nat_cmp ys → ys ≡ ascending_scores xs
sorted-ascending xs ys moved up = in_order-is nat_cmp nat_le by_score xs ys moved up ∙ sym (ascending_scores-is xs)

pub within-sorted : (xs ys : List ℕ) → IsPermutation xs ys → All (λ (s : ℕ). s ≤ SCORE_MAX) xs → All (λ (s : ℕ). s ≤ SCORE_MAX) ys
within-sorted xs ys moved all = All-permutation (λ (s : ℕ). s ≤ SCORE_MAX) xs ys moved all

pub within-documents : (ds : List Hit) (ss : List ℕ) → ss ≡ map (λ (d : Hit). d.score) ds → All (λ (d : Hit). d.score ≤ SCORE_MAX) ds
    → All (λ (s : ℕ). s ≤ SCORE_MAX) ss
within-documents ds ss e all = subst (All (λ (s : ℕ). s ≤ SCORE_MAX)) (sym e) (All-map (λ (s : ℕ). s ≤ SCORE_MAX) (λ (d : Hit). d.score) ds all)
