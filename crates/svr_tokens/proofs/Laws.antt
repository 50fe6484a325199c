-- The laws of the terms of a text.
use Rattle.std.proofs.Common.{◌≡◌, ◌∙◌, ◌↔◌, sym, List, ℕ, [], Bool, true, IsTrue}
use Rattle.std.specs.Ordering.{nat_cmp}
use Rattle.std.specs.Cmp.Lexicographic.{slice_cmp, nat_list_eq_equiv, same_text}
use Rattle.std.specs.List.{list_any, Contains}
use Rattle.std.specs.List.Sorted.{IsStrictlySortedBy}
use Rattle.std.specs.Str.{bytes_eq}
use Rattle.std.proofs.lemmas.Map.Views.{Contains-from_any, list_any-from_Contains}
use Rattle.svr_tokens.specs.Tokens.{terms_in, ascending, tokens_of, has_term}
use Rattle.svr_tokens.proofs.Order.{sorted-fold, any-fold_nil}

pub sorted-ascending : (ts : List (List ℕ)) → IsStrictlySortedBy (slice_cmp nat_cmp) (ascending ts)
unfolding ascending IsStrictlySortedBy
sorted-ascending ts = sorted-fold ts [] tt

pub sorted-tokens_of : (text : List ℕ) → IsStrictlySortedBy (slice_cmp nat_cmp) (tokens_of text)
unfolding tokens_of
sorted-tokens_of text = sorted-ascending (terms_in text)

-- a test passes one of the ascending terms exactly where it passes one of the terms
pub any-ascending : (p : List ℕ → Bool) (ts : List (List ℕ)) → list_any p (ascending ts) ≡ list_any p ts
unfolding ascending
any-ascending p ts = any-fold_nil p ts

exact : (x y : List ℕ) → bytes_eq x y ≡ true → x ≡ y
exact x y e = same_text x y (sym e)

pub has_term-iff : (ts : List (List ℕ)) (t : List ℕ) → IsTrue (has_term ts t) ↔ Contains ts t
has_term-iff ts t = (Contains-from_any exact t ts, list_any-from_Contains nat_list_eq_equiv t ts)

pub Contains-ascending : (ts : List (List ℕ)) (t : List ℕ) → Contains (ascending ts) t ↔ Contains ts t
Contains-ascending ts t = (
  λ h. (has_term-iff ts t).0 (sym (any-ascending (bytes_eq t) ts) ∙ (has_term-iff (ascending ts) t).1 h),
  λ h. (has_term-iff (ascending ts) t).0 (any-ascending (bytes_eq t) ts ∙ (has_term-iff ts t).1 h),
)

pub Contains-tokens_of : (text t : List ℕ) → Contains (tokens_of text) t ↔ Contains (terms_in text) t
unfolding tokens_of
Contains-tokens_of text t = Contains-ascending (terms_in text) t
