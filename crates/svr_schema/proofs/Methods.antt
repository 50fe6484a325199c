-- Methods by their kinds.
use Rattle.std.proofs.Common.{◌≡◌, ℕ, Bool, true, false, List, codes, None, refl}
use Rattle.std.specs.Str.{bytes_eq}
use Rattle.std.proofs.lemmas.Slice.Eq.{bytes_eq-Decides}
use Rattle.serde_json.specs.Data.{Data}
use Rattle.svr_schema.specs.Rules.{method_of_kind}

decided : (b : Bool) → (b ≡ true → ⊥) → b ≡ false
decided true h = absurd (h refl)
decided false h = refl

bytes_eq-false : (xs ys : List ℕ) → (xs ≡ ys → ⊥) → bytes_eq xs ys ≡ false
bytes_eq-false xs ys h = decided (bytes_eq xs ys) (λ e. h ((bytes_eq-Decides xs ys).0 e))

pub method_of_kind-other : (k : List ℕ) (m : Data) → (k ≡ codes "id" → ⊥) → (k ≡ codes "score" → ⊥) → (k ≡ codes "score-threshold" → ⊥)
    → (k ≡ codes "chunk" → ⊥) → method_of_kind k m ≡ None
method_of_kind-other k m a b c d =
    rw (
      bytes_eq-false k (codes "id") a,
      bytes_eq-false k (codes "score") b,
      bytes_eq-false k (codes "score-threshold") c,
      bytes_eq-false k (codes "chunk") d,
    )
    refl
