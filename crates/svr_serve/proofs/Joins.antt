-- Texts of whole requests, and what stands behind them.
use Rattle.std.proofs.Common.{◌≡◌, ◌⊎◌, inl, inr, ℕ, false, ◌||◌, List, [], ◌∷◌, ◌++◌, sym, ap, ap₂, ◌∙◌, append_assoc, append-nil}
use Rattle.std.specs.List.{filter_map, list_any}
use Rattle.std.proofs.lemmas.List.Elements.{filter_map-append}
use Rattle.std.proofs.lemmas.List.Folds.{list_any-append}
use Rattle.svr_request.specs.Requests.{Submitted}
use Rattle.svr_serve.specs.Input.{ends_in_block, is_cut, last, parts_of, request_in, requests_of, whole, whole_in, whole_requests}
use Rattle.svr_serve.specs.Layout.{HoldsWhole}
use Rattle.svr_serve.proofs.SoFar.{IsWhole}
use Rattle.svr_serve.proofs.Parts.{parts_of-nil}

pub requests_of-none : (rest : List ℕ) → rest ≡ [] → requests_of rest ≡ []
requests_of-none rest none = ap requests_of none ∙ ap (filter_map request_in) parts_of-nil

-- ---- behind whole requests

pub requests_of-join : (front rest : List ℕ) → IsWhole front → requests_of (front ++ rest) ≡ requests_of front ++ requests_of rest
requests_of-join front rest w = ap (filter_map request_in) (w.joins rest) ∙ filter_map-append request_in (parts_of front) (parts_of rest)

pub whole_requests-join : (front rest : List ℕ) → IsWhole front → whole_requests rest ≡ [] → whole_requests (front ++ rest) ≡ requests_of front
whole_requests-join front rest w none = ap (filter_map whole_in) (w.joins rest) ∙ filter_map-append whole_in (parts_of front) (parts_of rest)
    ∙ ap₂ (λ a b. a ++ b) w.whole none ∙ append-nil (requests_of front)

pub ends_in_block-join : (front rest : List ℕ) → IsWhole front → ends_in_block front ≡ false → ends_in_block (front ++ rest) ≡ ends_in_block rest
ends_in_block-join front rest w uncut = ap (list_any is_cut) (w.joins rest) ∙ list_any-append is_cut (parts_of front) (parts_of rest)
    ∙ ap (λ b. b || ends_in_block rest) uncut

pub IsWhole-nil : IsWhole []
IsWhole-nil = record {
  joins = λ more. ap (λ ps. ps ++ parts_of more) (sym parts_of-nil);
  whole = ap (filter_map whole_in) parts_of-nil ∙ ap (filter_map request_in) (sym parts_of-nil);
}

pub ends_in_block-nil : ends_in_block [] ≡ false
ends_in_block-nil = ap (list_any is_cut) parts_of-nil

-- ---- one request more

module _ (front gone : List ℕ) (request : Submitted) (w : IsWhole front) where
  one_part : HoldsWhole gone request → parts_of gone ≡ whole request ∷ []
  one_part holds = ap parts_of (sym (append-nil gone)) ∙ holds [] ∙ ap (λ ps. whole request ∷ ps) parts_of-nil

  pub IsWhole-more : HoldsWhole gone request → IsWhole (front ++ gone)
  IsWhole-more holds =
      let one = one_part holds in
      let front_one = w.joins gone ∙ ap (λ ps. parts_of front ++ ps) one in record {
        joins = λ more. ap parts_of (append_assoc front gone more) ∙ w.joins (gone ++ more) ∙ ap (λ ps. parts_of front ++ ps) (holds more)
            ∙ sym (append_assoc (parts_of front) (whole request ∷ []) (parts_of more)) ∙ ap (λ ps. ps ++ parts_of more) (sym front_one);
        whole = ap (filter_map whole_in) front_one ∙ filter_map-append whole_in (parts_of front) (whole request ∷ [])
            ∙ ap (λ rs. rs ++ request ∷ []) w.whole ∙ sym (filter_map-append request_in (parts_of front) (whole request ∷ []))
            ∙ ap (filter_map request_in) (sym front_one);
      }

  module _ {P : Type 0} (part : HoldsWhole gone request ⊎ (P × (parts_of gone ≡ last request ∷ []))) where
    one_request : requests_of gone ≡ request ∷ []
    one_request = elim part [
      | inl holds ↦ ap (filter_map request_in) (one_part holds)
      | inr end ↦ ap (filter_map request_in) end.1
    ]

    pub requests_of-more : requests_of (front ++ gone) ≡ requests_of front ++ request ∷ []
    requests_of-more = requests_of-join front gone w ∙ ap (λ rs. requests_of front ++ rs) one_request

    pub ends_in_block-more : ends_in_block front ≡ false → ends_in_block (front ++ gone) ≡ false
    ends_in_block-more uncut = ends_in_block-join front gone w uncut ∙ (elim part [
      | inl holds ↦ ap (list_any is_cut) (one_part holds)
      | inr end ↦ ap (list_any is_cut) end.1
    ])
