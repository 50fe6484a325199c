-- What a search answers, by the documents of a catalog.
use Rattle.std.proofs.Common.{◌≡◌, ℕ, List, map, filter, Option, Result, Ok, Err, IfOk, ap, ap₂, sym, subst, ◌∙◌}
use Rattle.std.specs.Option.{ForSome}
use Rattle.std.proofs.Math.Path.{fun_ext}
use Rattle.std.proofs.lemmas.Result.{IfOk-weaker}
use Rattle.svr_iter.specs.declared.fault.ScanFault.{ScanFault}
use Rattle.svr_lists.specs.Lists.{ListsValue}
use Rattle.svr_index.specs.Search.{AnswersBy, FindsBest}
use Rattle.svr_listing.specs.declared.document.Document.{Document}
use Rattle.svr_listing.specs.Listing.{groups_by_bytes, groups_of, hit_of, matches, score_in}
use Rattle.svr_listing.specs.Visits.{IsAnswer, visited}
use Rattle.svr_listing.proofs.ByBytes.{groups_by_bytes-is}
use Rattle.svr_num.specs.Hits.{best_hits}
use Rattle.svr_num.specs.declared.hit.Hit.{Hit}
use Rattle.svr_num.specs.declared.mode.Mode.{Mode}
use Rattle.svr_postpage.specs.Wanted.{pairs_told}
use Rattle.svr_rows.specs.Rows.{TableRows}
use Rattle.svr_schema.specs.declared.schema.Schema.{Schema}
use Rattle.svr_tokens.specs.Tokens.{tokens_of}
use Rattle.svr_topk.specs.declared.search.Answer.{Answer}
use Rattle.svr_view.specs.View.{StandsFor, Viewed, score_in as kept_score}
use Rattle.svr_catalog.specs.Answers.{AnswersByBytes, AnswersExactly}
use Rattle.svr_catalog.specs.Catalog.{documents_in}
use Rattle.svr_catalog.specs.Layout.{documents_from}
use Rattle.svr_catalog.specs.Stands.{CatalogValue}
use Rattle.svr_catalog.proofs.Rows.{score_in-documents}

-- the kept scores are those of the documents
pub scores-are : (s : Schema) (tables : List TableRows) (v : Viewed) → StandsFor s tables v
    → (λ (id : ℕ). kept_score v id) ≡ score_in (documents_from s tables)
scores-are s tables v stands = fun_ext (λ id. stands.scores id ∙ sym (score_in-documents s tables id))

module _ (v : CatalogValue) (terms : List (List ℕ)) (m : Mode) (k : ℕ) (bytes : List ℕ) (answer : Answer) where
  -- by the bytes told
  pub answers-by : AnswersBy v.lists.index terms m k (score_in (documents_in v.catalog)) bytes answer.hits answer.groups
      → AnswersByBytes v terms m k bytes answer
  answers-by by = λ s stands. by s.listing stands.served.listing.documents.ascend stands.lists.index

  -- where they hold the posted pairs
  pub answers-exactly : AnswersBy v.lists.index terms m k (score_in (documents_in v.catalog)) bytes answer.hits answer.groups
      → FindsBest v.lists.index terms m k (score_in (documents_in v.catalog)) bytes answer.hits → AnswersExactly v terms m k bytes answer
  answers-exactly by best = λ s stands holds.
      let found : IsAnswer k s.listing.rules.bound (score_in (documents_in v.catalog)) (groups_by_bytes (pairs_told bytes) s.listing terms m)
      answer.hits answer.groups = answers-by by s stands in
      let hits : answer.hits ≡ best_hits k (map hit_of (filter (matches m terms) (documents_in v.catalog))) =
      best tokens_of s.listing stands.served.listing stands.lists.index holds
      (λ id. ap (λ (ds : List Document). score_in ds id) (sym stands.documents))
      ∙ ap (λ (ds : List Document). best_hits k (map hit_of (filter (matches m terms) ds))) stands.documents in
      let groups : answer.groups ≡ visited k s.listing.rules.bound (score_in (documents_in v.catalog)) (groups_of s.listing terms m) =
      found.least
      ∙ ap (visited k s.listing.rules.bound (score_in (documents_in v.catalog)))
      (groups_by_bytes-is (pairs_told bytes) s.listing holds stands.served.listing.in_order terms m) in
      ap₂ (λ (hs : List Hit) (n : ℕ). record { hits = hs; groups = n }) hits groups

ok-both : {T E : Type 0} (P Q R : T → Type 0) (r : Result T E) → ((x : T) → P x → Q x → R x) → IfOk r P → IfOk r Q → IfOk r R
ok-both P Q R (Ok x) then p q = then x p q
ok-both P Q R (Err e) then p q = tt

-- what a search among lists at these scores answers, by the bytes told, if they are
module _ (s : Schema) (tables : List TableRows) (lists : ListsValue) (kept : Viewed) (stands : StandsFor s tables kept)
    (terms : List (List ℕ)) (m : Mode) (k : ℕ) (told : Option (List ℕ)) (r : Result Answer ScanFault) where
  abbrev here : CatalogValue
  here = record { catalog = record { schema = s; tables = tables }; lists = lists }

  abbrev By : (ℕ → Option ℕ) → Type 0
  By score = IfOk r (λ answer. ForSome told (λ bytes. AnswersBy lists.index terms m k score bytes answer.hits answer.groups))

  abbrev Best : (ℕ → Option ℕ) → Type 0
  Best score = IfOk r (λ answer. ForSome told (λ bytes. FindsBest lists.index terms m k score bytes answer.hits))

  pub search-by : By (λ (id : ℕ). kept_score kept id) → IfOk r (λ answer. ForSome told (λ bytes. AnswersByBytes here terms m k bytes answer))
  search-by by =
      IfOk-weaker r _ _ (λ answer is bytes tells. answers-by here terms m k bytes answer (is bytes tells))
      (subst By (scores-are s tables kept stands) by)

  pub search-exact : By (λ (id : ℕ). kept_score kept id) → Best (λ (id : ℕ). kept_score kept id)
      → IfOk r (λ answer. ForSome told (λ bytes. AnswersExactly here terms m k bytes answer))
  search-exact by best =
      ok-both _ _ _ r (λ answer is found bytes tells. answers-exactly here terms m k bytes answer (is bytes tells) (found bytes tells))
      (subst By (scores-are s tables kept stands) by) (subst Best (scores-are s tables kept stands) best)
