-- What a search answers, and which pages it asks for, by what is served.
use Rattle.std.proofs.Common.{◌≡◌, true, ℕ, List, Option, Some, Result, Ok, Err, IfOk, sym, ap, subst, ◌∙◌, ◌++◌}
use Rattle.std.specs.Option.{ForSome, option_map}
use Rattle.svr_catalog.specs.Answers.{answer_of}
use Rattle.svr_catalog.specs.Catalog.{Catalog, documents_in}
use Rattle.svr_catalog.specs.Stands.{CatalogValue, Stands}
use Rattle.svr_index.specs.Asked.{ArePages, AsksFor}
use Rattle.svr_iter.specs.declared.fault.ScanFault.{ScanFault}
use Rattle.svr_listing.specs.declared.document.Document.{Document}
use Rattle.svr_listing.specs.Kept.{HoldsPosted}
use Rattle.svr_listing.specs.Listing.{needed, score_in}
use Rattle.svr_listing.specs.Served as listing
use Rattle.svr_num.specs.declared.mode.Mode.{Mode}
use Rattle.svr_postpage.specs.Wanted.{pairs_told}
use Rattle.svr_postpage.specs.declared.page_ref.PageFault.{PageFault}
use Rattle.svr_postpage.specs.declared.page_ref.PageRef.{PageRef}
use Rattle.svr_tokens.specs.Tokens.{tokens_of}
use Rattle.svr_topk.specs.declared.search.Answer.{Answer}
use Rattle.svr_core.specs.declared.queries.Query.{Query}
use Rattle.svr_core.specs.Answers.{answer_by, answer_in}
use Rattle.svr_core.specs.Asked.{AsksNeeded}
use Rattle.svr_core.specs.Kept.{CoreValue, ServesAs}
use Rattle.svr_core.specs.State.{Served}

module _ (core : CoreValue) (v : CatalogValue) (kept : core.kept ≡ Some v) where
  catalog_is : (s : Served) → ServesAs core s → Some v.catalog ≡ s.catalog
  catalog_is s serves = sym (ap (option_map (λ (w : CatalogValue). w.catalog)) kept) ∙ serves.catalog

  pub answered : (told : Option (List ℕ)) (result : Result Answer ScanFault) (terms : List (List ℕ)) (m : Mode) (k : ℕ)
      → IfOk result (λ answer. ForSome told (λ bytes. (l : listing.Served) → Stands v l → HoldsPosted (pairs_told bytes) l.listing
      → answer ≡ answer_of v.catalog l.listing terms m k))
      → IfOk result (λ answer. ForSome told (λ bytes. (s : Served) → ServesAs core s → s.lawful ≡ true → HoldsPosted (pairs_told bytes) s.listed.listing
      → answer ≡ answer_in s terms m k))
  answered told (Err why) terms m k exact = tt
  answered told (Ok answer) terms m k exact = λ bytes tells s serves lawful holds.
      exact bytes tells s.listed (serves.lists lawful v kept) holds
      ∙ ap (λ (o : Option Catalog). answer_by o s.listed terms m k) (catalog_is s serves)

  pub asked : {R : Type 0} (told : Option (List ℕ)) (gives : R → PageRef → R → Type 0) (fails : R → PageRef → PageFault → R → Type 0)
      (q : Query) (old new : R) (result : Result Answer ScanFault)
      → AsksFor told gives fails v.lists.index q.terms q.mode q.k (score_in (documents_in v.catalog)) old new result
      → AsksNeeded told gives fails core q old new result
  asked told gives fails q old new result asks = record {
    given = asks.given;
    left = asks.left;
    between = asks.between;
    in_turn = asks.in_turn;
    stops = asks.stops;
    are_needed = λ bytes tells s serves lawful holds.
        let stands = serves.lists lawful v kept in
        let l = s.listed.listing in
        subst (λ (ds : List Document). ArePages result (asks.given ++ asks.left) (needed l q.terms q.mode q.k (score_in ds))) (sym stands.documents)
        (asks.are_needed bytes tells tokens_of l stands.served.listing stands.lists.index holds);
  }
