-- Which listing a catalog stands for after changes.
use Rattle.std.proofs.Common.{◌≡◌, ℕ, List, [], ◌∷◌, ◌++◌, reverse, map, refl, ap, sym, subst, ◌∙◌}
use Rattle.std.proofs.lemmas.List.{reverse-append}
use Rattle.svr_chunks.specs.Chosen.{chosen_lawful}
use Rattle.svr_listing.specs.Methods.{AreLawful}
use Rattle.svr_listing.specs.Served.{Served, change, nothing_listed}
use Rattle.svr_listing.proofs.Changing.{documents-changed}
use Rattle.svr_listing.proofs.Serving.{after-keeps, nothing-is}
use Rattle.svr_lists.specs.Lists.{ListsValue, StandsForServed}
use Rattle.svr_merge.specs.Rules.{rules_for}
use Rattle.svr_rows.specs.Changes.{changed, inserted}
use Rattle.svr_rows.specs.Rows.{TableRows, no_rows}
use Rattle.svr_rows.specs.declared.change.Change.TheVariants.{Insert}
use Rattle.svr_rows.specs.declared.row.Row.{Row}
use Rattle.svr_rows.proofs.Laws.{inserted-more}
use Rattle.svr_schema.specs.declared.schema.Schema.{Schema}
use Rattle.svr_tokens.specs.Tokens.{tokens_of}
use Rattle.svr_view.specs.View.{AreTablesOf}
use Rattle.svr_catalog.specs.Catalog.{Catalog, catalog_with, catalog_with_rows}
use Rattle.svr_catalog.specs.declared.contents.Contents.{Contents}
use Rattle.svr_catalog.specs.Layout.{Carries, CarriesRows, documents_from, value_of}
use Rattle.svr_catalog.specs.Listed.{listed_after, listed_with_rows}
use Rattle.svr_catalog.specs.Stands.{Stands}
use Rattle.svr_catalog.proofs.Rows.{documents-are, documents-no_rows}

-- a new catalog stands for nothing listed
pub stands-new : (s : Schema) (tables : List TableRows) (v : ListsValue) → tables ≡ map no_rows s.tables
    → StandsForServed v (nothing_listed (rules_for s.method []))
    → Stands (record { catalog = record { schema = s; tables = tables }; lists = v }) (nothing_listed (rules_for s.method []))
stands-new s tables v same stands = record {
  served = nothing-is tokens_of (rules_for s.method []) (subst AreLawful stands.index.rules (chosen_lawful v.index.method));
  documents = sym (ap (documents_from s) same ∙ documents-no_rows s);
  lists = stands;
}

-- after a change it stands for the listing of the documents after it
pub stands-carried : (s : Schema) (tables now : List TableRows) (old new : ListsValue) → AreTablesOf s now
    → Carries (documents_from s tables) (documents_from s now) old new → (served : Served)
    → Stands (record { catalog = record { schema = s; tables = tables }; lists = old }) served
    → Stands (record { catalog = record { schema = s; tables = now }; lists = new })
    (listed_after (record { schema = s; tables = now }) served)
stands-carried s tables now old new of carries served stood = record {
  served = after-keeps tokens_of served (change (documents_from s now)) stood.served (documents-are s now of);
  documents = documents-changed served.listing.rules served.listing.documents (documents_from s now);
  lists = carries served stood.served stood.documents stood.lists;
}

-- a row more
pub listed_with_rows-more : (c : Catalog) (s : Served) (at : ℕ) (rows : List Row) (row : Row)
    → listed_with_rows c s at (rows ++ row ∷ [])
    ≡ listed_after (catalog_with (catalog_with_rows c at rows) (Insert at row)) (listed_with_rows c s at rows)
unfolding listed_with_rows inserted
listed_with_rows-more c s at [] row = refl
listed_with_rows-more c s at (r ∷ rows) row =
    listed_with_rows-more (catalog_with c (Insert at r)) (listed_after (catalog_with c (Insert at r)) s) at rows row

pub listed_with_rows-none : (c : Catalog) (s : Served) (at : ℕ) → listed_with_rows c s at [] ≡ s
unfolding listed_with_rows
listed_with_rows-none c s at = refl

pub inserted-none : (tables : List TableRows) (place : ℕ) → inserted tables place [] ≡ tables
unfolding inserted
inserted-none tables place = refl

-- the next row, where the rest stands in reverse
pub next_row : (front rest all : List Row) (row : Row) → front ++ reverse (rest ++ row ∷ []) ≡ all → front ++ row ∷ reverse rest ≡ all
next_row front rest all row h = ap (λ (rs : List Row). front ++ rs) (sym (reverse-append rest (row ∷ []))) ∙ h

-- a row more is inserted
pub rows-carried : (s : Schema) (first old new : Contents) (at : ℕ) (rows : List Row) (row : Row)
    → new.tables ≡ inserted first.tables at (rows ++ row ∷ []) → AreTablesOf s new.tables
    → Carries (documents_from s old.tables) (documents_from s new.tables) old.lists new.lists → CarriesRows s first old at rows
    → CarriesRows s first new at (rows ++ row ∷ [])
rows-carried s first old new at rows row is of carries before served stood =
    let c : Catalog = record { schema = s; tables = first.tables } in
    let tables : new.tables ≡ changed (inserted first.tables at rows) (Insert at row) = is ∙ inserted-more first.tables at rows row in
    let next = stands-carried s old.tables new.tables old.lists new.lists of carries (listed_with_rows c served at rows)
    (before served stood) in
    subst (Stands (value_of s new))
    (ap (λ (ts : List TableRows). listed_after (record { schema = s; tables = ts }) (listed_with_rows c served at rows)) tables
    ∙ sym (listed_with_rows-more c served at rows row)) next
