-- The pages that a search over the lists of terms asks for.
use Rattle.std.proofs.Common.{◌≡◌, ℕ, ◌+◌, ◌==◌, Bool, true, false, cond, List, [], ◌∷◌, ◌++◌, map, take, Option, Some, Result, Ok, Err}
use Rattle.std.proofs.Common.{sum_by, refl, ap, ap₂, sym, subst, ◌∙◌, arith}
use Rattle.std.specs.List.{filter, flat_map}
use Rattle.std.proofs.lemmas.List.{append-nil}
use Rattle.std.proofs.lemmas.List.Sums.{sum_by-append}
use Rattle.svr_chunks.specs.Chosen.{chosen_rules}
use Rattle.svr_chunks.specs.declared.chosen.Chosen.{Chosen}
use Rattle.svr_iter.specs.Asked.{AsksByBytes}
use Rattle.svr_iter.specs.declared.fault.ScanFault.{ScanFault}
use Rattle.svr_iter.specs.declared.fault.ScanFault.TheVariants as scan
use Rattle.svr_listing.specs.declared.group.Group.{Group}
use Rattle.svr_listing.specs.Kept.{Ascends}
use Rattle.svr_listing.specs.Listing.{Listing, documents_of, groups_by_bytes, needed, pages_at, pages_of, refs_of}
use Rattle.svr_listing.specs.Methods.{Rules}
use Rattle.svr_listing.specs.Visits.{pages_visited, visited}
use Rattle.svr_listing.specs.declared.pages.Page.{Page}
use Rattle.svr_listing.proofs.ByBytes.{groups_by_bytes-is}
use Rattle.svr_listing.proofs.Needing.{needed-visited}
use Rattle.svr_long.specs.Cursor.{page_pairs, pages_of_key}
use Rattle.svr_num.specs.declared.mode.Mode.{Mode}
use Rattle.svr_postpage.specs.declared.page_ref.PageFault.{PageFault}
use Rattle.svr_postpage.specs.declared.page_ref.PageRef.{PageRef}
use Rattle.svr_index.specs.Asked.{ArePages, AreSame, AsksFor}
use Rattle.svr_index.specs.Index.{Indexed, StandsFor}
use Rattle.svr_index.specs.Layout.{AreListsOf, TermList, pages_of_list}
use Rattle.svr_index.proofs.Searching.{page_pairs-hold}

filter-append : (p : PageRef → Bool) (xs ys : List PageRef) → filter p (xs ++ ys) ≡ filter p xs ++ filter p ys
filter-append p [] ys = refl
filter-append p (x ∷ xs) ys = by (p x) (filter-append p xs ys)
  where
    by : (b : Bool) → filter p (xs ++ ys) ≡ filter p xs ++ filter p ys
        → cond b (x ∷ filter p (xs ++ ys)) (filter p (xs ++ ys)) ≡ cond b (x ∷ filter p xs) (filter p xs) ++ filter p ys
    by true e = ap (λ (l : List PageRef). x ∷ l) e
    by false e = e

-- the pages of a key, list by list, are those of the terms
pages-are : (index : Indexed) (l : Listing) (key : ℕ) (terms : List (List ℕ)) (lists : List TermList) → StandsFor index l
    → AreListsOf index terms lists → flat_map (λ (p : TermList). pages_of_list p key) lists ≡ pages_at l terms key
pages-are index l key [] [] stood are = refl
pages-are index l key [] (p ∷ ps) stood are = absurd are
pages-are index l key (t ∷ ts) [] stood are = absurd are
pages-are index l key (t ∷ ts) (p ∷ ps) stood are =
    ap₂ (λ (a b : List PageRef). a ++ b) (are.0.pages_are key ∙ ap (pages_of_key key) (stood.pages t)) (pages-are index l key ts ps stood are.1)
    ∙ sym (filter-append (λ ref. ref.key == key) (map (λ (page : Page). page.head) (pages_of l.lists t)) (refs_of l ts))

-- ---- each page as often

same-append : (xs ys zs us : List PageRef) → AreSame xs zs → AreSame ys us → AreSame (xs ++ ys) (zs ++ us)
same-append xs ys zs us a b f = sum_by-append f xs ys ∙ ap₂ (λ (m n : ℕ). m + n) (a f) (b f) ∙ sym (sum_by-append f zs us)

pages-front : (l : Listing) (key : ℕ) (term : List ℕ) (before behind : List (List ℕ))
    → AreSame (pages_at l (term ∷ (before ++ behind)) key) (pages_at l (before ++ term ∷ behind) key)
pages-front l key term [] behind f = refl
pages-front l key term (t ∷ ts) behind f =
    let here = λ (x : List ℕ). map (λ (page : Page). page.head) (pages_of l.lists x) in
    let p = λ (ref : PageRef). ref.key == key in
    let rest = pages-front l key term ts behind f in
    let one : sum_by f (filter p (here term ++ refs_of l (ts ++ behind))) ≡ sum_by f (filter p (refs_of l (ts ++ term ∷ behind))) = rest in
    let a = ap (sum_by f) (filter-append p (here term) (here t ++ refs_of l (ts ++ behind)))
    ∙ sum_by-append f (filter p (here term)) (filter p (here t ++ refs_of l (ts ++ behind))) in
    let b = ap (sum_by f) (filter-append p (here t) (refs_of l (ts ++ behind)))
    ∙ sum_by-append f (filter p (here t)) (filter p (refs_of l (ts ++ behind))) in
    let c = ap (sum_by f) (filter-append p (here term) (refs_of l (ts ++ behind)))
    ∙ sum_by-append f (filter p (here term)) (filter p (refs_of l (ts ++ behind))) in
    let d = ap (sum_by f) (filter-append p (here t) (refs_of l (ts ++ term ∷ behind)))
    ∙ sum_by-append f (filter p (here t)) (filter p (refs_of l (ts ++ term ∷ behind))) in
    omega (arith, a, b, c, one, d)

-- the pages of the lists of all terms, one of which stands in front
pub pages-all : (index : Indexed) (l : Listing) (key : ℕ) (terms front behind : List (List ℕ)) (term : List ℕ) (list : TermList)
    (lists : List TermList) (pages : List PageRef) → terms ≡ front ++ term ∷ behind → AreListsOf index (term ∷ (front ++ behind)) (list ∷ lists)
    → pages ≡ flat_map (λ (p : TermList). pages_of_list p key) (list ∷ lists) → StandsFor index l → AreSame pages (pages_at l terms key)
pages-all index l key terms front behind term list lists pages parts are e stood f =
    ap (sum_by f) (e ∙ pages-are index l key (term ∷ (front ++ behind)) (list ∷ lists) stood are)
    ∙ pages-front l key term front behind f
    ∙ ap (λ (ts : List (List ℕ)). sum_by f (pages_at l ts key)) (sym parts)

pub pages-any : (index : Indexed) (l : Listing) (key : ℕ) (terms : List (List ℕ)) (lists : List TermList) (pages : List PageRef)
    → AreListsOf index terms lists → pages ≡ flat_map (λ (p : TermList). pages_of_list p key) lists → StandsFor index l
    → AreSame pages (pages_at l terms key)
pages-any index l key terms lists pages are e stood f = ap (sum_by f) (e ∙ pages-are index l key terms lists stood are)

visited-same : (P Q : ℕ → List PageRef) → ((key : ℕ) → AreSame (P key) (Q key)) → (groups : List Group)
    → AreSame (flat_map (λ (g : Group). P g.key) groups) (flat_map (λ (g : Group). Q g.key) groups)
visited-same P Q same [] f = refl
visited-same P Q same (g ∷ gs) f =
    same-append (P g.key) (flat_map (λ (g : Group). P g.key) gs) (Q g.key) (flat_map (λ (g : Group). Q g.key) gs) (same g.key)
    (visited-same P Q same gs) f

-- ---- the clause

all-asked : {T : Type 0} (result : Result T ScanFault) (asked pages : List PageRef) → AreSame asked pages → ArePages result asked pages
all-asked (Ok value) asked pages same = same
all-asked (Err fault) asked pages same = ([], λ f. ap (sum_by f) (append-nil asked) ∙ same f)

-- memory was wanting before any page was asked for
pub asks-none : {R T : Type 0} (told : Option (List ℕ)) (gives : R → PageRef → R → Type 0) (fails : R → PageRef → PageFault → R → Type 0)
    (index : Indexed) (terms : List (List ℕ)) (m : Mode) (k : ℕ) (score : ℕ → Option ℕ) (reader : R)
    (result : Result T ScanFault) → result ≡ Err scan.Memory
    → AsksFor {R = R} {T = T} told gives fails index terms m k score reader reader result
asks-none {R} {T} told gives fails index terms m k score reader result e =
    subst (λ (r : Result T ScanFault). AsksFor {R = R} {T = T} told gives fails index terms m k score reader reader r) (sym e) (record {
      given = [];
      left = [];
      between = reader;
      in_turn = refl;
      stops = refl;
      visited = λ bytes at l up stood.
          (pages_visited k l.rules.bound score (pages_at l terms) (groups_by_bytes (page_pairs bytes) l terms m), λ f. refl);
      are_needed = λ bytes at tokens l is stood holds. (needed l terms m k score, λ f. refl);
    })

pub asks-for : {R T : Type 0} (told : Option (List ℕ)) (gives : R → PageRef → R → Type 0) (fails : R → PageRef → PageFault → R → Type 0)
    (index : Indexed) (terms : List (List ℕ)) (m : Mode) (k : ℕ) (score : ℕ → Option ℕ) (old new : R) (result : Result T ScanFault)
    (method : Chosen) (pages : ℕ → List PageRef) (groups : List ℕ → List Group)
    → method ≡ index.method
    → ((bytes : List ℕ) (l : Listing) → Ascends (documents_of l) → StandsFor index l → groups bytes ≡ groups_by_bytes (page_pairs bytes) l terms m)
    → ((l : Listing) → StandsFor index l → (key : ℕ) → AreSame (pages key) (pages_at l terms key))
    → AsksByBytes {R = R} {T = T} told gives fails (λ bytes. pages_visited k (chosen_rules method).bound score pages (groups bytes)) old new result
    → AsksFor {R = R} {T = T} told gives fails index terms m k score old new result
asks-for {R} {T} told gives fails index terms m k score old new result method pages groups same_method same_groups same_pages asks = record {
  given = asks.given;
  left = asks.left;
  between = asks.between;
  in_turn = asks.in_turn;
  stops = asks.stops;
  visited = λ bytes at l up stood. all-asked result _ _ (by_groups bytes at l up stood);
  are_needed = λ bytes at tokens l is stood holds. all-asked result _ _ (λ f.
      by_groups bytes at l is.documents.ascend stood f
      ∙ ap (λ (gs : List Group). sum_by f (pages_visited k l.rules.bound score (pages_at l terms) gs))
      (groups_by_bytes-is (page_pairs bytes) l (page_pairs-hold tokens bytes l is holds) is.in_order terms m)
      ∙ needed-visited tokens l is terms m k score f);
}
  where
    by_groups : (bytes : List ℕ) → told ≡ Some bytes → (l : Listing) → Ascends (documents_of l) → StandsFor index l
        → AreSame (asks.given ++ asks.left)
        (pages_visited k l.rules.bound score (pages_at l terms) (groups_by_bytes (page_pairs bytes) l terms m))
    by_groups bytes at l up stood f =
        ap (sum_by f) (asks.are_these bytes at)
        ∙ ap (λ (gs : List Group). sum_by f (pages_visited k (chosen_rules method).bound score pages gs)) (same_groups bytes l up stood)
        ∙ ap (λ (r : Rules). sum_by f (pages_visited k r.bound score pages (groups_by_bytes (page_pairs bytes) l terms m)))
        (ap chosen_rules same_method ∙ stood.rules)
        ∙ visited-same pages (pages_at l terms) (same_pages l stood)
        (take (visited k l.rules.bound score (groups_by_bytes (page_pairs bytes) l terms m)) (groups_by_bytes (page_pairs bytes) l terms m)) f
