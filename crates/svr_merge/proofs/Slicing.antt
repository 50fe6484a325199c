-- A term is sliced.
use Rattle.std.proofs.Common.{◌≡◌, ◌==◌, ◌&&◌, ℕ, Bool, true, false, cond, List, [], ◌∷◌, ◌++◌, map, Option, None, Some, unwrap_or}
use Rattle.std.proofs.Common.{refl, sym, ap, ap₂, subst, ◌∙◌, append-nil, append_assoc, arith}
use Rattle.std.specs.Str.{bytes_eq}
use Rattle.std.proofs.lemmas.Bool.Decides.{nat_tests}
use Rattle.svr_chunks.specs.Chosen.{chosen_rules}
use Rattle.svr_idmap.specs.Ids.{value_at}
use Rattle.svr_listing.specs.Listing.{pages_of}
use Rattle.svr_listing.specs.declared.pages.Page.{Page}
use Rattle.svr_listing.specs.declared.pages.TermPages.{TermPages}
use Rattle.svr_listing.specs.Merges.{Merge, by_bytes, is_after}
use Rattle.svr_listing.proofs.Terms.{after_later, not_before_itself, same_term}
use Rattle.svr_long.specs.Lists.{pages_at}
use Rattle.svr_postpage.specs.declared.page_ref.PageRef.{PageRef}
use Rattle.svr_merge.specs.Layout.{NoLater}
use Rattle.svr_merge.specs.Runs.{PutsPages, Run, StandsForMerge, if_any, pages_under}

turn : (a b : List ℕ) → bytes_eq a b ≡ bytes_eq b a
turn [] [] = refl
turn [] (y ∷ ys) = refl
turn (x ∷ xs) [] = refl
turn (x ∷ xs) (y ∷ ys) = ap₂ (λ (p q : Bool). p && q) (number x y) (turn xs ys)
  where
    number : (n m : ℕ) → (n == m) ≡ (m == n)
    number n m = grind (arith, nat_tests)

-- no later term has pages then
pub no_later-put : (last : Option (List ℕ)) (term : List ℕ) (old new : List (List ℕ × List PageRef)) (pages : List PageRef)
    → NoLater last old → is_after last term ≡ true → PutsPages old new term pages → NoLater (Some term) new
no_later-put last term old new pages none after puts t later = puts t ∙ by (bytes_eq term t) refl
  where
    by : (b : Bool) → bytes_eq term t ≡ b → cond b (if_any pages) (pages_at old t) ≡ None
    by true e =
        let itself : by_bytes term term ≡ true = subst (λ (s : List ℕ). by_bytes term s ≡ true) (sym (same_term term t e)) later in
        absurd (let never = not_before_itself term in cc)
    by false e = none t (after_later last term t after later)

-- ---- a run stands for the merge that has the term and its pages more

refs-append : (xs ys : List Page) → map (λ (p : Page). p.head) (xs ++ ys) ≡ map (λ (p : Page). p.head) xs ++ map (λ (p : Page). p.head) ys
refs-append [] ys = refl
refs-append (x ∷ xs) ys = ap (λ (l : List PageRef). x.head ∷ l) (refs-append xs ys)

refs-more : (lists : List TermPages) (list : TermPages) (t : List ℕ)
    → map (λ (p : Page). p.head) (pages_of (lists ++ (list ∷ [])) t)
    ≡ map (λ (p : Page). p.head) (pages_of lists t) ++ cond (bytes_eq t list.term) (map (λ (p : Page). p.head) list.pages) []
refs-more [] list t = by (bytes_eq t list.term)
  where
    by : (b : Bool) → map (λ (p : Page). p.head) (cond b list.pages [] ++ []) ≡ cond b (map (λ (p : Page). p.head) list.pages) []
    by true = ap (map (λ (p : Page). p.head)) (append-nil list.pages)
    by false = refl
refs-more (x ∷ lists) list t = by (bytes_eq t x.term) (refs-more lists list t)
  where
    by : (b : Bool) → map (λ (p : Page). p.head) (pages_of (lists ++ (list ∷ [])) t)
        ≡ map (λ (p : Page). p.head) (pages_of lists t) ++ cond (bytes_eq t list.term) (map (λ (p : Page). p.head) list.pages) []
        → map (λ (p : Page). p.head) (cond b x.pages [] ++ pages_of (lists ++ (list ∷ [])) t)
        ≡ map (λ (p : Page). p.head) (cond b x.pages [] ++ pages_of lists t)
        ++ cond (bytes_eq t list.term) (map (λ (p : Page). p.head) list.pages) []
    by true e =
        refs-append x.pages (pages_of (lists ++ (list ∷ [])) t)
        ∙ ap (λ (l : List PageRef). map (λ (p : Page). p.head) x.pages ++ l) e
        ∙ sym (append_assoc (map (λ (p : Page). p.head) x.pages) (map (λ (p : Page). p.head) (pages_of lists t))
        (cond (bytes_eq t list.term) (map (λ (p : Page). p.head) list.pages) []))
        ∙ ap (λ (l : List PageRef). l ++ cond (bytes_eq t list.term) (map (λ (p : Page). p.head) list.pages) [])
        (sym (refs-append x.pages (pages_of lists t)))
    by false e = e

under-if_any : (pages : List PageRef) → unwrap_or (if_any pages) [] ≡ pages
under-if_any [] = refl
under-if_any (page ∷ pages) = refl

-- what a slice of one more term, which has no pages yet, does to a run
pub record Slices (old new : Run) (term : List ℕ) (pages : List PageRef) : Type 0 where
  pub absent : pages_at old.lists term ≡ None
  pub last : new.last ≡ Some term
  pub pages_put : PutsPages old.lists new.lists term pages
  pub kept : new ≡ record old { last = new.last; lists = new.lists }

pub stands-sliced : (m : Merge) (list : TermPages) (old new : Run) (pages : List PageRef) → StandsForMerge old m
    → Slices old new list.term pages → pages ≡ map (λ page. page.head) list.pages
    → StandsForMerge new (record { rules = m.rules; keys = m.keys; last = Some list.term; lists = m.lists ++ (list ∷ []) })
stands-sliced m list old new pages was slices are = record {
  rules = ap (λ (r : Run). chosen_rules r.method) slices.kept ∙ was.rules;
  keys = λ id. ap (λ (r : Run). value_at r.keys id) slices.kept ∙ was.keys id;
  last = slices.last;
  pages = λ t.
      ap (λ (o : Option (List PageRef)). unwrap_or o []) (slices.pages_put t)
      ∙ by t (bytes_eq list.term t) refl
      ∙ sym (refs-more m.lists list t);
}
  where
    none_yet : (t : List ℕ) → list.term ≡ t → map (λ (page : Page). page.head) (pages_of m.lists t) ≡ []
    none_yet t same =
        sym (was.pages t)
        ∙ subst (λ (s : List ℕ). pages_under old.lists s ≡ []) same (ap (λ (o : Option (List PageRef)). unwrap_or o []) slices.absent)

    by : (t : List ℕ) (b : Bool) → bytes_eq list.term t ≡ b → unwrap_or (cond b (if_any pages) (pages_at old.lists t)) []
        ≡ map (λ (page : Page). page.head) (pages_of m.lists t)
        ++ cond (bytes_eq t list.term) (map (λ (page : Page). page.head) list.pages) []
    by t true e =
        under-if_any pages ∙ are
        ∙ ap₂ (λ (refs : List PageRef) (b : Bool). refs ++ cond b (map (λ (page : Page). page.head) list.pages) [])
        (sym (none_yet t (same_term list.term t e))) (sym (turn t list.term ∙ e))
    by t false e =
        was.pages t
        ∙ sym (append-nil (map (λ (page : Page). page.head) (pages_of m.lists t)))
        ∙ ap (λ (b : Bool). map (λ (page : Page). page.head) (pages_of m.lists t)
        ++ cond b (map (λ (page : Page). page.head) list.pages) []) (sym (turn t list.term ∙ e))
