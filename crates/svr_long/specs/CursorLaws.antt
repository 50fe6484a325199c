-- What a cursor over pages keeps.
use Rattle.std.proofs.Common.{◌≡◌, ◌<◌, ◌≤◌, ◌==◌, ℕ, Bool, true, false, cond, List, [], ◌∷◌, ◌++◌, Option, Some, None, refl, sym, ap, ap₂, subst, ◌∙◌, ◌&&◌, length, nat_le, arith}
use Rattle.std.specs.List.{AllByRecursion, list_all}
use Rattle.svr_iter.specs.MemPairs.{IsPaged, before_low, grouped, grouped-lawful, in_range, paged, with_pair}
use Rattle.svr_iter.specs.Marks.{every}
use Rattle.svr_iter.specs.Taking.{IsLess}
use Rattle.svr_iter.specs.Truths.{and_left, and_right, eq_from, eq_less}
use Rattle.svr_listing.specs.Groups.{AreGroups, first_key}
use Rattle.svr_listing.specs.declared.group.Group.{Group}
use Rattle.svr_postpage.specs.Pages.{bytes_at, page_in, pairs_of, pairs_or_none}
use Rattle.svr_postpage.proofs.Spelling.{page_bytes-page_in}
use Rattle.svr_postpage.specs.Pairs.{are_in_order, fill_a_page, first_pair, is_in_range, ref_of}
use Rattle.svr_postpage.specs.Wanted.{has_head_of, pairs_with_head}
use Rattle.svr_postpage.specs.declared.page_ref.PageRef.{PageRef}
use Rattle.svr_postpage.specs.declared.pair.Pair.{Pair}
use Rattle.svr_long.specs.Cursor.{first_key_of, or_first, page_pairs, pages_of_key, pairs_left}
use Rattle.svr_long.specs.Heads.{are_paged, heads}
use Rattle.svr_long.specs.Layout.{IsPageOf}
use Rattle.svr_long.specs.PagedLaws.{Behind, IsPaged-from, IsPaged-left, IsRead, begin-from, order-to, range-to}

-- the first group has the key of the first pair
first_with : (p : Pair) (gs : List Group) → first_key (with_pair p gs) ≡ Some p.key
first_with p [] = refl
first_with p (g ∷ gs) = by (g.key == p.key) refl
  where
    by : (b : Bool) → (g.key == p.key) ≡ b
        → first_key (cond b (record { key = p.key; ids = p.id ∷ g.ids } ∷ gs) (record { key = p.key; ids = p.id ∷ [] } ∷ g ∷ gs)) ≡ Some p.key
    by true e = refl
    by false e = refl

pub first_key-grouped : (ps : List Pair) → first_key (grouped ps) ≡ first_key_of ps
first_key-grouped [] = refl
first_key-grouped (p ∷ ps) = first_with p (grouped ps)

-- pages hold the same first key as they begin with
module _ (told : List ℕ) (is : (page : PageRef) → is_in_range (first_pair page) ≡ true → IsRead page (page_pairs told page)) where
  pub first_key-left : (ps : List Pair) (pages : List PageRef) → IsPaged (ps ++ heads pages)
      → first_key_of (pairs_left told ps pages) ≡ first_key_of (ps ++ heads pages)
  first_key-left (p ∷ ps) pages h = refl
  first_key-left [] [] h = refl
  first_key-left [] (page ∷ pages) h = ap first_key_of (begin-from (page_pairs told) is page pages h)

  pub lawful-left : (ps : List Pair) (pages : List PageRef) → are_paged (ps ++ heads pages) ≡ true
      → AreGroups every (first_key_of (ps ++ heads pages)) (grouped (pairs_left told ps pages))
  lawful-left ps pages e =
      let h = IsPaged-from (ps ++ heads pages) e in
      let all : IsPaged (pairs_left told ps pages) = IsPaged-left (page_pairs told) is ps pages h in
      let groups = grouped-lawful 0 (pairs_left told ps pages) (range-to _ all) (order-to _ all) in
      subst (λ (key : Option ℕ). AreGroups every key (grouped (pairs_left told ps pages)))
      (first_key-grouped (pairs_left told ps pages) ∙ first_key-left ps pages h) groups

-- ---- what a page holds begins with its first pair

fill_parts : (ps : List Pair) → fill_a_page ps ≡ true → (list_all is_in_range ps ≡ true) × (are_in_order ps ≡ true)
fill_parts ps e =
    let more : (nat_le (length ps) 255 && (list_all is_in_range ps && are_in_order ps)) ≡ true = and_right _ _ e in
    let both : (list_all is_in_range ps && are_in_order ps) ≡ true = and_right _ _ more in
    (and_left _ _ both, and_right _ _ both)

pub fill-paged : (ps : List Pair) → fill_a_page ps ≡ true → IsPaged ps
fill-paged ps e = let parts = fill_parts ps e in paged ps parts.0 parts.1

alone : (page : PageRef) → is_in_range (first_pair page) ≡ true → IsRead page (first_pair page ∷ [])
alone page fits = record { others = []; begin = refl; paged = (in_range (first_pair page) fits, (tt, tt)) }

pub is_read : (page : PageRef) (pairs : List Pair) → IsPageOf page pairs → IsRead page pairs
is_read page [] is = absurd (let e = is.fill in cc)
is_read page (p ∷ ps) is =
    let key : page.key ≡ p.key = eq_from page.key p.key (and_left _ _ is.head) in
    let id : page.id ≡ p.id = eq_from page.id p.id (and_left _ _ (and_right _ _ is.head)) in
    record {
      others = ps;
      begin = ap₂ (λ (k i : ℕ). record { key = k; id = i } ∷ ps) (sym key) (sym id);
      paged = fill-paged (p ∷ ps) is.fill;
    }

or_first_read : (page : PageRef) (pairs : List Pair) → is_in_range (first_pair page) ≡ true → IsPageOf page pairs
    → IsRead page (or_first page pairs)
or_first_read page [] fits is = alone page fits
or_first_read page (p ∷ ps) fits is = is_read page (p ∷ ps) is

pub read_told : (told : List ℕ) (page : PageRef) → is_in_range (first_pair page) ≡ true → IsRead page (page_pairs told page)
read_told told page fits = by (page_in (bytes_at told page.at)) refl
  where
    by : (o : Option (List Pair)) → page_in (bytes_at told page.at) ≡ o → IsRead page (or_first page (pairs_with_head page o))
    by None e = alone page fits
    by (Some pairs) e = with (has_head_of page (ref_of page.at pairs)) refl
      where
        with : (b : Bool) → has_head_of page (ref_of page.at pairs) ≡ b → IsRead page (or_first page (cond b pairs []))
        with false f = alone page fits
        with true f = or_first_read page pairs fits (record { fill = (page_bytes-page_in _ pairs e).0; head = f })

-- the pairs of a page by the bytes told, where it is no page or begins as wanted
pub told-pairs : (page : PageRef) (pairs : List Pair) → IsPageOf page pairs → or_first page pairs ≡ pairs
told-pairs page [] is = absurd (let e = is.fill in cc)
told-pairs page (p ∷ ps) is = refl

pub paged_bytes : (bytes : List ℕ) → IsPaged (pairs_of bytes)
paged_bytes bytes = by (page_in bytes) refl
  where
    by : (o : Option (List Pair)) → page_in bytes ≡ o → IsPaged (pairs_or_none o)
    by None e = tt
    by (Some pairs) e = fill-paged pairs (page_bytes-page_in bytes pairs e).0

pub cursor-lawful : (told : List ℕ) (ps : List Pair) (pages : List PageRef) → are_paged (ps ++ heads pages) ≡ true
    → AreGroups every (first_key_of (ps ++ heads pages)) (grouped (pairs_left told ps pages))
cursor-lawful told ps pages e = lawful-left told (read_told told) ps pages e

-- ---- keys descend

pub low-behind : (p : Pair) (ps : List Pair) → Behind p ps → AllByRecursion (λ (q : Pair). q.key ≤ p.key) ps
low-behind p [] b = tt
low-behind p (q ∷ ps) b = (before_low p q b.0, low-behind p ps b.1)

pub none-of_key : (key : ℕ) (pages : List PageRef) → AllByRecursion (λ (q : Pair). q.key < key) (heads pages) → pages_of_key key pages ≡ []
none-of_key key [] all = refl
none-of_key key (page ∷ pages) all =
    ap (λ (b : Bool). cond b (page ∷ pages_of_key key pages) (pages_of_key key pages)) (eq_less page.key key all.0)
    ∙ none-of_key key pages all.1

below_all : (bound key : ℕ) (ps : List Pair) → bound < key → AllByRecursion (λ (q : Pair). q.key ≤ bound) ps
    → AllByRecursion (λ (q : Pair). q.key < key) ps
below_all bound key [] lt all = tt
below_all bound key (p ∷ ps) lt all = (let le = all.0 in omega (arith, le), below_all bound key ps lt all.1)

pub all-less : (key : ℕ) (ps : List Pair) → IsPaged ps → IsLess (first_key_of ps) (Some key) → AllByRecursion (λ (q : Pair). q.key < key) ps
all-less key [] h less = tt
all-less key (p ∷ ps) h less = (less, below_all p.key key ps less (low-behind p ps h.1.0))

less_behind : (key : ℕ) (ps qs : List Pair) → AllByRecursion (λ (q : Pair). q.key < key) (ps ++ qs) → AllByRecursion (λ (q : Pair). q.key < key) qs
less_behind key [] qs all = all
less_behind key (p ∷ ps) qs all = less_behind key ps qs all.1

pub cursor-gone : (key : ℕ) (ps : List Pair) (pages : List PageRef) → are_paged (ps ++ heads pages) ≡ true
    → IsLess (first_key_of (ps ++ heads pages)) (Some key) → pages_of_key key pages ≡ []
cursor-gone key ps pages e less =
    none-of_key key pages (less_behind key ps (heads pages) (all-less key (ps ++ heads pages) (IsPaged-from _ e) less))
