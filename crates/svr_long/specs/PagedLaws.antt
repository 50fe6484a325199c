-- Pairs in page order, and those that pages hold, as laws need them.
use Rattle.std.proofs.Common.{◌≡◌, ◌<◌, ◌^◌, ◌&&◌, Bool, true, false, cond, List, [], ◌∷◌, ◌++◌, refl, sym, ap, subst, ◌∙◌}
use Rattle.std.specs.List.{AllByRecursion, list_all}
use Rattle.svr_iter.specs.MemPairs.{IsPaged, before_all, in_range}
use Rattle.svr_iter.specs.Truths.{and_left, and_right, both_true, lt_true}
use Rattle.svr_postpage.specs.Pairs.{are_in_order, first_pair, is_before, is_in_range}
use Rattle.svr_postpage.specs.declared.page_ref.PageRef.{PageRef}
use Rattle.svr_postpage.specs.declared.pair.Pair.{Pair}
use Rattle.svr_long.specs.Cursor.{is_ahead, kept, pairs_from}
use Rattle.svr_long.specs.Heads.{are_paged, heads, is_before_all}

-- all of these stand behind a pair
abbrev pub Behind : Pair → List Pair → Type 0
Behind p ps = AllByRecursion (λ q. is_before p q ≡ true) ps

pub IsPaged-from : (ps : List Pair) → are_paged ps ≡ true → IsPaged ps
IsPaged-from [] e = tt
IsPaged-from (p ∷ []) e = (in_range p (and_left _ _ e), (tt, tt))
IsPaged-from (p ∷ q ∷ ps) e =
    let more : (is_before p q && are_paged (q ∷ ps)) ≡ true = and_right _ _ e in
    let rest : IsPaged (q ∷ ps) = IsPaged-from (q ∷ ps) (and_right _ _ more) in
    let here : is_before p q ≡ true = and_left _ _ more in
    (in_range p (and_left _ _ e), ((here, before_all p q ps here rest.1.0), rest))

fits_from : (p : Pair) → (p.key < 2 ^ 48) × (p.id < 2 ^ 63) → is_in_range p ≡ true
fits_from p fits = both_true _ _ (lt_true p.key (2 ^ 48) fits.0) (lt_true p.id (2 ^ 63) fits.1)

first_behind : (p : Pair) (ps : List Pair) → Behind p ps → is_before_all p ps ≡ true
first_behind p [] b = refl
first_behind p (q ∷ ps) b = b.0

pub are_paged-to : (ps : List Pair) → IsPaged ps → are_paged ps ≡ true
are_paged-to [] h = refl
are_paged-to (p ∷ ps) h =
    both_true _ _ (fits_from p h.0) (both_true _ _ (first_behind p ps h.1.0) (are_paged-to ps h.1.1))

pub range-to : (ps : List Pair) → IsPaged ps → list_all is_in_range ps ≡ true
range-to [] h = refl
range-to (p ∷ ps) h = both_true _ _ (fits_from p h.0) (range-to ps h.1.1)

pub order-to : (ps : List Pair) → IsPaged ps → are_in_order ps ≡ true
order-to [] h = refl
order-to (p ∷ []) h = refl
order-to (p ∷ q ∷ ps) h = both_true _ _ h.1.0.0 (order-to (q ∷ ps) h.1.1)

-- ---- put together

pub all-behind : (P : Pair → Type 0) (xs ys : List Pair) → AllByRecursion P (xs ++ ys) → AllByRecursion P ys
all-behind P [] ys all = all
all-behind P (x ∷ xs) ys all = all-behind P xs ys all.1

pub all-both : (P : Pair → Type 0) (xs ys : List Pair) → AllByRecursion P xs → AllByRecursion P ys → AllByRecursion P (xs ++ ys)
all-both P [] ys a b = b
all-both P (x ∷ xs) ys a b = (a.0, all-both P xs ys a.1 b)

pub all-front : (P : Pair → Type 0) (xs ys : List Pair) → AllByRecursion P (xs ++ ys) → AllByRecursion P xs
all-front P [] ys all = tt
all-front P (x ∷ xs) ys all = (all.0, all-front P xs ys all.1)

pub IsPaged-behind : (xs ys : List Pair) → IsPaged (xs ++ ys) → IsPaged ys
IsPaged-behind [] ys h = h
IsPaged-behind (x ∷ xs) ys h = IsPaged-behind xs ys h.1.1

-- other pairs behind, which begin with the same pair
pub IsPaged-join : (xs : List Pair) (q : Pair) (ys zs : List Pair) → IsPaged (xs ++ q ∷ ys) → IsPaged (q ∷ zs) → IsPaged (xs ++ q ∷ zs)
IsPaged-join [] q ys zs h other = other
IsPaged-join (x ∷ xs) q ys zs h other =
    let here : is_before x q ≡ true = (all-behind (λ r. is_before x r ≡ true) xs (q ∷ ys) h.1.0).0 in (
      h.0,
      (
        all-both (λ r. is_before x r ≡ true) xs (q ∷ zs) (all-front (λ r. is_before x r ≡ true) xs (q ∷ ys) h.1.0)
            (here, before_all x q zs here other.1.0),
        IsPaged-join xs q ys zs h.1.1 other,
      ),
    )

-- the pairs of a page that are kept, in front of others that stand behind each of them
kept-all : (P : Pair → Type 0) (pages : List PageRef) (ps : List Pair) → AllByRecursion P ps → AllByRecursion P (kept pages ps)
kept-all P pages [] all = tt
kept-all P pages (p ∷ ps) all = by (is_ahead pages p) (kept-all P pages ps all.1)
  where
    by : (b : Bool) → AllByRecursion P (kept pages ps) → AllByRecursion P (cond b (p ∷ kept pages ps) (kept pages ps))
    by true rest = (all.0, rest)
    by false rest = rest

pub IsPaged-kept : (pages : List PageRef) (zs ps : List Pair) → ((p : Pair) → is_ahead pages p ≡ true → Behind p zs) → IsPaged zs → IsPaged ps
    → IsPaged (kept pages ps ++ zs)
IsPaged-kept pages zs [] far others h = others
IsPaged-kept pages zs (p ∷ ps) far others h = by (is_ahead pages p) refl (IsPaged-kept pages zs ps far others h.1.1)
  where
    by : (b : Bool) → is_ahead pages p ≡ b → IsPaged (kept pages ps ++ zs) → IsPaged (cond b (p ∷ kept pages ps) (kept pages ps) ++ zs)
    by true e rest =
        (h.0, (all-both (λ q. is_before p q ≡ true) (kept pages ps) zs (kept-all (λ q. is_before p q ≡ true) pages ps h.1.0) (far p e), rest))
    by false e rest = rest

-- a pair in front of the next page stands in front of all later ones
pub far-heads : (pages : List PageRef) → IsPaged (heads pages) → (p : Pair) → is_ahead pages p ≡ true → Behind p (heads pages)
far-heads [] h p e = tt
far-heads (page ∷ pages) h p e = (e, before_all p (first_pair page) (heads pages) e h.1.0)

-- the first pair of a page stands in front of the next page
pub ahead-first : (page : PageRef) (pages : List PageRef) → IsPaged (heads (page ∷ pages)) → is_ahead pages (first_pair page) ≡ true
ahead-first page [] h = refl
ahead-first page (next ∷ pages) h = h.1.0.0

kept_with : (b : Bool) (p : Pair) (ps : List Pair) → b ≡ true → cond b (p ∷ ps) ps ≡ p ∷ ps
kept_with true p ps e = refl
kept_with false p ps e = absurd (cc)

pub kept-first : (page : PageRef) (pages : List PageRef) (ps : List Pair) → IsPaged (heads (page ∷ pages))
    → kept pages (first_pair page ∷ ps) ≡ first_pair page ∷ kept pages ps
kept-first page pages ps h = kept_with (is_ahead pages (first_pair page)) (first_pair page) (kept pages ps) (ahead-first page pages h)

-- ---- the pairs that pages hold, where each page begins with its first pair and is in page order

pub record IsRead (page : PageRef) (pairs : List Pair) : Type 0 where
  pub others : List Pair
  pub begin : pairs ≡ first_pair page ∷ others
  pub paged : IsPaged pairs

module _ (read : PageRef → List Pair) (is : (page : PageRef) → is_in_range (first_pair page) ≡ true → IsRead page (read page)) where
  pub others_of : (page : PageRef) (pages : List PageRef) → IsPaged (heads (page ∷ pages)) → IsRead page (read page)
  others_of page pages h = is page (fits_from (first_pair page) h.0)

  pub begin-from : (page : PageRef) (pages : List PageRef) (h : IsPaged (heads (page ∷ pages)))
      → pairs_from read (page ∷ pages) ≡ first_pair page ∷ (kept pages (others_of page pages h).others ++ pairs_from read pages)
  begin-from page pages h =
      let r = others_of page pages h in
      ap (λ (ps : List Pair). kept pages ps ++ pairs_from read pages) r.begin
      ∙ ap (λ (ps : List Pair). ps ++ pairs_from read pages) (kept-first page pages r.others h)

  far-pairs_from : (pages : List PageRef) → IsPaged (heads pages) → IsPaged (pairs_from read pages) → (p : Pair)
      → is_ahead pages p ≡ true → Behind p (pairs_from read pages)
  far-pairs_from [] h paged p e = tt
  far-pairs_from (page ∷ pages) h paged p e =
      let b = begin-from page pages h in
      let all : IsPaged (first_pair page ∷ (kept pages (others_of page pages h).others ++ pairs_from read pages)) = subst IsPaged b paged in
      subst (Behind p) (sym b) (e, before_all p (first_pair page) _ e all.1.0)

  pub IsPaged-pairs_from : (pages : List PageRef) → IsPaged (heads pages) → IsPaged (pairs_from read pages)
  IsPaged-pairs_from [] h = tt
  IsPaged-pairs_from (page ∷ pages) h =
      let rest = IsPaged-pairs_from pages h.1.1 in
      IsPaged-kept pages (pairs_from read pages) (read page) (far-pairs_from pages h.1.1 rest) rest (others_of page pages h).paged

  -- some pairs in front of pages, and of what these hold
  pub IsPaged-left : (ps : List Pair) (pages : List PageRef) → IsPaged (ps ++ heads pages) → IsPaged (ps ++ pairs_from read pages)
  IsPaged-left ps [] h = h
  IsPaged-left ps (page ∷ pages) h =
      let hs : IsPaged (heads (page ∷ pages)) = IsPaged-behind ps (heads (page ∷ pages)) h in
      let b = begin-from page pages hs in
      subst (λ (zs : List Pair). IsPaged (ps ++ zs)) (sym b)
      (IsPaged-join ps (first_pair page) (heads pages) _ h (subst IsPaged b (IsPaged-pairs_from (page ∷ pages) hs)))
