-- A search that ended with an answer read no damaged page, so its answer is that of the pairs that the bytes hold.
use Rattle.std.proofs.Common.{◌≡◌, ◌⊎◌, inl, inr, ℕ, ◌+◌, ◌<◌, ◌≤◌, ◌==◌, ◌&&◌, ◌||◌, Bool, true, false, not, cond, List, [], ◌∷◌, ◌++◌}
use Rattle.std.proofs.Common.{map, take, drop, Option, Some, None, Result, Ok, Err, IfOk, nat_le, le-leb, sum_by, refl, ap, ap₂, sym, subst, ◌∙◌, arith, eqb-true}
use Rattle.std.specs.List.{AllByRecursion, filter, flat_map, list_all, list_any}
use Rattle.std.specs.Option.{ForSome, option_map_or}
use Rattle.std.proofs.lemmas.Bool.{or_left, or_right}
use Rattle.std.proofs.lemmas.Bool.Decides.{nat_tests}
use Rattle.std.proofs.lemmas.List.Folds.{list_any-append}
use Rattle.std.proofs.lemmas.List.{append-nil, take-append-drop}
use Rattle.std.proofs.lemmas.List.Sums.{sum_by-cons}
use Rattle.svr_chunks.specs.Chosen.{chosen_lawful}
use Rattle.svr_listing.specs.Kept.{Ascends}
use Rattle.svr_listing.specs.Listing.{Listing, documents_of, entry_of, groups_by, groups_by_bytes, has_pair, has_term, held, is_held, keys_by, listed_at}
use Rattle.svr_listing.specs.Listing.{pages_at, pages_of, pairs_by, posted, refs_of, same_pair, stands_by, stands_under}
use Rattle.svr_listing.specs.Merges.{ids_under}
use Rattle.svr_listing.specs.Methods.{Rules}
use Rattle.svr_listing.specs.Visits.{IsAnswer, pages_visited}
use Rattle.svr_listing.specs.declared.document.Listed.{Listed}
use Rattle.svr_listing.specs.declared.group.Group.{Group}
use Rattle.svr_listing.specs.declared.pages.Page.{Page}
use Rattle.svr_listing.proofs.Answering.{Falls, any-descending, falls-descending}
use Rattle.svr_listing.proofs.Finding.{weaker}
use Rattle.svr_listing.proofs.Needing.{of_keys}
use Rattle.svr_listing.proofs.Truths.{any-flat_map, any-map, each_there}
use Rattle.svr_listing.proofs.Unvisited.{answer-told, is_among, is_within}
use Rattle.svr_long.specs.Cursor.{or_first, page_pairs}
use Rattle.svr_num.specs.declared.hit.Hit.{Hit}
use Rattle.svr_num.specs.declared.mode.Mode.{Mode}
use Rattle.svr_num.specs.declared.mode.Mode.TheVariants as mode
use Rattle.svr_postpage.proofs.Spelling.{page_bytes-page_in}
use Rattle.svr_postpage.specs.Pages.{bytes_at, page_in}
use Rattle.svr_postpage.specs.Pairs.{fill_a_page, first_pair, is_before, ref_of}
use Rattle.svr_postpage.specs.Wanted.{damage_by_pairs, damage_in, has_head_of, pairs_told, pairs_with_head}
use Rattle.svr_postpage.specs.declared.page_ref.Damage.{Damage}
use Rattle.svr_postpage.specs.declared.page_ref.Damage.TheVariants as damage
use Rattle.svr_iter.specs.declared.fault.ScanFault.{ScanFault}
use Rattle.svr_postpage.specs.Reading.{InTurn}
use Rattle.svr_postpage.specs.declared.page_ref.PageFault.{PageFault}
use Rattle.svr_postpage.specs.declared.page_ref.PageRef.{PageRef}
use Rattle.svr_postpage.specs.declared.pair.Pair.{Pair}
use Rattle.svr_index.specs.Asked.{AreSame, AsksFor}
use Rattle.svr_index.specs.Index.{Indexed, StandsFor}
use Rattle.svr_index.specs.Layout.{AnswersByHeads}
use Rattle.svr_index.specs.Search.{AnswersBy, AreWithinBounds}

abbrev pub IsSound : List ℕ → PageRef → Type 0
IsSound bytes page = damage_in page (bytes_at bytes page.at) ≡ None

-- ---- a page that is not damaged has pairs

sound-some : (bytes : List ℕ) (page : PageRef) → IsSound bytes page → pairs_told bytes page ≡ [] → ⊥
sound-some bytes page sound none = by (page_in (bytes_at bytes page.at)) refl sound none
  where
    by : (o : Option (List Pair)) → page_in (bytes_at bytes page.at) ≡ o → damage_by_pairs page o ≡ None → pairs_with_head page o ≡ [] → ⊥
    by None e s n = absurd (cc)
    by (Some pairs) e s n = with (has_head_of page (ref_of page.at pairs)) refl s n
      where
        with : (b : Bool) → has_head_of page (ref_of page.at pairs) ≡ b
            → ◌≡◌ {A = Option Damage}
            (cond b None (Some (damage.Head (ref_of page.at pairs).key
            (ref_of page.at pairs).id (ref_of page.at pairs).count))) None
            → cond b pairs [] ≡ [] → ⊥
        with false f s n = absurd (cc)
        with true f s n = empty pairs n (page_bytes-page_in _ pairs e).0
          where
            empty : (ps : List Pair) → ps ≡ [] → fill_a_page ps ≡ true → ⊥
            empty [] same fill = absurd (cc)
            empty (p ∷ ps) same fill = absurd (cc)

-- its pairs by the bytes told are those that count
told-is : (bytes : List ℕ) (page : PageRef) → IsSound bytes page → page_pairs bytes page ≡ pairs_told bytes page
told-is bytes page sound = by (pairs_told bytes page) refl
  where
    by : (ps : List Pair) → pairs_told bytes page ≡ ps → page_pairs bytes page ≡ pairs_told bytes page
    by [] e = absurd (sound-some bytes page sound e)
    by (p ∷ ps) e = ap (or_first page) e ∙ sym e

pairs-told : (bytes : List ℕ) (pages : List Page) → AllByRecursion (IsSound bytes) (map (λ (page : Page). page.head) pages)
    → pairs_by (page_pairs bytes) pages ≡ pairs_by (pairs_told bytes) pages
pairs-told bytes [] sound = refl
pairs-told bytes (page ∷ []) sound = told-is bytes page.head sound.0
pairs-told bytes (page ∷ next ∷ pages) sound =
    ap₂ (λ (a b : List Pair). filter (λ pair. is_before pair (first_pair next.head)) a ++ b) (told-is bytes page.head sound.0)
    (pairs-told bytes (next ∷ pages) sound.1)

-- where no page of a term is damaged, those that stand under it are the same by either
pub ids-told : (bytes : List ℕ) (l : Listing) (term : List ℕ) → AllByRecursion (IsSound bytes) (map (λ (page : Page). page.head) (pages_of l.lists term))
    → ids_under (stands_by (page_pairs bytes) l term) l ≡ ids_under (stands_by (pairs_told bytes) l term) l
ids-told bytes l term sound =
    ap (λ (ps : List Pair). ids_under (λ d. is_held l term d || (not d.entry.moved && (has_pair (listed_at d) ps
    && not (has_pair (listed_at d) (posted l term) && not (has_term d.document term))))) l) (pairs-told bytes (pages_of l.lists term) sound)

-- ---- tests that only pairs at visited keys pass

-- the pairs that are told are those that count, or there are none and the first pair does not pass the test
abbrev AreTold : List ℕ → (Pair → Bool) → Page → Type 0
AreTold bytes q page =
    (page_pairs bytes page.head ≡ pairs_told bytes page.head) ⊎ ((pairs_told bytes page.head ≡ []) × (q (first_pair page.head) ≡ false))

are_told : (bytes : List ℕ) (q : Pair → Bool) (page : Page) → (q (first_pair page.head) ≡ true → IsSound bytes page.head) → AreTold bytes q page
are_told bytes q page sound = by (pairs_told bytes page.head) refl
  where
    by : (ps : List Pair) → pairs_told bytes page.head ≡ ps → AreTold bytes q page
    by (p ∷ ps) e = inl (ap (or_first page.head) e ∙ sym e)
    by [] e = with (q (first_pair page.head)) refl
      where
        with : (b : Bool) → q (first_pair page.head) ≡ b → AreTold bytes q page
        with false f = inr (e, f)
        with true f = absurd (sound-some bytes page.head (sound f) e)

any-told_one : (bytes : List ℕ) (q : Pair → Bool) (test : Pair → Bool) (page : Page) → AreTold bytes q page
    → list_any q (filter test (page_pairs bytes page.head)) ≡ list_any q (filter test (pairs_told bytes page.head))
any-told_one bytes q test page (inl same) = ap (λ (ps : List Pair). list_any q (filter test ps)) same
any-told_one bytes q test page (inr none) =
    ap (λ (ps : List Pair). list_any q (filter test (or_first page.head ps))) none.0
    ∙ by (test (first_pair page.head))
    ∙ sym (ap (λ (ps : List Pair). list_any q (filter test ps)) none.0)
  where
    by : (b : Bool) → list_any q (cond b (first_pair page.head ∷ []) []) ≡ false
    by false = refl
    by true = ap (λ (c : Bool). c || false) none.1

whole : (ps : List Pair) → filter (λ _. true) ps ≡ ps
whole [] = refl
whole (p ∷ ps) = ap (λ (l : List Pair). p ∷ l) (whole ps)

any-told : (bytes : List ℕ) (q : Pair → Bool) (pages : List Page) → AllByRecursion (AreTold bytes q) pages
    → list_any q (pairs_by (page_pairs bytes) pages) ≡ list_any q (pairs_by (pairs_told bytes) pages)
any-told bytes q [] all = refl
any-told bytes q (page ∷ []) all =
    ap (list_any q) (sym (whole (page_pairs bytes page.head))) ∙ any-told_one bytes q (λ _. true) page all.0
    ∙ ap (list_any q) (whole (pairs_told bytes page.head))
any-told bytes q (page ∷ next ∷ pages) all =
    let test = λ (pair : Pair). is_before pair (first_pair next.head) in
    list_any-append q (filter test (page_pairs bytes page.head)) (pairs_by (page_pairs bytes) (next ∷ pages))
    ∙ ap₂ (λ (a b : Bool). a || b) (any-told_one bytes q test page all.0) (any-told bytes q (next ∷ pages) all.1)
    ∙ sym (list_any-append q (filter test (pairs_told bytes page.head)) (pairs_by (pairs_told bytes) (next ∷ pages)))

-- a pair that is told counts
or-weaker : (a b c d : Bool) → (a ≡ true → c ≡ true) → (b ≡ true → d ≡ true) → (a || b) ≡ true → (c || d) ≡ true
or-weaker true b c d f g e = or_left c d (f refl)
or-weaker false b c d f g e = or_right c d (g e)

told-counts_one : (bytes : List ℕ) (q : Pair → Bool) (test : Pair → Bool) (page : Page)
    → list_any q (filter test (pairs_told bytes page.head)) ≡ true → list_any q (filter test (page_pairs bytes page.head)) ≡ true
told-counts_one bytes q test page e = by (pairs_told bytes page.head) e
  where
    by : (ps : List Pair) → list_any q (filter test ps) ≡ true → list_any q (filter test (or_first page.head ps)) ≡ true
    by [] e = absurd (cc)
    by (p ∷ ps) e = e

told-counts : (bytes : List ℕ) (q : Pair → Bool) (pages : List Page) → list_any q (pairs_by (pairs_told bytes) pages) ≡ true
    → list_any q (pairs_by (page_pairs bytes) pages) ≡ true
told-counts bytes q [] e = absurd (cc)
told-counts bytes q (page ∷ []) e =
    ap (list_any q) (sym (whole (page_pairs bytes page.head)))
    ∙ told-counts_one bytes q (λ _. true) page (ap (list_any q) (whole (pairs_told bytes page.head)) ∙ e)
told-counts bytes q (page ∷ next ∷ pages) e =
    let test = λ (pair : Pair). is_before pair (first_pair next.head) in
    list_any-append q (filter test (page_pairs bytes page.head)) (pairs_by (page_pairs bytes) (next ∷ pages))
    ∙ or-weaker _ _ _ _ (told-counts_one bytes q test page) (told-counts bytes q (next ∷ pages))
    (sym (list_any-append q (filter test (pairs_told bytes page.head)) (pairs_by (pairs_told bytes) (next ∷ pages))) ∙ e)

-- ---- keys and documents of a query

-- each page of the terms at one of these keys is sound
abbrev pub AreSoundAt : List ℕ → Listing → List ℕ → List (List ℕ) → Type 0
AreSoundAt bytes l front terms =
    AllByRecursion (λ t. AllByRecursion (λ (page : Page). is_among front page.head.key ≡ true → IsSound bytes page.head) (pages_of l.lists t)) terms

module _ (bytes : List ℕ) (l : Listing) (front : List ℕ) where
  abbrev SoundPages : List ℕ → Type 0
  SoundPages t = AllByRecursion (λ (page : Page). is_among front page.head.key ≡ true → IsSound bytes page.head) (pages_of l.lists t)

  told-all : (q : Pair → Bool) → ((p : Pair) → q p ≡ true → is_among front p.key ≡ true) → (t : List ℕ) → SoundPages t
      → AllByRecursion (AreTold bytes q) (pages_of l.lists t)
  told-all q visited t sound =
      weaker _ _ (pages_of l.lists t) (λ page s. are_told bytes q page (λ e. s (visited (first_pair page.head) e))) sound

  -- the key of a query, at a term
  key_in : (PageRef → List Pair) → List ℕ → ℕ → Bool
  key_in read t n = list_any (λ x. x == n) (map (λ (pair : Pair). pair.key) (pairs_by read (pages_of l.lists t) ++ held l t))

  key_in-is : (read : PageRef → List Pair) (t : List ℕ) (n : ℕ) → key_in read t n
      ≡ (list_any (λ (pair : Pair). pair.key == n) (pairs_by read (pages_of l.lists t)) || list_any (λ (pair : Pair). pair.key == n) (held l t))
  unfolding key_in
  key_in-is read t n =
      any-map (λ x. x == n) (λ (pair : Pair). pair.key) (pairs_by read (pages_of l.lists t) ++ held l t)
      ∙ list_any-append (λ (pair : Pair). pair.key == n) (pairs_by read (pages_of l.lists t)) (held l t)

  among-is : (read : PageRef → List Pair) (terms : List (List ℕ)) (n : ℕ)
      → is_among (keys_by read l terms) n ≡ list_any (λ t. key_in read t n) terms
  unfolding key_in
  among-is read terms n =
      any-descending (λ x. x == n) (flat_map (λ t. map (λ (pair : Pair). pair.key) (pairs_by read (pages_of l.lists t) ++ held l t)) terms)
      ∙ any-flat_map (λ x. x == n) (λ t. map (λ (pair : Pair). pair.key) (pairs_by read (pages_of l.lists t) ++ held l t)) terms

  key-same : (n : ℕ) → is_among front n ≡ true → (t : List ℕ) → SoundPages t → key_in (page_pairs bytes) t n ≡ key_in (pairs_told bytes) t n
  key-same n here t sound =
      key_in-is (page_pairs bytes) t n
      ∙ ap (λ (b : Bool). b || list_any (λ (pair : Pair). pair.key == n) (held l t))
      (any-told bytes (λ pair. pair.key == n) (pages_of l.lists t)
      (told-all (λ pair. pair.key == n) (λ p e. subst (λ (m : ℕ). is_among front m ≡ true) (sym (eqb-true p.key n e)) here) t sound))
      ∙ sym (key_in-is (pairs_told bytes) t n)

  any-same : (f g : List ℕ → Bool) (terms : List (List ℕ)) → AllByRecursion (λ t. f t ≡ g t) terms → list_any f terms ≡ list_any g terms
  any-same f g [] all = refl
  any-same f g (t ∷ ts) all = ap₂ (λ (a b : Bool). a || b) all.0 (any-same f g ts all.1)

  all-same : (f g : List ℕ → Bool) (terms : List (List ℕ)) → AllByRecursion (λ t. f t ≡ g t) terms → list_all f terms ≡ list_all g terms
  all-same f g [] all = refl
  all-same f g (t ∷ ts) all = ap₂ (λ (a b : Bool). a && b) all.0 (all-same f g ts all.1)

  keys-same : (terms : List (List ℕ)) → AreSoundAt bytes l front terms → (n : ℕ) → is_among front n ≡ true
      → is_among (keys_by (page_pairs bytes) l terms) n ≡ is_among (keys_by (pairs_told bytes) l terms) n
  keys-same terms sound n here =
      among-is (page_pairs bytes) terms n
      ∙ any-same (λ t. key_in (page_pairs bytes) t n) (λ t. key_in (pairs_told bytes) t n) terms
      (weaker _ _ terms (λ t s. key-same n here t s) sound)
      ∙ sym (among-is (pairs_told bytes) terms n)

  keys-among : (terms : List (List ℕ)) (n : ℕ) → is_among (keys_by (pairs_told bytes) l terms) n ≡ true
      → is_among (keys_by (page_pairs bytes) l terms) n ≡ true
  keys-among terms n there =
      among-is (page_pairs bytes) terms n ∙ each terms (sym (among-is (pairs_told bytes) terms n) ∙ there)
    where
      each : (ts : List (List ℕ)) → list_any (λ t. key_in (pairs_told bytes) t n) ts ≡ true → list_any (λ t. key_in (page_pairs bytes) t n) ts ≡ true
      each [] e = absurd (cc)
      each (t ∷ ts) e =
          or-weaker (key_in (pairs_told bytes) t n) (list_any (λ t. key_in (pairs_told bytes) t n) ts) (key_in (page_pairs bytes) t n)
          (list_any (λ t. key_in (page_pairs bytes) t n) ts)
          (λ h. key_in-is (page_pairs bytes) t n
          ∙ or-weaker _ _ _ _ (told-counts bytes (λ pair. pair.key == n) (pages_of l.lists t)) (λ i. i)
          (sym (key_in-is (pairs_told bytes) t n) ∙ h)) (each ts) e

  -- a document at a visited key stands under the same terms
  stands-same : (d : Listed) → is_among front d.entry.key ≡ true → (t : List ℕ) → SoundPages t
      → stands_by (page_pairs bytes) l t d ≡ stands_by (pairs_told bytes) l t d
  stands-same d here t sound =
      ap (λ (b : Bool). is_held l t d || (not d.entry.moved
      && (b && not (has_pair (listed_at d) (posted l t) && not
      (has_term d.document t)))))
      (any-told bytes (same_pair (listed_at d)) (pages_of l.lists t) (told-all (same_pair (listed_at d))
      (λ p e. subst (λ (m : ℕ). is_among front m ≡ true) (eqb-true d.entry.key p.key (first_true (d.entry.key == p.key) _ e)) here) t sound))
    where
      first_true : (a b : Bool) → (a && b) ≡ true → a ≡ true
      first_true true b e = refl
      first_true false b e = absurd (cc)

  under-same : (m : Mode) (d : Listed) → is_among front d.entry.key ≡ true → (terms : List (List ℕ)) → AreSoundAt bytes l front terms
      → stands_under m (λ t. stands_by (page_pairs bytes) l t d) terms ≡ stands_under m (λ t. stands_by (pairs_told bytes) l t d) terms
  under-same mode.All d here terms sound = all-same _ _ terms (weaker _ _ terms (λ t s. stands-same d here t s) sound)
  under-same mode.Any d here terms sound = any-same _ _ terms (weaker _ _ terms (λ t s. stands-same d here t s) sound)

-- ---- the pages that were given are undamaged

fault_of : Option Damage → ℕ
fault_of None = 0
fault_of (Some why) = 1

faults : List ℕ → PageRef → ℕ
unfolding fault_of
faults bytes page = fault_of (damage_in page (bytes_at bytes page.at))

no_faults : (bytes : List ℕ) (pages : List PageRef) → AllByRecursion (IsSound bytes) pages → sum_by (faults bytes) pages ≡ 0
unfolding faults fault_of
no_faults bytes [] all = refl
no_faults bytes (p ∷ ps) all =
    let here : fault_of (damage_in p (bytes_at bytes p.at)) ≡ 0 = ap fault_of all.0 in
    let rest = no_faults bytes ps all.1 in
    sum_by-cons (faults bytes) p ps ∙ (omega (arith, here, rest))

are_sound : (bytes : List ℕ) (pages : List PageRef) → sum_by (faults bytes) pages ≡ 0 → AllByRecursion (IsSound bytes) pages
unfolding faults fault_of
are_sound bytes [] e = tt
are_sound bytes (p ∷ ps) e =
    let both : fault_of (damage_in p (bytes_at bytes p.at)) + sum_by (faults bytes) ps ≡ 0 = sym (sum_by-cons (faults bytes) p ps) ∙ e in
    (by (damage_in p (bytes_at bytes p.at)) (omega (arith, both)), are_sound bytes ps (omega (arith, both)))
  where
    by : (o : Option Damage) → fault_of o ≡ 0 → o ≡ None
    by None z = refl
    by (Some why) z = absurd (cc)

-- ---- each page at a visited key is among these

split : (S : PageRef → Type 0) (xs ys : List PageRef) → AllByRecursion S (xs ++ ys) → AllByRecursion S xs × AllByRecursion S ys
split S [] ys all = (tt, all)
split S (x ∷ xs) ys all = let more = split S xs ys all.1 in ((all.0, more.0), more.1)

of_key : (S : PageRef → Type 0) (key : ℕ) (refs : List PageRef) → AllByRecursion S (filter (λ ref. ref.key == key) refs)
    → AllByRecursion (λ ref. (ref.key == key) ≡ true → S ref) refs
of_key S key [] all = tt
of_key S key (r ∷ rs) all = by (r.key == key) refl all (of_key S key rs)
  where
    by : (b : Bool) → (r.key == key) ≡ b → AllByRecursion S (cond b (r ∷ filter (λ ref. ref.key == key) rs) (filter (λ ref. ref.key == key) rs))
        → (AllByRecursion S (filter (λ ref. ref.key == key) rs) → AllByRecursion (λ ref. (ref.key == key) ≡ true → S ref) rs)
        → ((r.key == key) ≡ true → S r) × AllByRecursion (λ ref. (ref.key == key) ≡ true → S ref) rs
    by true e all more = (λ _. all.0, more all.1)
    by false e all more = (λ yes. absurd (let no' : true ≡ false = sym yes ∙ e in cc), more all)

at_keys : (S : PageRef → Type 0) (refs : List PageRef) (front : List ℕ)
    → AllByRecursion S (flat_map (λ key. filter (λ (ref : PageRef). ref.key == key) refs) front)
    → AllByRecursion (λ ref. is_among front ref.key ≡ true → S ref) refs
at_keys S refs [] all = weaker (λ _. Unit {0}) _ refs (λ r _ e. absurd (cc)) (everything refs)
  where
    everything : (rs : List PageRef) → AllByRecursion (λ _. Unit {0}) rs
    everything [] = tt
    everything (r ∷ rs) = (tt, everything rs)
at_keys S refs (f ∷ fs) all =
    let parts = split S (filter (λ (ref : PageRef). ref.key == f) refs) (flat_map (λ key. filter (λ (ref : PageRef). ref.key == key) refs) fs) all in
    join refs (of_key S f refs parts.0) (at_keys S refs fs parts.1)
  where
    join : (rs : List PageRef) → AllByRecursion (λ ref. (ref.key == f) ≡ true → S ref) rs
        → AllByRecursion (λ ref. is_among fs ref.key ≡ true → S ref) rs → AllByRecursion (λ ref. is_among (f ∷ fs) ref.key ≡ true → S ref) rs
    join [] a b = tt
    join (r ∷ rs) a b = (one (f == r.key) refl a.0 b.0, join rs a.1 b.1)
      where
        turned : (f == r.key) ≡ true → (r.key == f) ≡ true
        turned e = let same : f ≡ r.key = eqb-true f r.key e in grind (arith, nat_tests, same)

        one : (c : Bool) → (f == r.key) ≡ c → ((r.key == f) ≡ true → S r) → (is_among fs r.key ≡ true → S r)
            → (c || is_among fs r.key) ≡ true → S r
        one true e here rest there = here (turned e)
        one false e here rest there = rest there

by_terms : (S : PageRef → Type 0) (l : Listing) (terms : List (List ℕ)) → AllByRecursion S (refs_of l terms)
    → AllByRecursion (λ t. AllByRecursion (λ (page : Page). S page.head) (pages_of l.lists t)) terms
by_terms S l [] all = tt
by_terms S l (t ∷ ts) all =
    let parts = split S (map (λ (page : Page). page.head) (pages_of l.lists t)) (refs_of l ts) all in
    (heads (pages_of l.lists t) parts.0, by_terms S l ts parts.1)
  where
    heads : (ps : List Page) → AllByRecursion S (map (λ (page : Page). page.head) ps) → AllByRecursion (λ (page : Page). S page.head) ps
    heads [] all = tt
    heads (p ∷ ps) all = (all.0, heads ps all.1)

-- ---- scores are within the bounds of documents' keys

listed_itself : (ls : List Listed) → Ascends (map (λ (d : Listed). d.document) ls)
    → AllByRecursion (λ (d : Listed). entry_of ls d.document.id ≡ Some d.entry) ls
listed_itself [] up = tt
listed_itself (d ∷ ds) up = (here, rest ds up.0 (listed_itself ds up.1))
  where
    here : entry_of (d ∷ ds) d.document.id ≡ Some d.entry
    here = let same : (d.document.id == d.document.id) ≡ true = grind (arith, nat_tests) in rw same refl

    rest : (es : List Listed) → AllByRecursion (λ later. d.document.id < later.id) (map (λ (e : Listed). e.document) es)
        → AllByRecursion (λ (e : Listed). entry_of ds e.document.id ≡ Some e.entry) es
        → AllByRecursion (λ (e : Listed). entry_of (d ∷ ds) e.document.id ≡ Some e.entry) es
    rest [] lt all = tt
    rest (e ∷ es) lt all = (one, rest es lt.1 all.1)
      where
        one : entry_of (d ∷ ds) e.document.id ≡ Some e.entry
        one =
            let differ : (d.document.id == e.document.id) ≡ false = (let low : d.document.id < e.document.id = lt.0 in grind (arith, nat_tests)) in
            rw differ all.0

within-all : (index : Indexed) (l : Listing) (score : ℕ → Option ℕ) → AreWithinBounds index score → Ascends (documents_of l)
    → StandsFor index l → AllByRecursion (λ (d : Listed). is_within l.rules.bound score d.entry.key d.document.id ≡ true) l.documents
within-all index l score within up stood =
    weaker _ _ l.documents
    (λ d here. by (score d.document.id) (λ s at.
    subst (λ (r : Rules). s ≤ r.bound d.entry.key) stood.rules (within d.document.id d.entry (stood.entries d.document.id ∙ here) s at)))
    (listed_itself l.documents up)
  where
    by : {b : ℕ} (o : Option ℕ) → ForSome o (λ s. s ≤ b) → option_map_or (λ s. nat_le s b) o true ≡ true
    by None low = refl
    by {b} (Some s) low = le-leb s b (low s refl)

-- ---- so the answer is that of the pairs that the bytes hold

pub answer-is_told : (index : Indexed) (l : Listing) (terms : List (List ℕ)) (m : Mode) (k : ℕ) (score : ℕ → Option ℕ) (bytes : List ℕ)
    (given : List PageRef) (hits : List Hit) (visits : ℕ) → 0 < k → AreWithinBounds index score → Ascends (documents_of l) → StandsFor index l
    → AllByRecursion (IsSound bytes) given
    → AreSame given (pages_visited k l.rules.bound score (pages_at l terms) (groups_by_bytes (page_pairs bytes) l terms m))
    → IsAnswer k l.rules.bound score (groups_by_bytes (page_pairs bytes) l terms m) hits visits
    → IsAnswer k l.rules.bound score (groups_by_bytes (pairs_told bytes) l terms m) hits visits
answer-is_told index l terms m k score bytes given hits visits some within up stood sound same answer =
    let p = λ (d : Listed). stands_under m (λ t. stands_by (page_pairs bytes) l t d) terms in
    let ks = keys_by (page_pairs bytes) l terms in
    let front = take visits ks in
    let pages : AllByRecursion (IsSound bytes) (flat_map (pages_at l terms) front) =
    subst (AllByRecursion (IsSound bytes)) (ap (λ (n : ℕ). flat_map (λ (g : Group). pages_at l terms g.key) (take n (groups_by l.documents p ks)))
    (sym answer.least) ∙ of_keys l.documents p (pages_at l terms) visits ks)
    (are_sound bytes (pages_visited k l.rules.bound score (pages_at l terms) (groups_by_bytes (page_pairs bytes) l terms m))
    (sym (same (faults bytes)) ∙ no_faults bytes given sound)) in
    let at : AreSoundAt bytes l front terms =
    by_terms (λ ref. is_among front ref.key ≡ true → IsSound bytes ref) l terms (at_keys (IsSound bytes) (refs_of l terms) front pages) in
    answer-told k l.rules.bound score l.documents p (λ d. stands_under m (λ t. stands_by (pairs_told bytes) l t d) terms) ks
    (keys_by (pairs_told bytes) l terms) hits visits some
    (subst (λ (r : Rules). (key other : ℕ) → key ≤ other → r.bound key ≤ r.bound other) stood.rules (chosen_lawful index.method).bounds_rise)
    (within-all index l score within up stood) (falls-keys (page_pairs bytes) terms) (falls-keys (pairs_told bytes) terms)
    (keys-among bytes l front terms)
    (weaker _ _ front (λ n there.
    let here : is_among front n ≡ true = there (λ x. x == n) (eq_itself n) in
    sym (keys-same bytes l front terms at n here) ∙ in_whole n visits ks here) (each_there front))
    (weaker (λ _. Unit {0}) _ l.documents (λ d _ here. under-same bytes l front m d here terms at) (everything l.documents)) answer
  where
    falls-keys : (read : PageRef → List Pair) (ts : List (List ℕ)) → Falls (keys_by read l ts)
    falls-keys read ts =
        falls-descending (flat_map (λ t. map (λ (pair : Pair). pair.key) (pairs_by read (pages_of l.lists t) ++ held l t)) ts)

    eq_itself : (n : ℕ) → (n == n) ≡ true
    eq_itself n = grind (arith, nat_tests)

    in_whole : (n visits : ℕ) (ks : List ℕ) → is_among (take visits ks) n ≡ true → is_among ks n ≡ true
    in_whole n visits ks here =
        ap (λ (l : List ℕ). is_among l n) (sym (take-append-drop visits ks))
        ∙ list_any-append (λ x. x == n) (take visits ks) (drop visits ks) ∙ or_left _ _ here

    everything : (ls : List Listed) → AllByRecursion (λ _. Unit {0}) ls
    everything [] = tt
    everything (d ∷ ds) = (tt, everything ds)

-- the answer of a search whose pages were given
pub answers-told : {R T : Type 0} (told : R → Option (List ℕ)) (gives : R → PageRef → R → Type 0) (fails : R → PageRef → PageFault → R → Type 0)
    (same_told : (a : R) (p : PageRef) (b : R) → gives a p b → told b ≡ told a)
    (sound : (a : R) (p : PageRef) (b : R) → gives a p b → ForSome (told a) (λ bytes. damage_in p (bytes_at bytes p.at) ≡ None))
    (index : Indexed) (terms : List (List ℕ)) (m : Mode) (k : ℕ) (score : ℕ → Option ℕ) (old new : R) (hits : T → List Hit) (visits : T → ℕ)
    (result : Result T ScanFault) → 0 < k → AreWithinBounds index score
    → AsksFor {R = R} {T = T} (told old) gives fails index terms m k score old new result
    → IfOk result (λ answer. ForSome (told old) (λ bytes. AnswersByHeads index terms m k score bytes (hits answer) (visits answer)))
    → IfOk result (λ answer. ForSome (told old) (λ bytes. AnswersBy index terms m k score bytes (hits answer) (visits answer)))
answers-told {R} told gives fails same_told sound index terms m k score old new hits visits (Err fault) some within asks answer = answer
answers-told {R} told gives fails same_told sound index terms m k score old new hits visits (Ok value) some within asks answer =
    λ bytes at l up stood.
    answer-is_told index l terms m k score bytes asks.given (hits value) (visits value) some within up stood
    (given_sound asks.given old asks.between asks.in_turn bytes at)
    (λ f. sym (ap (sum_by f) (ap (λ (ps : List PageRef). asks.given ++ ps) asks.stops.0 ∙ append-nil asks.given))
    ∙ asks.visited bytes at l up stood f)
    (answer bytes at l up stood)
  where
    given_sound : (ps : List PageRef) (a b : R) → InTurn gives ps a b → (bytes : List ℕ) → told a ≡ Some bytes → AllByRecursion (IsSound bytes) ps
    given_sound [] a b turn bytes at = tt
    given_sound (p ∷ ps) a b turn bytes at = (
      sound a p turn.0 turn.1 bytes at,
      given_sound ps turn.0 b turn.2 bytes (same_told a p turn.0 turn.1 ∙ at),
    )
