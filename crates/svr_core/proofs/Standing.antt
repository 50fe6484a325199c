-- The pages of a listing and of its merge stand in the records that made them.
use Rattle.std.proofs.Common.{◌≡◌, ◌≤◌, ◌+◌, ◌-◌, ◌*◌, ℕ, zero, suc, Bool, true, false, cond, List, [], ◌∷◌, ◌++◌, length, map, take, drop}
use Rattle.std.proofs.Common.{Option, Some, None, refl, sym, ap, ◌∙◌, subst, arith, append_assoc, append-nil, length-append, length-drop, leb-true, nat_le}
use Rattle.std.specs.Prelude.{◌&&◌}
use Rattle.std.specs.Int.{to_be_bytes, w16, w32}
use Rattle.std.specs.List.{AllByRecursion, flat_map, list_all}
use Rattle.std.specs.Option.{option_and_then, option_map}
use Rattle.std.specs.Str.{bytes_eq}
use Rattle.std.proofs.lemmas.Bool.{and_parts}
use Rattle.std.proofs.lemmas.Grind.{flat_map-append}
use Rattle.std.proofs.lemmas.List.{drop-append-le, drop-drop, drop_at, length-take, take-append-le}
use Rattle.svr_catalog.specs.Catalog.{Catalog, catalog_with}
use Rattle.svr_catalog.specs.Listed.{listed_after, listed_with_rows}
use Rattle.svr_catalog.specs.Merging.{rules_of}
use Rattle.svr_journal.specs.File.{end_of, magic, open_record}
use Rattle.svr_listing.specs.Kept.{StandsIn}
use Rattle.svr_listing.specs.Listing.{documents_of, pages_of}
use Rattle.svr_listing.specs.Merges.{Merge, begin, page_at, touched}
use Rattle.svr_listing.specs.Served as listing
use Rattle.svr_listing.specs.declared.document.Document.{Document}
use Rattle.svr_listing.specs.declared.pages.Page.{Page}
use Rattle.svr_listing.specs.declared.pages.TermPages.{TermPages}
use Rattle.svr_lists.specs.Taken.{are_before, ascend_behind, page_onto, pages_in, taken_of, terms_in, with_taken, with_terms}
use Rattle.svr_postpage.specs.declared.pair.Pair.{Pair}
use Rattle.svr_postpage.specs.Pages.{bytes_at, page_bytes, page_in}
use Rattle.svr_postpage.specs.Pairs.{are_in_order, fill_a_page, is_in_range, ref_of}
use Rattle.svr_postpage.proofs.Spelling.{length-page_bytes, page_bytes-page_in}
use Rattle.svr_record.specs.declared.record.Record.{Record}
use Rattle.svr_record.specs.declared.record.Record.TheVariants as entry
use Rattle.svr_record.specs.declared.record.TermPages as kept
use Rattle.svr_record.specs.Bodies.{body_of, term_body}
use Rattle.svr_record.specs.Grammar.{record_in}
use Rattle.svr_record.proofs.Records.{record_in-body_of}
use Rattle.svr_rows.specs.declared.change.Change.TheVariants.{Insert}
use Rattle.svr_rows.specs.declared.row.Row.{Row}
use Rattle.svr_core.specs.declared.plan.Edit.{Edit}
use Rattle.svr_core.specs.declared.plan.Edit.TheVariants as edit
use Rattle.svr_core.specs.Edits.{relisted, served_with, slice_with, taken_into, with_taken_terms}
use Rattle.svr_core.specs.Outcomes.{Outcome, edits, entry_outcome, merges, merges_whole, refused, searches}
use Rattle.svr_core.specs.Pages.{HavePages, IsSpelled, LieInTurn, PagesStand, TermsStand, file_of, places_in}
use Rattle.svr_core.specs.Plans.{IsPlain}
use Rattle.svr_core.specs.Replay.{after_body, after_record, may_publish, pages_place, replayed, served_after}
use Rattle.svr_core.specs.State.{Served, empty, settled}
use Rattle.svr_core.proofs.Recovering.{ComesToRows, entry_plain}

-- ---- options and lists

pub then_some : {A B : Type 0} (o : Option A) (f : A → Option B) (y : B) → option_and_then f o ≡ Some y → (x : A) × ((o ≡ Some x) × (f x ≡ Some y))
then_some {A} {B} None f y h = absurd (let e : ◌≡◌ {A = Option B} None (Some y) = h in cc)
then_some (Some x) f y h = (x, (refl, h))

pub map_some : {A B : Type 0} (o : Option A) (f : A → B) (y : B) → option_map f o ≡ Some y → (x : A) × ((o ≡ Some x) × (f x ≡ y))
map_some {A} {B} None f y h = absurd (let e : ◌≡◌ {A = Option B} None (Some y) = h in cc)
map_some {A} {B} (Some x) f y h = (x, (refl, (let e : ◌≡◌ {A = Option B} (Some (f x)) (Some y) = h in cc)))

pub if_some : {A : Type 0} (b : Bool) (o : Option A) (y : A) → cond b o None ≡ Some y → o ≡ Some y
if_some true o y h = h
if_some {A} false o y h = absurd (let e : ◌≡◌ {A = Option A} None (Some y) = h in cc)

all_map : {A : Type 0} (P Q : A → Type 0) (xs : List A) → ((x : A) → P x → Q x) → AllByRecursion P xs → AllByRecursion Q xs
all_map P Q [] f h = tt
all_map P Q (x ∷ xs) f h = (f x h.0, all_map P Q xs f h.1)

pub all_append : {A : Type 0} (P : A → Type 0) (xs ys : List A) → AllByRecursion P xs → AllByRecursion P ys → AllByRecursion P (xs ++ ys)
all_append P [] ys h k = k
all_append P (x ∷ xs) ys h k = (h.0, all_append P xs ys h.1 k)

-- ---- one page

bytes_at-is : (at : ℕ) (told : List ℕ) → bytes_at told at ≡ take 4096 (drop at told)
bytes_at-is at told =
    let so_many : at + 4096 - at ≡ 4096 = omega arith in
    ap (λ m. take m (drop at told)) so_many

whole_page : (pairs : List Pair) → fill_a_page pairs ≡ true → length (page_bytes pairs) ≡ 4096
whole_page pairs fill =
    let more : (nat_le (length pairs) 255 && (list_all is_in_range pairs && are_in_order pairs)) ≡ true = (and_parts _ _ fill).1 in
    length-page_bytes pairs (leb-true (length pairs) 255 (and_parts _ _ more).0)

-- a page that stands in bytes ends there
page_ends : (told : List ℕ) (page : Page) → StandsIn told page → page.head.at + 4096 ≤ length told
page_ends told page h =
    let at = page.head.at in
    let there : take 4096 (drop at told) ≡ page_bytes page.pairs = sym (bytes_at-is at told) ∙ h.2 in
    let long : length (take 4096 (drop at told)) ≡ 4096 = ap length there ∙ whole_page page.pairs h.0 in
    omega (arith, long, length-take 4096 (drop at told), length-drop at told)

-- a page that stands in bytes stands there when more come behind them
pub stands-longer : (told more : List ℕ) (page : Page) → StandsIn told page → StandsIn (told ++ more) page
stands-longer told more page h =
    let at = page.head.at in
    let there : take 4096 (drop at told) ≡ page_bytes page.pairs = sym (bytes_at-is at told) ∙ h.2 in
    let within : at + 4096 ≤ length told = page_ends told page h in
    let most : 4096 ≤ length (drop at told) = omega (arith, within, length-drop at told) in (
      h.0,
      h.1,
      bytes_at-is at (told ++ more) ∙ ap (take 4096) (drop-append-le at told more (omega (arith, within)))
          ∙ take-append-le 4096 (drop at told) more most ∙ there,
    )

ref_at : (at : ℕ) (pairs : List Pair) → (ref_of at pairs).at ≡ at
ref_at at [] = refl
ref_at at (pair ∷ pairs) = refl

-- a page that is read where it stands
page_stands : (told : List ℕ) (at : ℕ) (bytes : List ℕ) (pairs : List Pair) → drop at told ≡ bytes → page_in (take 4096 bytes) ≡ Some pairs
    → StandsIn told (page_at at pairs)
page_stands told at bytes pairs there is =
    let spelled = page_bytes-page_in (take 4096 bytes) pairs is in (
      spelled.0,
      ap (λ n. ref_of n pairs) (sym (ref_at at pairs)),
      ap (bytes_at told) (ref_at at pairs) ∙ bytes_at-is at told ∙ ap (take 4096) there ∙ spelled.1,
    )

-- ---- pages of terms

pub pages-stand : (told : List ℕ) (at count : ℕ) (bytes : List ℕ) (pages : List Page) → drop at told ≡ bytes → pages_in at count bytes ≡ Some pages
    → AllByRecursion (StandsIn told) pages
unfolding pages_in
pages-stand told at zero bytes pages there is =
    let same : ◌≡◌ {A = List Page} [] pages = let e : ◌≡◌ {A = Option (List Page)} (Some []) (Some pages) = is in cc in
    subst (AllByRecursion (StandsIn told)) same tt
pages-stand told at (suc count) bytes pages there is =
    let first = then_some (page_in (take 4096 bytes))
    (λ pairs. option_and_then (page_onto at pairs) (pages_in (at + 4096) count (drop 4096 bytes))) pages is in
    let rest = then_some (pages_in (at + 4096) count (drop 4096 bytes)) (page_onto at first.0) pages first.1.1 in
    let made : Some (page_at at first.0 ∷ rest.0) ≡ Some pages =
    if_some (are_before first.0 rest.0) (Some (page_at at first.0 ∷ rest.0)) pages rest.1.1 in
    let same : page_at at first.0 ∷ rest.0 ≡ pages = cc in
    subst (AllByRecursion (StandsIn told)) same (
      page_stands told at bytes first.0 there first.1.0,
      pages-stand told (at + 4096) count (drop 4096 bytes) rest.0 (sym (drop-drop 4096 at told) ∙ ap (drop 4096) there) rest.1.0,
    )

terms_stand : (told : List ℕ) (at : ℕ) (kept : List kept.TermPages) (bytes : List ℕ) (terms : List TermPages) → drop at told ≡ bytes
    → terms_in at kept bytes ≡ Some terms → TermsStand told terms
unfolding terms_in
terms_stand told at [] bytes terms there is =
    let same : ◌≡◌ {A = List TermPages} [] terms = let e : ◌≡◌ {A = Option (List TermPages)} (Some []) (Some terms) = is in cc in
    subst (TermsStand told) same tt
terms_stand told at (t ∷ ts) bytes terms there is =
    let first = then_some (pages_in at t.pages bytes)
    (λ pages. option_map (λ (terms : List TermPages). record { term = t.term; pages = pages } ∷ terms)
    (terms_in (at + 4096 * t.pages) ts (drop (4096 * t.pages) bytes))) terms is in
    let rest = map_some (terms_in (at + 4096 * t.pages) ts (drop (4096 * t.pages) bytes))
    (λ (terms : List TermPages). record { term = t.term; pages = first.0 } ∷ terms) terms first.1.1 in
    subst (TermsStand told) rest.1.1 (
      pages-stand told at t.pages bytes first.0 there first.1.0,
      terms_stand told (at + 4096 * t.pages) ts (drop (4096 * t.pages) bytes) rest.0
          (sym (drop-drop (4096 * t.pages) at told) ∙ ap (drop (4096 * t.pages)) there) rest.1.0,
    )

-- those of one term among them
pages_stand_of : (told : List ℕ) (terms : List TermPages) (term : List ℕ) → TermsStand told terms
    → AllByRecursion (StandsIn told) (pages_of terms term)
pages_stand_of told [] term h = tt
pages_stand_of told (t ∷ ts) term h =
    all_append (StandsIn told) (cond (bytes_eq term t.term) t.pages []) (pages_of ts term) (by (bytes_eq term t.term))
    (pages_stand_of told ts term h.1)
  where
    by : (b : Bool) → AllByRecursion (StandsIn told) (cond b t.pages [])
    by true = h.0
    by false = tt

-- ---- one behind the other

-- pages at these addresses end before a place
abbrev EndBefore : ℕ → List ℕ → Type 0
EndBefore end places = AllByRecursion (λ (at : ℕ). at + 4096 ≤ end) places

lie_on : (from end : ℕ) (places more : List ℕ) → from ≤ end → LieInTurn from places → EndBefore end places → LieInTurn end more
    → LieInTurn from (places ++ more)
lie_on from end [] [] up h ends more = tt
lie_on from end [] (at ∷ rest) up h ends more = (omega (arith, up, more.0), more.1)
lie_on from end (at ∷ places) more up h ends then = (h.0, lie_on (at + 4096) end places more ends.0 h.1 ends.1 then)

-- so many pages lie one behind the other, and end where the next ones begin
pages_lie : (at count : ℕ) (bytes : List ℕ) (pages : List Page) → pages_in at count bytes ≡ Some pages
    → LieInTurn at (map (λ (page : Page). page.head.at) pages) × EndBefore (at + 4096 * count) (map (λ (page : Page). page.head.at) pages)
unfolding pages_in
pages_lie at zero bytes pages is =
    let same : ◌≡◌ {A = List Page} [] pages = let e : ◌≡◌ {A = Option (List Page)} (Some []) (Some pages) = is in cc in
    subst (λ (ps : List Page). LieInTurn at (map (λ (page : Page). page.head.at) ps) × EndBefore (at + 4096 * 0) (map (λ (page : Page). page.head.at) ps))
    same (tt, tt)
pages_lie at (suc count) bytes pages is =
    let first = then_some (page_in (take 4096 bytes))
    (λ pairs. option_and_then (page_onto at pairs) (pages_in (at + 4096) count (drop 4096 bytes))) pages is in
    let rest = then_some (pages_in (at + 4096) count (drop 4096 bytes)) (page_onto at first.0) pages first.1.1 in
    let made : Some (page_at at first.0 ∷ rest.0) ≡ Some pages =
    if_some (are_before first.0 rest.0) (Some (page_at at first.0 ∷ rest.0)) pages rest.1.1 in
    let same : page_at at first.0 ∷ rest.0 ≡ pages = cc in
    let behind = pages_lie (at + 4096) count (drop 4096 bytes) rest.0 rest.1.0 in
    let place = ref_at at first.0 in
    subst (λ (ps : List Page). LieInTurn at (map (λ (page : Page). page.head.at) ps)
    × EndBefore (at + 4096 * suc count) (map (λ (page : Page). page.head.at) ps)) same (
      (omega (arith, place), subst (λ (n : ℕ). LieInTurn (n + 4096) (map (λ (page : Page). page.head.at) rest.0)) (sym place) behind.0),
      (omega (arith, place), subst (λ (n : ℕ). EndBefore n (map (λ (page : Page). page.head.at) rest.0)) (omega arith) behind.1),
    )

terms_lie : (at : ℕ) (kept : List kept.TermPages) (bytes : List ℕ) (terms : List TermPages) → terms_in at kept bytes ≡ Some terms
    → LieInTurn at (places_in terms)
unfolding terms_in
terms_lie at [] bytes terms is =
    let same : ◌≡◌ {A = List TermPages} [] terms = let e : ◌≡◌ {A = Option (List TermPages)} (Some []) (Some terms) = is in cc in
    subst (λ (ts : List TermPages). LieInTurn at (places_in ts)) same tt
terms_lie at (t ∷ ts) bytes terms is =
    let first = then_some (pages_in at t.pages bytes)
    (λ pages. option_map (λ (terms : List TermPages). record { term = t.term; pages = pages } ∷ terms)
    (terms_in (at + 4096 * t.pages) ts (drop (4096 * t.pages) bytes))) terms is in
    let rest = map_some (terms_in (at + 4096 * t.pages) ts (drop (4096 * t.pages) bytes))
    (λ (terms : List TermPages). record { term = t.term; pages = first.0 } ∷ terms) terms first.1.1 in
    let lie = pages_lie at t.pages bytes first.0 first.1.0 in
    subst (λ (ts : List TermPages). LieInTurn at (places_in ts)) rest.1.1
    (lie_on at (at + 4096 * t.pages) (map (λ (page : Page). page.head.at) first.0) (places_in rest.0) (omega arith) lie.0 lie.1
    (terms_lie (at + 4096 * t.pages) ts (drop (4096 * t.pages) bytes) rest.0 rest.1.0))

-- pages that stand in bytes end there
pages_end : (told : List ℕ) (pages : List Page) → AllByRecursion (StandsIn told) pages
    → EndBefore (length told) (map (λ (page : Page). page.head.at) pages)
pages_end told [] h = tt
pages_end told (page ∷ pages) h = (page_ends told page h.0, pages_end told pages h.1)

terms_end : (told : List ℕ) (lists : List TermPages) → TermsStand told lists → EndBefore (length told) (places_in lists)
terms_end told [] h = tt
terms_end told (list ∷ lists) h =
    all_append (λ (at : ℕ). at + 4096 ≤ length told) (map (λ (page : Page). page.head.at) list.pages) (places_in lists)
    (pages_end told list.pages h.0) (terms_end told lists h.1)

-- the pages of one term among them stand there
pub posted-stand : (bodies : List (List ℕ)) (lists : List TermPages) → PagesStand bodies lists → (term : List ℕ)
    → AllByRecursion (StandsIn (file_of bodies)) (pages_of lists term)
posted-stand bodies lists h term = pages_stand_of (file_of bodies) lists term h.each

-- ---- one record more

pub file_of-more : (before : List (List ℕ)) (body : List ℕ) → file_of (before ++ body ∷ []) ≡ file_of before ++ open_record body
file_of-more before body =
    ap (λ (l : List ℕ). magic ++ l) (flat_map-append open_record before (body ∷ [])
    ∙ ap (λ (l : List ℕ). flat_map open_record before ++ l) (append-nil (open_record body)))
    ∙ sym (append_assoc magic (flat_map open_record before) (open_record body))

longer : (before : List (List ℕ)) (body : List ℕ) (lists : List TermPages) → PagesStand before lists → PagesStand (before ++ body ∷ []) lists
longer before body lists h = record {
  each = subst (λ (told : List ℕ). TermsStand told lists) (sym (file_of-more before body))
      (all_map (λ (list : TermPages). AllByRecursion (StandsIn (file_of before)) list.pages)
      (λ (list : TermPages). AllByRecursion (StandsIn (file_of before ++ open_record body)) list.pages) lists
      (λ list. all_map (StandsIn (file_of before)) (StandsIn (file_of before ++ open_record body)) list.pages
      (stands-longer (file_of before) (open_record body))) h.each);
  in_turn = h.in_turn;
}

pub HavePages-longer : (before : List (List ℕ)) (body : List ℕ) (l : listing.Served) → HavePages before l → HavePages (before ++ body ∷ []) l
HavePages-longer before body l h = record {
  posted = longer before body l.listing.lists h.posted;
  merged = λ m is. longer before body m.lists (h.merged m is);
}

-- pages that end a body stand at its end in the file
ends_file : (before : List (List ℕ)) (body head pages : List ℕ) → body ≡ head ++ pages
    → drop (end_of before + 5 + length body - length pages) (file_of (before ++ body ∷ [])) ≡ pages
ends_file before body head pages is =
    let word = to_be_bytes w32 (length body) in
    let front : List ℕ = file_of before ++ (1 ∷ (word ++ head)) in
    let spelled : file_of (before ++ body ∷ []) ≡ front ++ pages =
    file_of-more before body ∙ ap (λ (b : List ℕ). file_of before ++ (1 ∷ (word ++ b))) is
    ∙ ap (λ (b : List ℕ). file_of before ++ (1 ∷ b)) (sym (append_assoc word head pages))
    ∙ sym (append_assoc (file_of before) (1 ∷ (word ++ head)) pages) in
    let long : length front ≡ end_of before + 5 + length body - length pages =
    omega (arith, length-append (file_of before) (1 ∷ (word ++ head)), length-append word head, ap length is, length-append head pages) in
    ap (drop (end_of before + 5 + length body - length pages)) spelled ∙ drop_at front pages (end_of before + 5 + length body - length pages) long

slice_long : (terms : List kept.TermPages) (pages : List ℕ) → length pages ≤ length (body_of (entry.Slice terms pages))
slice_long terms pages =
    let count = to_be_bytes w16 (length terms) in
    let head : List ℕ = count ++ flat_map term_body terms in
    let spelled : body_of (entry.Slice terms pages) ≡ (5 ∷ head) ++ pages =
    ap (λ (l : List ℕ). 5 ∷ l) (sym (append_assoc count (flat_map term_body terms) pages)) in
    omega (arith, ap length spelled, length-append (5 ∷ head) pages)

slice_ends : (before : List (List ℕ)) (terms : List kept.TermPages) (pages : List ℕ)
    → drop (pages_place before terms pages) (file_of (before ++ body_of (entry.Slice terms pages) ∷ [])) ≡ pages
slice_ends before terms pages =
    let count = to_be_bytes w16 (length terms) in
    ends_file before (body_of (entry.Slice terms pages)) (5 ∷ (count ++ flat_map term_body terms)) pages
    (ap (λ (l : List ℕ). 5 ∷ l) (sym (append_assoc count (flat_map term_body terms) pages)))

-- ---- edits

module _ (bodies : List (List ℕ)) where
  abbrev MergeHas : Option Merge → Type 0
  MergeHas o = (m : Merge) → o ≡ Some m → PagesStand bodies m.lists

  none_stand : PagesStand bodies []
  none_stand = record { each = tt; in_turn = tt }

  no_merge : MergeHas None
  no_merge m is = absurd (let e : None ≡ Some m = is in cc)

  touched_has : (o : Option Merge) (before now : List Document) → MergeHas o → MergeHas (option_map (λ m. touched m before now) o)
  touched_has o before now h m is =
      let old = map_some o (λ m. touched m before now) m is in
      subst (λ (m : Merge). PagesStand bodies m.lists) old.1.1 (h old.0 old.1.0)

  changed_has : (l : listing.Served) (now : List Document) → HavePages bodies l → HavePages bodies (listing.after l (listing.change now))
  changed_has l now h = record { posted = h.posted; merged = touched_has l.merge (documents_of l.listing) now h.merged }

  rows_have : (c : Catalog) (l : listing.Served) (at : ℕ) (rows : List Row) → HavePages bodies l → HavePages bodies (listed_with_rows c l at rows)
  unfolding listed_with_rows
  rows_have c l at [] h = h
  rows_have c l at (row ∷ rows) h =
      rows_have (catalog_with c (Insert at row)) (listed_after (catalog_with c (Insert at row)) l) at rows (changed_has l _ h)

  begun_has : (l : listing.Served) (c : Option Catalog) → HavePages bodies l → HavePages bodies (relisted c l edit.Begin)
  begun_has l None h = h
  begun_has l (Some c) h = record {
    posted = h.posted;
    merged = λ m is.
        let made = begin (rules_of c) (documents_of l.listing) in
        let same : made ≡ m = let e : Some made ≡ Some m = is in cc in
        subst (λ (m : Merge). PagesStand bodies m.lists) same none_stand;
  }

  published_has : (l : listing.Served) → HavePages bodies l → HavePages bodies (listing.after l listing.merge_publish)
  published_has l h = record { posted = by l.merge h.merged; merged = no_merge }
    where
      by : (o : Option Merge) → MergeHas o → PagesStand bodies (listing.published_with l.listing o).lists
      by None has = h.posted
      by (Some m) has = has m refl

  -- terms more, whose pages lie behind those before
  more_stand : (lists terms : List TermPages) (at : ℕ) → PagesStand bodies lists → EndBefore at (places_in lists)
      → TermsStand (file_of bodies) terms → LieInTurn at (places_in terms) → PagesStand bodies (lists ++ terms)
  more_stand lists terms at h ends stand lie = record {
    each = all_append (λ (list : TermPages). AllByRecursion (StandsIn (file_of bodies)) list.pages) lists terms h.each stand;
    in_turn = subst (LieInTurn 0) (sym (flat_map-append (λ (list : TermPages). map (λ (page : Page). page.head.at) list.pages) lists terms))
        (lie_on 0 at (places_in lists) (places_in terms) (omega arith) h.in_turn ends lie);
  }

  -- the pages of the merge end before a place
  abbrev MergeEnds : ℕ → Option Merge → Type 0
  MergeEnds at o = (m : Merge) → o ≡ Some m → EndBefore at (places_in m.lists)

  taken_has : (l : listing.Served) (terms : List TermPages) (at : ℕ) → HavePages bodies l → MergeEnds at l.merge
      → TermsStand (file_of bodies) terms → LieInTurn at (places_in terms) → HavePages bodies (with_terms l terms)
  taken_has l terms at h ends stand lie = record {
    posted = h.posted;
    merged = λ m is.
        let old = map_some l.merge (λ m. with_taken m terms) m is in
        subst (λ (m : Merge). PagesStand bodies m.lists) old.1.1
        (more_stand old.0.lists terms at (h.merged old.0 old.1.0) (ends old.0 old.1.0) stand lie);
  }

  -- the slice's bytes are the end of the file
  sliced_has : (l : listing.Served) (terms : List kept.TermPages) (pages : List ℕ) (at : ℕ) → drop at (file_of bodies) ≡ pages → HavePages bodies l
      → MergeEnds at l.merge → HavePages bodies (with_taken_terms l (taken_into l (slice_with terms pages) at))
  sliced_has l terms pages at there h ends = by (taken_into l (slice_with terms pages) at) refl
    where
      by : (o : Option (List TermPages)) → taken_into l (slice_with terms pages) at ≡ o → HavePages bodies (with_taken_terms l o)
      by None is = h
      by (Some taken) is =
          let m = then_some l.merge (λ m. taken_of m.last (slice_with terms pages) at) taken is in
          let read : terms_in at terms pages ≡ Some taken =
          if_some (ascend_behind m.0.last terms) (terms_in at terms pages) taken m.1.1 in
          taken_has l taken at h ends (terms_stand (file_of bodies) at terms pages taken there read) (terms_lie at terms pages taken read)

  plain_has : (set : Option Catalog) (l : listing.Served) (e : Edit) → IsPlain e → HavePages bodies l → HavePages bodies (relisted set l e)
  plain_has set l (edit.Schema s) plain h = record { posted = none_stand; merged = no_merge }
  plain_has None l (edit.Change change) plain h = h
  plain_has (Some c) l (edit.Change change) plain h = changed_has l _ h
  plain_has None l (edit.Load at rows) plain h = h
  plain_has (Some c) l (edit.Load at rows) plain h = rows_have c l at rows h
  plain_has set l edit.Begin plain h = absurd plain
  plain_has set l (edit.Slice terms pages at) plain h = absurd plain
  plain_has set l edit.Publish plain h = absurd plain

  next_has : (s next : Served) (e : Edit) → Some (served_with s e) ≡ Some next → HavePages bodies (relisted s.catalog s.listed e)
      → HavePages bodies next.listed
  next_has s next e is h =
      let same : served_with s e ≡ next = let k : Some (served_with s e) ≡ Some next = is in cc in
      subst (λ (t : Served). HavePages bodies t.listed) same h

  outcome_has : (s next : Served) (o : Outcome) → ComesToRows o → served_after s o ≡ Some next → HavePages bodies s.listed
      → HavePages bodies next.listed
  outcome_has s next (refused why) plain is h = absurd (let e : None ≡ Some next = is in cc)
  outcome_has s next (searches terms m k) plain is h = absurd (let e : None ≡ Some next = is in cc)
  outcome_has s next (edits made kept) plain is h = next_has s next made is (plain_has s.catalog s.listed made plain h)
  outcome_has s next (merges part) plain is h = absurd (let e : None ≡ Some next = is in cc)
  outcome_has s next merges_whole plain is h = absurd (let e : None ≡ Some next = is in cc)

  map_has : {X : Type 0} (s next : Served) (e : Edit) (o : Option X) → option_map (λ _. served_with s e) o ≡ Some next
      → HavePages bodies (relisted s.catalog s.listed e) → HavePages bodies next.listed
  map_has s next e None is h = absurd (let k : None ≡ Some next = is in cc)
  map_has s next e (Some x) is h = next_has s next e is h

  -- where nothing is forgotten but a merge
  settled_has : (s : Served) → HavePages bodies s.listed → HavePages bodies (settled s).listed
  settled_has s h = record { posted = h.posted; merged = no_merge }

-- the pages of a slice's record come behind those of the merge
merge_ends : (before : List (List ℕ)) (terms : List kept.TermPages) (pages : List ℕ) (l : listing.Served) → HavePages before l
    → MergeEnds (before ++ body_of (entry.Slice terms pages) ∷ []) (pages_place before terms pages) l.merge
merge_ends before terms pages l h m is =
    let long : length pages ≤ length (body_of (entry.Slice terms pages)) = slice_long terms pages in
    all_map (λ (at : ℕ). at + 4096 ≤ end_of before) (λ (at : ℕ). at + 4096 ≤ pages_place before terms pages) (places_in m.lists)
    (λ at ends. omega (arith, ends, long)) (terms_end (file_of before) m.lists (h.merged m is).each)

record_has : (before : List (List ℕ)) (s next : Served) (kept : Record) → after_record before s kept ≡ Some next
    → HavePages before s.listed → HavePages (before ++ body_of kept ∷ []) s.listed → HavePages (before ++ body_of kept ∷ []) next.listed
record_has before s next (entry.Schema text) is old h =
    let kept = entry.Schema text in
    outcome_has (before ++ body_of kept ∷ []) s next (entry_outcome s.catalog kept) (entry_plain s.catalog kept) is h
record_has before s next (entry.Change change) is old h =
    let kept = entry.Change change in
    outcome_has (before ++ body_of kept ∷ []) s next (entry_outcome s.catalog kept) (entry_plain s.catalog kept) is h
record_has before s next (entry.Load table header block) is old h =
    let kept = entry.Load table header block in
    outcome_has (before ++ body_of kept ∷ []) s next (entry_outcome s.catalog kept) (entry_plain s.catalog kept) is h
record_has before s next entry.Begin is old h =
    let bodies = before ++ body_of entry.Begin ∷ [] in
    map_has bodies s next edit.Begin s.catalog is (begun_has bodies s.listed s.catalog h)
record_has before s next (entry.Slice terms pages) is old h =
    let bodies = before ++ body_of (entry.Slice terms pages) ∷ [] in
    let at = pages_place before terms pages in
    map_has bodies s next (edit.Slice terms pages at) (taken_into s.listed (slice_with terms pages) at) is
    (sliced_has bodies s.listed terms pages at (slice_ends before terms pages) h (merge_ends before terms pages s.listed old))
record_has before s next entry.Publish is old h =
    let bodies = before ++ body_of entry.Publish ∷ [] in
    next_has bodies s next edit.Publish (if_some (may_publish s) (Some (served_with s edit.Publish)) next is) (published_has bodies s.listed h)

-- ---- all records

-- a record of which the body is the one that it has
pub pages-after : (before : List (List ℕ)) (s next : Served) (body : List ℕ) (kept : Record) → record_in body ≡ Some kept → body ≡ body_of kept
    → after_body before s body ≡ Some next → HavePages before s.listed → HavePages (before ++ body ∷ []) next.listed
pages-after before s next body kept says spelled is h =
    let made : after_record before s kept ≡ Some next = sym (ap (option_and_then (after_record before s)) says) ∙ is in
    subst (λ (b : List ℕ). HavePages (before ++ b ∷ []) next.listed) (sym spelled)
    (record_has before s next kept made h (HavePages-longer before (body_of kept) s.listed h))

pub pages-settled : (bodies : List (List ℕ)) (s : Served) → HavePages bodies s.listed → HavePages bodies (settled s).listed
pages-settled bodies s h = settled_has bodies s h

pub pages-none : HavePages [] empty.listed
pages-none = record { posted = none_stand []; merged = no_merge [] }

-- of bodies that are spelled as their records are
pub pages-replayed : (before : List (List ℕ)) (s next : Served) (bodies : List (List ℕ)) → AllByRecursion IsSpelled bodies
    → replayed before s bodies ≡ Some next → HavePages before s.listed → HavePages (before ++ bodies) next.listed
unfolding replayed
pages-replayed before s next [] spelled is h =
    let same : s ≡ next = let e : Some s ≡ Some next = is in cc in
    subst (λ (t : Served). HavePages (before ++ []) t.listed) same
    (subst (λ (bs : List (List ℕ)). HavePages bs s.listed) (sym (append-nil before)) h)
pages-replayed before s next (body ∷ bodies) spelled is h =
    let step = then_some (after_body before s body) (λ next. replayed (before ++ body ∷ []) next bodies) next is in
    let one = spelled.0 in
    let says : record_in body ≡ Some one.kept = ap record_in one.spelled ∙ record_in-body_of one.kept one.is_record in
    subst (λ (bs : List (List ℕ)). HavePages bs next.listed) (append_assoc before (body ∷ []) bodies)
    (pages-replayed (before ++ body ∷ []) step.0 next bodies spelled.1 step.1.1
    (pages-after before s step.0 body one.kept says one.spelled step.1.0 h))
