-- The groups of one term keep the law of postings.
use Rattle.std.proofs.Common.{◌≡◌, ℕ, ◌<◌, ◌^◌, ◌==◌, ◌&&◌, Bool, true, false, cond, List, [], ◌∷◌, map, Option, Some, None, refl, ap, ◌∙◌}
use Rattle.std.specs.List.{AllByRecursion, flat_map}
use Rattle.std.specs.Option.{IfSome, option_map_or}
use Rattle.svr_num.specs.declared.list_key.ListKey.{ListKey}
use Rattle.svr_postpage.specs.declared.page_ref.PageRef.{PageRef}
use Rattle.svr_listing.specs.Groups.{AreGroups, Descends, IsGroup, first_key}
use Rattle.svr_listing.specs.declared.group.Group.{Group}
use Rattle.svr_iter.specs.Taking.{IsLess}
use Rattle.svr_listing.specs.Joined.{either, ids_at, keys_in}
use Rattle.svr_iter.specs.Keys.{greatest}
use Rattle.svr_iter.specs.GroupLaws.{all-append, down_groups, filter-all, first_group, from_all, law_groups, less_first, part_at, to_all, Up-filter}
use Rattle.svr_iter.specs.KeyLaws.{AllLess, descending-all, descending-down, first-keys, keys_of}
use Rattle.svr_iter.specs.Merging.{Up, Up-either, Up-from, Up-to, all-either}
use Rattle.svr_iter.specs.Truths.{and_left, if_at}
use Rattle.svr_iter.specs.declared.marks.Mark.{Mark}
use Rattle.svr_iter.specs.declared.marks.Marked.{Marked}
use Rattle.svr_iter.specs.Marks.{AreMarks, IsMarksAt, MarksAt, added_below, every, has_add, ids_of, is_below, is_listed, live_groups, live_ids, mark_of, marks_at, next_add, stands}

-- ---- the marks

pub marks_law : (key : ℕ) (all : List MarksAt) → key < 2 ^ 48 → AllByRecursion IsMarksAt all
    → Up (ids_of (marks_at key all)) × AllByRecursion (λ id. id < 2 ^ 63) (ids_of (marks_at key all))
marks_law key [] lt each = (tt, tt)
marks_law key (m ∷ ms) lt each =
    if_at (m.key == key) (λ (l : List Marked). Up (ids_of l) × AllByRecursion (λ id. id < 2 ^ 63) (ids_of l)) m.marks (marks_at key ms)
    (each.0.ascending, each.0.ids_fit) (marks_law key ms lt each.1)

pub marks_up : (key : ℕ) (all : List MarksAt) → AreMarks all → Up (ids_of (marks_at key all))
marks_up key [] are = tt
marks_up key (m ∷ ms) are =
    if_at (m.key == key) (λ (l : List Marked). Up (ids_of l)) m.marks (marks_at key ms) are.each.0.ascending
    (marks_up key ms (record { descend = are.descend.1; each = are.each.1 }))

added-first-step : (b : Bool) (g : Group) (gs : List Group) (o : Option ℕ) → first_key gs ≡ o
    → first_key (cond b (g ∷ gs) gs) ≡ cond b (Some g.key) o
added-first-step true g gs o e = refl
added-first-step false g gs o e = e

pub added-first : (below : Option ℕ) (all : List MarksAt) → first_key (added_below below all) ≡ next_add below all
added-first below [] = refl
added-first below (m ∷ ms) = added-first-step (is_below m.key below && has_add m.marks) _ (added_below below ms) (next_add below ms)
    (added-first below ms)

added-less : (below : Option ℕ) (key : ℕ) (all : List MarksAt) → AllLess key (map (λ one. one.key) all)
    → AllByRecursion (λ (group : Group). group.key < key) (added_below below all)
added-less below key [] less = tt
added-less below key (m ∷ ms) less =
    if_at (is_below m.key below && has_add m.marks) (AllByRecursion (λ (group : Group). group.key < key))
    (record { key = m.key; ids = ids_of m.marks } ∷ added_below below ms) (added_below below ms)
    (less.0, added-less below key ms less.1) (added-less below key ms less.1)

pub added-down : (below : Option ℕ) (all : List MarksAt) → AreMarks all → Descends (added_below below all)
added-down below [] are = tt
added-down below (m ∷ ms) are =
    let rest = added-down below ms (record { descend = are.descend.1; each = are.each.1 }) in
    if_at (is_below m.key below && has_add m.marks) Descends (record { key = m.key; ids = ids_of m.marks } ∷ added_below below ms)
    (added_below below ms)
    (added-less below m.key ms are.descend.0, rest) rest

added-fits : (below : Option ℕ) (all : List MarksAt) → AllByRecursion IsMarksAt all
    → AllByRecursion (λ key. key < 2 ^ 48) (keys_of (added_below below all))
added-fits below [] each = tt
added-fits below (m ∷ ms) each =
    if_at (is_below m.key below && has_add m.marks) (λ (l : List Group). AllByRecursion (λ key. key < 2 ^ 48) (keys_of l))
    (record { key = m.key; ids = ids_of m.marks } ∷ added_below below ms) (added_below below ms)
    (each.0.key_fits, added-fits below ms each.1) (added-fits below ms each.1)

pub next-fits : (below : Option ℕ) (all : List MarksAt) → AllByRecursion IsMarksAt all → IfSome (next_add below all) (λ key. key < 2 ^ 48)
next-fits below [] each = tt
next-fits below (m ∷ ms) each =
    if_at (is_below m.key below && has_add m.marks) (λ (o : Option ℕ). IfSome o (λ key. key < 2 ^ 48)) (Some m.key)
    (next_add below ms) each.0.key_fits (next-fits below ms each.1)

-- ---- the ids at a key

stands_listed : (entry : ℕ → Option ListKey) (key id : ℕ) (mark : Option Mark) → stands (entry id) key mark ≡ true
    → is_listed entry key id ≡ true
stands_listed entry key id mark e = one (entry id) e
  where
    one : (o : Option ListKey) → stands o key mark ≡ true → option_map_or (λ at. at.key == key) o false ≡ true
    one None f = absurd (cc)
    one (Some at) f = and_left (at.key == key) _ f

pub live_group : (entry : ℕ → Option ListKey) (key : ℕ) (marks : List Marked) (posted : List ℕ) → key < 2 ^ 48 → Up (ids_of marks)
    → AllByRecursion (λ id. id < 2 ^ 63) (ids_of marks)
    → IsGroup every (record { key = key; ids = posted })
    → IsGroup (is_listed entry) (record { key = key; ids = live_ids entry key marks posted })
live_group entry key marks posted lt up fit is =
    let ids = either (ids_of marks) posted in
    let test : ℕ → Bool = λ id. stands (entry id) key (mark_of id marks) in
    let fits = all-either (λ id. id < 2 ^ 63) (ids_of marks) posted fit (from_all _ posted is.ordered.ids_fit) in
    record {
      ordered = record {
        key_fits = lt;
        ascending = Up-to _ (Up-filter test ids (Up-either (ids_of marks) posted (Up-from posted is.ordered.ascending)));
        ids_fit = to_all _ _ (filter-all (λ id. id < 2 ^ 63) (λ id. id < 2 ^ 63) test ids (λ x p e. p) fits);
      };
      allowed = to_all _ _ (filter-all (λ id. id < 2 ^ 63) (λ id. is_listed entry key id ≡ true) test ids
          (λ x p e. stands_listed entry key x (mark_of x marks) e) fits);
    }

posted-fits : (posted : List Group) → AllByRecursion (IsGroup every) posted → AllByRecursion (λ key. key < 2 ^ 48) (keys_of posted)
posted-fits [] each = tt
posted-fits (g ∷ gs) each = (each.0.ordered.key_fits, posted-fits gs each.1)

pub live-lawful : (entry : ℕ → Option ListKey) (all : List MarksAt) (below next : Option ℕ) (posted : List Group) → AreMarks all
    → AreGroups every next posted
    → AreGroups (is_listed entry) (greatest (next ∷ next_add below all ∷ [])) (live_groups entry all below posted)
live-lawful entry all below next posted marks are =
    let lists : List (List Group) = posted ∷ added_below below all ∷ [] in
    record {
      begin = first_group _ (keys_in lists) ∙ first-keys lists (are.descend, (added-down below all marks, tt))
          ∙ ap (λ (o : Option ℕ). greatest (o ∷ first_key (added_below below all) ∷ [])) are.begin
          ∙ ap (λ (o : Option ℕ). greatest (next ∷ o ∷ [])) (added-first below all);
      descend = down_groups _ (keys_in lists) (descending-down (flat_map (λ list. keys_of list) lists));
      each = law_groups _ _ (keys_in lists)
          (λ key lt. let m = marks_law key all lt marks.each in live_group entry key (marks_at key all) (ids_at key posted) lt m.0 m.1
          (part_at every key posted lt are.each))
          (descending-all _ (flat_map (λ list. keys_of list) lists)
          (all-append _ (keys_of posted) _ (posted-fits posted are.each)
          (all-append _ (keys_of (added_below below all)) [] (added-fits below all marks.each) tt)));
    }

pub live-gone : (next : Option ℕ) (pages : ℕ → List PageRef) (add : Option ℕ) → ((key : ℕ) → IsLess next (Some key) → pages key ≡ [])
    → (key : ℕ)
    → IsLess (greatest (next ∷ add ∷ [])) (Some key) → pages key ≡ []
live-gone next pages add gone key less = gone key (less_first next (greatest (add ∷ [])) key less).0
