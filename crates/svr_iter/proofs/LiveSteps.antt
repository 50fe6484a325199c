-- The steps of taking the ids that stand at a key.
use Rattle.std.proofs.Common.{◌≡◌, ℕ, zero, suc, ◌+◌, ◌<◌, ◌≤◌, Bool, true, false, cond, List, [], ◌∷◌, ◌++◌, length, get_or, slice_index}
use Rattle.std.proofs.Common.{drop, filter, Option, Some, None, refl, ap, sym, subst, ◌∙◌, arith, add-one}
use Rattle.std.specs.List.Sorted.{IsStrictlyIncreasing}
use Rattle.std.proofs.lemmas.List.{append-nil, append_assoc}
use Rattle.svr_num.specs.declared.list_key.ListKey.{ListKey}
use Rattle.svr_listing.specs.Joined.{either}
use Rattle.svr_iter.specs.Marks.{ids_of, live_ids, mark_of, stands}
use Rattle.svr_iter.specs.Merging.{Above, Up, Up-from, above-less, all-either, with_id-first}
use Rattle.svr_iter.specs.Truths.{eq_less, eq_more, eq_self}
use Rattle.svr_iter.specs.declared.marks.Mark.{Mark}
use Rattle.svr_iter.specs.declared.marks.Marked.{Marked}
use Rattle.svr_iter.proofs.MergeSteps.{Up-drop, drop_at, drop_past, either-before, first_both}

-- an id below all marks has none
pub no_mark : (id : ℕ) (marks : List Marked) → Above id (ids_of marks) → mark_of id marks ≡ None
no_mark id [] a = refl
no_mark id (m ∷ ms) a = rw (eq_more id m.id a.0) (no_mark id ms a.1)

filter_first : (p : ℕ → Bool) (x : ℕ) (xs : List ℕ) → filter p (x ∷ xs) ≡ cond (p x) (x ∷ []) [] ++ filter p xs
filter_first p x xs = one (p x)
  where
    one : (b : Bool) → cond b (x ∷ filter p xs) (filter p xs) ≡ cond b (x ∷ []) [] ++ filter p xs
    one true = refl
    one false = refl

-- ids above a mark don't see it
past_mark : (entry : ℕ → Option ListKey) (key : ℕ) (m : Marked) (ms : List Marked) (xs : List ℕ) → Above m.id xs
    → filter (λ id. stands (entry id) key (mark_of id (m ∷ ms))) xs ≡ filter (λ id. stands (entry id) key (mark_of id ms)) xs
past_mark entry key m ms [] a = refl
past_mark entry key m ms (x ∷ xs) a =
    rw (eq_less m.id x a.0) (ap (λ (l : List ℕ). cond (stands (entry x) key (mark_of x ms)) (x ∷ l) l) (past_mark entry key m ms xs a.1))

abbrev pub kept : (ℕ → Option ListKey) → ℕ → ℕ → Option Mark → List ℕ
kept entry key id mark = cond (stands (entry id) key mark) (id ∷ []) []

posted_first : (entry : ℕ → Option ListKey) (key x : ℕ) (xs : List ℕ) (ms : List Marked) → Above x (ids_of ms)
    → live_ids entry key ms (x ∷ xs) ≡ kept entry key x None ++ live_ids entry key ms xs
posted_first entry key x xs ms a =
    ap (filter (λ id. stands (entry id) key (mark_of id ms))) (either-before x (ids_of ms) xs a)
    ∙ filter_first (λ id. stands (entry id) key (mark_of id ms)) x (either (ids_of ms) xs)
    ∙ ap (λ (o : Option Mark). kept entry key x o ++ live_ids entry key ms xs) (no_mark x ms a)

marked_tail : (entry : ℕ → Option ListKey) (key : ℕ) (m : Marked) (ms : List Marked) (xs : List ℕ) → Above m.id (either (ids_of ms) xs)
    → filter (λ id. stands (entry id) key (mark_of id (m ∷ ms))) (m.id ∷ either (ids_of ms) xs)
    ≡ kept entry key m.id (Some m.mark) ++ live_ids entry key ms xs
marked_tail entry key m ms xs a =
    filter_first (λ id. stands (entry id) key (mark_of id (m ∷ ms))) m.id (either (ids_of ms) xs)
    ∙ ap (λ (b : Bool). kept entry key m.id (cond b (Some m.mark) (mark_of m.id ms)) ++ filter
    (λ id. stands (entry id) key (mark_of id (m ∷ ms))) (either (ids_of ms) xs)) (eq_self m.id)
    ∙ ap (λ (l : List ℕ). kept entry key m.id (Some m.mark) ++ l) (past_mark entry key m ms (either (ids_of ms) xs) a)

marked_first : (entry : ℕ → Option ListKey) (key : ℕ) (m : Marked) (ms : List Marked) (xs : List ℕ) → Above m.id (ids_of ms)
    → Above m.id xs
    → live_ids entry key (m ∷ ms) xs ≡ kept entry key m.id (Some m.mark) ++ live_ids entry key ms xs
marked_first entry key m ms xs up a =
    let above = all-either (λ id. m.id < id) (ids_of ms) xs up a in
    ap (filter (λ id. stands (entry id) key (mark_of id (m ∷ ms)))) (with_id-first m.id (either (ids_of ms) xs) above)
    ∙ marked_tail entry key m ms xs above

both_first : (entry : ℕ → Option ListKey) (key x : ℕ) (m : Marked) (ms : List Marked) (xs : List ℕ) → m.id ≡ x → Above m.id (ids_of ms)
    → Up (ids_of ms) → Above x xs
    → live_ids entry key (m ∷ ms) (x ∷ xs) ≡ kept entry key m.id (Some m.mark) ++ live_ids entry key ms xs
both_first entry key x m ms xs e up rest a =
    let above = all-either (λ id. m.id < id) (ids_of ms) xs up (subst (λ (n : ℕ). Above n xs) (sym e) a) in
    ap (filter (λ id. stands (entry id) key (mark_of id (m ∷ ms)))) (first_both m.id x (ids_of ms) xs (up, rest) e)
    ∙ marked_tail entry key m ms xs above

pub drop_mark : (ms : List Marked) (j : ℕ) (d : Marked) → j < length ms → drop j ms ≡ get_or ms j d ∷ drop (j + 1) ms
drop_mark [] j d lt = absurd (omega arith)
drop_mark (m ∷ ms) zero d lt = refl
drop_mark (m ∷ ms) (suc j) d lt = rw add-one (rw add-one at (drop_mark ms j d (omega arith)))

pub drop_marks : (ms : List Marked) (j : ℕ) → length ms ≤ j → drop j ms ≡ []
drop_marks [] zero le = refl
drop_marks [] (suc j) le = refl
drop_marks (m ∷ ms) zero le = absurd (omega arith)
drop_marks (m ∷ ms) (suc j) le = drop_marks ms j (omega arith)

Up-marks : (j : ℕ) (ms : List Marked) → Up (ids_of ms) → Up (ids_of (drop j ms))
Up-marks zero ms up = up
Up-marks (suc j) [] up = tt
Up-marks (suc j) (m ∷ ms) up = Up-marks j ms up.1

-- ---- the steps, where these ids came so far

step : (so all rest rest' new : List ℕ) → so ++ rest ≡ all → rest ≡ new ++ rest' → (so ++ new) ++ rest' ≡ all
step so all rest rest' new e first = append_assoc so new rest' ∙ sym (ap (λ (l : List ℕ). so ++ l) first) ∙ e

pub step_posted : (entry : ℕ → Option ListKey) (key : ℕ) (so all xs : List ℕ) (ms : List Marked) (i j : ℕ) (d : Marked) → Up (ids_of ms)
    → i < length xs → j < length ms
    → slice_index xs i < (get_or ms j d).id → so ++ live_ids entry key (drop j ms) (drop i xs) ≡ all
    → (so ++ kept entry key (slice_index xs i) None) ++ live_ids entry key (drop j ms) (drop (i + 1) xs) ≡ all
step_posted entry key so all xs ms i j d up li lj lt e =
    step so all _ _ _ e (
    let marks = subst (λ (l : List Marked). Up (ids_of l)) (drop_mark ms j d lj) (Up-marks j ms up) in
    rw (drop_at xs i li, drop_mark ms j d lj)
    (posted_first entry key (slice_index xs i) (drop (i + 1) xs) (get_or ms j d ∷ drop (j + 1) ms)
    (lt, above-less _ _ (ids_of (drop (j + 1) ms)) lt marks.0)))

pub step_marked : (entry : ℕ → Option ListKey) (key : ℕ) (so all xs : List ℕ) (ms : List Marked) (i j : ℕ) (d : Marked) → Up (ids_of ms)
    → IsStrictlyIncreasing xs → i < length xs → j < length ms
    → (get_or ms j d).id < slice_index xs i → so ++ live_ids entry key (drop j ms) (drop i xs) ≡ all
    → (so ++ kept entry key (get_or ms j d).id (Some (get_or ms j d).mark)) ++ live_ids entry key (drop (j + 1) ms) (drop i xs) ≡ all
step_marked entry key so all xs ms i j d up rise li lj lt e =
    step so all _ _ _ e (
    let marks = subst (λ (l : List Marked). Up (ids_of l)) (drop_mark ms j d lj) (Up-marks j ms up) in
    let ids = subst Up (drop_at xs i li) (Up-drop i xs (Up-from xs rise)) in
    rw (drop_at xs i li, drop_mark ms j d lj)
    (marked_first entry key (get_or ms j d) (drop (j + 1) ms) (slice_index xs i ∷ drop (i + 1) xs) marks.0
    (lt, above-less _ _ (drop (i + 1) xs) lt ids.0)))

pub step_both : (entry : ℕ → Option ListKey) (key : ℕ) (so all xs : List ℕ) (ms : List Marked) (i j : ℕ) (d : Marked) → Up (ids_of ms)
    → IsStrictlyIncreasing xs → i < length xs → j < length ms
    → (get_or ms j d).id ≡ slice_index xs i → so ++ live_ids entry key (drop j ms) (drop i xs) ≡ all
    → (so ++ kept entry key (get_or ms j d).id (Some (get_or ms j d).mark)) ++ live_ids entry key (drop (j + 1) ms) (drop (i + 1) xs)
    ≡ all
step_both entry key so all xs ms i j d up rise li lj same e =
    step so all _ _ _ e (
    let marks = subst (λ (l : List Marked). Up (ids_of l)) (drop_mark ms j d lj) (Up-marks j ms up) in
    let ids = subst Up (drop_at xs i li) (Up-drop i xs (Up-from xs rise)) in
    rw (drop_at xs i li, drop_mark ms j d lj)
    (both_first entry key (slice_index xs i) (get_or ms j d) (drop (j + 1) ms) (drop (i + 1) xs) same marks.0 marks.1 ids.0))

pub only_posted : (entry : ℕ → Option ListKey) (key : ℕ) (so all xs : List ℕ) (i : ℕ) → i < length xs
    → so ++ live_ids entry key [] (drop i xs) ≡ all
    → (so ++ kept entry key (slice_index xs i) None) ++ live_ids entry key [] (drop (i + 1) xs) ≡ all
only_posted entry key so all xs i li e =
    step so all _ _ _ e (rw (drop_at xs i li) (posted_first entry key (slice_index xs i) (drop (i + 1) xs) [] tt))

pub only_marked : (entry : ℕ → Option ListKey) (key : ℕ) (so all : List ℕ) (ms : List Marked) (j : ℕ) (d : Marked) → Up (ids_of ms)
    → j < length ms → so ++ live_ids entry key (drop j ms) [] ≡ all
    → (so ++ kept entry key (get_or ms j d).id (Some (get_or ms j d).mark)) ++ live_ids entry key (drop (j + 1) ms) [] ≡ all
only_marked entry key so all ms j d up lj e =
    step so all _ _ _ e (
    let marks = subst (λ (l : List Marked). Up (ids_of l)) (drop_mark ms j d lj) (Up-marks j ms up) in
    rw (drop_mark ms j d lj) (marked_first entry key (get_or ms j d) (drop (j + 1) ms) [] marks.0 tt))

pub ends_posted : (entry : ℕ → Option ListKey) (key : ℕ) (so all xs : List ℕ) (i : ℕ) → length xs ≤ i
    → so ++ live_ids entry key [] (drop i xs) ≡ all → so ≡ all
ends_posted entry key so all xs i le e = sym (append-nil so)
    ∙ sym (ap (λ (l : List ℕ). so ++ live_ids entry key [] l) (drop_past xs i le)) ∙ e

pub ends_marked : (entry : ℕ → Option ListKey) (key : ℕ) (so all : List ℕ) (ms : List Marked) (j : ℕ) → length ms ≤ j
    → so ++ live_ids entry key (drop j ms) [] ≡ all → so ≡ all
ends_marked entry key so all ms j le e = sym (append-nil so)
    ∙ sym (ap (λ (l : List Marked). so ++ live_ids entry key l []) (drop_marks ms j le)) ∙ e
