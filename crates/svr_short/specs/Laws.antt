-- The marks of a term are in order, whatever the lists.
use Rattle.std.proofs.Common.{◌≡◌, ℕ, ◌<◌, ◌^◌, ◌==◌, ◌&&◌, Bool, true, false, cond, List, [], ◌∷◌, map, filter, nat_lt, Option, Some}
use Rattle.std.proofs.Common.{None, refl, ap}
use Rattle.std.specs.List.{AllByRecursion}
use Rattle.svr_iter.specs.KeyLaws.{AreDescending, descending-all, descending-down}
use Rattle.svr_iter.specs.Marks.{AreMarks, IsMarksAt, MarksAt, ids_of}
use Rattle.svr_iter.specs.Merging.{Up, Up-with_id, all-with_id}
use Rattle.svr_iter.specs.Truths.{and_right, eq_from, lt_from}
use Rattle.svr_iter.specs.declared.marks.Mark.{Mark}
use Rattle.svr_iter.specs.declared.marks.Marked.{Marked}
use Rattle.svr_listing.specs.Joined.{with_id}
use Rattle.svr_short.specs.Short.{Lists, is_under, keys_under, marks_of, marks_under, number_of, under_number, with_mark}
use Rattle.svr_short.specs.declared.place.Place.{Place}

-- the ids with a mark more are those with its id more
pub ids-with_mark : (m : Marked) (ms : List Marked) → ids_of (with_mark m ms) ≡ with_id m.id (ids_of ms)
ids-with_mark m [] = refl
ids-with_mark m (n ∷ ms) = one (nat_lt m.id n.id) (m.id == n.id) refl (ids-with_mark m ms)
  where
    one : (a b : Bool) → (m.id == n.id) ≡ b → ids_of (with_mark m ms) ≡ with_id m.id (ids_of ms)
        → ids_of (cond a (m ∷ n ∷ ms) (cond b (m ∷ ms) (n ∷ with_mark m ms)))
        ≡ cond a (m.id ∷ n.id ∷ ids_of ms) (cond b (n.id ∷ ids_of ms) (n.id ∷ with_id m.id (ids_of ms)))
    one true b e rest = refl
    one false true e rest = ap (λ (x : ℕ). x ∷ ids_of ms) (eq_from m.id n.id e)
    one false false e rest = ap (λ (xs : List ℕ). n.id ∷ xs) rest

abbrev pub AreUnder : List ℕ → Type 0
AreUnder ids = Up ids × AllByRecursion (λ id. id < 2 ^ 63) ids

pub are_under : (n key : ℕ) (es : List (Place × Mark)) → AreUnder (ids_of (marks_under n key es))
are_under n key [] = (tt, tt)
are_under n key (e ∷ es) = one (is_under n key e.0) refl (are_under n key es)
  where
    one : (b : Bool) → is_under n key e.0 ≡ b → AreUnder (ids_of (marks_under n key es))
        → AreUnder (ids_of (cond b (with_mark (record { id = e.0.id; mark = e.1 }) (marks_under n key es)) (marks_under n key es)))
    one true is rest =
        rw (ids-with_mark (record { id = e.0.id; mark = e.1 }) (marks_under n key es)) (
          Up-with_id e.0.id _ rest.0,
          all-with_id (λ id. id < 2 ^ 63) e.0.id _
              (lt_from e.0.id (2 ^ 63) (and_right _ _ (and_right _ _ is))) rest.1,
        )
    one false is rest = rest

keys_fit : (n : ℕ) (es : List (Place × Mark))
    → AllByRecursion (λ key. key < 2 ^ 48) (map (λ (e : Place × Mark). e.0.key) (filter (λ e. (e.0.term == n) && nat_lt e.0.key (2 ^ 48)) es))
keys_fit n [] = tt
keys_fit n (e ∷ es) = one ((e.0.term == n) && nat_lt e.0.key (2 ^ 48)) refl (keys_fit n es)
  where
    one : (b : Bool) → ((e.0.term == n) && nat_lt e.0.key (2 ^ 48)) ≡ b
        → AllByRecursion (λ key. key < 2 ^ 48) (map (λ (e : Place × Mark). e.0.key) (filter (λ e. (e.0.term == n) && nat_lt e.0.key (2 ^ 48)) es))
        → AllByRecursion (λ key. key < 2 ^ 48) (map (λ (e : Place × Mark). e.0.key)
        (cond b (e ∷ filter (λ e. (e.0.term == n) && nat_lt e.0.key (2 ^ 48)) es) (filter (λ e. (e.0.term == n) && nat_lt e.0.key (2 ^ 48)) es)))
    one true is rest = (lt_from e.0.key (2 ^ 48) (and_right _ _ is), rest)
    one false is rest = rest

each_key : (n : ℕ) (es : List (Place × Mark)) (ks : List ℕ) → AllByRecursion (λ key. key < 2 ^ 48) ks
    → AllByRecursion IsMarksAt (map {B = MarksAt} (λ key. record { key = key; marks = marks_under n key es }) ks)
each_key n es [] fit = tt
each_key n es (k ∷ ks) fit = (
  record { key_fits = fit.0; ascending = (are_under n k es).0; ids_fit = (are_under n k es).1 },
  each_key n es ks fit.1,
)

keys_back : (n : ℕ) (es : List (Place × Mark)) (ks : List ℕ) → AreDescending ks
    → AreDescending (map (λ marks_at. marks_at.key) (map {B = MarksAt} (λ key. record { key = key; marks = marks_under n key es }) ks))
keys_back n es ks down = rw (back ks) down
  where
    back : (ks : List ℕ) → map (λ (marks_at : MarksAt). marks_at.key)
        (map {B = MarksAt} (λ key. record { key = key; marks = marks_under n key es }) ks) ≡ ks
    back [] = refl
    back (k ∷ ks) = ap (λ (xs : List ℕ). k ∷ xs) (back ks)

under_number-lawful : (es : List (Place × Mark)) (n : Option ℕ) → AreMarks (under_number es n)
under_number-lawful es None = record { descend = tt; each = tt }
under_number-lawful es (Some n) = record {
  descend = keys_back n es (keys_under n es)
      (descending-down (map (λ (e : Place × Mark). e.0.key) (filter (λ e. (e.0.term == n) && nat_lt e.0.key (2 ^ 48)) es)));
  each = each_key n es (keys_under n es) (descending-all (λ key. key < 2 ^ 48)
      (map (λ (e : Place × Mark). e.0.key) (filter (λ e. (e.0.term == n) && nat_lt e.0.key (2 ^ 48)) es)) (keys_fit n es));
}

pub marks_of-lawful : (lists : Lists) (term : List ℕ) → AreMarks (marks_of lists term)
marks_of-lawful lists term = under_number-lawful lists.marks (number_of lists.numbers term)
