-- What the marks of a term, key by key, have of one document.
use Rattle.std.proofs.Common.{◌≡◌, ℕ, ◌^◌, ◌==◌, ◌&&◌, ◌||◌, Bool, true, false, cond, List, [], ◌∷◌, map, filter, nat_lt, Option, Some}
use Rattle.std.proofs.Common.{None, refl, sym, ap, subst, ◌∙◌}
use Rattle.std.specs.BTreeMap.{is_at}
use Rattle.svr_listing.specs.Joined.{is_in}
use Rattle.svr_listing.proofs.Answering.{any-descending}
use Rattle.svr_iter.specs.Marks.{MarksAt, mark_of, marks_at}
use Rattle.svr_iter.specs.Truths.{and_right, both_true, eq_from, eq_true}
use Rattle.svr_iter.specs.declared.marks.Mark.{Mark}
use Rattle.svr_iter.specs.declared.marks.Marked.{Marked}
use Rattle.svr_short.specs.Short.{Lists, is_under, keys_under, mark_at, mark_by, mark_in, marks_of, marks_under, number_of, place_cmp}
use Rattle.svr_short.specs.Short.{under_number, with_mark}
use Rattle.svr_short.specs.declared.place.Place.{Place}
use Rattle.svr_short.proofs.Keeping.{at_self, by_bool, same_place}
use Rattle.svr_short.proofs.Places.{place_at, under_from, under_place, under_to}

abbrev pub Entry : Type 0
Entry = Place × Mark

abbrev pub marked : Entry → Marked
marked e = record { id = e.0.id; mark = e.1 }

mark_of-with_mark : (id : ℕ) (m : Marked) (ms : List Marked)
    → mark_of id (with_mark m ms) ≡ cond (m.id == id) (Some m.mark) (mark_of id ms)
mark_of-with_mark id m [] = refl
mark_of-with_mark id m (x ∷ ms) = one (nat_lt m.id x.id) (m.id == x.id) refl (mark_of-with_mark id m ms)
  where
    same : (x.id == id) ≡ (m.id == id) → (b : Bool) → (m.id == id) ≡ b
        → cond b (Some m.mark) (mark_of id ms) ≡ cond b (Some m.mark) (cond (x.id == id) (Some x.mark) (mark_of id ms))
    same e true f = refl
    same e false f = sym (ap (λ (b : Bool). cond b (Some x.mark) (mark_of id ms)) (e ∙ f))

    apart : (m.id == x.id) ≡ false → (a b : Bool) → (x.id == id) ≡ a → (m.id == id) ≡ b
        → cond a (Some x.mark) (cond b (Some m.mark) (mark_of id ms)) ≡ cond b (Some m.mark) (cond a (Some x.mark) (mark_of id ms))
    apart e true true f g = let h = eq_true m.id x.id (eq_from m.id id g ∙ sym (eq_from x.id id f)) in absurd (cc)
    apart e true false f g = refl
    apart e false true f g = refl
    apart e false false f g = refl

    one : (a b : Bool) → (m.id == x.id) ≡ b → mark_of id (with_mark m ms) ≡ cond (m.id == id) (Some m.mark) (mark_of id ms)
        → mark_of id (cond a (m ∷ x ∷ ms) (cond b (m ∷ ms) (x ∷ with_mark m ms)))
        ≡ cond (m.id == id) (Some m.mark) (cond (x.id == id) (Some x.mark) (mark_of id ms))
    one true b e rest = refl
    one false true e rest = same (ap (λ (k : ℕ). k == id) (sym (eq_from m.id x.id e))) (m.id == id) refl
    one false false e rest = ap (λ (o : Option Mark). cond (x.id == id) (Some x.mark) o) rest ∙ apart e (x.id == id) (m.id == id) refl refl

-- one entry more
one_more : (n key id : ℕ) (e : Entry) (es : List Entry)
    → mark_of id (marks_under n key es) ≡ cond (nat_lt id (2 ^ 63)) (mark_at es (place_at n key id)) None
    → mark_of id (marks_under n key (e ∷ es)) ≡ cond (nat_lt id (2 ^ 63)) (mark_at (e ∷ es) (place_at n key id)) None
one_more n key id e es rest = by_bool (HasMark (is_under n key e.0)) (is_under n key e.0) here there
  where
    HasMark : Bool → Type 0
    HasMark b = mark_of id (cond b (with_mark (marked e) (marks_under n key es)) (marks_under n key es))
        ≡ cond (nat_lt id (2 ^ 63)) (cond (is_at (place_cmp (place_at n key id)) e.0) (Some e.1) (mark_at es (place_at n key id))) None

    not_here : (is_at (place_cmp (place_at n key id)) e.0 ≡ true → ⊥) → is_at (place_cmp (place_at n key id)) e.0 ≡ false
    not_here never = by_bool (is_at (place_cmp (place_at n key id)) e.0 ≡ false) (is_at (place_cmp (place_at n key id)) e.0)
        (λ f. absurd (never f)) (λ f. f)

    passed : (b : Bool) → (b ≡ true → is_at (place_cmp (place_at n key id)) e.0 ≡ false)
        → cond b (mark_at es (place_at n key id)) None
        ≡ cond b (cond (is_at (place_cmp (place_at n key id)) e.0) (Some e.1) (mark_at es (place_at n key id))) None
    passed true f = sym (ap (λ (b : Bool). cond b (Some e.1) (mark_at es (place_at n key id))) (f refl))
    passed false f = refl

    found : is_under n key e.0 ≡ true → (e.0.id == id) ≡ true → Some e.1
        ≡ cond (nat_lt id (2 ^ 63)) (cond (is_at (place_cmp (place_at n key id)) e.0) (Some e.1) (mark_at es (place_at n key id))) None
    found f g =
        let is = under_from n key e.0 f in
        let same : e.0.id ≡ id = eq_from e.0.id id g in
        let here : e.0 ≡ place_at n key id = under_place n key e.0 is ∙ ap (λ (x : ℕ). place_at n key x) same in
        let fit : nat_lt id (2 ^ 63) ≡ true = subst (λ (x : ℕ). nat_lt x (2 ^ 63) ≡ true) same is.fits in
        let at : is_at (place_cmp (place_at n key id)) e.0 ≡ true =
        subst (λ (p : Place). is_at (place_cmp p) e.0 ≡ true) here (at_self e.0) in
        sym (ap (λ (b : Bool). cond b (cond (is_at (place_cmp (place_at n key id)) e.0) (Some e.1) (mark_at es (place_at n key id))) None)
        fit ∙ ap (λ (b : Bool). cond b (Some e.1) (mark_at es (place_at n key id))) at)

    here : is_under n key e.0 ≡ true → HasMark (is_under n key e.0)
    here f = subst HasMark (sym f) (mark_of-with_mark id (marked e) (marks_under n key es)
        ∙ by_bool (cond (e.0.id == id) (Some e.1) (mark_of id (marks_under n key es))
        ≡ cond (nat_lt id (2 ^ 63)) (cond (is_at (place_cmp (place_at n key id)) e.0) (Some e.1) (mark_at es (place_at n key id))) None)
        (e.0.id == id)
        (λ g. ap (λ (b : Bool). cond b (Some e.1) (mark_of id (marks_under n key es))) g ∙ found f g)
        (λ g. ap (λ (b : Bool). cond b (Some e.1) (mark_of id (marks_under n key es))) g ∙ rest
        ∙ passed (nat_lt id (2 ^ 63)) (λ _. not_here (λ h. differ g (same_place (place_at n key id) e.0 h)))))
      where
        differ : (e.0.id == id) ≡ false → place_at n key id ≡ e.0 → ⊥
        differ g same = let h = eq_true e.0.id id (ap (λ (p : Place). p.id) (sym same)) in absurd (cc)

    there : is_under n key e.0 ≡ false → HasMark (is_under n key e.0)
    there f = subst HasMark (sym f) (rest ∙ passed (nat_lt id (2 ^ 63))
        (λ fit. not_here (λ h. under fit (same_place (place_at n key id) e.0 h))))
      where
        under : nat_lt id (2 ^ 63) ≡ true → place_at n key id ≡ e.0 → ⊥
        under fit same =
            let yes = subst (λ (p : Place). is_under n key p ≡ true) same
            (under_to n key (place_at n key id) (record { term = refl; key_is = refl; fits = fit })) in
            absurd (cc)

-- the mark of a document among those under a number at a key
pub mark_of-marks_under : (n key id : ℕ) (es : List Entry)
    → mark_of id (marks_under n key es) ≡ cond (nat_lt id (2 ^ 63)) (mark_at es (place_at n key id)) None
mark_of-marks_under n key id [] = none (nat_lt id (2 ^ 63))
  where
    none : (b : Bool) → None ≡ cond {A = Option Mark} b None None
    none true = refl
    none false = refl
mark_of-marks_under n key id (e ∷ es) = one_more n key id e es (mark_of-marks_under n key id es)

-- ---- the marks at one key

abbrev pub under : ℕ → List Entry → ℕ → MarksAt
under n es key = record { key = key; marks = marks_under n key es }

marks_at-keys : (n key : ℕ) (es : List Entry) (ks : List ℕ)
    → marks_at key (map {B = MarksAt} (under n es) ks) ≡ cond (is_in key ks) (marks_under n key es) []
marks_at-keys n key es [] = refl
marks_at-keys n key es (k ∷ ks) = one (k == key) refl (marks_at-keys n key es ks)
  where
    one : (b : Bool) → (k == key) ≡ b → marks_at key (map {B = MarksAt} (under n es) ks) ≡ cond (is_in key ks) (marks_under n key es) []
        → cond b (marks_under n k es) (marks_at key (map {B = MarksAt} (under n es) ks))
        ≡ cond (b || is_in key ks) (marks_under n key es) []
    one true e rest = ap (λ (x : ℕ). marks_under n x es) (eq_from k key e)
    one false e rest = rest

abbrev pub is_key : ℕ → Entry → Bool
is_key n e = (e.0.term == n) && nat_lt e.0.key (2 ^ 48)

neither : (a b : Bool) → (a || b) ≡ false → (a ≡ false) × (b ≡ false)
neither true b f = absurd (cc)
neither false b f = (refl, f)

-- a key that is not among those under the number has no marks
pub none_under : (n key : ℕ) (es : List Entry) → nat_lt key (2 ^ 48) ≡ true
    → is_in key (map (λ (e : Entry). e.0.key) (filter (is_key n) es)) ≡ false → marks_under n key es ≡ []
none_under n key [] fit none = refl
none_under n key (e ∷ es) fit none = by_bool (IsNone (is_under n key e.0)) (is_under n key e.0) (λ f. absurd (there f))
    (λ f. subst IsNone (sym f) (none_under n key es fit rest))
  where
    IsNone : Bool → Type 0
    IsNone b = cond b (with_mark (marked e) (marks_under n key es)) (marks_under n key es) ≡ []

    split : (b : Bool) → is_in key (map (λ (x : Entry). x.0.key) (cond b (e ∷ filter (is_key n) es) (filter (is_key n) es))) ≡ false
        → (is_in key (map (λ (x : Entry). x.0.key) (filter (is_key n) es)) ≡ false) × (b ≡ true → (e.0.key == key) ≡ false)
    split true f = (
      (neither (e.0.key == key) (is_in key (map (λ (x : Entry). x.0.key) (filter (is_key n) es))) f).1,
      λ _. (neither (e.0.key == key) (is_in key (map (λ (x : Entry). x.0.key) (filter (is_key n) es))) f).0,
    )
    split false f = (f, λ g. absurd (cc))

    rest : is_in key (map (λ (x : Entry). x.0.key) (filter (is_key n) es)) ≡ false
    rest = (split (is_key n e) none).0

    there : is_under n key e.0 ≡ true → ⊥
    there f =
        let is = under_from n key e.0 f in
        let low : nat_lt e.0.key (2 ^ 48) ≡ true = subst (λ (x : ℕ). nat_lt x (2 ^ 48) ≡ true) (sym is.key_is) fit in
        let term = eq_true e.0.term n is.term in
        let key_is = eq_true e.0.key key is.key_is in
        let no = (split (is_key n e) none).1 (both_true (e.0.term == n) (nat_lt e.0.key (2 ^ 48)) term low) in
        absurd (cc)

-- keys under a number are within their range
in_fits : (n key : ℕ) (es : List Entry) → is_in key (map (λ (e : Entry). e.0.key) (filter (is_key n) es)) ≡ true
    → nat_lt key (2 ^ 48) ≡ true
in_fits n key [] e = absurd (cc)
in_fits n key (x ∷ es) e = one (is_key n x) refl e (in_fits n key es)
  where
    one : (b : Bool) → is_key n x ≡ b
        → is_in key (map (λ (y : Entry). y.0.key) (cond b (x ∷ filter (is_key n) es) (filter (is_key n) es))) ≡ true
        → (is_in key (map (λ (y : Entry). y.0.key) (filter (is_key n) es)) ≡ true → nat_lt key (2 ^ 48) ≡ true) → nat_lt key (2 ^ 48) ≡ true
    one true f g rest = by_bool (nat_lt key (2 ^ 48) ≡ true) (x.0.key == key)
        (λ h. subst (λ (k : ℕ). nat_lt k (2 ^ 48) ≡ true) (eq_from x.0.key key h) (and_right (x.0.term == n) (nat_lt x.0.key (2 ^ 48)) f))
        (λ h. rest (sym (ap (λ (b : Bool). b || is_in key (map (λ (y : Entry). y.0.key) (filter (is_key n) es))) h) ∙ g))
    one false f g rest = rest g

pub in_keys_under : (n key : ℕ) (es : List Entry)
    → is_in key (keys_under n es) ≡ is_in key (map (λ (e : Entry). e.0.key) (filter (is_key n) es))
in_keys_under n key es = any-descending (λ k. k == key) (map (λ (e : Entry). e.0.key) (filter (is_key n) es))

pub marks_at-under : (n key : ℕ) (es : List Entry)
    → marks_at key (under_number es (Some n)) ≡ cond (nat_lt key (2 ^ 48)) (marks_under n key es) []
marks_at-under n key es = marks_at-keys n key es (keys_under n es)
    ∙ ap (λ (b : Bool). cond b (marks_under n key es) []) (in_keys_under n key es)
    ∙ by_in (is_in key (map (λ (e : Entry). e.0.key) (filter (is_key n) es))) refl
  where
    by_fit : (b : Bool) → (b ≡ true → marks_under n key es ≡ []) → [] ≡ cond b (marks_under n key es) []
    by_fit true f = sym (f refl)
    by_fit false f = refl

    by_in : (b : Bool) → is_in key (map (λ (e : Entry). e.0.key) (filter (is_key n) es)) ≡ b
        → cond b (marks_under n key es) [] ≡ cond (nat_lt key (2 ^ 48)) (marks_under n key es) []
    by_in true e = sym (ap (λ (b : Bool). cond b (marks_under n key es) []) (in_fits n key es e))
    by_in false e = by_fit (nat_lt key (2 ^ 48)) (λ fit. none_under n key es fit e)

-- the mark that a search finds of a document under a term at a key is the one that the lists have there
pub mark_of-marks_of : (lists : Lists) (term : List ℕ) (key id : ℕ)
    → mark_of id (marks_at key (marks_of lists term)) ≡ mark_in lists term key id
mark_of-marks_of lists term key id = by_number (number_of lists.numbers term)
  where
    both : (a b : Bool) (ms : List Marked) (o : Option Mark) → mark_of id ms ≡ cond b o None
        → mark_of id (cond a ms []) ≡ cond (a && b) o None
    both true b ms o e = e
    both false b ms o e = refl

    by_number : (o : Option ℕ) → mark_of id (marks_at key (under_number lists.marks o)) ≡ mark_by lists.marks o key id
    by_number None = refl
    by_number (Some n) = ap (mark_of id) (marks_at-under n key lists.marks)
        ∙ both (nat_lt key (2 ^ 48)) (nat_lt id (2 ^ 63)) (marks_under n key lists.marks) (mark_at lists.marks (place_at n key id))
        (mark_of-marks_under n key id lists.marks)
