-- What a mark that is given to a document, or taken from it, makes of its marks.
use Rattle.std.proofs.Common.{◌≡◌, ℕ, ◌<◌, ◌^◌, ◌==◌, ◌&&◌, Bool, true, false, cond, List, Option, Some, None, refl, sym, ap, subst, ◌∙◌}
use Rattle.std.specs.BTreeMap.{is_at}
use Rattle.std.specs.Option.{IsSome}
use Rattle.std.specs.Str.{bytes_eq}
use Rattle.std.proofs.lemmas.Slice.Eq.{bytes_eq-Decides}
use Rattle.svr_iter.specs.Truths.{and_left, and_right, both_true, eq_from, eq_true, lt_true}
use Rattle.svr_iter.specs.declared.marks.Mark.{Mark}
use Rattle.svr_iter.specs.declared.marks.Mark.TheVariants as mark
use Rattle.svr_short.specs.Layout.{AreMarked, AreNumbers, IsAlone, SetsMark, mark_turned, turned_at}
use Rattle.svr_short.specs.Short.{HasMarks, Lists, StandsAt, fits, mark_at, mark_by, mark_in, number_of, place_cmp}
use Rattle.svr_short.specs.declared.place.Holding.{Holding}
use Rattle.svr_short.specs.declared.place.Place.{Place}
use Rattle.svr_short.proofs.Keeping.{at_self, by_bool, same_place}

-- what the lists' invariant says of them as they are seen
pub record Known (v : Lists) : Type 0 where
  pub apart : (s t : List ℕ) (n : ℕ) → number_of v.numbers s ≡ Some n → number_of v.numbers t ≡ Some n → s ≡ t
  pub key_fits : (p : Place) → IsSome (mark_at v.marks p) → p.key < 2 ^ 48
  pub id_fits : (p : Place) → IsSome (mark_at v.marks p) → p.id < 2 ^ 63

pub known_of : {count : ℕ} {adds : Place → Bool} {held : Holding → Option ℕ} (numbers : List (List ℕ × ℕ)) (marks : List (Place × Mark))
    (v : Lists) → record { numbers = numbers; marks = marks } ≡ v → AreNumbers count (number_of numbers)
    → AreMarked count (mark_at marks) adds held → Known v
known_of numbers marks v view_is are marked =
    subst Known view_is (record { apart = are.apart; key_fits = marked.key_fits; id_fits = marked.id_fits })

-- the marks of all terms are as they were
abbrev pub Stays : Lists → Lists → Type 0
Stays old mid = (t : List ℕ) (key id : ℕ) → mark_in mid t key id ≡ mark_in old t key id

pub fits_true : (key id : ℕ) → key < 2 ^ 48 → id < 2 ^ 63 → fits key id ≡ true
fits_true key id a b = both_true _ _ (lt_true key (2 ^ 48) a) (lt_true id (2 ^ 63) b)

-- the mark under a number that a term has
pub mark_under : (v : Lists) (t : List ℕ) (n key id : ℕ) → number_of v.numbers t ≡ Some n → fits key id ≡ true
    → mark_in v t key id ≡ mark_at v.marks (record { term = n; key = key; id = id })
mark_under v t n key id given fit =
    ap (λ (o : Option ℕ). mark_by v.marks o key id) given
    ∙ ap (λ (b : Bool). cond b (mark_at v.marks (record { term = n; key = key; id = id })) None) fit

pub alone_turned : (old mid : Lists) (t : List ℕ) (p : Place) → Known mid → number_of mid.numbers t ≡ Some p.term → Stays old mid
    → StandsAt old p.id p.key → IsAlone (mark_at mid.marks) p
alone_turned old mid t p known given stays stands q some same =
    let term : q.term ≡ p.term = ap (λ (h : Holding). h.term) same in
    let id : q.id ≡ p.id = ap (λ (h : Holding). h.id) same in
    let fit = fits_true q.key q.id (known.key_fits q some) (known.id_fits q some) in
    let there : IsSome (mark_in mid t q.key q.id) =
    subst (λ (o : Option Mark). IsSome o) (sym (mark_under mid t q.term q.key q.id (given ∙ ap Some (sym term)) fit)) some in
    stands t q.key (subst (λ (x : ℕ). IsSome (mark_in old t q.key x)) id
    (subst (λ (o : Option Mark). IsSome o) (stays t q.key q.id) there))

pub turned : (old mid new : Lists) (term : List ℕ) (p : Place) (mark : Mark) (w : Option Mark) → Known mid
    → number_of mid.numbers term ≡ Some p.term → Stays old mid → new.numbers ≡ mid.numbers
    → SetsMark (mark_at mid.marks) (mark_at new.marks) p w → w ≡ mark_turned mark (mark_at mid.marks p) → p.key < 2 ^ 48 → p.id < 2 ^ 63
    → HasMarks new p.id (turned_at p.key term mark (λ t at. mark_in old t at p.id))
turned old mid new term p mark w known given stays numbers sets is key_fits id_fits =
    λ t at. by_bool (HasTurned t at) ((p.key == at) && bytes_eq term t) (here t at) (there t at)
  where
    HasTurned : List ℕ → ℕ → Type 0
    HasTurned t at = mark_in new t at p.id ≡ turned_at p.key term mark (λ t at. mark_in old t at p.id) t at

    fit : fits p.key p.id ≡ true
    fit = fits_true p.key p.id key_fits id_fits

    given_new : number_of new.numbers term ≡ Some p.term
    given_new = ap (λ (ns : List (List ℕ × ℕ)). number_of ns term) numbers ∙ given

    at_place : mark_in new term p.key p.id ≡ mark_turned mark (mark_in old term p.key p.id)
    at_place = mark_under new term p.term p.key p.id given_new fit ∙ sets p
        ∙ ap (λ (b : Bool). cond b w (mark_at mid.marks p)) (at_self p) ∙ is
        ∙ ap (mark_turned mark) (sym (mark_under mid term p.term p.key p.id given fit) ∙ stays term p.key p.id)

    here : (t : List ℕ) (at : ℕ) → ((p.key == at) && bytes_eq term t) ≡ true
        → mark_in new t at p.id ≡ turned_at p.key term mark (λ t at. mark_in old t at p.id) t at
    here t at e =
        subst (λ (x : ℕ). mark_in new t x p.id ≡ mark_turned mark (mark_in old t x p.id))
        (eq_from p.key at (and_left (p.key == at) (bytes_eq term t) e))
        (subst (λ (x : List ℕ). mark_in new x p.key p.id ≡ mark_turned mark (mark_in old x p.key p.id))
        ((bytes_eq-Decides term t).0 (and_right (p.key == at) (bytes_eq term t) e)) at_place)
        ∙ sym (ap (λ (b : Bool). cond b (mark_turned mark (mark_in old t at p.id)) (mark_in old t at p.id)) e)

    not_there : (t : List ℕ) (at m : ℕ) → ((p.key == at) && bytes_eq term t) ≡ false → number_of mid.numbers t ≡ Some m
        → is_at (place_cmp p) (record { term = m; key = at; id = p.id }) ≡ true
        → is_at (place_cmp p) (record { term = m; key = at; id = p.id }) ≡ false
    not_there t at m e f g =
        let same = same_place p (record { term = m; key = at; id = p.id }) g in
        let key : (p.key == at) ≡ true = eq_true p.key at (ap (λ (x : Place). x.key) same) in
        let term_is : term ≡ t = known.apart term t m (given ∙ ap (λ (x : Place). Some x.term) same) f in
        let both = both_true (p.key == at) (bytes_eq term t) key ((bytes_eq-Decides term t).1 term_is) in absurd (cc)

    same_at : (t : List ℕ) (at : ℕ) → ((p.key == at) && bytes_eq term t) ≡ false → (o : Option ℕ) → number_of mid.numbers t ≡ o
        → mark_by new.marks o at p.id ≡ mark_by mid.marks o at p.id
    same_at t at e None f = refl
    same_at t at e (Some m) f = let r : Place = record { term = m; key = at; id = p.id } in
        ap (λ (o : Option Mark). cond (fits at p.id) o None) (sets r ∙ ap (λ (b : Bool). cond b w (mark_at mid.marks r))
        (by_bool _ (is_at (place_cmp p) r) (not_there t at m e f) (λ g. g)))

    there : (t : List ℕ) (at : ℕ) → ((p.key == at) && bytes_eq term t) ≡ false
        → mark_in new t at p.id ≡ turned_at p.key term mark (λ t at. mark_in old t at p.id) t at
    there t at e = ap (λ (ns : List (List ℕ × ℕ)). mark_by new.marks (number_of ns t) at p.id) numbers
        ∙ same_at t at e (number_of mid.numbers t) refl ∙ stays t at p.id
        ∙ sym (ap (λ (b : Bool). cond b (mark_turned mark (mark_in old t at p.id)) (mark_in old t at p.id)) e)

pub turned_none : (mark : Mark) (o : Option Mark) → o ≡ None → Some mark ≡ mark_turned mark o
turned_none mark.Add o e = ap (mark_turned mark.Add) (sym e)
turned_none mark.Rem o e = ap (mark_turned mark.Rem) (sym e)

pub turned_same : (mark : Mark) (o : Option Mark) → o ≡ Some mark → Some mark ≡ mark_turned mark o
turned_same mark.Add o e = ap (mark_turned mark.Add) (sym e)
turned_same mark.Rem o e = ap (mark_turned mark.Rem) (sym e)

pub turned_other : (mark before : Mark) (o : Option Mark) → o ≡ Some before → (before ≡ mark → ⊥) → None ≡ mark_turned mark o
turned_other mark.Add mark.Add o e differ = absurd (differ refl)
turned_other mark.Add mark.Rem o e differ = ap (mark_turned mark.Add) (sym e)
turned_other mark.Rem mark.Add o e differ = ap (mark_turned mark.Rem) (sym e)
turned_other mark.Rem mark.Rem o e differ = absurd (differ refl)
