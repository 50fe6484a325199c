-- Whether there is an Add under a number.
use Rattle.std.proofs.Common.{◌≡◌, ℕ, ◌==◌, ◌&&◌, ◌||◌, Bool, true, false, cond, List, [], ◌∷◌, Option, Some, None, refl, sym, ap}
use Rattle.std.proofs.Common.{subst, ◌∙◌}
use Rattle.std.specs.BTreeMap.{is_at}
use Rattle.std.specs.List.{list_any}
use Rattle.svr_iter.specs.Truths.{and_left, and_right, both_true, eq_from, eq_true, or_left, or_right}
use Rattle.svr_iter.specs.declared.marks.Mark.{Mark}
use Rattle.svr_short.specs.Layout.{any_add, has_add}
use Rattle.svr_short.specs.Short.{mark_at, place_cmp}
use Rattle.svr_short.specs.declared.place.Place.{Place}
use Rattle.svr_short.proofs.Keeping.{by_bool, same_place}

-- what a look-up finds is one of the entries
among : (test : Place → Bool) (p : Place) (es : List (Place × Mark)) → (mark_at es p ≡ None → ⊥) → test p ≡ true
    → list_any (λ (e : Place × Mark). test e.0) es ≡ true
among test p [] some e = absurd (some refl)
among test p (x ∷ es) some e = by_bool _ (is_at (place_cmp p) x.0)
    (λ f. or_left (test x.0) _ (subst (λ (q : Place). test q ≡ true) (same_place p x.0 f) e))
    (λ f. or_right (test x.0) _ (among test p es (λ none. some (ap (λ (b : Bool). cond b (Some x.1) (mark_at es p)) f ∙ none)) e))

no_add_none : (o : Option Mark) → has_add o ≡ true → o ≡ None → ⊥
no_add_none None e f = absurd (cc)
no_add_none (Some mark) e f = absurd (cc)

pub any_add-there : (marks : List (Place × Mark)) (p : Place) (n : ℕ) → p.term ≡ n → has_add (mark_at marks p) ≡ true
    → any_add marks n ≡ true
any_add-there marks p n term e = among (λ (q : Place). (q.term == n) && has_add (mark_at marks q)) p marks
    (no_add_none (mark_at marks p) e) (both_true (p.term == n) (has_add (mark_at marks p)) (eq_true p.term n term) e)

pub any_add-none : (marks : List (Place × Mark)) (n : ℕ) → ((p : Place) → p.term ≡ n → has_add (mark_at marks p) ≡ false)
    → any_add marks n ≡ false
any_add-none marks n none = all marks
  where
    neither : (a b : Bool) → a ≡ false → b ≡ false → (a || b) ≡ false
    neither true b d f = d
    neither false b d f = f

    one : (p : Place) → ((p.term == n) && has_add (mark_at marks p)) ≡ false
    one p = by_bool _ (p.term == n) (λ e. ap (λ (b : Bool). b && has_add (mark_at marks p)) e ∙ none p (eq_from p.term n e))
        (λ e. ap (λ (b : Bool). b && has_add (mark_at marks p)) e)

    all : (es : List (Place × Mark)) → list_any (λ (e : Place × Mark). (e.0.term == n) && has_add (mark_at marks e.0)) es ≡ false
    all [] = refl
    all (x ∷ es) = neither _ _ (one x.0) (all es)

-- a place with an Add under the number
pub record AddUnder (marks : List (Place × Mark)) (n : ℕ) : Type 0 where
  pub place : Place
  pub term : place.term ≡ n
  pub there : has_add (mark_at marks place) ≡ true

pub any_add-some : (marks : List (Place × Mark)) (n : ℕ) → any_add marks n ≡ true → AddUnder marks n
any_add-some marks n some = from marks some
  where
    from : (es : List (Place × Mark)) → list_any (λ (e : Place × Mark). (e.0.term == n) && has_add (mark_at marks e.0)) es ≡ true
        → AddUnder marks n
    from [] e = absurd (cc)
    from (x ∷ es) e = by_bool _ ((x.0.term == n) && has_add (mark_at marks x.0))
        (λ f. record {
          place = x.0;
          term = eq_from x.0.term n (and_left (x.0.term == n) (has_add (mark_at marks x.0)) f);
          there = and_right (x.0.term == n) (has_add (mark_at marks x.0)) f;
        })
        (λ f. from es (sym (ap (λ (b : Bool). b || list_any (λ (e : Place × Mark). (e.0.term == n) && has_add (mark_at marks e.0)) es) f)
        ∙ e))
