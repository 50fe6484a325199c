-- What a run over several terms makes of a document's marks.
use Rattle.std.proofs.Common.{◌≡◌, ℕ, zero, suc, ◌+◌, ◌<◌, ◌==◌, ◌&&◌, ◌||◌, Bool, true, false, not, cond, List, [], ◌∷◌, length, take}
use Rattle.std.proofs.Common.{Option, Some, Less, refl, sym, ap, subst, ◌∙◌}
use Rattle.std.specs.Bool.{one_answer}
use Rattle.std.specs.Cmp.Lexicographic.{slice_cmp}
use Rattle.std.specs.List.{AllByRecursion, slice_get}
use Rattle.std.specs.List.Sorted.{IsStrictlySortedBy}
use Rattle.std.specs.Ordering.{is_eq, nat_cmp}
use Rattle.std.specs.Str.{bytes_eq}
use Rattle.std.proofs.lemmas.List.Folds.{list_any_more}
use Rattle.std.proofs.lemmas.Map.Text.{is_eq-slice_cmp}
use Rattle.std.proofs.lemmas.Option.{get_or_from_slice_get}
use Rattle.std.proofs.lemmas.Slice.Eq.{bytes_eq-Decides}
use Rattle.svr_iter.specs.declared.marks.Mark.{Mark}
use Rattle.svr_short.specs.Layout.{IsTurned, mark_turned, turned_at}
use Rattle.svr_short.specs.Short.{HasMarks, KeepsOthers, Lists, lacks, mark_in}
use Rattle.svr_tokens.specs.Tokens.{has_term}

pub IsTurned-same : (first now : Lists) (id key : ℕ) (mark : Mark) (some others : List ℕ → Bool) → ((t : List ℕ) → some t ≡ others t)
    → IsTurned first now id key mark some → IsTurned first now id key mark others
IsTurned-same first now id key mark some others same turned = record {
  others = turned.others;
  marks = λ t at. turned.marks t at
      ∙ ap (λ (b : Bool). cond ((key == at) && b) (mark_turned mark (mark_in first t at id)) (mark_in first t at id)) (same t);
}

-- ---- one term more

same_way : (s t : List ℕ) → bytes_eq s t ≡ bytes_eq t s
same_way s t = one_answer (bytes_eq s t) (bytes_eq t s) (bytes_eq-Decides s t)
    (λ e. sym ((bytes_eq-Decides t s).0 e), λ e. (bytes_eq-Decides t s).1 (sym e))

all_get : (P : List ℕ → Type 0) (ts : List (List ℕ)) (i : ℕ) (t : List ℕ) → AllByRecursion P ts → slice_get ts i ≡ Some t → P t
all_get P [] i t all e = absurd (cc)
all_get P (x ∷ ts) zero t all e = let same : x ≡ t = cc in subst P same all.0
all_get P (x ∷ ts) (suc i) t all e = all_get P ts i t all.1 e

-- ascending terms stand once each
not_before : (ts : List (List ℕ)) (i : ℕ) (term t : List ℕ) → IsStrictlySortedBy (slice_cmp nat_cmp) ts → slice_get ts i ≡ Some term
    → bytes_eq term t ≡ true → has_term (take i ts) t ≡ false
unfolding IsStrictlySortedBy
not_before [] i term t sorted e same = absurd (cc)
not_before (x ∷ ts) zero term t sorted e same = refl
not_before (x ∷ ts) (suc i) term t sorted e same =
    neither (bytes_eq t x) (has_term (take i ts) t) differ (not_before ts i term t sorted.1 e same)
  where
    neither : (a b : Bool) → a ≡ false → b ≡ false → (a || b) ≡ false
    neither true b d f = d
    neither false b d f = f

    less : slice_cmp nat_cmp x term ≡ Less
    less = all_get (λ y. slice_cmp nat_cmp x y ≡ Less) ts i term sorted.0 e

    differ : bytes_eq t x ≡ false
    differ = same_way t x ∙ ap (bytes_eq x) (sym ((bytes_eq-Decides term t).0 same)) ∙ sym (is_eq-slice_cmp x term) ∙ ap is_eq less

step : (k h b : Bool) (f : Option Mark → Option Mark) (x : Option Mark) → (b ≡ true → h ≡ false)
    → cond (k && b) (f (cond (k && h) (f x) x)) (cond (k && h) (f x) x) ≡ cond (k && (h || b)) (f x) x
step false h b f x apart = refl
step true h true f x apart =
    ap (λ (g : Bool). f (cond g (f x) x)) (apart refl) ∙ sym (ap (λ (g : Bool). cond (g || true) (f x) x) (apart refl))
step true true false f x apart = refl
step true false false f x apart = refl

or_true : (b : Bool) → (b || true) ≡ true
or_true true = refl
or_true false = refl

or_none : (b : Bool) → (b || false) ≡ b
or_none true = refl
or_none false = refl

more : (ts : List (List ℕ)) (i : ℕ) (term t : List ℕ) → i < length ts → slice_get ts i ≡ Some term
    → has_term (take (i + 1) ts) t ≡ (has_term (take i ts) t || bytes_eq term t)
more ts i term t lt here =
    list_any_more (bytes_eq t) ts i [] lt
    ∙ ap (λ (s : List ℕ). has_term (take i ts) t || bytes_eq t s) (get_or_from_slice_get ts i term [] here)
    ∙ ap (λ (b : Bool). has_term (take i ts) t || b) (same_way t term)

-- one more that was not turned before
turned-more : (first now new : Lists) (id key : ℕ) (mark : Mark) (some : List ℕ → Bool) (term : List ℕ)
    → ((t : List ℕ) → bytes_eq term t ≡ true → some t ≡ false) → IsTurned first now id key mark some
    → KeepsOthers now new id → HasMarks new id (turned_at key term mark (λ t at. mark_in now t at id))
    → IsTurned first new id key mark (λ t. some t || bytes_eq term t)
turned-more first now new id key mark some term apart turned keeps marks = record {
  others = λ t at other differ. keeps t at other differ ∙ turned.others t at other differ;
  marks = λ t at. marks t at
      ∙ ap (λ (o : Option Mark). cond ((key == at) && bytes_eq term t) (mark_turned mark o) o) (turned.marks t at)
      ∙ step (key == at) (some t) (bytes_eq term t) (mark_turned mark) (mark_in first t at id) (apart t);
}

pub IsTurned-more : (first now new : Lists) (id key : ℕ) (mark : Mark) (ts : List (List ℕ)) (i : ℕ) (term : List ℕ)
    → IsStrictlySortedBy (slice_cmp nat_cmp) ts → i < length ts → slice_get ts i ≡ Some term
    → IsTurned first now id key mark (has_term (take i ts))
    → KeepsOthers now new id → HasMarks new id (turned_at key term mark (λ t at. mark_in now t at id))
    → IsTurned first new id key mark (has_term (take (i + 1) ts))
IsTurned-more first now new id key mark ts i term sorted lt here turned keeps marks =
    IsTurned-same first new id key mark (λ t. has_term (take i ts) t || bytes_eq term t) (has_term (take (i + 1) ts))
    (λ t. sym (more ts i term t lt here))
    (turned-more first now new id key mark (has_term (take i ts)) term (λ t. not_before ts i term t sorted here) turned keeps marks)

-- ---- the same for those terms alone that are not among others

pub IsTurned-new : (first now new : Lists) (id key : ℕ) (mark : Mark) (ts others : List (List ℕ)) (i : ℕ) (term : List ℕ)
    → IsStrictlySortedBy (slice_cmp nat_cmp) ts → i < length ts → slice_get ts i ≡ Some term → has_term others term ≡ false
    → IsTurned first now id key mark (lacks others (take i ts))
    → KeepsOthers now new id → HasMarks new id (turned_at key term mark (λ t at. mark_in now t at id))
    → IsTurned first new id key mark (lacks others (take (i + 1) ts))
IsTurned-new first now new id key mark ts others i term sorted lt here lack turned keeps marks =
    IsTurned-same first new id key mark (λ t. lacks others (take i ts) t || bytes_eq term t) (lacks others (take (i + 1) ts))
    (λ t. by t (has_term (take i ts) t) (bytes_eq term t) refl
    ∙ ap (λ (b : Bool). b && not (has_term others t)) (sym (more ts i term t lt here)))
    (turned-more first now new id key mark (lacks others (take i ts)) term
    (λ t e. ap (λ (b : Bool). b && not (has_term others t)) (not_before ts i term t sorted here e)) turned keeps marks)
  where
    other : (t : List ℕ) → bytes_eq term t ≡ true → has_term others t ≡ false
    other t e = ap (has_term others) (sym ((bytes_eq-Decides term t).0 e)) ∙ lack

    by : (t : List ℕ) (h b : Bool) → bytes_eq term t ≡ b
        → ((h && not (has_term others t)) || b) ≡ ((h || b) && not (has_term others t))
    by t true true e = or_true (not (has_term others t)) ∙ sym (ap not (other t e))
    by t true false e = or_none (not (has_term others t))
    by t false true e = sym (ap not (other t e))
    by t false false e = refl

pub IsTurned-passed : (first now : Lists) (id key : ℕ) (mark : Mark) (ts others : List (List ℕ)) (i : ℕ) (term : List ℕ)
    → i < length ts → slice_get ts i ≡ Some term → has_term others term ≡ true
    → IsTurned first now id key mark (lacks others (take i ts))
    → IsTurned first now id key mark (lacks others (take (i + 1) ts))
IsTurned-passed first now id key mark ts others i term lt here has turned =
    IsTurned-same first now id key mark (lacks others (take i ts)) (lacks others (take (i + 1) ts))
    (λ t. by t (has_term (take i ts) t) (bytes_eq term t) refl
    ∙ ap (λ (b : Bool). b && not (has_term others t)) (sym (more ts i term t lt here))) turned
  where
    by : (t : List ℕ) (h b : Bool) → bytes_eq term t ≡ b → (h && not (has_term others t)) ≡ ((h || b) && not (has_term others t))
    by t true b e = refl
    by t false true e = sym (ap not (ap (has_term others) (sym ((bytes_eq-Decides term t).0 e)) ∙ has))
    by t false false e = refl
