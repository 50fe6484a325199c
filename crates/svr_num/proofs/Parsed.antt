-- What `parse` reads, as a function of the bytes.
use Rattle.std.proofs.Common.{◌≡◌, ◌≢◌, ◌^◌, ◌<◌, ◌==◌, ◌&&◌, ℕ, zero, suc, ℤ, pos, negsuc}
use Rattle.std.proofs.Common.{Bool, true, false, cond, List, [], ◌∷◌, length, drop, get_or, nat_lt, Some, None}
use Rattle.std.proofs.Common.{Result, Ok, Err, MatchResult, FitsSigned, Bor, refl, sym, ap, subst, Decides, rules, arith}
use native.Mathlib.Decide.{dec_lt}
use Rattle.std.specs.Int.{w64}
use Rattle.std.specs.List.{slice_get}
use Rattle.std.specs.Result.{OkIff, result_ok}
use Rattle.std.specs.Str.{IsUtf8, IsAscii, all_ascii_digits}
use Rattle.std.specs.Str.Parse.{IsNumeral, ParsesSigned, ParsesUnsigned, digits_value, signed_digits_value, without_leading_sign}
use Rattle.std.proofs.lemmas.Bool.{false≢true}
use Rattle.std.proofs.lemmas.Bool.Decides.{Decides-and, Decides-like, Decides-ltb, Decides-eqb, nat_tests}
use Rattle.std.proofs.lemmas.Int.{ints}
use Rattle.std.proofs.lemmas.List.{get_or_past}
use Rattle.std.proofs.lemmas.Str.{IsUtf8-from_ascii}
use Rattle.std.proofs.lemmas.Str.Parse.{IsNumeralModel, numerals_by_value, tells_all_ascii_digits, digit_at, parse_plain}
use Rattle.svr_num.specs.Digits.{is_digits, is_i64, digits_in, int_in}

own : IsNumeralModel (λ ds. all_ascii_digits ds ≡ true) (digits_value 10)
own = numerals_by_value _ tells_all_ascii_digits

is_digits-Decides : (text : List ℕ) → Decides (is_digits text) (IsNumeral 10 text)
is_digits-Decides text = Decides-and (nat_lt 0 (length text)) (all_ascii_digits text) (Decides-ltb 0 (length text)) (λ e. own.to text e, λ p. own.from text p)

is_i64-Decides : (z : ℤ) → Decides (is_i64 z) (FitsSigned w64 z)
is_i64-Decides (pos n) = (λ e. search (rules, e), λ p. grind (arith, nat_tests, ints, p))
is_i64-Decides (negsuc n) = (λ e. search (rules, e), λ p. grind (arith, nat_tests, ints, p))

option_from_OkIff : {T E : Type 0} (r : Result T E) (P : Type 0) (b : Bool) (v : T) → OkIff r P v → Decides b P → result_ok r ≡ cond b (Some v) None
option_from_OkIff (Ok x) P true v h d = ap Some h.1
option_from_OkIff (Ok x) P false v h d = absurd (false≢true (d.1 h.0))
option_from_OkIff (Err e) P true v h d = absurd (h (d.0 refl))
option_from_OkIff (Err e) P false v h d = refl

pub parsed_int : {E : Type 0} (text : List ℕ) (r : Result ℤ E) → ParsesSigned w64 10 text r → result_ok r ≡ int_in text
unfolding int_in
parsed_int text r h =
    let digits = is_digits-Decides (without_leading_sign text) in
    let fits = is_i64-Decides (signed_digits_value 10 text) in
    option_from_OkIff r _ _ _ h (Decides-and (is_digits (without_leading_sign text)) (is_i64 (signed_digits_value 10 text)) digits fits)

pub parsed_digits : {E : Type 0} (text : List ℕ) (r : Result ℕ E) → ParsesUnsigned 64 10 text r → get_or text 0 0 ≢ 43 → result_ok r ≡ digits_in text
unfolding digits_in
parsed_digits text r h plain =
    let all = all_ascii_digits text in
    let few = nat_lt (digits_value 10 text) (2 ^ 64) in
    option_from_OkIff r _ _ _ (parse_plain own 64 text r h plain) (Decides-like (is_digits text && few)
    (λ p. (p.0.1, p.0.0, p.1)) (λ p. ((p.1, p.0), p.2))
    (Decides-and (is_digits text) few (Decides-and (nat_lt 0 (length text)) all (Decides-ltb 0 (length text)) (λ e. e, λ p. p)) (Decides-ltb (digits_value 10 text) (2 ^ 64))))

-- ---- bytes that are no UTF-8 are no number

and_true : (a b : Bool) → (a && b) ≡ true → (a ≡ true) × (b ≡ true)
and_true true b e = (refl, e)
and_true false b e = absurd (false≢true e)

IsAscii-digits : (ds : List ℕ) → all_ascii_digits ds ≡ true → IsAscii ds
IsAscii-digits ds e = λ i. elim (dec_lt i (length ds)) [
  | yes h ↦ let d = digit_at ds i (own.to ds e) h in omega (arith, d)
  | no h ↦ rw (get_or_past ds i 0 (omega (arith, h))) (omega arith)
]

IsAscii-cons : (c : ℕ) (cs : List ℕ) → c < 128 → IsAscii cs → IsAscii (c ∷ cs)
IsAscii-cons c cs low rest zero = low
IsAscii-cons c cs low rest (suc i) = rest i

IsAscii-behind : (c : ℕ) (cs : List ℕ) (minus plus : Bool) → (c == 45) ≡ minus → (c == 43) ≡ plus
    → all_ascii_digits (cond minus (drop 1 (c ∷ cs)) (drop (cond plus 1 0) (c ∷ cs))) ≡ true → IsAscii (c ∷ cs)
IsAscii-behind c cs true plus m p e = IsAscii-cons c cs (omega (arith, (Decides-eqb c 45).0 m)) (IsAscii-digits cs e)
IsAscii-behind c cs false true m p e = IsAscii-cons c cs (omega (arith, (Decides-eqb c 43).0 p)) (IsAscii-digits cs e)
IsAscii-behind c cs false false m p e = IsAscii-digits (c ∷ cs) e

IsAscii-signed : (text : List ℕ) → all_ascii_digits (without_leading_sign text) ≡ true → IsAscii text
IsAscii-signed [] e = λ i. omega arith
IsAscii-signed (c ∷ cs) e = IsAscii-behind c cs (c == 45) (c == 43) refl refl e

no_value : {T : Type 0} (b : Bool) (v : T) → (b ≡ true → ⊥) → cond b (Some v) None ≡ None
no_value true v h = absurd (h refl)
no_value false v h = refl

pub int_in-not_utf8 : (text : List ℕ) → (IsUtf8 text → ⊥) → None ≡ int_in text
unfolding int_in
int_in-not_utf8 text h = sym (no_value _ _ (λ e. h (IsUtf8-from_ascii text (IsAscii-signed text (and_true _ _ (and_true _ _ e).0).1))))

pub digits_in-not_utf8 : (text : List ℕ) → (IsUtf8 text → ⊥) → None ≡ digits_in text
unfolding digits_in
digits_in-not_utf8 text h = sym (no_value _ _ (λ e. h (IsUtf8-from_ascii text (IsAscii-digits text (and_true _ _ (and_true _ _ e).0).1))))

-- what `from_utf8` says, where it gave no text and where it gave one
abbrev pub ReadsText : {E : Type 0} → List ℕ → (E → Type 0) → Result (Bor (List ℕ)) E → Type 0
ReadsText text Q r = MatchResult r (λ s. (s.now ≡ text) × IsUtf8 text) (λ e. ¬ (IsUtf8 text) × Q e)

pub not_utf8 : {E : Type 0} (text : List ℕ) (Q : E → Type 0) (r : Result (Bor (List ℕ)) E) → ReadsText text Q r → result_ok r ≡ None → IsUtf8 text → ⊥
not_utf8 text Q (Ok s) h e = λ u. cc
not_utf8 text Q (Err x) h e = h.0

pub same_text : {E : Type 0} (text : List ℕ) (Q : E → Type 0) (r : Result (Bor (List ℕ)) E) (s : Bor (List ℕ)) → ReadsText text Q r
    → result_ok r ≡ Some s → s.now ≡ text
same_text text Q (Ok t) s h e = let same : t ≡ s = cc in subst (λ (x : Bor (List ℕ)). x.now ≡ text) same h.0
same_text text Q (Err x) s h e = cc

pub digits_in-none : (text : List ℕ) → slice_get text 0 ≡ None → None ≡ digits_in text
unfolding digits_in
digits_in-none [] e = refl
digits_in-none (c ∷ cs) e = cc

pub digits_in-plus : (text : List ℕ) → get_or text 0 0 ≡ 43 → None ≡ digits_in text
unfolding digits_in
digits_in-plus [] e = refl
digits_in-plus (c ∷ cs) e = sym (no_value _ _ (λ t. false≢true (subst (λ (b : ℕ). all_ascii_digits (b ∷ cs) ≡ true) e (and_true _ _ (and_true _ _ t).0).1)))

pub first_is : (text : List ℕ) (b : ℕ) → slice_get text 0 ≡ Some b → get_or text 0 0 ≡ b
first_is [] b e = cc
first_is (c ∷ cs) b e = cc
