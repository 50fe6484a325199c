-- A part that is read is the part that was written, and what was written is read again.
use Rattle.std.proofs.Common.{◌≡◌, ℕ, zero, suc, ◌+◌, ◌^◌, ◌<◌, ◌≤◌, Bool, true}
use Rattle.std.proofs.Common.{false, cond, ltb, List, [], ◌∷◌, ◌++◌, length, get_or, take, drop}
use Rattle.std.proofs.Common.{Option, Some, None, refl, sym, ap, subst, ◌∙◌, append_assoc, arith, inl, inr}
use Rattle.std.specs.Prelude.{IsUtf8}
use Rattle.std.specs.Int.{Width, w16, w32, w64, byte_len, from_be_bytes, to_be_bytes}
use Rattle.std.specs.List.{flat_map, AllByRecursion}
use Rattle.std.specs.Str.{is_utf8}
use Rattle.std.proofs.lemmas.Bool.{cases_lt, ltb-false, le-ltb}
use Rattle.std.proofs.lemmas.List.{take_at, drop_at, take-append-drop, length-append, length-take, get_or-drop, get_or-take, get_or_past}
use Rattle.std.proofs.lemmas.List.Concat.{flat_map-cons}
use Rattle.std.proofs.lemmas.Nat.{be_bytes_2, be_bytes_4, be_bytes_8, from_be_bytes-to_be_bytes_2, from_be_bytes-to_be_bytes_4}
use Rattle.std.proofs.lemmas.Nat.{from_be_bytes-to_be_bytes_8}
use Rattle.std.proofs.lemmas.Str.{IsUtf8-from_is_utf8, is_utf8-from_IsUtf8}
use Rattle.svr_record.specs.Reading.{◌>>=◌, bytes_at, many_at, number_at, text_at, text_in}

abbrev pub IsBytes : List ℕ → Type 0
IsBytes bytes = (i : ℕ) → get_or bytes i 0 < 256

IsBytes-drop : (n : ℕ) (bytes : List ℕ) → IsBytes bytes → IsBytes (drop n bytes)
IsBytes-drop n bytes h i = rw get_or-drop (h (n + i))

IsBytes-take : (n : ℕ) (bytes : List ℕ) → IsBytes bytes → IsBytes (take n bytes)
IsBytes-take n bytes h i =
    elim (cases_lt i n) [
      | inl lt ↦ rw (get_or-take n bytes i 0 lt) (h i)
      | inr le ↦ rw (get_or_past (take n bytes) i 0 (omega (arith, length-take n bytes))) (omega arith)
    ]

pub IsBytes-rest : (b : ℕ) (bytes : List ℕ) → IsBytes (b ∷ bytes) → IsBytes bytes
IsBytes-rest b bytes h i = h (suc i)

abbrev some_of : {A : Type 0} → A → Option A
some_of x = Some x

pub some_is : {A : Type 0} (x y : A) → some_of x ≡ some_of y → x ≡ y
some_is x y e = cc

-- the value of a reading that gave one
pub bind_some : {A B : Type 0} (r : Option A) (f : A → Option B) (y : B) → (r >>= f) ≡ Some y → (x : A) × (r ≡ Some x) × (f x ≡ Some y)
bind_some (Some x) f y e = (x, refl, e)
bind_some None f y e = absurd cc

-- a test that gave something
pub kept : {A : Type 0} (b : Bool) (r : Option A) (y : A) → cond b None r ≡ Some y → (b ≡ false) × (r ≡ Some y)
kept true r y e = absurd cc
kept false r y e = (refl, e)

pub taken : {A : Type 0} (b : Bool) (r : Option A) (y : A) → cond b r None ≡ Some y → (b ≡ true) × (r ≡ Some y)
taken false r y e = absurd cc
taken true r y e = (refl, e)

-- what was read from the front
pub record Takes (bytes text rest : List ℕ) : Type 0 where
  pub parts : bytes ≡ text ++ rest
  pub rest_fits : IsBytes rest

pub Takes-then : (a x b y c : List ℕ) → Takes a x b → Takes b y c → Takes a (x ++ y) c
Takes-then a x b y c p q =
    record {
      parts = p.parts ∙ ap (λ (t : List ℕ). x ++ t) q.parts ∙ sym (append_assoc x y c);
      rest_fits = q.rest_fits;
    }

-- a number of so many bytes has one spelling
pub record IsWide (w : Width) (limit : ℕ) : Type 0 where
  pub len : (n : ℕ) → length (to_be_bytes w n) ≡ byte_len w
  pub back : (bytes : List ℕ) → length bytes ≡ byte_len w → IsBytes bytes → to_be_bytes w (from_be_bytes w bytes) ≡ bytes
  pub again : (n : ℕ) → n < limit → from_be_bytes w (to_be_bytes w n) ≡ n
  pub below : (bytes : List ℕ) → IsBytes bytes → from_be_bytes w bytes < limit

pub wide16 : IsWide w16 (2 ^ 16)
wide16 = record {
  len = λ n. refl;
  back = λ bytes len fits. be_bytes_2 bytes _ len fits refl;
  again = λ n lt. from_be_bytes-to_be_bytes_2 n lt;
  below = λ bytes fits. omega (arith, fits 0, fits 1);
}

pub wide32 : IsWide w32 (2 ^ 32)
wide32 = record {
  len = λ n. refl;
  back = λ bytes len fits. be_bytes_4 bytes _ len fits refl;
  again = λ n lt. from_be_bytes-to_be_bytes_4 n lt;
  below = λ bytes fits. omega (arith, fits 0, fits 1, fits 2, fits 3);
}

pub wide64 : IsWide w64 (2 ^ 64)
wide64 = record {
  len = λ n. refl;
  back = λ bytes len fits. be_bytes_8 bytes _ len fits refl;
  again = λ n lt. from_be_bytes-to_be_bytes_8 n lt;
  below = λ bytes fits. omega (arith, fits 0, fits 1, fits 2, fits 3, fits 4, fits 5, fits 6, fits 7);
}

pub number_takes : (w : Width) (limit : ℕ) (wide : IsWide w limit) (bytes : List ℕ) (x : ℕ × List ℕ) → IsBytes bytes
    → number_at w bytes ≡ Some x
    → Takes bytes (to_be_bytes w x.0) x.1 × (x.0 < limit)
number_takes w limit wide bytes x fits e =
    let g = kept (ltb (length bytes) (byte_len w)) (Some (from_be_bytes w (take (byte_len w) bytes), drop (byte_len w) bytes)) x e in
    let long : byte_len w ≤ length bytes = ltb-false _ _ g.0 in
    let is = some_is (from_be_bytes w (take (byte_len w) bytes), drop (byte_len w) bytes) x g.1 in
    let front : to_be_bytes w (from_be_bytes w (take (byte_len w) bytes)) ≡ take (byte_len w) bytes =
    wide.back (take (byte_len w) bytes) (omega (arith, length-take (byte_len w) bytes)) (IsBytes-take (byte_len w) bytes fits) in
    subst (λ (y : ℕ × List ℕ). Takes bytes (to_be_bytes w y.0) y.1 × (y.0 < limit)) is (
      record { parts = rw front (sym (take-append-drop (byte_len w) bytes)); rest_fits = IsBytes-drop (byte_len w) bytes fits },
      wide.below (take (byte_len w) bytes) (IsBytes-take (byte_len w) bytes fits),
    )

pub number_again : (w : Width) (limit : ℕ) (wide : IsWide w limit) (n : ℕ) (rest : List ℕ) → n < limit
    → number_at w (to_be_bytes w n ++ rest) ≡ Some (n, rest)
number_again w limit wide n rest lt =
    let len = wide.len n in
    let long : ltb (length (to_be_bytes w n ++ rest)) (byte_len w) ≡ false =
    le-ltb _ _ (omega (arith, length-append (to_be_bytes w n) rest)) in
    rw (long, take_at (to_be_bytes w n) rest (byte_len w) len, drop_at (to_be_bytes w n) rest (byte_len w) len, wide.again n lt) refl

-- ---- texts

-- a text that was read, of so many bytes
pub record TakesText (count : ℕ) (bytes text rest : List ℕ) : Type 0 where
  pub takes : Takes bytes text rest
  pub len : length text ≡ count
  pub utf8 : IsUtf8 text

pub text_takes : (count : ℕ) (bytes : List ℕ) (x : List ℕ × List ℕ) → IsBytes bytes → text_at count bytes ≡ Some x
    → TakesText count bytes x.0 x.1
unfolding text_at
text_takes count bytes x fits e =
    let a = bind_some (bytes_at count bytes) (λ part. text_in part.0 >>= λ text. Some (text, part.1)) x e in
    let g = kept (ltb (length bytes) count) (Some (take count bytes, drop count bytes)) a.0 a.1 in
    let long : count ≤ length bytes = ltb-false _ _ g.0 in
    let is = some_is (take count bytes, drop count bytes) a.0 g.1 in
    let b = bind_some (text_in a.0.0) (λ text. Some (text, a.0.1)) x a.2 in
    let h = taken (is_utf8 a.0.0) (Some a.0.0) b.0 b.1 in
    let made : a.0 ≡ x = ap (λ (t : List ℕ). (t, a.0.1)) (some_is a.0.0 b.0 h.1) ∙ some_is (b.0, a.0.1) x b.2 in
    let front : TakesText count bytes a.0.0 a.0.1 = record {
      takes = subst (λ (y : List ℕ × List ℕ). Takes bytes y.0 y.1) is
          (record { parts = sym (take-append-drop count bytes); rest_fits = IsBytes-drop count bytes fits });
      len = subst (λ (y : List ℕ × List ℕ). length y.0 ≡ count) is (omega (arith, length-take count bytes));
      utf8 = IsUtf8-from_is_utf8 a.0.0 h.0;
    } in
    subst (λ (y : List ℕ × List ℕ). TakesText count bytes y.0 y.1) made front

pub text_again : (text rest : List ℕ) → IsUtf8 text → text_at (length text) (text ++ rest) ≡ Some (text, rest)
unfolding text_at
text_again text rest utf8 =
    let long : ltb (length (text ++ rest)) (length text) ≡ false = le-ltb _ _ (omega (arith, length-append text rest)) in
    rw (long, take_at text rest (length text) refl, drop_at text rest (length text) refl, is_utf8-from_IsUtf8 text utf8) refl

-- ---- many parts

-- each part that is read is one, and is spelled so
abbrev pub PartTakes : {A : Type 0} → (List ℕ → Option (A × List ℕ)) → (A → List ℕ) → (A → Type 0) → Type 0
PartTakes {A} part spell is_one =
    (bytes : List ℕ) (x : A × List ℕ) → IsBytes bytes → part bytes ≡ Some x → Takes bytes (spell x.0) x.1 × is_one x.0

-- each part that is written is read again
abbrev pub PartAgain : {A : Type 0} → (List ℕ → Option (A × List ℕ)) → (A → List ℕ) → (A → Type 0) → Type 0
PartAgain {A} part spell is_one = (x : A) (rest : List ℕ) → is_one x → part (spell x ++ rest) ≡ Some (x, rest)

pub many_takes : {A : Type 0} (part : List ℕ → Option (A × List ℕ)) (spell : A → List ℕ) (is_one : A → Type 0) → PartTakes part spell is_one
    → (n : ℕ) (bytes : List ℕ) (x : List A × List ℕ) → IsBytes bytes → many_at part n bytes ≡ Some x
    → Takes bytes (flat_map spell x.0) x.1 × (length x.0 ≡ n) × AllByRecursion is_one x.0
unfolding many_at
many_takes {A} part spell is_one each zero bytes x fits e =
    subst (λ (y : List A × List ℕ). Takes bytes (flat_map spell y.0) y.1 × (length y.0 ≡ 0) × AllByRecursion is_one y.0)
    (some_is ([], bytes) x e) (record { parts = refl; rest_fits = fits }, refl, tt)
many_takes {A} part spell is_one each (suc n) bytes x fits e =
    let a = bind_some (part bytes) (λ first. many_at part n first.1 >>= λ others. Some (first.0 ∷ others.0, others.1)) x e in
    let b = bind_some (many_at part n a.0.1) (λ others. Some (a.0.0 ∷ others.0, others.1)) x a.2 in
    let first = each bytes a.0 fits a.1 in
    let second = many_takes part spell is_one each n a.0.1 b.0 first.0.rest_fits b.1 in
    let both = Takes-then bytes (spell a.0.0) a.0.1 (flat_map spell b.0.0) b.0.1 first.0 second.0 in
    let made : List A × List ℕ = (a.0.0 ∷ b.0.0, b.0.1) in
    subst (λ (y : List A × List ℕ). Takes bytes (flat_map spell y.0) y.1 × (length y.0 ≡ suc n) × AllByRecursion is_one y.0)
    (some_is made x b.2) (rw flat_map-cons both, ap suc second.1, (first.1, second.2))

pub many_again : {A : Type 0} (part : List ℕ → Option (A × List ℕ)) (spell : A → List ℕ) (is_one : A → Type 0) → PartAgain part spell is_one
    → (xs : List A) (rest : List ℕ) → AllByRecursion is_one xs → many_at part (length xs) (flat_map spell xs ++ rest) ≡ Some (xs, rest)
unfolding many_at
many_again part spell is_one each [] rest fits = refl
many_again part spell is_one each (x ∷ xs) rest fits =
    let regrouped : flat_map spell (x ∷ xs) ++ rest ≡ spell x ++ (flat_map spell xs ++ rest) =
    ap (λ (y : List ℕ). y ++ rest) (flat_map-cons spell x xs) ∙ append_assoc (spell x) (flat_map spell xs) rest in
    ap (many_at part (suc (length xs))) regrouped
    ∙ rw (each x (flat_map spell xs ++ rest) fits.0, many_again part spell is_one each xs rest fits.1) refl
