-- The bytes of what was found at a gate.
use Rattle.std.proofs.Common.{◌≡◌, ◌≢◌, ◌≤◌, ◌<◌, ◌+◌, ℕ, zero, suc, Bool, true, false, List, [], ◌∷◌, ◌++◌, length, take, drop, get_or, refl, sym, ap, ◌∙◌, arith, append_assoc}
use Rattle.std.specs.Prelude.{◌&&◌, ◌==◌, nat_le, if◌then◌else◌}
use Rattle.std.specs.Int.{from_be_bytes, to_be_bytes, w32}
use Rattle.std.proofs.lemmas.Bool.Decides.{nat_tests}
use Rattle.std.proofs.lemmas.List.{drop-drop, length-take-le, take-append-drop}
use Rattle.std.proofs.lemmas.Nat.{be_bytes_4}
use Rattle.svr_journal.specs.File.{IsBody, open_record}
use Rattle.svr_journal.specs.Gates.{Gate, behind_gate, body_of, broken, gate_of, has_word, record_of, shut}

-- an open gate has the record behind it
open_gate : (t : Bool) (gate : ℕ) (rest body : List ℕ) → (t ≡ true → gate ≡ 1) → (if t then behind_gate rest else shut) ≡ record_of body
    → (gate ≡ 1) × (behind_gate rest ≡ record_of body)
open_gate true gate rest body f is = (f refl, is)
open_gate false gate rest body f is = absurd cc

is_one : (gate : ℕ) → (gate == 1) ≡ true → gate ≡ 1
is_one gate is = grind (arith, nat_tests)

-- the record has a length
with_word : (t : Bool) (inner : Gate) (body : List ℕ) → (if t then inner else broken) ≡ record_of body → (t ≡ true) × (inner ≡ record_of body)
with_word true inner body is = (refl, is)
with_word false inner body is = absurd cc

-- the body has that length
record IsTaken (n : ℕ) (rest body : List ℕ) : Type 0 where
  is : take n rest ≡ body
  some : 1 ≤ n
  few : n ≤ 16777216
  fits : n ≤ length rest

taken : (t : Bool) (n : ℕ) (rest body : List ℕ) → (nat_le 1 n && nat_le n 16777216 && nat_le n (length rest)) ≡ t
    → (if t then record_of (take n rest) else broken) ≡ record_of body → IsTaken n rest body
taken true n rest body test is = record {
  is = cc;
  some = grind (arith, nat_tests);
  few = grind (arith, nat_tests);
  fits = grind (arith, nat_tests);
}
taken false n rest body test is = absurd cc

below : (a b c d : ℕ) → a < 256 → b < 256 → c < 256 → d < 256 → (i : ℕ) → get_or (a ∷ b ∷ c ∷ d ∷ []) i 0 < 256
below a b c d ha hb hc hd zero = ha
below a b c d ha hb hc hd (suc zero) = hb
below a b c d ha hb hc hd (suc (suc zero)) = hc
below a b c d ha hb hc hd (suc (suc (suc zero))) = hd
below a b c d ha hb hc hd (suc (suc (suc (suc i)))) = omega arith

record AreBytes (a b c d : ℕ) : Type 0 where
  first : a < 256
  second : b < 256
  third : c < 256
  fourth : d < 256

are_bytes : (a b c d : ℕ) (rest : List ℕ) → has_word (a ∷ b ∷ c ∷ d ∷ rest) ≡ true → AreBytes a b c d
are_bytes a b c d rest is = record {
  first = grind (arith, nat_tests);
  second = grind (arith, nat_tests);
  third = grind (arith, nat_tests);
  fourth = grind (arith, nat_tests);
}

-- four bytes are those of the number that they are
word_is : (rest : List ℕ) → has_word rest ≡ true → to_be_bytes w32 (from_be_bytes w32 (take 4 rest)) ≡ take 4 rest
word_is [] is = absurd cc
word_is (a ∷ []) is = absurd cc
word_is (a ∷ b ∷ []) is = absurd cc
word_is (a ∷ b ∷ c ∷ []) is = absurd cc
word_is (a ∷ b ∷ c ∷ d ∷ rest) is =
    let bytes = are_bytes a b c d rest is in
    be_bytes_4 (a ∷ b ∷ c ∷ d ∷ []) (from_be_bytes w32 (a ∷ b ∷ c ∷ d ∷ [])) refl
    (below a b c d bytes.first bytes.second bytes.third bytes.fourth) refl

-- the record of a body at a gate, and what is behind it
pub record IsRecordOf (bytes body : List ℕ) : Type 0 where
  pub size : IsBody body
  pub spelled : (next : ℕ) → next ≡ 5 + length body → bytes ≡ open_record body ++ drop next bytes

record_behind : (gate : ℕ) (rest body : List ℕ) → gate ≡ 1 → behind_gate rest ≡ record_of body → IsRecordOf (gate ∷ rest) body
record_behind gate rest body one is =
    let n = from_be_bytes w32 (take 4 rest) in
    let word = with_word (has_word rest) (body_of n (drop 4 rest)) body is in
    let there = taken (nat_le 1 n && nat_le n 16777216 && nat_le n (length (drop 4 rest))) n (drop 4 rest) body refl word.1 in
    let size : length body ≡ n = sym (ap length there.is) ∙ length-take-le n (drop 4 rest) there.fits in
    let parts : rest ≡ to_be_bytes w32 (length body) ++ (body ++ drop n (drop 4 rest)) =
    sym (take-append-drop 4 rest)
    ∙ ap (λ (xs : List ℕ). xs ++ drop 4 rest) (sym (word_is rest word.0) ∙ ap (λ (k : ℕ). to_be_bytes w32 k) (sym size))
    ∙ ap (λ (xs : List ℕ). to_be_bytes w32 (length body) ++ xs)
    (sym (take-append-drop n (drop 4 rest)) ∙ ap (λ (xs : List ℕ). xs ++ drop n (drop 4 rest)) there.is) in
    record {
      size = record { some = omega (arith, size, there.some); few = omega (arith, size, there.few) };
      spelled = λ next at_next.
          let behind : drop n (drop 4 rest) ≡ drop next (gate ∷ rest) =
          drop-drop n 4 rest ∙ drop-drop (4 + n) 1 (gate ∷ rest) ∙ ap (λ (k : ℕ). drop k (gate ∷ rest)) (omega (arith, at_next, size)) in
          ap (λ (k : ℕ). k ∷ rest) one
          ∙ ap (λ (xs : List ℕ). 1 ∷ xs) (parts ∙ sym (append_assoc (to_be_bytes w32 (length body)) body (drop n (drop 4 rest))))
          ∙ ap (λ (xs : List ℕ). open_record body ++ xs) behind;
    }

pub record_at : (bytes body : List ℕ) → gate_of bytes ≡ record_of body → IsRecordOf bytes body
record_at [] body is = absurd cc
record_at (gate ∷ rest) body is =
    let opened = open_gate (gate == 1) gate rest body (is_one gate) is in
    record_behind gate rest body opened.0 opened.1

-- a closed gate, and what is behind it
pub record IsShut (bytes : List ℕ) : Type 0 where
  pub gate : ℕ
  pub behind : List ℕ
  pub spelled : bytes ≡ gate ∷ behind
  pub closed : gate ≢ 1

no_shut_body : (t : Bool) (xs : List ℕ) → (if t then record_of xs else broken) ≡ shut → ⊥
no_shut_body true xs is = cc
no_shut_body false xs is = cc

no_shut_behind : (t : Bool) (n : ℕ) (rest : List ℕ) → (if t then body_of n rest else broken) ≡ shut → ⊥
no_shut_behind true n rest is = no_shut_body (nat_le 1 n && nat_le n 16777216 && nat_le n (length rest)) (take n rest) is
no_shut_behind false n rest is = cc

shut_gate : (t : Bool) (gate : ℕ) (rest : List ℕ) → (gate == 1) ≡ t → (if t then behind_gate rest else shut) ≡ shut → gate ≢ 1
shut_gate true gate rest test is = absurd (no_shut_behind (has_word rest) (from_be_bytes w32 (take 4 rest)) (drop 4 rest) is)
shut_gate false gate rest test is = grind (arith, nat_tests)

pub shut_at : (bytes : List ℕ) → gate_of bytes ≡ shut → IsShut bytes
shut_at [] is = absurd cc
shut_at (gate ∷ rest) is = record { gate = gate; behind = rest; spelled = refl; closed = shut_gate (gate == 1) gate rest refl is }
