-- The parts of a text, line by line.
use Rattle.std.proofs.Common.{◌≡◌, ℕ, zero, suc, ◌+◌, ◌-◌, ◌<◌, inl, inr, true, false, List, [], ◌∷◌, ◌++◌, length, drop, nat_lt}
use Rattle.std.proofs.Common.{if◌then◌else◌, refl, sym, subst, ap, ◌∙◌, arith, append_assoc, append-nil, length-append}
use Rattle.std.proofs.lemmas.Bool.{cases_eq}
use Rattle.std.proofs.lemmas.Bool.Decides.{nat_tests}
use Rattle.std.proofs.lemmas.List.{drop_all}
use Rattle.std.proofs.Math.Nat.{add-zero}
use Rattle.std.specs.List.{filter_map}
use Rattle.svr_lines.proofs.Splits.{pieces_of-last, pieces_of-line, pieces_of-passed, whole_part-whole}
use Rattle.svr_lines.proofs.Stream.{IsUnbroken-append}
use Rattle.svr_lines.specs.Lines.{IsUnbroken, IsWholeLines, is_skipped, pieces_of, whole_part}
use Rattle.svr_lines.specs.Pieces.{IsPiece}
use Rattle.svr_serve.specs.Input.{FirstLine, Part, whole, last, cut, block_size, first_line, line_bytes, parts_after, parts_of, parts_with, submitted}
use Rattle.svr_serve.specs.Input.{whole_in, whole_requests}

-- the part that begins with a whole line, and those of the text behind its block
abbrev pub parts_behind : List ℕ → List ℕ → List Part
parts_behind line behind =
    if nat_lt (length behind) (block_size line) then cut ∷ []
    else whole (submitted line behind) ∷ parts_of (drop (block_size line) behind)

-- the part that a last line is
abbrev pub last_part : List ℕ → Part
last_part line = if nat_lt 0 (block_size line) then cut else last (submitted line [])

-- ---- the lines of a text, one by one

-- what holds of each last line, and of a line in front of each text that it holds of, holds of each text; here with a line begun
by_lines_behind : (P : List ℕ → Type 0) → ((line : List ℕ) → IsUnbroken line → P line)
    → ((line rest : List ℕ) → IsUnbroken line → P rest → P (line ++ 10 ∷ rest))
    → (text front : List ℕ) → IsUnbroken front → P (front ++ text)
by_lines_behind P end more [] front u = rw append-nil (end front u)
by_lines_behind P end more (b ∷ text) front u = elim (cases_eq b 10) [
  | inl feed ↦ rw feed (more front text u (by_lines_behind P end more text [] tt))
  | inr other ↦ subst P (append_assoc front (b ∷ []) text)
      (by_lines_behind P end more text (front ++ b ∷ []) (IsUnbroken-append front (b ∷ []) u (other, tt)))
]

by_lines : (P : List ℕ → Type 0) → ((line : List ℕ) → IsUnbroken line → P line)
    → ((line rest : List ℕ) → IsUnbroken line → P rest → P (line ++ 10 ∷ rest)) → (text : List ℕ) → P text
by_lines P end more text = by_lines_behind P end more text [] tt

-- ---- the first line

first_line-line : (line rest : List ℕ) → IsUnbroken line
    → first_line (line ++ 10 ∷ rest) ≡ record { line = line; ended = true; behind = rest }
unfolding first_line
first_line-line [] rest u = refl
first_line-line (b ∷ line) rest u = grind (arith, nat_tests, first_line-line line rest u.1)

first_line-last : (line : List ℕ) → IsUnbroken line → first_line line ≡ record { line = line; ended = false; behind = [] }
unfolding first_line
first_line-last [] u = refl
first_line-last (b ∷ line) u = grind (arith, nat_tests, first_line-last line u.1)

-- ---- the parts behind some bytes

parts_after-drop : (n : ℕ) (text : List ℕ) → parts_after n text ≡ parts_of (drop n text)
unfolding parts_after parts_of
parts_after-drop zero text = refl
parts_after-drop (suc n) [] = refl
parts_after-drop (suc n) (b ∷ bytes) = parts_after-drop n bytes

-- a byte less behind one more
behind_byte : (b : ℕ) (bytes : List ℕ) (n : ℕ) → 0 < n → parts_after (n - 1) bytes ≡ parts_of (drop n (b ∷ bytes))
behind_byte b bytes zero some = absurd (omega arith)
behind_byte b bytes (suc n) some =
    let less : suc n - 1 ≡ n = omega arith in
    ap (λ k. parts_after k bytes) less ∙ parts_after-drop n bytes

-- the function is asked for a byte at least
parts_with-same : (f : FirstLine) (p q : ℕ → List Part) → ((n : ℕ) → 0 < n → p n ≡ q n) → parts_with f p ≡ parts_with f q
parts_with-same f p q same =
    let line = same (line_bytes f) (omega arith) in
    let block = same (line_bytes f + block_size f.line) (omega arith) in
    rw (line, block) refl

parts_of-step : (b : ℕ) (bytes : List ℕ)
    → parts_of (b ∷ bytes) ≡ parts_with (first_line (b ∷ bytes)) (λ n. parts_of (drop n (b ∷ bytes)))
unfolding parts_after parts_of
parts_of-step b bytes = parts_with-same (first_line (b ∷ bytes)) (λ n. parts_after (n - 1) bytes)
    (λ n. parts_of (drop n (b ∷ bytes))) (behind_byte b bytes)

pub parts_of-nil : parts_of [] ≡ []
unfolding parts_after parts_of
parts_of-nil = refl

-- ---- the parts that begin with a line

-- the first line of a text that has a byte, and the parts behind it and its block
parts_of-first : (text : List ℕ) (f : FirstLine) → 0 < length text → first_line text ≡ f
    → parts_of text ≡ parts_with f (λ n. parts_of (drop n text))
parts_of-first [] f some is = absurd (omega arith)
parts_of-first (b ∷ bytes) f some is = parts_of-step b bytes ∙ ap (λ g. parts_with g (λ n. parts_of (drop n (b ∷ bytes)))) is

-- behind a line and its line feed
drop_line : (line rest : List ℕ) (k : ℕ) → drop (length line + 1 + k) (line ++ 10 ∷ rest) ≡ drop k rest
drop_line [] rest k =
    let more : length {A = ℕ} [] + 1 + k ≡ suc k = omega arith in
    ap (λ n. drop n (10 ∷ rest)) more
drop_line (b ∷ line) rest k =
    let more : length (b ∷ line) + 1 + k ≡ suc (length line + 1 + k) = omega arith in
    ap (λ n. drop n (b ∷ line ++ 10 ∷ rest)) more ∙ drop_line line rest k

parts_of-line : (line rest : List ℕ) → IsUnbroken line
    → parts_of (line ++ 10 ∷ rest) ≡ (if is_skipped line then parts_of rest else parts_behind line rest)
parts_of-line line rest u =
    let some : 0 < length (line ++ 10 ∷ rest) = omega (arith, length-append line (10 ∷ rest)) in
    let feed = ap (λ n. drop n (line ++ 10 ∷ rest)) (sym (add-zero (length line + 1))) ∙ drop_line line rest 0 in
    parts_of-first (line ++ 10 ∷ rest) _ some (first_line-line line rest u) ∙ rw (feed, drop_line line rest (block_size line)) refl

parts_of-end : (line : List ℕ) → IsUnbroken line → parts_of line ≡ (if is_skipped line then [] else last_part line ∷ [])
parts_of-end [] u = parts_of-nil
parts_of-end (b ∷ line) u =
    let none = drop_all (length (b ∷ line) + 1) (b ∷ line) (omega arith) in
    let no_block = drop_all (length (b ∷ line) + 1 + block_size (b ∷ line)) (b ∷ line) (omega arith) in
    parts_of-first (b ∷ line) _ (omega arith) (first_line-last (b ∷ line) u) ∙ rw (none, no_block, parts_of-nil) (grind arith)

-- ---- lines that are passed over

-- a line that is passed over in front of more is passed over in front of each rest
line_passed : (line more rest : List ℕ) → IsUnbroken line → pieces_of (line ++ 10 ∷ more) ≡ []
    → (parts_of (line ++ 10 ∷ rest) ≡ parts_of rest) × (pieces_of more ≡ [])
line_passed line more rest u none = grind (arith, parts_of-line line rest u, pieces_of-line line more u, pieces_of-passed line more u)

-- a last line
end_passed : (line : List ℕ) → IsUnbroken line → pieces_of line ≡ [] → parts_of line ≡ []
end_passed line u none = grind (arith, parts_of-end line u, pieces_of-last line u)

-- whole lines, by the text in front of their last LF
lines_passed : (front : List ℕ) → pieces_of (front ++ 10 ∷ []) ≡ [] → (rest : List ℕ) → parts_of (front ++ 10 ∷ rest) ≡ parts_of rest
lines_passed = by_lines (λ front. pieces_of (front ++ 10 ∷ []) ≡ [] → (rest : List ℕ) → parts_of (front ++ 10 ∷ rest) ≡ parts_of rest)
    (λ line u none rest. (line_passed line [] rest u none).0)
    (λ line front u h none rest.
    let passed = line_passed line (front ++ 10 ∷ []) (front ++ 10 ∷ rest) u (rw append_assoc at none) in
    rw append_assoc (passed.0 ∙ h passed.1 rest))

pub parts_of-skipped : (skipped rest : List ℕ) → IsWholeLines skipped → pieces_of skipped ≡ [] → parts_of (skipped ++ rest) ≡ parts_of rest
parts_of-skipped skipped rest w none = elim w [
  | inl nil ↦ rw nil refl
  | inr some ↦ rw (some.1, append_assoc) (lines_passed some.0 (rw some.1 at none) rest)
]

pub parts_of-none : (text : List ℕ) → pieces_of text ≡ [] → parts_of text ≡ []
parts_of-none = by_lines (λ text. pieces_of text ≡ [] → parts_of text ≡ []) end_passed
    (λ line rest u h none. let passed = line_passed line rest rest u none in passed.0 ∙ h passed.1)

pub parts_of-piece : (gone line behind : List ℕ) → IsPiece gone line (10 ∷ []) → parts_of (gone ++ behind) ≡ parts_behind line behind
parts_of-piece gone line behind p = rw p.is (simp append_assoc
    (parts_of-skipped p.skipped (line ++ 10 ∷ behind) p.whole p.none ∙ parts_of-line line behind p.unbroken
    ∙ ap (λ b. if b then parts_of behind else parts_behind line behind) p.kept))

pub parts_of-last : (gone line : List ℕ) → IsPiece gone line [] → parts_of gone ≡ last_part line ∷ []
parts_of-last gone line p = rw (p.is, append-nil) (parts_of-skipped p.skipped line p.whole p.none
    ∙ parts_of-end line p.unbroken ∙ ap (λ b. if b then [] else last_part line ∷ []) p.kept)

pub whole_requests-open : (text : List ℕ) → pieces_of (whole_part text) ≡ [] → whole_requests text ≡ []
whole_requests-open = by_lines (λ text. pieces_of (whole_part text) ≡ [] → whole_requests text ≡ [])
    (λ line u none. rw (parts_of-end line u) (grind arith))
    (λ line rest u h none.
    let e = simp append_assoc at (whole_part-whole (line ++ 10 ∷ []) rest (inr (line, refl))) in
    let passed = line_passed line (whole_part rest) rest u (sym (ap pieces_of e) ∙ none) in
    ap (filter_map whole_in) passed.0 ∙ h passed.1)
