-- The lines of a text whose front is whole lines, and what is skipped in them.
use Rattle.std.proofs.Common.{◌≡◌, ◌≢◌, ℕ, ◌<◌, ◌≤◌, inl, inr, true, false, not, cond, List}
use Rattle.std.proofs.Common.{[], ◌∷◌, ◌++◌, length, refl, sym, ap, ◌∙◌, arith, append_assoc}
use Rattle.std.proofs.lemmas.Bool.Decides.{nat_tests}
use Rattle.std.proofs.lemmas.Bool.{cases_eq}
use Rattle.std.proofs.lemmas.List.Elements.{filter-append}
use Rattle.std.specs.List.{filter, list_all}
use Rattle.svr_lines.specs.Lines.{lines_of, onto_first, is_blank, is_skipped, pieces_of, IsUnbroken, IsWholeLines, onto_whole, whole_part}

-- ---- one byte in front

lines_of-feed : (b : ℕ) (bytes : List ℕ) → b ≡ 10 → lines_of (b ∷ bytes) ≡ [] ∷ lines_of bytes
unfolding lines_of
lines_of-feed b bytes feed = grind (arith, nat_tests)

lines_of-other : (b : ℕ) (bytes : List ℕ) → b ≢ 10 → lines_of (b ∷ bytes) ≡ onto_first b (lines_of bytes)
unfolding lines_of
lines_of-other b bytes other = grind (arith, nat_tests)

pub lines_of-nil : lines_of [] ≡ []
unfolding lines_of
lines_of-nil = refl

whole_part-feed : (b : ℕ) (bytes : List ℕ) → b ≡ 10 → whole_part (b ∷ bytes) ≡ b ∷ whole_part bytes
unfolding whole_part
whole_part-feed b bytes feed = grind (arith, nat_tests)

whole_part-other : (b : ℕ) (bytes : List ℕ) → b ≢ 10 → whole_part (b ∷ bytes) ≡ onto_whole b (whole_part bytes)
unfolding whole_part
whole_part-other b bytes other = grind (arith, nat_tests)

whole_part-nil : whole_part [] ≡ []
unfolding whole_part
whole_part-nil = refl

-- ---- a line in front

-- a line and its line feed
pub lines_of-line : (line rest : List ℕ) → IsUnbroken line → lines_of (line ++ 10 ∷ rest) ≡ line ∷ lines_of rest
lines_of-line [] rest u = lines_of-feed 10 rest refl
lines_of-line (b ∷ line) rest u = lines_of-other b (line ++ 10 ∷ rest) u.0 ∙ ap (onto_first b) (lines_of-line line rest u.1)

-- a last line with no line feed
pub lines_of-last : (line : List ℕ) → IsUnbroken line → 0 < length line → lines_of line ≡ line ∷ []
lines_of-last [] u h = absurd (omega (arith, h))
lines_of-last (b ∷ []) u h = lines_of-other b [] u.0 ∙ ap (onto_first b) lines_of-nil
lines_of-last (b ∷ d ∷ line) u h = lines_of-other b (d ∷ line) u.0 ∙ ap (onto_first b) (lines_of-last (d ∷ line) u.1 (omega arith))

-- no whole line
pub whole_part-unbroken : (bytes : List ℕ) → IsUnbroken bytes → whole_part bytes ≡ []
whole_part-unbroken [] u = whole_part-nil
whole_part-unbroken (b ∷ bytes) u = whole_part-other b bytes u.0 ∙ ap (onto_whole b) (whole_part-unbroken bytes u.1)

-- ---- whole lines in front

onto_first-append : (b : ℕ) (ls ms : List (List ℕ)) → 0 < length ls → onto_first b (ls ++ ms) ≡ onto_first b ls ++ ms
onto_first-append b [] ms h = absurd (omega (arith, h))
onto_first-append b (l ∷ ls) ms h = refl

some_first : (b : ℕ) (ls : List (List ℕ)) → 0 < length (onto_first b ls)
some_first b [] = omega arith
some_first b (l ∷ ls) = omega arith

some_lines : (front rest : List ℕ) → 0 < length (lines_of (front ++ 10 ∷ rest))
some_lines [] rest = omega (arith, ap length (lines_of-feed 10 rest refl))
some_lines (b ∷ front) rest = elim (cases_eq b 10) [
  | inl feed ↦ omega (arith, ap length (lines_of-feed b (front ++ 10 ∷ rest) feed))
  | inr other ↦ omega (arith, ap length (lines_of-other b (front ++ 10 ∷ rest) other), some_first b (lines_of (front ++ 10 ∷ rest)))
]

lines_of-feeds : (front rest : List ℕ) → lines_of (front ++ 10 ∷ rest) ≡ lines_of (front ++ 10 ∷ []) ++ lines_of rest
lines_of-feeds [] rest = lines_of-feed 10 rest refl ∙ ap (λ ls. ls ++ lines_of rest)
    (sym (lines_of-feed 10 [] refl ∙ ap (λ ls. [] ∷ ls) lines_of-nil))
lines_of-feeds (b ∷ front) rest =
    let more = lines_of-feeds front rest in
    elim (cases_eq b 10) [
      | inl feed ↦ lines_of-feed b (front ++ 10 ∷ rest) feed ∙ ap (λ ls. [] ∷ ls) more
          ∙ ap (λ ls. ls ++ lines_of rest) (sym (lines_of-feed b (front ++ 10 ∷ []) feed))
      | inr other ↦ lines_of-other b (front ++ 10 ∷ rest) other ∙ ap (onto_first b) more
          ∙ onto_first-append b (lines_of (front ++ 10 ∷ [])) (lines_of rest) (some_lines front [])
          ∙ ap (λ ls. ls ++ lines_of rest) (sym (lines_of-other b (front ++ 10 ∷ []) other))
    ]

pub lines_of-whole : (front rest : List ℕ) → IsWholeLines front → lines_of (front ++ rest) ≡ lines_of front ++ lines_of rest
lines_of-whole front rest w = elim w [
  | inl none ↦ ap (λ xs. lines_of (xs ++ rest)) none ∙ ap (λ ls. ls ++ lines_of rest) (sym (ap lines_of none ∙ lines_of-nil))
  | inr some ↦ ap (λ xs. lines_of (xs ++ rest)) some.1 ∙ ap lines_of (append_assoc some.0 (10 ∷ []) rest) ∙ lines_of-feeds some.0 rest
      ∙ ap (λ xs. lines_of xs ++ lines_of rest) (sym some.1)
]

pub pieces_of-whole : (front rest : List ℕ) → IsWholeLines front → pieces_of (front ++ rest) ≡ pieces_of front ++ pieces_of rest
pieces_of-whole front rest w =
    ap (filter (λ line. not (is_skipped line))) (lines_of-whole front rest w)
    ∙ filter-append (λ line. not (is_skipped line)) (lines_of front) (lines_of rest)

onto_whole-feed : (b : ℕ) (front rest : List ℕ) → onto_whole b ((front ++ 10 ∷ []) ++ rest) ≡ b ∷ (front ++ 10 ∷ []) ++ rest
onto_whole-feed b [] rest = refl
onto_whole-feed b (c ∷ front) rest = refl

whole_part-feeds : (front rest : List ℕ) → whole_part (front ++ 10 ∷ rest) ≡ (front ++ 10 ∷ []) ++ whole_part rest
whole_part-feeds [] rest = whole_part-feed 10 rest refl
whole_part-feeds (b ∷ front) rest =
    let more = whole_part-feeds front rest in
    elim (cases_eq b 10) [
      | inl feed ↦ whole_part-feed b (front ++ 10 ∷ rest) feed ∙ ap (λ xs. b ∷ xs) more
      | inr other ↦ whole_part-other b (front ++ 10 ∷ rest) other ∙ ap (onto_whole b) more ∙ onto_whole-feed b front (whole_part rest)
    ]

pub whole_part-whole : (front rest : List ℕ) → IsWholeLines front → whole_part (front ++ rest) ≡ front ++ whole_part rest
whole_part-whole front rest w = elim w [
  | inl none ↦ ap (λ xs. whole_part (xs ++ rest)) none ∙ ap (λ xs. xs ++ whole_part rest) (sym none)
  | inr some ↦ ap (λ xs. whole_part (xs ++ rest)) some.1 ∙ ap whole_part (append_assoc some.0 (10 ∷ []) rest) ∙ whole_part-feeds some.0 rest
      ∙ ap (λ xs. xs ++ whole_part rest) (sym some.1)
]

-- what ends in a line feed is whole lines
pub IsWholeLines-line : (front line : List ℕ) → IsWholeLines (front ++ line ++ 10 ∷ [])
IsWholeLines-line front line = inr (front ++ line, refl)

-- ---- what is skipped

pub is_skipped-long : (line : List ℕ) → 1048576 < length line → is_skipped line ≡ false
is_skipped-long line h = grind (arith, nat_tests)

pub is_skipped-short : (line : List ℕ) → length line ≤ 1048576 → is_skipped line ≡ list_all is_blank line
is_skipped-short line h = grind (arith, nat_tests)

-- a line that isn't skipped has a byte
pub some_kept : (line : List ℕ) → is_skipped line ≡ false → 0 < length line
some_kept [] h = cc
some_kept (b ∷ line) h = omega arith

pieces_of-kept : (line : List ℕ) (ls : List (List ℕ)) → is_skipped line ≡ false
    → filter (λ l. not (is_skipped l)) (line ∷ ls) ≡ line ∷ filter (λ l. not (is_skipped l)) ls
pieces_of-kept line ls h = ap (λ b. cond (not b) (line ∷ filter (λ l. not (is_skipped l)) ls) (filter (λ l. not (is_skipped l)) ls)) h

pieces_of-skipped : (line : List ℕ) (ls : List (List ℕ)) → is_skipped line ≡ true
    → filter (λ l. not (is_skipped l)) (line ∷ ls) ≡ filter (λ l. not (is_skipped l)) ls
pieces_of-skipped line ls h = ap (λ b. cond (not b) (line ∷ filter (λ l. not (is_skipped l)) ls) (filter (λ l. not (is_skipped l)) ls)) h

-- a line with its line feed, in front of others
pub pieces_of-line : (line rest : List ℕ) → IsUnbroken line → is_skipped line ≡ false
    → pieces_of (line ++ 10 ∷ rest) ≡ line ∷ pieces_of rest
pieces_of-line line rest u k = ap (filter (λ l. not (is_skipped l))) (lines_of-line line rest u) ∙ pieces_of-kept line (lines_of rest) k

pub pieces_of-passed : (line rest : List ℕ) → IsUnbroken line → is_skipped line ≡ true → pieces_of (line ++ 10 ∷ rest) ≡ pieces_of rest
pieces_of-passed line rest u k = ap (filter (λ l. not (is_skipped l))) (lines_of-line line rest u)
    ∙ pieces_of-skipped line (lines_of rest) k

pub pieces_of-nil : pieces_of [] ≡ []
pieces_of-nil = ap (filter (λ l. not (is_skipped l))) lines_of-nil

-- a last line with no line feed
pub pieces_of-last : (line : List ℕ) → IsUnbroken line → is_skipped line ≡ false → pieces_of line ≡ line ∷ []
pieces_of-last line u k = ap (filter (λ l. not (is_skipped l))) (lines_of-last line u (some_kept line k)) ∙ pieces_of-kept line [] k

pub pieces_of-last_passed : (line : List ℕ) → IsUnbroken line → 0 < length line → is_skipped line ≡ true → pieces_of line ≡ []
pieces_of-last_passed line u h k = ap (filter (λ l. not (is_skipped l))) (lines_of-last line u h) ∙ pieces_of-skipped line [] k
