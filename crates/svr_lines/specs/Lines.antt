-- The lines of an input.
use Rattle.std.specs.Prelude.{◌≡◌, ◌≢◌, ◌⊎◌, ℕ, ◌==◌, ◌&&◌, ◌||◌, Bool, not, List, [], ◌∷◌, ◌++◌, length, nat_le, if◌then◌else◌}
use Rattle.std.specs.List.{filter, list_all}

-- b in front of the first line, which is a new one where there is none
abbrev pub onto_first : ℕ → List (List ℕ) → List (List ℕ)
onto_first b [] = (b ∷ []) ∷ []
onto_first b (line ∷ lines) = (b ∷ line) ∷ lines

-- the lines of a text, each ended by LF (10) and without it; a last piece with no LF is a line if it has a byte
unfoldable pub lines_of : List ℕ → List (List ℕ)
lines_of [] = []
lines_of (b ∷ bytes) = if b == 10 then [] ∷ lines_of bytes else onto_first b (lines_of bytes)

-- space, tab and CR
abbrev pub is_blank : ℕ → Bool
is_blank b = b == 32 || b == 9 || b == 13

-- a line that is passed over: it has nothing but blanks, and isn't too long
abbrev pub is_skipped : List ℕ → Bool
is_skipped line = nat_le (length line) 1048576 && list_all is_blank line

-- the lines of a text that aren't passed over
abbrev pub pieces_of : List ℕ → List (List ℕ)
pieces_of text = filter (λ line. not (is_skipped line)) (lines_of text)

-- no byte is a line feed
abbrev pub IsUnbroken : List ℕ → Type 0
IsUnbroken [] = Unit {0}
IsUnbroken (b ∷ bytes) = (b ≢ 10) × IsUnbroken bytes

-- each line of the text is ended by LF
abbrev pub IsWholeLines : List ℕ → Type 0
IsWholeLines text = (text ≡ []) ⊎ ((front : List ℕ) × (text ≡ front ++ 10 ∷ []))

abbrev pub onto_whole : ℕ → List ℕ → List ℕ
onto_whole b [] = []
onto_whole b (c ∷ bytes) = b ∷ c ∷ bytes

-- the lines of a text that are ended by LF: its bytes up to the last LF, and with it
unfoldable pub whole_part : List ℕ → List ℕ
whole_part [] = []
whole_part (b ∷ bytes) = if b == 10 then b ∷ whole_part bytes else onto_whole b (whole_part bytes)
