-- The requests of an input: its lines, with the blocks behind them.
use Rattle.std.specs.Prelude.{ℕ, zero, suc, ◌+◌, ◌-◌, ◌==◌, Bool, true, false, List, [], ◌∷◌, length, take, nat_lt}
use Rattle.std.specs.Prelude.{if◌then◌else◌, Option, Some, None, Result, Err}
use Rattle.std.specs.List.{filter_map, list_any}
use Rattle.std.specs.Option.{unwrap_or}
use Rattle.svr_lines.specs.Lines.{is_skipped}
use Rattle.svr_request.specs.declared.refusal.Refusal.{Refusal}
use Rattle.svr_request.specs.declared.refusal.Refusal.TheVariants.{LineTooLong}
use Rattle.svr_request.specs.Requests.{Submitted, Wanted, block_of, request_of}

-- ---- one line

-- what a line asks for, or why it is refused
abbrev pub line_request : List ℕ → Result Wanted Refusal
line_request line = if nat_lt 1048576 (length line) then Err LineTooLong else request_of line

-- how many bytes behind a line are its block, 0 where it has none; a line that is too long has none
abbrev pub block_size : List ℕ → ℕ
block_size line = if nat_lt 1048576 (length line) then 0 else unwrap_or (block_of line) 0

-- the block of so many bytes in front of a text; one of more than 8,388,608 bytes is dropped
abbrev pub block_before : ℕ → List ℕ → List ℕ
block_before size text = if nat_lt 8388608 size then [] else take size text

-- a line's request, with the block in front of the text behind the line
abbrev pub submitted : List ℕ → List ℕ → Submitted
submitted line behind = record { request = line_request line; block = block_before (block_size line) behind }

-- ---- all lines

-- the first line of a text, whether LF ends it, and the text behind it
pub record FirstLine : Type 0 where
  pub line : List ℕ
  pub ended : Bool
  pub behind : List ℕ

abbrev pub onto_line : ℕ → FirstLine → FirstLine
onto_line b f = record { line = b ∷ f.line; ended = f.ended; behind = f.behind }

unfoldable pub first_line : List ℕ → FirstLine
first_line [] = record { line = []; ended = false; behind = [] }
first_line (b ∷ bytes) = if b == 10 then record { line = []; ended = true; behind = bytes } else onto_line b (first_line bytes)

-- a part of an input
pub data Part : Type 0 where
  -- a request whose line is ended by LF, and whose block, if it has one, is there to its end
  whole : Submitted → Part
  -- a request whose line is ended by the end of the input
  last : Submitted → Part
  -- a line whose block isn't there to its end
  cut : Part

abbrev pub part_of : Bool → Submitted → Part
part_of true s = whole s
part_of false s = last s

-- how many bytes a first line has, with its line feed
abbrev pub line_bytes : FirstLine → ℕ
line_bytes f = length f.line + 1

-- the part that begins with a line, and then the others, of which some number of bytes is in front: those of the line and
-- of its block; a line that is passed over is no part
abbrev pub parts_with : FirstLine → (ℕ → List Part) → List Part
parts_with f others =
    if is_skipped f.line then others (line_bytes f)
    else if nat_lt (length f.behind) (block_size f.line) then cut ∷ []
    else part_of f.ended (submitted f.line f.behind) ∷ others (line_bytes f + block_size f.line)

-- the parts behind the first n bytes of a text
unfoldable pub parts_after : ℕ → List ℕ → List Part
parts_after n [] = []
parts_after (suc n) (b ∷ bytes) = parts_after n bytes
parts_after zero (b ∷ bytes) = parts_with (first_line (b ∷ bytes)) (λ n. parts_after (n - 1) bytes)

unfoldable pub parts_of : List ℕ → List Part
parts_of text = parts_after 0 text

abbrev pub request_in : Part → Option Submitted
request_in (whole s) = Some s
request_in (last s) = Some s
request_in cut = None

abbrev pub whole_in : Part → Option Submitted
whole_in (whole s) = Some s
whole_in (last s) = None
whole_in cut = None

abbrev pub is_cut : Part → Bool
is_cut (whole s) = false
is_cut (last s) = false
is_cut cut = true

-- the requests of a text
abbrev pub requests_of : List ℕ → List Submitted
requests_of text = filter_map request_in (parts_of text)

-- those whose line is ended by LF, and whose block is there to its end
abbrev pub whole_requests : List ℕ → List Submitted
whole_requests text = filter_map whole_in (parts_of text)

-- the text ends inside a block
abbrev pub ends_in_block : List ℕ → Bool
ends_in_block text = list_any is_cut (parts_of text)
