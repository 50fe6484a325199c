-- What the program does, by the status that it ends with.
use Rattle.std.specs.Prelude.{◌≡◌, ◌⊎◌, ◌<◌, ◌^◌, ℕ, ◌==◌, true, false, List, [], ◌∷◌}
use Rattle.std.specs.Prelude.{◌++◌, length, take, map, flat_map, codes, if◌then◌else◌, Option, IfSome, Some, None, option_and_then, Contains}
use Rattle.std.specs.Fmt.{decimal}
use Rattle.std.specs.List.{AllByRecursion}
use Rattle.std.specs.Io.KnownBytes.{Appends, Consumes, IsAtEnd}
use Rattle.svr_edge.specs.Causes.{Rose}
use Rattle.svr_edge.specs.Disk.{DiskView, IsImage, IsTornImage, Leaves, Reads}
use Rattle.svr_journal.specs.File.{StandsFor, StandsForSome}
use Rattle.svr_journal.specs.Opening.{AnyRose, opened_bytes}
use Rattle.svr_core.specs.Replay.{recovered}
use Rattle.svr_core.specs.Pages.{HavePages}
use Rattle.svr_core.specs.Reads.{ReadsIfSearch}
use Rattle.svr_core.specs.Run.{IsRun, Turn, closes, doubtful, kept, reads_of, records_of, state_in_end, state_then}
use Rattle.svr_core.specs.State.{Served, State, settled}
use Rattle.svr_pages.specs.Stretch.{with_reads}
use Rattle.svr_request.specs.declared.reply.Fault.TheVariants as fault
use Rattle.svr_request.specs.declared.reply.Reply.{Reply}
use Rattle.svr_request.specs.declared.reply.Reply.TheVariants.{Faulted}
use Rattle.svr_request.specs.Replies.{text_of}
use Rattle.svr_request.specs.Requests.{Submitted}
use Rattle.svr_store.specs.Opening.{IsNoJournal, StoodFor, StoodForState}
use Rattle.svr_words.specs.Words.{words_in}
use Rattle.svr_words.specs.declared.words.Words.{Words}
use Rattle.svr_words.specs.declared.words.Words.TheVariants.{Serve}
use Rattle.svr_serve.specs.Input.{ends_in_block, requests_of, whole_requests}

-- how many pages are to be cached, where this is asked for: to serve
abbrev pub cache_of : Words → Option ℕ
cache_of (Serve cache) = Some cache
cache_of _ = None

-- and where the words, the program's name first, ask to serve
abbrev pub cache_in : List (List ℕ) → Option ℕ
cache_in words = option_and_then cache_of (words_in words)

-- the program's streams, as far as they tell: the bytes that are left to be read, those that were taken and those of
-- them that were sent on their way, and how often each side has failed
pub record Streams : Type 0 where
  pub left : Option (List ℕ)
  pub failed_reads : ℕ
  pub taken : Option (List ℕ)
  pub sent : Option (List ℕ)
  pub failed_writes : ℕ

abbrev pub streams : Option (List ℕ) → ℕ → Option (List ℕ) → Option (List ℕ) → ℕ → Streams
streams left failed_reads taken sent failed_writes =
    record { left = left; failed_reads = failed_reads; taken = taken; sent = sent; failed_writes = failed_writes }

-- ---- what is written

abbrev pub IsPrefix : List ℕ → List ℕ → Type 0
IsPrefix front whole = (rest : List ℕ) × (whole ≡ front ++ rest)

-- the fault line behind the replies
abbrev pub fault_line : ℕ → List ℕ
fault_line status =
    if status == 1 then codes "{\"fault\":\"cut\"}\n"
    else if status == 3 then codes "{\"fault\":\"input\"}\n"
    else if status == 5 then codes "{\"fault\":\"write\"}\n"
    else if status == 7 then codes "{\"fault\":\"memory\"}\n"
    else if status == 8 then codes "{\"fault\":\"long\"}\n"
    else []

-- the fault line where no request was read; a journal is at fault at a place
abbrev pub opening_line : ℕ → ℕ → List ℕ
opening_line status at =
    if status == 2 then codes "{\"fault\":\"words\"}\n"
    else if status == 5 then codes "{\"fault\":\"device\"}\n"
    else if status == 6 then codes "{\"fault\":\"journal\",\"at\":" ++ decimal at ++ codes "}\n"
    else codes "{\"fault\":\"memory\"}\n"

-- a fault line was written, whole, or in part where the sink failed
pub record WritesFault (whole : List ℕ) (before after : ℕ) (line : List ℕ) : Type 0 where
  pub part : IsPrefix line whole
  pub cause : (line ≡ whole) ⊎ Rose before after

-- this was written, and then the fault line
abbrev pub WritesBehind : List ℕ → List ℕ → Streams → Streams → Type 0
WritesBehind written whole before after = (line : List ℕ) × WritesFault whole before.failed_writes after.failed_writes line
    × Appends before.taken after.taken (written ++ line)

-- a beginning of this was written
abbrev pub WritesPart : List ℕ → Streams → Streams → Type 0
WritesPart whole before after = (written : List ℕ) × IsPrefix written whole × Appends before.taken after.taken written

-- ---- turns

abbrev pub requests_in : List Turn → List Submitted
requests_in turns = map (λ t. t.request) turns

-- a reply's line; that of a reply that closes the store is the fault line
abbrev pub line_of : Turn → List ℕ
line_of t = if closes t.reply then [] else text_of t.reply

abbrev pub lines_of : List Turn → List ℕ
lines_of turns = flat_map line_of turns

-- no reply closes the store
abbrev pub GoesOn : List Turn → Type 0
GoesOn turns = AllByRecursion (λ t. closes t.reply ≡ false) turns

-- the last reply is this one
pub record EndsWith (reply : Reply) (turns : List Turn) : Type 0 where
  pub front : List Turn
  pub last : Turn
  pub split : turns ≡ front ++ last ∷ []
  pub is : last.reply ≡ reply

-- which requests were answered
pub record Answered (status : ℕ) (left rest : Option (List ℕ)) (requests : List Submitted) : Type 0 where
  -- all of the input, which was read to its end
  pub all : status ≡ 0 → IsAtEnd rest × IfSome left (λ input. (requests ≡ requests_of input) × (ends_in_block input ≡ false))
  -- all that stand whole in the bytes that were taken
  pub whole : (status ≡ 1) ⊎ (status ≡ 3) ⊎ (status ≡ 8)
      → (bytes : List ℕ) × Consumes left rest bytes × (requests ≡ whole_requests bytes)
  -- the first ones of the input
  pub first : (status ≡ 4) ⊎ (status ≡ 5) ⊎ (status ≡ 7)
      → IfSome left (λ input. (others : List Submitted) × (requests_of input ≡ requests ++ others))

-- ---- the disk

-- a crash while an empty disk gets its journal may leave anything in the first nine bytes
abbrev pub IsHalfMade : DiskView → List ℕ → Type 0
IsHalfMade disk image = (disk.size ≡ 0) × IsTornImage disk 0 9 image

-- what a crash leaves of the records
pub record Survives (bodies : List (List ℕ)) (turns : List Turn) (old new : DiskView) : Type 0 where
  -- at any moment those that were found, and behind them the first ones of the turns
  pub any_moment : Leaves old new (λ image. StandsForSome bodies (records_of turns) image ⊎ IsHalfMade old image)
  -- afterwards all of them, but for one whose write failed
  pub in_end : (image : List ℕ) → IsImage new image → StandsForSome (bodies ++ flat_map kept turns) (flat_map doubtful turns) image

-- what records give when they are read again: each is accepted in its place, the pages of what is served stand in them, and where it is
-- known, each slice was the next one of its merge
pub record IsRecovered (known : Type 0) (bodies : List (List ℕ)) : Type 0 where
  pub served : Served
  pub gives : recovered bodies ≡ Some served
  pub pages : HavePages bodies served.listed
  pub lawful : known → served.lawful ≡ true

-- what the records of turns give
pub record Recovers (known : Type 0) (opening : State) (turns : List Turn) : Type 0 where
  -- those of the first turns give what was served after them, without a merge that wasn't published
  pub again : (n : ℕ) → GoesOn (take n turns)
      → recovered (opening.bodies ++ records_of (take n turns)) ≡ Some (settled (state_in_end opening (take n turns)).served)
  -- and so do the first ones of them, wherever they end
  pub each : (first others : List (List ℕ)) → records_of turns ≡ first ++ others → IsRecovered known (opening.bodies ++ first)

-- each search reads what it needs, no page twice, but for pages that were read before; without a cache exactly what it needs
unfoldable pub ReadAsNeeded : Type 0 → ℕ → State → List ℕ → List Turn → Type 0
ReadAsNeeded known cache s before [] = Unit {0}
ReadAsNeeded known cache s before (t ∷ ts) =
    (known → ReadsIfSearch (Contains before) cache s t) × ReadAsNeeded known cache (state_then s t) (before ++ t.reads) ts

-- behind what opening read, the trace has the pages that are read for the turns, in their order
pub record ReadsBehind (known : Type 0) (cache : ℕ) (opening : State) (turns : List Turn) (new : DiskView) : Type 0 where
  pub opened : Option (List (ℕ × ℕ))
  pub trace : new.trace ≡ with_reads opened (reads_of turns)
  pub needed : ReadAsNeeded known cache opening [] turns

-- ---- how the program ends

-- before a request was read: the fault line alone was written
pub record Unopened (status : ℕ) (before after : Streams) (old new : DiskView) : Type 0 where
  pub at : ℕ
  pub statuses : Contains (2 ∷ 5 ∷ 6 ∷ 7 ∷ []) status
  pub unread : after.left ≡ before.left
  pub line : WritesBehind [] (opening_line status at) before after
  pub images : Leaves old new (IsHalfMade old)
  pub unchanged : (status ≡ 2) ⊎ (status ≡ 6) → (bytes : List ℕ) → Reads old bytes → Reads new bytes
  pub device : status ≡ 5 → AnyRose old new
  pub journal : status ≡ 6 → (bytes : List ℕ) → Reads old bytes → IsNoJournal (opened_bytes bytes) at

-- the state that a disk stands for when it is opened: it is a journal, and the state is what its records give
pub record IsFound (disk : DiskView) (opening : State) : Type 0 where
  pub stood : (bytes : List ℕ) → Reads disk bytes → StandsFor (opened_bytes bytes) opening.bodies
  pub found : (bodies : List (List ℕ)) → StoodFor disk bodies → bodies ≡ opening.bodies
  pub gives : recovered opening.bodies ≡ Some opening.served

-- behind turns that were carried as the words ask, from the state that the disk stood for
pub record Carried (words : List (List ℕ)) (status : ℕ) (before after : Streams) (old new : DiskView) : Type 0 where
  -- how many pages were to be cached
  pub cache : ℕ
  pub asked : cache_in words ≡ Some cache
  pub opening : State
  pub turns : List Turn
  pub statuses : Contains (0 ∷ 1 ∷ 3 ∷ 4 ∷ 5 ∷ 7 ∷ 8 ∷ []) status
  pub found : IsFound old opening
  -- where the disk stood for its records, and each slice among them was the next one of its merge, each reply is the one due, or has a
  -- cause outside
  pub run : IsRun (StoodForState old opening) opening turns
  pub answered : Answered status before.left after.left (requests_in turns)
  -- the replies were written, and the fault line behind them; or a beginning of the replies where the sink failed
  pub lines : (status ≡ 4 → ⊥) → WritesBehind (lines_of turns) (fault_line status) before after
  pub part : status ≡ 4 → WritesPart (lines_of turns) before after
  -- a write failed, and the reply that tells it is the last
  pub write : status ≡ 5 → EndsWith (Faulted fault.Write) turns × Rose old.write_faults new.write_faults
  pub going : (status ≡ 5 → ⊥) → (status ≡ 7 → ⊥) → GoesOn turns
  pub survives : StoodFor old opening.bodies → Survives opening.bodies turns old new
  pub recovers : Recovers (StoodForState old opening) opening turns
  pub reads : ReadsBehind (StoodForState old opening) cache opening turns new

-- ---- causes

-- the input was read to its end, which is inside a block
pub record EndsInBlock (left rest : Option (List ℕ)) : Type 0 where
  pub end : IsAtEnd rest
  pub cut : IfSome left (λ input. ends_in_block input ≡ true)

-- so many bytes were taken from those that are known to be left; or fewer
abbrev pub Took : ℕ → Option (List ℕ) → Option (List ℕ) → Type 0
Took count before after = (bytes : List ℕ) × Consumes before after bytes × (length bytes ≡ count)

abbrev pub TookLess : ℕ → Option (List ℕ) → Option (List ℕ) → Type 0
TookLess count before after = (bytes : List ℕ) × Consumes before after bytes × (length bytes < count)

-- all that was taken was sent on, if that was so before; or the sink has failed
abbrev pub SendsAll : Streams → Streams → Type 0
SendsAll before after = before.sent ≡ before.taken → (after.sent ≡ after.taken) ⊎ Rose before.failed_writes after.failed_writes

-- why the program ends with the status
pub record HasCause (status : ℕ) (before after : Streams) : Type 0 where
  pub cut : status ≡ 1 → EndsInBlock before.left after.left
  pub input : status ≡ 3 → Rose before.failed_reads after.failed_reads
  pub output : status ≡ 4 → Rose before.failed_writes after.failed_writes
  pub bytes : status ≡ 8 → Took (2 ^ 40) before.left after.left
  pub before_limit : (status ≡ 0) ⊎ (status ≡ 1) ⊎ (status ≡ 3) → TookLess (2 ^ 40) before.left after.left
