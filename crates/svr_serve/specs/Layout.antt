-- Words of private clauses: how requests are taken from the input.
use Rattle.std.specs.Prelude.{◌≡◌, ◌⊎◌, ◌<◌, ◌≤◌, ◌+◌, ℕ, true, false, List, [], ◌∷◌, ◌++◌, length}
use Rattle.std.specs.Prelude.{Option, Result, IsErrOf, ⊤}
use Rattle.std.specs.Io.KnownBytes.{Consumes}
use Rattle.svr_edge.specs.Causes.{Rose}
use Rattle.svr_journal.specs.declared.faults.JournalError.{JournalError}
use Rattle.svr_journal.specs.declared.faults.JournalError.TheVariants as error
use Rattle.svr_lines.specs.declared.lines.InputStop.{InputStop}
use Rattle.svr_lines.specs.declared.lines.InputStop.TheVariants as stop
use Rattle.svr_lines.specs.Lines.{pieces_of}
use Rattle.svr_lines.specs.Pieces.{HandsOut, IsLast}
use Rattle.svr_lines.specs.Reading.{KnowsEnd, Reading, Reads, taken_bytes}
use Rattle.svr_lines.specs.Stops.{StopsInBlock}
use Rattle.svr_request.specs.declared.refusal.Refusal.{Refusal}
use Rattle.svr_request.specs.Requests.{Submitted, Wanted}
use Rattle.svr_store.specs.declared.store.Closed.{Closed}
use Rattle.svr_store.specs.declared.store.Closed.TheVariants as closed
use Rattle.svr_words.specs.declared.fault.WordsFault.{WordsFault}
use Rattle.svr_words.specs.declared.fault.WordsFault.TheVariants as words
use Rattle.svr_serve.specs.declared.ending.Ending.{Ending}
use Rattle.svr_serve.specs.declared.ending.Ending.TheVariants as ending
use Rattle.svr_serve.specs.Input.{block_before, block_size, cut, last, line_request, parts_of, whole, whole_requests}
use Rattle.svr_serve.specs.Program.{fault_line, opening_line}

abbrev pub status_of : Ending → ℕ
status_of ending.Complete = 0
status_of ending.Cut = 1
status_of ending.Words = 2
status_of ending.Input = 3
status_of ending.Output = 4
status_of ending.Write = 5
status_of ending.Device = 5
status_of (ending.Journal at) = 6
status_of ending.Memory = 7
status_of ending.Bytes = 8

-- the fault line of an ending
abbrev pub line_of_ending : Ending → List ℕ
line_of_ending ending.Complete = fault_line 0
line_of_ending ending.Cut = fault_line 1
line_of_ending ending.Words = opening_line 2 0
line_of_ending ending.Input = fault_line 3
line_of_ending ending.Output = fault_line 4
line_of_ending ending.Write = fault_line 5
line_of_ending ending.Device = opening_line 5 0
line_of_ending (ending.Journal at) = opening_line 6 at
line_of_ending ending.Memory = fault_line 7
line_of_ending ending.Bytes = fault_line 8

-- no number stands in its fault line
abbrev pub HasNoNumber : Ending → Type 0
HasNoNumber (ending.Journal at) = ⊥
HasNoNumber _ = ⊤

abbrev pub ending_of_words : WordsFault → Ending
ending_of_words words.NoReading = ending.Words
ending_of_words words.Memory = ending.Memory

abbrev pub ending_of : InputStop → Ending
ending_of stop.Input = ending.Input
ending_of stop.Bytes = ending.Bytes

abbrev pub ending_of_error : JournalError → Ending
ending_of_error error.Device = ending.Device
ending_of_error (error.NotAJournal at) = ending.Journal at
ending_of_error error.Memory = ending.Memory

abbrev pub ending_of_closed : Closed → Ending
ending_of_closed closed.Write = ending.Write
ending_of_closed closed.Memory = ending.Memory

-- ---- one request

-- the next line that isn't passed over was taken: what it asks for, and how many bytes of a block follow
pub record TakesNext (before after : Option (List ℕ)) (old new : Reading) (request : Result Wanted Refusal) (size : ℕ) : Type 0 where
  pub gone : List ℕ
  pub bytes : List ℕ
  pub line : List ℕ
  pub reads : Reads before after old new gone bytes
  pub hands_out : HandsOut gone line new after
  pub is : request ≡ line_request line
  pub size_is : size ≡ block_size line
  pub open_end : old.ended ≡ false
  pub known_end : KnowsEnd new after
  pub progress : old.handed < new.handed
  pub before_limit : new.ended ≡ true → taken_bytes new < new.limit

-- a block of so many bytes was taken, and is kept where it isn't too long
pub record TakesWholeBlock (before after : Option (List ℕ)) (old new : Reading) (size : ℕ) : Type 0 where
  pub gone : List ℕ
  pub bytes : List ℕ
  pub reads : Reads before after old new gone bytes
  pub count : length gone ≡ size
  pub block : new.block ≡ block_before size gone
  pub at_end : old.ended ≡ true → size ≡ 0

-- the input ended before a block of so many bytes did
pub record CutsBlock (before after : Option (List ℕ)) (old new : Reading) (size : ℕ) : Type 0 where
  pub gone : List ℕ
  pub bytes : List ℕ
  pub reads : Reads before after old new gone bytes
  pub few : length gone < size
  pub last : IsLast new after

-- the gone bytes are lines that are passed over and this request, in front of more
abbrev pub HoldsWhole : List ℕ → Submitted → Type 0
HoldsWhole gone request = (more : List ℕ) → parts_of (gone ++ more) ≡ whole request ∷ parts_of more

-- the next request was taken, with its block
pub record TakesRequest (before after : Option (List ℕ)) (old new : Reading) (request : Submitted) : Type 0 where
  pub gone : List ℕ
  pub bytes : List ℕ
  pub reads : Reads before after old new gone bytes
  pub part : HoldsWhole gone request ⊎ (IsLast new after × (parts_of gone ≡ last request ∷ []))
  pub short : length request.block ≤ 8388608
  pub open_end : old.ended ≡ false
  pub known_end : KnowsEnd new after
  pub progress : old.handed < new.handed
  pub before_limit : new.ended ≡ true → taken_bytes new < new.limit

-- the input is at its end, and no line was left that isn't passed over
pub record EndsInput (before after : Option (List ℕ)) (old new : Reading) : Type 0 where
  pub gone : List ℕ
  pub bytes : List ℕ
  pub reads : Reads before after old new gone bytes
  pub last : IsLast new after
  pub none : pieces_of gone ≡ []
  pub before_limit : old.ended ≡ false → taken_bytes new < new.limit

-- the input ended inside the block of the next line
pub record EndsCut (before after : Option (List ℕ)) (old new : Reading) : Type 0 where
  pub gone : List ℕ
  pub bytes : List ℕ
  pub reads : Reads before after old new gone bytes
  pub part : parts_of gone ≡ cut ∷ []
  pub last : IsLast new after
  pub open_end : old.ended ≡ false
  pub before_limit : taken_bytes new < new.limit

-- the bytes that were taken and aren't handed out hold no whole request, and the end of the input wasn't seen before
pub record StopsShort (before after : Option (List ℕ)) (old new : Reading) : Type 0 where
  pub bytes : List ℕ
  pub consumed : Consumes before after bytes
  pub taken : taken_bytes new ≡ taken_bytes old + length bytes
  pub limit : new.limit ≡ old.limit
  pub none : whole_requests (old.ahead ++ bytes) ≡ []
  pub open_end : old.ended ≡ false

-- a line was taken, and memory was wanting to read it
pub record TakesUnread (before after : Option (List ℕ)) (old new : Reading) : Type 0 where
  pub request : Result Wanted Refusal
  pub size : ℕ
  pub takes : TakesNext before after old new request size

-- no request could be taken
abbrev pub StopsReading : Ending → Option (List ℕ) → Option (List ℕ) → Reading → Reading → Type 0
StopsReading ending.Input before after old new = StopsShort before after old new
StopsReading ending.Bytes before after old new = StopsShort before after old new
StopsReading ending.Cut before after old new = EndsCut before after old new
StopsReading ending.Memory before after old new = TakesUnread before after old new
StopsReading _ before after old new = ⊥

-- a block couldn't be taken
abbrev pub StopsBlock : Ending → Option (List ℕ) → Option (List ℕ) → Reading → Reading → ℕ → Type 0
StopsBlock ending.Input before after old new size = (old.ended ≡ false) × (bytes : List ℕ) × StopsInBlock before after old new size bytes
StopsBlock ending.Bytes before after old new size = (old.ended ≡ false) × (bytes : List ℕ) × StopsInBlock before after old new size bytes
StopsBlock ending.Cut before after old new size = CutsBlock before after old new size
StopsBlock _ before after old new size = ⊥

-- ---- causes

-- no more bytes were taken than may be, and an ending by the source has its cause
pub record HasReadCauses {T : Type 0} (before after : ℕ) (new : Reading) (result : Result T Ending) : Type 0 where
  pub few : taken_bytes new ≤ new.limit
  pub later : before ≤ after
  pub input : IsErrOf result ending.Input → Rose before after × (taken_bytes new < new.limit)
  pub bytes : IsErrOf result ending.Bytes → taken_bytes new ≡ new.limit
