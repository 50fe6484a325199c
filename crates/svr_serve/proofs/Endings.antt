-- What was written, stored and sent in the end, by how serving ended.
use Rattle.std.proofs.Common.{◌≡◌, ◌⊎◌, ◌==◌, ℕ, ◌≤◌, List, [], ◌∷◌, ◌++◌, if◌then◌else◌, Option, Some}
use Rattle.std.proofs.Common.{inl, inr, refl, sym, ap, ◌∙◌, subst, arith, append-nil, Contains}
use Rattle.std.specs.Io.KnownBytes.{Appends}
use Rattle.std.proofs.KnownBytes.{Appends-trans}
use Rattle.svr_edge.specs.Disk.{DiskView, Leaves, Reads}
use Rattle.svr_edge.proofs.CausesLemmas.{Rose-earlier}
use Rattle.svr_edge.proofs.DiskLemmas.{Leaves-refl}
use Rattle.svr_journal.specs.Opening.{AnyRose, opened_bytes}
use Rattle.svr_store.specs.Opening.{IsNoJournal}
use Rattle.svr_serve.specs.declared.ending.Ending.{Ending}
use Rattle.svr_serve.specs.declared.ending.Ending.TheVariants.{Complete, Cut, Words, Input, Output, Write, Device, Journal, Memory, Bytes}
use Rattle.svr_serve.specs.Layout.{line_of_ending, status_of}
use Rattle.svr_serve.specs.Program.{Carried, IsHalfMade, IsPrefix, Streams, Unopened, WritesBehind}
use Rattle.svr_serve.specs.Program.{WritesFault, WritesPart, cache_in, fault_line, lines_of, opening_line, streams}
use Rattle.svr_serve.specs.Ran.{EndsBecause, EndsServing, OpeningStops, Serving, StaysClosed, StopsAtWords}

-- ---- statuses

serving_among : (e : Ending) → EndsServing e → Contains (0 ∷ 1 ∷ 3 ∷ 4 ∷ 5 ∷ 7 ∷ 8 ∷ []) (status_of e)
serving_among Complete s = (0, omega arith, refl)
serving_among Cut s = (1, omega arith, refl)
serving_among Input s = (2, omega arith, refl)
serving_among Output s = (3, omega arith, refl)
serving_among Write s = (4, omega arith, refl)
serving_among Memory s = (5, omega arith, refl)
serving_among Bytes s = (6, omega arith, refl)
serving_among Words s = absurd s
serving_among Device s = absurd s
serving_among (Journal at) s = absurd s

-- the ending behind turns that has a status
abbrev ending_by : ℕ → Ending
ending_by n =
    if n == 0 then Complete else if n == 1 then Cut else if n == 2 then Words else if n == 3 then Input
    else if n == 4 then Output else if n == 5 then Write else if n == 7 then Memory else Bytes

ended_as : (e : Ending) (n : ℕ) → status_of e ≡ n → (n ≡ 5 → ⊥) → (n ≡ 6 → ⊥) → e ≡ ending_by n
ended_as Complete n h five six = ap ending_by h
ended_as Cut n h five six = ap ending_by h
ended_as Words n h five six = ap ending_by h
ended_as Input n h five six = ap ending_by h
ended_as Output n h five six = ap ending_by h
ended_as Memory n h five six = ap ending_by h
ended_as Bytes n h five six = ap ending_by h
ended_as Write n h five six = absurd (five (sym h))
ended_as Device n h five six = absurd (five (sym h))
ended_as (Journal at) n h five six = absurd (six (sym h))

write_as : (e : Ending) → EndsServing e → status_of e ≡ 5 → e ≡ Write
write_as Write s h = refl
write_as Device s h = absurd s
write_as (Journal at) s h = absurd s
write_as Complete s h = cc
write_as Cut s h = cc
write_as Words s h = cc
write_as Input s h = cc
write_as Output s h = cc
write_as Memory s h = cc
write_as Bytes s h = cc

serving_line : (e : Ending) → EndsServing e → line_of_ending e ≡ fault_line (status_of e)
serving_line Complete s = refl
serving_line Cut s = refl
serving_line Input s = refl
serving_line Output s = refl
serving_line Write s = refl
serving_line Memory s = refl
serving_line Bytes s = refl
serving_line Words s = absurd s
serving_line Device s = absurd s
serving_line (Journal at) s = absurd s

-- ---- the fault line

-- the same fault, from an earlier count
WritesFault-earlier : (whole line : List ℕ) (start before after : ℕ) → start ≤ before → WritesFault whole before after line
    → WritesFault whole start after line
WritesFault-earlier whole line start before after h f = record {
  part = f.part;
  cause = elim f.cause [ inl all ↦ inl all | inr rose ↦ inr (Rose-earlier start before after h rose) ];
}

front_of_none : (front : List ℕ) → IsPrefix front [] → front ≡ []
front_of_none [] p = refl
front_of_none (x ∷ front) p = cc

-- ---- turns were carried

module _ (e : Ending) (start mid : Streams) (old new : DiskView) (taken sent : Option (List ℕ)) (failed : ℕ) (line : List ℕ)
    (q : Appends mid.taken taken line) (fault : WritesFault (line_of_ending e) mid.failed_writes failed line)
    (because : EndsBecause e start mid old new) where
  abbrev after : Streams
  after = streams mid.left mid.failed_reads taken sent failed

  fault_since : WritesFault (line_of_ending e) start.failed_writes failed line
  fault_since = WritesFault-earlier (line_of_ending e) line start.failed_writes mid.failed_writes failed because.later fault

  module _ (cache : ℕ) (s : Serving cache e start mid old new) where
    lines_on : (status_of e ≡ 4 → ⊥) → WritesBehind (lines_of s.turns) (fault_line (status_of e)) start after
    lines_on other = (
      line,
      subst (λ (whole : List ℕ). WritesFault whole start.failed_writes failed line) (serving_line e s.ran.serving) fault_since,
      Appends-trans start.taken mid.taken taken (lines_of s.turns) line (s.ran.lines (λ is. other (ap status_of is))) q,
    )

    no_line : e ≡ Output → line ≡ []
    no_line is = front_of_none line (subst (λ (x : Ending). IsPrefix line (line_of_ending x)) is fault.part)

    part_on : e ≡ Output → WritesPart (lines_of s.turns) start after
    part_on is =
        let p = s.ran.part is in (
          p.0,
          p.1,
          subst (Appends start.taken taken) (ap (λ xs. p.0 ++ xs) (no_line is) ∙ append-nil p.0)
              (Appends-trans start.taken mid.taken taken p.0 line p.2 q),
        )

    carried : (words : List (List ℕ)) → cache_in words ≡ Some cache → Carried words (status_of e) start after old new
    carried words asked = record {
      cache = cache;
      asked = asked;
      opening = s.opening;
      turns = s.turns;
      statuses = serving_among e s.ran.serving;
      found = s.found;
      run = s.ran.run;
      reads = s.reads;
      answered = s.ran.answered;
      lines = lines_on;
      part = λ h. part_on (ended_as e 4 h (λ is. cc) (λ is. cc));
      write = λ h. let is = write_as e s.ran.serving h in (s.ran.closed is, because.write is);
      going = λ five seven. s.ran.going (λ is. five (ap status_of is)) (λ is. seven (ap status_of is));
      survives = s.survives;
      recovers = s.recovers;
    }

-- ---- no request was read

module _ (start mid : Streams) (old new : DiskView) (taken sent : Option (List ℕ)) (failed : ℕ) (line : List ℕ)
    (q : Appends mid.taken taken line) (same : mid ≡ start) (images : Leaves old new (IsHalfMade old)) where
  abbrev ending : Streams
  ending = streams mid.left mid.failed_reads taken sent failed

  unopened_so : (status at : ℕ) → WritesFault (opening_line status at) start.failed_writes failed line → Contains (2 ∷ 5 ∷ 6 ∷ 7 ∷ []) status
      → ((status ≡ 2) ⊎ (status ≡ 6) → (bytes : List ℕ) → Reads old bytes → Reads new bytes) → (status ≡ 5 → AnyRose old new)
      → (status ≡ 6 → (bytes : List ℕ) → Reads old bytes → IsNoJournal (opened_bytes bytes) at)
      → Unopened status start ending old new
  unopened_so status at fault among unchanged device journal = record {
    at = at;
    statuses = among;
    unread = ap (λ (s : Streams). s.left) same;
    line = (line, fault, subst (λ (s : Streams). Appends s.taken taken line) same q);
    images = images;
    unchanged = unchanged;
    device = device;
    journal = journal;
  }

  -- the disk couldn't be opened
  unopened : (e : Ending) → WritesFault (line_of_ending e) start.failed_writes failed line → OpeningStops e old new
      → Unopened (status_of e) start ending old new
  unopened Device fault stops = unopened_so 5 0 fault (1, omega arith, refl) (λ h. elim h [ inl x ↦ cc | inr x ↦ cc ]) (λ h. stops) (λ h. cc)
  unopened (Journal at) fault stops = unopened_so 6 at fault (2, omega arith, refl)
      (λ h bytes reads. (stops bytes reads).1) (λ h. cc) (λ h bytes reads. (stops bytes reads).0)
  unopened Memory fault stops = unopened_so 7 0 fault (3, omega arith, refl) (λ h. elim h [ inl x ↦ cc | inr x ↦ cc ]) (λ h. cc) (λ h. cc)
  unopened Complete fault stops = absurd stops
  unopened Cut fault stops = absurd stops
  unopened Words fault stops = absurd stops
  unopened Input fault stops = absurd stops
  unopened Output fault stops = absurd stops
  unopened Write fault stops = absurd stops
  unopened Bytes fault stops = absurd stops

-- the words weren't read, or don't ask to serve
module _ (words : List (List ℕ)) (start : Streams) (d : DiskView) (taken sent : Option (List ℕ)) (failed : ℕ) (line : List ℕ)
    (q : Appends start.taken taken line) where
  abbrev at_words : Streams
  at_words = streams start.left start.failed_reads taken sent failed

  unread : (e : Ending) → WritesFault (line_of_ending e) start.failed_writes failed line → StopsAtWords e words
      → Unopened (status_of e) start at_words d d
  unread Words fault stops = unopened_so start start d d taken sent failed line q refl (Leaves-refl d (IsHalfMade d)) 2 0 fault
      (0, omega arith, refl) (λ h bytes reads. reads) (λ h. cc) (λ h. cc)
  unread Memory fault stops = unopened start start d d taken sent failed line q refl (Leaves-refl d (IsHalfMade d)) Memory fault tt
  unread Complete fault stops = absurd stops
  unread Cut fault stops = absurd stops
  unread Input fault stops = absurd stops
  unread Output fault stops = absurd stops
  unread Write fault stops = absurd stops
  unread Device fault stops = absurd stops
  unread (Journal at) fault stops = absurd stops
  unread Bytes fault stops = absurd stops

  pub unread_by : (status : ℕ) (e : Ending) → status ≡ status_of e → WritesFault (line_of_ending e) start.failed_writes failed line
      → StopsAtWords e words → Unopened status start at_words d d
  unread_by status e is fault stops = subst (λ (n : ℕ). Unopened n start at_words d d) (sym is) (unread e fault stops)

-- ---- by the way that serving ended

module _ (status : ℕ) (e : Ending) (start mid : Streams) (old new : DiskView) (taken sent : Option (List ℕ)) (failed : ℕ) (line : List ℕ)
    (is : status ≡ status_of e) (q : Appends mid.taken taken line) (fault : WritesFault (line_of_ending e) mid.failed_writes failed line)
    (because : EndsBecause e start mid old new) where
  abbrev finished : Streams
  finished = streams mid.left mid.failed_reads taken sent failed

  pub ends_by : (words : List (List ℕ)) (cache : ℕ) → cache_in words ≡ Some cache → StaysClosed e start mid old new ⊎ Serving cache e start mid old new
      → Unopened status start finished old new ⊎ Carried words status start finished old new
  ends_by words cache asked by = elim by [
    | inl s ↦ inl (subst (λ (n : ℕ). Unopened n start finished old new) (sym is)
        (unopened start mid old new taken sent failed line q s.streams s.images e
        (fault_since e start mid old new taken sent failed line q fault because) s.stops))
    | inr s ↦ inr (subst (λ (n : ℕ). Carried words n start finished old new) (sym is)
        (carried e start mid old new taken sent failed line q fault because cache s words asked))
  ]

-- the same causes, from before the disk was opened
pub because_earlier : (e : Ending) (start mid : Streams) (old opened new : DiskView) → old.write_faults ≤ opened.write_faults
    → EndsBecause e start mid opened new → EndsBecause e start mid old new
because_earlier e start mid old opened new later b = record {
  sent = b.sent;
  later = b.later;
  cut = b.cut;
  input = b.input;
  output = b.output;
  write = λ is. Rose-earlier old.write_faults opened.write_faults new.write_faults later (b.write is);
  bytes = b.bytes;
  before_limit = b.before_limit;
}
