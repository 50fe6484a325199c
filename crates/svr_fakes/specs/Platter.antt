-- A disk in memory, by the calls that it got, and what a crash leaves of it.
use Rattle.std.specs.Prelude.{◌≡◌, ◌⊎◌, ℕ, ◌+◌, ◌%◌, suc, List, [], ◌∷◌, ◌++◌, length, drop, take, get_or, Option, None, Some, ◌==◌, if◌then◌else◌}
use Rattle.svr_edge.specs.Disk.{Torn, overwritten}
use Rattle.svr_fakes.specs.declared.disk_call.Call.{Call}
use Rattle.svr_fakes.specs.declared.disk_call.Call.TheVariants.{Len, Read, Write, Sync}
use Rattle.svr_fakes.specs.declared.disk_call.Torn as tears
use Rattle.svr_fakes.specs.declared.disk_call.Torn.TheVariants.{Old, New, Mixed}

-- what a read gives, what stood there at the last sync that succeeded, and the writes since, failed ones too, each by its place and
-- its bytes, the last first
pub record Platter : Type 0 where
  pub read : List ℕ
  pub kept : List ℕ
  pub pending : List (ℕ × List ℕ)

-- a platter after a call
abbrev pub after_call : Platter → Call → Platter
after_call p Len = p
after_call p Read = p
after_call p (Write at piece done) = record {
  read = if done then overwritten p.read at piece else p.read;
  kept = p.kept;
  pending = (at, piece) ∷ p.pending;
}
after_call p (Sync done) = record {
  read = p.read;
  kept = if done then p.read else p.kept;
  pending = if done then [] else p.pending;
}

-- and after calls, the first of them first
abbrev pub after_calls : Platter → List Call → Platter
after_calls p [] = p
after_calls p (call ∷ calls) = after_calls (after_call p call) calls

-- a disk of these bytes, as after a sync
abbrev pub whole : List ℕ → Platter
whole bytes = record { read = bytes; kept = bytes; pending = [] }

-- what a crash may leave of these bytes, where these writes were made since
abbrev pub MayLeave : List ℕ → List (ℕ × List ℕ) → List ℕ → Type 0
MayLeave kept [] image = image ≡ kept
MayLeave kept (write ∷ pending) image = (old : List ℕ) × MayLeave kept pending old × Torn write.0 (length write.1) old image

-- the old byte, the new one, or 7
abbrev pub mixed_byte : ℕ → ℕ → ℕ → ℕ
mixed_byte turn old new = if turn % 3 == 0 then old else if turn % 3 == 1 then new else 7

-- a written piece mixed with the bytes that stood from its place on, which are 0 where there are none; the turn is its place and the
-- mixture's number together
abbrev pub mixed : ℕ → List ℕ → List ℕ → List ℕ
mixed turn old [] = []
mixed turn old (byte ∷ piece) = mixed_byte turn (get_or old 0 0) byte ∷ mixed (suc turn) (drop 1 old) piece

-- what a crash of this kind makes of these bytes, where these writes were made since
abbrev pub crashed : tears.Torn → List ℕ → List (ℕ × List ℕ) → List ℕ
crashed Old kept pending = kept
crashed New kept [] = kept
crashed New kept (write ∷ pending) = overwritten (crashed New kept pending) write.0 write.1
crashed (Mixed n) kept [] = kept
crashed (Mixed n) kept (write ∷ pending) = overwritten (crashed (Mixed n) kept pending) write.0 (mixed (write.0 + n) (drop write.0 kept) write.1)

-- what a disk was at first, and its calls
pub record Past : Type 0 where
  pub first : List ℕ
  pub calls : List Call

abbrev pub platter_of : Past → Platter
platter_of past = after_calls (whole past.first) past.calls

-- the platter after the first so many calls
abbrev pub platter_at : Past → ℕ → Platter
platter_at past count = after_calls (whole past.first) (take count past.calls)

-- with one call more
abbrev pub noted : Past → Call → Past
noted past call = record { first = past.first; calls = past.calls ++ call ∷ [] }

-- the call was noted, or nothing was
abbrev pub MayNote : Past → Past → Call → Type 0
MayNote old new call = (new ≡ old) ⊎ (new ≡ noted old call)

-- the bytes of a disk that are these at first, and others once they were written over
abbrev pub bytes_now : List ℕ → Option (List ℕ) → List ℕ
bytes_now first None = first
bytes_now first (Some bytes) = bytes
