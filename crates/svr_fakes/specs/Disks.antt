-- What a disk in memory means to its callers.
use Rattle.std.specs.Prelude.{◌≡◌, ◌⊎◌, ◌≤◌, ◌+◌, ◌-◌, ℕ, List, [], ◌∷◌, ◌++◌, length, take, drop, get_or, Some, true, false, refl, Bool, Result, OnOk, OnErr}
use Rattle.std.proofs.Common.{sym, ap, ◌∙◌, subst, arith, get_or-take}
use Rattle.std.proofs.lemmas.List.{length-append, length-take, length-drop, get_or_append_left, get_or-append_right, get_or-drop}
use Rattle.svr_edge.specs.Disk.{DiskView, IsDisk, Torn, overwritten}
use Rattle.svr_fakes.specs.declared.disk_call.Call.{Call}
use Rattle.svr_fakes.specs.declared.disk_call.Call.TheVariants.{Len, Read, Write, Sync}
use Rattle.svr_edge.specs.declared.source.Failed.{Failed}
use Rattle.svr_edge.specs.Causes.{one_more}
use Rattle.svr_fakes.specs.declared.disk_call.DiskCall.{DiskCall}
use Rattle.svr_fakes.specs.declared.disk_call.DiskCall.TheVariants as kinds
use Rattle.svr_fakes.specs.declared.disk_call.Count.{Count}
use Rattle.svr_fakes.specs.declared.disk_call.Torn as tears
use Rattle.svr_fakes.specs.DiskCalls.{after_count, asked_next, call_fails}
use Rattle.svr_fakes.specs.Platter.{MayLeave, Past, Platter, after_call, after_calls, crashed, noted, platter_at, platter_of, whole}

-- its calls and what it was at first, its reads, the kinds and numbers of the calls that fail, how many there were of each kind, and its
-- counts of faults
pub record MemState : Type 0 where
  pub past : Past
  pub reads : List (ℕ × ℕ)
  pub fail : List (DiskCall × ℕ)
  pub len_calls : Count
  pub read_calls : Count
  pub write_calls : Count
  pub sync_calls : Count
  pub read_faults : ℕ
  pub write_faults : ℕ

-- what a crash may leave of a platter
abbrev pub LeavesBy : Platter → List ℕ → Type 0
LeavesBy p image = MayLeave p.kept p.pending image

-- what a crash may leave after the first so many calls
abbrev pub LeavesAt : Past → ℕ → List ℕ → Type 0
LeavesAt past count image = LeavesBy (after_calls (whole past.first) (take count past.calls)) image

-- what is told of a disk
pub record Told : Type 0 where
  pub past : Past
  pub reads : List (ℕ × ℕ)
  pub read_faults : ℕ
  pub write_faults : ℕ

abbrev pub told : MemState → Told
told d = record { past = d.past; reads = d.reads; read_faults = d.read_faults; write_faults = d.write_faults }

abbrev pub view_told : Told → DiskView
view_told d = record {
  size = length (platter_of d.past).read;
  content = Some (platter_of d.past).read;
  trace = Some d.reads;
  clock = length d.past.calls;
  since = λ t image. (count : ℕ) × (t ≤ count) × (count ≤ length d.past.calls) × LeavesAt d.past count image;
  read_faults = d.read_faults;
  write_faults = d.write_faults;
}

-- a disk in memory as a disk
abbrev pub view_of : MemState → DiskView
view_of d = view_told (told d)

-- no call of a kind so far, and none asked to fail
abbrev pub no_calls : Count
no_calls = record { made = 0; asked = 0 }

-- a disk of these bytes, as after a sync
abbrev pub new_disk : List ℕ → List (DiskCall × ℕ) → MemState
new_disk bytes fail = record {
  past = record { first = bytes; calls = [] };
  reads = [];
  fail = fail;
  len_calls = no_calls;
  read_calls = no_calls;
  write_calls = no_calls;
  sync_calls = no_calls;
  read_faults = 0;
  write_faults = 0;
}

-- the next call of that kind is asked to fail
abbrev pub after_ask : MemState → DiskCall → MemState
after_ask d kinds.Len = record d { len_calls = asked_next d.len_calls }
after_ask d kinds.Read = record d { read_calls = asked_next d.read_calls }
after_ask d kinds.Write = record d { write_calls = asked_next d.write_calls }
after_ask d kinds.Sync = record d { sync_calls = asked_next d.sync_calls }

-- the call is kept
abbrev pub kept : MemState → Call → MemState
kept d call = record d { past = noted d.past call }

-- the read stands in the trace too
abbrev pub kept_read : MemState → ℕ → ℕ → MemState
kept_read d at count = record (kept d Read) { reads = d.reads ++ (at, count) ∷ [] }

abbrev pub read_failed : MemState → MemState
read_failed d = record d { read_faults = one_more d.read_faults }

abbrev pub write_failed : MemState → MemState
write_failed d = record d { write_faults = one_more d.write_faults }

-- a call that doesn't fail leaves the disk `done`; one that has to fail leaves it `failed`; for want of memory any call may leave it
-- `unkept`, and fail
pub record Does {T : Type 0} (fails : Bool) (done failed unkept new : MemState) (result : Result T Failed) : Type 0 where
  pub ok : OnOk result ((fails ≡ false) × (new ≡ done))
  pub err : OnErr result (((fails ≡ true) × (new ≡ failed)) ⊎ (new ≡ unkept))

-- what each of the four calls does
abbrev pub DoesLen : MemState → MemState → Result ℕ Failed → Type 0
DoesLen d new result =
    let counted : MemState = record d { len_calls = after_count d.len_calls } in
    Does (call_fails d.fail kinds.Len d.len_calls) (kept counted Len) (read_failed (kept counted Len)) (read_failed counted) new result

abbrev pub DoesRead : MemState → MemState → ℕ → ℕ → Result (Unit {0}) Failed → Type 0
DoesRead d new at count result =
    let counted : MemState = record d { read_calls = after_count d.read_calls } in
    Does (call_fails d.fail kinds.Read d.read_calls) (kept_read counted at count) (read_failed (kept_read counted at count)) (read_failed counted) new result

abbrev pub DoesWrite : MemState → MemState → ℕ → List ℕ → Result (Unit {0}) Failed → Type 0
DoesWrite d new at piece result =
    let counted : MemState = record d { write_calls = after_count d.write_calls } in
    Does (call_fails d.fail kinds.Write d.write_calls) (kept counted (Write at piece true)) (write_failed (kept counted (Write at piece false))) (write_failed counted) new result

abbrev pub DoesSync : MemState → MemState → Result (Unit {0}) Failed → Type 0
DoesSync d new result =
    let counted : MemState = record d { sync_calls = after_count d.sync_calls } in
    Does (call_fails d.fail kinds.Sync d.sync_calls) (kept counted (Sync true)) (write_failed (kept counted (Sync false))) (write_failed counted) new result

-- the image of a crash of this kind after the first so many calls, which is one that a crash may leave
pub record IsCrash (d : MemState) (calls : ℕ) (torn : tears.Torn) (image : List ℕ) : Type 0 where
  pub is : image ≡ crashed torn (platter_at d.past calls).kept (platter_at d.past calls).pending
  pub left : (view_of d).since calls image

-- ---- the laws

pub Torn-same : (at count : ℕ) (bytes : List ℕ) → Torn at count bytes bytes
Torn-same at count bytes = record { no_shorter = omega arith; before = λ i a b. refl; behind = λ i a b. refl }

pub Torn-overwritten : (at : ℕ) (bytes piece : List ℕ) → Torn at (length piece) bytes (overwritten bytes at piece)
Torn-overwritten at bytes piece =
    let n = length piece in
    let rest = drop (at + n) bytes in
    let size = length-append (take at bytes) (piece ++ rest) in
    let behind = length-append piece rest in
    let front = length-take at bytes in
    let back = length-drop (at + n) bytes in
    record {
      no_shorter = omega (arith, size, behind, front, back);
      before = λ i lt inside. get_or_append_left (take at bytes) (piece ++ rest) 0 i (omega (arith, front, lt, inside)) ∙ get_or-take at bytes i 0 lt;
      behind = λ i ge inside.
          let e : length (take at bytes) ≡ at = omega (arith, front, ge, inside) in
          get_or-append_right (take at bytes) (piece ++ rest) at i 0 e (omega (arith, ge))
          ∙ get_or-append_right piece rest n (i - at) 0 refl (omega (arith, ge))
          ∙ get_or-drop (at + n) bytes (i - at - n) 0
          ∙ ap (λ (k : ℕ). get_or bytes k 0) (omega (arith, ge));
    }

-- what a read gives is one of the images
pub read_may_stay : (p : Platter) (calls : List Call) → MayLeave p.kept p.pending p.read
    → MayLeave (after_calls p calls).kept (after_calls p calls).pending (after_calls p calls).read
read_may_stay p [] now = now
read_may_stay p (Len ∷ calls) now = read_may_stay p calls now
read_may_stay p (Read ∷ calls) now = read_may_stay p calls now
read_may_stay p (Write at piece true ∷ calls) now = read_may_stay (after_call p (Write at piece true)) calls (p.read, now, Torn-overwritten at p.read piece)
read_may_stay p (Write at piece false ∷ calls) now = read_may_stay (after_call p (Write at piece false)) calls (p.read, now, Torn-same at (length piece) p.read)
read_may_stay p (Sync true ∷ calls) now = read_may_stay (after_call p (Sync true)) calls refl
read_may_stay p (Sync false ∷ calls) now = read_may_stay (after_call p (Sync false)) calls now

pub take_whole : (calls : List Call) → take (length calls) calls ≡ calls
take_whole [] = refl
take_whole (call ∷ calls) = ap (λ (cs : List Call). call ∷ cs) (take_whole calls)

pub mem_laws : (d : MemState) → IsDisk (view_of d)
mem_laws d =
    let past = d.past in
    record {
      sized = λ bytes told. let same : (platter_of past).read ≡ bytes = cc in ap length (sym same);
      as_it_reads = λ bytes told.
          let same : (platter_of past).read ≡ bytes = cc in (
            length past.calls,
            omega arith,
            omega arith,
            subst (λ (cs : List Call). LeavesBy (after_calls (whole past.first) cs) bytes) (sym (take_whole past.calls))
                (subst (λ (xs : List ℕ). LeavesBy (platter_of past) xs) same (read_may_stay (whole past.first) past.calls refl)),
          );
      earlier = λ t u image le left. (left.0, omega (arith, le, left.1), left.2, left.3);
    }
