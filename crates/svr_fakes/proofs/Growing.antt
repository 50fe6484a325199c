-- A disk in memory that got one call more.
use Rattle.std.proofs.Common.{◌≡◌, ◌⊎◌, ◌≤◌, ◌+◌, ℕ, inl, inr, ⊎_elim, List, [], ◌∷◌, ◌++◌, length, take, drop, Bool, true, false, Some}
use Rattle.std.proofs.Common.{refl, sym, ap, ◌∙◌, subst, arith, length-append}
use Rattle.std.proofs.lemmas.Bool.{cases_lt, false≢true}
use Rattle.std.proofs.lemmas.List.{take-append-le, take_all, length-take, length-drop}
use Rattle.svr_edge.specs.Disk.{IsImage, IsSettled, IsTornImage, Leaves, MayWrite, Stays, Torn, Writes, overwritten}
use Rattle.svr_fakes.specs.declared.disk_call.Call.{Call}
use Rattle.svr_fakes.specs.declared.disk_call.Call.TheVariants.{Write, Sync}
use Rattle.svr_fakes.specs.Platter.{MayNote, Past, Platter, after_call, after_calls, noted, platter_of, whole}
use Rattle.svr_fakes.specs.Disks.{LeavesAt, LeavesBy, Told, Torn-same, Torn-overwritten, read_may_stay, take_whole, view_told}

pub after_calls-push : (p : Platter) (calls : List Call) (call : Call) → after_calls p (calls ++ call ∷ []) ≡ after_call (after_calls p calls) call
after_calls-push p [] call = refl
after_calls-push p (c ∷ calls) call = after_calls-push (after_call p c) calls call

pub platter_noted : (past : Past) (call : Call) → platter_of (noted past call) ≡ after_call (platter_of past) call
platter_noted past call = after_calls-push (whole past.first) past.calls call

-- the bytes kept beside the calls, after a call
pub kept_beside : (first bytes new : List ℕ) (old calls : List Call) (call : Call) → bytes ≡ (after_calls (whole first) old).read → calls ≡ old ++ call ∷ []
    → new ≡ (after_call (after_calls (whole first) old) call).read → new ≡ (after_calls (whole first) calls).read
kept_beside first bytes new old calls call inv is now =
    now ∙ sym (ap (λ (p : Platter). p.read) (after_calls-push (whole first) old call)) ∙ ap (λ (cs : List Call). (after_calls (whole first) cs).read) (sym is)

pub read_same : (past : Past) (call : Call) → ((p : Platter) → (after_call p call).read ≡ p.read) → (platter_of (noted past call)).read ≡ (platter_of past).read
read_same past call same = ap (λ (p : Platter). p.read) (platter_noted past call) ∙ same (platter_of past)

pub written_done : (p : Platter) (bytes new : List ℕ) (at : ℕ) (piece kept : List ℕ) (done : Bool) → kept ≡ piece → bytes ≡ p.read → done ≡ true
    → new ≡ overwritten bytes at piece → new ≡ (after_call p (Write at kept done)).read
written_done p bytes new at piece kept true same is e wrote =
    wrote ∙ ap (λ (xs : List ℕ). overwritten xs at piece) is ∙ ap (λ (xs : List ℕ). overwritten p.read at xs) (sym same)
written_done p bytes new at piece kept false same is e wrote = absurd (false≢true e)

pub written_not : (p : Platter) (bytes : List ℕ) (at : ℕ) (kept : List ℕ) (done : Bool) → bytes ≡ p.read → done ≡ false → bytes ≡ (after_call p (Write at kept done)).read
written_not p bytes at kept true is e = absurd (false≢true (sym e))
written_not p bytes at kept false is e = is

-- an image after one call more is one from before it, or one after the call
more_since : (past : Past) (call : Call) (t k : ℕ) (image : List ℕ) → t ≤ length past.calls → t ≤ k → k ≤ length past.calls + 1 → LeavesAt (noted past call) k image
    → ((n : ℕ) × (t ≤ n) × (n ≤ length past.calls) × LeavesAt past n image) ⊎ LeavesBy (after_call (platter_of past) call) image
more_since past call t k image le from to left = elim (cases_lt (length past.calls) k) [
  | inr before ↦ inl (k, from, before, subst (λ (cs : List Call). LeavesBy (after_calls (whole past.first) cs) image) (take-append-le k past.calls (call ∷ []) before) left)
  | inl after ↦
      let all : take k (past.calls ++ call ∷ []) ≡ past.calls ++ call ∷ [] = take_all k (past.calls ++ call ∷ []) (omega (arith, after, length-append past.calls (call ∷ []))) in
      inr (subst (λ (p : Platter). LeavesBy p image) (platter_noted past call)
      (subst (λ (cs : List Call). LeavesBy (after_calls (whole past.first) cs) image) all left))
]

-- an image now
pub now_since : (past : Past) (t : ℕ) (image : List ℕ) → t ≤ length past.calls → LeavesBy (platter_of past) image
    → (n : ℕ) × (t ≤ n) × (n ≤ length past.calls) × LeavesAt past n image
now_since past t image le left = (
  length past.calls,
  le,
  omega arith,
  subst (λ (cs : List Call). LeavesBy (after_calls (whole past.first) cs) image) (sym (take_whole past.calls)) left,
)

pub by_now : (d : Told) (image : List ℕ) → IsImage (view_told d) image → LeavesBy (platter_of d.past) image
by_now d image left = subst (λ (cs : List Call). LeavesBy (after_calls (whole d.past.first) cs) image) (take_all left.0 d.past.calls left.1) left.3

module _ (d e : Told) where
  leaves_same : (P : List ℕ → Type 0) → e.past ≡ d.past → Leaves (view_told d) (view_told e) P
  leaves_same P is = record {
    later = omega (arith, ap (λ (p : Past). length p.calls) is);
    each = λ t image le left. inl (subst (λ (p : Past). (n : ℕ) × (t ≤ n) × (n ≤ length p.calls) × LeavesAt p n image) is left);
  }

  leaves_noted : (call : Call) (P : List ℕ → Type 0) → e.past ≡ noted d.past call
      → ((image : List ℕ) → LeavesBy (after_call (platter_of d.past) call) image → LeavesBy (platter_of d.past) image ⊎ P image)
      → Leaves (view_told d) (view_told e) P
  leaves_noted call P is new =
      let size : length (noted d.past call).calls ≡ length d.past.calls + 1 = length-append d.past.calls (call ∷ []) in
      record {
        later = omega (arith, ap (λ (p : Past). length p.calls) is, size);
        each = λ t image le left.
            let there = subst (λ (p : Past). (n : ℕ) × (t ≤ n) × (n ≤ length p.calls) × LeavesAt p n image) is left in
            ⊎_elim inl (λ now. ⊎_elim (λ old. inl (now_since d.past t image le old)) inr (new image now))
            (more_since d.past call t there.0 image le there.1 (omega (arith, there.2, size)) there.3);
      }

  pub leaves_by : (call : Call) (P : List ℕ → Type 0) → MayNote d.past e.past call
      → ((image : List ℕ) → LeavesBy (after_call (platter_of d.past) call) image → LeavesBy (platter_of d.past) image ⊎ P image)
      → Leaves (view_told d) (view_told e) P
  leaves_by call P m new = ⊎_elim (leaves_same P) (λ is. leaves_noted call P is new) m

  -- a call that changes no byte
  pub stays_by : (call : Call) → MayNote d.past e.past call → ((p : Platter) → (after_call p call).read ≡ p.read)
      → ((image : List ℕ) → LeavesBy (after_call (platter_of d.past) call) image → LeavesBy (platter_of d.past) image)
      → Stays (view_told d) (view_told e)
  stays_by call m same images =
      let read : (platter_of e.past).read ≡ (platter_of d.past).read =
      ⊎_elim (λ is. ap (λ (p : Past). (platter_of p).read) is)
      (λ is. ap (λ (p : Past). (platter_of p).read) is ∙ ap (λ (p : Platter). p.read) (platter_noted d.past call) ∙ same (platter_of d.past)) m in
      record {
        size = ap length read;
        content = ap Some read;
        images = leaves_by call (λ _. ⊥) m (λ image left. inl (images image left));
      }

  -- a sync
  synced : (p : Platter) (done : Bool) → LeavesBy p p.read → (image : List ℕ) → LeavesBy (after_call p (Sync done)) image → LeavesBy p image
  synced p true reads image left = subst (λ (xs : List ℕ). LeavesBy p xs) (sym left) reads
  synced p false reads image left = left

  pub stays_synced : (done : Bool) → MayNote d.past e.past (Sync done) → Stays (view_told d) (view_told e)
  stays_synced done m = stays_by (Sync done) m (λ p. refl) (synced (platter_of d.past) done (read_may_stay (whole d.past.first) d.past.calls refl))

  settled : e.past ≡ noted d.past (Sync true) → IsSettled (view_told e)
  settled is = λ bytes image told left.
      let p = platter_of d.past in
      let now : platter_of e.past ≡ after_call p (Sync true) = ap platter_of is ∙ platter_noted d.past (Sync true) in
      let there : image ≡ p.read = subst (λ (q : Platter). LeavesBy q image) now (by_now e image left) in
      let reads : (platter_of e.past).read ≡ bytes = cc in
      there ∙ sym (ap (λ (q : Platter). q.read) now) ∙ reads

  pub settled_by : (done : Bool) → e.past ≡ noted d.past (Sync done) → done ≡ true → IsSettled (view_told e)
  settled_by true is e = settled is
  settled_by false is e = absurd (false≢true e)

  -- a write
  pub leaves_written : (at : ℕ) (piece : List ℕ) (done : Bool) → MayNote d.past e.past (Write at piece done)
      → Leaves (view_told d) (view_told e) (IsTornImage (view_told d) at (length piece))
  leaves_written at piece done m = leaves_by (Write at piece done) (IsTornImage (view_told d) at (length piece)) m
      (λ image left. inr (left.0, now_since d.past (length d.past.calls) left.0 (omega arith) left.1, left.2))

  read_written : (at : ℕ) (piece : List ℕ) → e.past ≡ noted d.past (Write at piece true) → at ≤ length (platter_of d.past).read
      → Writes (view_told d) (view_told e) at piece
  read_written at piece is inside =
      let xs = (platter_of d.past).read in
      let read : (platter_of e.past).read ≡ overwritten xs at piece =
      ap (λ (p : Past). (platter_of p).read) is ∙ ap (λ (p : Platter). p.read) (platter_noted d.past (Write at piece true)) in
      record {
        size = omega (arith, ap length read, inside, length-append (take at xs) (piece ++ drop (at + length piece) xs), length-append piece (drop (at + length piece) xs), length-take at xs, length-drop (at + length piece) xs);
        content = ap Some read;
      }

  -- a write that may have failed
  pub may_write : (at : ℕ) (piece : List ℕ) (done : Bool) → MayNote d.past e.past (Write at piece done) → at ≤ length (platter_of d.past).read
      → MayWrite (view_told d) (view_told e) at (length piece)
  may_write at piece done m inside =
      ⊎_elim (λ is. same (ap (λ (p : Past). (platter_of p).read) is)) (λ is. by_done done is) m
    where
      same : (platter_of e.past).read ≡ (platter_of d.past).read → MayWrite (view_told d) (view_told e) at (length piece)
      same read = record {
        no_smaller = omega (arith, ap length read);
        no_larger = omega (arith, ap length read);
        content = subst (λ (ys : List ℕ). Torn at (length piece) (platter_of d.past).read ys) (sym read) (Torn-same at (length piece) (platter_of d.past).read);
      }

      by_done : (done : Bool) → e.past ≡ noted d.past (Write at piece done) → MayWrite (view_told d) (view_told e) at (length piece)
      by_done true is =
          let w = read_written at piece is inside in
          let read : (platter_of e.past).read ≡ overwritten (platter_of d.past).read at piece =
          ap (λ (p : Past). (platter_of p).read) is ∙ ap (λ (p : Platter). p.read) (platter_noted d.past (Write at piece true)) in
          record {
            no_smaller = omega (arith, w.size);
            no_larger = omega (arith, w.size);
            content = subst (λ (ys : List ℕ). Torn at (length piece) (platter_of d.past).read ys) (sym read) (Torn-overwritten at (platter_of d.past).read piece);
          }
      by_done false is = same (ap (λ (p : Past). (platter_of p).read) is ∙ ap (λ (p : Platter). p.read) (platter_noted d.past (Write at piece false)))

  pub writes_by : (at : ℕ) (piece : List ℕ) (done : Bool) → e.past ≡ noted d.past (Write at piece done) → done ≡ true → at ≤ length (platter_of d.past).read
      → Writes (view_told d) (view_told e) at piece
  writes_by at piece true is e inside = read_written at piece is inside
  writes_by at piece false is e inside = absurd (false≢true e)

pub settled_now : (old new : Past) (done : Bool) → new ≡ noted old (Sync done) → done ≡ true
    → IsSettled (view_told (record { past = new; reads = []; read_faults = 0; write_faults = 0 }))
settled_now old new done is e =
    let d : Told = record { past = old; reads = []; read_faults = 0; write_faults = 0 } in
    settled_by d (record d { past = new }) done is e
