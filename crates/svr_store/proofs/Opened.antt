-- What a journal's bytes stand for, by the records that were found in them.
use Rattle.std.proofs.Common.{◌≡◌, ◌+◌, ℕ, List, [], ◌∷◌, ◌++◌, length, take, drop, refl, sym, ap, ◌∙◌, subst, arith, append_assoc}
use Rattle.std.specs.List.{flat_map, AllByRecursion}
use Rattle.std.proofs.lemmas.List.{drop-drop, take-append-drop}
use Rattle.svr_edge.specs.Disk.{DiskView, IsDisk, IsSettled, Reads, Stays}
use Rattle.svr_edge.proofs.DiskLemmas.{settled_stays}
use Rattle.svr_journal.specs.File.{IsBody, StandsFor, end_of, magic, open_record}
use Rattle.svr_journal.specs.Gates.{gate_of, shut}
use Rattle.svr_journal.proofs.Appended.{end_of-push}
use Rattle.svr_journal.proofs.Spelling.{record_at, shut_at}
use Rattle.svr_journal.proofs.Standing.{gate_next}
use Rattle.svr_core.specs.Replay.{HasGates}
use Rattle.svr_store.specs.Store.{Keeps}

-- ---- gates, by what they stand for

module _ (bytes : List ℕ) (end : ℕ) (closed : gate_of (drop end bytes) ≡ shut) where
  -- records are found where the bytes stand for them, and no others
  same_bodies : (done left bodies : List (List ℕ)) (place : ℕ) → StandsFor bytes (done ++ left) → place ≡ end_of done
      → HasGates bytes place bodies end → left ≡ bodies
  same_bodies done [] [] place stands at_place gates = refl
  same_bodies done [] (body ∷ bodies) place stands at_place gates =
      let here = gate_next bytes done [] place stands at_place in absurd (cc (here, gates.0))
  same_bodies done (body ∷ left) [] place stands at_place gates =
      let here = gate_next bytes done (body ∷ left) place stands at_place in
      let there = ap (λ (n : ℕ). gate_of (drop n bytes)) gates in absurd (cc (here, there, closed))
  same_bodies done (body ∷ left) (other ∷ bodies) place stands at_place gates =
      let here = gate_next bytes done (body ∷ left) place stands at_place in
      let same : body ≡ other = cc (here, gates.0) in
      let next : place + 5 + length other ≡ end_of (done ++ body ∷ []) = omega (arith, at_place, end_of-push done body, ap length same) in
      let more = same_bodies (done ++ body ∷ []) left bodies (place + 5 + length other)
      (subst (λ (bs : List (List ℕ)). StandsFor bytes bs) (sym (append_assoc done (body ∷ []) left)) stands) next gates.1 in
      cc (same, more)

  pub found_bodies : (bodies others : List (List ℕ)) → StandsFor bytes others → HasGates bytes 8 bodies end → others ≡ bodies
  found_bodies bodies others stands gates = same_bodies [] others bodies 8 stands refl gates

  -- ---- what gates stand for

  -- from a gate on, the records stand behind one another
  spelled : (bodies : List (List ℕ)) (place : ℕ) → HasGates bytes place bodies end
      → drop place bytes ≡ flat_map open_record bodies ++ drop end bytes
  spelled [] place gates = ap (λ (n : ℕ). drop n bytes) gates
  spelled (body ∷ bodies) place gates =
      let next = place + 5 + length body in
      let at_next : drop (place + (5 + length body)) bytes ≡ drop next bytes = ap (λ (n : ℕ). drop n bytes) (omega arith) in
      (record_at (drop place bytes) body gates.0).spelled (5 + length body) refl
      ∙ ap (λ (xs : List ℕ). open_record body ++ xs) (drop-drop (5 + length body) place bytes ∙ at_next ∙ spelled bodies next gates.1)
      ∙ sym (append_assoc (open_record body) (flat_map open_record bodies) (drop end bytes))

  sizes : (bodies : List (List ℕ)) (place : ℕ) → HasGates bytes place bodies end → AllByRecursion IsBody bodies
  sizes [] place gates = tt
  sizes (body ∷ bodies) place gates = ((record_at (drop place bytes) body gates.0).size, sizes bodies (place + 5 + length body) gates.1)

  pub stand_for : (bodies : List (List ℕ)) → take 8 bytes ≡ magic → HasGates bytes 8 bodies end → StandsFor bytes bodies
  stand_for bodies is_magic gates =
      let last = shut_at (drop end bytes) closed in
      record {
        gate = last.gate;
        behind = last.behind;
        spelled = sym (take-append-drop 8 bytes)
            ∙ ap (λ (xs : List ℕ). xs ++ drop 8 bytes) is_magic
            ∙ ap (λ (xs : List ℕ). magic ++ xs) (spelled bodies 8 gates ∙ ap (λ (xs : List ℕ). flat_map open_record bodies ++ xs) last.spelled)
            ∙ sym (append_assoc magic (flat_map open_record bodies) (last.gate ∷ last.behind));
        closed = last.closed;
        sizes = sizes bodies 8 gates;
      }

-- a settled disk keeps what its bytes stand for
pub keeps : (mid new : DiskView) (bytes : List ℕ) (bodies : List (List ℕ)) → IsDisk new → IsSettled mid → Stays mid new → Reads mid bytes
    → StandsFor bytes bodies → Keeps new bodies
keeps mid new bytes bodies laws settled stays reads stands =
    let now : Reads new bytes = stays.content ∙ reads in
    record {
      stored = record { bytes = bytes; reads = now; stands = stands; at_end = refl };
      safe = λ image left. subst (λ (xs : List ℕ). StandsFor xs bodies)
          (sym (settled_stays mid new laws settled stays bytes image now left)) stands;
    }
