-- A counted block, taken part by part.
use Rattle.std.proofs.Common.{◌≡◌, ℕ, ◌-◌, ◌<◌, ◌≤◌, min, Bool, true, false, cond, List, [], ◌++◌}
use Rattle.std.proofs.Common.{length, take, refl, sym, ap, ◌∙◌, arith, append-nil, length-append, Option}
use Rattle.std.proofs.lemmas.List.{length-take-le, drop_all}
use Rattle.std.proofs.KnownBytes.{Consumes-nil}
use Rattle.svr_lines.specs.Stops.{StopsInBlock}
use Rattle.svr_lines.specs.Reading.{Reading, Reads}
use Rattle.svr_lines.specs.Layout.Steps.{Passes}
use Rattle.svr_lines.proofs.SoFar.{TakesPart}
use Rattle.svr_lines.proofs.Stream.{Reads-then, Reads-as, passes_front, taken_bytes-reads}

nothing_kept : (kept : Bool) → ◌≡◌ {A = List ℕ} [] (cond kept [] [])
nothing_kept true = refl
nothing_kept false = refl

kept_more : (kept : Bool) (before after gone part : List ℕ) → before ≡ cond kept gone [] → after ≡ cond kept (before ++ part) before
    → after ≡ cond kept (gone ++ part) []
kept_more true before after gone part h k = k ∙ ap (λ xs. xs ++ part) h
kept_more false before after gone part h k = k ∙ h

-- the block was cleared
pub part_none : (a : Option (List ℕ)) (old new : Reading) (size : ℕ) (kept : Bool) → new ≡ record old { block = [] }
    → TakesPart a a old new size size kept [] []
part_none a old new size kept cleared = record {
  reads = record {
    consumed = Consumes-nil a;
    ahead = ap (λ r. r.ahead) cleared ∙ sym (append-nil old.ahead);
    handed = omega (arith, ap (λ r. r.handed) cleared);
    limit = ap (λ r. r.limit) cleared;
  };
  count = omega arith;
  block = ap (λ r. r.block) cleared ∙ nothing_kept kept;
}

-- a part of what is ahead
pub part_more : {a b : Option (List ℕ)} {old mid new : Reading} {size missing n : ℕ} {kept : Bool} {gone bytes : List ℕ}
    → TakesPart a b old mid size missing kept gone bytes
    → n ≡ min missing (length mid.ahead) → Passes mid new n → new.block ≡ cond kept (mid.block ++ take n mid.ahead) mid.block
    → TakesPart a b old new size (missing - n) kept (gone ++ take n mid.ahead) bytes
part_more {a} {b} {old} {mid} {new} {size} {missing} {n} {kept} {gone} {bytes} t count p block =
    let few : n ≤ length mid.ahead = omega arith in record {
      reads = passes_front a b old mid new gone bytes n t.reads few p;
      count = omega (arith, t.count, count, length-append gone (take n mid.ahead), length-take-le n mid.ahead few);
      block = kept_more kept mid.block new.block gone (take n mid.ahead) t.block block;
    }

-- where bytes are missing, nothing is ahead
pub part_all : {mid new : Reading} (missing : ℕ) {n : ℕ} → n ≡ min missing (length mid.ahead) → Passes mid new n → 0 < missing - n
    → new.ahead ≡ []
part_all {mid} missing {n} count p some = p.ahead ∙ drop_all n mid.ahead (omega arith)

-- more bytes were read
pub part_read : {a b c : Option (List ℕ)} {old mid new : Reading} {size missing : ℕ} {kept : Bool} {gone bytes more : List ℕ}
    → TakesPart a b old mid size missing kept gone bytes
    → Reads b c mid new [] more → new.block ≡ mid.block → TakesPart a c old new size missing kept gone (bytes ++ more)
part_read {a} {b} {c} {old} {mid} {new} {gone} {bytes} {more} t p block = record {
  reads = Reads-as a c old new _ _ _ _ (append-nil gone) refl (Reads-then a b c old mid new gone [] bytes more t.reads p);
  count = t.count;
  block = block ∙ t.block;
}

-- the bytes that were taken are fewer than the block's, where bytes are missing and nothing is ahead
pub part_stops : {a b : Option (List ℕ)} {old new : Reading} {size missing : ℕ} {kept : Bool} {gone bytes : List ℕ}
    → TakesPart a b old new size missing kept gone bytes
    → 0 < missing → new.ahead ≡ [] → StopsInBlock a b old new size bytes
part_stops {a} {b} {old} {new} {gone} {bytes} t some none = record {
  consumed = t.reads.consumed;
  taken = taken_bytes-reads a b old new gone bytes t.reads;
  limit = t.reads.limit;
  none = omega (arith, t.count, ap length t.reads.ahead, length-append gone new.ahead, ap length none);
}
