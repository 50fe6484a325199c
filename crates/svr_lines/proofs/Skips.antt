-- Lines that are passed over, and the piece behind them.
use Rattle.std.proofs.Common.{◌≡◌, ◌≢◌, ℕ, ◌<◌, inl, inr, Bool, true, false, List, [], ◌∷◌, ◌++◌, length}
use Rattle.std.proofs.Common.{refl, sym, ap, ◌∙◌, subst, arith, append_assoc, append-nil, length-append, Option, Some, None}
use Rattle.std.specs.Io.KnownBytes.{prepend_known}
use Rattle.std.proofs.KnownBytes.{Consumes-trans}
use Rattle.svr_lines.specs.declared.lines.Piece.{Piece}
use Rattle.svr_lines.specs.declared.lines.Piece.TheVariants as piece
use Rattle.svr_lines.specs.Lines.{IsUnbroken, IsWholeLines, is_skipped, pieces_of, whole_part}
use Rattle.svr_lines.specs.Pieces.{HandsOut, TakesPiece, NextPiece}
use Rattle.svr_lines.specs.Stops.{StopsInLine}
use Rattle.svr_lines.specs.Reading.{Reading, Reads, KnowsEnd}
use Rattle.svr_lines.specs.Layout.Steps.{EndsLine, TakesLine, StopsUnbroken, is_blank_piece}
use Rattle.svr_lines.proofs.SoFar.{SkipsLines}
use Rattle.svr_lines.proofs.Splits.{IsWholeLines-line, is_skipped-long, is_skipped-short, pieces_of-whole, pieces_of-line, pieces_of-passed}
use Rattle.svr_lines.proofs.Splits.{pieces_of-last, pieces_of-last_passed, pieces_of-nil, whole_part-whole, whole_part-unbroken}
use Rattle.svr_lines.proofs.Stream.{Reads-none, Reads-then, taken_bytes-reads}

-- ---- a line that ended

pub ended_once : (b : Bool) → b ≡ false → b ≡ true → ⊥
ended_once b e f = cc

some_ended : (gone line : List ℕ) (new : Reading) (left : Option (List ℕ)) → EndsLine gone line new left → 0 < length gone
some_ended gone line new left e = elim e [
  | inl h ↦ omega (arith, ap length h.1, length-append line (10 ∷ []))
  | inr h ↦ omega (arith, ap length h.1, h.2)
]

ended_known : (gone line : List ℕ) (new : Reading) (left : Option (List ℕ)) → EndsLine gone line new left → KnowsEnd new left
ended_known gone line new left e = λ is. elim e [
  | inl h ↦ absurd (ended_once new.ended h.0 is)
  | inr h ↦ (h.0.ahead, h.0.source)
]

-- ---- one more line is passed over

pub skips_none : (a : Option (List ℕ)) (r : Reading) → SkipsLines a a r r [] []
skips_none a r = record { reads = Reads-none a r; none = pieces_of-nil; whole = λ _. inl refl }

-- what is behind whole lines that are passed over
pieces_behind : (skipped rest : List ℕ) → IsWholeLines skipped → pieces_of skipped ≡ [] → pieces_of (skipped ++ rest) ≡ pieces_of rest
pieces_behind skipped rest w none = pieces_of-whole skipped rest w ∙ ap (λ ls. ls ++ pieces_of rest) none

skips_line : (a b c : Option (List ℕ)) (old mid new : Reading) (gone bytes next more line : List ℕ) → SkipsLines a b old mid gone bytes
    → mid.ended ≡ false → Reads b c mid new next more → IsUnbroken line → is_skipped line ≡ true → EndsLine next line new c
    → SkipsLines a c old new (gone ++ next) (bytes ++ more)
skips_line a b c old mid new gone bytes next more line s open_end p u k e = record {
  reads = Reads-then a b c old mid new gone next bytes more s.reads p;
  none = pieces_behind gone next (s.whole open_end) s.none ∙ elim e [
    | inl h ↦ ap pieces_of h.1 ∙ pieces_of-passed line [] u k ∙ pieces_of-nil
    | inr h ↦ ap pieces_of h.1 ∙ pieces_of-last_passed line u h.2 k
  ];
  whole = λ is. elim e [
    | inl h ↦ subst (λ xs. IsWholeLines (gone ++ xs)) (sym h.1) (subst IsWholeLines (append_assoc gone line (10 ∷ []))
        (IsWholeLines-line gone line))
    | inr h ↦ absurd (ended_once new.ended is h.0.ended)
  ];
}

-- ---- a piece behind them

hands_out : (a b c : Option (List ℕ)) (old mid new : Reading) (gone bytes next line : List ℕ) → SkipsLines a b old mid gone bytes
    → mid.ended ≡ false → IsUnbroken line → is_skipped line ≡ false → EndsLine next line new c → HandsOut (gone ++ next) line new c
hands_out a b c old mid new gone bytes next line s open_end u k e = elim e [
  | inl h ↦ inl (
    h.0,
    record {
      skipped = gone;
      whole = s.whole open_end;
      none = s.none;
      unbroken = u;
      kept = k;
      is = ap (λ xs. gone ++ xs) h.1 ∙ sym (append_assoc gone line (10 ∷ []));
    },
  )
  | inr h ↦ inr (
    h.0,
    record {
      skipped = gone;
      whole = s.whole open_end;
      none = s.none;
      unbroken = u;
      kept = k;
      is = ap (λ xs. gone ++ xs) h.1 ∙ sym (append-nil (gone ++ line));
    },
  )
]

pub takes_piece : (kind : Piece) (a b c : Option (List ℕ)) (old mid new : Reading) (gone bytes next more : List ℕ)
    → SkipsLines a b old mid gone bytes
    → mid.ended ≡ false → Reads b c mid new next more → TakesLine kind next new c → is_blank_piece kind new.text ≡ false
    → Reads a c old new (gone ++ next) (bytes ++ more) × TakesPiece kind (gone ++ next) new c
takes_piece piece.Line a b c old mid new gone bytes next more s open_end p t k = (
  Reads-then a b c old mid new gone next bytes more s.reads p,
  (t.0, hands_out a b c old mid new gone bytes next new.text s open_end t.1 (is_skipped-short new.text t.0 ∙ k) t.2),
)
takes_piece piece.TooLong a b c old mid new gone bytes next more s open_end p t k = (
  Reads-then a b c old mid new gone next bytes more s.reads p,
  (t.0, t.1, hands_out a b c old mid new gone bytes next t.0 s open_end t.2 (is_skipped-long t.0 t.1) t.3),
)
takes_piece piece.End a b c old mid new gone bytes next more s open_end p t k = (
  Reads-then a b c old mid new gone next bytes more s.reads p,
  (t.0, ap (λ xs. pieces_of (gone ++ xs)) t.1 ∙ ap pieces_of (append-nil gone) ∙ s.none),
)

-- a blank piece is a line, and passed over
pub skips_piece : (kind : Piece) (a b c : Option (List ℕ)) (old mid new : Reading) (gone bytes next more : List ℕ)
    → SkipsLines a b old mid gone bytes
    → mid.ended ≡ false → Reads b c mid new next more → TakesLine kind next new c → is_blank_piece kind new.text ≡ true
    → SkipsLines a c old new (gone ++ next) (bytes ++ more)
skips_piece piece.Line a b c old mid new gone bytes next more s open_end p t k =
    skips_line a b c old mid new gone bytes next more new.text s open_end p t.1 (is_skipped-short new.text t.0 ∙ k) t.2
skips_piece piece.TooLong a b c old mid new gone bytes next more s open_end p t k = cc
skips_piece piece.End a b c old mid new gone bytes next more s open_end p t k = cc

-- a line that was taken has a byte, or the line feed behind it
pub some_taken : (kind : Piece) (gone : List ℕ) (new : Reading) (left : Option (List ℕ)) → TakesLine kind gone new left
    → kind ≢ piece.End → 0 < length gone
some_taken piece.Line gone new left t other = some_ended gone new.text new left t.2
some_taken piece.TooLong gone new left t other = some_ended gone t.0 new left t.3
some_taken piece.End gone new left t other = absurd (other refl)

-- the end is known behind a line
pub ends_known : (kind : Piece) (gone : List ℕ) (new : Reading) (left : Option (List ℕ)) → TakesLine kind gone new left → KnowsEnd new left
ends_known piece.Line gone new left t = ended_known gone new.text new left t.2
ends_known piece.TooLong gone new left t = ended_known gone t.0 new left t.3
ends_known piece.End gone new left t = λ is. (t.0.ahead, t.0.source)

-- ---- a stop behind them

pub stops_behind : (a b c : Option (List ℕ)) (old mid new : Reading) (gone bytes more : List ℕ) → SkipsLines a b old mid gone bytes
    → mid.ended ≡ false → StopsUnbroken b c mid new more → StopsInLine a c old new (bytes ++ more)
stops_behind a b c old mid new gone bytes more s open_end q =
    let split : old.ahead ++ (bytes ++ more) ≡ gone ++ (mid.ahead ++ more) =
    sym (append_assoc old.ahead bytes more) ∙ ap (λ xs. xs ++ more) (sym s.reads.ahead) ∙ append_assoc gone mid.ahead more in
    let whole = whole_part-whole gone (mid.ahead ++ more) (s.whole open_end) in
    let none = whole_part-unbroken (mid.ahead ++ more) q.unbroken in
    record {
      consumed = Consumes-trans a b c bytes more s.reads.consumed q.consumed;
      taken = omega (arith, q.taken, taken_bytes-reads a b old mid gone bytes s.reads, length-append bytes more);
      limit = q.limit ∙ s.reads.limit;
      none = ap (λ xs. pieces_of (whole_part xs)) split ∙ ap pieces_of (whole ∙ ap (λ xs. gone ++ xs) none ∙ append-nil gone) ∙ s.none;
    }

-- ---- the pieces of the bytes that are known to come

-- the bytes before are the gone ones, and those after
known_split : (xs ys : List ℕ) (old new : Reading) (gone bytes : List ℕ) → Reads (Some xs) (Some ys) old new gone bytes
    → old.ahead ++ xs ≡ gone ++ (new.ahead ++ ys)
known_split xs ys old new gone bytes p =
    ap (λ zs. old.ahead ++ zs) p.consumed ∙ sym (append_assoc old.ahead bytes ys) ∙ ap (λ zs. zs ++ ys) (sym p.ahead)
    ∙ append_assoc gone new.ahead ys

first_piece : (gone line rest : List ℕ) (new : Reading) (ys : List ℕ) → rest ≡ new.ahead ++ ys → HandsOut gone line new (Some ys)
    → pieces_of (gone ++ rest) ≡ line ∷ pieces_of rest
first_piece gone line rest new ys is h = elim h [
  | inl feed ↦
      let p = feed.1 in
      ap (λ xs. pieces_of (xs ++ rest)) p.is ∙ ap pieces_of (append_assoc (p.skipped ++ line) (10 ∷ []) rest
      ∙ append_assoc p.skipped line (10 ∷ rest))
      ∙ pieces_behind p.skipped (line ++ 10 ∷ rest) p.whole p.none ∙ pieces_of-line line rest p.unbroken p.kept
  | inr last ↦
      let p = last.1 in
      let none : rest ≡ [] = is ∙ ap (λ xs. xs ++ ys) last.0.ahead ∙ last.0.source in
      ap (λ xs. pieces_of (gone ++ xs)) none ∙ ap pieces_of (append-nil gone ∙ p.is ∙ append-nil (p.skipped ++ line))
      ∙ pieces_behind p.skipped line p.whole p.none ∙ pieces_of-last line p.unbroken p.kept
      ∙ ap (λ ls. line ∷ ls) (sym (ap pieces_of none ∙ pieces_of-nil))
]

pub next_from_takes : (kind : Piece) (a b : Option (List ℕ)) (old new : Reading) (gone bytes : List ℕ) → Reads a b old new gone bytes
    → TakesPiece kind gone new b → NextPiece kind new.text (prepend_known old.ahead a) (prepend_known new.ahead b)
next_from_takes kind None b old new gone bytes p t = tt
next_from_takes kind (Some xs) None old new gone bytes p t = absurd p.consumed
next_from_takes piece.Line (Some xs) (Some ys) old new gone bytes p t =
    ap pieces_of (known_split xs ys old new gone bytes p) ∙ first_piece gone new.text (new.ahead ++ ys) new ys refl t.1
next_from_takes piece.TooLong (Some xs) (Some ys) old new gone bytes p t =
    (t.0, t.1, ap pieces_of (known_split xs ys old new gone bytes p) ∙ first_piece gone t.0 (new.ahead ++ ys) new ys refl t.2)
next_from_takes piece.End (Some xs) (Some ys) old new gone bytes p t =
    let none : new.ahead ++ ys ≡ [] = ap (λ zs. zs ++ ys) t.0.ahead ∙ t.0.source in
    ap pieces_of (known_split xs ys old new gone bytes p ∙ ap (λ zs. gone ++ zs) none ∙ append-nil gone) ∙ t.1
