-- What a reader did in steps, one after the other.
use Rattle.std.proofs.Common.{◌≡◌, ◌≢◌, ℕ, zero, suc, ◌+◌, ◌<◌, ◌≤◌, inl, inr, false, List, [], ◌∷◌, ◌++◌, length, take, slice_index}
use Rattle.std.proofs.Common.{refl, sym, ap, ◌∙◌, subst, arith, append_assoc, append-nil, length-append, Option, Some, None, Result, Ok, Err, OnErr}
use Rattle.std.proofs.lemmas.List.{take-append-drop, length-take-le, take_more, take_all}
use Rattle.std.proofs.KnownBytes.{Consumes-trans, Consumes-nil}
use Rattle.std.proofs.Math.Seq.{drop-length}
use native.Mathlib.Decide.{dec_lt}
use Prim.{yes, no}
use Rattle.std.specs.Io.KnownBytes.{Consumes, Keeps}
use Rattle.svr_lines.specs.Layout.Feeds.{NoFeed}
use Rattle.svr_lines.specs.Lines.{IsUnbroken}
use Rattle.svr_lines.specs.Reading.{Reading, Reads, taken_bytes}
use Rattle.svr_lines.specs.Pieces.{IsLast}
use Rattle.svr_lines.specs.Layout.Feeds.{FirstFeed}
use Rattle.svr_lines.specs.declared.lines.Piece.{Piece}
use Rattle.svr_lines.specs.declared.lines.Piece.TheVariants as piece
use Rattle.svr_lines.specs.Layout.Steps.{Passes, TakesLine, StopsUnbroken}

-- ---- from places to parts

pub IsUnbroken-take : (bytes : List ℕ) (at : ℕ) → at ≤ length bytes → NoFeed bytes 0 at → IsUnbroken (take at bytes)
IsUnbroken-take bytes zero h f = tt
IsUnbroken-take [] (suc at) h f = absurd (omega (arith, h))
IsUnbroken-take (b ∷ bytes) (suc at) h f = (
  f 0 (omega arith) (omega arith),
  IsUnbroken-take bytes at (omega (arith, h))
      (λ k low high. f (suc k) (omega arith) (omega (arith, high))),
)

pub IsUnbroken-all : (bytes : List ℕ) → NoFeed bytes 0 (length bytes) → IsUnbroken bytes
IsUnbroken-all [] f = tt
IsUnbroken-all (b ∷ bytes) f = (
  f 0 (omega arith) (omega arith),
  IsUnbroken-all bytes
      (λ k low high. f (suc k) (omega arith) (omega (arith, high))),
)

pub IsUnbroken-append : (xs ys : List ℕ) → IsUnbroken xs → IsUnbroken ys → IsUnbroken (xs ++ ys)
IsUnbroken-append [] ys u v = v
IsUnbroken-append (x ∷ xs) ys u v = (u.0, IsUnbroken-append xs ys u.1 v)

pub NoFeed-join : (bytes : List ℕ) (i j : ℕ) → NoFeed bytes 0 i → NoFeed bytes i j → NoFeed bytes 0 j
NoFeed-join bytes i j f h = λ k low high is.
    elim (dec_lt k i) [ yes below ↦ f k low below is | no above ↦ h k (omega (arith, above)) high is ]

-- the bytes up to a line feed, with it
pub take-feed : (bytes : List ℕ) (at : ℕ) → at < length bytes → slice_index bytes at ≡ 10 → take (at + 1) bytes ≡ take at bytes ++ 10 ∷ []
take-feed bytes at inside feed = take_more bytes at 0 inside ∙ ap (λ b. take at bytes ++ b ∷ []) feed

-- ---- what is known of the source

pub Consumes-kept_all : (a b : Option (List ℕ)) → Keeps a b → Consumes a b []
Consumes-kept_all None b k = tt
Consumes-kept_all (Some xs) None k = absurd k
Consumes-kept_all (Some xs) (Some ys) k = sym k

-- ---- steps of a reader, one after the other

-- how many bytes a step took
pub taken_bytes-reads : (a b : Option (List ℕ)) (old new : Reading) (gone bytes : List ℕ) → Reads a b old new gone bytes
    → taken_bytes new ≡ taken_bytes old + length bytes
taken_bytes-reads a b old new gone bytes p =
    omega (arith, p.handed, ap length p.ahead, length-append gone new.ahead, length-append old.ahead bytes)

pub Reads-none : (a : Option (List ℕ)) (r : Reading) → Reads a a r r [] []
Reads-none a r = record { consumed = Consumes-nil a; ahead = sym (append-nil r.ahead); handed = omega arith; limit = refl }

pub Reads-then : (a b c : Option (List ℕ)) (old mid new : Reading) (gone next bytes more : List ℕ)
    → Reads a b old mid gone bytes → Reads b c mid new next more → Reads a c old new (gone ++ next) (bytes ++ more)
Reads-then a b c old mid new gone next bytes more p q = record {
  consumed = Consumes-trans a b c bytes more p.consumed q.consumed;
  ahead = append_assoc gone next new.ahead ∙ ap (λ xs. gone ++ xs) q.ahead ∙ sym (append_assoc gone mid.ahead more)
      ∙ ap (λ xs. xs ++ more) p.ahead ∙ append_assoc old.ahead bytes more;
  handed = omega (arith, p.handed, q.handed, length-append gone next);
  limit = q.limit ∙ p.limit;
}

-- bytes ahead were passed over
pub Reads-passes : (a : Option (List ℕ)) (old new : Reading) (n : ℕ) → n ≤ length old.ahead → Passes old new n
    → Reads a a old new (take n old.ahead) []
Reads-passes a old new n few p = record {
  consumed = Consumes-nil a;
  ahead = ap (λ xs. take n old.ahead ++ xs) p.ahead ∙ take-append-drop n old.ahead ∙ sym (append-nil old.ahead);
  handed = p.handed ∙ ap (λ m. old.handed + m) (sym (length-take-le n old.ahead few));
  limit = p.limit;
}

-- with other spellings of what was passed over and read
pub Reads-as : (a b : Option (List ℕ)) (old new : Reading) (gone gone' bytes bytes' : List ℕ) → gone ≡ gone' → bytes ≡ bytes'
    → Reads a b old new gone bytes → Reads a b old new gone' bytes'
Reads-as a b old new gone gone' bytes bytes' e f p = subst (λ xs. Reads a b old new xs bytes') e
    (subst (λ xs. Reads a b old new gone xs) f p)

-- ---- reading on behind a line feed that isn't there

-- all that was ahead was passed over, and then more was read
pub passes_all : {a b c : Option (List ℕ)} {old mid passed next : Reading} {n : ℕ} {gone bytes more : List ℕ} → Reads a b old mid gone bytes
    → n ≡ length mid.ahead → Passes mid passed n → Reads b c passed next [] more
    → Reads a c old next (old.ahead ++ bytes) (bytes ++ more) × (next.ahead ≡ more)
passes_all {a} {b} {c} {old} {mid} {passed} {next} {gone} {bytes} {more} p all over_all q =
    let h : Passes mid passed (length mid.ahead) = subst (Passes mid passed) all over_all in
    let hand = Reads-passes b mid passed (length mid.ahead) (omega arith) h in
    let both = Reads-then a c c old next next _ [] _ [] (Reads-then a b c old passed next _ [] _ more
    (Reads-then a b b old mid passed gone _ bytes [] p hand) q) (Reads-none c next) in
    let over : ((gone ++ take (length mid.ahead) mid.ahead) ++ []) ++ [] ≡ old.ahead ++ bytes =
    append-nil ((gone ++ take (length mid.ahead) mid.ahead) ++ []) ∙ append-nil (gone ++ take (length mid.ahead) mid.ahead)
    ∙ ap (λ xs. gone ++ xs) (take_all (length mid.ahead) mid.ahead (omega arith)) ∙ p.ahead in
    let read : ((bytes ++ []) ++ more) ++ [] ≡ bytes ++ more = append-nil ((bytes ++ []) ++ more)
    ∙ ap (λ xs. xs ++ more) (append-nil bytes) in
    let none : passed.ahead ≡ [] = h.ahead ∙ drop-length mid.ahead in
    (Reads-as a c old next _ _ _ _ over read both, q.ahead ∙ ap (λ xs. xs ++ more) none)

-- and then bytes of what was read were passed over
pub passes_front : (a b : Option (List ℕ)) (old mid new : Reading) (gone bytes : List ℕ) (n : ℕ) → Reads a b old mid gone bytes
    → n ≤ length mid.ahead
    → Passes mid new n → Reads a b old new (gone ++ take n mid.ahead) bytes
passes_front a b old mid new gone bytes n p few h =
    Reads-as a b old new _ _ _ _ refl (append-nil bytes) (Reads-then a b b old mid new gone _ bytes [] p (Reads-passes b mid new n few h))

-- ---- stops

-- what holds is ensured where a call failed
pub on_err : {T E : Type 0} (r : Result T E) (P : Type 0) → P → OnErr r P
on_err (Ok x) P p = tt
on_err (Err e) P p = p

pub IsUnbroken-more : (old bytes more : List ℕ) → IsUnbroken (old ++ bytes) → IsUnbroken more → IsUnbroken (old ++ (bytes ++ more))
IsUnbroken-more old bytes more u v = subst IsUnbroken (append_assoc old bytes more) (IsUnbroken-append (old ++ bytes) more u v)

pub IsUnbroken-none : (bytes : List ℕ) → bytes ≡ [] → IsUnbroken bytes
IsUnbroken-none bytes none = subst IsUnbroken (sym none) tt

pub stops_unbroken : (a b : Option (List ℕ)) (old new : Reading) (gone bytes : List ℕ) → Reads a b old new gone bytes
    → IsUnbroken (old.ahead ++ bytes)
    → StopsUnbroken a b old new bytes
stops_unbroken a b old new gone bytes p u =
    record { consumed = p.consumed; taken = taken_bytes-reads a b old new gone bytes p; limit = p.limit; unbroken = u }

-- ---- the line that was taken

-- a line that a line feed ends
pub takes_by_feed : (kind : Piece) (mid new : Reading) (left : Option (List ℕ)) (at : ℕ) → FirstFeed mid.ahead 0 at
    → (kind ≡ piece.Line → at ≤ 1048576)
    → (kind ≡ piece.TooLong → 1048576 < at) → kind ≢ piece.End → new.text ≡ take at mid.ahead → new.ended ≡ false
    → TakesLine kind (take (at + 1) mid.ahead) new left
takes_by_feed piece.Line mid new left at f short long other text open_end =
    let many : length (take at mid.ahead) ≡ at = length-take-le at mid.ahead (omega (arith, f.within)) in (
      omega (arith, short refl, many, ap length text),
      subst IsUnbroken (sym text) (IsUnbroken-take mid.ahead at (omega (arith, f.within)) f.before),
      inl (open_end, take-feed mid.ahead at f.within f.feed ∙ ap (λ xs. xs ++ 10 ∷ []) (sym text)),
    )
takes_by_feed piece.TooLong mid new left at f short long other text open_end =
    let many : length (take at mid.ahead) ≡ at = length-take-le at mid.ahead (omega (arith, f.within)) in (
      take at mid.ahead,
      omega (arith, long refl, many),
      IsUnbroken-take mid.ahead at (omega (arith, f.within)) f.before,
      inl (open_end, take-feed mid.ahead at f.within f.feed),
    )
takes_by_feed piece.End mid new left at f short long other text open_end = absurd (other refl)

-- the last line of the input
pub takes_last : (kind : Piece) (mid new : Reading) (left : Option (List ℕ)) → length mid.ahead ≤ 1048576 → IsUnbroken mid.ahead
    → (kind ≡ piece.Line → 0 < length mid.ahead) → (kind ≡ piece.End → mid.ahead ≡ []) → kind ≢ piece.TooLong → new.text ≡ mid.ahead
    → IsLast new left → TakesLine kind mid.ahead new left
takes_last piece.Line mid new left short u some none other text last =
    (omega (arith, short, ap length text), subst IsUnbroken (sym text) u, inr (last, sym text, omega (arith, some refl, ap length text)))
takes_last piece.TooLong mid new left short u some none other text last = absurd (other refl)
takes_last piece.End mid new left short u some none other text last = (last, none refl)
