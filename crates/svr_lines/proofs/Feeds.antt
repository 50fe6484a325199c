-- Line feeds in lists of bytes, and parts of a list.
use Rattle.std.proofs.Common.{◌≡◌, ℕ, ◌+◌, ◌-◌, ◌≤◌, List, ◌++◌, length, take, drop, get_or, sym, ap, ap₂, ◌∙◌, arith}
use Rattle.std.proofs.lemmas.List.{drop-take, take-take, take-append-drop, drop-drop, length-take, length-take-le, length-drop, get_or-drop}
use Rattle.std.specs.List.{slice_range}
use Rattle.svr_lines.specs.Layout.Feeds.{NoFeed, FirstFeed}

pub drop-slice_range : {X : Type 0} (xs : List X) (i j n : ℕ) → i ≤ j → n ≤ length (slice_range xs i j)
    → drop n (slice_range xs i j) ≡ slice_range xs (i + n) j
drop-slice_range xs i j n order h =
    let split : j - i ≡ n + (j - (i + n)) = omega (arith, h, length-take (j - i) (drop i xs), order) in
    ap (λ m. drop n (take m (drop i xs))) split ∙ drop-take n (j - (i + n)) (drop i xs) ∙ ap (take (j - (i + n))) (drop-drop n i xs)

-- what is ahead of a place, where the buffer holds it from start up to end
pub part_ahead : {X : Type 0} (items now ahead : List X) (start end n : ℕ) → now ≡ items → slice_range items start end ≡ ahead
    → start ≤ end → n ≤ length ahead
    → slice_range now (start + n) end ≡ drop n ahead
part_ahead items now ahead start end n same part order few =
    let inside : n ≤ length (slice_range items start end) = omega (arith, few, ap length part) in
    ap (λ xs. slice_range xs (start + n) end) same ∙ sym (drop-slice_range items start end n order inside) ∙ ap (drop n) part

-- a search that began at a place, in terms of the whole
pub FirstFeed-drop : (bytes : List ℕ) (from at : ℕ) → from ≤ length bytes → FirstFeed (drop from bytes) 0 at
    → FirstFeed bytes from (from + at)
FirstFeed-drop bytes from at inside f = record {
  low = omega arith;
  within = omega (arith, f.within, length-drop from bytes);
  feed = sym (get_or-drop from bytes at 0) ∙ f.feed;
  before = λ k low high is. f.before (k - from) (omega arith) (omega (arith, high, low))
      (get_or-drop from bytes (k - from) 0 ∙ ap (λ i. get_or bytes i 0) (let e : from + (k - from) ≡ k = omega (arith, low) in e) ∙ is);
}

pub NoFeed-drop : (bytes : List ℕ) (from : ℕ) → from ≤ length bytes → NoFeed (drop from bytes) 0 (length (drop from bytes))
    → NoFeed bytes from (length bytes)
NoFeed-drop bytes from inside f = λ k low high is. f (k - from) (omega arith) (omega (arith, high, low, length-drop from bytes))
    (get_or-drop from bytes (k - from) 0 ∙ ap (λ i. get_or bytes i 0) (let e : from + (k - from) ≡ k = omega (arith, low) in e) ∙ is)

-- ---- a buffer into which bytes were read at the end of what it held

pub slice_range-front : {X : Type 0} (xs ys : List X) (i j : ℕ) → i ≤ j → take j ys ≡ take j xs → slice_range ys i j ≡ slice_range xs i j
slice_range-front {X = X} xs ys i j order front =
    let whole : j ≡ i + (j - i) = omega (arith, order) in
    let as_drop = λ (zs : List X). sym (drop-take i (j - i) zs) in
    as_drop ys ∙ ap (λ n. drop i (take n ys)) (sym whole) ∙ ap (drop i) front ∙ ap (λ n. drop i (take n xs)) whole ∙ drop-take i (j - i) xs

slice_range-join : {X : Type 0} (xs : List X) (i j k : ℕ) → i ≤ j → j ≤ k → slice_range xs i k ≡ slice_range xs i j ++ slice_range xs j k
slice_range-join xs i j k low high =
    let whole : k - i ≡ (j - i) + (k - j) = omega (arith, low, high) in
    let mid : i + (j - i) ≡ j = omega (arith, low) in
    sym (take-append-drop (j - i) (slice_range xs i k))
    ∙ ap₂ ◌++◌ (take-take (j - i) (k - i) (drop i xs) (omega (arith, low, high)))
    (ap (λ n. drop (j - i) (take n (drop i xs))) whole ∙ drop-take (j - i) (k - j) (drop i xs)
    ∙ ap (take (k - j)) (drop-drop (j - i) i xs ∙ ap (λ n. drop n xs) mid))

-- what is ahead afterwards
pub read_behind : {X : Type 0} (xs ys : List X) (start end count : ℕ) → start ≤ end → take end ys ≡ take end xs
    → slice_range ys start (end + count) ≡ slice_range xs start end ++ slice_range ys end (end + count)
read_behind xs ys start end count order front =
    slice_range-join ys start end (end + count) order (omega arith)
    ∙ ap (λ zs. zs ++ slice_range ys end (end + count)) (slice_range-front xs ys start end order front)

-- how many were read
pub length-read : {X : Type 0} (ys : List X) (end count : ℕ) → end + count ≤ length ys → length (slice_range ys end (end + count)) ≡ count
length-read ys end count fits =
    let n : end + count - end ≡ count = omega arith in
    ap (λ m. length (take m (drop end ys))) n ∙ length-take-le count (drop end ys) (omega (arith, length-drop end ys, fits))
