-- A page is found by tests of its parts, and has no other spelling.
use Rattle.std.proofs.Common.{◌≡◌, ℕ, zero, suc, ◌+◌, ◌-◌, ◌*◌, ◌<◌, ◌≤◌, ◌&&◌, Bool, true, false, cond, List, [], ◌∷◌, ◌++◌}
use Rattle.std.proofs.Common.{length, take, drop, replicate, get_or, Option, Some, None, refl, sym, ap, ap₂, ◌∙◌, arith, eqb-true, nat_le, nat_lt}
use Rattle.std.specs.Int.{from_be_bytes, to_be_bytes, w16, w64}
use Rattle.std.specs.List.{flat_map, list_all, slice_get, slice_range}
use Rattle.std.specs.Option.{option_map}
use Rattle.std.specs.Str.{bytes_eq}
use Rattle.std.proofs.lemmas.Bool.{and_parts}
use Rattle.std.proofs.lemmas.Bool.Decides.{nat_tests, same_from_decides}
use Rattle.std.proofs.lemmas.List.{drop-drop, drop_at, get_or-drop, length-drop, length-take-le, take-append-drop}
use Rattle.std.proofs.lemmas.Nat.{be_bytes_2, be_bytes_8}
use Rattle.std.proofs.lemmas.Slice.Eq.{bytes_eq-Decides}
use lib.Seq.{take-add}
use Rattle.svr_postpage.specs.declared.pair.Pair.{Pair}
use Rattle.svr_postpage.specs.Layout.{are_pairs, follows, has_layout, is_zero}
use Rattle.svr_postpage.specs.Pages.{if_page, page_bytes, page_in, pair_bytes, pair_in, pairs_in_bytes, pairs_of, pairs_or_none}
use Rattle.svr_postpage.specs.Pairs.{are_in_order, fill_a_page, is_before, is_in_range, ref_of}

-- each is a byte
abbrev pub AreBytes : List ℕ → Type 0
AreBytes bytes = (i : ℕ) → get_or bytes i 0 < 256

AreBytes-drop : (n : ℕ) (bytes : List ℕ) → AreBytes bytes → AreBytes (drop n bytes)
AreBytes-drop n bytes small i = rw (get_or-drop n bytes i 0) (small (n + i))

AreBytes-take : (n : ℕ) (bytes : List ℕ) → AreBytes bytes → AreBytes (take n bytes)
AreBytes-take zero bytes small i = omega arith
AreBytes-take (suc n) [] small i = small i
AreBytes-take (suc n) (b ∷ bytes) small zero = small 0
AreBytes-take (suc n) (b ∷ bytes) small (suc i) = AreBytes-take n bytes (λ k. small (suc k)) i

eight : (bytes : List ℕ) → 8 ≤ length bytes → AreBytes bytes → to_be_bytes w64 (from_be_bytes w64 (take 8 bytes)) ≡ take 8 bytes
eight bytes long small =
    be_bytes_8 (take 8 bytes) (from_be_bytes w64 (take 8 bytes)) (length-take-le 8 bytes long) (AreBytes-take 8 bytes small) refl

-- sixteen bytes are those of the pair that they are
pair_bytes-pair_in : (bytes : List ℕ) → 16 ≤ length bytes → AreBytes bytes → pair_bytes (pair_in bytes) ≡ take 16 bytes
pair_bytes-pair_in bytes long small =
    ap₂ (λ (k i : List ℕ). k ++ i) (eight bytes (omega arith) small)
    (eight (drop 8 bytes) (omega (arith, length-drop 8 bytes)) (AreBytes-drop 8 bytes small))
    ∙ sym (take-add 8 8 bytes)

length-pairs_in_bytes : (n : ℕ) (bytes : List ℕ) → length (pairs_in_bytes n bytes) ≡ n
unfolding pairs_in_bytes
length-pairs_in_bytes zero bytes = refl
length-pairs_in_bytes (suc n) bytes = ap suc (length-pairs_in_bytes n (drop 16 bytes))

-- bytes are those of the pairs that they are
pair_bytes-pairs_in_bytes : (n : ℕ) (bytes : List ℕ) → 16 * n ≤ length bytes → AreBytes bytes
    → flat_map pair_bytes (pairs_in_bytes n bytes) ≡ take (16 * n) bytes
unfolding pairs_in_bytes
pair_bytes-pairs_in_bytes zero bytes long small = refl
pair_bytes-pairs_in_bytes (suc n) bytes long small =
    let more : 16 + 16 * n ≡ 16 * suc n = omega arith in
    ap₂ (λ (k i : List ℕ). k ++ i) (pair_bytes-pair_in bytes (omega arith) small)
    (pair_bytes-pairs_in_bytes n (drop 16 bytes) (omega (arith, length-drop 16 bytes)) (AreBytes-drop 16 bytes small))
    ∙ sym (take-add 16 (16 * n) bytes)
    ∙ ap (λ m. take m bytes) more

-- the pair at a place
pub slice_get-pairs_in_bytes : (n i : ℕ) (bytes : List ℕ) → i < n → slice_get (pairs_in_bytes n bytes) i ≡ Some (pair_in (drop (16 * i) bytes))
unfolding pairs_in_bytes
slice_get-pairs_in_bytes zero i bytes below = absurd (omega arith)
slice_get-pairs_in_bytes (suc n) zero bytes below = refl
slice_get-pairs_in_bytes (suc n) (suc i) bytes below =
    let more : 16 + 16 * i ≡ 16 * suc i = omega arith in
    slice_get-pairs_in_bytes n i (drop 16 bytes) (omega arith)
    ∙ ap (λ (bs : List ℕ). Some (pair_in bs)) (drop-drop (16 * i) 16 bytes ∙ ap (λ m. drop m bytes) more)

crossed : (a b c d : Bool) → ((a && b) && (c && d)) ≡ ((a && c) && (b && d))
crossed false b c d = refl
crossed true false false d = refl
crossed true false true d = refl
crossed true true c d = refl

and_assoc : (a b c : Bool) → ((a && b) && c) ≡ (a && (b && c))
and_assoc false b c = refl
and_assoc true b c = refl

are_pairs-behind : (last : Pair) (pairs : List Pair) → are_pairs (Some last) pairs ≡ (list_all is_in_range pairs && are_in_order (last ∷ pairs))
are_pairs-behind last [] = refl
are_pairs-behind last (p ∷ ps) =
    ap (λ t. (is_in_range p && is_before last p) && t) (are_pairs-behind p ps)
    ∙ crossed (is_in_range p) (is_before last p) (list_all is_in_range ps) (are_in_order (p ∷ ps))

-- the test of one pair after the other
are_pairs-all : (pairs : List Pair) → are_pairs None pairs ≡ (list_all is_in_range pairs && are_in_order pairs)
are_pairs-all [] = refl
are_pairs-all (p ∷ ps) =
    ap (λ t. is_in_range p && t) (are_pairs-behind p ps)
    ∙ sym (and_assoc (is_in_range p) (list_all is_in_range ps) (are_in_order (p ∷ ps)))

zeros : (bytes : List ℕ) → list_all is_zero bytes ≡ true → bytes ≡ replicate (length bytes) 0
zeros [] all = refl
zeros (b ∷ bytes) all =
    let parts = and_parts (is_zero b) (list_all is_zero bytes) all in
    ap₂ (λ (x : ℕ) (xs : List ℕ). x ∷ xs) (eqb-true b 0 parts.0) (zeros bytes parts.1)

zeros-replicate : (n : ℕ) → list_all is_zero (replicate n 0) ≡ true
zeros-replicate zero = refl
zeros-replicate (suc n) = zeros-replicate n

-- a page of so many pairs, by the four bytes in front and the others
four_and : (a b c d n : ℕ) (rest : List ℕ) → length rest ≡ 4092 → AreBytes (a ∷ b ∷ c ∷ d ∷ rest) → n ≤ 255
    → n ≡ from_be_bytes w16 (a ∷ b ∷ [])
    → page_bytes (pairs_in_bytes n rest) ≡ a ∷ b ∷ 0 ∷ 0 ∷ (take (16 * n) rest ++ replicate (4092 - 16 * n) 0)
unfolding page_bytes
four_and a b c d n rest long small few is =
    let count = length-pairs_in_bytes n rest in
    let front : to_be_bytes w16 n ≡ a ∷ b ∷ [] = be_bytes_2 (a ∷ b ∷ []) n refl (AreBytes-take 2 (a ∷ b ∷ c ∷ d ∷ rest) small) is in
    let pairs = pair_bytes-pairs_in_bytes n rest (omega arith) (λ i. small (suc (suc (suc (suc i))))) in
    ap (λ m. to_be_bytes w16 m ++ (replicate 2 0 ++ (flat_map pair_bytes (pairs_in_bytes n rest) ++ replicate (4092 - 16 * m) 0))) count
    ∙ ap₂ (λ (x y : List ℕ). x ++ (replicate 2 0 ++ (y ++ replicate (4092 - 16 * n) 0))) front pairs

-- all is zero that is to be zero
abbrev zero_tests : ℕ → List ℕ → Bool
zero_tests n bytes = (is_zero (get_or bytes 2 0) && is_zero (get_or bytes 3 0)) && list_all is_zero (drop (16 * n) (drop 4 bytes))

tests_give : (a b c d n : ℕ) (rest : List ℕ) → length rest ≡ 4092 → n ≤ 255
    → zero_tests n (a ∷ b ∷ c ∷ d ∷ rest) ≡ true
    → a ∷ b ∷ c ∷ d ∷ rest ≡ a ∷ b ∷ 0 ∷ 0 ∷ (take (16 * n) rest ++ replicate (4092 - 16 * n) 0)
tests_give a b c d n rest long few passed =
    let parts = and_parts (is_zero c && is_zero d) (list_all is_zero (drop (16 * n) rest)) passed in
    let two = and_parts (is_zero c) (is_zero d) parts.0 in
    let third : c ≡ 0 = eqb-true c 0 two.0 in
    let fourth : d ≡ 0 = eqb-true d 0 two.1 in
    let count : length (drop (16 * n) rest) ≡ 4092 - 16 * n = omega (arith, length-drop (16 * n) rest) in
    let last : drop (16 * n) rest ≡ replicate (4092 - 16 * n) 0 =
    zeros (drop (16 * n) rest) parts.1 ∙ ap (λ m. replicate m 0) count in
    let whole : rest ≡ take (16 * n) rest ++ replicate (4092 - 16 * n) 0 =
    sym (take-append-drop (16 * n) rest) ∙ ap (λ (l : List ℕ). take (16 * n) rest ++ l) last in
    ap₂ (λ (x y : ℕ). a ∷ b ∷ x ∷ y ∷ rest) third fourth ∙ ap (λ (l : List ℕ). a ∷ b ∷ 0 ∷ 0 ∷ l) whole

tests_hold : (a b c d n : ℕ) (rest : List ℕ) → length rest ≡ 4092 → n ≤ 255
    → a ∷ b ∷ c ∷ d ∷ rest ≡ a ∷ b ∷ 0 ∷ 0 ∷ (take (16 * n) rest ++ replicate (4092 - 16 * n) 0)
    → zero_tests n (a ∷ b ∷ c ∷ d ∷ rest) ≡ true
tests_hold a b c d n rest long few same =
    let third : c ≡ 0 = cc in
    let fourth : d ≡ 0 = cc in
    let whole : rest ≡ take (16 * n) rest ++ replicate (4092 - 16 * n) 0 = cc in
    let last : drop (16 * n) rest ≡ replicate (4092 - 16 * n) 0 =
    ap (drop (16 * n)) whole
    ∙ drop_at (take (16 * n) rest) (replicate (4092 - 16 * n) 0) (16 * n) (length-take-le (16 * n) rest (omega arith)) in
    ap₂ (λ (x y : ℕ). (is_zero x && is_zero y) && list_all is_zero (drop (16 * n) rest)) third fourth
    ∙ ap (list_all is_zero) last
    ∙ zeros-replicate (4092 - 16 * n)

-- bytes are those of a page by tests alone
spelled-by : (a b c d n : ℕ) (rest : List ℕ) → length rest ≡ 4092 → AreBytes (a ∷ b ∷ c ∷ d ∷ rest) → n ≤ 255
    → n ≡ from_be_bytes w16 (a ∷ b ∷ [])
    → bytes_eq (a ∷ b ∷ c ∷ d ∷ rest) (page_bytes (pairs_in_bytes n rest)) ≡ zero_tests n (a ∷ b ∷ c ∷ d ∷ rest)
spelled-by a b c d n rest long small few is =
    let page = four_and a b c d n rest long small few is in
    let both = bytes_eq-Decides (a ∷ b ∷ c ∷ d ∷ rest) (page_bytes (pairs_in_bytes n rest)) in
    same_from_decides (bytes_eq (a ∷ b ∷ c ∷ d ∷ rest) (page_bytes (pairs_in_bytes n rest))) (zero_tests n (a ∷ b ∷ c ∷ d ∷ rest)) both
    (λ passed. tests_give a b c d n rest long few passed ∙ sym page, λ same. tests_hold a b c d n rest long few (same ∙ page))

spelled : (n : ℕ) (bytes : List ℕ) → length bytes ≡ 4096 → AreBytes bytes → n ≤ 255 → n ≡ from_be_bytes w16 (take 2 bytes)
    → bytes_eq bytes (page_bytes (pairs_in_bytes n (drop 4 bytes)))
    ≡ ((is_zero (get_or bytes 2 0) && is_zero (get_or bytes 3 0)) && list_all is_zero (drop (4 + 16 * n) bytes))
spelled n [] long small few is = absurd (omega arith)
spelled n (a ∷ []) long small few is = absurd (omega arith)
spelled n (a ∷ b ∷ []) long small few is = absurd (omega arith)
spelled n (a ∷ b ∷ c ∷ []) long small few is = absurd (omega arith)
spelled n (a ∷ b ∷ c ∷ d ∷ rest) long small few is =
    spelled-by a b c d n rest (omega arith) small few is
    ∙ ap (λ (l : List ℕ). (is_zero c && is_zero d) && list_all is_zero l) (drop-drop (16 * n) 4 (a ∷ b ∷ c ∷ d ∷ rest))

-- the tests in the order of the bytes
in_turn : (some few are z3 zs same range order : Bool) → are ≡ (range && order) → (few ≡ true → same ≡ (z3 && zs))
    → ((some && (few && (range && order))) && same) ≡ ((some && few) && (z3 && (are && zs)))
in_turn false few are z3 zs same range order is by = refl
in_turn true false are z3 zs same range order is by = refl
in_turn true true are true zs same range order is by = rw (is, by refl) refl
in_turn true true are false zs same true true is by = by refl
in_turn true true are false zs same true false is by = refl
in_turn true true are false zs same false order is by = refl

few_if : (n : ℕ) → nat_le n 255 ≡ true → n ≤ 255
few_if n t = grind (arith, nat_tests)

-- a page is found by its layout
layout_tells : (n : ℕ) (bytes : List ℕ) → length bytes ≡ 4096 → AreBytes bytes → n ≡ from_be_bytes w16 (take 2 bytes)
    → (fill_a_page (pairs_in_bytes n (drop 4 bytes)) && bytes_eq bytes (page_bytes (pairs_in_bytes n (drop 4 bytes)))) ≡ has_layout n bytes
layout_tells n bytes long small is =
    let pairs = pairs_in_bytes n (drop 4 bytes) in
    let count : length (pairs_in_bytes n (drop 4 bytes)) ≡ n = length-pairs_in_bytes n (drop 4 bytes) in
    ap (λ m. (nat_lt 0 m && (nat_le m 255 && (list_all is_in_range pairs && are_in_order pairs))) && bytes_eq bytes (page_bytes pairs)) count
    ∙ in_turn (nat_lt 0 n) (nat_le n 255) (are_pairs None pairs) (is_zero (get_or bytes 2 0) && is_zero (get_or bytes 3 0))
    (list_all is_zero (drop (4 + 16 * n) bytes)) (bytes_eq bytes (page_bytes pairs)) (list_all is_in_range pairs) (are_in_order pairs)
    (are_pairs-all pairs) (λ t. spelled n bytes long small (few_if n t) is)

-- the pairs of the page that bytes are, by their layout
pub page_in-layout : (n : ℕ) (bytes : List ℕ) → length bytes ≡ 4096 → AreBytes bytes → n ≡ from_be_bytes w16 (take 2 bytes)
    → page_in bytes ≡ cond (has_layout n bytes) (Some (pairs_in_bytes n (drop 4 bytes))) None
unfolding page_in
page_in-layout n bytes long small is =
    ap (λ m. if_page bytes (pairs_in_bytes m (drop 4 bytes))) (sym is)
    ∙ ap (λ t. cond t (Some (pairs_in_bytes n (drop 4 bytes))) None) (layout_tells n bytes long small is)

-- nothing but pairs that a page may hold is found
pub found_by : (found : Bool) (pairs : List Pair) (i : ℕ) (x : Pair) → i < length (pairs_or_none (cond found (Some pairs) None))
    → (i < length pairs → slice_get pairs i ≡ Some x) → slice_get (pairs_or_none (cond found (Some pairs) None)) i ≡ Some x
found_by true pairs i x below there = there below
found_by false pairs i x below there = absurd (omega arith)

-- the pair at a place of a page
pub slice_get-pairs_of : (i : ℕ) (bytes : List ℕ) → i < length (pairs_of bytes)
    → slice_get (pairs_of bytes) i ≡ Some (pair_in (drop (4 + 16 * i) bytes))
unfolding page_in
slice_get-pairs_of i bytes below =
    let n = from_be_bytes w16 (take 2 bytes) in
    let pairs = pairs_in_bytes n (drop 4 bytes) in
    found_by (fill_a_page pairs && bytes_eq bytes (page_bytes pairs)) pairs i (pair_in (drop (4 + 16 * i) bytes)) below
    (λ here. slice_get-pairs_in_bytes n i (drop 4 bytes) (omega (arith, length-pairs_in_bytes n (drop 4 bytes)))
    ∙ ap (λ (bs : List ℕ). Some (pair_in bs)) (drop-drop (16 * i) 4 bytes))

few_by : (found : Bool) (pairs : List Pair) → (found ≡ true → length pairs ≤ 255) → length (pairs_or_none (cond found (Some pairs) None)) ≤ 255
few_by true pairs few = few refl
few_by false pairs few = omega arith

-- a page has at most 255 pairs
pub length-pairs_of : (bytes : List ℕ) → length (pairs_of bytes) ≤ 255
unfolding page_in
length-pairs_of bytes =
    let pairs = pairs_in_bytes (from_be_bytes w16 (take 2 bytes)) (drop 4 bytes) in
    few_by (fill_a_page pairs && bytes_eq bytes (page_bytes pairs)) pairs
    (λ t. few_if (length pairs) (and_parts _ _ (and_parts _ _ (and_parts _ _ t).0).1).0)

-- what is found where the layout is that of a page
pub found_at : (n at : ℕ) (bytes : List ℕ) (first : Pair) → length bytes ≡ 4096 → AreBytes bytes → n ≡ from_be_bytes w16 (take 2 bytes)
    → has_layout n bytes ≡ true → first ≡ pair_in (drop 4 bytes)
    → option_map (ref_of at) (page_in bytes) ≡ Some (record { at = at; key = first.key; id = first.id; count = n })
unfolding pairs_in_bytes
found_at zero at bytes first long small is has there = absurd (cc)
found_at (suc m) at bytes first long small is has there =
    ap (option_map (ref_of at)) (page_in-layout (suc m) bytes long small is)
    ∙ ap (λ t. option_map (ref_of at) (cond t (Some (pairs_in_bytes (suc m) (drop 4 bytes))) None)) has
    ∙ ap₂ (λ (p : Pair) (k : ℕ). Some (record { at = at; key = p.key; id = p.id; count = suc k }))
    (sym there) (length-pairs_in_bytes m (drop 16 (drop 4 bytes)))

-- nothing is found where it isn't
pub not_found : (n : ℕ) (bytes : List ℕ) → length bytes ≡ 4096 → AreBytes bytes → n ≡ from_be_bytes w16 (take 2 bytes)
    → has_layout n bytes ≡ false → page_in bytes ≡ None
not_found n bytes long small is has =
    page_in-layout n bytes long small is ∙ ap (λ t. cond t (Some (pairs_in_bytes n (drop 4 bytes))) None) has

-- a pair is read by its two numbers
pub pair_in-read : (at : ℕ) (bytes : List ℕ) (k i : ℕ) → k ≡ from_be_bytes w64 (slice_range bytes at (at + 8))
    → i ≡ from_be_bytes w64 (slice_range bytes (at + 8) (at + 8 + 8)) → record { key = k; id = i } ≡ pair_in (drop at bytes)
pair_in-read at bytes k i key id =
    let one : at + 8 - at ≡ 8 = omega arith in
    let two : at + 8 + 8 - (at + 8) ≡ 8 = omega arith in
    ap₂ (λ (k i : ℕ). record { key = k; id = i })
    (key ∙ ap (λ m. from_be_bytes w64 (take m (drop at bytes))) one)
    (id ∙ ap (λ m. from_be_bytes w64 (take m (drop (at + 8) bytes))) two
    ∙ ap (λ (bs : List ℕ). from_be_bytes w64 (take 8 bs)) (sym (drop-drop 8 at bytes)))

-- one pair after the other: a step of the test
are_pairs-step : (last : Option Pair) (count i : ℕ) (bytes : List ℕ) (next : Pair) → i < count → next ≡ pair_in (drop (4 + 16 * i) bytes)
    → are_pairs last (pairs_in_bytes (count - i) (drop (4 + 16 * i) bytes))
    ≡ (follows next last && are_pairs (Some next) (pairs_in_bytes (count - (i + 1)) (drop (4 + 16 * (i + 1)) bytes)))
unfolding pairs_in_bytes
are_pairs-step last count i bytes next below is =
    let more : count - i ≡ suc (count - (i + 1)) = omega arith in
    let behind : 4 + 16 * i + 16 ≡ 4 + 16 * (i + 1) = omega arith in
    ap (λ m. are_pairs last (pairs_in_bytes m (drop (4 + 16 * i) bytes))) more
    ∙ ap₂ (λ (p : Pair) (bs : List ℕ). follows p last && are_pairs (Some p) (pairs_in_bytes (count - (i + 1)) bs))
    (sym is) (drop-drop 16 (4 + 16 * i) bytes ∙ ap (λ m. drop m bytes) behind)

pub are_pairs-stops : (last : Option Pair) (count i : ℕ) (bytes : List ℕ) (next : Pair) (all : Bool) → i < count
    → next ≡ pair_in (drop (4 + 16 * i) bytes) → follows next last ≡ false
    → are_pairs last (pairs_in_bytes (count - i) (drop (4 + 16 * i) bytes)) ≡ all → false ≡ all
are_pairs-stops last count i bytes next all below is fails before =
    sym (ap (λ t. t && are_pairs (Some next) (pairs_in_bytes (count - (i + 1)) (drop (4 + 16 * (i + 1)) bytes))) fails)
    ∙ sym (are_pairs-step last count i bytes next below is)
    ∙ before

pub are_pairs-goes : (last : Option Pair) (count i : ℕ) (bytes : List ℕ) (next : Pair) (all : Bool) → i < count
    → next ≡ pair_in (drop (4 + 16 * i) bytes) → follows next last ≡ true
    → are_pairs last (pairs_in_bytes (count - i) (drop (4 + 16 * i) bytes)) ≡ all
    → are_pairs (Some next) (pairs_in_bytes (count - (i + 1)) (drop (4 + 16 * (i + 1)) bytes)) ≡ all
are_pairs-goes last count i bytes next all below is holds before =
    sym (ap (λ t. t && are_pairs (Some next) (pairs_in_bytes (count - (i + 1)) (drop (4 + 16 * (i + 1)) bytes))) holds)
    ∙ sym (are_pairs-step last count i bytes next below is)
    ∙ before

pub are_pairs-ends : (last : Option Pair) (count : ℕ) (bytes : List ℕ) (all : Bool)
    → are_pairs last (pairs_in_bytes (count - count) bytes) ≡ all → true ≡ all
unfolding pairs_in_bytes
are_pairs-ends last count bytes all before =
    let none : count - count ≡ 0 = omega arith in
    sym (ap (λ m. are_pairs last (pairs_in_bytes m bytes)) none) ∙ before

-- a page has a pair
pub has_a_pair : (n : ℕ) (bytes : List ℕ) → has_layout n bytes ≡ true → 0 < n
has_a_pair zero bytes has = absurd (cc)
has_a_pair (suc n) bytes has = omega arith

-- how many pairs are found
pub counted : (n : ℕ) (bytes : List ℕ) → length bytes ≡ 4096 → AreBytes bytes → n ≡ from_be_bytes w16 (take 2 bytes)
    → has_layout n bytes ≡ true → n ≡ length (pairs_of bytes)
counted n bytes long small is has =
    sym (length-pairs_in_bytes n (drop 4 bytes))
    ∙ sym (ap (λ t. length (pairs_or_none (cond t (Some (pairs_in_bytes n (drop 4 bytes))) None))) has)
    ∙ sym (ap (λ (o : Option (List Pair)). length (pairs_or_none o)) (page_in-layout n bytes long small is))
