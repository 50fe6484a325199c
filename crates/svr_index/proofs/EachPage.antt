-- Taking all groups of a list asks for each of its pages, key by key.
use Rattle.std.proofs.Common.{◌≡◌, ℕ, zero, suc, nat_lt, ◌&&◌, ◌||◌, ◌<◌, ◌≤◌, ◌^◌, ◌==◌, Bool, true, false, List, [], ◌∷◌, ◌++◌, Option, Some, None}
use Rattle.std.proofs.Common.{IsSome, IfSome, Result, Ok, Err, unwrap_or, refl, ap, ap₂, sym, subst, ◌∙◌, arith}
use Rattle.std.proofs.lemmas.Bool.Decides.{nat_tests}
use Rattle.std.proofs.lemmas.List.{append_assoc, append-nil}
use Rattle.svr_iter.specs.Asked.{Asks}
use Rattle.svr_iter.specs.Taking.{IsLess, KeepsBelow}
use Rattle.svr_iter.specs.Truths.{and_left, and_right, eq_from, eq_more, eq_self, lt_from}
use Rattle.svr_iter.specs.declared.fault.ScanFault.{ScanFault}
use Rattle.svr_iter.specs.declared.fault.ScanFault.TheVariants as scan
use Rattle.svr_iter.proofs.Asking.{InTurn-append, asks_all, asks_fault, asks_memory, given_all}
use Rattle.svr_long.specs.Cursor.{pages_of_key}
use Rattle.svr_long.specs.Heads.{are_heads, are_paged, heads}
use Rattle.svr_postpage.specs.Pairs.{first_pair, is_before, is_in_range}
use Rattle.svr_postpage.specs.Reading.{InTurn}
use Rattle.svr_postpage.specs.declared.page_ref.PageFault.{PageFault}
use Rattle.svr_postpage.specs.declared.page_ref.PageRef.{PageRef}
use Rattle.svr_index.specs.Docs.{refs_at}
use Rattle.svr_index.specs.Index.{Indexed}
use Rattle.svr_index.specs.Layout.{IsListOf, TermList, pages_below, pages_of_list}

-- ---- the pages of all keys below a number

-- only the pages of these keys count
pages_below-same : (P Q : ℕ → List PageRef) (n : ℕ) → ((k : ℕ) → k < n → P k ≡ Q k) → pages_below P n ≡ pages_below Q n
unfolding pages_below
pages_below-same P Q zero same = refl
pages_below-same P Q (suc n) same =
    ap₂ (λ (a b : List PageRef). a ++ b) (same n (omega arith)) (pages_below-same P Q n (λ k lt. same k (omega (arith, lt))))

-- keys without pages add nothing
pages_below-up_to : (P : ℕ → List PageRef) (key n : ℕ) → key ≤ n → ((k : ℕ) → key ≤ k → P k ≡ []) → pages_below P n ≡ pages_below P key
unfolding pages_below
pages_below-up_to P zero zero le none = refl
pages_below-up_to P (suc key) zero le none = absurd (omega (arith, le))
pages_below-up_to P key (suc n) le none = by (key == suc n) refl (λ less. pages_below-up_to P key n less none)
  where
    by : (b : Bool) → (key == suc n) ≡ b → (key ≤ n → pages_below P n ≡ pages_below P key) → P n ++ pages_below P n ≡ pages_below P key
    by true e more = let same : suc n ≡ key = grind (arith, nat_tests) in ap (pages_below P) same
    by false e more =
        let less : key ≤ n = grind (arith, nat_tests) in
        ap (λ (l : List PageRef). l ++ pages_below P n) (none n less) ∙ more less

-- the pages of the greatest key that has some stand first
pages_below-first : (P : ℕ → List PageRef) (key n : ℕ) → key < n → ((k : ℕ) → key < k → P k ≡ [])
    → pages_below P n ≡ P key ++ pages_below P key
unfolding pages_below
pages_below-first P key n lt none = pages_below-up_to P (suc key) n (omega (arith, lt)) (λ k le. none k (omega (arith, le)))

pages_below-none : (P : ℕ → List PageRef) (n : ℕ) → ((k : ℕ) → P k ≡ []) → pages_below P n ≡ []
unfolding pages_below
pages_below-none P n none = pages_below-up_to P zero n (omega arith) (λ k le. none k)

-- ---- pages in page order

-- keys fall, and are below this number
abbrev FallBelow : ℕ → List PageRef → Type 0
FallBelow n [] = Unit {0}
FallBelow n (ref ∷ refs) = (ref.key < n) × FallBelow (suc ref.key) refs

none-above : (n k : ℕ) (refs : List PageRef) → FallBelow n refs → n ≤ k → pages_of_key k refs ≡ []
none-above n k [] fall le = refl
none-above n k (ref ∷ refs) fall le =
    let other : (ref.key == k) ≡ false = grind (arith, nat_tests, fall.0) in
    rw (other) (none-above (suc ref.key) k refs fall.1 (omega (arith, fall.0)))

-- pages in page order are those of one key after the other
pages_below-all : (refs : List PageRef) (n : ℕ) → FallBelow n refs → pages_below (λ k. pages_of_key k refs) n ≡ refs
unfolding pages_below
pages_below-all [] n fall = pages_below-none (λ _. []) n (λ _. refl)
pages_below-all (ref ∷ refs) n fall =
    pages_below-first (λ k. pages_of_key k (ref ∷ refs)) ref.key n fall.0
    (λ k lt. none-above (suc ref.key) k (ref ∷ refs) (omega arith, fall.1) (omega (arith, lt)))
    ∙ ap₂ (λ (a b : List PageRef). a ++ b) here
    (pages_below-same (λ k. pages_of_key k (ref ∷ refs)) (λ k. pages_of_key k refs) ref.key (λ k lt. later k lt))
    ∙ ap (λ (l : List PageRef). ref ∷ l) (pages_below-all refs (suc ref.key) fall.1)
  where
    here : pages_of_key ref.key (ref ∷ refs) ≡ ref ∷ pages_of_key ref.key refs
    here = rw (eq_self ref.key) refl

    later : (k : ℕ) → k < ref.key → pages_of_key k (ref ∷ refs) ≡ pages_of_key k refs
    later k lt = rw (eq_more k ref.key lt) refl

fallen : (ref next : PageRef) → is_before (first_pair ref) (first_pair next) ≡ true → next.key < suc ref.key
fallen ref next e = by (nat_lt next.key ref.key) refl e
  where
    by : (b : Bool) → nat_lt next.key ref.key ≡ b → (b || ((ref.key == next.key) && nat_lt ref.id next.id)) ≡ true → next.key < suc ref.key
    by true less e = let lt = lt_from next.key ref.key less in omega (arith, lt)
    by false not_less e = let same = eq_from ref.key next.key (and_left _ _ e) in omega (arith, same)

falls-from : (ref : PageRef) (refs : List PageRef) (n : ℕ) → ref.key < n → are_paged (heads (ref ∷ refs)) ≡ true → FallBelow n (ref ∷ refs)
falls-from ref [] n lt e = (lt, tt)
falls-from ref (next ∷ refs) n lt e =
    let rest = and_right (is_in_range (first_pair ref)) _ e in
    (lt, falls-from next refs (suc ref.key) (fallen ref next (and_left _ _ rest)) (and_right _ _ rest))

-- the pages of a term, key by key
heads-below : (refs : List PageRef) → are_heads refs ≡ true → pages_below (λ k. pages_of_key k refs) (2 ^ 48) ≡ refs
heads-below [] e = pages_below-none (λ _. []) (2 ^ 48) (λ _. refl)
heads-below (ref ∷ refs) e =
    let in_range = and_left (is_in_range (first_pair ref)) _ e in
    pages_below-all (ref ∷ refs) (2 ^ 48) (falls-from ref refs (2 ^ 48) (lt_from ref.key (2 ^ 48) (and_left _ _ in_range)) e)

-- the pages of a list of one term, key by key
pub list-pages : (index : Indexed) (term : List ℕ) (list : TermList) → IsListOf index term list
    → pages_below (pages_of_list list) (2 ^ 48) ≡ refs_at index term
list-pages index term list is =
    pages_below-same (pages_of_list list) (λ k. pages_of_key k (refs_at index term)) (2 ^ 48) (λ k _. is.pages_are k)
    ∙ heads-below (refs_at index term) is.heads

-- ---- pages that were given while groups are taken

-- the first of these pages were given, and those are left
pub record HasGiven {R : Type 0} (gives : R → PageRef → R → Type 0) (left all : List PageRef) (old new : R) : Type 0 where
  pub given : List PageRef
  pub in_turn : InTurn gives given old new
  pub are_these : given ++ left ≡ all

-- no key above the next one has pages
abbrev pub HasNoneAbove : Option ℕ → (ℕ → List PageRef) → Type 0
HasNoneAbove next pages = (key : ℕ) → IsLess next (Some key) → pages key ≡ []

-- the pages of the next key stand first
next_first : (next : Option ℕ) (pages : ℕ → List PageRef) (top : ℕ) → IsSome next → IfSome next (λ key. key < top) → HasNoneAbove next pages
    → pages_below pages top ≡ pages (unwrap_or next 0) ++ pages_below pages (unwrap_or next 0)
next_first None pages top some fits none = absurd (cc)
next_first (Some key) pages top some fits none = pages_below-first pages key top fits none

-- the others are those that are left when its group was taken
then_left : (next new : Option ℕ) (now then : ℕ → List PageRef) (top : ℕ) → IsSome next → IfSome next (λ key. key < top)
    → HasNoneAbove new then → KeepsBelow next now then → IsLess new next
    → pages_below now (unwrap_or next 0) ≡ pages_below then top
then_left None new now then top some fits none keeps less = absurd (cc)
then_left (Some key) new now then top some fits none keeps less =
    pages_below-same now then key (λ k lt. sym (keeps k lt))
    ∙ sym (pages_below-up_to then key top (omega (arith, fits)) (λ k le. none k (under new k less le)))
  where
    under : (new : Option ℕ) (k : ℕ) → IsLess new (Some key) → key ≤ k → IsLess new (Some k)
    under None k less le = tt
    under (Some later) k less le = omega (arith, less, le)

module _ {R : Type 0} (gives : R → PageRef → R → Type 0) (fails : R → PageRef → PageFault → R → Type 0)
    (next : Option ℕ) (pages : ℕ → List PageRef) (all : List PageRef) (top : ℕ) (start mid new : R)
    (some : IsSome next) (fits : IfSome next (λ key. key < top)) (none : HasNoneAbove next pages)
    (has : HasGiven gives (pages_below pages top) all start mid) where
  parts : has.given ++ (pages (unwrap_or next 0) ++ pages_below pages (unwrap_or next 0)) ≡ all
  parts = ap (λ (l : List PageRef). has.given ++ l) (sym (next_first next pages top some fits none)) ∙ has.are_these

  -- a fault came while the next group was taken
  pub given-fault : {T V : Type 0} (f : ScanFault) → Asks {R = R} {T = T} gives fails (pages (unwrap_or next 0)) mid new (Err f)
      → Asks {R = R} {T = V} gives fails all start new (Err f)
  given-fault {T} {V} f asks =
      asks_fault {R = R} gives fails {T = T} {V = V} has.given (pages (unwrap_or next 0)) (pages_below pages (unwrap_or next 0)) all start mid new f
      has.in_turn asks parts

  -- the next group was taken
  pub given-more : {T : Type 0} (value : T) (later : Option ℕ) (then : ℕ → List PageRef)
      → Asks {R = R} {T = T} gives fails (pages (unwrap_or next 0)) mid new (Ok value)
      → HasNoneAbove later then → KeepsBelow next pages then → IsLess later next
      → HasGiven gives (pages_below then top) all start new
  given-more {T} value later then asks above keeps less = record {
    given = has.given ++ pages (unwrap_or next 0);
    in_turn = InTurn-append gives has.given (pages (unwrap_or next 0)) start mid new has.in_turn
        (given_all {R = R} gives fails {T = T} (pages (unwrap_or next 0)) mid new value asks);
    are_these =
        append_assoc has.given (pages (unwrap_or next 0)) (pages_below then top)
        ∙ ap (λ (l : List PageRef). has.given ++ (pages (unwrap_or next 0) ++ l)) (sym (then_left next later pages then top some fits above keeps less))
        ∙ parts;
  }

-- no group is left
pub given-all : {R T : Type 0} (gives : R → PageRef → R → Type 0) (fails : R → PageRef → PageFault → R → Type 0)
    (pages : ℕ → List PageRef) (all : List PageRef) (top : ℕ) (start new : R) (value : T) (next : Option ℕ) → next ≡ None
    → HasNoneAbove next pages → HasGiven gives (pages_below pages top) all start new → Asks {R = R} {T = T} gives fails all start new (Ok value)
given-all {R} {T} gives fails pages all top start new value None e none has =
    subst (λ (l : List PageRef). Asks {R = R} {T = T} gives fails l start new (Ok value))
    (sym (append-nil has.given) ∙ ap (λ (l : List PageRef). has.given ++ l) (sym (pages_below-none pages top (λ k. none k tt))) ∙ has.are_these)
    (asks_all {R = R} gives fails {T = T} has.given start new value has.in_turn)
given-all gives fails pages all top start new value (Some key) e none has = absurd (cc)

-- memory was wanting
pub given-memory : {R T : Type 0} (gives : R → PageRef → R → Type 0) (fails : R → PageRef → PageFault → R → Type 0)
    (left all : List PageRef) (start new : R) (result : Result T ScanFault) → result ≡ Err scan.Memory → HasGiven gives left all start new
    → Asks {R = R} {T = T} gives fails all start new result
given-memory {R} {T} gives fails left all start new result e has =
    subst (λ (r : Result T ScanFault). Asks {R = R} {T = T} gives fails all start new r) (sym e)
    (asks_memory {R = R} gives fails {T = T} has.given left all start new has.in_turn has.are_these)
