-- A schema's value has no float.
use Rattle.std.proofs.Common.{◌≡◌, ◌||◌, ℕ, ℤ, Bool, true, false, not, List, [], ◌∷◌, Option, Some, None, option_and_then}
use Rattle.std.proofs.Common.{is_some, unwrap_or, Ordering, Less, Equal, Greater, bytes_eq, nat_cmp, is_eq, refl, sym, ap, subst, ◌∙◌}
use Rattle.std.specs.Cmp.Lexicographic.{pointwise, slice_cmp}
use Rattle.std.specs.List.{AllByRecursion, list_any}
use Rattle.std.specs.Option.{option_map_or}
use Rattle.std.specs.Ordering.{match_ordering}
use Rattle.std.proofs.lemmas.Bool.{false≢true}
use Rattle.std.proofs.lemmas.Cmp.{nat_list_cmp_total, tied_itself}
use Rattle.std.proofs.lemmas.Map.Text.{is_eq-slice_cmp}
use Rattle.std.proofs.lemmas.Slice.Eq.{bytes_eq-Decides}
use Rattle.serde_json.specs.Data.{Data, Num, unsigned, negative, float, null, boolean, number}
use Rattle.serde_json.specs.Data.{string, array, object, Items, no_items, item, Members, no_members, member}
use Rattle.serde_json.specs.Find.{as_array, as_i64, as_number, as_str, as_u64, get, get_member}
use Rattle.serde_json.specs.Written.{has_float, items_have_float, members_have_float}
use Rattle.svr_json.specs.Parts.{elements_of, has_members, items_in, names_in}
use Rattle.svr_schema.specs.Lawful.{are_different}
use Rattle.svr_schema.specs.Parts.{elements_at, text_or_empty}
use Rattle.svr_schema.proofs.Steps.{and_true, and_then-some, is_some-true}

-- nothing at the member has a float
abbrev pub NoFloatAt : Data → List ℕ → Type 0
NoFloatAt d name = option_map_or has_float (get name d) false ≡ false

or_false : (a b : Bool) → a ≡ false → b ≡ false → (a || b) ≡ false
or_false a b e f = ap (λ x. x || b) e ∙ f

passed : (o : Ordering) (e : Data) (rest : Option Data) → is_eq o ≡ false → match_ordering o rest (Some e) rest ≡ rest
passed Less e rest h = refl
passed Equal e rest h = cc
passed Greater e rest h = refl

decided : (b : Bool) → (b ≡ true → ⊥) → b ≡ false
decided true h = absurd (h refl)
decided false h = refl

bytes_eq-turned : (xs ys : List ℕ) → bytes_eq xs ys ≡ false → bytes_eq ys xs ≡ false
bytes_eq-turned xs ys h =
    decided (bytes_eq ys xs) (λ e. false≢true (sym h ∙ (bytes_eq-Decides xs ys).1 (sym ((bytes_eq-Decides ys xs).0 e))))

-- another name isn't that of the first member
get_member-behind : (name first : List ℕ) (e : Data) (ms : Members) → bytes_eq first name ≡ false
    → get_member name (member first e ms) ≡ get_member name ms
get_member-behind name first e ms h =
    passed (slice_cmp nat_cmp name first) e (get_member name ms) (is_eq-slice_cmp name first ∙ bytes_eq-turned first name h)

get_member-first : (name : List ℕ) (e : Data) (ms : Members) → get_member name (member name e ms) ≡ Some e
get_member-first name e ms =
    ap (λ o. match_ordering o (get_member name ms) (Some e) (get_member name ms)) (tied_itself nat_list_cmp_total name)

neither : (a b : Bool) → (a || b) ≡ false → (a ≡ false) × (b ≡ false)
neither true b e = absurd (false≢true (sym e))
neither false b e = (refl, e)

behind : (first : List ℕ) (e : Data) (ms : Members) (names : List (List ℕ)) → list_any (bytes_eq first) names ≡ false
    → AllByRecursion (NoFloatAt (object (member first e ms))) names → AllByRecursion (NoFloatAt (object ms)) names
behind first e ms [] h a = tt
behind first e ms (n ∷ names) h a =
    let apart = neither (bytes_eq first n) (list_any (bytes_eq first) names) h in (
      subst (λ (o : Option Data). option_map_or has_float o false ≡ false)
          (get_member-behind n first e ms apart.0) a.0,
      behind first e ms names apart.1 a.1,
    )

not_true : (b : Bool) → not b ≡ true → b ≡ false
not_true true e = absurd (false≢true e)
not_true false e = refl

members_no_float : (ms : Members) (names : List (List ℕ)) → pointwise bytes_eq (names_in ms) names ≡ true → are_different names ≡ true
    → AllByRecursion (NoFloatAt (object ms)) names → members_have_float ms ≡ false
unfolding are_different
members_no_float no_members [] p d a = refl
members_no_float no_members (n ∷ names) p d a = absurd (false≢true p)
members_no_float (member k e ms) [] p d a = absurd (false≢true p)
members_no_float (member k e ms) (n ∷ names) p d a =
    let first = and_true (bytes_eq k n) (pointwise bytes_eq (names_in ms) names) p in
    let same : k ≡ n = (bytes_eq-Decides k n).0 first.0 in
    let differ = and_true (not (list_any (bytes_eq n) names)) (are_different names) d in
    let at_name = λ (x : List ℕ). option_map_or has_float (get_member n (member x e ms)) false ≡ false in
    let here : option_map_or has_float (get_member n (member n e ms)) false ≡ false = subst at_name same a.0 in
    let value : has_float e ≡ false = subst (λ (o : Option Data). option_map_or has_float o false ≡ false) (get_member-first n e ms) here in
    let rest =
    behind n e ms names (not_true _ differ.0)
    (subst (λ (x : List ℕ). AllByRecursion (NoFloatAt (object (member x e ms))) names) same a.1) in
    or_false (has_float e) (members_have_float ms) value (members_no_float ms names first.1 differ.1 rest)

-- an object of these members, none of which has a float
pub object_no_float : (d : Data) (names : List (List ℕ)) → has_members names d ≡ true → are_different names ≡ true
    → AllByRecursion (NoFloatAt d) names → has_float d ≡ false
object_no_float (object ms) names h d a = members_no_float ms names h d a
object_no_float null names h d a = absurd (false≢true h)
object_no_float (boolean b) names h d a = absurd (false≢true h)
object_no_float (number n) names h d a = absurd (false≢true h)
object_no_float (string s) names h d a = absurd (false≢true h)
object_no_float (array ds) names h d a = absurd (false≢true h)

-- ---- what stands at a member

pub string_no_float : (d : Data) (s : List ℕ) → as_str d ≡ Some s → has_float d ≡ false
string_no_float (string t) s e = refl
string_no_float null s e = refl
string_no_float (boolean b) s e = refl
string_no_float (number n) s e = cc
string_no_float (array ds) s e = cc
string_no_float (object ms) s e = cc

pub i64_no_float : (d : Data) (z : ℤ) → option_and_then as_i64 (as_number d) ≡ Some z → has_float d ≡ false
i64_no_float (number (unsigned n)) z e = refl
i64_no_float (number (negative n)) z e = refl
i64_no_float (number (float x)) z e = cc
i64_no_float null z e = refl
i64_no_float (boolean b) z e = refl
i64_no_float (string s) z e = refl
i64_no_float (array ds) z e = cc
i64_no_float (object ms) z e = cc

u64_no_float : (d : Data) (n : ℕ) → option_and_then as_u64 (as_number d) ≡ Some n → has_float d ≡ false
u64_no_float (number (unsigned m)) n e = refl
u64_no_float (number (negative m)) n e = refl
u64_no_float (number (float x)) n e = cc
u64_no_float null n e = refl
u64_no_float (boolean b) n e = refl
u64_no_float (string s) n e = refl
u64_no_float (array ds) n e = cc
u64_no_float (object ms) n e = cc

-- what a step over the member finds
pub NoFloatAt-by : {A : Type 0} (d : Data) (name : List ℕ) (f : Data → Option A) (a : A)
    → ((v : Data) → f v ≡ Some a → has_float v ≡ false) → option_and_then f (get name d) ≡ Some a → NoFloatAt d name
NoFloatAt-by d name f a h e =
    let one = and_then-some (get name d) f a e in
    subst (λ (o : Option Data). option_map_or has_float o false ≡ false) (sym one.1) (h one.0 one.2)

pub NoFloatAt-is : (d : Data) (name : List ℕ) (v : Data) → get name d ≡ Some v → has_float v ≡ false → NoFloatAt d name
NoFloatAt-is d name v e h = subst (λ (o : Option Data). option_map_or has_float o false ≡ false) (sym e) h

pub NoFloatAt-none : (d : Data) (name : List ℕ) → get name d ≡ None → NoFloatAt d name
NoFloatAt-none d name e = subst (λ (o : Option Data). option_map_or has_float o false ≡ false) (sym e) refl

some_text : (o : Option (List ℕ)) → (unwrap_or o [] ≡ [] → ⊥) → (s : List ℕ) × (o ≡ Some s)
some_text None h = absurd (h refl)
some_text (Some s) h = (s, refl)

pub NoFloatAt-text : (d : Data) (name : List ℕ) → (text_or_empty name d ≡ [] → ⊥) → NoFloatAt d name
NoFloatAt-text d name h =
    let s = some_text (option_and_then as_str (get name d)) h in
    NoFloatAt-by d name as_str s.0 (λ v e. string_no_float v s.0 e) s.1

number_chain : {A : Type 0} (f : Num → Option A) (o : Option Data)
    → option_and_then f (option_and_then as_number o) ≡ option_and_then (λ v. option_and_then f (as_number v)) o
number_chain f None = refl
number_chain f (Some v) = refl

pub NoFloatAt-i64 : (d : Data) (name : List ℕ) (z : ℤ) → option_and_then as_i64 (option_and_then as_number (get name d)) ≡ Some z
    → NoFloatAt d name
NoFloatAt-i64 d name z e =
    NoFloatAt-by d name (λ v. option_and_then as_i64 (as_number v)) z (λ v h. i64_no_float v z h)
    (sym (number_chain as_i64 (get name d)) ∙ e)

pub NoFloatAt-u64 : (d : Data) (name : List ℕ) (n : ℕ) → option_and_then as_u64 (option_and_then as_number (get name d)) ≡ Some n
    → NoFloatAt d name
NoFloatAt-u64 d name n e =
    NoFloatAt-by d name (λ v. option_and_then as_u64 (as_number v)) n (λ v h. u64_no_float v n h)
    (sym (number_chain as_u64 (get name d)) ∙ e)

-- ---- arrays

items_no_float : (ds : Items) → AllByRecursion (λ d. has_float d ≡ false) (items_in ds) → items_have_float ds ≡ false
items_no_float no_items a = refl
items_no_float (item d ds) a = or_false (has_float d) (items_have_float ds) a.0 (items_no_float ds a.1)

array_no_float : (d : Data) (ds : Items) → as_array d ≡ Some ds → AllByRecursion (λ e. has_float e ≡ false) (elements_of d)
    → has_float d ≡ false
array_no_float (array es) ds e a = items_no_float es a
array_no_float null ds e a = refl
array_no_float (boolean b) ds e a = refl
array_no_float (number n) ds e a = cc
array_no_float (string s) ds e a = refl
array_no_float (object ms) ds e a = cc

elements_at-is : (d : Data) (name : List ℕ) (v : Data) → get name d ≡ Some v → elements_at name d ≡ elements_of v
elements_at-is d name v e = ap (λ o. option_map_or elements_of o []) e

pub NoFloatAt-array : (d : Data) (name : List ℕ) → is_some (option_and_then as_array (get name d)) ≡ true
    → AllByRecursion (λ e. has_float e ≡ false) (elements_at name d) → NoFloatAt d name
NoFloatAt-array d name h a =
    let ds = is_some-true _ h in
    let one = and_then-some (get name d) as_array ds.0 ds.1 in
    NoFloatAt-is d name one.0 one.1
    (array_no_float one.0 ds.0 one.2 (subst (AllByRecursion (λ e. has_float e ≡ false)) (elements_at-is d name one.0 one.1) a))
