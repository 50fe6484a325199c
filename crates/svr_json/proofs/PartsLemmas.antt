-- Parts of a value, by the array or the map that keeps them.
use Rattle.std.proofs.Common.{◌≡◌, ◌||◌, ℕ, Bool, List, [], ◌∷◌, map, Some, String, Global, string_bytes, refl, sym, ap}
use Rattle.std.specs.List.{list_all, list_any}
use Rattle.std.specs.Map.{keys_of}
use Rattle.std.specs.Str.{bytes_eq}
use Rattle.std.specs.Cmp.Lexicographic.{pointwise}
use Rattle.serde_json.specs.Data.{Data, null, boolean, number, string, array, object, Items, Members}
use Rattle.serde_json.specs.Find.{as_array, as_object}
use Rattle.serde_json.specs.View.{items_of, members_view}
use Rattle.serde_json.specs.declared.value.Value.{Value}
use Rattle.svr_json.specs.Parts.{items_in, elements_of, names_in, has_members, has_only}

pub items_in-items_of : (ds : List Data) → items_in (items_of ds) ≡ ds
items_in-items_of [] = refl
items_in-items_of (d ∷ ds) = ap (λ xs. d ∷ xs) (items_in-items_of ds)

pub elements_of-array : (d : Data) (ds : Items) → Some ds ≡ as_array d → elements_of d ≡ items_in ds
elements_of-array (array es) ds e = let same : ds ≡ es = cc in ap items_in (sym same)
elements_of-array null ds e = cc
elements_of-array (boolean b) ds e = cc
elements_of-array (number n) ds e = cc
elements_of-array (string s) ds e = cc
elements_of-array (object ms) ds e = cc

pub names_in-members_view : (es : List (String Global × Value)) → names_in (members_view es) ≡ map string_bytes (keys_of es)
names_in-members_view [] = refl
names_in-members_view (e ∷ es) = ap (λ names. string_bytes e.0 ∷ names) (names_in-members_view es)

pub has_members-object : (d : Data) (ms : Members) (names : List (List ℕ)) → Some ms ≡ as_object d
    → has_members names d ≡ pointwise bytes_eq (names_in ms) names
has_members-object (object ns) ms names e = let same : ms ≡ ns = cc in ap (λ x. pointwise bytes_eq (names_in x) names) (sym same)
has_members-object null ms names e = cc
has_members-object (boolean b) ms names e = cc
has_members-object (number n) ms names e = cc
has_members-object (string s) ms names e = cc
has_members-object (array ds) ms names e = cc

pub has_only-object : (d : Data) (ms : Members) (names : List (List ℕ)) → Some ms ≡ as_object d
    → has_only names d ≡ list_all (λ name. list_any (bytes_eq name) names) (names_in ms)
has_only-object (object ns) ms names e =
    let same : ms ≡ ns = cc in
    ap (λ x. list_all (λ name. list_any (bytes_eq name) names) (names_in x)) (sym same)
has_only-object null ms names e = cc
has_only-object (boolean b) ms names e = cc
has_only-object (number n) ms names e = cc
has_only-object (string s) ms names e = cc
has_only-object (array ds) ms names e = cc

pub list_any-map : {X Y : Type 0} (p : X → Bool) (f : Y → X) (ys : List Y) → list_any p (map f ys) ≡ list_any (λ y. p (f y)) ys
list_any-map p f [] = refl
list_any-map p f (y ∷ ys) = ap (λ b. p (f y) || b) (list_any-map p f ys)
