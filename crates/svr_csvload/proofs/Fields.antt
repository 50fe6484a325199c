-- What the fields of a record make, from the front on.
use Rattle.std.proofs.Common.{◌≡◌, ◌≢◌, ◌<◌, ◌≤◌, ◌+◌, ℕ, zero, suc, Bool, true, false, List, [], ◌∷◌, ◌++◌}
use Rattle.std.proofs.Common.{length, map, drop, Option, Some, None, option_map, get_or, append_assoc, refl, sym, ap, arith, add-one}
use Rattle.std.specs.Option.{IsSome}
use Rattle.std.specs.Str.{IsUtf8, is_utf8}
use Rattle.std.proofs.lemmas.Str.{IsUtf8-from_is_utf8}
use Rattle.std.proofs.lemmas.List.{drop_all}
use Rattle.csv.specs.Records.{field_at}
use Rattle.csv.proofs.RecordFacts.{field-there}
use Rattle.svr_schema.specs.declared.component.Cell.{Cell}
use Rattle.svr_schema.specs.declared.table.ColumnKind.{ColumnKind}
use Rattle.svr_schema.specs.declared.table.Column.{Column}
use Rattle.svr_csvload.specs.Blocks.{cells_in, field_cell, in_front}

not_true : (b : Bool) → (b ≡ true → ⊥) → b ≡ false
not_true true h = absurd (h refl)
not_true false h = refl

pub is_utf8-not : (bytes : List ℕ) → (IsUtf8 bytes → ⊥) → is_utf8 bytes ≡ false
is_utf8-not bytes h = not_true (is_utf8 bytes) (λ e. h (IsUtf8-from_is_utf8 bytes e))

abbrev pub kind_in : Column → ColumnKind
kind_in c = c.kind

pub IsSome-field : {A : Type 0} (read : A → List ℕ) (found : Option A) (fields : List (List ℕ)) (i : ℕ)
    → option_map read found ≡ field_at fields i → i < length fields → IsSome found
IsSome-field read None fields i e within = absurd (field-there fields i within (sym e))
IsSome-field read (Some x) fields i e within = refl

none_in_front : (o : Option Cell) → None ≡ in_front o None
none_in_front None = refl
none_in_front (Some c) = refl

pub cells_in-lengths : (kinds : List ColumnKind) (fields : List (List ℕ)) → length fields ≢ length kinds → None ≡ cells_in kinds fields
unfolding cells_in
cells_in-lengths [] [] h = absurd (h refl)
cells_in-lengths [] (f ∷ fields) h = refl
cells_in-lengths (k ∷ kinds) [] h = refl
cells_in-lengths (k ∷ kinds) (f ∷ fields) h =
    rw (← cells_in-lengths kinds fields (λ e. h (ap suc e))) (none_in_front (field_cell k f))

pub cells_in-last : (kinds : List ColumnKind) (fields : List (List ℕ)) (i : ℕ) → length fields ≡ length kinds → length kinds ≤ i
    → cells_in (drop i kinds) (drop i fields) ≡ Some []
unfolding cells_in
cells_in-last kinds fields i e h = rw (drop_all i kinds h, drop_all i fields (omega arith)) refl

pub cells_in-at : (columns : List Column) (fields : List (List ℕ)) (i : ℕ) (column : Column) (f : List ℕ)
    → i < length columns → column ≡ get_or columns i column → Some f ≡ field_at fields i
    → cells_in (drop i (map kind_in columns)) (drop i fields)
    ≡ in_front (field_cell column.kind f) (cells_in (drop (i + 1) (map kind_in columns)) (drop (i + 1) fields))
unfolding cells_in field_at
cells_in-at [] fields i column f h e g = absurd (omega (arith, h))
cells_in-at (c ∷ columns) [] i column f h e g = cc
cells_in-at (c ∷ columns) (f0 ∷ fields) zero column f h e g = let t : f ≡ f0 = cc in rw (e, t) refl
cells_in-at (c ∷ columns) (f0 ∷ fields) (suc i) column f h e g =
    rw add-one (rw add-one at (cells_in-at columns fields i column f (omega (arith, h)) e g))

-- cells in front of those of the rest
abbrev pub behind : List Cell → Option (List Cell) → Option (List Cell)
behind cells more = option_map (λ rest. cells ++ rest) more

pub behind-start : (o : Option (List Cell)) → o ≡ behind [] o
behind-start None = refl
behind-start (Some cells) = refl

pub behind-none : (cells : List Cell) (more : Option (List Cell)) (o : Option Cell) → o ≡ None → None ≡ behind cells (in_front o more)
behind-none cells more o e = rw e refl

pub behind-more : (cells : List Cell) (c : Cell) (more : Option (List Cell))
    → behind cells (in_front (Some c) more) ≡ behind (cells ++ c ∷ []) more
behind-more cells c None = refl
behind-more cells c (Some more) = ap Some (sym (append_assoc cells (c ∷ []) more))
