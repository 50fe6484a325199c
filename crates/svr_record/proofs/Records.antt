-- A record has one body: what is read is a record with this body, and what is written is read again.
use Rattle.std.proofs.Common.{◌≡◌, ℕ, zero, suc, ◌*◌, ◌^◌, ◌<◌, ◌≤◌, ◌&&◌, ◌||◌, Bool, true, false, cond, eqb, ltb, ℤ, pos, negsuc}
use Rattle.std.proofs.Common.{List, [], ◌∷◌, ◌++◌, length, Option, Some, None, Result}
use Rattle.std.proofs.Common.{Ok, Err, refl, sym, ap, subst, ◌∙◌, append_assoc, arith}
use Rattle.std.specs.Prelude.{IfOk, FitsSigned}
use Rattle.std.specs.Int.{cast_signed, cast_unsigned, w16, w32, w64, to_be_bytes}
use Rattle.std.specs.List.{flat_map}
use Rattle.std.proofs.lemmas.Bool.{and_parts, ltb-false, ltb-true, le-ltb, lt-ltb, eqb-true}
use Rattle.std.proofs.lemmas.Bool.Decides.{nat_tests}
use Rattle.std.proofs.lemmas.Int.{ints, of_z-to_z, to_z-of_z}
use Rattle.std.proofs.lemmas.List.{append-nil, nil_from_length}
use Rattle.svr_schema.specs.declared.component.Cell.{Cell}
use Rattle.svr_schema.specs.declared.component.Cell.TheVariants as cell
use Rattle.svr_rows.specs.declared.change.Change.{Change}
use Rattle.svr_rows.specs.declared.change.Change.TheVariants as change
use Rattle.svr_rows.specs.declared.row.Row.{Row}
use Rattle.svr_rows.specs.Rows.{HasId}
use Rattle.svr_record.specs.declared.fault.RecordFault.{RecordFault}
use Rattle.svr_record.specs.declared.record.Record.{Record}
use Rattle.svr_record.specs.declared.record.Record.TheVariants as kind
use Rattle.svr_record.specs.declared.record.TermPages.{TermPages}
use Rattle.svr_record.specs.Bodies.{body_of, cell_body, change_body, flag, row_body, term_body}
use Rattle.svr_record.specs.Grammar.{alone, begins_with_id, change_in, delete_in, id_in, insert_in, is_end, load_in}
use Rattle.svr_record.specs.Grammar.{record_in, record_of, row_in, row_of, schema_in, slice_in, slice_of, update_in}
use Rattle.svr_record.specs.Limits.{IsCell, IsChange, IsRecord, IsRow, IsSlice, IsTerm, page_count}
use Rattle.svr_record.specs.Reading.{◌>>=◌, Gives, cell_at, int_cell_at, many_at, number_at, term_at, text_at, text_cell_at}
use Rattle.svr_record.proofs.Parts.{IsBytes, IsBytes-rest, Takes, Takes-then, bind_some, kept, some_is, taken}
use Rattle.svr_record.proofs.Parts.{many_again, many_takes, number_again, number_takes, text_again, text_takes, wide16, wide32, wide64}

-- ---- cells

fits_signed : (n : ℕ) → n < 2 ^ 64 → FitsSigned w64 (cast_signed w64 n)
fits_signed n lt = omega (arith, ints)

int_cell_takes : (bytes : List ℕ) (x : Cell × List ℕ) → IsBytes bytes → int_cell_at bytes ≡ Some x
    → Takes (0 ∷ bytes) (cell_body x.0) x.1 × IsCell x.0
unfolding int_cell_at
int_cell_takes bytes x fits e =
    let b = bind_some (number_at w64 bytes) (λ n. Some (cell.Int (cast_signed w64 n.0), n.1)) x e in
    let t = number_takes w64 (2 ^ 64) wide64 bytes b.0 fits b.1 in
    let back : cast_unsigned w64 (cast_signed w64 b.0.0) ≡ b.0.0 = of_z-to_z w64 b.0.0 t.1 in
    let made : Cell × List ℕ = (cell.Int (cast_signed w64 b.0.0), b.0.1) in
    let spelled : 0 ∷ bytes ≡ cell_body made.0 ++ made.1 =
    ap (λ (bs : List ℕ). 0 ∷ bs) (t.0.parts ∙ ap (λ (k : ℕ). to_be_bytes w64 k ++ b.0.1) (sym back)) in
    subst (λ (y : Cell × List ℕ). Takes (0 ∷ bytes) (cell_body y.0) y.1 × IsCell y.0) (some_is made x b.2)
    (record { parts = spelled; rest_fits = t.0.rest_fits }, fits_signed b.0.0 t.1)

text_cell_takes : (bytes : List ℕ) (x : Cell × List ℕ) → IsBytes bytes → text_cell_at bytes ≡ Some x
    → Takes (1 ∷ bytes) (cell_body x.0) x.1 × IsCell x.0
unfolding text_cell_at
text_cell_takes bytes x fits e =
    let b = bind_some (number_at w32 bytes)
    (λ n. cond (ltb 65536 n.0) None (text_at n.0 n.1 >>= λ text. Some (cell.Text text.0, text.1))) x e in
    let g = kept (ltb 65536 b.0.0) (text_at b.0.0 b.0.1 >>= λ text. Some (cell.Text text.0, text.1)) x b.2 in
    let c = bind_some (text_at b.0.0 b.0.1) (λ text. Some (cell.Text text.0, text.1)) x g.1 in
    let t = number_takes w32 (2 ^ 32) wide32 bytes b.0 fits b.1 in
    let u = text_takes b.0.0 b.0.1 c.0 t.0.rest_fits c.1 in
    let both = Takes-then bytes (to_be_bytes w32 b.0.0) b.0.1 c.0.0 c.0.1 t.0 u.takes in
    let made : Cell × List ℕ = (cell.Text c.0.0, c.0.1) in
    let spelled : 1 ∷ bytes ≡ cell_body made.0 ++ made.1 =
    ap (λ (bs : List ℕ). 1 ∷ bs) (both.parts ∙ ap (λ (k : ℕ). (to_be_bytes w32 k ++ c.0.0) ++ c.0.1) (sym u.len)) in
    let few : b.0.0 ≤ 65536 = ltb-false _ _ g.0 in
    subst (λ (y : Cell × List ℕ). Takes (1 ∷ bytes) (cell_body y.0) y.1 × IsCell y.0) (some_is made x c.2)
    (record { parts = spelled; rest_fits = both.rest_fits }, record { few = omega (arith, few, u.len); utf8 = u.utf8 })

cell_takes : (bytes : List ℕ) (x : Cell × List ℕ) → IsBytes bytes → cell_at bytes ≡ Some x → Takes bytes (cell_body x.0) x.1 × IsCell x.0
unfolding cell_at
cell_takes [] x fits e = absurd cc
cell_takes (zero ∷ bytes) x fits e = int_cell_takes bytes x (IsBytes-rest 0 bytes fits) e
cell_takes (suc zero ∷ bytes) x fits e = text_cell_takes bytes x (IsBytes-rest 1 bytes fits) e
cell_takes (suc (suc n) ∷ bytes) x fits e = absurd cc

unsigned_fits : (n : ℤ) → FitsSigned w64 n → cast_unsigned w64 n < 2 ^ 64
unsigned_fits n fits = omega (arith, ints)

cell_again : (x : Cell) (rest : List ℕ) → IsCell x → cell_at (cell_body x ++ rest) ≡ Some (x, rest)
unfolding cell_at int_cell_at text_cell_at
cell_again (cell.Int n) rest fits =
    rw (number_again w64 (2 ^ 64) wide64 (cast_unsigned w64 n) rest (unsigned_fits n fits), to_z-of_z w64 n fits) refl
cell_again (cell.Text text) rest fits =
    let few : ltb 65536 (length text) ≡ false = le-ltb _ _ fits.few in
    ap (λ (bs : List ℕ). cell_at (1 ∷ bs)) (append_assoc (to_be_bytes w32 (length text)) text rest)
    ∙ rw (number_again w32 (2 ^ 32) wide32 (length text) (text ++ rest) (omega (arith, fits.few)), few, text_again text rest fits.utf8) refl

-- ---- terms

term_takes : (bytes : List ℕ) (x : TermPages × List ℕ) → IsBytes bytes → term_at bytes ≡ Some x
    → Takes bytes (term_body x.0) x.1 × IsTerm x.0
unfolding term_at
term_takes [] x fits e = absurd cc
term_takes (zero ∷ bytes) x fits e = absurd cc
term_takes (suc n ∷ bytes) x fits e =
    let a = bind_some (text_at (suc n) bytes)
    (λ term. number_at w32 term.1 >>= λ pages. Some (record { term = term.0; pages = pages.0 }, pages.1)) x e in
    let b = bind_some (number_at w32 a.0.1) (λ pages. Some (record { term = a.0.0; pages = pages.0 }, pages.1)) x a.2 in
    let t = text_takes (suc n) bytes a.0 (IsBytes-rest (suc n) bytes fits) a.1 in
    let u = number_takes w32 (2 ^ 32) wide32 a.0.1 b.0 t.takes.rest_fits b.1 in
    let both = Takes-then bytes a.0.0 a.0.1 (to_be_bytes w32 b.0.0) b.0.1 t.takes u.0 in
    let made : TermPages × List ℕ = (record { term = a.0.0; pages = b.0.0 }, b.0.1) in
    let spelled : suc n ∷ bytes ≡ term_body made.0 ++ made.1 =
    ap (λ (bs : List ℕ). suc n ∷ bs) both.parts ∙ ap (λ (k : ℕ). k ∷ ((a.0.0 ++ to_be_bytes w32 b.0.0) ++ b.0.1)) (sym t.len) in
    subst (λ (y : TermPages × List ℕ). Takes (suc n ∷ bytes) (term_body y.0) y.1 × IsTerm y.0) (some_is made x b.2) (
      record { parts = spelled; rest_fits = both.rest_fits },
      record { some = omega (arith, t.len); few = omega (arith, t.len, fits 0); utf8 = t.utf8; pages = u.1 },
    )

-- a term behind the number of its bytes
counted_again : (count : ℕ) (t : TermPages) (rest : List ℕ) → length t.term ≡ count → IsTerm t
    → term_at (count ∷ ((t.term ++ to_be_bytes w32 t.pages) ++ rest)) ≡ Some (t, rest)
unfolding term_at
counted_again zero t rest len fits = absurd (omega (arith, len, fits.some))
counted_again (suc n) t rest len fits =
    let text : text_at (suc n) (t.term ++ (to_be_bytes w32 t.pages ++ rest)) ≡ Some (t.term, to_be_bytes w32 t.pages ++ rest) =
    ap (λ (k : ℕ). text_at k (t.term ++ (to_be_bytes w32 t.pages ++ rest))) (sym len)
    ∙ text_again t.term (to_be_bytes w32 t.pages ++ rest) fits.utf8 in
    ap (λ (bs : List ℕ). term_at (suc n ∷ bs)) (append_assoc t.term (to_be_bytes w32 t.pages) rest)
    ∙ rw (text, number_again w32 (2 ^ 32) wide32 t.pages rest fits.pages) refl

term_again : (t : TermPages) (rest : List ℕ) → IsTerm t → term_at (term_body t ++ rest) ≡ Some (t, rest)
term_again t rest fits = counted_again (length t.term) t rest refl fits

-- ---- rows

begins : (cells : List Cell) → begins_with_id cells ≡ true → HasId (record { cells = cells })
begins [] e = absurd cc
begins (cell.Int (pos n) ∷ cells) e = (n, cells, refl)
begins (cell.Int (negsuc n) ∷ cells) e = absurd cc
begins (cell.Text text ∷ cells) e = absurd cc

begins_again : (row : Row) → HasId row → begins_with_id row.cells ≡ true
begins_again row has = ap begins_with_id has.2

ended : (bytes : List ℕ) → is_end bytes ≡ true → bytes ≡ []
ended bytes e = nil_from_length bytes (eqb-true _ _ e)

row_takes : (bytes : List ℕ) (row : Row) → IsBytes bytes → row_in bytes ≡ Some row → (bytes ≡ row_body row) × IsRow row
unfolding row_in
row_takes [] row fits e = absurd cc
row_takes (count ∷ bytes) row fits e =
    let g = kept (ltb 8 count) (many_at cell_at count bytes >>= row_of) row e in
    let a = bind_some (many_at cell_at count bytes) row_of row g.1 in
    let t = many_takes cell_at cell_body IsCell cell_takes count bytes a.0 (IsBytes-rest count bytes fits) a.1 in
    let h = taken (is_end a.0.1 && begins_with_id a.0.0) (Some (record { cells = a.0.0 })) row a.2 in
    let both = and_parts _ _ h.0 in
    let made : Row = record { cells = a.0.0 } in
    let spelled : count ∷ bytes ≡ row_body made =
    ap (λ (bs : List ℕ). count ∷ bs) (t.0.parts ∙ ap (λ (r : List ℕ). flat_map cell_body a.0.0 ++ r) (ended a.0.1 both.0)
    ∙ append-nil (flat_map cell_body a.0.0))
    ∙ ap (λ (k : ℕ). k ∷ flat_map cell_body a.0.0) (sym t.1) in
    let few : count ≤ 8 = ltb-false _ _ g.0 in
    subst (λ (y : Row). (count ∷ bytes ≡ row_body y) × IsRow y) (some_is made row h.1)
    (spelled, record { few = omega (arith, few, t.1); id = begins a.0.0 both.1; cells = t.2 })

row_again : (row : Row) → IsRow row → row_in (row_body row) ≡ Some row
unfolding row_in
row_again row fits =
    let few : ltb 8 (length row.cells) ≡ false = le-ltb _ _ fits.few in
    let cells : many_at cell_at (length row.cells) (flat_map cell_body row.cells) ≡ Some (row.cells, []) =
    ap (many_at cell_at (length row.cells)) (sym (append-nil (flat_map cell_body row.cells)))
    ∙ many_again cell_at cell_body IsCell cell_again row.cells [] fits.cells in
    rw (few, cells, begins_again row fits.id) refl

-- ---- changes

id_takes : (bytes : List ℕ) (id : ℕ) → IsBytes bytes → id_in bytes ≡ Some id → (bytes ≡ to_be_bytes w64 id) × (id < 2 ^ 63)
unfolding id_in
id_takes bytes id fits e =
    let a = bind_some (number_at w64 bytes) (λ x. cond (is_end x.1 && ltb x.0 (2 ^ 63)) (Some x.0) None) id e in
    let t = number_takes w64 (2 ^ 64) wide64 bytes a.0 fits a.1 in
    let h = taken (is_end a.0.1 && ltb a.0.0 (2 ^ 63)) (Some a.0.0) id a.2 in
    let both = and_parts _ _ h.0 in
    let low : a.0.0 < 2 ^ 63 = ltb-true _ _ both.1 in
    let spelled : bytes ≡ to_be_bytes w64 a.0.0 =
    t.0.parts ∙ ap (λ (r : List ℕ). to_be_bytes w64 a.0.0 ++ r) (ended a.0.1 both.0) ∙ append-nil (to_be_bytes w64 a.0.0) in
    subst (λ (y : ℕ). (bytes ≡ to_be_bytes w64 y) × (y < 2 ^ 63)) (some_is a.0.0 id h.1) (spelled, low)

id_again : (id : ℕ) → id < 2 ^ 63 → id_in (to_be_bytes w64 id) ≡ Some id
unfolding id_in
id_again id lt =
    let wide : id < 2 ^ 64 = omega (arith, lt) in
    let number : number_at w64 (to_be_bytes w64 id) ≡ Some (id, []) =
    ap (number_at w64) (sym (append-nil (to_be_bytes w64 id))) ∙ number_again w64 (2 ^ 64) wide64 id [] wide in
    let low : ltb id (2 ^ 63) ≡ true = lt-ltb id (2 ^ 63) lt in
    ap (λ (r : Option (ℕ × List ℕ)). r >>= λ x. cond (is_end x.1 && ltb x.0 (2 ^ 63)) (Some x.0) None) number
    ∙ ap (λ b. cond b (Some id) None) low

insert_takes : (table : ℕ) (bytes : List ℕ) (made : Change) → IsBytes bytes → insert_in table bytes ≡ Some made
    → (1 ∷ table ∷ bytes ≡ change_body made) × IsChange made
unfolding insert_in
insert_takes table bytes made fits e =
    let a = bind_some (row_in bytes) (λ row. Some (change.Insert table row)) made e in
    let t = row_takes bytes a.0 fits a.1 in
    subst (λ (y : Change). (1 ∷ table ∷ bytes ≡ change_body y) × IsChange y) (some_is (change.Insert table a.0) made a.2)
    (ap (λ (bs : List ℕ). 1 ∷ table ∷ bs) t.0, t.1)

update_takes : (table : ℕ) (bytes : List ℕ) (made : Change) → IsBytes bytes → update_in table bytes ≡ Some made
    → (2 ∷ table ∷ bytes ≡ change_body made) × IsChange made
unfolding update_in
update_takes table bytes made fits e =
    let a = bind_some (row_in bytes) (λ row. Some (change.Update table row)) made e in
    let t = row_takes bytes a.0 fits a.1 in
    subst (λ (y : Change). (2 ∷ table ∷ bytes ≡ change_body y) × IsChange y) (some_is (change.Update table a.0) made a.2)
    (ap (λ (bs : List ℕ). 2 ∷ table ∷ bs) t.0, t.1)

delete_takes : (table : ℕ) (bytes : List ℕ) (made : Change) → IsBytes bytes → delete_in table bytes ≡ Some made
    → (3 ∷ table ∷ bytes ≡ change_body made) × IsChange made
unfolding delete_in
delete_takes table bytes made fits e =
    let a = bind_some (id_in bytes) (λ id. Some (change.Delete table id)) made e in
    let t = id_takes bytes a.0 fits a.1 in
    subst (λ (y : Change). (3 ∷ table ∷ bytes ≡ change_body y) × IsChange y) (some_is (change.Delete table a.0) made a.2)
    (ap (λ (bs : List ℕ). 3 ∷ table ∷ bs) t.0, t.1)

change_takes : (bytes : List ℕ) (made : Change) → IsBytes bytes → change_in bytes ≡ Some made → (bytes ≡ change_body made) × IsChange made
unfolding change_in
change_takes [] made fits e = absurd cc
change_takes (how ∷ []) made fits e = absurd cc
change_takes (zero ∷ table ∷ bytes) made fits e = absurd cc
change_takes (suc zero ∷ table ∷ bytes) made fits e = insert_takes table bytes made (λ i. fits (suc (suc i))) e
change_takes (suc (suc zero) ∷ table ∷ bytes) made fits e = update_takes table bytes made (λ i. fits (suc (suc i))) e
change_takes (suc (suc (suc zero)) ∷ table ∷ bytes) made fits e = delete_takes table bytes made (λ i. fits (suc (suc i))) e
change_takes (suc (suc (suc (suc n))) ∷ table ∷ bytes) made fits e = absurd cc

change_again : (made : Change) → IsChange made → change_in (change_body made) ≡ Some made
unfolding change_in insert_in update_in delete_in
change_again (change.Insert table row) fits = rw (row_again row fits) refl
change_again (change.Update table row) fits = rw (row_again row fits) refl
change_again (change.Delete table id) fits = rw (id_again id fits) refl

-- ---- whole records

schema_takes : (text : List ℕ) (entry : Record) → schema_in text ≡ Some entry → (1 ∷ text ≡ body_of entry) × IsRecord entry
unfolding schema_in
schema_takes text entry e =
    let g = kept (is_end text || ltb 1048576 (length text)) (Some (kind.Schema text)) entry e in
    let some : 1 ≤ length text = grind (arith, nat_tests, g.0) in
    let few : length text ≤ 1048576 = grind (arith, nat_tests, g.0) in
    subst (λ (y : Record). (1 ∷ text ≡ body_of y) × IsRecord y) (some_is (kind.Schema text) entry g.1)
    (refl, record { some = some; few = few })

schema_again : (text : List ℕ) → 1 ≤ length text → length text ≤ 1048576 → schema_in text ≡ Some (kind.Schema text)
unfolding schema_in
schema_again text some few =
    let inside : (is_end text || ltb 1048576 (length text)) ≡ false = grind (arith, nat_tests, some, few) in
    rw inside refl

load_takes_as : (header : Bool) (byte table : ℕ) (block : List ℕ) (entry : Record) → byte ≡ flag header
    → cond (ltb 8388608 (length block)) None (Some (kind.Load table header block)) ≡ Some entry
    → (3 ∷ table ∷ byte ∷ block ≡ body_of entry) × IsRecord entry
load_takes_as header byte table block entry is e =
    let g = kept (ltb 8388608 (length block)) (Some (kind.Load table header block)) entry e in
    let few : length block ≤ 8388608 = ltb-false _ _ g.0 in
    subst (λ (y : Record). (3 ∷ table ∷ byte ∷ block ≡ body_of y) × IsRecord y) (some_is (kind.Load table header block) entry g.1)
    (ap (λ (k : ℕ). 3 ∷ table ∷ k ∷ block) is, few)

load_takes : (bytes : List ℕ) (entry : Record) → load_in bytes ≡ Some entry → (3 ∷ bytes ≡ body_of entry) × IsRecord entry
unfolding load_in
load_takes [] entry e = absurd cc
load_takes (table ∷ []) entry e = absurd cc
load_takes (table ∷ zero ∷ block) entry e = load_takes_as false 0 table block entry refl e
load_takes (table ∷ suc zero ∷ block) entry e = load_takes_as true 1 table block entry refl e
load_takes (table ∷ suc (suc n) ∷ block) entry e = absurd cc

load_again : (table : ℕ) (header : Bool) (block : List ℕ) → length block ≤ 8388608
    → load_in (table ∷ flag header ∷ block) ≡ Some (kind.Load table header block)
unfolding load_in
load_again table true block few = rw (le-ltb 8388608 (length block) few) refl
load_again table false block few = rw (le-ltb 8388608 (length block) few) refl

alone_takes : (first : ℕ) (made : Record) (bytes : List ℕ) (entry : Record) → body_of made ≡ first ∷ [] → IsRecord made
    → alone made bytes ≡ Some entry → (first ∷ bytes ≡ body_of entry) × IsRecord entry
alone_takes first made bytes entry body is e =
    let h = taken (is_end bytes) (Some made) entry e in
    subst (λ (y : Record). (first ∷ bytes ≡ body_of y) × IsRecord y) (some_is made entry h.1)
    (ap (λ (bs : List ℕ). first ∷ bs) (ended bytes h.0) ∙ sym body, is)

slice_takes : (bytes : List ℕ) (entry : Record) → IsBytes bytes → slice_in bytes ≡ Some entry → (5 ∷ bytes ≡ body_of entry) × IsRecord entry
unfolding slice_in
slice_takes bytes entry fits e =
    let a = bind_some (number_at w16 bytes) (λ n. cond (eqb n.0 0 || ltb 1000 n.0) None (many_at term_at n.0 n.1 >>= slice_of)) entry e in
    let g = kept (eqb a.0.0 0 || ltb 1000 a.0.0) (many_at term_at a.0.0 a.0.1 >>= slice_of) entry a.2 in
    let b = bind_some (many_at term_at a.0.0 a.0.1) slice_of entry g.1 in
    let h = taken (eqb (length b.0.1) (4096 * page_count b.0.0)) (Some (kind.Slice b.0.0 b.0.1)) entry b.2 in
    let t = number_takes w16 (2 ^ 16) wide16 bytes a.0 fits a.1 in
    let u = many_takes term_at term_body IsTerm term_takes a.0.0 a.0.1 b.0 t.0.rest_fits b.1 in
    let both = Takes-then bytes (to_be_bytes w16 a.0.0) a.0.1 (flat_map term_body b.0.0) b.0.1 t.0 u.0 in
    let made : Record = kind.Slice b.0.0 b.0.1 in
    let spelled : 5 ∷ bytes ≡ body_of made =
    ap (λ (bs : List ℕ). 5 ∷ bs) (both.parts ∙ append_assoc (to_be_bytes w16 a.0.0) (flat_map term_body b.0.0) b.0.1
    ∙ ap (λ (k : ℕ). to_be_bytes w16 k ++ (flat_map term_body b.0.0 ++ b.0.1)) (sym u.1)) in
    let some : 1 ≤ a.0.0 = grind (arith, nat_tests, g.0) in
    let few : a.0.0 ≤ 1000 = grind (arith, nat_tests, g.0) in
    subst (λ (y : Record). (5 ∷ bytes ≡ body_of y) × IsRecord y) (some_is made entry h.1)
    (spelled, record { some = omega (arith, some, u.1); few = omega (arith, few, u.1); each = u.2; whole = eqb-true _ _ h.0 })

eq_itself : (n m : ℕ) → n ≡ m → eqb n m ≡ true
eq_itself n m e = grind (arith, nat_tests, e)

slice_again : (terms : List TermPages) (pages : List ℕ) → IsSlice terms pages
    → slice_in (to_be_bytes w16 (length terms) ++ (flat_map term_body terms ++ pages)) ≡ Some (kind.Slice terms pages)
unfolding slice_in
slice_again terms pages fits =
    let some = fits.some in
    let few = fits.few in
    let inside : (eqb (length terms) 0 || ltb 1000 (length terms)) ≡ false = grind (arith, nat_tests, some, few) in
    rw (
      number_again w16 (2 ^ 16) wide16 (length terms) (flat_map term_body terms ++ pages) (omega (arith, few)),
      inside,
      many_again term_at term_body IsTerm term_again terms pages fits.each,
      eq_itself _ _ fits.whole,
    ) refl

record_takes_of : (first : ℕ) (bytes : List ℕ) (entry : Record) → IsBytes bytes → record_of first bytes ≡ Some entry
    → (first ∷ bytes ≡ body_of entry) × IsRecord entry
record_takes_of zero bytes entry fits e = absurd cc
record_takes_of (suc zero) bytes entry fits e = schema_takes bytes entry e
record_takes_of (suc (suc zero)) bytes entry fits e =
    let a = bind_some (change_in bytes) (λ made. Some (kind.Change made)) entry e in
    let t = change_takes bytes a.0 fits a.1 in
    subst (λ (y : Record). (2 ∷ bytes ≡ body_of y) × IsRecord y) (some_is (kind.Change a.0) entry a.2)
    (ap (λ (bs : List ℕ). 2 ∷ bs) t.0, t.1)
record_takes_of (suc (suc (suc zero))) bytes entry fits e = load_takes bytes entry e
record_takes_of (suc (suc (suc (suc zero)))) bytes entry fits e = alone_takes 4 kind.Begin bytes entry refl tt e
record_takes_of (suc (suc (suc (suc (suc zero))))) bytes entry fits e = slice_takes bytes entry fits e
record_takes_of (suc (suc (suc (suc (suc (suc zero)))))) bytes entry fits e = alone_takes 6 kind.Publish bytes entry refl tt e
record_takes_of (suc (suc (suc (suc (suc (suc (suc n))))))) bytes entry fits e = absurd cc

-- what is read is a record within the limits that has this body
pub record_in-found : (body : List ℕ) (entry : Record) → IsBytes body → record_in body ≡ Some entry
    → IsRecord entry × (body ≡ body_of entry)
unfolding record_in
record_in-found [] entry fits e = absurd cc
record_in-found (first ∷ bytes) entry fits e =
    let t = record_takes_of first bytes entry (IsBytes-rest first bytes fits) e in
    (t.1, t.0)

-- the body of a record within the limits says that record
pub record_in-body_of : (entry : Record) → IsRecord entry → record_in (body_of entry) ≡ Some entry
unfolding record_in
record_in-body_of (kind.Schema text) fits = schema_again text fits.some fits.few
record_in-body_of (kind.Change made) fits = rw (change_again made fits) refl
record_in-body_of (kind.Load table header block) fits = load_again table header block fits
record_in-body_of kind.Begin fits = refl
record_in-body_of (kind.Slice terms pages) fits = slice_again terms pages fits
record_in-body_of kind.Publish fits = refl

pub is_found : (body : List ℕ) (r : Result Record RecordFault) → IsBytes body → Gives (λ entry. entry) r (record_in body)
    → IfOk r (λ entry. IsRecord entry × (body ≡ body_of entry))
is_found body (Ok entry) fits given = record_in-found body entry fits given
is_found body (Err why) fits given = tt
