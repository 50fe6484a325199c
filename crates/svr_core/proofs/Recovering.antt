-- Records that are accepted behind what was recovered are accepted behind what was replayed.
use Rattle.std.proofs.Common.{◌≡◌, inl, inr, ℕ, Bool, true, false, List, [], ◌∷◌, ◌++◌, length, Option, Some, None, Result, Ok, Err}
use Rattle.std.proofs.Common.{◌+◌, cond, refl, sym, ap, ap₂, ◌∙◌, subst, append-nil, append_assoc}
use Rattle.std.specs.Prelude.{⊤, nat_lt}
use Rattle.std.specs.Option.{option_and_then, option_map}
use Rattle.serde_json.specs.Data.{Data}
use Rattle.svr_catalog.specs.Catalog.{Catalog, catalog_with}
use Rattle.svr_catalog.specs.Listed.{listed_after, listed_with_rows}
use Rattle.svr_csvload.specs.Blocks.{rows_in_block}
use Rattle.svr_listing.specs.Served as listing
use Rattle.svr_record.specs.declared.record.Record.{Record}
use Rattle.svr_record.specs.declared.record.Record.TheVariants as entry
use Rattle.svr_record.specs.Grammar.{record_in}
use Rattle.svr_request.specs.Requests.{value_in}
use Rattle.svr_request.specs.declared.refusal.Refusal.TheVariants as refusal
use Rattle.svr_rows.specs.Changes.{load_refusal, refusal_of}
use Rattle.svr_rows.specs.Rows.{kinds_in}
use Rattle.svr_rows.specs.declared.change.Change.{Change}
use Rattle.svr_rows.specs.declared.change.Change.TheVariants.{Insert}
use Rattle.svr_rows.specs.declared.change.RowRefusal.{RowRefusal}
use Rattle.svr_rows.specs.declared.row.Row.{Row}
use Rattle.svr_schema.specs.declared.schema.Schema.{Schema}
use Rattle.svr_schema.specs.Rules.{schema_in}
use Rattle.svr_core.specs.declared.plan.Edit.{Edit}
use Rattle.svr_core.specs.declared.plan.Edit.TheVariants as edit
use Rattle.svr_core.specs.Edits.{counted, edited, relisted, served_with, still_lawful}
use Rattle.svr_core.specs.Outcomes.{Outcome, block_outcome, by_rules, change_outcome, edits, entry_outcome, merges, merges_whole, placed_outcome, refused, rows_outcome}
use Rattle.svr_core.specs.Outcomes.{schema_outcome, searches, text_outcome, unless_bad_record, unless_refused, unless_row_refused, with_catalog}
use Rattle.svr_core.specs.Plans.{IsPlain}
use Rattle.svr_core.specs.Replay.{after_begin, after_body, after_record, recovered, replayed, served_after}
use Rattle.svr_core.specs.State.{IsWithMerge, Served, empty, settled}

-- ---- a record's edit is of rows or a schema

abbrev pub ComesToRows : Outcome → Type 0
ComesToRows (refused why) = ⊤
ComesToRows (searches terms m k) = ⊤
ComesToRows (edits e kept) = IsPlain e
ComesToRows (merges part) = ⊤
ComesToRows merges_whole = ⊤

rules_plain : (d : Data) (r : Result Schema ℕ) → ComesToRows (by_rules d r)
rules_plain d (Err n) = tt
rules_plain d (Ok s) = tt

schema_plain : (c : Option Catalog) (d : Data) → ComesToRows (schema_outcome c d)
schema_plain (Some c) d = tt
schema_plain None d = rules_plain d (schema_in d)

text_plain : (c : Option Catalog) (o : Option Data) → ComesToRows (text_outcome c o)
text_plain c None = tt
text_plain c (Some d) = schema_plain c d

unless_plain : (o : Option RowRefusal) (later : Outcome) → ComesToRows later → ComesToRows (unless_refused o later)
unless_plain (Some r) later h = tt
unless_plain None later h = h

row_plain : (o : Option (ℕ × RowRefusal)) (later : Outcome) → ComesToRows later → ComesToRows (unless_row_refused o later)
row_plain (Some r) later h = tt
row_plain None later h = h

bad_plain : (c : Catalog) (table : ℕ) (kept : Record) (r : Result (List Row) ℕ)
    → ComesToRows (unless_bad_record r (rows_outcome c table kept))
bad_plain c table kept (Err n) = tt
bad_plain c table kept (Ok rows) = row_plain (load_refusal c.tables table rows) (edits (edit.Load table rows) kept) tt

change_plain : (c : Option Catalog) (change : Change) → ComesToRows (with_catalog c (λ c. change_outcome c change))
change_plain None change = tt
change_plain (Some c) change = unless_plain (refusal_of c.tables change) (edits (edit.Change change) (entry.Change change)) tt

load_plain : (c : Option Catalog) (table : ℕ) (header : Bool) (block : List ℕ)
    → ComesToRows (with_catalog c (λ c. placed_outcome c table header block))
load_plain None table header block = tt
load_plain (Some c) table header block = by (nat_lt table (length c.schema.tables))
  where
    by : (b : Bool) → ComesToRows (cond b (block_outcome c table header block) (refused refusal.NoTable))
    by true = bad_plain c table (entry.Load table header block) (rows_in_block (kinds_in c.tables table) header block)
    by false = tt

pub entry_plain : (c : Option Catalog) (kept : Record) → ComesToRows (entry_outcome c kept)
unfolding entry_outcome
entry_plain c (entry.Schema text) = text_plain c (value_in text)
entry_plain c (entry.Change change) = change_plain c change
entry_plain c (entry.Load table header block) = load_plain c table header block
entry_plain c entry.Begin = tt
entry_plain c (entry.Slice terms pages) = tt
entry_plain c entry.Publish = tt

-- ---- it makes the same of both, beside the merge

abbrev unmerged : listing.Served → listing.Served
unmerged l = listing.after l listing.merge_forgotten

rows_unmerged : (c : Catalog) (l : listing.Served) (at : ℕ) (rows : List Row)
    → listed_with_rows c (unmerged l) at rows ≡ unmerged (listed_with_rows c l at rows)
unfolding listed_with_rows
rows_unmerged c l at [] = refl
rows_unmerged c l at (row ∷ rows) =
    rows_unmerged (catalog_with c (Insert at row)) (listed_after (catalog_with c (Insert at row)) l) at rows

relisted_unmerged : (set : Option Catalog) (l : listing.Served) (e : Edit) → IsPlain e
    → relisted set (unmerged l) e ≡ unmerged (relisted set l e)
relisted_unmerged set l (edit.Schema s) is = refl
relisted_unmerged None l (edit.Change change) is = refl
relisted_unmerged (Some c) l (edit.Change change) is = refl
relisted_unmerged None l (edit.Load at rows) is = refl
relisted_unmerged (Some c) l (edit.Load at rows) is = rows_unmerged c l at rows
relisted_unmerged set l edit.Begin is = absurd is
relisted_unmerged set l (edit.Slice terms pages at) is = absurd is
relisted_unmerged set l edit.Publish is = absurd is

still_unmerged : (s : Served) (e : Edit) → IsPlain e → still_lawful (settled s) e ≡ still_lawful s e
still_unmerged s (edit.Schema x) is = refl
still_unmerged s (edit.Change change) is = refl
still_unmerged s (edit.Load at rows) is = refl
still_unmerged s edit.Begin is = absurd is
still_unmerged s (edit.Slice terms pages at) is = absurd is
still_unmerged s edit.Publish is = absurd is

with_unmerged : (s : Served) (e : Edit) → IsPlain e → served_with (settled s) e ≡ settled (served_with s e)
with_unmerged s e is =
    ap₂ (λ (l : listing.Served) (b : Bool).
    record { catalog = edited s.catalog e; listed = l; changes = s.changes + counted e; lawful = b })
    (relisted_unmerged s.catalog s.listed e is) (still_unmerged s e is)

-- ---- a record more

-- the same option of what is served gives something, ahead of this
abbrev Behind : Option Served → Served → Type 0
Behind o x = (y : Served) × ((o ≡ Some y) × IsWithMerge y x)

outcome_ahead : (r x : Served) (o : Outcome) → ComesToRows o → served_after (settled r) o ≡ Some x → Behind (served_after r o) x
outcome_ahead r x (refused why) plain h = absurd (let e : None ≡ Some x = h in cc)
outcome_ahead r x (searches terms m k) plain h = absurd (let e : None ≡ Some x = h in cc)
outcome_ahead r x (edits made kept) plain h =
    let same : served_with (settled r) made ≡ x = let k : Some (served_with (settled r) made) ≡ Some x = h in cc in
    (served_with r made, (refl, inl (sym same ∙ with_unmerged r made plain)))
outcome_ahead r x (merges part) plain h = absurd (let e : None ≡ Some x = h in cc)
outcome_ahead r x merges_whole plain h = absurd (let e : None ≡ Some x = h in cc)

begun_same : (r : Served) (c : Catalog) → r.catalog ≡ Some c → served_with r edit.Begin ≡ served_with (settled r) edit.Begin
begun_same r c is =
    ap (λ (o : Option Catalog). record { catalog = r.catalog; listed = relisted o r.listed edit.Begin; changes = r.changes + 0; lawful = r.lawful }) is
    ∙ sym (ap (λ (o : Option Catalog).
    record { catalog = r.catalog; listed = relisted o (unmerged r.listed) edit.Begin; changes = r.changes + 0; lawful = r.lawful }) is)

begin_ahead : (r x : Served) → after_begin (settled r) ≡ Some x → Behind (after_begin r) x
begin_ahead r x h = by r.catalog refl h
  where
    by : (o : Option Catalog) → r.catalog ≡ o → option_map (λ _. served_with (settled r) edit.Begin) o ≡ Some x
        → Behind (option_map (λ _. served_with r edit.Begin) o) x
    by None is h = absurd (let e : None ≡ Some x = h in cc)
    by (Some c) is h =
        let same : served_with (settled r) edit.Begin ≡ x = let k : Some (served_with (settled r) edit.Begin) ≡ Some x = h in cc in
        (served_with r edit.Begin, (refl, inr (begun_same r c is ∙ same)))

record_ahead : (before : List (List ℕ)) (r x : Served) (kept : Record) → after_record before (settled r) kept ≡ Some x
    → Behind (after_record before r kept) x
record_ahead before r x (entry.Schema text) h =
    outcome_ahead r x (entry_outcome r.catalog (entry.Schema text)) (entry_plain r.catalog (entry.Schema text)) h
record_ahead before r x (entry.Change change) h =
    outcome_ahead r x (entry_outcome r.catalog (entry.Change change)) (entry_plain r.catalog (entry.Change change)) h
record_ahead before r x (entry.Load table header block) h =
    outcome_ahead r x (entry_outcome r.catalog (entry.Load table header block)) (entry_plain r.catalog (entry.Load table header block)) h
record_ahead before r x entry.Begin h = begin_ahead r x h
record_ahead before r x (entry.Slice terms pages) h = absurd (let e : None ≡ Some x = h in cc)
record_ahead before r x entry.Publish h = absurd (let e : None ≡ Some x = h in cc)

option_ahead : (before : List (List ℕ)) (r x : Served) (o : Option Record) → option_and_then (after_record before (settled r)) o ≡ Some x
    → Behind (option_and_then (after_record before r) o) x
option_ahead before r x None h = absurd (let e : None ≡ Some x = h in cc)
option_ahead before r x (Some kept) h = record_ahead before r x kept h

pub after_body-ahead : (before : List (List ℕ)) (r s x : Served) (body : List ℕ) → IsWithMerge r s → after_body before s body ≡ Some x
    → (y : Served) × ((after_body before r body ≡ Some y) × IsWithMerge y x)
after_body-ahead before r s x body (inl is) h =
    option_ahead before r x (record_in body) (subst (λ (s : Served). after_body before s body ≡ Some x) is h)
after_body-ahead before r s x body (inr is) h = (x, (ap (λ (s : Served). after_body before s body) is ∙ h, inr refl))

-- ---- all records

then_some : (o : Option Served) (f : Served → Option Served) (x : Served) → option_and_then f o ≡ Some x
    → (next : Served) × ((o ≡ Some next) × (f next ≡ Some x))
then_some None f x h = absurd (let e : None ≡ Some x = h in cc)
then_some (Some next) f x h = (next, (refl, h))

pub replayed-ahead : (before : List (List ℕ)) (r s x : Served) (bodies : List (List ℕ)) → IsWithMerge r s → replayed before s bodies ≡ Some x
    → (y : Served) × ((replayed before r bodies ≡ Some y) × IsWithMerge y x)
unfolding replayed
replayed-ahead before r s x [] is h =
    let same : s ≡ x = let e : Some s ≡ Some x = h in cc in
    (r, (refl, subst (λ (t : Served). IsWithMerge r t) same is))
replayed-ahead before r s x (body ∷ bodies) is h =
    let step = then_some (after_body before s body) (λ next. replayed (before ++ body ∷ []) next bodies) x h in
    let first = after_body-ahead before r s step.0 body is step.1.0 in
    let rest = replayed-ahead (before ++ body ∷ []) first.0 step.0 x bodies first.1.1 step.1.1 in
    (rest.0, (ap (option_and_then (λ next. replayed (before ++ body ∷ []) next bodies)) first.1.0 ∙ rest.1.0, rest.1.1))

pub replayed-append : (before : List (List ℕ)) (s now : Served) (bodies first : List (List ℕ)) → replayed before s bodies ≡ Some now
    → replayed before s (bodies ++ first) ≡ replayed (before ++ bodies) now first
unfolding replayed
replayed-append before s now [] first h =
    let same : s ≡ now = let e : Some s ≡ Some now = h in cc in
    ap (λ (t : Served). replayed before t first) same ∙ ap (λ (bs : List (List ℕ)). replayed bs now first) (sym (append-nil before))
replayed-append before s now (body ∷ bodies) first h =
    let step = then_some (after_body before s body) (λ next. replayed (before ++ body ∷ []) next bodies) now h in
    ap (option_and_then (λ next. replayed (before ++ body ∷ []) next (bodies ++ first))) step.1.0
    ∙ replayed-append (before ++ body ∷ []) step.0 now bodies first step.1.1
    ∙ ap (λ (bs : List (List ℕ)). replayed bs now first) (append_assoc before (body ∷ []) bodies)

pub settled_ahead : (y x : Served) → IsWithMerge y x → settled y ≡ settled x
settled_ahead y x (inl is) = sym (ap settled is)
settled_ahead y x (inr is) = ap settled is

-- each slice was the next one with the merge and without it
pub lawful_ahead : (y x : Served) → IsWithMerge y x → y.lawful ≡ x.lawful
lawful_ahead y x (inl is) = sym (ap (λ (s : Served). s.lawful) is)
lawful_ahead y x (inr is) = ap (λ (s : Served). s.lawful) is

pub IsWithMerge-trans : (z y x : Served) → IsWithMerge z y → IsWithMerge y x → IsWithMerge z x
IsWithMerge-trans z y x (inl h) (inl k) = inl (k ∙ ap settled h)
IsWithMerge-trans z y x (inl h) (inr k) = inl (sym k ∙ h)
IsWithMerge-trans z y x (inr h) (inl k) = inl (k ∙ ap settled (sym h))
IsWithMerge-trans z y x (inr h) (inr k) = inr (h ∙ k)

map_some : (o : Option Served) (s : Served) → option_map settled o ≡ Some s → (r : Served) × ((o ≡ Some r) × (settled r ≡ s))
map_some None s h = absurd (let e : None ≡ Some s = h in cc)
map_some (Some r) s h = (r, (refl, (let e : Some (settled r) ≡ Some s = h in cc)))

-- records that are accepted behind what was recovered are accepted behind the same records
pub recovered-behind : (bodies : List (List ℕ)) (s x : Served) (first : List (List ℕ)) → recovered bodies ≡ Some s
    → replayed bodies s first ≡ Some x → recovered (bodies ++ first) ≡ Some (settled x)
recovered-behind bodies s x first is h =
    let r = map_some (replayed [] empty bodies) s is in
    let on = replayed-ahead bodies r.0 s x first (inl (sym r.1.1)) h in
    ap (option_map settled) (replayed-append [] empty r.0 bodies first r.1.0 ∙ on.1.0) ∙ ap (λ (t : Served). Some t) (settled_ahead on.0 x on.1.1)
