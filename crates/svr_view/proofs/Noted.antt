-- A view after a change was noted stands for the tables after it, and the moves are those of all documents.
use Rattle.std.proofs.Common.{◌≡◌, ◌≢◌, ℕ, ◌<◌, ◌==◌, ◌||◌, Bool, true, false, not, cond, List, [], ◌∷◌, length}
use Rattle.std.proofs.Common.{Option, Some, None, option_map, slice_get, refl, sym, ap, ap₂, ◌∙◌, subst, arith, if◌then◌else◌}
use Rattle.std.proofs.Common.{Result, Ok, Err, OnOk, IfOk}
use Rattle.std.proofs.lemmas.Result.{IfOk-weaker}
use Rattle.std.specs.List.{filter_map, list_any}
use Rattle.std.specs.List.Sorted.{IsStrictlyIncreasing}
use Rattle.std.proofs.lemmas.Bool.Decides.{nat_tests}
use Rattle.std.proofs.lemmas.Option.{get_or_from_slice_get, slice_get_within}
use Rattle.svr_groups.specs.Groups.{values_at}
use Rattle.svr_groups.specs.Values.{ascending_values}
use Rattle.svr_rows.specs.declared.change.Change.{Change}
use Rattle.svr_rows.specs.declared.change.Change.TheVariants.{Insert, Update, Delete}
use Rattle.svr_rows.specs.declared.row.Row.{Row}
use Rattle.svr_rows.specs.Changes.{changed, refusal_of, row_before, table_of}
use Rattle.svr_rows.specs.Rows.{TableRows, id_of, row_at, rows_in, with_row, without_row}
use Rattle.svr_rows.proofs.ById.{with_row-cases, with_row-none}
use Rattle.svr_rows.proofs.Laws.{rows_in-with_rows}
use Rattle.svr_schema.specs.declared.component.Component.{Component}
use Rattle.svr_schema.specs.declared.component.Component.TheVariants.{Own, Over}
use Rattle.svr_schema.specs.declared.schema.Schema.{Schema}
use Rattle.svr_schema.specs.Lawful.{IsComponent}
use Rattle.svr_view.specs.declared.score_move.ScoreMove.{ScoreMove}
use Rattle.svr_view.specs.Layout.{AllUntouched, NotesCounted, NotesIds, Recounts, SetsScores, id_changed, row_after, score_at_id, score_by}
use Rattle.svr_view.specs.Layout.{with_values, without_values}
use Rattle.svr_view.specs.Score.{counted, counted_values, score_at, score_of}
use Rattle.svr_view.specs.View.{AreMoves, AreTablesOf, StandsFor, Viewed, move_of, score_in}
use Rattle.svr_view.proofs.Moved.{AreMoves-told}
use Rattle.svr_view.proofs.Recounted.{place_changed, rows-apart, values-after}
use Rattle.svr_view.proofs.Scored.{option_map-same, score_by-same, score_by-score_of, scores-agree}

-- ---- a look-up after a change

same_here : (a b : Bool) (row r : Row) (rest : Option Row) → b ≡ a
    → cond a (Some row) rest ≡ cond a (Some row) (cond b (Some r) rest)
same_here true b row r rest e = refl
same_here false b row r rest e = ap (λ d. cond d (Some r) rest) (sym e)

above_step : (a b : Bool) (row r : Row) (rest : Option Row) → (b ≡ true → a ≡ false)
    → cond b (Some r) (cond a (Some row) rest) ≡ cond a (Some row) (cond b (Some r) rest)
above_step a false row r rest h = refl
above_step a true row r rest h = ap (λ d. cond d (Some row) (Some r)) (sym (h refl))

row_at-with_row : (rows : List Row) (row : Row) (id : ℕ) → row_at (with_row rows row) id ≡ cond (id_of row == id) (Some row) (row_at rows id)
row_at-with_row [] row id = ap (λ rs. row_at rs id) (with_row-none row)
row_at-with_row (r ∷ rows) row id =
    let Q : List Row → Type 0 = λ rs. row_at rs id ≡ cond (id_of row == id) (Some row) (row_at (r ∷ rows) id) in
    with_row-cases Q r row rows
    (λ below. refl)
    (λ same. same_here (id_of row == id) (id_of r == id) row r (row_at rows id) (ap (λ n. n == id) same))
    (λ above.
    ap (λ o. cond (id_of r == id) (Some r) o) (row_at-with_row rows row id)
    ∙ above_step (id_of row == id) (id_of r == id) row r (row_at rows id)
    (λ e. grind (arith, nat_tests, e, above)))

gone_same : (a b : Bool) (r : Row) (rest found : Option Row) → found ≡ cond b None rest → (b ≡ false → a ≡ false)
    → found ≡ cond b None (cond a (Some r) rest)
gone_same a true r rest found e h = e
gone_same a false r rest found e h = e ∙ ap (λ d. cond d (Some r) rest) (sym (h refl))

gone_other : (a b : Bool) (r : Row) (rest found : Option Row) → found ≡ cond b None rest → (b ≡ true → a ≡ false)
    → cond a (Some r) found ≡ cond b None (cond a (Some r) rest)
gone_other a false r rest found e h = ap (cond a (Some r)) e
gone_other a true r rest found e h = ap (λ d. cond d (Some r) found) (h refl) ∙ e

nothing : (b : Bool) (none : Option Row) → none ≡ cond b none none
nothing true none = refl
nothing false none = refl

gone_step : (r : Row) (rows : List Row) (id k : ℕ) (b : Bool) → (id_of r == id) ≡ b
    → row_at (without_row rows id) k ≡ cond (id == k) None (row_at rows k)
    → row_at (cond (not b) (r ∷ without_row rows id) (without_row rows id)) k ≡ cond (id == k) None (row_at (r ∷ rows) k)
gone_step r rows id k true e rest =
    gone_same (id_of r == k) (id == k) r (row_at rows k) (row_at (without_row rows id) k) rest
    (λ other. grind (arith, nat_tests, e, other))
gone_step r rows id k false e rest =
    gone_other (id_of r == k) (id == k) r (row_at rows k) (row_at (without_row rows id) k) rest
    (λ same. grind (arith, nat_tests, e, same))

row_at-without_row : (rows : List Row) (id k : ℕ) → row_at (without_row rows id) k ≡ cond (id == k) None (row_at rows k)
row_at-without_row [] id k = nothing (id == k) None
row_at-without_row (r ∷ rows) id k = gone_step r rows id k (id_of r == id) refl (row_at-without_row rows id k)

pub row_at-changed : (tables : List TableRows) (change : Change) (k : ℕ) → table_of change < length tables
    → row_at (rows_in (changed tables change) (table_of change)) k
    ≡ cond (id_changed change == k) (row_after change) (row_at (rows_in tables (table_of change)) k)
row_at-changed tables (Insert at row) k within =
    ap (λ rs. row_at rs k) (rows_in-with_rows tables at (with_row (rows_in tables at) row) within) ∙ row_at-with_row (rows_in tables at) row k
row_at-changed tables (Update at row) k within =
    ap (λ rs. row_at rs k) (rows_in-with_rows tables at (with_row (rows_in tables at) row) within) ∙ row_at-with_row (rows_in tables at) row k
row_at-changed tables (Delete at id) k within =
    ap (λ rs. row_at rs k) (rows_in-with_rows tables at (without_row (rows_in tables at) id) within)
    ∙ row_at-without_row (rows_in tables at) id k

-- ---- choices

choose : {A : Type 0} (b : Bool) (x y z : A) → (b ≡ true → x ≡ z) → (b ≡ false → y ≡ z) → (if b then x else y) ≡ z
choose true x y z h k = h refl
choose false x y z h k = k refl

module _ (s : Schema) (tables : List TableRows) (change : Change) (of : AreTablesOf s tables) (accepted : refusal_of tables change ≡ None)
    (v w : Viewed) (stands : StandsFor s tables v) where
  after : List TableRows
  after = changed tables change

  before_by : (row : Row) → score_by s v.groups row ≡ score_of s tables row
  before_by row = score_by-score_of s tables v.groups row stands.values

  -- ---- a row of another table than the documents'

  module _ (apart : table_of change ≢ s.text_table) (moves : List ScoreMove)
      (recounts : Recounts s.components (table_of change) (row_before tables change) (row_after change) v.groups w.groups)
      (counted : NotesCounted s.components (table_of change) (row_before tables change) (row_after change) v w
      (λ id. option_map (score_by s w.groups) (row_at (rows_in tables s.text_table) id)) moves) where
    values_now : (c : ℕ) (component : Component) → slice_get s.components c ≡ Some component
        → (id : ℕ) → values_at w.groups c id ≡ ascending_values (counted_values (changed tables change) component id)
    values_now = values-after tables change of.rows accepted s v stands w.groups recounts

    documents_same : rows_in (changed tables change) s.text_table ≡ rows_in tables s.text_table
    documents_same = rows-apart tables change s.text_table (λ same. apart (sym same))

    now_by : (row : Row) → score_by s w.groups row ≡ score_of s (changed tables change) row
    now_by row = score_by-score_of s (changed tables change) w.groups row values_now

    told_now : (id : ℕ) → option_map (score_by s w.groups) (row_at (rows_in tables s.text_table) id) ≡ score_at s (changed tables change) id
    unfolding score_at
    told_now id =
        option_map-same (score_by s w.groups) (score_of s (changed tables change)) (row_at (rows_in tables s.text_table) id) now_by
        ∙ ap (λ rows. option_map (score_of s (changed tables change)) (row_at rows id)) (sym documents_same)

    -- the values of a document for which neither row counts stay
    values_same : (id : ℕ) → AllUntouched s.components (table_of change) (row_before tables change) (row_after change) id
        → (c : ℕ) (component : Component) → slice_get s.components c ≡ Some component → values_at v.groups c id ≡ values_at w.groups c id
    values_same id untouched c component at =
        let none = untouched c component at in
        sym (recounts.values c component at id
        ∙ ap₂ (λ us vs. without_values us (with_values vs (values_at v.groups c id))) none.old_none none.new_none)

    stays : (id : ℕ) → list_any (λ k. k == id) counted.ids ≡ false → score_at s tables id ≡ score_at s (changed tables change) id
    unfolding score_at
    stays id none =
        scores-agree (score_of s tables) (score_of s (changed tables change)) (rows_in tables s.text_table) id
        (λ row same.
        sym (before_by row)
        ∙ score_by-same s v.groups w.groups row
        (λ c component at. subst (λ n. values_at v.groups c n ≡ values_at w.groups c n) (sym same)
        (values_same id (counted.complete id none) c component at))
        ∙ now_by row)
        ∙ ap (λ rows. option_map (score_of s (changed tables change)) (row_at rows id)) (sym documents_same)

    pub counted-stands : StandsFor s (changed tables change) w
    counted-stands = record {
      as_many = recounts.as_many ∙ stands.as_many;
      values = values_now;
      scores = λ id.
          counted.notes.scores id
          ∙ choose (list_any (λ k. k == id) counted.ids) _ _ (score_at s (changed tables change) id)
          (λ _. told_now id) (λ none. stands.scores id ∙ stays id none);
    }

    pub counted-moves : AreMoves (score_at s tables) (score_at s (changed tables change)) moves
    counted-moves =
        AreMoves-told (score_at s tables) (score_at s (changed tables change)) (score_in v)
        (λ id. option_map (score_by s w.groups) (row_at (rows_in tables s.text_table) id)) counted.ids moves counted.notes.ascending
        stays stands.scores (λ id _. told_now id) counted.notes.moved

  -- ---- a document

  module _ (here : table_of change ≡ s.text_table) (moves : List ScoreMove) (same : w.groups ≡ v.groups)
      (notes : NotesIds v w (id_changed change ∷ []) (λ _. option_map (score_by s v.groups) (row_after change)) moves) where
    component_at : (c : ℕ) (component : Component) → slice_get s.components c ≡ Some component → IsComponent s.tables s.text_table component
    component_at c component at =
        subst (IsComponent s.tables s.text_table) (get_or_from_slice_get s.components c component component at)
        (of.lawful.components c component (slice_get_within s.components c component at))

    counted_same : (component : Component) → IsComponent s.tables s.text_table component → (id : ℕ)
        → counted_values tables component id ≡ counted_values (changed tables change) component id
    counted_same (Own column weight) lawful id = refl
    counted_same (Over how table by column weight empty f) lawful id =
        ap (λ rows. counted rows by column f id) (sym (rows-apart tables change table (λ e. lawful.other (e ∙ here))))

    values_then : (c : ℕ) (component : Component) → slice_get s.components c ≡ Some component
        → (id : ℕ) → values_at v.groups c id ≡ ascending_values (counted_values (changed tables change) component id)
    values_then c component at id =
        stands.values c component at id ∙ ap ascending_values (counted_same component (component_at c component at) id)

    then_by : (row : Row) → score_by s v.groups row ≡ score_of s (changed tables change) row
    then_by row = score_by-score_of s (changed tables change) v.groups row values_then

    found_then : (k : ℕ) → row_at (rows_in (changed tables change) s.text_table) k
        ≡ cond (id_changed change == k) (row_after change) (row_at (rows_in tables s.text_table) k)
    found_then k =
        subst (λ at. row_at (rows_in (changed tables change) at) k
        ≡ cond (id_changed change == k) (row_after change) (row_at (rows_in tables at) k)) here
        (row_at-changed tables change k (place_changed tables change accepted))

    now_at : (k : ℕ) → (id_changed change == k) ≡ true
        → option_map (score_by s v.groups) (row_after change) ≡ score_at s (changed tables change) k
    unfolding score_at
    now_at k e =
        option_map-same (score_by s v.groups) (score_of s (changed tables change)) (row_after change) then_by
        ∙ ap (option_map (score_of s (changed tables change)))
        (sym (found_then k ∙ ap (λ b. cond b (row_after change) (row_at (rows_in tables s.text_table) k)) e))

    stays_at : (k : ℕ) → (id_changed change == k) ≡ false → score_at s tables k ≡ score_at s (changed tables change) k
    unfolding score_at
    stays_at k e =
        option_map-same (score_of s tables) (score_of s (changed tables change)) (row_at (rows_in tables s.text_table) k)
        (λ row. sym (before_by row) ∙ then_by row)
        ∙ ap (option_map (score_of s (changed tables change)))
        (sym (found_then k ∙ ap (λ b. cond b (row_after change) (row_at (rows_in tables s.text_table) k)) e))

    or_nothing : (b : Bool) → (b || false) ≡ b
    or_nothing true = refl
    or_nothing false = refl

    pub document-stands : StandsFor s (changed tables change) w
    document-stands = record {
      as_many = ap length same ∙ stands.as_many;
      values = λ c component at id. ap (λ groups. values_at groups c id) same ∙ values_then c component at id;
      scores = λ k.
          notes.scores k
          ∙ choose ((id_changed change == k) || false) _ _ (score_at s (changed tables change) k)
          (λ e. now_at k (sym (or_nothing (id_changed change == k)) ∙ e))
          (λ e. stands.scores k ∙ stays_at k (sym (or_nothing (id_changed change == k)) ∙ e));
    }

    pub document-moves : AreMoves (score_at s tables) (score_at s (changed tables change)) moves
    document-moves =
        AreMoves-told (score_at s tables) (score_at s (changed tables change)) (score_in v)
        (λ _. option_map (score_by s v.groups) (row_after change)) (id_changed change ∷ []) moves notes.ascending
        (λ k e. stays_at k (sym (or_nothing (id_changed change == k)) ∙ e)) stands.scores
        (λ k e. now_at k (sym (or_nothing (id_changed change == k)) ∙ e)) notes.moved

-- ---- the same as the code has it

row_before-is : (tables : List TableRows) (change : Change)
    → row_before tables change ≡ row_at (rows_in tables (table_of change)) (id_changed change)
row_before-is tables (Insert at row) = refl
row_before-is tables (Update at row) = refl
row_before-is tables (Delete at id) = refl

-- the table of a change, its id, and the rows before and after, by the names that they have in the code
pub record IsExchange (tables : List TableRows) (change : Change) (table id : ℕ) (old new : Option Row) : Type 0 where
  pub table_is : table ≡ table_of change
  pub id_is : id ≡ id_changed change
  pub old_is : old ≡ row_at (rows_in tables table) id
  pub new_is : new ≡ row_after change

module _ (tables : List TableRows) (change : Change) (table id : ℕ) (old new : Option Row) (is : IsExchange tables change table id old new)
  where
    pub told_before : old ≡ row_before tables change
    told_before =
        is.old_is ∙ ap₂ (λ at k. row_at (rows_in tables at) k) is.table_is is.id_is ∙ sym (row_before-is tables change)

    pub told : (P : ℕ → Option Row → Option Row → Type 0) → P table old new → P (table_of change) (row_before tables change) (row_after change)
    told P h =
        subst (λ at. P at (row_before tables change) (row_after change)) is.table_is
        (subst (λ o. P table o (row_after change)) told_before (subst (P table old) is.new_is h))

on_ok_both : {T E P R : Type 0} (r : Result T E) (Q : T → Type 0) → OnOk r P → IfOk r Q → ((x : T) → P → Q x → R) → OnOk r R
on_ok_both (Ok x) Q p q f = f x p q
on_ok_both (Err e) Q p q f = tt

on_ok_from : {T E R : Type 0} (r : Result T E) (Q : T → Type 0) → IfOk r Q → ((x : T) → Q x → R) → OnOk r R
on_ok_from (Ok x) Q q f = f x q
on_ok_from (Err e) Q q f = tt

if_ok_both : {T E P : Type 0} (r : Result T E) (Q R : T → Type 0) → OnOk r P → IfOk r Q → ((x : T) → P → Q x → R x) → IfOk r R
if_ok_both (Ok x) Q R p q f = f x p q
if_ok_both (Err e) Q R p q f = tt

module _ {E : Type 0} (s : Schema) (tables : List TableRows) (change : Change) (of : AreTablesOf s tables)
    (accepted : refusal_of tables change ≡ None) (v w : Viewed) (stands : StandsFor s tables v) (table id : ℕ) (old new : Option Row)
    (is : IsExchange tables change table id old new) (r : Result (List ScoreMove) E) where
  module _ (apart : table ≢ s.text_table) (recounts : OnOk r (Recounts s.components table old new v.groups w.groups))
      (counted : IfOk r (NotesCounted s.components table old new v w
      (λ id. option_map (score_by s w.groups) (row_at (rows_in tables s.text_table) id)))) where
    other : table_of change ≢ s.text_table
    other same = apart (is.table_is ∙ same)

    abbrev score_now : ℕ → Option ℕ
    score_now k = option_map (score_by s w.groups) (row_at (rows_in tables s.text_table) k)

    pub counted-note-stands : OnOk r (StandsFor s (changed tables change) w)
    counted-note-stands = on_ok_both r (NotesCounted s.components table old new v w score_now) recounts counted
        (λ moves a b.
        counted-stands s tables change of accepted v w stands other moves
        (told tables change table id old new is (λ t o n. Recounts s.components t o n v.groups w.groups) a)
        (told tables change table id old new is (λ t o n. NotesCounted s.components t o n v w score_now moves) b))

    pub counted-note-moves : IfOk r (AreMoves (score_at s tables) (score_at s (changed tables change)))
    counted-note-moves = if_ok_both r (NotesCounted s.components table old new v w score_now) _ recounts counted
        (λ moves a b.
        counted-moves s tables change of accepted v w stands other moves
        (told tables change table id old new is (λ t o n. Recounts s.components t o n v.groups w.groups) a)
        (told tables change table id old new is (λ t o n. NotesCounted s.components t o n v w score_now moves) b))

-- ---- a document, as the code has it

module _ {E : Type 0} (s : Schema) (tables : List TableRows) (change : Change) (of : AreTablesOf s tables)
    (accepted : refusal_of tables change ≡ None) (v w : Viewed) (stands : StandsFor s tables v) (table id : ℕ) (new : Option Row)
    (here : table_of change ≡ s.text_table) (id_is : id ≡ id_changed change) (new_is : new ≡ row_after change)
    (r : Result (List ScoreMove) E) (same : w.groups ≡ v.groups)
    (notes : IfOk r (NotesIds v w (id ∷ []) (λ _. option_map (score_by s v.groups) new))) where
  notes_told : (moves : List ScoreMove) → NotesIds v w (id ∷ []) (λ _. option_map (score_by s v.groups) new) moves
      → NotesIds v w (id_changed change ∷ []) (λ _. option_map (score_by s v.groups) (row_after change)) moves
  notes_told moves h =
      subst (λ k. NotesIds v w (k ∷ []) (λ _. option_map (score_by s v.groups) (row_after change)) moves) id_is
      (subst (λ o. NotesIds v w (id ∷ []) (λ _. option_map (score_by s v.groups) o) moves) new_is h)

  pub document-note-stands : OnOk r (StandsFor s (changed tables change) w)
  document-note-stands = on_ok_from r (NotesIds v w (id ∷ []) (λ _. option_map (score_by s v.groups) new)) notes
      (λ moves h. document-stands s tables change of accepted v w stands here moves same (notes_told moves h))

  pub document-note-moves : IfOk r (AreMoves (score_at s tables) (score_at s (changed tables change)))
  document-note-moves = IfOk-weaker r (NotesIds v w (id ∷ []) (λ _. option_map (score_by s v.groups) new)) _
      (λ moves h. document-moves s tables change of accepted v w stands here moves same (notes_told moves h)) notes

-- notes by the scores that the code keeps
pub NotesIds-told : (before after : Viewed) (old new : List (ℕ × ℕ)) (ids : List ℕ) (score : ℕ → Option ℕ) (moves : List ScoreMove)
    → old ≡ before.scores → new ≡ after.scores → IsStrictlyIncreasing ids → SetsScores old new ids score
    → moves ≡ filter_map (λ id. move_of id (score_at_id old id) (score id)) ids → NotesIds before after ids score moves
NotesIds-told before after old new ids score moves olds news ascend sets moved = record {
  ascending = ascend;
  scores = subst (λ o. SetsScores o after.scores ids score) olds (subst (λ n. SetsScores old n ids score) news sets);
  moved = subst (λ o. moves ≡ filter_map (λ id. move_of id (score_at_id o id) (score id)) ids) olds moved;
}
