use Rattle.std.proofs.Common.{◌≡◌, ℕ, List, Some, None, option_map, ap, sym, subst, ◌∙◌}
use Rattle.std.specs.Option.{IsSome}
use Rattle.std.proofs.lemmas.Result.{on_ok_weaker}
use Rattle.svr_idmap.specs.Ids.{value_at}
use Rattle.svr_lists.specs.Lists.{FollowsDocument, IsRewritten}
use Rattle.svr_rows.specs.Rows.{row_at, rows_in}
use Rattle.svr_view.proofs.Found.{HasId-read, text_within}
use Rattle.svr_catalog.specs.Catalog.{text_of}
use Rattle.svr_catalog.specs.Layout.{edited_in}
use Rattle.svr_catalog.proofs.Following.{IsEdit, edit-carries, edit-is, edit-listed, edit-there, edited-row, text-carries}
use Rattle.svr_catalog.proofs.follow.follow_text.Goals as goal

pub returns-in_default-clause-carries : goal.returns-in_default-clause-carries
returns-in_default-clause-carries g c =
    let none : edited_in c.args.schema.now c.args.change.now ≡ None =
    sym c.edited_row.ensures ∙ ap (option_map (λ row. row.now)) c.in_default.is in
    λ old half. text-carries c.args.schema.now c.args.tables.now c.args.change.now c.requires.tables c.requires.accepted none old
    c.args.lists.now half

pub id_in-id-requires : goal.id_in-id-requires
id_in-id-requires g c =
    let some : edited_in c.args.schema.now c.args.change.now ≡ Some c.in-Some.row.now =
    sym c.edited_row.ensures ∙ ap (option_map (λ row. row.now)) c.in-Some.is in
    HasId-read (λ row. row) (Some c.in-Some.row.now) c.args.tables.now c.args.change.now c.requires.tables.rows c.requires.accepted
    (sym (edited-row c.args.schema.now c.args.tables.now c.args.change.now c.in-Some.row.now some))

pub row-requires : goal.row-requires
row-requires g c = text_within c.args.schema.now c.args.tables.now c.requires.tables

pub returns-in_default-row-clause-carries : goal.returns-in_default-row-clause-carries
returns-in_default-row-clause-carries g c =
    let s = c.args.schema.now in
    let some : edited_in s c.args.change.now ≡ Some c.in-Some.row.now =
    sym c.edited_row.ensures ∙ ap (option_map (λ row. row.now)) c.in-Some.is in
    let none : row_at (rows_in c.args.tables.now s.text_table) c.id_in-id.result ≡ None =
    sym c.row.ensures.value ∙ ap (option_map (λ row. row.now)) c.in_default-row.is in
    λ old half. absurd (edit-there s c.args.tables.now c.args.change.now c.in-Some.row.now c.requires.accepted some
    (subst (λ (n : ℕ). row_at (rows_in c.args.tables.now s.text_table) n ≡ None) c.id_in-id.ensures.value none))

pub edited-requires-clause-listed : goal.edited-requires-clause-listed
edited-requires-clause-listed g c =
    let edit : IsEdit c.args.schema.now c.args.tables.now c.args.change.now c.in-Some.row.now c.in-Some-row.before.now =
    edit-is c.args.schema.now c.args.tables.now c.args.change.now c.in-Some.row.now c.in-Some-row.before.now c.id_in-id.result
    c.requires.accepted (sym c.edited_row.ensures ∙ ap (option_map (λ row. row.now)) c.in-Some.is) c.id_in-id.ensures.value
    (sym c.row.ensures.value ∙ ap (option_map (λ row. row.now)) c.in-Some-row.is) in
    subst (λ (n : ℕ). IsSome (value_at c.args.lists.now.index.entries n)) (sym c.id_in-id.ensures.value)
    (edit-listed c.args.schema.now c.args.tables.now c.args.change.now c.in-Some.row.now c.in-Some-row.before.now edit c.args.lists.now c.requires.at_scores)

pub returns-clause-carries : goal.returns-clause-carries
returns-clause-carries g c =
    let edit : IsEdit c.args.schema.now c.args.tables.now c.args.change.now c.in-Some.row.now c.in-Some-row.before.now =
    edit-is c.args.schema.now c.args.tables.now c.args.change.now c.in-Some.row.now c.in-Some-row.before.now c.id_in-id.result
    c.requires.accepted (sym c.edited_row.ensures ∙ ap (option_map (λ row. row.now)) c.in-Some.is) c.id_in-id.ensures.value
    (sym c.row.ensures.value ∙ ap (option_map (λ row. row.now)) c.in-Some-row.is) in
    let s = c.args.schema.now in
    let row = c.in-Some.row.now in
    let before = c.in-Some-row.before.now in
    let v = c.args.lists.now in
    let v' = c.edited.new.self in
    let old_text : c.text_at-old.result.now ≡ text_of s before = c.text_at-old.ensures in
    let new_text : c.text_at-new.result.now ≡ text_of s row = c.text_at-new.ensures in
    λ old half. on_ok_weaker c.edited.result (λ follows.
    edit-carries s c.args.tables.now c.args.change.now row before c.requires.tables c.requires.accepted edit v v'
    (subst (λ (n : ℕ). FollowsDocument v v' n (IsRewritten (text_of s before) (text_of s row))) c.id_in-id.ensures.value
    (subst (λ (t : List ℕ). FollowsDocument v v' c.id_in-id.result (IsRewritten (text_of s before) t)) new_text
    (subst (λ (t : List ℕ). FollowsDocument v v' c.id_in-id.result (IsRewritten t c.text_at-new.result.now)) old_text follows))) old half)
    c.edited.ensures.follows
