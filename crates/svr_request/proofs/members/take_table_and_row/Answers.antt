use Rattle.std.proofs.Common.{◌≡◌, List, [], ◌∷◌, map, Some, refl, ap, sym, ◌∙◌}
use Rattle.serde_json.proofs.Views.{view-Object}
use Rattle.serde_json.specs.View.{view, items_view}
use Rattle.serde_json.specs.declared.value.Value.{Value}
use Rattle.svr_request.specs.Requests.{given_of, given_row, table_and_row}
use Rattle.svr_request.proofs.members.take_table_and_row.Goals as goal

given_row-items_view : (vs : List Value) → given_row (items_view vs) ≡ map (λ v. given_of (view v)) vs
given_row-items_view [] = refl
given_row-items_view (v ∷ vs) = ap (λ row. given_of (view v) ∷ row) (given_row-items_view vs)

pub returns-in_ok-given_row-in-Some : goal.returns-in_ok-given_row-in-Some
returns-in_ok-given_row-in-Some c =
    ap (λ row. Some (c.in-Some.table, row)) (c.in_ok-given_row-in-Some.ensures ∙ sym (given_row-items_view c.in-Some.values.items))
    ∙ c.in-Some.ensures
    ∙ sym (ap table_and_row (ap view c.in-Object.is ∙ view-Object c.in-Object.members))
