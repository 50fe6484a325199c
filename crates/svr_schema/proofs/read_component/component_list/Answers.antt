use Rattle.std.proofs.Common.{◌≡◌, ◌++◌, [], ◌∷◌, map, take, None, Some, append-nil, sym, ap, ◌∙◌}
use Rattle.std.specs.List.{filter_map}
use Rattle.std.specs.Option.{option_to_list}
use Rattle.serde_json.specs.View.{view}
use Rattle.svr_schema.specs.Components.{component_in}
use Rattle.svr_schema.proofs.Found.{filter_map-more}
use Rattle.svr_schema.proofs.read_component.component_list.Goals as goal
use Rattle.svr_schema.proofs.read_component.component_list.Goals.{in-Some+in_ok-push, in_default}

pub loop-value-preserved : goal.loop-value-preserved
loop-value-preserved c =
    let f = component_in c.args.tables.now c.args.text_table in
    let i = c.loop-value.value-index in
    let x = c.value-item.result in
    let more = filter_map-more f view c.args.values.now i x c.loop-value-test.true c.value-item.is in
    let before = filter_map f (map view (take i c.args.values.now)) in
    elim c.match-branch-2.branch [
      | in-Some+in_ok-push w ↦
          let is : f (view x) ≡ Some w.in-Some.component = sym c.in_ok-component.ensures ∙ w.in-Some.is in
          ap (λ v. v.items) w.found-is ∙ w.in_ok-push.ensures.items ∙ ap (λ ys. ys ++ w.in-Some.component ∷ []) c.loop-value.invariant
          ∙ sym (more ∙ ap (λ o. before ++ option_to_list o) is)
      | in_default w ↦
          let is : f (view x) ≡ None = sym c.in_ok-component.ensures ∙ w.in_default.is in
          ap (λ v. v.items) w.found-is ∙ c.loop-value.invariant ∙ sym (more ∙ ap (λ o. before ++ option_to_list o) is ∙ append-nil before)
    ]
