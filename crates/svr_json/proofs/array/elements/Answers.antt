use Rattle.std.proofs.Common.{map, ap, sym, ◌∙◌}
use Rattle.serde_json.specs.View.{view, items_view}
use Rattle.svr_json.proofs.PartsLemmas.{elements_of-array, items_in-items_of}
use Rattle.svr_json.proofs.array.elements.Goals as goal

pub returns-in-Some : goal.returns-in-Some
returns-in-Some c =
    let vs = c.in-Some.values.now.items in
    ap (map view) c.as_slice.ensures.value
    ∙ sym (elements_of-array (view c.args.value.now) (items_view vs) c.in-Some.ensures ∙ items_in-items_of (map view vs))
