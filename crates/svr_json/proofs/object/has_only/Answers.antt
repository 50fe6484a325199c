use Rattle.std.proofs.Common.{map, string_bytes, sym, ap, ◌∙◌}
use Rattle.std.proofs.lemmas.List.Folds.{list_all-map}
use Rattle.std.specs.List.{list_all, list_any}
use Rattle.std.specs.Map.{keys_of}
use Rattle.std.specs.Str.{bytes_eq}
use Rattle.serde_json.specs.View.{view, members_view}
use Rattle.svr_json.proofs.PartsLemmas.{has_only-object, list_any-map, names_in-members_view}
use Rattle.svr_json.proofs.object.has_only.Goals as goal

pub returns-in-Some : goal.returns-in-Some
returns-in-Some c =
    let es = c.in-Some.members.now.entries in
    let names = map (λ n. n.now) c.args.names.now in
    sym (has_only-object (view c.args.value.now) (members_view es) names c.in-Some.ensures
    ∙ ap (list_all (λ name. list_any (bytes_eq name) names)) (names_in-members_view es)
    ∙ list_all-map (λ name. list_any (bytes_eq name) names) string_bytes (keys_of es)
    ∙ simp list_any-map (sym c.are_among.ensures))
