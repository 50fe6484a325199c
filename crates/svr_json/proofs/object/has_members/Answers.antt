use Rattle.std.proofs.Common.{map, sym, ap, ◌∙◌}
use Rattle.std.specs.Cmp.Lexicographic.{pointwise}
use Rattle.std.specs.Str.{bytes_eq}
use Rattle.serde_json.specs.View.{view, members_view}
use Rattle.svr_json.proofs.PartsLemmas.{has_members-object, names_in-members_view}
use Rattle.svr_json.proofs.object.has_members.Goals as goal

pub returns-in-Some : goal.returns-in-Some
returns-in-Some c =
    let es = c.in-Some.members.now.entries in
    let names = map (λ n. n.now) c.args.names.now in
    c.are_names.ensures
    ∙ sym (has_members-object (view c.args.value.now) (members_view es) names c.in-Some.ensures
    ∙ ap (λ xs. pointwise bytes_eq xs names) (names_in-members_view es))
