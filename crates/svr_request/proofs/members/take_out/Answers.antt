use Rattle.std.proofs.Common.{option_map, ap, sym, ◌∙◌}
use Rattle.std.proofs.lemmas.Map.Text.{btree_map_updates_text}
use Rattle.serde_json.specs.View.{view}
use Rattle.serde_json.proofs.Views.{view-lookup}
use Rattle.svr_request.proofs.members.take_out.Goals as goal

pub returns-clause-taken : goal.returns-clause-taken
returns-clause-taken c =
    ap (option_map view) c.remove.ensures.value ∙ view-lookup c.args.name.now c.args.members.now.entries

pub returns-clause-others : goal.returns-clause-others
returns-clause-others c = λ other apart.
    let kept = btree_map_updates_text c.args.name.now c.args.members.now c.remove.new.self _ c.remove.ensures.updates other in
    sym (view-lookup other c.remove.new.self.entries) ∙ ap (option_map view) (kept ∙ rw apart)
    ∙ view-lookup other c.args.members.now.entries
