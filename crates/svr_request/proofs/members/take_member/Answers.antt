use Rattle.std.proofs.Common.{ap, sym, ◌∙◌}
use Rattle.serde_json.specs.Find.{get}
use Rattle.serde_json.specs.View.{view}
use Rattle.serde_json.proofs.Views.{view-Object}
use Rattle.svr_request.proofs.members.take_member.Goals as goal

pub returns-in-Object : goal.returns-in-Object
returns-in-Object c =
    c.take_out.ensures.taken ∙ sym (ap (get c.args.name.now) (ap view c.in-Object.is ∙ view-Object c.in-Object.members))
