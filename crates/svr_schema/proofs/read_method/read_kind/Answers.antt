use Rattle.std.proofs.Common.{sym, ◌∙◌}
use Rattle.serde_json.specs.View.{view}
use Rattle.svr_schema.proofs.Methods.{method_of_kind-other}
use Rattle.svr_schema.proofs.read_method.read_kind.Goals as goal

pub returns-in_default : goal.returns-in_default
returns-in_default c =
    let d = view c.args.value.now in
    let is = c.text_or_empty.ensures in
    let no = c.in_default in
    sym (method_of_kind-other _ d (λ e. no.not-id (is ∙ e)) (λ e. no.not-score (is ∙ e)) (λ e. no.not-text (is ∙ e))
    (λ e. no.not-chunk (is ∙ e)))
