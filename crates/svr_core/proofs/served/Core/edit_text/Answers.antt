use Rattle.std.proofs.Common.{Option, Err, inl, refl, sym, subst}
use Rattle.std.proofs.lemmas.Bool.{false≢true}
use Rattle.serde_json.specs.Data.{Data}
use Rattle.serde_json.specs.View.{view}
use Rattle.svr_request.specs.declared.refusal.Refusal.TheVariants as refusal
use Rattle.svr_request.proofs.Lines.{value_in-none, value_in-value}
use Rattle.svr_core.specs.Kept.{catalog_of}
use Rattle.svr_core.specs.Outcomes.{text_outcome}
use Rattle.svr_core.specs.Steps.{Edits}
use Rattle.svr_core.proofs.served.Core.edit_text.Goals as goal

pub returns-in-Ok : goal.returns-in-Ok
returns-in-Ok c =
    let set = catalog_of c.args.self.now in
    subst (λ (o : Option Data). Edits (text_outcome set o) set c.edit_schema.result)
    (sym (value_in-value c.args.text.now (view c.in-Ok.value) c.in-Ok.ensures.ok.0 c.in-Ok.ensures.ok.1)) c.edit_schema.ensures.edit

pub returns-else-is_memory : goal.returns-else-is_memory
returns-else-is_memory c =
    let set = catalog_of c.args.self.now in
    subst (λ (o : Option Data). Edits (text_outcome set o) set (Err refusal.NotJson))
    (sym (value_in-none c.args.text.now (c.in-Err.ensures.err (λ m. absurd (false≢true (c.if-is_memory.ensures.1 m))))))
    (record { edit = tt; refused = inl refl })
