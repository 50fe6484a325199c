use Rattle.std.proofs.Common.{List, sym, ap, ◌∙◌}
use Rattle.svr_fakes.specs.declared.disk_call.Call.{Call}
use Rattle.svr_fakes.specs.Platter.{Past, after_calls, whole}
use Rattle.svr_fakes.proofs.Growing.{kept_beside, read_same}
use Rattle.svr_fakes.proofs.history.History.try_note.Goals as goal

pub invariant_of-self-2 : goal.invariant_of-self-2
invariant_of-self-2 c = kept_beside _ _ _ _ _ c.args.call c.self.invariant c.in_ok-push.ensures.items (c.self.invariant ∙ sym (c.requires _))

pub returns-clause-read : goal.returns-clause-read
returns-clause-read c =
    let old : Past = record { first = c.self.inside.first; calls = c.self.inside.calls.items } in
    rw (← c.self.view_is) (ap (λ (cs : List Call). (after_calls (whole c.self.inside.first) cs).read) c.in_ok-push.ensures.items ∙ read_same old c.args.call c.requires)
