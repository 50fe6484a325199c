use Rattle.std.proofs.Common.{ap, ◌∙◌, ◌+◌, ◌≡◌, ℕ, length, List, false, Err, rules}
use Rattle.svr_journal.specs.File.{end_of}
use Rattle.svr_lists.specs.declared.taken.SliceFault.TheVariants as slice
use Rattle.svr_core.proofs.Taking.{edit_taken, plain-ready, plain-taken, step_taken}
use Rattle.svr_core.specs.Steps.{is_step}
use Rattle.svr_core.proofs.served.Core.take.Goals as goal

pub returns-then-is_step-clause-taken : goal.returns-then-is_step-clause-taken
returns-then-is_step-clause-taken c = λ before s next serves.
    let e = c.in_ok-entry in
    step_taken before s c.args.body.now e.entry e.ensures.found e.ensures.body c.take_step.new.self c.take_step.result
    (c.take_step.ensures.taken before s (next ∙ ap (λ (b : List ℕ). end_of before + 5 + length b) e.ensures.body) serves)

pub returns-in_err-take_edit-clause-refused : goal.returns-in_err-take_edit-clause-refused
returns-in_err-take_edit-clause-refused c = λ before s next serves refused.
    let bad : c.take_edit.result ≡ Err slice.BadSlice = search (rules, refused) in
    let e = c.in_ok-edit in
    absurd (plain-taken c.args.self.now e.edit e.ensures.edit.plain (c.take_edit.ensures.bad bad))

pub returns-clause-taken : goal.returns-clause-taken
returns-clause-taken c = λ before s next serves.
    let e = c.in_ok-entry in
    let plain : is_step e.entry ≡ false = search rules in
    let is = c.in_ok-edit.ensures.edit in
    edit_taken before s c.args.body.now e.entry e.ensures.found e.ensures.body c.args.self.now _ c.in_ok-edit.edit plain is serves
    (c.in_ok-take_edit.ensures.made s serves (plain-ready s c.in_ok-edit.edit is.plain))
