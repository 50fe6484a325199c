-- Steps of a merge, as they come out.
use Rattle.std.proofs.Common.{◌≡◌, [], inr, refl, sym, ap, ◌∙◌, subst}
use Rattle.svr_edge.specs.Disk.{DiskView, IsDisk}
use Rattle.svr_request.specs.declared.refusal.Refusal.{Refusal}
use Rattle.svr_request.specs.declared.refusal.Refusal.TheVariants as refusal
use Rattle.svr_request.specs.declared.reply.Reply.TheVariants.{Refused}
use Rattle.svr_request.specs.Requests.{Submitted}
use Rattle.svr_core.specs.declared.plan.Entry.{Entry}
use Rattle.svr_core.specs.declared.plan.Step.{Step}
use Rattle.svr_core.specs.Kept.{CoreValue}
use Rattle.svr_core.specs.Merges.{IsStepEntry, RefusesStep}
use Rattle.svr_core.specs.Outcomes.{merges, outcome_of}
use Rattle.svr_core.specs.Run.{ComesSingle, Due}
use Rattle.svr_core.specs.State.{State}
use Rattle.svr_store.specs.Making.{IsDueEntry}
use Rattle.svr_store.specs.Store.{KeepsState, Serves, StoreValue}
use Rattle.svr_store.specs.Merging.{SubmitsOne}
use Rattle.svr_store.proofs.Appended.{due_is, forced_is}
use Rattle.svr_store.proofs.Silent.{due_submits, memory_unread, unread}

-- the entry of a step is due where it is known to be
pub step_entry_due : (disk : DiskView) (known : Type 0) (core : CoreValue) (s : State) (request : Submitted) (part : Step) (e : Entry)
    → outcome_of s.served request ≡ merges part → (KeepsState disk s → known) → IsStepEntry known core s part e → IsDueEntry disk s request e
step_entry_due disk known core s request part e outcome knows is = record {
  kept = is.kept;
  is_record = is.is_record;
  body = is.body;
  is_ready = is.is_ready;
  again = is.again;
  lawful = λ keeps. is.lawful (knows keeps);
  is = inr (record { part = part; outcome = outcome; due = λ keeps. is.due (knows keeps); of_merge = is.of_merge });
}

module _ (disk : DiskView) (laws : IsDisk disk) (store : StoreValue) (s : State) (request : Submitted) (serves : Serves store s)
    (part : Step) (outcome : outcome_of s.served request ≡ merges part) where
  single : ComesSingle (outcome_of s.served request)
  single = subst ComesSingle (sym outcome) tt

  -- a step that is refused
  pub step_refused : (why : Refusal) → RefusesStep s part why → SubmitsOne disk disk store store s request (Refused why)
  step_refused refusal.Memory is = (memory_unread disk laws store s request serves).submits
  step_refused refusal.MergeUnbuilt is =
      (unread disk laws store s request serves (Refused refusal.MergeUnbuilt) single
      (inr (forced_is (KeepsState disk s) s request part outcome (Refused refusal.MergeUnbuilt) []
      ((λ keeps. (ap (λ (d : Due). d.reply) (sym (is.0 keeps.lawful)), ap (λ (d : Due). d.added) (sym (is.0 keeps.lawful)))), is.1))) (λ found. found) refl refl).submits
  step_refused why is =
      due_submits disk laws store s request serves why single (due_is (KeepsState disk s) s request part outcome ∙ is)
