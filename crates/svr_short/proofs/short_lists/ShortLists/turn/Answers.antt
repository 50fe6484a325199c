use Rattle.std.proofs.Common.{rules, ◌≡◌, Some, Bool, true, false, not, refl, ap, sym, subst, ◌∙◌}
use denote.Enum.Bare.{same_true}
use Rattle.std.proofs.lemmas.Result.{on_ok_weaker}
use Rattle.svr_iter.specs.contracts.marks.Mark.{the_type}
use Rattle.svr_short.specs.Layout.{mark_turned}
use Rattle.svr_short.specs.Short.{Lists, mark_at}
use Rattle.svr_short.specs.declared.place.Place.{Place}
use Rattle.svr_short.proofs.Turning.{Known, alone_turned, known_of, turned, turned_none, turned_same}
use Rattle.svr_short.proofs.short_lists.ShortLists.turn.Goals as goal
use Rattle.svr_short.proofs.short_lists.ShortLists.turn.Goals.{in_default-via-in-Some+else-ne, in_default-via-in_default}

pub set-requires-clause-alone : goal.set-requires-clause-alone
set-requires-clause-alone c =
    let known : Known c.number.new.self = known_of c.self.inside.numbers.entries c.self.inside.marks.entries c.number.new.self
    c.self.view_is c.self.invariant.0 c.self.invariant.1 in
    alone_turned c.args.self.now c.number.new.self c.args.term.now
    (record { term = c.in_ok-term.term; key = c.args.key; id = c.args.id }) known
    c.in_ok-term.ensures.given c.in_ok-term.ensures.stays c.requires.at_key

pub returns-in_default-clause-marks : goal.returns-in_default-clause-marks
returns-in_default-clause-marks c =
    let p : Place = record { term = c.in_ok-term.term; key = c.args.key; id = c.args.id } in
    let known : Known c.number.new.self = known_of c.self.inside.numbers.entries c.self.inside.marks.entries c.number.new.self
    c.self.view_is c.self.invariant.0 c.self.invariant.1 in
    let is : Some c.args.mark ≡ mark_turned c.args.mark (mark_at c.self.inside.marks.entries p) =
    elim c.in_default.branch [
      | in_default-via-in-Some+else-ne w ↦ turned_same c.args.mark _ (sym w.in-Some.ensures.value
          ∙ ap Some (same_true the_type (search rules) _ _ (not_false _ w.if-ne.ensures)))
      | in_default-via-in_default w ↦ turned_none c.args.mark _ (sym w.in_default.ensures.value)
    ] in
    on_ok_weaker c.set.result (λ sets. turned c.args.self.now c.number.new.self c.set.new.self c.args.term.now p c.args.mark
    (Some c.args.mark) known
    c.in_ok-term.ensures.given c.in_ok-term.ensures.stays c.set.ensures.numbers sets
    (subst (λ (v : Lists). Some c.args.mark ≡ mark_turned c.args.mark (mark_at v.marks p)) c.self.view_is is)
    c.requires.key c.requires.id) c.set.ensures.marks
  where
    not_false : (b : Bool) → false ≡ not b → b ≡ true
    not_false true e = refl
    not_false false e = absurd (cc)
