use Rattle.std.proofs.Common.{◌≡◌, Bool, Some, None, true, false, cond, get_or, ap, sym, ◌∙◌, ◌==◌}
use Rattle.svr_iter.specs.Truths.{eq_false, eq_true}
use Rattle.svr_iter.specs.declared.marks.Mark.TheVariants as mark
use Rattle.svr_iter.specs.declared.marks.Marked.{Marked}
use Rattle.svr_iter.proofs.Places.{mark_of-place, no_mark-place}
use Rattle.svr_iter.proofs.live_ids.mark_at.Goals.{else-place-marks-via-then-place-marks+else-marks-place, else-place-marks-via-else-place-marks}
use Rattle.svr_iter.proofs.live_ids.mark_at.Goals as goal

abbrev first : Marked
first = record { id = 0; mark = mark.Add }

pub returns-then-marks-place : goal.returns-then-marks-place
returns-then-marks-place c =
    let marked = get_or c.args.marks.now c.args.place first in
    let e : (marked.id == c.args.id) ≡ true = eq_true marked.id c.args.id c.if-marks-place.true in
    sym (mark_of-place c.args.id c.args.marks.now c.args.place first c.requires.marks c.requires.place c.if-place-marks.true
    ∙ ap (λ (b : Bool). cond b (Some marked.mark) None) e)

pub returns-else-place-marks : goal.returns-else-place-marks
returns-else-place-marks c = elim c.else-place-marks.branch [
  | else-place-marks-via-then-place-marks+else-marks-place w ↦
      let marked = get_or c.args.marks.now c.args.place first in
      let e : (marked.id == c.args.id) ≡ false = eq_false marked.id c.args.id w.if-marks-place.false in
      sym (mark_of-place c.args.id c.args.marks.now c.args.place first c.requires.marks c.requires.place w.if-place-marks.true
      ∙ ap (λ (b : Bool). cond b (Some marked.mark) None) e)
  | else-place-marks-via-else-place-marks w ↦ sym
      (no_mark-place c.args.id c.args.marks.now c.args.place c.requires.place w.if-place-marks.false)
]
