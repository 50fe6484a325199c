use Rattle.std.proofs.Common.{length, sym, ◌∙◌}
use Rattle.svr_iter.specs.Truths.{lt_false}
use Rattle.svr_iter.proofs.Places.{is_in-place, not_in-place}
use Rattle.svr_iter.proofs.ids.stands_at.Goals as goal

pub returns-then-place-ids : goal.returns-then-place-ids
returns-then-place-ids c = is_in-place c.args.id c.args.ids.now c.args.place c.requires.ascending c.requires.place c.if-place-ids.true

pub returns-else-place-ids : goal.returns-else-place-ids
returns-else-place-ids c =
    lt_false c.args.place (length c.args.ids.now) c.if-place-ids.false
    ∙ sym (not_in-place c.args.id c.args.ids.now c.args.place c.requires.place c.if-place-ids.false)
