use Rattle.svr_gen.specs.Requests.{visit_update}
use Rattle.svr_gen.proofs.Following.{followed-with_draw, followed-in_turn-nil, followed-in_turn-cons}
use Rattle.svr_gen.proofs.changes.put_visit_update.Goals as goal

pub returns : goal.returns
unfolding visit_update
returns c = simp (followed-with_draw, followed-in_turn-cons, followed-in_turn-nil) (
    rw (
      c.in_ok-put_below.ensures,
      c.in_ok-put-3.ensures,
      c.in_ok-put_number-2.ensures,
      c.in_ok-put-2.ensures,
      c.in_ok-put_number.ensures,
      c.in_ok-put.ensures,
      c.from-id.ensures,
      c.draw.ensures.value,
      c.draw.ensures.after,
    ) at c.put-4.ensures)
