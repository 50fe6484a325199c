use Rattle.svr_gen.specs.Requests.{visit_row}
use Rattle.svr_gen.proofs.Following.{followed-in_turn-nil, followed-in_turn-cons}
use Rattle.svr_gen.proofs.rows.put_visit.Goals as goal

pub returns : goal.returns
unfolding visit_row
returns c = simp (followed-in_turn-cons, followed-in_turn-nil) (
    rw (
      c.in_ok-put_below.ensures,
      c.in_ok-put-2.ensures,
      c.in_ok-put_number-2.ensures,
      c.in_ok-put.ensures,
      c.in_ok-put_number.ensures,
    ) at c.put-3.ensures)
