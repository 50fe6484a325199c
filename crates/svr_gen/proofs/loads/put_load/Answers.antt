use Rattle.svr_gen.specs.Requests.{load_of}
use Rattle.svr_gen.proofs.Following.{followed-in_turn-nil, followed-in_turn-cons}
use Rattle.svr_gen.proofs.loads.put_load.Goals as goal

pub returns : goal.returns
unfolding load_of
returns c = simp (followed-in_turn-cons, followed-in_turn-nil) (
    rw (
      c.in_ok-put-4.ensures,
      c.in_ok-put_number.ensures,
      c.in_ok-put-3.ensures,
      c.in_ok-put-2.ensures,
      c.in_ok-put.ensures,
      c.len.ensures,
    ) at c.put_all.ensures)
