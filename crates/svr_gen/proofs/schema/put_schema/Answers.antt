use Rattle.svr_gen.specs.Requests.{schema}
use Rattle.svr_gen.proofs.Following.{followed-in_turn-nil, followed-in_turn-cons}
use Rattle.svr_gen.proofs.schema.put_schema.Goals as goal

pub returns : goal.returns
unfolding schema
returns c = simp (followed-in_turn-cons, followed-in_turn-nil) (
    rw (
      c.in_ok-put-4.ensures,
      c.in_ok-put-3.ensures,
      c.in_ok-put-2.ensures,
      c.in_ok-put_tables.ensures,
      c.in_ok-put.ensures,
    ) at c.put-5.ensures)
