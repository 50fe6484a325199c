use Rattle.svr_gen.specs.Requests.{search_request}
use Rattle.svr_gen.proofs.Following.{followed-in_turn-nil, followed-in_turn-cons}
use Rattle.svr_gen.proofs.searches.put_search.Goals as goal

pub returns : goal.returns
unfolding search_request
returns c = simp (followed-in_turn-cons, followed-in_turn-nil) (
    rw (
      c.in_ok-put_one_to.ensures,
      c.in_ok-put-3.ensures,
      c.in_ok-put_mode.ensures,
      c.in_ok-put-2.ensures,
      c.in_ok-put_next_word.ensures,
      c.in_ok-put_word.ensures,
      c.in_ok-put.ensures,
    ) at c.put-4.ensures)
