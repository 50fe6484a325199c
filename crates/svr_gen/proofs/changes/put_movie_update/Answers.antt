use Rattle.svr_gen.specs.Requests.{movie_update}
use Rattle.svr_gen.proofs.Following.{followed-in_turn-nil, followed-in_turn-cons}
use Rattle.svr_gen.proofs.changes.put_movie_update.Goals as goal

pub returns : goal.returns
unfolding movie_update
returns c = simp (followed-in_turn-cons, followed-in_turn-nil) (
    rw (c.in_ok-put_title.ensures, c.in_ok-put-2.ensures, c.in_ok-put_one_to.ensures, c.in_ok-put.ensures) at c.put-3.ensures)
