use Rattle.svr_gen.specs.Workload.{requests}
use Rattle.svr_gen.proofs.Following.{followed-in_turn-nil, followed-in_turn-cons}
use Rattle.svr_gen.proofs.generate.put_requests.Goals as goal

pub returns : goal.returns
unfolding requests
returns c = simp (followed-in_turn-cons, followed-in_turn-nil) (
    rw (
      c.in_ok-put_merge-2.ensures,
      c.in_ok-put_steps.ensures,
      c.in_ok-put_merge.ensures,
      c.in_ok-load_visits.ensures,
      c.in_ok-load_reviews.ensures,
      c.in_ok-load_movies.ensures,
      c.in_ok-put_schema.ensures,
    ) at c.put_searches.ensures)
