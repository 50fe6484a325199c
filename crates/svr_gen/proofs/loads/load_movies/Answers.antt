use Rattle.std.proofs.Common.{◌≡◌, arith}
use Rattle.svr_gen.specs.Requests.{movie_row}
use Rattle.svr_gen.proofs.Loading.{followed-load_of}
use Rattle.svr_gen.proofs.loads.load_movies.Goals as goal

pub returns : goal.returns
returns c =
    let all : c.loop-before.before ≡ 2000 = omega (arith, c.loop-before-test.false) in
    rw (followed-load_of c.args.writer.now c.in_ok-rows.rows c.loop-before.rows _ movie_row _ _
    c.in_ok-rows.ensures c.loop-before.invariant all) at c.put_load.ensures
