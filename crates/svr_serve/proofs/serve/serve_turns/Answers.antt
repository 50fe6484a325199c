use Rattle.std.proofs.Common.{◌≡◌, ◌∙◌, refl, ap, arith, Bool, true, false}
use Rattle.svr_lines.specs.Reading.{Reading, taken_bytes}
use Rattle.svr_serve.proofs.Stops.{ends_complete, ends_stop}
use Rattle.svr_serve.proofs.Turns.{Between-start, Between-more}
use Rattle.svr_serve.proofs.serve.serve_turns.Goals as goal

not_both : (b : Bool) → b ≡ true → b ≡ false → ⊥
not_both b h k = cc

pub loop-ending-init : goal.loop-ending-init
loop-ending-init g c = record {
  so_far = λ opening serves. Between-start c.args.session.now.store.pages.capacity opening _ _ c.args.session.now c.requires refl serves;
  known_end = λ is. absurd (not_both c.args.session.now.lines.ended is (ap (λ (r : Reading). r.ended) c.requires.lines));
  few = omega (arith, ap taken_bytes c.requires.lines);
  limit = ap (λ (r : Reading). r.limit) c.requires.lines;
  is_open = c.requires.is_open;
}

pub loop-ending-preserved : goal.loop-ending-preserved
loop-ending-preserved g c =
    let inv = c.loop-ending.invariant in
    let done = c.in-Served.ensures.turn in
    let limit = done.writes.replied.takes.reads.limit ∙ inv.limit in
    record {
      so_far = λ opening serves. Between-more c.args.session.now.store.pages.capacity opening _ _ _ _ (inv.so_far opening serves) done c.in-Served.ensures.causes;
      known_end = done.writes.replied.takes.known_end;
      few = omega (arith, c.in-Served.ensures.causes.few, limit);
      limit = limit;
      is_open = done.is_open;
    }

pub returns-in-Ended : goal.returns-in-Ended
returns-in-Ended g c = λ opening serves.
    ends_complete c.args.session.now.store.pages.capacity opening _ _ _ _ (c.loop-ending.invariant.so_far opening serves) c.in-Ended.ensures.turn c.in-Ended.ensures.causes

pub returns-in-Stop : goal.returns-in-Stop
returns-in-Stop g c = λ opening serves.
    ends_stop c.args.session.now.store.pages.capacity opening _ _ _ _ (c.loop-ending.invariant.so_far opening serves) c.in-Stop.ending c.in-Stop.ensures.turn c.in-Stop.ensures.causes
