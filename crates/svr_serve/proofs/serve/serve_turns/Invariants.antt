use Rattle.std.proofs.Common.{◌≡◌, ◌≤◌, ◌-◌, ◌^◌}
use Rattle.svr_core.specs.State.{State}
use Rattle.svr_lines.specs.Reading.{KnowsEnd, taken_bytes}
use Rattle.svr_store.specs.Store.{IsOpen, Serves}
use Rattle.svr_serve.specs.Program.{streams}
use Rattle.svr_serve.specs.Turning.{standing}
use Rattle.svr_serve.proofs.SoFar.{Between}
use Rattle.svr_serve.proofs.serve.serve_turns.Given as goal

-- the requests that were taken so far were answered by a run, and its replies written and sent
abbrev pub invariant-loop-ending : goal.invariant-loop-ending
invariant-loop-ending g l =
    let S = g.S.Source in
    let O = g.O.Sink in
    let view = g.D.Disk.view in
    record {
      so_far : (opening : State) → Serves l.fn.session.store opening → Between l.fn.session.store.pages.capacity opening
          (streams (S.left l.fn.input) (S.faults l.fn.input) (O.taken l.fn.output) (O.sent l.fn.output) (O.faults l.fn.output))
          (view l.fn.disk)
          (standing (streams (S.left l.input) (S.faults l.input) (O.taken l.output) (O.sent l.output) (O.faults l.output))
          (view l.disk) l.session.lines l.session.store);
      known_end : KnowsEnd l.session.lines (S.left l.input);
      few : taken_bytes l.session.lines ≤ 2 ^ 40;
      limit : l.session.lines.limit ≡ 2 ^ 40;
      is_open : IsOpen l.session.store (view l.disk);
    }

abbrev pub decreases-loop-ending : goal.decreases-loop-ending
decreases-loop-ending g l = 2 ^ 40 - l.session.lines.handed
