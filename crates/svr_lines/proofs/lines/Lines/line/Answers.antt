use Rattle.std.proofs.Common.{[], ◌++◌, sym, ◌∙◌, arith}
use Rattle.svr_lines.proofs.Stream.{on_err}
use Rattle.svr_lines.proofs.Skips.{ended_once, skips_none, skips_piece, takes_piece, stops_behind, next_from_takes, ends_known}
use Rattle.svr_lines.proofs.lines.Lines.line.Goals as goal

pub loop-self-init : goal.loop-self-init
loop-self-init g c =
    (([], [], skips_none _ c.args.self.now), c.requires, λ is. is, λ isnt is. absurd (ended_once _ isnt is), omega arith)

pub returns-in_err-piece-clause-stop : goal.returns-in_err-piece-clause-stop
returns-in_err-piece-clause-stop g c =
    let inv = c.loop-self.invariant.0 in
    let stop = c.in_err-piece.ensures.stop in
    on_err c.from_residual.result _ (
      inv.1 ++ stop.0,
      stops_behind _ _ _ c.args.self.now c.loop-self.self c.next_line.new.self inv.0 inv.1 stop.0 inv.2
          (sym c.has_ended.ensures.ended ∙ c.loop-self-test.true) stop.1,
    )

pub returns-then-not-skips-clause-piece : goal.returns-then-not-skips-clause-piece
returns-then-not-skips-clause-piece g c =
    let inv = c.loop-self.invariant.0 in
    let next = c.in_ok-piece.ensures.line in
    let both = takes_piece c.in_ok-piece.piece _ _ _ c.args.self.now c.loop-self.self c.next_line.new.self inv.0 inv.1 next.0 next.1 inv.2
    (sym c.has_ended.ensures.ended ∙ c.loop-self-test.true) next.2 next.3 (sym c.skips.ensures ∙ c.if-not-skips.true) in
    (inv.0 ++ next.0, inv.1 ++ next.1, both.0, both.1)

pub returns-then-not-skips-clause-next : goal.returns-then-not-skips-clause-next
returns-then-not-skips-clause-next g c =
    let took = returns-then-not-skips-clause-piece g c in
    next_from_takes c.in_ok-piece.piece _ _ c.args.self.now c.next_line.new.self took.0 took.1 took.2 took.3

pub loop-self-preserved : goal.loop-self-preserved
loop-self-preserved g c =
    let inv = c.loop-self.invariant.0 in
    let next = c.in_ok-piece.ensures.line in
    let open_end = sym c.has_ended.ensures.ended ∙ c.loop-self-test.true in (
      (
        inv.0 ++ next.0,
        inv.1 ++ next.1,
        skips_piece c.in_ok-piece.piece _ _ _ c.args.self.now c.loop-self.self c.next_line.new.self inv.0 inv.1 next.0 next.1 inv.2
            open_end next.2 next.3
            (sym c.skips.ensures ∙ c.if-not-skips.false),
      ),
      ends_known c.in_ok-piece.piece next.0 c.next_line.new.self _ next.3,
      λ is. absurd (ended_once _ open_end (c.loop-self.invariant.2 is)),
      λ isnt. c.in_ok-piece.ensures.before_limit,
      omega (arith, c.loop-self.invariant.4, c.next_line.ensures.causes.later),
    )
