use Rattle.std.proofs.Common.{◌≡◌, Result, Ok}
use Rattle.std.proofs.lemmas.Result.{err_from_is_err_and}
use Rattle.svr_lines.specs.declared.lines.InputStop.{InputStop}
use Rattle.svr_lines.specs.declared.lines.Piece.{Piece}
use Rattle.svr_lines.specs.declared.lines.Piece.TheVariants.{Line, End}
use Rattle.svr_serve.specs.Input.{block_size, line_request}
use Rattle.svr_serve.proofs.Taken.{stops_in_line, stops_reading, takes_next}
use Rattle.svr_serve.proofs.turn.take_line.Goals as goal

pub returns-in_err-line-clause-stop : goal.returns-in_err-line-clause-stop
returns-in_err-line-clause-stop g c =
    let line = c.in_err-line.ensures in
    let short = stops_in_line _ _ c.args.lines.now c.line.new.self line.stop.0 (λ is. let end = line.after_end is in cc) line.stop.1 in
    let p = err_from_is_err_and c.from_residual.result c.from_residual.ensures.1 in
    rw (p.1, p.2) (stops_reading c.in_err-line.field-0.0 _ _ c.args.lines.now c.line.new.self short)

line_is_no_end : ◌≡◌ {A = Result Piece InputStop} (Ok Line) (Ok End) → ⊥
line_is_no_end h = cc

-- the line was taken, and what it asks for couldn't be read
pub returns-in_err-read_request-in-Line-clause-stop : goal.returns-in_err-read_request-in-Line-clause-stop
returns-in_err-read_request-in-Line-clause-stop g c =
    let old = c.args.lines.now in
    let new = c.line.new.self in
    let line = (rw c.in-Line.is at c.in_ok-line.ensures) in
    let piece = line.piece in
    let p = err_from_is_err_and c.from_residual-in_err-read_request-in-Line.result c.from_residual-in_err-read_request-in-Line.ensures.1 in
    rw (p.1, p.2) (record {
      request = line_request new.text;
      size = block_size new.text;
      takes = takes_next _ _ old new piece.0 piece.1 new.text piece.2 piece.3.1 (λ is. line_is_no_end (line.after_end is))
          line.known_end (line.progress (λ is. cc)) line.before_limit;
    })
