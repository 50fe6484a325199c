use Rattle.std.proofs.Common.{◌≡◌, ◌+◌, ◌-◌, ◌≤◌, [], ◌++◌, length, refl, ap, sym, ◌∙◌, arith, append-nil}
use Rattle.std.specs.List.{slice_range}
use Rattle.svr_lines.proofs.Feeds.{read_behind, length-read, slice_range-front}
use Rattle.svr_lines.proofs.Stream.{Consumes-kept_all}
use Rattle.svr_lines.proofs.lines.Lines.fill.Goals as goal

pub returns-in-Ok-clause-fills : goal.returns-in-Ok-clause-fills
returns-in-Ok-clause-fills g c =
    let a = c.self.inside in
    let old = c.args.self.now in
    let start = c.make_room-start.result in
    let end = start + (a.end - a.start) in
    let now = c.read_at.new.buffer.items in
    let bytes = slice_range now end (end + c.in-Ok.count) in
    let was : slice_range a.buffer.items a.start a.end ≡ old.ahead = ap (λ r. r.ahead) c.self.view_is in
    let ahead : slice_range c.make_room-start.new.buffer.items start end ≡ old.ahead = c.make_room-start.ensures.same ∙ was in
    let fits : end + c.in-Ok.count ≤ length now =
    omega (
      arith,
      c.in-Ok.ensures.few,
      c.in-Ok.ensures.len,
      c.min-room.ensures,
      c.len.ensures,
      c.read_at.new.buffer.ok.0,
      c.make_room-start.ensures.room,
      c.make_room-start.ensures.len,
    ) in
    let many = length-read now end c.in-Ok.count fits in
    let whole = read_behind c.make_room-start.new.buffer.items now start end c.in-Ok.count (omega arith) c.in-Ok.ensures.front in (
      bytes,
      record {
        reads = record {
          consumed = c.in-Ok.ensures.bytes;
          ahead = whole ∙ ap (λ xs. xs ++ bytes) ahead;
          handed = omega (arith, ap (λ r. r.handed) c.self.view_is);
          limit = ap (λ r. r.limit) c.self.view_is;
        };
        count = sym many;
      },
    )

pub returns-in-Ok-clause-end : goal.returns-in-Ok-clause-end
returns-in-Ok-clause-end g c = λ zero.
    let none : c.in-Ok.count ≡ 0 = cc in
    c.in-Ok.ensures.end none (omega (arith, c.min-room.ensures, c.len.ensures, c.make_room-start.ensures.room, c.if-left-eq0.false))

pub returns-in-Err-clause-fills : goal.returns-in-Err-clause-fills
returns-in-Err-clause-fills g c =
    let a = c.self.inside in
    let start = c.make_room-start.result in
    let end = start + (a.end - a.start) in
    let was : slice_range a.buffer.items a.start a.end ≡ c.args.self.now.ahead = ap (λ r. r.ahead) c.self.view_is in
    let front = slice_range-front c.make_room-start.new.buffer.items c.read_at.new.buffer.items start end (omega arith)
    c.in-Err.ensures.front in (
      [],
      record {
        reads = record {
          consumed = Consumes-kept_all _ _ c.in-Err.ensures.bytes;
          ahead = front ∙ c.make_room-start.ensures.same ∙ was ∙ sym (append-nil c.args.self.now.ahead);
          handed = omega (arith, ap (λ r. r.handed) c.self.view_is);
          limit = ap (λ r. r.limit) c.self.view_is;
        };
        count = refl;
      },
    )
