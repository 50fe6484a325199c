use Rattle.std.proofs.Common.{◌≡◌, ◌-◌, ◌<◌, [], ◌++◌, take, refl, ap, sym, ◌∙◌, arith, Ok}
use Rattle.std.proofs.lemmas.Bool.Decides.{nat_tests}
use Rattle.svr_lines.specs.Reading.{taken_bytes}
use Rattle.svr_lines.proofs.Stream.{on_err}
use Rattle.svr_lines.proofs.Skips.{ended_once}
use Rattle.svr_lines.proofs.Parts.{part_none, part_more, part_all, part_read, part_stops}
use Rattle.svr_lines.proofs.lines.Lines.block.Goals as goal

pub loop-missing-init : goal.loop-missing-init
loop-missing-init g c =
    let cleared = c.clear_block.ensures in
    let same = ap (λ r. r.ended) cleared in (
      ([], [], part_none _ c.args.self.now c.clear_block.new.self c.args.size _ cleared),
      λ is. let end = c.requires (sym same ∙ is) in (ap (λ r. r.ahead) cleared ∙ end.0, end.1),
      λ is. (same ∙ is, refl, ap taken_bytes cleared),
      λ isnt. same ∙ isnt,
      omega arith,
    )

pub returns-else-kept-clause-block : goal.returns-else-kept-clause-block
returns-else-kept-clause-block g c =
    let inv = c.loop-missing.invariant.0 in
    let part = c.take_part.ensures in
    let all = part_more inv.2 part.count part.passes part.block in (
      inv.0 ++ take c.take_part.result c.loop-missing.self.ahead,
      inv.1,
      all.reads,
      (omega (arith, all.count, c.if-missing-eq0.true), c.if-kept.false, grind (arith, nat_tests, all.block, c.if-kept.false)),
    )

pub read_on-requires-clause-none : goal.read_on-requires-clause-none
read_on-requires-clause-none g c =
    part_all c.loop-missing.missing c.take_part.ensures.count c.take_part.ensures.passes (omega (arith, c.if-missing-eq0.false))

pub returns-in_err-read_on-clause-stop : goal.returns-in_err-read_on-clause-stop
returns-in_err-read_on-clause-stop g c =
    let inv = c.loop-missing.invariant.0 in
    let part = c.take_part.ensures in
    let more = c.in_err-read_on.ensures.fills in
    let some : 0 < c.loop-missing.missing - c.take_part.result = omega (arith, c.if-missing-eq0.false) in
    let none = part_all c.loop-missing.missing part.count part.passes some in
    let all = part_read (part_more inv.2 part.count part.passes part.block) more.1.reads c.read_on.ensures.block in
    on_err c.from_residual.result _ (
      inv.1 ++ more.0,
      part_stops all some
          (more.1.reads.ahead ∙ ap (λ xs. xs ++ more.0) none ∙ more.1.count),
    )

pub returns-then-branch-eq0-clause-block : goal.returns-then-branch-eq0-clause-block
returns-then-branch-eq0-clause-block g c =
    let inv = c.loop-missing.invariant.0 in
    let part = c.take_part.ensures in
    let more = c.in_ok-read_on.ensures.fills in
    let all = part_read (part_more inv.2 part.count part.passes part.block) more.1.reads c.read_on.ensures.block in (
      inv.0 ++ take c.take_part.result c.loop-missing.self.ahead,
      inv.1 ++ more.0,
      all.reads,
      (omega (arith, all.count, c.if-missing-eq0.false), c.in_ok-read_on.ensures.end (ap Ok c.if-branch-eq0.true)),
    )

pub loop-missing-preserved : goal.loop-missing-preserved
loop-missing-preserved g c =
    let inv = c.loop-missing.invariant.0 in
    let part = c.take_part.ensures in
    let more = c.in_ok-read_on.ensures.fills in
    let open_end = c.in_ok-read_on.ensures.open_end (omega (arith, c.if-branch-eq0.false)) in
    let all = part_read (part_more inv.2 part.count part.passes part.block) more.1.reads c.read_on.ensures.block in (
      (inv.0 ++ take c.take_part.result c.loop-missing.self.ahead, inv.1 ++ more.0, all),
      λ is. absurd (ended_once _ open_end is),
      λ is. let again = c.in_ok-read_on.ensures.after_end (part.ended ∙ (c.loop-missing.invariant.2 is).0) in
          let zero : c.in_ok-read_on.field-0 ≡ 0 = cc in
          absurd (c.if-branch-eq0.false zero),
      λ _. open_end,
      omega (arith, c.loop-missing.invariant.4, c.read_on.ensures.causes.later),
    )
