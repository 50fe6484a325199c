use Rattle.std.proofs.Common.{◌≡◌, ◌+◌, [], ◌++◌, take, length, refl, ap, sym, ◌∙◌, subst, arith, append-nil, Ok}
use Rattle.std.proofs.lemmas.List.{nil_from_length, take_all}
use Rattle.std.proofs.Math.Seq.{drop-length}
use Rattle.svr_lines.specs.Lines.{IsUnbroken}
use Rattle.svr_lines.specs.Layout.Feeds.{FirstFeed}
use Rattle.svr_lines.proofs.Stream.{Reads-then, Reads-as, NoFeed-join, IsUnbroken-all, IsUnbroken-more, IsUnbroken-none}
use Rattle.svr_lines.proofs.Stream.{passes_front, stops_unbroken, takes_by_feed, takes_last, on_err}
use Rattle.svr_lines.proofs.lines.Lines.next_line.Goals as goal

pub returns-in-Some-clause-line : goal.returns-in-Some-clause-line
returns-in-Some-clause-line g c =
    let mid = c.loop-at.self in
    let new = c.end_line.new.self in
    let inv = c.loop-at.invariant.0 in
    let found = c.in-Some.ensures.found in
    let end = c.end_line.ensures in
    let first : FirstFeed mid.ahead 0 c.in-Some.at =
    record {
      low = omega arith;
      within = found.within;
      feed = found.feed;
      before = NoFeed-join mid.ahead c.loop-at.clean c.in-Some.at
          inv.1.none found.before;
    } in (
      take (c.in-Some.at + 1) mid.ahead,
      inv.0,
      passes_front _ _ c.args.self.now mid new [] inv.0 (c.in-Some.at + 1) inv.1.reads (omega (arith, found.within)) end.passes,
      takes_by_feed _ mid new _ c.in-Some.at first end.line end.too_long end.not_end end.text (end.ended ∙ inv.1.open_end),
    )

-- what was searched has no line feed to its end
pub drop_line-requires-clause-unbroken : goal.drop_line-requires-clause-unbroken
drop_line-requires-clause-unbroken g c =
    let inv = c.loop-at.invariant.0 in
    IsUnbroken-all c.loop-at.self.ahead (NoFeed-join c.loop-at.self.ahead c.loop-at.clean _ inv.1.none c.in_default.ensures.none)

pub returns-in_err-fill-clause-stop : goal.returns-in_err-fill-clause-stop
returns-in_err-fill-clause-stop g c =
    let old = c.args.self.now in
    let mid = c.loop-at.self in
    let inv = c.loop-at.invariant.0 in
    let more = c.in_err-fill.ensures.fills in
    let unbroken : IsUnbroken (old.ahead ++ inv.0) =
    subst IsUnbroken inv.1.reads.ahead (IsUnbroken-all mid.ahead (NoFeed-join mid.ahead c.loop-at.clean _ inv.1.none
    c.in_default.ensures.none)) in
    on_err c.from_residual-in_err-fill.result _ (
      inv.0 ++ more.0,
      stops_unbroken _ _ old c.fill.new.self _ _ (Reads-then _ _ _ old mid c.fill.new.self _ _ _ _ inv.1.reads more.1.reads)
          (IsUnbroken-more old.ahead inv.0 more.0 unbroken (IsUnbroken-none more.0 more.1.count)),
    )

pub returns-then-branch-eq0-clause-line : goal.returns-then-branch-eq0-clause-line
returns-then-branch-eq0-clause-line g c =
    let old = c.args.self.now in
    let mid = c.loop-at.self in
    let next = c.fill.new.self in
    let inv = c.loop-at.invariant.0 in
    let more = c.in_ok-fill.ensures.fills in
    let last = c.last_line.ensures in
    let same : mid.ahead ≡ next.ahead =
    sym (more.1.reads.ahead ∙ ap (λ xs. mid.ahead ++ xs) (nil_from_length more.0 (sym more.1.count ∙ c.if-branch-eq0.true))
    ∙ append-nil mid.ahead) in
    let unbroken : IsUnbroken next.ahead =
    subst IsUnbroken same (IsUnbroken-all mid.ahead (NoFeed-join mid.ahead c.loop-at.clean _ inv.1.none c.in_default.ensures.none)) in (
      next.ahead,
      inv.0 ++ more.0,
      Reads-as _ _ old c.last_line.new.self _ _ _ _ (take_all (length next.ahead) next.ahead (omega arith)) refl
          (passes_front _ _ old next c.last_line.new.self [] _ (length next.ahead)
          (Reads-then _ _ _ old mid next _ _ _ _ inv.1.reads more.1.reads) (omega arith) last.passes),
      takes_last _ next c.last_line.new.self _ (omega (arith, ap length same, c.ahead-clean.ensures)) unbroken last.line last.end
          last.not_long last.text
          (record {
            ended = last.ended;
            ahead = last.passes.ahead ∙ drop-length next.ahead;
            source = c.in_ok-fill.ensures.end
                (ap Ok c.if-branch-eq0.true);
          }),
    )
