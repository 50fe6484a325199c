use Rattle.std.proofs.Common.{◌+◌, ◌≤◌, [], ◌∷◌, ◌++◌, length, take, refl, ap, sym, ◌∙◌}
use Rattle.std.proofs.Common.{inl, inr, subst, arith, Ok, append-nil, append_assoc, length-append}
use Rattle.svr_lines.specs.Lines.{IsUnbroken}
use Rattle.svr_lines.proofs.Stream.{Reads-none, IsUnbroken-append, IsUnbroken-all, IsUnbroken-more, IsUnbroken-none}
use Rattle.svr_lines.proofs.Stream.{IsUnbroken-take, take-feed, passes_all, passes_front, stops_unbroken, on_err}
use Rattle.svr_lines.proofs.lines.Lines.drop_line.Goals as goal

pub loop-self-init : goal.loop-self-init
loop-self-init g c =
    let old = c.args.self.now in (
      (
        [],
        [],
        record {
          reads = Reads-none _ old;
          unbroken = subst IsUnbroken (sym (append-nil old.ahead)) c.requires.unbroken;
          some = c.requires.some;
          open_end = c.requires.open;
        },
      ),
      omega arith,
    )

pub returns-in_err-read_on-clause-stop : goal.returns-in_err-read_on-clause-stop
returns-in_err-read_on-clause-stop g c =
    let old = c.args.self.now in
    let inv = c.loop-self.invariant.0 in
    let more = c.in_err-read_on.ensures.fills in
    let on = passes_all inv.2.reads c.ahead-count.ensures c.pass_over.ensures.passes more.1.reads in
    on_err c.from_residual.result _ (
      inv.1 ++ more.0,
      stops_unbroken _ _ old c.read_on.new.self _ _ on.0 (IsUnbroken-more old.ahead inv.1 more.0 inv.2.unbroken
          (IsUnbroken-none more.0 more.1.count)),
    )

pub returns-then-branch-eq0-clause-dropped : goal.returns-then-branch-eq0-clause-dropped
returns-then-branch-eq0-clause-dropped g c =
    let old = c.args.self.now in
    let inv = c.loop-self.invariant.0 in
    let more = c.in_ok-read_on.ensures.fills in
    let on = passes_all inv.2.reads c.ahead-count.ensures c.pass_over.ensures.passes more.1.reads in
    let line = old.ahead ++ inv.1 in
    let longer : length old.ahead ≤ length line = omega (arith, length-append old.ahead inv.1) in (
      line,
      line,
      inv.1 ++ more.0,
      on.0,
      inv.2.unbroken,
      longer,
      inr (c.in_ok-read_on.ensures.end (ap Ok c.if-branch-eq0.true), refl, omega (arith, c.requires.some, longer)),
    )

pub returns-in-Some-clause-dropped : goal.returns-in-Some-clause-dropped
returns-in-Some-clause-dropped g c =
    let old = c.args.self.now in
    let inv = c.loop-self.invariant.0 in
    let more = c.in_ok-read_on.ensures.fills in
    let next = c.read_on.new.self in
    let found = c.in-Some.ensures.found in
    let on = passes_all inv.2.reads c.ahead-count.ensures c.pass_over.ensures.passes more.1.reads in
    let began = old.ahead ++ inv.1 in
    let part = take c.in-Some.at next.ahead in (
      began ++ part,
      began ++ take (c.in-Some.at + 1) next.ahead,
      inv.1 ++ more.0,
      passes_front _ _ old next c.pass_over-in-Some.new.self began _ (c.in-Some.at + 1) on.0 (omega (arith, found.within))
          c.pass_over-in-Some.ensures.passes,
      IsUnbroken-append began part inv.2.unbroken (IsUnbroken-take next.ahead c.in-Some.at (omega (arith, found.within)) found.before),
      omega (arith, length-append began part, length-append old.ahead inv.1),
      inl (
        c.pass_over-in-Some.ensures.ended ∙ c.in_ok-read_on.ensures.open_end (omega (arith, c.if-branch-eq0.false)),
        ap
            (λ xs. began ++ xs) (take-feed next.ahead c.in-Some.at found.within found.feed) ∙ sym (append_assoc began part (10 ∷ [])),
      ),
    )

pub loop-self-preserved : goal.loop-self-preserved
loop-self-preserved g c =
    let old = c.args.self.now in
    let inv = c.loop-self.invariant.0 in
    let more = c.in_ok-read_on.ensures.fills in
    let next = c.read_on.new.self in
    let on = passes_all inv.2.reads c.ahead-count.ensures c.pass_over.ensures.passes more.1.reads in
    let unbroken : IsUnbroken more.0 = subst IsUnbroken on.1 (IsUnbroken-all next.ahead c.in_default.ensures.none) in (
      (
        old.ahead ++ inv.1,
        inv.1 ++ more.0,
        record {
          reads = on.0;
          unbroken = IsUnbroken-more old.ahead inv.1 more.0 inv.2.unbroken unbroken;
          some = omega (arith, ap length on.1, more.1.count, c.if-branch-eq0.false);
          open_end = c.in_ok-read_on.ensures.open_end (omega (arith, c.if-branch-eq0.false));
        },
      ),
      omega (arith, c.loop-self.invariant.1, c.read_on.ensures.causes.later),
    )
