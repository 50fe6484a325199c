use Rattle.std.proofs.Common.{ap, refl, arith}
use Rattle.std.proofs.lemmas.Grind.{common_steps}
use Rattle.svr_lines.proofs.Feeds.{part_ahead}
use Rattle.svr_lines.proofs.lines.Lines.pass_over.Goals as goal

pub returns-clause-passes : goal.returns-clause-passes
returns-clause-passes c =
    let a = c.self.inside in
    record {
      ahead = part_ahead a.buffer.items a.buffer.items c.args.self.now.ahead a.start a.end c.args.count refl
          (ap (λ r. r.ahead) c.self.view_is) c.self.invariant.order c.requires;
      handed = omega (arith, ap (λ r. r.handed) c.self.view_is);
      limit = ap (λ r. r.limit) c.self.view_is;
      few = grind (arith, common_steps);
    }
