use Rattle.std.proofs.Common.{drop, ap, ◌∙◌, arith}
use Rattle.svr_postpage.specs.Pages.{pairs_of}
use Rattle.svr_long.proofs.Ends.{passed}
use Rattle.svr_long.proofs.buffer.PageBuffer.pass.Goals as goal

pub returns-then-self : goal.returns-then-self
returns-then-self c =
    passed (pairs_of c.self.inside.bytes) c.self.inside.place c.self.inside.end (omega (arith, c.if-self.true)) ∙ ap (drop 1) c.self.view_is
