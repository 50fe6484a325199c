use Rattle.std.proofs.Common.{subst}
use Rattle.svr_rows.specs.Kept.{CountsTexts}
use Rattle.svr_rows.proofs.Beside.{IsAhead-none}
use Rattle.svr_rows.proofs.tables.Tables.none_ahead.Goals as goal

pub returns : goal.returns
returns c place =
    let counted = subst (CountsTexts c.self.inside.bytes) c.self.view_is c.self.invariant.0 in
    IsAhead-none c.args.self.now place _ c.new.ensures.empty counted.exact counted.few
