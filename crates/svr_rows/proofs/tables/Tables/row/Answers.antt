use Rattle.svr_rows.specs.Rows.{row_at}
use Rattle.svr_rows.proofs.Read.{IsReadAt-from_read}
use Rattle.svr_rows.proofs.Sums.{IfSome-row_at, IsRowOf-found}
use Rattle.svr_rows.proofs.tables.Tables.row.Goals as goal

pub returns-clause-fits : goal.returns-clause-fits
returns-clause-fits c =
    let t = IsReadAt-from_read c.self.inside.tables.items c.args.self.now c.args.table c.index.result.now c.self.invariant.1 c.self.view_is
    c.requires c.index.ensures in
    rw (← t.kinds) (IsRowOf-found (λ r. r.now) c.row.result (row_at c.index.result.now.rows c.args.id) c.index.result.now.kinds c.row.ensures
    (IfSome-row_at c.index.result.now c.args.id t.lawful))
