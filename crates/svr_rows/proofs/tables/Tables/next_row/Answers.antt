use Rattle.svr_rows.specs.Rows.{row_after}
use Rattle.svr_rows.proofs.Read.{IsReadAt-from_read}
use Rattle.svr_rows.proofs.Sums.{IsRowOf-found}
use Rattle.svr_rows.proofs.Walked.{HasId-found, IfSome-row_after, walked}
use Rattle.svr_rows.proofs.tables.Tables.next_row.Goals as goal

pub returns-clause-walk : goal.returns-clause-walk
returns-clause-walk c =
    let t = IsReadAt-from_read c.self.inside.tables.items c.args.self.now c.args.table c.index.result.now c.self.invariant.1 c.self.view_is
    c.requires c.index.ensures in
    rw (← t.rows) (walked (λ r. r.now) c.next.result c.index.result.now.rows c.args.after c.next.ensures t.lawful.ascending)

pub returns-clause-fits : goal.returns-clause-fits
returns-clause-fits c =
    let t = IsReadAt-from_read c.self.inside.tables.items c.args.self.now c.args.table c.index.result.now c.self.invariant.1 c.self.view_is
    c.requires c.index.ensures in
    rw (← t.kinds) (IsRowOf-found (λ r. r.now) c.next.result (row_after c.index.result.now.rows c.args.after) c.index.result.now.kinds
    c.next.ensures (IfSome-row_after c.index.result.now c.args.after t.lawful))

pub returns-clause-has_id : goal.returns-clause-has_id
returns-clause-has_id c =
    let t = IsReadAt-from_read c.self.inside.tables.items c.args.self.now c.args.table c.index.result.now c.self.invariant.1 c.self.view_is
    c.requires c.index.ensures in
    HasId-found (λ r. r.now) c.next.result (row_after c.index.result.now.rows c.args.after) c.index.result.now.kinds t.lawful.columns
    c.next.ensures (IfSome-row_after c.index.result.now c.args.after t.lawful)
