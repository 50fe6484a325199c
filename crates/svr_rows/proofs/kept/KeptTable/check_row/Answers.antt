use Rattle.svr_rows.specs.Rows.{IsRowOf}
use Rattle.svr_rows.specs.Kept.{IsLawfulRow}
use Rattle.svr_rows.proofs.Fits.{HasId-from_fits, length-lawful, row_bytes-lawful}
use Rattle.svr_rows.proofs.kept.KeptTable.check_row.Goals as goal

pub long_text-requires : goal.long_text-requires
long_text-requires c =
    let fits : IsRowOf c.self.inside.kinds.items c.args.row.now = cc in
    rw c.as_slice-cells.ensures (length-lawful c.self.inside.kinds.items c.args.row.now c.self.invariant.rows.columns fits)

pub returns-clause-has_id : goal.returns-clause-has_id
returns-clause-has_id c =
    let fits : IsRowOf c.self.inside.kinds.items c.args.row.now = cc in
    HasId-from_fits c.self.inside.kinds.items c.args.row.now c.self.invariant.rows.columns fits

pub returns-clause-bytes : goal.returns-clause-bytes
returns-clause-bytes c =
    let lawful : IsLawfulRow c.self.inside.kinds.items c.args.row.now = record { fits = cc; short = cc } in
    row_bytes-lawful c.self.inside.kinds.items c.args.row.now c.self.invariant.rows.columns lawful
