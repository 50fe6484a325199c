use Rattle.std.proofs.Common.{◌≡◌, ◌<◌, false, length, subst, ap, sym, ◌∙◌}
use Rattle.std.specs.Ordering.{nat_cmp}
use Rattle.std.specs.BTreeMap.{insert_entry}
use Rattle.svr_rows.specs.Rows.{TableRows, has_row, id_of, row_at, with_row}
use Rattle.svr_rows.specs.Changes.{row_refusal, with_rows_of}
use Rattle.svr_rows.specs.Kept.{kept_rows}
use Rattle.svr_rows.proofs.Fits.{HasId-from_fits}
use Rattle.svr_rows.proofs.Tested.{IsLawfulRow-from_none}
use Rattle.svr_rows.proofs.Entries.{IsKept-insert_entry, lookup-kept, values_of-insert_entry}
use Rattle.svr_rows.proofs.kept.KeptTable.put.Goals as goal

pub id-requires : goal.id-requires
id-requires c =
    let t = kept_rows c.self.inside.kinds.items c.self.inside.rows in
    let lawful = IsLawfulRow-from_none t c.args.row (ap (λ t. row_refusal t c.args.row) c.self.view_is ∙ c.requires.fits) in
    HasId-from_fits t.kinds c.args.row c.self.invariant.rows.columns lawful.fits

pub returns-clause-before : goal.returns-clause-before
returns-clause-before c =
    c.in_ok-before.ensures.before ∙ lookup-kept c.self.inside.kinds.items c.self.inside.rows c.self.invariant c.id.result
    ∙ ap (λ t. row_at t.rows c.id.result) c.self.view_is ∙ ap (row_at c.args.self.now.rows) c.id.ensures

pub invariant_of-self-2 : goal.invariant_of-self-2
invariant_of-self-2 c =
    let t = kept_rows c.self.inside.kinds.items c.self.inside.rows in
    let lawful = IsLawfulRow-from_none t c.args.row (ap (λ t. row_refusal t c.args.row) c.self.view_is ∙ c.requires.fits) in
    let put = c.in_ok-before.ensures.changed ∙ ap (λ id. insert_entry nat_cmp c.self.inside.rows id c.args.row) c.id.ensures in
    let room : has_row t.rows (id_of c.args.row) ≡ false → length t.rows < 262144 =
    subst (λ (t : TableRows). has_row t.rows (id_of c.args.row) ≡ false → length t.rows < 262144) (sym c.self.view_is) c.requires.room in
    IsKept-insert_entry t.kinds c.self.inside.rows c.self.invariant c.insert.new.self c.args.row put lawful room

pub returns-clause-changed : goal.returns-clause-changed
returns-clause-changed c =
    let put = c.in_ok-before.ensures.changed ∙ ap (λ id. insert_entry nat_cmp c.self.inside.rows id c.args.row) c.id.ensures in
    ap (λ es. kept_rows c.self.inside.kinds.items es) put
    ∙ ap (with_rows_of (kept_rows c.self.inside.kinds.items c.self.inside.rows))
    (values_of-insert_entry c.self.inside.kinds.items c.self.inside.rows c.self.invariant c.args.row)
    ∙ ap (λ t. with_rows_of t (with_row t.rows c.args.row)) c.self.view_is
