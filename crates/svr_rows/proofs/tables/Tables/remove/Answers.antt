use Rattle.std.proofs.Common.{◌≡◌, ◌<◌, length, set, slice_get, Some, refl, sym, ap, ◌∙◌, subst, arith}
use Rattle.std.specs.List.{All}
use Rattle.std.proofs.lemmas.Option.{slice_get_read}
use Rattle.svr_rows.specs.Rows.{row_at, rows_at, rows_in, without_row}
use Rattle.svr_rows.specs.Changes.{with_rows}
use Rattle.svr_rows.specs.Kept.{bytes_at, IsTableRows}
use Rattle.svr_rows.proofs.Lawful.{IsTableRows-taken, all-with_rows}
use Rattle.svr_rows.proofs.Sums.{bytes_at-counted, bytes_at-few, set-with_rows, CountsTexts-remove, IsTableRows-at}
use Rattle.svr_rows.proofs.tables.Tables.remove.Goals as goal
use Rattle.svr_rows.proofs.tables.Tables.remove.Goals.{After-remove-before}

-- the table in its place
stands : (c : After-remove-before) → slice_get c.self.inside.tables.items c.args.table ≡ Some c.index_mut.result.now
stands c =
    let items = c.self.inside.tables.items in
    let within : c.args.table < length items = subst (λ ts. c.args.table < length ts) (sym c.self.view_is) c.requires in
    slice_get_read items (length items) c.args.table c.index_mut.result.now refl within c.index_mut.ensures.value

lawful : (c : After-remove-before) → IsTableRows c.index_mut.result.now
lawful c = IsTableRows-at _ _ _ c.self.invariant.1 (stands c)

-- the tables that are kept now
now : (c : After-remove-before)
    → set c.self.inside.tables.items c.args.table c.remove-before.new.self
    ≡ with_rows c.self.inside.tables.items c.args.table (without_row c.index_mut.result.now.rows c.args.id)
now c =
    ap (set c.self.inside.tables.items c.args.table) c.remove-before.ensures.changed
    ∙ set-with_rows _ _ _ (without_row c.index_mut.result.now.rows c.args.id) (stands c)

pub bytes_of-requires : goal.bytes_of-requires
bytes_of-requires c =
    let k = (goal.at.bytes_of-requires c).After-remove-before in
    omega (arith, bytes_at-few c.index_mut.result.now k.args.id (lawful k), ap bytes_at c.remove-before.ensures.before)

pub overflow_sub-self : goal.overflow_sub-self
overflow_sub-self c =
    let k = (goal.at.overflow_sub-self c).After-remove-before in
    rw (c.bytes_of.ensures ∙ ap bytes_at c.remove-before.ensures.before)
    (bytes_at-counted _ _ _ (stands k) (lawful k) c.args.id c.self.inside.bytes c.self.invariant.0)

pub invariant_of-self : goal.invariant_of-self
invariant_of-self c =
    let k = (goal.at.invariant_of-self c).After-remove-before in
    let gone = c.bytes_of.ensures ∙ ap bytes_at c.remove-before.ensures.before in (
      rw (gone, now k) (CountsTexts-remove _ _ _ (stands k) (lawful k) c.args.id c.self.inside.bytes c.self.invariant.0),
      subst (All IsTableRows) (sym (now k))
          (all-with_rows _ _ _ _ c.self.invariant.1 (stands k) (IsTableRows-taken c.index_mut.result.now c.args.id (lawful k))),
    )

pub returns-clause-changed : goal.returns-clause-changed
returns-clause-changed c =
    let k = (goal.at.returns-clause-changed c).After-remove-before in
    now k ∙ ap (λ rows. with_rows c.self.inside.tables.items c.args.table (without_row rows c.args.id)) (sym (ap rows_at (stands k)))
    ∙ ap (λ ts. with_rows ts c.args.table (without_row (rows_in ts c.args.table) c.args.id)) c.self.view_is

pub returns-clause-before : goal.returns-clause-before
returns-clause-before c =
    let k = (goal.at.returns-clause-before c).After-remove-before in
    c.remove-before.ensures.before ∙ ap (λ rows. row_at rows c.args.id) (sym (ap rows_at (stands k)))
    ∙ ap (λ ts. row_at (rows_in ts c.args.table) c.args.id) c.self.view_is
