use Rattle.std.proofs.Common.{[], ◌∷◌, ◌++◌, reverse, refl, sym, ap, subst, ◌∙◌, append_assoc}
use Rattle.std.proofs.lemmas.List.{reverse-reverse}
use Rattle.svr_rows.specs.declared.change.Change.TheVariants.{Insert}
use Rattle.svr_rows.specs.Changes.{changed, load_refusal, refusal_of}
use Rattle.svr_rows.proofs.Laws.{inserted-more, refusal_of-accepted}
use Rattle.svr_catalog.specs.Layout.{value_of}
use Rattle.svr_catalog.specs.Stands.{Stands}
use Rattle.svr_catalog.proofs.Standing.{inserted-none, listed_with_rows-none, next_row, rows-carried}
use Rattle.svr_catalog.proofs.contents.Contents.insert_all.Goals as goal

pub loop-row-init : goal.loop-row-init
loop-row-init g c = (
  [],
  ap reverse c.reverse.ensures.items ∙ reverse-reverse c.args.rows.items,
  sym (inserted-none c.args.self.now.tables c.args.table),
  c.requires.kept,
  λ s stood. subst (Stands (value_of c.args.schema.now c.args.self.now))
      (sym (listed_with_rows-none (value_of c.args.schema.now c.args.self.now).catalog s c.args.table)) stood,
  refl,
)

pub change-requires-clause-accepted : goal.change-requires-clause-accepted
change-requires-clause-accepted g c =
    let tables = c.args.self.now.tables in
    let inv = c.loop-row.invariant in
    let all = next_row inv.0 c.pop.new.self.items c.args.rows.items c.in-Some.row
    (ap (λ xs. inv.0 ++ reverse xs) (sym c.in-Some.ensures.items) ∙ inv.1) in
    ap (λ ts. refusal_of ts (Insert c.args.table c.in-Some.row)) inv.2
    ∙ refusal_of-accepted tables c.args.table inv.0 c.in-Some.row (reverse c.pop.new.self.items)
    (ap (load_refusal tables c.args.table) all ∙ c.requires.accepted)

pub loop-row-preserved : goal.loop-row-preserved
loop-row-preserved g c =
    let inv = c.loop-row.invariant in
    let row = c.in-Some.row in
    let all = next_row inv.0 c.pop.new.self.items c.args.rows.items row
    (ap (λ xs. inv.0 ++ reverse xs) (sym c.in-Some.ensures.items) ∙ inv.1) in
    let now = c.in_ok-change.ensures.changed
    ∙ ap (λ ts. changed ts (Insert c.args.table row)) inv.2
    ∙ sym (inserted-more c.args.self.now.tables c.args.table inv.0 row) in (
      inv.0 ++ row ∷ [],
      append_assoc inv.0 (row ∷ []) (reverse c.pop.new.self.items) ∙ all,
      now,
      c.in_ok-change.ensures.kept,
      rows-carried c.args.schema.now c.args.self.now c.loop-row.self c.change.new.self c.args.table inv.0 row now
          c.in_ok-change.ensures.kept.tables c.in_ok-change.ensures.carries inv.4,
      c.in_ok-change.ensures.last ∙ inv.5,
    )
