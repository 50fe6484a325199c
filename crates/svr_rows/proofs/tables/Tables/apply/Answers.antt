use Rattle.std.proofs.Common.{sym, ap, ◌∙◌, inl, inr}
use Rattle.svr_rows.specs.Changes.{refusal_of}
use Rattle.svr_rows.proofs.Tested.{CanPut-insert, CanPut-update, place-delete}
use Rattle.svr_rows.proofs.tables.Tables.apply.Goals as goal

pub remove-requires : goal.remove-requires
remove-requires c = place-delete c.args.self.now c.in-Delete.table c.in-Delete.id
    (ap (refusal_of c.args.self.now) (sym c.in-Delete.is) ∙ c.requires)

pub put-requires : goal.put-requires
put-requires c = elim c.in-Insert.is [
  | inl e ↦ CanPut-insert c.args.self.now c.in-Insert.table c.in-Insert.row (ap (refusal_of c.args.self.now) (sym e) ∙ c.requires)
  | inr e ↦ CanPut-update c.args.self.now c.in-Insert.table c.in-Insert.row (ap (refusal_of c.args.self.now) (sym e) ∙ c.requires)
]
