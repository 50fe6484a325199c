use Rattle.std.proofs.Common.{Result, Ok, Err, OnOk, sym, subst}
use Rattle.serde_json.specs.View.{view}
use Rattle.svr_record.specs.Limits.{IsSchemaText}
use Rattle.svr_core.proofs.Written.{IsSchemaText-written, value_in-written}
use Rattle.svr_core.proofs.served.schema_body.Goals as goal

on_ok : {T E : Type 0} (P : Type 0) (result : Result T E) → P → OnOk result P
on_ok P (Ok value) p = p
on_ok P (Err why) p = tt

pub write_schema-requires : goal.write_schema-requires
write_schema-requires c =
    let made = c.in_ok-text.ensures in
    subst IsSchemaText (sym c.as_slice.ensures.value)
    (IsSchemaText-written c.in_ok-text.text.items (view c.args.schema.now.value) c.requires (made.text c.requires.plain)
    (made.reads_back c.args.schema.now.nests))

pub returns-clause-read_again : goal.returns-clause-read_again
returns-clause-read_again c =
    let made = c.in_ok-text.ensures in
    on_ok _ c.write_schema.result
    (value_in-written c.in_ok-text.text.items (view c.args.schema.now.value) (made.text c.requires.plain) made.utf8
    (made.reads_back c.args.schema.now.nests))
