use Rattle.std.proofs.Common.{◌≡◌, true, false, refl, rules}
use Rattle.std.specs.Str.{is_utf8}
use Rattle.std.proofs.lemmas.Str.{is_utf8-from_IsUtf8}
use Rattle.svr_csvload.proofs.Fields.{is_utf8-not}
use Rattle.svr_csvload.proofs.record.read_text.Goals as goal

pub returns-in_ok-new-in-Ok : goal.returns-in_ok-new-in-Ok
returns-in_ok-new-in-Ok c =
    let e : is_utf8 c.args.field.now ≡ true = is_utf8-from_IsUtf8 _ c.in-Ok.ensures.cases.1 in
    rw e (search rules)

pub returns-in-Err : goal.returns-in-Err
returns-in-Err c =
    let e : is_utf8 c.args.field.now ≡ false = is_utf8-not _ c.in-Err.ensures.cases.0 in
    rw e refl
