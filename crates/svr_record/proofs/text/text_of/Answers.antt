use Rattle.std.proofs.Common.{ap, ◌∙◌, Some, None, sym}
use Rattle.std.proofs.lemmas.Bool.{cond-false, false_from_ne_true}
use Rattle.std.proofs.lemmas.Str.{IsUtf8-from_is_utf8, is_utf8-from_IsUtf8}
use Rattle.svr_record.proofs.text.text_of.Goals as goal

pub returns-in_ok-new-in-Ok : goal.returns-in_ok-new-in-Ok
returns-in_ok-new-in-Ok c =
    let utf8 = is_utf8-from_IsUtf8 _ c.in-Ok.ensures.cases.1 in
    rw utf8 (ap (λ x. Some x) (sym (c.in_ok-new-in-Ok.ensures ∙ c.in-Ok.ensures.cases.0)))

pub returns-in-Err : goal.returns-in-Err
returns-in-Err c =
    cond-false _ _ None (false_from_ne_true _ (λ e. c.in-Err.ensures.cases.0 (IsUtf8-from_is_utf8 _ e)))
