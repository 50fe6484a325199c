use Rattle.std.proofs.Common.{sym, ap, ◌∙◌, rules}
use Rattle.svr_num.specs.Digits.{int_in}
use Rattle.svr_num.proofs.Parsed.{int_in-not_utf8, not_utf8, parsed_int, same_text}
use Rattle.svr_num.proofs.digits.read_int.Goals as goal

pub returns-in_err-ok : goal.returns-in_err-ok
returns-in_err-ok c =
    let none = int_in-not_utf8 c.args.text.now (not_utf8 c.args.text.now _ c.from_utf8.result c.from_utf8.ensures.cases (sym c.ok.ensures.value ∙ c.in_err-ok.was)) in
    search (rules, none)

pub returns : goal.returns
returns c =
    let same = same_text c.args.text.now _ c.from_utf8.result _ c.from_utf8.ensures.cases (sym c.ok.ensures.value ∙ c.in_ok-ok.was) in
    c.ok-2.ensures.value ∙ parsed_int c.in_ok-ok.field-0.now c.parse.result c.parse.ensures.value.0 ∙ ap int_in same
