use Rattle.std.proofs.Common.{◌≢◌, get_or, sym, ap, ◌∙◌, rules}
use Rattle.svr_num.specs.Digits.{digits_in}
use Rattle.svr_num.proofs.Parsed.{digits_in-none, digits_in-plus, digits_in-not_utf8, not_utf8, parsed_digits, same_text}
use Rattle.svr_num.proofs.digits.read_digits.Goals as goal

pub returns-in_err-first : goal.returns-in_err-first
returns-in_err-first c = let none = digits_in-none c.args.text.now (search rules) in search (rules, none)

pub returns-then-branch-eq43 : goal.returns-then-branch-eq43
returns-then-branch-eq43 c = digits_in-plus c.args.text.now (search rules)

pub returns-in_err-ok : goal.returns-in_err-ok
returns-in_err-ok c =
    let none = digits_in-not_utf8 c.args.text.now (not_utf8 c.args.text.now _ c.from_utf8.result c.from_utf8.ensures.cases (sym c.ok.ensures.value ∙ c.in_err-ok.was)) in
    search (rules, none)

pub returns : goal.returns
returns c =
    let same = same_text c.args.text.now _ c.from_utf8.result _ c.from_utf8.ensures.cases (sym c.ok.ensures.value ∙ c.in_ok-ok.was) in
    let other : get_or c.args.text.now 0 0 ≢ 43 = search rules in
    let plain : get_or c.in_ok-ok.field-0.now 0 0 ≢ 43 = λ e. other (ap (λ t. get_or t 0 0) (sym same) ∙ e) in
    c.ok-2.ensures.value ∙ parsed_digits c.in_ok-ok.field-0.now c.parse.result c.parse.ensures.value.0 plain ∙ ap digits_in same
