use Rattle.std.proofs.Common.{◌∙◌, ◌↔◌, sym, subst}
use Rattle.std.specs.Cmp.Lexicographic.{slice_cmp}
use Rattle.std.specs.Ordering.{nat_cmp}
use Rattle.std.specs.List.{Contains}
use Rattle.std.specs.List.Sorted.{IsStrictlySortedBy}
use Rattle.std.proofs.lemmas.Result.{IfOk-weaker}
use Rattle.svr_tokens.specs.Tokens.{terms_in}
use Rattle.svr_tokens.proofs.Laws.{sorted-tokens_of, Contains-tokens_of}
use Rattle.svr_tokens.proofs.words.tokens.Goals as goal

pub returns-clause-ascending : goal.returns-clause-ascending
returns-clause-ascending c =
    IfOk-weaker c.from_set.result _ _
    (λ ts e. subst (IsStrictlySortedBy (slice_cmp nat_cmp)) (sym (e ∙ c.in_ok-gather.ensures)) (sorted-tokens_of c.args.text.now))
    c.from_set.ensures

pub returns-clause-members : goal.returns-clause-members
returns-clause-members c =
    IfOk-weaker c.from_set.result _ _
    (λ ts e t. subst (λ us. Contains us t ↔ Contains (terms_in c.args.text.now) t) (sym (e ∙ c.in_ok-gather.ensures))
    (Contains-tokens_of c.args.text.now t))
    c.from_set.ensures
