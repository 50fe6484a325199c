use Rattle.std.proofs.Common.{rules, ◌≡◌, [], ◌∷◌, option_copied, ap, ◌∙◌}
use Rattle.std.specs.BTreeMap.Range.{entries_between}
use Rattle.std.specs.Cmp.Lexicographic.{slice_cmp}
use Rattle.std.specs.Ordering.{nat_cmp}
use Rattle.std.specs.declared.ops.Bound.TheVariants as bound
use Rattle.svr_long.specs.Layout.{behind}
use Rattle.svr_long.proofs.Counting.{first_term, first_term-behind}
use Rattle.svr_long.proofs.lists.LongLists.next_term.Goals as goal

pub returns-in-Some-clause-value : goal.returns-in-Some-clause-value
returns-in-Some-clause-value c =
    let found : (c.in-Some.term.now, c.in-Some.field-0-1.now) ∷ c.next.new.self
    ≡ entries_between (slice_cmp nat_cmp) (behind (option_copied c.args.after)) bound.Unbounded c.args.self.now = search rules in
    ap first_term found ∙ first_term-behind (option_copied c.args.after) c.args.self.now

pub returns-in-None-clause-value : goal.returns-in-None-clause-value
returns-in-None-clause-value c =
    let found : [] ≡ entries_between (slice_cmp nat_cmp) (behind (option_copied c.args.after)) bound.Unbounded c.args.self.now = search rules in
    ap first_term found ∙ first_term-behind (option_copied c.args.after) c.args.self.now
