use Rattle.std.proofs.Common.{◌≡◌, rules, subst, sym}
use Rattle.std.specs.List.Sorted.{IsStrictlyIncreasing}
use Rattle.std.proofs.lemmas.Map.Keys.{IsStrictlyIncreasing-from_sorted}
use Rattle.svr_view.proofs.counted.ascending.Goals as goal

pub returns-clause-ascending : goal.returns-clause-ascending
returns-clause-ascending c =
    let all : c.in_ok-ids.ids.items ≡ c.args.ids.now.keys = search rules in
    subst IsStrictlyIncreasing (sym all) (IsStrictlyIncreasing-from_sorted c.args.ids.now.keys c.iter.ensures.ordered)
