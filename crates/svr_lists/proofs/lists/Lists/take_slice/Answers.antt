use Rattle.std.proofs.Common.{subst}
use Rattle.std.proofs.lemmas.Result.{on_ok_weaker}
use Rattle.svr_lists.specs.Lists.{ListsValue}
use Rattle.svr_lists.specs.Slices.{Slice}
use Rattle.svr_lists.specs.Taken.{TakesSlice}
use Rattle.svr_lists.proofs.Taking.{takes-slice}
use Rattle.svr_lists.proofs.lists.Lists.take_slice.Goals as goal

pub returns-clause-takes : goal.returns-clause-takes
returns-clause-takes c =
    let slice : Slice = record { terms = c.args.terms.now; pages = c.args.pages.now } in
    let new : ListsValue = record { index = c.self.inside.index; merge = c.take_into.new.merge } in
    on_ok_weaker c.take_into.result
    (λ takes. subst (λ (v : ListsValue). TakesSlice v new slice c.args.at) c.self.view_is
    (takes-slice c.self.inside.index c.self.inside.merge c.take_into.new.merge slice c.args.at takes))
    c.take_into.ensures.takes
