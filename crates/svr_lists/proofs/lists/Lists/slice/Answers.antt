use Rattle.std.proofs.Common.{subst}
use Rattle.std.proofs.lemmas.Result.{IfOk-weaker}
use Rattle.svr_lists.specs.Lists.{ListsValue}
use Rattle.svr_lists.specs.Slices.{IsSliceBy, Slice}
use Rattle.svr_lists.specs.Slices.{AsksSlice}
use Rattle.svr_lists.proofs.Asked.{asks-slice}
use Rattle.svr_lists.proofs.Sliced.{slice-by}
use Rattle.svr_lists.proofs.lists.Lists.slice.Goals as goal

pub returns-clause-slice : goal.returns-clause-slice
returns-clause-slice g c =
    IfOk-weaker c.slice_terms.result _ _
    (λ (slice : Slice) is bytes told. subst (λ (v : ListsValue). IsSliceBy v c.args.most bytes slice) c.self.view_is
    (slice-by _ c.in-Some.run' c.args.most bytes slice c.in-Some.is (is bytes told)))
    c.slice_terms.ensures.slice

pub returns-clause-asks : goal.returns-clause-asks
returns-clause-asks g c =
    subst (λ (v : ListsValue). AsksSlice (g.R.PageReader.told c.args.reader.now) g.R.PageReader.gives g.R.PageReader.fails v c.args.most
    c.args.reader.now c.slice_terms.new.reader c.slice_terms.result) c.self.view_is
    (asks-slice g.R.PageReader.gives g.R.PageReader.fails (g.R.PageReader.told c.args.reader.now)
    (record { index = c.self.inside.index; merge = c.self.inside.merge }) c.in-Some.run' c.args.most c.args.reader.now
    c.slice_terms.new.reader c.slice_terms.result c.in-Some.is c.slice_terms.ensures.asks)
