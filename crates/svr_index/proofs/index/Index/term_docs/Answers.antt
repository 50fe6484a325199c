use Rattle.std.proofs.Common.{rules, List, sym, subst, ◌∙◌}
use Rattle.std.specs.List.Sorted.{IsStrictlyIncreasing}
use Rattle.svr_iter.specs.Asked.{Asks}
use Rattle.svr_iter.proofs.Asking.{InTurn-sound, asks_all, asks_err, given_all}
use Rattle.svr_postpage.specs.Reading.{InTurn}
use Rattle.svr_postpage.specs.declared.page_ref.PageRef.{PageRef}
use Rattle.svr_index.specs.Docs.{StandUnder}
use Rattle.svr_index.proofs.EachPage.{list-pages}
use Rattle.svr_index.proofs.Gathering.{stand-under, written_back}
use Rattle.svr_index.proofs.index.Index.term_docs.Goals as goal

pub returns-in_err-ids-clause-asks : goal.returns-in_err-ids-clause-asks
returns-in_err-ids-clause-asks g c =
    subst (λ (pages : List PageRef). Asks g.R.PageReader.gives g.R.PageReader.fails pages c.args.reader.now c.gather.new.reader c.from_residual.result)
    (list-pages c.args.self.now c.args.term.now c.list_of-list.result c.list_of-list.ensures)
    (asks_err g.R.PageReader.gives g.R.PageReader.fails _ _ _ _ _ c.from_residual.ensures.1 c.in_err-ids.ensures.asks)

pub returns-clause-asks : goal.returns-clause-asks
returns-clause-asks g c =
    asks_all g.R.PageReader.gives g.R.PageReader.fails _ _ _ _
    (subst (λ (pages : List PageRef). InTurn g.R.PageReader.gives pages c.args.reader.now c.gather.new.reader)
    (list-pages c.args.self.now c.args.term.now c.list_of-list.result c.list_of-list.ensures)
    (given_all g.R.PageReader.gives g.R.PageReader.fails _ _ _ _ c.in_ok-ids.ensures.asks))

pub returns-clause-ids : goal.returns-clause-ids
returns-clause-ids g c bytes at =
    subst (StandUnder c.args.self.now c.args.term.now bytes)
    (sym (written_back c.in_ok-ids.ids.len c.sort_ids.new.ids c.in_ok-ids.ids.items (search rules)))
    (stand-under c.args.self.now c.args.term.now c.list_of-list.result bytes c.as_mut_slice.result.now c.sort_ids.new.ids
    c.list_of-list.ensures
    (InTurn-sound g.R.PageReader.told g.R.PageReader.gives g.met.R.PageReader.sound g.met.R.PageReader.same_told _ _ _
    (given_all g.R.PageReader.gives g.R.PageReader.fails _ _ _ _ (returns-clause-asks g c)) bytes at)
    (c.as_mut_slice.ensures.value ∙ c.in_ok-ids.ensures.all bytes at) c.sort_ids.ensures.same c.sort_ids.ensures.ascending)

pub returns-clause-ascending : goal.returns-clause-ascending
returns-clause-ascending g c =
    subst IsStrictlyIncreasing (sym (written_back c.in_ok-ids.ids.len c.sort_ids.new.ids c.in_ok-ids.ids.items (search rules)))
    c.sort_ids.ensures.ascending
