use Rattle.std.proofs.Common.{◌+◌, ℕ, List, drop, filter, ap, refl, ◌∙◌}
use Rattle.svr_listing.specs.Joined.{is_in}
use Rattle.svr_iter.specs.Mem.{holds}
use Rattle.svr_iter.specs.MemLaws.{AreGroups-drop}
use Rattle.svr_iter.proofs.MemTaking.{some_left, taken_as, takes_group}
use Rattle.svr_iter.proofs.mem_postings.MemPostingsPostings.keep_group.Goals as goal

pub returns-clause-keeps : goal.returns-clause-keeps
returns-clause-keeps g c =
    let m = c.args.self.now in
    let given = m.given.items in
    let t = takes_group (holds given) (g.R.PageReader.told c.args._reader.now) (drop m.at given)
    (drop (m.at + 1) given) c.index.result.now.ids
    (AreGroups-drop m.at given m.ordered)
    (taken_as given m.at c.index.result.now _ (some_left given m.at c.requires.some) c.index.ensures refl) in
    record {
      ids = c.index.result.now.ids;
      takes = record { first = t.first; lawful = t.lawful; next_less = t.next_less; same_may = refl; same_pages = t.same_pages };
      kept = c.keep_common.ensures ∙ ap (λ (l : List ℕ). filter (λ id. is_in id l) c.args.ids.now.items) c.as_slice.ensures;
    }
