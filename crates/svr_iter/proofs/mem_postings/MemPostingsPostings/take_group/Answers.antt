use Rattle.std.proofs.Common.{◌++◌, ◌+◌, ℕ, List, drop, ap, refl, ◌∙◌}
use Rattle.svr_iter.specs.Mem.{holds}
use Rattle.svr_iter.specs.MemLaws.{AreGroups-drop}
use Rattle.svr_iter.proofs.MemTaking.{some_left, taken_as, takes_group}
use Rattle.svr_iter.proofs.mem_postings.MemPostingsPostings.take_group.Goals as goal

pub returns-in-Ok-clause-takes : goal.returns-in-Ok-clause-takes
returns-in-Ok-clause-takes g c =
    let m = c.args.self.now in
    let given = m.given.items in
    let same = c.in-Ok.ensures.items ∙ ap (λ (l : List ℕ). l ++ c.as_slice.result.now) c.clear.ensures.items ∙ c.as_slice.ensures in
    let t = takes_group (holds given) (g.R.PageReader.told c.args._reader.now) (drop m.at given)
    (drop (m.at + 1) given) c.extend_from_slice.new.self.items
    (AreGroups-drop m.at given m.ordered)
    (taken_as given m.at c.index.result.now _ (some_left given m.at c.requires.some) c.index.ensures same) in
    record { first = t.first; lawful = t.lawful; next_less = t.next_less; same_may = refl; same_pages = t.same_pages }
