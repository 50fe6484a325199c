use Rattle.std.proofs.Common.{rules, ◌≡◌, ◌+◌, ◌-◌, ◌^◌, ℕ, List, length, min, ap, sym, subst, ◌∙◌}
use Rattle.std.specs.BTreeMap.{insert_entry}
use Rattle.std.specs.Cmp.Lexicographic.{slice_cmp}
use Rattle.std.specs.Ordering.{nat_cmp}
use Rattle.svr_postpage.specs.declared.page_ref.PageRef.{PageRef}
use Rattle.svr_long.specs.Lists.{SetsPages, page_count}
use Rattle.svr_long.proofs.Counting.{have_pages, min-more, page_count-put, sets_pages}
use Rattle.svr_long.proofs.lists.LongLists.put.Goals as goal

pub invariant_of-self-2 : goal.invariant_of-self-2
invariant_of-self-2 c =
    let changed : c.insert.new.self.entries ≡ insert_entry (slice_cmp nat_cmp) c.args.self.now c.args.term c.args.pages.items = search rules in
    let count : c.saturating_add-count.result ≡ min (min (page_count c.args.self.now) (2 ^ 64 - 1) + length c.args.pages.items) (2 ^ 64 - 1) = search rules in
    let new : List (List ℕ × List PageRef) = c.insert.new.self.entries in
    let sets : SetsPages c.self.inside.lists.entries new c.args.term c.args.pages.items =
    subst (λ (pages : List PageRef). SetsPages c.self.inside.lists.entries new c.args.term pages) c.new.ensures
    (sets_pages c.self.inside.lists.entries new c.args.term c.new.result c.in_ok-insert.ensures.updates.0) in (
      count ∙ min-more (page_count c.args.self.now) (length c.args.pages.items)
          ∙ ap (λ (n : ℕ). min n (2 ^ 64 - 1)) (sym (ap page_count changed ∙ page_count-put c.args.term c.args.pages.items c.args.self.now c.requires.absent)),
      have_pages c.self.inside.lists.entries new c.args.term c.args.pages.items c.self.invariant.1 sets c.requires.some,
    )

pub returns-clause-sets : goal.returns-clause-sets
returns-clause-sets c =
    let new : List (List ℕ × List PageRef) = c.insert.new.self.entries in
    let updated : SetsPages c.self.inside.lists.entries new c.args.term c.new.result =
    sets_pages c.self.inside.lists.entries new c.args.term c.new.result c.in_ok-insert.ensures.updates.0 in
    subst (λ (old : List (List ℕ × List PageRef)). SetsPages old new c.args.term c.args.pages.items) c.self.view_is
    (subst (λ (pages : List PageRef). SetsPages c.self.inside.lists.entries new c.args.term pages) c.new.ensures updated)
