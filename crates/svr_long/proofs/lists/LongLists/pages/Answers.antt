use Rattle.std.proofs.Common.{rules, ◌≡◌, List, Option, Some, None, ◌∙◌}
use Rattle.std.specs.BTreeMap.{is_at}
use Rattle.std.specs.Cmp.Lexicographic.{slice_cmp}
use Rattle.std.specs.Map.{lookup}
use Rattle.std.specs.Ordering.{nat_cmp}
use Rattle.svr_postpage.specs.declared.page_ref.PageRef.{PageRef}
use Rattle.svr_long.proofs.Counting.{found-none, found-pages}
use Rattle.svr_long.proofs.lists.LongLists.pages.Goals as goal

pub returns-in-Some-clause-value : goal.returns-in-Some-clause-value
returns-in-Some-clause-value c =
    let found : Some c.in-Some.list.now ≡ lookup (is_at (slice_cmp nat_cmp c.args.term.now)) c.args.self.now = search rules in
    c.as_slice.ensures.value ∙ found-pages c.args.self.now c.args.term.now (Some c.in-Some.list.now) found

pub returns-in-None-clause-value : goal.returns-in-None-clause-value
returns-in-None-clause-value c =
    let found : ◌≡◌ {A = Option (List PageRef)} None (lookup (is_at (slice_cmp nat_cmp c.args.term.now)) c.args.self.now) = search rules in
    found-pages c.args.self.now c.args.term.now None found

pub returns-in-None-clause-some : goal.returns-in-None-clause-some
returns-in-None-clause-some c =
    let found : ◌≡◌ {A = Option (List PageRef)} None (lookup (is_at (slice_cmp nat_cmp c.args.term.now)) c.args.self.now) = search rules in
    found-none c.args.self.now c.args.term.now found
