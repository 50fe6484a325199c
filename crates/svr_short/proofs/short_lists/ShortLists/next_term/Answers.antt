use Rattle.std.proofs.Common.{rules, ◌≡◌, Some, None, filter, subst}
use Rattle.std.specs.Cmp.Lexicographic.{slice_cmp}
use Rattle.std.specs.List.Sorted.{IsStrictlySortedBy}
use Rattle.std.specs.Map.{keys_of}
use Rattle.std.specs.Ordering.{nat_cmp}
use Rattle.svr_short.specs.Short.{Lists}
use Rattle.svr_short.proofs.Terms.{Entry, is_after, next_by}
use Rattle.svr_short.proofs.Turning.{Known, known_of}
use Rattle.svr_short.proofs.short_lists.ShortLists.next_term.Goals as goal

pub returns-in-Some : goal.returns-in-Some
returns-in-Some c =
    let known : Known c.args.self.now = known_of c.self.inside.numbers.entries c.self.inside.marks.entries c.args.self.now
    c.self.view_is c.self.invariant.0 c.self.invariant.1 in
    rw c.in-Some.is (next_by c.args.self.now (Some c.in-Some.term.now) c.range.result _ known
    (subst (λ (v : Lists). IsStrictlySortedBy (slice_cmp nat_cmp) (keys_of v.numbers)) c.self.view_is c.range.ensures.ordered)
    (subst (λ (v : Lists). c.range.result ≡ filter (λ (e : Entry). is_after (Some c.in-Some.term.now) e.0) v.numbers) c.self.view_is
    (c.range.ensures.between (search rules))) c.first_added.ensures)

pub returns-in-None : goal.returns-in-None
returns-in-None c =
    let known : Known c.args.self.now = known_of c.self.inside.numbers.entries c.self.inside.marks.entries c.args.self.now
    c.self.view_is c.self.invariant.0 c.self.invariant.1 in
    rw c.in-None.is (next_by c.args.self.now None c.range-in-None.result _ known
    (subst (λ (v : Lists). IsStrictlySortedBy (slice_cmp nat_cmp) (keys_of v.numbers)) c.self.view_is c.range-in-None.ensures.ordered)
    (subst (λ (v : Lists). c.range-in-None.result ≡ filter (λ (e : Entry). is_after None e.0) v.numbers) c.self.view_is
    (c.range-in-None.ensures.between (search rules))) c.first_added-in-None.ensures)
