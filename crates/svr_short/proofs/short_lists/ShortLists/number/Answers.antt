use Rattle.std.proofs.Common.{rules, ◌≡◌, ◌<◌, ◌+◌, length, subst}
use Rattle.svr_short.specs.Short.{Lists, mark_by, mark_in, number_of}
use Rattle.svr_short.proofs.Keeping.{marked-more, number-stays, numbers-new}
use Rattle.svr_short.proofs.short_lists.ShortLists.number.Goals as goal

pub returns-in-Some-clause-below : goal.returns-in-Some-clause-below
returns-in-Some-clause-below c =
    subst (λ (v : Lists). c.in-Some.number.now < length v.numbers) c.self.view_is
    (c.self.invariant.0.below c.args.term.now c.in-Some.number.now (search rules))

pub invariant_of-self-2 : goal.invariant_of-self-2
invariant_of-self-2 c =
    let count : length c.insert.new.self.entries ≡ length c.self.inside.numbers.entries + 1 = search rules in
    rw count (numbers-new _ _ _ c.args.term.now c.self.invariant.0 (search rules), marked-more _ _ _ _ c.self.invariant.1)

pub returns-clause-stays : goal.returns-clause-stays
returns-clause-stays c = λ t key id.
    subst (λ (v : Lists). mark_by c.self.inside.marks.entries (number_of c.insert.new.self.entries t) key id ≡ mark_in v t key id)
    c.self.view_is
    (number-stays (length c.self.inside.numbers.entries) c.self.inside.marks.entries (number_of c.self.inside.numbers.entries)
    (number_of c.insert.new.self.entries) c.args.term.now
    c.self.invariant.1.term_below (search rules) (search rules) t key id)
