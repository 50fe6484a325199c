use Rattle.std.proofs.Common.{◌≡◌, Result}
use Rattle.std.specs.Result.{OnOk}
use Rattle.std.proofs.lemmas.Result.{on_ok_weaker}
use Rattle.svr_iter.proofs.Choosing.{all_up_to, up_to_own}
use Rattle.svr_match.specs.Joined.{any_of}
use Rattle.svr_match.proofs.Matching.{any_taken}
use Rattle.svr_match.proofs.any_of.AnyOfPostings.take_group.Goals as goal

on_ok : {T E P Q : Type 0} (r : Result T E) → OnOk r P → (P → Q) → OnOk r Q
on_ok r p f = on_ok_weaker r f p

pub take_each-requires-clause-up_to : goal.take_each-requires-clause-up_to
take_each-requires-clause-up_to g c = all_up_to g.P.Postings.next c.in-Some.key c.args.self.now.lists.items
    (up_to_own _ _ c.in-Some.ensures.key)

pub returns-in-Some-clause-takes : goal.returns-in-Some-clause-takes
returns-in-Some-clause-takes g c = on_ok c.take_each.result c.take_each.ensures.takes (λ are.
    let t = any_taken g.P.Postings.groups g.P.Postings.next g.P.Postings.may g.P.Postings.pages
    (g.R.PageReader.told c.args.reader.now) c.in-Some.key
    c.args.self.now.lists.items c.take_each.new.lists.items
    (λ all. c.take_each.new.ids.items ≡ any_of all) c.take_each.new.ids.items are c.in-Some.ensures.key c.in-Some.ensures.within
    (λ p bytes. g.met.P.Postings.lawful p bytes) are.holds in
    record { first = t.first; lawful = t.lawful; next_less = t.next_less; same_may = t.same_may; same_pages = t.same_pages })
