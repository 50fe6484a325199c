use Rattle.std.proofs.Common.{List, ℕ, filter, refl, ap, ◌∙◌}
use Rattle.std.specs.Global.{Vec}
use Rattle.svr_listing.specs.Joined.{is_in}
use Rattle.svr_iter.proofs.Choosing.{all_up_to, up_to_own}
use Rattle.svr_match.specs.Joined.{any_of}
use Rattle.svr_match.proofs.Matching.{any_taken, ids_in}
use Rattle.svr_match.proofs.any_of.AnyOfPostings.keep_group.Goals as goal

pub keep_some-requires-clause-up_to : goal.keep_some-requires-clause-up_to
keep_some-requires-clause-up_to g c = all_up_to g.P.Postings.next c.in-Some.key c.args.self.now.lists.items
    (up_to_own _ _ c.in-Some.ensures.key)

pub returns-in_ok-keep_some-in-Some-clause-keeps : goal.returns-in_ok-keep_some-in-Some-clause-keeps
returns-in_ok-keep_some-in-Some-clause-keeps g c =
    let are = c.in_ok-keep_some-in-Some.ensures.takes in
    let ids : List ℕ = any_of (ids_in are.turns) in
    let t = any_taken g.P.Postings.groups g.P.Postings.next g.P.Postings.may g.P.Postings.pages
    (g.R.PageReader.told c.args.reader.now) c.in-Some.key
    c.args.self.now.lists.items c.keep_some.new.lists.items _ ids are c.in-Some.ensures.key c.in-Some.ensures.within
    (λ p bytes. g.met.P.Postings.lawful p bytes) refl in
    record {
      ids = ids;
      takes = record { first = t.first; lawful = t.lawful; next_less = t.next_less; same_may = t.same_may; same_pages = t.same_pages };
      kept = ap (λ (v : Vec ℕ). v.items) c.swap.ensures.x_after ∙ are.holds
          ∙ ap (λ (l : List ℕ). filter (λ id. is_in id ids) l) c.deref.ensures.value;
    }
