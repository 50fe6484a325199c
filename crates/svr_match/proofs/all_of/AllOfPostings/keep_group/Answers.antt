use Rattle.std.proofs.Common.{◌≡◌, ◌∷◌, List, ℕ, Option, Result, refl, subst, unwrap_or}
use Rattle.std.specs.List.{flat_map}
use Rattle.std.specs.Result.{OnOk}
use Rattle.std.proofs.lemmas.List.Kept.{IsStrictlyIncreasing-filter}
use Rattle.std.proofs.lemmas.Result.{on_ok_weaker}
use Rattle.svr_listing.specs.Joined.{is_in}
use Rattle.svr_iter.specs.Asked.{Asks}
use Rattle.svr_iter.proofs.Asking.{asks_both, asks_err, asks_first}
use Rattle.svr_iter.proofs.Choosing.{all_up_to, up_to_own}
use Rattle.svr_match.specs.Joined.{common_of, common_with}
use Rattle.svr_match.proofs.Matching.{all_taken, ids_in, with_first}
use Rattle.svr_match.proofs.Together.{common-kept}
use Rattle.svr_match.proofs.all_of.AllOfPostings.keep_group.Goals as goal

on_ok : {T E P Q : Type 0} (r : Result T E) → OnOk r P → (P → Q) → OnOk r Q
on_ok r p f = on_ok_weaker r f p

pub keep_each-requires-clause-up_to : goal.keep_each-requires-clause-up_to
keep_each-requires-clause-up_to g c =
    (all_up_to g.P.Postings.next c.in-Some.key (c.args.self.now.first ∷ c.args.self.now.others.items)
    (up_to_own _ _ c.in-Some.ensures.key)).1

pub keep_each-requires-clause-ascending : goal.keep_each-requires-clause-ascending
keep_each-requires-clause-ascending g c =
    let keeps = c.in_ok-keep_at-in-Some.ensures.keeps in
    rw keeps.kept (IsStrictlyIncreasing-filter (λ id. is_in id keeps.ids) c.args.ids.now.items c.requires.ascending)

pub returns-in_ok-keep_at-in-Some-clause-keeps : goal.returns-in_ok-keep_at-in-Some-clause-keeps
returns-in_ok-keep_at-in-Some-clause-keeps g c = on_ok c.keep_each.result c.keep_each.ensures.takes (λ others.
    let keeps = c.in_ok-keep_at-in-Some.ensures.keeps in
    let ids : List ℕ = common_of (keeps.ids ∷ ids_in others.turns) in
    let Then : List (List ℕ) → Type 0 = λ all. ids ≡ common_of all in
    let are = with_first g.P.Postings.groups g.P.Postings.next g.P.Postings.may g.P.Postings.pages
    (g.R.PageReader.told c.args.reader.now) _ c.in-Some.key
    c.args.self.now.first c.keep_at.new.list c.args.self.now.others.items c.keep_each.new.lists.items keeps.ids
    (λ all. c.keep_each.new.ids.items ≡ common_with c.keep_at.new.ids.items all) Then keeps.takes
    c.in_ok-keep_at-in-Some.ensures.reader.same_told others refl in
    let t = all_taken g.P.Postings.groups g.P.Postings.next g.P.Postings.may g.P.Postings.pages
    (g.R.PageReader.told c.args.reader.now) c.in-Some.key
    (c.args.self.now.first ∷ c.args.self.now.others.items)
    (c.keep_at.new.list ∷ c.keep_each.new.lists.items) Then ids are c.in-Some.ensures.key c.in-Some.ensures.within
    (λ p bytes. g.met.P.Postings.lawful p bytes) are.holds in
    record {
      ids = ids;
      takes = record { first = t.first; lawful = t.lawful; next_less = t.next_less; same_may = t.same_may; same_pages = t.same_pages };
      kept = common-kept c.args.ids.now.items c.keep_at.new.ids.items c.keep_each.new.ids.items keeps.ids
          (ids_in others.turns) keeps.kept others.holds;
    })

pub returns-in_ok-keep_at-in-Some-clause-asks : goal.returns-in_ok-keep_at-in-Some-clause-asks
returns-in_ok-keep_at-in-Some-clause-asks g c =
    subst (λ (o : Option ℕ). Asks g.R.PageReader.gives g.R.PageReader.fails
    (flat_map (λ p. g.P.Postings.pages p (unwrap_or o 0)) (c.args.self.now.first ∷ c.args.self.now.others.items)) c.args.reader.now
    c.keep_each.new.reader c.keep_each.result)
    c.in-Some.ensures.key (asks_both g.R.PageReader.gives g.R.PageReader.fails _ _ c.args.reader.now c.keep_at.new.reader c.keep_each.new.reader _
    c.keep_each.result c.in_ok-keep_at-in-Some.ensures.asks c.keep_each.ensures.asks)

pub returns-in_err-keep_at-in-Some-clause-asks : goal.returns-in_err-keep_at-in-Some-clause-asks
returns-in_err-keep_at-in-Some-clause-asks g c =
    subst (λ (o : Option ℕ). Asks g.R.PageReader.gives g.R.PageReader.fails
    (flat_map (λ p. g.P.Postings.pages p (unwrap_or o 0)) (c.args.self.now.first ∷ c.args.self.now.others.items)) c.args.reader.now
    c.keep_at.new.reader c.from_residual.result)
    c.in-Some.ensures.key (asks_err g.R.PageReader.gives g.R.PageReader.fails _ c.args.reader.now c.keep_at.new.reader _ c.from_residual.result
    c.from_residual.ensures.1 (asks_first g.R.PageReader.gives g.R.PageReader.fails _ _ c.args.reader.now c.keep_at.new.reader _
    c.in_err-keep_at-in-Some.ensures.asks))
