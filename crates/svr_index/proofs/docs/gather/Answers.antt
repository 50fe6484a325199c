use Rattle.std.proofs.Common.{◌≡◌, ◌<◌, ◌++◌, ◌^◌, ℕ, IfSome, Option, [], Bool, List, refl, sym, ap, subst, ◌∙◌, arith, rules}
use Rattle.svr_listing.specs.Groups.{ids_in}
use Rattle.svr_iter.proofs.Asking.{asks_err}
use Rattle.svr_index.specs.Layout.{pages_below}
use Rattle.svr_index.proofs.EachPage.{given-all, given-fault, given-memory, given-more}
use Rattle.svr_index.proofs.Gathering.{AreGathered, HaveOneKey, front-more, gathered-more, gathered-none}
use Rattle.svr_index.proofs.docs.gather.Goals as goal

pub groups-init : goal.groups-init
groups-init g c = record {
  front = λ bytes told. ap (λ (l : List ℕ). l ++ ids_in (g.P.Postings.groups c.args.list.now bytes)) c.new-all.ensures.items;
  gathered = subst (AreGathered (g.P.Postings.may c.args.list.now) (g.P.Postings.next c.args.list.now)) (sym c.new-all.ensures.items)
      (gathered-none _ _);
  given = record { given = []; in_turn = refl; are_these = refl };
  may = refl;
  told = refl;
  ready = c.requires.ready;
  later = omega arith;
}

pub groups-preserved : goal.groups-preserved
groups-preserved g c =
    let all : c.push_ids.new.into.items ≡ c.groups.all.items ++ c.take_group.new.ids.items = search rules in
    let may : g.P.Postings.may c.groups.list ≡ g.P.Postings.may c.args.list.now = c.groups.invariant.may in
    record {
      front = λ bytes told.
          ap (λ (l : List ℕ). l ++ ids_in (g.P.Postings.groups c.take_group.new.self bytes)) all
          ∙ front-more c.groups.all.items c.take_group.new.ids.items _ (g.P.Postings.groups c.args.list.now bytes)
          (g.P.Postings.groups c.groups.list bytes) (g.P.Postings.groups c.take_group.new.self bytes)
          (c.groups.invariant.front bytes told)
          (c.in_ok-take_group.ensures.takes.first bytes (c.groups.invariant.told ∙ told));
      gathered = subst (AreGathered (g.P.Postings.may c.args.list.now) (g.P.Postings.next c.take_group.new.self)) (sym all)
          (subst (λ (m : ℕ → ℕ → Bool). AreGathered m (g.P.Postings.next c.take_group.new.self)
          (c.groups.all.items ++ c.take_group.new.ids.items)) may
          (gathered-more (g.P.Postings.may c.groups.list) (g.P.Postings.next c.groups.list) _ c.groups.all.items c.take_group.new.ids.items
          (subst HaveOneKey (sym may) c.requires.one_key)
          (subst (λ (m : ℕ → ℕ → Bool). AreGathered m (g.P.Postings.next c.groups.list) c.groups.all.items) (sym may)
          c.groups.invariant.gathered)
          (search rules) c.in_ok-take_group.ensures.takes.lawful c.in_ok-take_group.ensures.takes.next_less));
      given = given-more g.R.PageReader.gives g.R.PageReader.fails (g.P.Postings.next c.groups.list) (g.P.Postings.pages c.groups.list) _ (2 ^ 48)
          _ _ _ (search rules)
          (subst (λ (o : Option ℕ). IfSome o (λ key. key < 2 ^ 48)) c.next_key.ensures.key c.next_key.ensures.within)
          (g.met.P.Postings.gone c.groups.list) c.groups.invariant.given _ (g.P.Postings.next c.take_group.new.self)
          (g.P.Postings.pages c.take_group.new.self) c.in_ok-take_group.ensures.asks (g.met.P.Postings.gone c.take_group.new.self)
          c.in_ok-take_group.ensures.takes.same_pages c.in_ok-take_group.ensures.takes.next_less;
      may = c.in_ok-take_group.ensures.takes.same_may ∙ may;
      told = c.in_ok-take_group.ensures.reader.same_told ∙ c.groups.invariant.told;
      ready = c.in_ok-take_group.ensures.reader.is_ready;
      later = omega (arith, c.in_ok-take_group.ensures.reader.later, c.groups.invariant.later);
    }

pub returns-in_err-take_group-clause-asks : goal.returns-in_err-take_group-clause-asks
returns-in_err-take_group-clause-asks g c =
    asks_err g.R.PageReader.gives g.R.PageReader.fails _ _ _ _ _ c.from_residual.ensures.1
    (given-fault g.R.PageReader.gives g.R.PageReader.fails (g.P.Postings.next c.groups.list) (g.P.Postings.pages c.groups.list) _ (2 ^ 48)
    _ _ _ (search rules) (subst (λ (o : Option ℕ). IfSome o (λ key. key < 2 ^ 48)) c.next_key.ensures.key c.next_key.ensures.within)
    (g.met.P.Postings.gone c.groups.list) c.groups.invariant.given _ c.in_err-take_group.ensures.asks)

pub returns-in_err-push_ids-clause-asks : goal.returns-in_err-push_ids-clause-asks
returns-in_err-push_ids-clause-asks g c =
    given-memory g.R.PageReader.gives g.R.PageReader.fails (pages_below (g.P.Postings.pages c.take_group.new.self) (2 ^ 48)) _ _ _ _ (search rules)
    (given-more g.R.PageReader.gives g.R.PageReader.fails (g.P.Postings.next c.groups.list) (g.P.Postings.pages c.groups.list) _ (2 ^ 48)
    _ _ _ (search rules) (subst (λ (o : Option ℕ). IfSome o (λ key. key < 2 ^ 48)) c.next_key.ensures.key c.next_key.ensures.within)
    (g.met.P.Postings.gone c.groups.list) c.groups.invariant.given _ (g.P.Postings.next c.take_group.new.self)
    (g.P.Postings.pages c.take_group.new.self) c.in_ok-take_group.ensures.asks (g.met.P.Postings.gone c.take_group.new.self)
    c.in_ok-take_group.ensures.takes.same_pages c.in_ok-take_group.ensures.takes.next_less)

pub returns-clause-asks : goal.returns-clause-asks
returns-clause-asks g c =
    given-all g.R.PageReader.gives g.R.PageReader.fails (g.P.Postings.pages c.groups.list) _ (2 ^ 48) _ _ _ (g.P.Postings.next c.groups.list)
    (search rules) (g.met.P.Postings.gone c.groups.list) c.groups.invariant.given
