use Rattle.std.proofs.Common.{◌≡◌, ◌≤◌, ◌<◌, ◌^◌, ◌++◌, [], ℕ, true, false, List, refl, sym, ap, subst, ◌∙◌, arith}
use Rattle.svr_num.specs.declared.hit.Hit.{Hit}
use Rattle.svr_num.specs.Hits.{best_hits, kth_score}
use Rattle.svr_num.proofs.Placed.{best_length}
use Rattle.svr_listing.specs.Groups.{hits_of}
use Rattle.svr_listing.proofs.Visiting.{SoFar-start}
use Rattle.svr_topk.specs.Scan.{goes_on}
use Rattle.svr_topk.specs.Top.{Top}
use Rattle.svr_topk.proofs.Ranking.{IsTop-best, IsTop-nil}
use Rattle.svr_topk.proofs.Searching.{KeepsPages-more, answers_at_end, asked_at_end, asks_err, given-fault, given-more, goes_on-some}
use Rattle.svr_topk.proofs.Searching.{nothing_asked, pages_here, room, room-fits, room-less, so_far-more}
use Rattle.svr_topk.proofs.search.scan.Goals as goal

pub returns-in-Err-clause-asks : goal.returns-in-Err-clause-asks
returns-in-Err-clause-asks g c = nothing_asked _ _ _ _ _

pub groups-init : goal.groups-init
groups-init g c =
    let fits : room (g.P.Postings.next c.args.matches.now) ≤ 2 ^ 48 = room-fits _ _ _ (g.met.P.Postings.lawful c.args.matches.now []) in
    let top : c.in-Ok.top ≡ record { k = c.args.k; hits = [] } = c.in-Ok.ensures in
    record {
      so_far = λ bytes told. rw (ap (λ (t : Top). t.hits) top) (SoFar-start _ _ _ _);
      top_k = ap (λ (t : Top). t.k) top;
      top = rw (ap (λ (t : Top). t.hits) top) (IsTop-nil c.args.k);
      room = omega arith;
      may = refl;
      pages = λ key lt. refl;
      given = record { given = []; in_turn = refl; are_these = λ bytes told. refl };
      told = refl;
      ready = c.requires.ready;
      later = omega arith;
    }

pub returns-in_err-take_group-clause-asks : goal.returns-in_err-take_group-clause-asks
returns-in_err-take_group-clause-asks g c =
    let goes : goes_on (g.P.Postings.next c.groups.matches) (g.M.Method.rules c.args.method.now).bound
    (kth_score c.args.k c.groups.top.hits) ≡ true =
    subst (λ (m : ℕ). goes_on (g.P.Postings.next c.groups.matches) (g.M.Method.rules c.args.method.now).bound
    (kth_score m c.groups.top.hits) ≡ true)
    c.groups.invariant.top_k (sym c.has_to_go_on.ensures ∙ c.groups-test.true) in
    asks_err _ _ _ _ _ _ _ c.from_residual.result c.from_residual.ensures.1
    (given-fault (g.R.PageReader.told c.args.reader.now) g.R.PageReader.gives g.R.PageReader.fails (g.P.Postings.may c.groups.matches) c.args.k
    (g.M.Method.rules c.args.method.now).bound (g.S.Scores.score_of c.args.scores.now)
    (g.P.Postings.groups c.args.matches.now) (g.P.Postings.groups c.groups.matches)
    (g.P.Postings.pages c.args.matches.now) (g.P.Postings.pages c.groups.matches) c.groups.groups c.groups.top.hits
    (g.P.Postings.next c.groups.matches) _ _ _
    c.groups.invariant.so_far (λ bytes. g.met.P.Postings.lawful c.groups.matches bytes) goes
    (pages_here _ _ _ _ _ goes c.groups.invariant.pages)
    c.groups.invariant.given _ c.in_err-take_group.ensures.asks)

pub groups-preserved : goal.groups-preserved
groups-preserved g c =
    let goes : goes_on (g.P.Postings.next c.groups.matches) (g.M.Method.rules c.args.method.now).bound
    (kth_score c.args.k c.groups.top.hits) ≡ true =
    subst (λ (m : ℕ). goes_on (g.P.Postings.next c.groups.matches) (g.M.Method.rules c.args.method.now).bound
    (kth_score m c.groups.top.hits) ≡ true)
    c.groups.invariant.top_k (sym c.has_to_go_on.ensures ∙ c.groups-test.true) in
    let new : c.rank_group.new.top.hits ≡ best_hits c.args.k
    (hits_of (g.S.Scores.score_of c.args.scores.now) c.take_group.new.ids.items ++ c.groups.top.hits) =
    ap (λ (t : Top). t.hits) c.rank_group.ensures
    ∙ ap (λ (m : ℕ). best_hits m (hits_of (g.S.Scores.score_of c.args.scores.now) c.deref.result.now ++ c.groups.top.hits))
    c.groups.invariant.top_k
    ∙ ap (λ (l : List ℕ). best_hits c.args.k (hits_of (g.S.Scores.score_of c.args.scores.now) l ++ c.groups.top.hits))
    c.deref.ensures.value in
    let less : room (g.P.Postings.next c.take_group.new.self) < room (g.P.Postings.next c.groups.matches) =
    room-less _ _ _ (goes_on-some _ _ _ goes).0 c.in_ok-take_group.ensures.takes.next_less in
    record {
      so_far = so_far-more _ _ _ _ _ _ _ _ _ _ _ _ _ c.groups.invariant.so_far c.groups.invariant.told
          c.in_ok-take_group.ensures.takes.first goes new;
      top_k = ap (λ (t : Top). t.k) c.rank_group.ensures ∙ c.groups.invariant.top_k;
      top = rw new (IsTop-best _ _);
      room = omega (arith, c.groups.invariant.room);
      may = c.in_ok-take_group.ensures.takes.same_may ∙ c.groups.invariant.may;
      pages = KeepsPages-more _ _ _ _ _ c.groups.invariant.pages c.in_ok-take_group.ensures.takes.same_pages
          c.in_ok-take_group.ensures.takes.next_less;
      given = given-more (g.R.PageReader.told c.args.reader.now) g.R.PageReader.gives g.R.PageReader.fails (g.P.Postings.may c.groups.matches)
          c.args.k
          (g.M.Method.rules c.args.method.now).bound (g.S.Scores.score_of c.args.scores.now)
          (g.P.Postings.groups c.args.matches.now) (g.P.Postings.groups c.groups.matches)
          (g.P.Postings.pages c.args.matches.now) (g.P.Postings.pages c.groups.matches) c.groups.groups c.groups.top.hits
          (g.P.Postings.next c.groups.matches) _ _ _
          c.groups.invariant.so_far (λ bytes. g.met.P.Postings.lawful c.groups.matches bytes) goes
          (pages_here _ _ _ _ _ goes c.groups.invariant.pages)
          c.groups.invariant.given _ c.in_ok-take_group.ensures.asks;
      told = c.in_ok-take_group.ensures.reader.same_told ∙ c.groups.invariant.told;
      ready = c.in_ok-take_group.ensures.reader.is_ready;
      later = omega (arith, c.in_ok-take_group.ensures.reader.later, c.groups.invariant.later);
    }

pub returns-clause-found : goal.returns-clause-found
returns-clause-found g c =
    let ends : goes_on (g.P.Postings.next c.groups.matches) (g.M.Method.rules c.args.method.now).bound
    (kth_score c.args.k c.groups.top.hits) ≡ false =
    subst (λ (m : ℕ). goes_on (g.P.Postings.next c.groups.matches) (g.M.Method.rules c.args.method.now).bound
    (kth_score m c.groups.top.hits) ≡ false)
    c.groups.invariant.top_k (sym c.has_to_go_on.ensures ∙ c.groups-test.false) in
    answers_at_end (g.R.PageReader.told c.args.reader.now) (g.P.Postings.may c.args.matches.now)
    (g.P.Postings.may c.groups.matches) c.args.k
    (g.M.Method.rules c.args.method.now) (g.S.Scores.score_of c.args.scores.now) (g.P.Postings.groups c.args.matches.now)
    (g.P.Postings.groups c.groups.matches)
    c.groups.groups c.groups.top.hits c.from_vec.result (g.P.Postings.next c.groups.matches)
    c.requires.some c.requires.bounded (g.met.M.Method.lawful c.args.method.now) c.groups.invariant.may
    (λ bytes. g.met.P.Postings.lawful c.groups.matches bytes)
    c.groups.invariant.so_far ends (c.from_vec.ensures ∙ c.into_hits.ensures)

pub returns-clause-asks : goal.returns-clause-asks
returns-clause-asks g c =
    asked_at_end (g.R.PageReader.told c.args.reader.now) g.R.PageReader.gives g.R.PageReader.fails c.args.k
    (g.M.Method.rules c.args.method.now).bound (g.S.Scores.score_of c.args.scores.now) (g.P.Postings.groups c.args.matches.now)
    (g.P.Postings.pages c.args.matches.now) c.groups.groups _ _ _ _ c.groups.invariant.given (returns-clause-found g c)

pub returns-clause-short : goal.returns-clause-short
returns-clause-short g c =
    best_length c.args.k c.from_vec.result
    (subst (λ (hits : List Hit). best_hits c.args.k hits ≡ hits) (sym (c.from_vec.ensures ∙ c.into_hits.ensures)) c.groups.invariant.top)
