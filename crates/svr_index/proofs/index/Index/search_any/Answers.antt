use Rattle.std.proofs.Common.{rules, ◌≤◌, ℕ, Bool, List, [], slice_range, ap, sym, subst, ◌∙◌}
use Rattle.std.proofs.lemmas.Result.{IfOk-weaker}
use Rattle.std.specs.Option.{ForSome}
use Rattle.svr_chunks.specs.Chosen.{chosen_rules}
use Rattle.svr_chunks.specs.declared.chosen.Chosen.{Chosen}
use Rattle.svr_num.specs.declared.mode.Mode.TheVariants as mode
use Rattle.svr_index.specs.Index.{Indexed}
use Rattle.svr_index.specs.Layout.{AreListsOf}
use Rattle.svr_index.proofs.Asked.{asks-for, asks-none, pages-any}
use Rattle.svr_index.proofs.Searching.{answers-by, groups-any, listed-any, whole_range, within-bound}
use Rattle.svr_index.proofs.index.Index.search_any.Goals as goal

pub scan-requires-clause-bounded : goal.scan-requires-clause-bounded
scan-requires-clause-bounded g c key id may =
    let lists : AreListsOf c.args.self.now (slice_range c.args.terms.now 0 c.len.result) c.push_lists.new.lists.items =
    c.in_ok-push_lists.ensures [] (subst (AreListsOf c.args.self.now []) (sym c.new-lists.ensures.items) tt) in
    subst (λ (m : Chosen). ForSome (g.S.Scores.score_of c.args.scores.now id) (λ s. s ≤ (chosen_rules m).bound key))
    (ap (λ (i : Indexed). i.method) (sym c.self.view_is))
    (within-bound c.args.self.now (g.S.Scores.score_of c.args.scores.now) key id c.requires.bounded
    (listed-any c.args.self.now key id (slice_range c.args.terms.now 0 c.len.result) c.push_lists.new.lists.items lists
    (sym (ap (λ (f : ℕ → ℕ → Bool). f key id) c.new-matches.ensures.may) ∙ may)))

pub returns-clause-answer : goal.returns-clause-answer
returns-clause-answer g c =
    let lists : AreListsOf c.args.self.now c.args.terms.now c.push_lists.new.lists.items =
    subst (λ (ts : List (List ℕ)). AreListsOf c.args.self.now ts c.push_lists.new.lists.items)
    (ap (slice_range c.args.terms.now 0) c.len.ensures.count ∙ whole_range c.args.terms.now)
    (c.in_ok-push_lists.ensures [] (subst (AreListsOf c.args.self.now []) (sym c.new-lists.ensures.items) tt)) in
    IfOk-weaker c.scan.result _ _
    (λ answer is bytes at.
    answers-by c.args.self.now c.args.terms.now mode.Any c.self.inside.method _ c.args.k (g.S.Scores.score_of c.args.scores.now) bytes
    answer.hits answer.groups (ap (λ (i : Indexed). i.method) c.self.view_is)
    (λ l. groups-any c.args.self.now l bytes c.args.terms.now c.push_lists.new.lists.items _ lists (c.new-matches.ensures.groups bytes))
    (is bytes at))
    c.scan.ensures.found

pub returns-in_err-push_lists-clause-asks : goal.returns-in_err-push_lists-clause-asks
returns-in_err-push_lists-clause-asks g c =
    asks-none (g.R.PageReader.told c.args.reader.now) g.R.PageReader.gives g.R.PageReader.fails c.args.self.now c.args.terms.now mode.Any c.args.k
    (g.S.Scores.score_of c.args.scores.now) c.args.reader.now c.from_residual.result (search rules)

pub returns-clause-asks : goal.returns-clause-asks
returns-clause-asks g c =
    let lists : AreListsOf c.args.self.now c.args.terms.now c.push_lists.new.lists.items =
    subst (λ (ts : List (List ℕ)). AreListsOf c.args.self.now ts c.push_lists.new.lists.items)
    (ap (slice_range c.args.terms.now 0) c.len.ensures.count ∙ whole_range c.args.terms.now)
    (c.in_ok-push_lists.ensures [] (subst (AreListsOf c.args.self.now []) (sym c.new-lists.ensures.items) tt)) in
    asks-for (g.R.PageReader.told c.args.reader.now) g.R.PageReader.gives g.R.PageReader.fails c.args.self.now c.args.terms.now mode.Any c.args.k
    (g.S.Scores.score_of c.args.scores.now) c.args.reader.now c.scan.new.reader c.scan.result c.self.inside.method _ _
    (ap (λ (i : Indexed). i.method) c.self.view_is)
    (λ bytes l. groups-any c.args.self.now l bytes c.args.terms.now c.push_lists.new.lists.items _ lists (c.new-matches.ensures.groups bytes))
    (λ l stood key. pages-any c.args.self.now l key c.args.terms.now c.push_lists.new.lists.items _ lists (c.new-matches.ensures.pages key) stood)
    c.scan.ensures.asks
