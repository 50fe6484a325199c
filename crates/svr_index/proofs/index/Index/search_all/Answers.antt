use Rattle.std.proofs.Common.{rules, ◌≤◌, ◌∷◌, ◌++◌, ◌+◌, ℕ, Bool, [], slice_range, ap, sym, subst, ◌∙◌}
use Rattle.std.proofs.lemmas.Result.{IfOk-weaker}
use Rattle.std.specs.Option.{ForSome}
use Rattle.svr_chunks.specs.Chosen.{chosen_rules}
use Rattle.svr_chunks.specs.declared.chosen.Chosen.{Chosen}
use Rattle.svr_num.specs.declared.mode.Mode.TheVariants as mode
use Rattle.svr_index.specs.Index.{Indexed}
use Rattle.svr_index.specs.Layout.{AreListsOf}
use Rattle.svr_index.proofs.Asked.{asks-for, asks-none, pages-all}
use Rattle.svr_index.proofs.Searching.{answers-by, groups-all, listed-all, parted, within-bound}
use Rattle.svr_index.proofs.index.Index.search_all.Goals as goal

pub scan-requires-clause-bounded : goal.scan-requires-clause-bounded
scan-requires-clause-bounded g c key id may =
    let front = slice_range c.args.terms.now 0 c.rarest-rarest.result in
    let behind = slice_range c.args.terms.now (c.rarest-rarest.result + 1) c.len-end.result in
    let others : AreListsOf c.args.self.now (front ++ behind) c.push_lists-2.new.lists.items =
    c.in_ok-push_lists-2.ensures front (c.in_ok-push_lists.ensures [] (subst (AreListsOf c.args.self.now []) (sym c.new-others.ensures.items) tt)) in
    subst (λ (m : Chosen). ForSome (g.S.Scores.score_of c.args.scores.now id) (λ s. s ≤ (chosen_rules m).bound key))
    (ap (λ (i : Indexed). i.method) (sym c.self.view_is))
    (within-bound c.args.self.now (g.S.Scores.score_of c.args.scores.now) key id c.requires.bounded
    (listed-all c.args.self.now key id c.get.result.now (front ++ behind) c.list_of-first.result c.push_lists-2.new.lists.items
    (c.list_of-first.ensures, others)
    (sym (ap (λ (f : ℕ → ℕ → Bool). f key id) c.new-matches.ensures.may) ∙ may)))

pub returns-clause-answer : goal.returns-clause-answer
returns-clause-answer g c =
    let front = slice_range c.args.terms.now 0 c.rarest-rarest.result in
    let behind = slice_range c.args.terms.now (c.rarest-rarest.result + 1) c.len-end.result in
    let others : AreListsOf c.args.self.now (front ++ behind) c.push_lists-2.new.lists.items =
    c.in_ok-push_lists-2.ensures front (c.in_ok-push_lists.ensures [] (subst (AreListsOf c.args.self.now []) (sym c.new-others.ensures.items) tt)) in
    let parts = parted c.args.terms.now c.rarest-rarest.result c.get.result.now c.get.ensures
    ∙ ap (λ (n : ℕ). front ++ c.get.result.now ∷ slice_range c.args.terms.now (c.rarest-rarest.result + 1) n) (sym c.len-end.ensures.count) in
    IfOk-weaker c.scan.result _ _
    (λ answer is bytes at.
    answers-by c.args.self.now c.args.terms.now mode.All c.self.inside.method _ c.args.k (g.S.Scores.score_of c.args.scores.now) bytes
    answer.hits answer.groups (ap (λ (i : Indexed). i.method) c.self.view_is)
    (λ l. groups-all c.args.self.now l bytes c.args.terms.now front behind c.get.result.now c.list_of-first.result
    c.push_lists-2.new.lists.items _ parts (c.list_of-first.ensures, others) (c.new-matches.ensures.groups bytes)) (is bytes at))
    c.scan.ensures.found

pub returns-in_err-push_lists-clause-asks : goal.returns-in_err-push_lists-clause-asks
returns-in_err-push_lists-clause-asks g c =
    asks-none (g.R.PageReader.told c.args.reader.now) g.R.PageReader.gives g.R.PageReader.fails c.args.self.now c.args.terms.now mode.All c.args.k
    (g.S.Scores.score_of c.args.scores.now) c.args.reader.now c.from_residual.result (search rules)

pub returns-in_err-push_lists-2-clause-asks : goal.returns-in_err-push_lists-2-clause-asks
returns-in_err-push_lists-2-clause-asks g c =
    asks-none (g.R.PageReader.told c.args.reader.now) g.R.PageReader.gives g.R.PageReader.fails c.args.self.now c.args.terms.now mode.All c.args.k
    (g.S.Scores.score_of c.args.scores.now) c.args.reader.now c.from_residual-in_err-push_lists-2.result (search rules)

pub returns-clause-asks : goal.returns-clause-asks
returns-clause-asks g c =
    let front = slice_range c.args.terms.now 0 c.rarest-rarest.result in
    let behind = slice_range c.args.terms.now (c.rarest-rarest.result + 1) c.len-end.result in
    let others : AreListsOf c.args.self.now (front ++ behind) c.push_lists-2.new.lists.items =
    c.in_ok-push_lists-2.ensures front (c.in_ok-push_lists.ensures [] (subst (AreListsOf c.args.self.now []) (sym c.new-others.ensures.items) tt)) in
    let parts = parted c.args.terms.now c.rarest-rarest.result c.get.result.now c.get.ensures
    ∙ ap (λ (n : ℕ). front ++ c.get.result.now ∷ slice_range c.args.terms.now (c.rarest-rarest.result + 1) n) (sym c.len-end.ensures.count) in
    asks-for (g.R.PageReader.told c.args.reader.now) g.R.PageReader.gives g.R.PageReader.fails c.args.self.now c.args.terms.now mode.All c.args.k
    (g.S.Scores.score_of c.args.scores.now) c.args.reader.now c.scan.new.reader c.scan.result c.self.inside.method _ _
    (ap (λ (i : Indexed). i.method) c.self.view_is)
    (λ bytes l. groups-all c.args.self.now l bytes c.args.terms.now front behind c.get.result.now c.list_of-first.result
    c.push_lists-2.new.lists.items _ parts (c.list_of-first.ensures, others) (c.new-matches.ensures.groups bytes))
    (λ l stood key. pages-all c.args.self.now l key c.args.terms.now front behind c.get.result.now c.list_of-first.result
    c.push_lists-2.new.lists.items _ parts (c.list_of-first.ensures, others) (c.new-matches.ensures.pages key) stood)
    c.scan.ensures.asks
