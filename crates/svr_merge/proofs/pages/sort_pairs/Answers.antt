use Rattle.std.proofs.Common.{rules, ◌≡◌, is_lt}
use Rattle.std.proofs.lemmas.Fn.{always_returns_same}
use Rattle.std.proofs.lemmas.List.MinMax.{ranks_by}
use Rattle.svr_merge.specs.Layout.{page_rank}
use Rattle.svr_merge.proofs.Paged.{page_total, sorted-pairs}
use Rattle.svr_merge.proofs.pages.sort_pairs.Goals as goal

pub returns : goal.returns
returns c =
    sorted-pairs c.args.pairs.now c.sort_unstable_by.new.self c.sort_unstable_by.ensures.permutation
    (c.sort_unstable_by.ensures.sorted (λ x y. is_lt (page_rank x y)) (ranks_by page_total (λ p. p))
    (always_returns_same _ (λ a r. is_lt r ≡ is_lt (page_rank a.0.now a.1.0.now)) _ (λ a r f' k. search rules)))
