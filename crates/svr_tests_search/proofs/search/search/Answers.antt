use Rattle.std.proofs.Common.{◌≡◌, ℕ, Bool, true, ap, sym, ◌∙◌, rules}
use Rattle.svr_iter.specs.Mem.{holds}
use Rattle.svr_tests_search.proofs.search.search.Goals as goal

pub scan-requires-clause-bounded : goal.scan-requires-clause-bounded
scan-requires-clause-bounded g c = λ key id there.
    let bounded : c.are_bounded.result ≡ true = search rules in
    let same : holds c.deref-else-not-are_ordered.result.now ≡ holds c.new-matches.result.given.items =
    ap holds c.deref-else-not-are_ordered.ensures.value ∙ sym c.new-matches.ensures.may in
    c.are_bounded.ensures bounded key id (ap (λ (f : ℕ → ℕ → Bool). f key id) same ∙ there)
