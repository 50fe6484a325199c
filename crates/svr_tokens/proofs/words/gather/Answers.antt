use Rattle.std.proofs.Common.{◌≡◌, ◌∙◌, sym, ap}
use Rattle.unicode_segmentation.specs.Iter.{unicode_words_left}
use Rattle.svr_tokens.proofs.Gathered.{gathered, gathered-all, gathered-none, gathered-short, gathered-long}
use Rattle.svr_tokens.proofs.words.gather.Goals as goal

pub loop-word-init : goal.loop-word-init
loop-word-init c =
    let left : unicode_words_left c.into_iter-word-iterator.result ≡ _ = rw c.into_iter-word-iterator.ensures.into_iter_gives c.unicode_words-word-items.ensures.left in
    rw (c.new-set.ensures.empty, left) (gathered-all c.args.text.now)

pub loop-word-preserved-in_ok-insert : goal.loop-word-preserved-in_ok-insert
loop-word-preserved-in_ok-insert c =
    let small = rw (c.is_short.ensures, c.in_ok-term.ensures) at c.if-is_short.true in
    let keys = rw c.in_ok-term.ensures at c.in_ok-insert.ensures.keys in
    ap (λ ks. gathered ks (unicode_words_left c.next.new.self)) keys
    ∙ sym (gathered-short c.loop-word.set.keys _ _ c.in-Some.word.now c.in-Some.ensures.steps small) ∙ c.loop-word.invariant

pub loop-word-preserved : goal.loop-word-preserved
loop-word-preserved c =
    let large = rw (c.is_short.ensures, c.in_ok-term.ensures) at c.if-is_short.false in
    sym (gathered-long c.loop-word.set.keys _ _ c.in-Some.word.now c.in-Some.ensures.steps large) ∙ c.loop-word.invariant

pub returns : goal.returns
returns c = sym (gathered-none c.loop-word.set.keys _ c.in-None.ensures.steps.0) ∙ c.loop-word.invariant
