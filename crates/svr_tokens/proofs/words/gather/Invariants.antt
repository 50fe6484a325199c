use Rattle.std.proofs.Common.{◌≡◌}
use Rattle.unicode_segmentation.specs.Iter.{unicode_words_left}
use Rattle.svr_tokens.specs.Tokens.{tokens_of}
use Rattle.svr_tokens.proofs.Gathered.{gathered}
use Rattle.svr_tokens.proofs.words.gather.Given as goal

abbrev pub invariant-loop-word : goal.invariant-loop-word
invariant-loop-word l = gathered l.set.keys (unicode_words_left l.word-iterator) ≡ tokens_of l.fn.text
