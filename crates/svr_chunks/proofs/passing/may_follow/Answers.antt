use Rattle.std.proofs.Common.{◌≡◌, ◌*◌, ◌&&◌, true, false, max, nat_le, nat_lt, slice_index, sym, rules}
use Rattle.svr_chunks.specs.Layout.{is_new}
use Rattle.svr_chunks.proofs.Places.{ascends, may_follow-new, may_follow-old}
use Rattle.svr_chunks.proofs.passing.may_follow.Goals as goal

pub returns-then-not-is_new : goal.returns-then-not-is_new
returns-then-not-is_new c =
    let scores = c.args.scores.now in
    let old : is_new scores c.args.at ≡ false = search rules in
    sym (may_follow-old scores c.args.ratio c.args.min_docs c.args.bound c.args.at (ascends scores c.requires.ascending) c.requires.place old
    c.requires.none)

pub returns-then-is_higher : goal.returns-then-is_higher
returns-then-is_higher c =
    let scores = c.args.scores.now in
    let bound = c.args.bound in
    let score = slice_index scores c.args.at in
    let new : is_new scores c.args.at ≡ true = search rules in
    let high : (nat_lt bound score && nat_le (max bound 1 * c.args.ratio) (score * 100)) ≡ true = search rules in
    may_follow-new scores c.args.ratio c.args.min_docs bound c.args.from c.args.at (ascends scores c.requires.ascending) c.requires.place
    c.requires.before c.requires.splits new high
