use Rattle.svr_view.specs.Layout.{values_for}
use Rattle.svr_view.proofs.Counting.{IsCounted-more}
use Rattle.svr_view.proofs.counted.recount_one.Goals as goal

pub count_out-requires-clause-there : goal.count_out-requires-clause-there
count_out-requires-clause-there c =
    IsCounted-more c.args.groups.now c.count_in.new.groups c.args.c c.args.old (values_for c.args.new) c.in_ok-count_in.ensures c.requires.there
