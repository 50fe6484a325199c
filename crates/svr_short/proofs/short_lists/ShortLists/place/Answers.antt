use Rattle.std.proofs.Common.{rules}
use Rattle.svr_iter.specs.declared.marks.Mark.TheVariants as mark
use Rattle.svr_short.proofs.Placing.{IsTurned-more}
use Rattle.svr_short.proofs.short_lists.ShortLists.place.Goals as goal

pub loop-i-preserved : goal.loop-i-preserved
loop-i-preserved g c =
    IsTurned-more c.drop_doc.new.self c.loop-i.self c.turn.new.self c.args.id c.args.key mark.Add c.args.terms.now c.loop-i.i
    c.get.result.now c.len-i-end.ensures.ascending (search rules) c.get.ensures c.loop-i.invariant
    c.in_ok-turn.ensures.others c.in_ok-turn.ensures.marks
