use Rattle.std.proofs.Common.{option_map}
use Rattle.svr_rows.specs.Rows.{row_at, rows_in}
use Rattle.svr_view.specs.Layout.{score_by}
use Rattle.svr_view.proofs.Settling.{Settled-step}
use Rattle.svr_view.proofs.values.settle_all.Goals as goal

pub loop-id-preserved : goal.loop-id-preserved
loop-id-preserved c = (
  Settled-step c.args.scores.now c.loop-id.scores c.settle.new.scores c.args.ids.now c.loop-id.id-index
      (λ id. option_map (score_by c.args.schema.now c.args.groups.now) (row_at (rows_in c.args.tables.now c.args.schema.now.text_table) id))
      c.score_now-score.result c.in_ok-moved.moved c.loop-id.moves.items c.add_move.new.moves.items c.requires.ascending c.loop-id-test.true
      c.loop-id.invariant.0 c.score_now-score.ensures.value c.in_ok-moved.ensures.scores c.in_ok-moved.ensures.moved c.in_ok-add_move.ensures,
  c.settle.ensures.within,
)
