use Rattle.std.proofs.Common.{take, option_map}
use Rattle.svr_rows.specs.Rows.{row_at, rows_in}
use Rattle.svr_view.specs.Layout.{AreScores, score_by}
use Rattle.svr_view.proofs.Settling.{Settled}
use Rattle.svr_view.proofs.values.settle_all.Given as goal

abbrev pub invariant-loop-id : goal.invariant-loop-id
invariant-loop-id l =
    Settled l.initial.scores l.scores (take l.id-index l.ids)
    (λ id. option_map (score_by l.schema l.groups) (row_at (rows_in l.tables l.schema.text_table) id)) l.moves.items
    × AreScores l.scores
