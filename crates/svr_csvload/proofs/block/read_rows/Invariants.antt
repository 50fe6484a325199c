use Rattle.std.proofs.Common.{◌≡◌, ◌≤◌, ◌+◌, length, map}
use Rattle.svr_csvload.specs.Ahead.{IsBetween, ahead}
use Rattle.svr_csvload.specs.Blocks.{rows_in_records}
use Rattle.svr_csvload.proofs.Fields.{kind_in}
use Rattle.svr_csvload.proofs.Turns.{after}
use Rattle.svr_csvload.proofs.block.read_rows.Given as goal

abbrev pub invariant-loop-rows : goal.invariant-loop-rows
invariant-loop-rows l = record {
  between : IsBetween l.reader;
  made : rows_in_records (map kind_in l.columns) (ahead l.fn.reader)
      ≡ after l.rows.items (rows_in_records (map kind_in l.columns) (ahead l.reader));
  few : length l.rows.items + length (ahead l.reader) ≤ 8388608;
}

abbrev pub decreases-loop-rows : goal.decreases-loop-rows
decreases-loop-rows l = length (ahead l.reader)
