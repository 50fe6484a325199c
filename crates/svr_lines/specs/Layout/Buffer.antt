-- How the fields of a reader keep what was read and isn't handed out, and the block.
use Rattle.std.specs.Prelude.{◌≡◌, ◌+◌, ◌-◌, ◌^◌, ◌<◌, ◌≤◌, vec_len, vec_capacity}
use Rattle.std.specs.List.{slice_range}
use Rattle.svr_lines.specs.declared.lines.Lines.TheInside.{Inside}
use Rattle.svr_lines.specs.declared.lines.TheConstants.{BLOCK_BYTES}
use Rattle.svr_lines.specs.declared.buffer.TheConstants.{ROOM}
use Rattle.svr_lines.specs.Reading.{Reading}

abbrev pub reading : Inside → Reading
reading a = record {
  ahead = slice_range a.buffer.items a.start a.end;
  text = slice_range a.buffer.items a.line_start a.line_end;
  block = a.block.items;
  handed = a.handed;
  limit = a.limit;
  ended = a.ended;
}

pub record IsInBuffer (a : Inside) : Type 0 where
  pub room : vec_len a.buffer ≡ ROOM
  pub block_room : BLOCK_BYTES ≤ vec_capacity a.block
  pub line_order : a.line_start ≤ a.line_end
  pub line_within : a.line_end ≤ ROOM
  pub order : a.start ≤ a.end
  pub within : a.end ≤ ROOM
  pub few : a.handed + (a.end - a.start) ≤ a.limit
  pub limit : a.limit < 2 ^ 64
