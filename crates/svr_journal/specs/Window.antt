-- How the fields of what reads ahead keep it.
use Rattle.std.specs.Prelude.{◌≤◌, length}
use Rattle.std.specs.List.{slice_range}
use Rattle.svr_journal.specs.Ahead.{Ahead}
use Rattle.svr_journal.specs.declared.ahead.ReadAhead.TheInside.{Inside}

abbrev pub ahead_in : Inside → Ahead
ahead_in a = record { at = a.at; bytes = a.window.items; body = slice_range a.window.items a.start a.end }

-- the body lies in the window
pub record IsWindow (a : Inside) : Type 0 where
  pub order : a.start ≤ a.end
  pub inside : a.end ≤ length a.window.items
