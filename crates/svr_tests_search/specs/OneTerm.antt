-- The marks and entries of one term, in small.
use Rattle.std.proofs.Common.{ℕ, ◌==◌, ◌||◌, true, false, List, [], ◌∷◌, Option, Some, None, arith}
use Rattle.std.specs.Bool.{if◌then◌else◌}
use Rattle.svr_num.specs.declared.list_key.ListKey.{ListKey}
use Rattle.svr_iter.specs.Marks.{AreMarks, MarksAt}
use Rattle.svr_iter.specs.declared.marks.Mark.TheVariants as mark

-- at the key 10 and at the key 4
abbrev pub marks_in : List MarksAt
marks_in =
    record { key = 10; marks = record { id = 3; mark = mark.Add } ∷ record { id = 7; mark = mark.Rem } ∷ [] }
    ∷ record { key = 4; marks = record { id = 8; mark = mark.Add } ∷ record { id = 9; mark = mark.Add } ∷ [] }
    ∷ []

-- they are in order
pub are_marks : AreMarks marks_in
are_marks = record {
  descend = ((omega arith, tt), (tt, tt));
  each = (
    record { key_fits = omega arith; ascending = ((omega arith, tt), (tt, tt)); ids_fit = (omega arith, (omega arith, tt)) },
    (record { key_fits = omega arith; ascending = ((omega arith, tt), (tt, tt)); ids_fit = (omega arith, (omega arith, tt)) }, tt),
  );
}

-- where documents are listed
abbrev pub entry_in : ℕ → Option ListKey
entry_in id =
    if id == 3 then Some (record { key = 10; moved = true })
    else (if (id == 6) || (id == 7) then Some (record { key = 10; moved = false })
    else (if (id == 8) || (id == 9) then Some (record { key = 4; moved = true })
    else (if id == 2 then Some (record { key = 4; moved = false }) else None)))
