-- The calls of a disk that fail, by their kinds and numbers.
use Rattle.std.specs.Prelude.{ℕ, List, Bool, true, false, ◌==◌, ◌&&◌, ◌||◌}
use Rattle.std.specs.List.{list_any}
use Rattle.svr_edge.specs.Causes.{one_more}
use Rattle.svr_fakes.specs.declared.disk_call.DiskCall.{DiskCall}
use Rattle.svr_fakes.specs.declared.disk_call.DiskCall.TheVariants.{Len, Read, Write, Sync}
use Rattle.svr_fakes.specs.declared.disk_call.Count.{Count}

-- two kinds of calls are one
abbrev pub same_kind : DiskCall → DiskCall → Bool
same_kind Len Len = true
same_kind Read Read = true
same_kind Write Write = true
same_kind Sync Sync = true
same_kind a b = false

-- the call of this kind and number is listed
abbrev pub is_due : List (DiskCall × ℕ) → DiskCall → ℕ → Bool
is_due fail kind number = list_any (λ call. same_kind call.0 kind && (call.1 == number)) fail

-- the next call of this kind fails: it is listed, or was asked to
abbrev pub call_fails : List (DiskCall × ℕ) → DiskCall → Count → Bool
call_fails fail kind count = is_due fail kind (one_more count.made) || (one_more count.made == count.asked)

-- a call more
abbrev pub after_count : Count → Count
after_count count = record count { made = one_more count.made }

-- the next call is asked to fail
abbrev pub asked_next : Count → Count
asked_next count = record count { asked = one_more count.made }
