-- A disk over one in memory, of which a read may give one byte inverted.
use Rattle.std.specs.Prelude.{ℕ, ◌-◌, List, slice_index_or, slice_set, Option, None, nat_le, if◌then◌else◌}
use Rattle.svr_edge.specs.Disk.{DiskView, IsDisk}
use Rattle.svr_fakes.specs.Disks.{MemState, mem_laws, view_of}

-- the disk in memory, the place of the byte, and how many further reads give it as it is
pub record FlipState : Type 0 where
  pub inner : MemState
  pub place : Option ℕ
  pub after : ℕ

-- a disk that tells no bytes and no reads
abbrev pub untold : DiskView → DiskView
untold d = record d { content = None; trace = None }

abbrev pub flip_view : FlipState → DiskView
flip_view d = untold (view_of d.inner)

pub flip_laws : (d : FlipState) → IsDisk (flip_view d)
flip_laws d = record {
  sized = λ bytes told. cc;
  as_it_reads = λ bytes told. cc;
  earlier = (mem_laws d.inner).earlier;
}

-- bytes that were read from a place on, with the byte of this place inverted, if it is among them
abbrev pub inverted : List ℕ → ℕ → ℕ → List ℕ
inverted bytes at place = if nat_le at place then slice_set bytes (place - at) (255 - slice_index_or bytes (place - at) 0) else bytes
