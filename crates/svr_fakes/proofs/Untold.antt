-- What holds of a disk holds of it where its bytes aren't told.
use Rattle.std.proofs.Common.{refl, ℕ, List}
use Rattle.svr_edge.specs.Disk.{DiskView, IsTornImage, Leaves, Stays}
use Rattle.svr_fakes.specs.Flips.{untold}

leaves_untold : (old new : DiskView) (P : List ℕ → Type 0) → Leaves old new P → Leaves (untold old) (untold new) P
leaves_untold old new P span = record { later = span.later; each = span.each }

pub stays_untold : (old new : DiskView) → Stays old new → Stays (untold old) (untold new)
stays_untold old new stays = record {
  size = stays.size;
  content = refl;
  images = leaves_untold old new (λ _. ⊥) stays.images;
}

pub torn_untold : (old new : DiskView) (at count : ℕ) → Leaves old new (IsTornImage old at count)
    → Leaves (untold old) (untold new) (IsTornImage (untold old) at count)
torn_untold old new at count span = leaves_untold old new (IsTornImage old at count) span
