-- A reader over a disk that has grown behind what was read.
use Rattle.std.proofs.Common.{◌≡◌, ◌≤◌, ◌+◌, ℕ, List, take, Option, None, Some, refl, sym, ap, ◌∙◌, arith}
use Rattle.std.specs.Option.{option_map}
use Rattle.svr_edge.specs.Disk.{DiskView}
use Rattle.svr_postpage.specs.Pages.{bytes_at}
use Rattle.svr_pages.specs.Asked.{IsReady, SameBelow}
use Rattle.svr_pages.specs.Cached.{CachedPages}
use Rattle.svr_pages.specs.Told.{bytes_at-take}

-- a page below a place is the same where what is below it is
below-same : (reach at : ℕ) (content bytes : List ℕ) → at + 4096 ≤ reach → take reach bytes ≡ take reach content
    → bytes_at bytes at ≡ bytes_at content at
below-same reach at content bytes ends same =
    sym (bytes_at-take reach at bytes ends) ∙ ap (λ (l : List ℕ). bytes_at l at) same ∙ bytes_at-take reach at content ends

-- what was told where the same is told below a place
told_before : (reach : ℕ) (o : Option (List ℕ)) (bytes : List ℕ) → Some (take reach bytes) ≡ option_map (take reach) o
    → (content : List ℕ) × ((o ≡ Some content) × (take reach bytes ≡ take reach content))
told_before reach None bytes is = absurd (cc)
told_before reach (Some content) bytes is = (content, (refl, cc))

-- what is cached stays right over another disk that tells the same below reach, and may reach further
pub ready-grown : (reach further : ℕ) (old new : DiskView) (c : CachedPages) → IsReady reach old c → reach ≤ further → further ≤ new.size
    → SameBelow reach old new → IsReady further new c
ready-grown reach further old new c ready longer within same = record {
  within = within;
  cached = λ bytes told at page in_it.
      let before = told_before reach old.content bytes (sym (ap (option_map (take reach)) told) ∙ same) in
      ready.cached before.0 before.1.0 at page in_it
      ∙ sym (below-same reach at before.0 bytes (ready.inside at page in_it) before.1.1);
  inside = λ at page in_it. omega (arith, ready.inside at page in_it, longer);
  room = ready.room;
}
