-- The three contents that stand for a platter while calls are made anew.
use Rattle.std.specs.Prelude.{◌≡◌}
use Rattle.svr_fakes.specs.declared.replay.Replay.{Replay}
use Rattle.svr_fakes.specs.declared.disk_call.Torn as tears
use Rattle.svr_fakes.specs.Platter.{Platter, crashed}

pub record IsReplay (torn : tears.Torn) (p : Platter) (r : Replay) : Type 0 where
  pub read : r.read.items ≡ p.read
  pub kept : r.kept.items ≡ p.kept
  pub image : r.image.items ≡ crashed torn p.kept p.pending
