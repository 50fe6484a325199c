-- The rules of chunks keep the laws.
use Rattle.std.proofs.Common.{ℕ, List}
use Rattle.std.proofs.Math.Logic.{∥∥₁_elim}
use Rattle.std.proofs.Props.{props}
use Rattle.svr_listing.specs.Bounds.{AreBounds}
use Rattle.svr_listing.specs.Methods.{AreLawful, chunk_rules}
use Rattle.svr_listing.proofs.Chunks.{chunk_lawful}

pub chunks_lawful : (bounds : List ℕ) → ∥ AreBounds bounds ∥₁ → AreLawful (chunk_rules bounds)
chunks_lawful bounds are = ∥∥₁_elim are (hlevel props) (chunk_lawful bounds)
