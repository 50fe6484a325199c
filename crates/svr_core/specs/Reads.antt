-- What is read for a search, beside pages that are at hand without a read.
use Rattle.std.specs.Prelude.{◌≡◌, ◌⊎◌, ⊤, ℕ, List, nat_eq, Contains}
use Rattle.std.specs.List.{IsDistinct, sum_by}
use Rattle.svr_request.specs.declared.reply.Reply.{Reply}
use Rattle.svr_request.specs.declared.reply.Reply.TheVariants.{Accepted, Faulted, Found, Left, Refused}
use Rattle.svr_core.specs.Outcomes.{Outcome, edits, merges, merges_whole, outcome_of, refused, searches}
use Rattle.svr_core.specs.Run.{Turn, needed_by}
use Rattle.svr_core.specs.State.{State}

-- a search was answered
abbrev pub IsFound : Reply → Type 0
IsFound (Found answer) = ⊤
IsFound (Accepted n) = ⊥
IsFound (Left n) = ⊥
IsFound (Refused why) = ⊥
IsFound (Faulted why) = ⊥

-- pages at these addresses are needed; some are at hand, of which there can be so many
pub record ReadsForSearch (at_hand : ℕ → Type 0) (capacity : ℕ) (places : List ℕ) (t : Turn) : Type 0 where
  -- no page is read twice
  pub once : IsDistinct nat_eq t.reads
  -- where it's answered, each page that is needed was read, or is at hand
  pub each : IsFound t.reply → (at : ℕ) → Contains places at → Contains t.reads at ⊎ at_hand at
  -- where none can be at hand, exactly these were read
  pub exact : IsFound t.reply → capacity ≡ 0 → (weight : ℕ → ℕ) → sum_by weight t.reads ≡ sum_by weight places

-- of what isn't a search nothing more is said here
abbrev pub ReadsBy : (ℕ → Type 0) → ℕ → List ℕ → Turn → Outcome → Type 0
ReadsBy at_hand capacity places t (searches terms m k) = ReadsForSearch at_hand capacity places t
ReadsBy at_hand capacity places t (refused why) = ⊤
ReadsBy at_hand capacity places t (edits e entry) = ⊤
ReadsBy at_hand capacity places t (merges part) = ⊤
ReadsBy at_hand capacity places t merges_whole = ⊤

abbrev pub ReadsIfSearch : (ℕ → Type 0) → ℕ → State → Turn → Type 0
ReadsIfSearch at_hand capacity s t =
    ReadsBy at_hand capacity (needed_by s.served (outcome_of s.served t.request)) t (outcome_of s.served t.request)
