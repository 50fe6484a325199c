-- Words of private clauses: the records that a reader has ahead.
use Rattle.std.specs.Prelude.{◌≡◌, ◌+◌, ℕ, List, [], length, true, false, Option, Some, None}
use Rattle.std.specs.Borrow.{Bor}
use Rattle.csv.specs.Machine.{ends_at_end}
use Rattle.csv.specs.Reading.{Ready, default_config, records_from, source_of}
use Rattle.csv.specs.declared.parser.State.{State}
use Rattle.csv.specs.declared.reader.Reader.{Reader}
use Rattle.csv.specs.declared.reader.Trim.TheVariants as trim

-- the bytes that it has yet to read
abbrev pub unread : Reader (Bor (List ℕ)) → Option (List ℕ)
unread r = source_of (λ s. Some s.now) r

-- the records of these bytes
abbrev pub records_at : State → Option (List ℕ) → List (List (List ℕ))
records_at s None = []
records_at s (Some bytes) = records_from default_config (length bytes + 1) s bytes

unfoldable pub ahead : Reader (Bor (List ℕ)) → List (List (List ℕ))
ahead r = records_at r.state (unread r)

-- it stands between two records, and tells each as it stands, of any number of fields
pub record IsBetween (r : Reader (Bor (List ℕ))) : Type 0 where
  pub untrimmed : r.trim ≡ trim.None
  pub flexible : r.flexible ≡ true
  pub ready : Ready r
  pub plain : r.config ≡ default_config
  pub whole : ends_at_end r.state ≡ false
  pub bytes : List ℕ
  pub known : unread r ≡ Some bytes
