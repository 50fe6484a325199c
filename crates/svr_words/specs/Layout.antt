-- Words of private clauses: what the command found in words.
use Rattle.std.specs.Prelude.{◌≡◌, ℕ, List, true}
use Rattle.clap.specs.Words.{found_of, matches_of, rows_of}
use Rattle.clap.specs.declared.parser.matches.ArgMatches.{ArgMatches}
use Rattle.svr_words.specs.Command.{is_taken, svr}

-- the command takes the words, and this is what it finds in them
pub record Finds (words : List (List ℕ)) (m : ArgMatches) : Type 0 where
  pub taken : is_taken words ≡ true
  pub rows : rows_of (found_of m) ≡ matches_of svr words
