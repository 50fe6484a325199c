-- The command `svr MODE [N] [--cache PAGES]`, and what it takes.
use Rattle.std.specs.Prelude.{ℕ, ◌==◌, Bool, List, length, Option, Some, true, codes}
use Rattle.clap.specs.Words.{App, Rule, fault_of, first_of, matches_of, new_app, new_rule, with_rule}

-- MODE, a positional that must be there
abbrev pub mode : Rule
mode = record (new_rule (codes "mode")) { required = true }

-- N, a positional
abbrev pub number : Rule
number = new_rule (codes "number")

-- `--cache`, an option with one value
abbrev pub cache : Rule
cache = record (new_rule (codes "cache")) { long = Some (codes "cache") }

-- all of it
abbrev pub svr : App
svr = with_rule (with_rule (with_rule (new_app (codes "svr")) mode) number) cache

-- the command takes the words, the program's name first: there is no error in them
abbrev pub is_taken : List (List ℕ) → Bool
is_taken words = length (fault_of svr words) == 0

-- what it finds under a name, where it takes the words
abbrev pub value_of : List ℕ → List (List ℕ) → Option (List ℕ)
value_of id words = first_of id (matches_of svr words)
