-- The answer to a search over what is served.
use Rattle.std.specs.Prelude.{ℕ, List, [], Option, Some, None}
use Rattle.svr_catalog.specs.Answers.{answer_of}
use Rattle.svr_catalog.specs.Catalog.{Catalog}
use Rattle.svr_listing.specs.Served as listing
use Rattle.svr_num.specs.declared.mode.Mode.{Mode}
use Rattle.svr_topk.specs.declared.search.Answer.{Answer}
use Rattle.svr_core.specs.State.{Served}

-- over a catalog, if one is set
abbrev pub answer_by : Option Catalog → listing.Served → List (List ℕ) → Mode → ℕ → Answer
answer_by None l terms m k = record { hits = []; groups = 0 }
answer_by (Some c) l terms m k = answer_of c l.listing terms m k

abbrev pub answer_in : Served → List (List ℕ) → Mode → ℕ → Answer
answer_in s terms m k = answer_by s.catalog s.listed terms m k
