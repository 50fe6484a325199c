-- The rules that a merge brings.
use Rattle.std.specs.Prelude.{ℕ, List, [], ◌∷◌, map, nat_le, if◌then◌else◌}
use Rattle.svr_schema.specs.declared.method.MethodSpec.{MethodSpec}
use Rattle.svr_schema.specs.declared.method.MethodSpec.TheVariants as method
use Rattle.svr_num.specs.declared.hit.Hit.{Hit}
use Rattle.svr_listing.specs.Bounds.{bounds_of}
use Rattle.svr_listing.specs.Methods.{Rules, chunk_rules, id_rules, score_rules, threshold_rules}

-- the rules of a schema's method, for documents with these scores, ascending
abbrev pub rules_for : MethodSpec → List ℕ → Rules
rules_for method.Id scores = id_rules
rules_for method.Score scores = score_rules
rules_for (method.Threshold num den) scores = threshold_rules num den
rules_for (method.Chunk ratio min_docs) scores = chunk_rules (bounds_of scores ratio min_docs)

-- scores ascending, with one more at its place
abbrev pub with_score : ℕ → List ℕ → List ℕ
with_score score [] = score ∷ []
with_score score (s ∷ ss) = if nat_le score s then score ∷ s ∷ ss else s ∷ with_score score ss

-- scores ascending, each as often
abbrev pub ascending_scores : List ℕ → List ℕ
ascending_scores [] = []
ascending_scores (s ∷ ss) = with_score s (ascending_scores ss)

-- the scores of documents, ascending
abbrev pub scores_of : List Hit → List ℕ
scores_of documents = ascending_scores (map (λ d. d.score) documents)

-- the rules of a schema's method for these documents
abbrev pub rules_now : MethodSpec → List Hit → Rules
rules_now spec documents = rules_for spec (scores_of documents)
