-- What is read for a search that wasn't answered, and for what is no search.
use Rattle.std.proofs.Common.{◌≡◌, ℕ, List, [], nat_eq, inl, inr, sym, subst, ◌∙◌}
use Rattle.std.specs.List.{IsDistinct}
use Rattle.svr_core.specs.declared.plan.Step.{Step}
use Rattle.svr_core.specs.Outcomes.{Outcome, edits, merges, merges_whole, outcome_of, refused, searches}
use Rattle.svr_core.specs.Reads.{IsFound, ReadsBy, ReadsIfSearch}
use Rattle.svr_core.specs.Run.{Turn, needed_by}
use Rattle.svr_core.specs.State.{State}

distinct-none : IsDistinct nat_eq []
unfolding IsDistinct
distinct-none = tt

module _ (at_hand : ℕ → Type 0) (capacity : ℕ) where
  -- no page was read, and no answer found
  by_outcome : (places : List ℕ) (t : Turn) → (IsFound t.reply → ⊥) → t.reads ≡ [] → (o : Outcome) → ReadsBy at_hand capacity places t o
  by_outcome places t unfound none (searches terms m k) = record {
    once = subst (IsDistinct nat_eq) (sym none) distinct-none;
    each = λ found. absurd (unfound found);
    exact = λ found. absurd (unfound found);
  }
  by_outcome places t unfound none (refused why) = tt
  by_outcome places t unfound none (edits e entry) = tt
  by_outcome places t unfound none (merges part) = tt
  by_outcome places t unfound none merges_whole = tt

  pub reads-unfound : (s : State) (t : Turn) → (IsFound t.reply → ⊥) → t.reads ≡ [] → ReadsIfSearch at_hand capacity s t
  reads-unfound s t unfound none =
      by_outcome (needed_by s.served (outcome_of s.served t.request)) t unfound none (outcome_of s.served t.request)

  -- a step of a merge is no search, nor is a whole one
  pub reads-step : (s : State) (t : Turn) (part : Step) → outcome_of s.served t.request ≡ merges part → ReadsIfSearch at_hand capacity s t
  reads-step s t part is = subst (λ (o : Outcome). ReadsBy at_hand capacity (needed_by s.served o) t o) (sym is) tt

  pub reads-whole : (s : State) (t : Turn) → outcome_of s.served t.request ≡ merges_whole → ReadsIfSearch at_hand capacity s t
  reads-whole s t is = subst (λ (o : Outcome). ReadsBy at_hand capacity (needed_by s.served o) t o) (sym is) tt

-- what is at hand may be told otherwise
module _ (at_hand also : ℕ → Type 0) (weaker : (at : ℕ) → at_hand at → also at) (capacity size : ℕ) (same : capacity ≡ size) where
  from_outcome : (places : List ℕ) (t : Turn) (o : Outcome) → ReadsBy at_hand capacity places t o → ReadsBy also size places t o
  from_outcome places t (searches terms m k) h = record {
    once = h.once;
    each = λ found at there. elim (h.each found at there) [ inl read ↦ inl read | inr was ↦ inr (weaker at was) ];
    exact = λ found none. h.exact found (same ∙ none);
  }
  from_outcome places t (refused why) h = tt
  from_outcome places t (edits e entry) h = tt
  from_outcome places t (merges part) h = tt
  from_outcome places t merges_whole h = tt

  pub reads-from : (s : State) (t : Turn) → ReadsIfSearch at_hand capacity s t → ReadsIfSearch also size s t
  reads-from s t h = from_outcome (needed_by s.served (outcome_of s.served t.request)) t (outcome_of s.served t.request) h
