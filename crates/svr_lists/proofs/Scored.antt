-- Documents that are listed by scores.
use Rattle.std.proofs.Common.{◌≡◌, ℕ, ◌≤◌, ◌==◌, Bool, true, false, cond, List, Option, Some, None, IsSome, option_map, refl, ap, sym, subst, ◌∙◌}
use Rattle.std.proofs.Common.{eqb-true}
use Rattle.std.specs.Option.{ForSome}
use Rattle.svr_num.specs.declared.list_key.ListKey.{ListKey}
use Rattle.svr_chunks.specs.Chosen.{chosen_lawful, chosen_rules}
use Rattle.svr_chunks.specs.declared.chosen.Chosen.{Chosen}
use Rattle.svr_idmap.specs.Ids.{value_at}
use Rattle.svr_listing.specs.Changes.{entry_now}
use Rattle.svr_listing.specs.Methods.{Rules, greatest}
use Rattle.svr_listing.proofs.Changing.{stays_now}
use Rattle.svr_index.specs.Index.{KeepsEntries, SetsEntry}
use Rattle.svr_index.specs.Search.{AreWithinBounds}
use Rattle.svr_merge.specs.Runs.{Run}
use Rattle.svr_lists.specs.Layout.{IsTouched}
use Rattle.svr_lists.specs.Lists.{HasKeysOfScores, IsAtScore, IsAtScores, ListsValue, SetsScore}

-- so none has a score above the bound of its key
pub within-bounds : (score : ℕ → Option ℕ) (v : ListsValue) → IsAtScores score v → AreWithinBounds v.index score
within-bounds score v at id entry e s is =
    by (score id) (value_at v.index.entries id) (at.entries id) is e
  where
    rules : Rules
    rules = chosen_rules v.index.method

    by : (o : Option ℕ) (p : Option ListKey) → IsAtScore rules o p → o ≡ Some s → p ≡ Some entry → s ≤ rules.bound entry.key
    by None None at o p = absurd (cc)
    by None (Some k) at o p = absurd at
    by (Some n) None at o p = absurd at
    by (Some n) (Some k) at o p =
        let score_is : n ≡ s = cc in
        let entry_is : k ≡ entry = cc in
        subst (λ (x : ℕ). x ≤ rules.bound entry.key) score_is
        (subst (λ (x : ListKey). n ≤ rules.bound x.key) entry_is ((chosen_lawful v.index.method).within_bound n k.key at.0 at.1))

-- ---- after a change

-- an entry that is made for a score is at it
pub at-now : (m : Chosen) (score : ℕ) (entry : Option ListKey) → score ≤ greatest
    → IsAtScore (chosen_rules m) (Some score) (Some (entry_now (chosen_rules m) score entry))
at-now m score entry low = (low, stays_now (chosen_rules m) (chosen_lawful m) score low entry)

new_keys-touched : (old new : Option Run) (id : ℕ) (was is : ℕ → Option ℕ) (score : Option ℕ) → IsTouched old new id
    → SetsScore was is id score → ForSome old (HasKeysOfScores was) → ForSome new (HasKeysOfScores is)
new_keys-touched None None id was is score touched sets have run e = absurd (cc)
new_keys-touched None (Some b) id was is score touched sets have run e = absurd touched
new_keys-touched (Some a) None id was is score touched sets have run e = absurd touched
new_keys-touched (Some a) (Some b) id was is score touched sets have run e =
    subst (HasKeysOfScores is) (let same : b ≡ run = cc in same) (λ other key at. by other key (id == other) (sets other) (sym (touched.keys other) ∙ at))
  where
    by : (other key : ℕ) (c : Bool) → is other ≡ cond c score (was other) → cond c None (value_at a.keys other) ≡ Some key
        → option_map (chosen_rules b.method).key (is other) ≡ Some key
    by other key true s at = absurd (cc)
    by other key false s at =
        ap (option_map (chosen_rules b.method).key) s
        ∙ ap (λ (r : Run). option_map (chosen_rules r.method).key (was other)) touched.kept
        ∙ have a refl other key at

-- one document has another entry and another score
pub at-changed : (old new : ListsValue) (id : ℕ) (was is : ℕ → Option ℕ) (score : Option ℕ) (entry : Option ListKey)
    → SetsEntry old.index new.index id entry → IsTouched old.merge new.merge id → IsAtScore (chosen_rules old.index.method) score entry
    → IsAtScores was old → SetsScore was is id score → IsAtScores is new
at-changed old new id was is score entry set touched one at sets = record {
  entries = λ other.
      subst (λ (m : Chosen). IsAtScore (chosen_rules m) (is other) (value_at new.index.entries other)) (sym set.method)
      (rw (sets other) (rw (set.entries other) (by other (id == other))));
  new_keys = new_keys-touched old.merge new.merge id was is score touched sets at.new_keys;
}
  where
    by : (other : ℕ) (c : Bool)
        → IsAtScore (chosen_rules old.index.method) (cond c score (was other)) (cond c entry (value_at old.index.entries other))
    by other true = one
    by other false = at.entries other

-- a document's score and entry stay
pub at-kept : (old new : ListsValue) (id : ℕ) (scores : ℕ → Option ℕ) → KeepsEntries old.index new.index
    → IsTouched old.merge new.merge id → IsAtScores scores old → IsAtScores scores new
at-kept old new id scores keeps touched at = record {
  entries = λ other.
      subst (λ (m : Chosen). IsAtScore (chosen_rules m) (scores other) (value_at new.index.entries other)) (sym keeps.method)
      (subst (λ (es : List (ℕ × ListKey)). IsAtScore (chosen_rules old.index.method) (scores other) (value_at es other)) (sym keeps.entries)
      (at.entries other));
  new_keys = new_keys-touched old.merge new.merge id scores scores (scores id) touched (λ other. by other (id == other) refl) at.new_keys;
}
  where
    by : (other : ℕ) (c : Bool) → (id == other) ≡ c → scores other ≡ cond c (scores id) (scores other)
    by other true e = ap scores (sym (eqb-true id other e))
    by other false e = refl

-- ---- which documents are listed

-- a document with a score is listed
pub listed : (score : ℕ → Option ℕ) (v : ListsValue) (id s : ℕ) → IsAtScores score v → score id ≡ Some s → IsSome (value_at v.index.entries id)
listed score v id s at e = by (score id) (value_at v.index.entries id) (at.entries id) e
  where
    by : (o : Option ℕ) (p : Option ListKey) → IsAtScore (chosen_rules v.index.method) o p → o ≡ Some s → IsSome p
    by None p here e = absurd (cc)
    by (Some n) None here e = absurd here
    by (Some n) (Some k) here e = cc

-- and a document without one is not
pub unlisted : (score : ℕ → Option ℕ) (v : ListsValue) (id : ℕ) → IsAtScores score v → score id ≡ None → value_at v.index.entries id ≡ None
unlisted score v id at e = by (score id) (value_at v.index.entries id) (at.entries id) e
  where
    by : (o : Option ℕ) (p : Option ListKey) → IsAtScore (chosen_rules v.index.method) o p → o ≡ None → p ≡ None
    by None None here e = refl
    by None (Some k) here e = absurd here
    by (Some n) p here e = absurd (cc)
