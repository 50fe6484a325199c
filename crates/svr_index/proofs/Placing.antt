-- What an index stands for after a moved document is placed.
use Rattle.std.proofs.Common.{◌≡◌, ℕ, ◌==◌, ◌&&◌, Bool, true, false, not, cond, List, Option, Some, None, refl, ap, sym, subst, ◌∙◌, eqb-true}
use Rattle.svr_chunks.specs.Chosen.{chosen_rules}
use Rattle.svr_idmap.specs.Ids.{value_at}
use Rattle.svr_iter.specs.Effective.{mark_here}
use Rattle.svr_listing.specs.Listing.{Listing, document_at, documents_of, entry_of}
use Rattle.svr_num.specs.declared.list_key.ListKey.{ListKey}
use Rattle.svr_index.specs.Index.{Indexed, IsWith, StandsBut, is_moved, mark_by_listing}
use Rattle.svr_index.proofs.Following.{at, at-before, moved-marks}
use Rattle.svr_short.specs.Short.{HasMarks, KeepsOthers, adds_at, mark_in}
use Rattle.svr_tokens.specs.Tokens.{has_term}

-- a moved document has an Add under each of its terms at its key
moved_entry : (o : Option ListKey) (entry : ListKey) → o ≡ Some entry → is_moved o ≡ true → entry ≡ record { key = entry.key; moved = true }
moved_entry o entry e m =
    let moved : entry.moved ≡ true = ap is_moved (sym e) ∙ m in
    ap (λ (b : Bool). record { key = entry.key; moved = b }) moved

pub places : (old new : Indexed) (id : ℕ) (terms : List (List ℕ)) (entry : ListKey) (pending : ℕ → Bool) (l : Listing) (score : ℕ)
    → Some entry ≡ value_at old.entries id → is_moved (value_at old.entries id) ≡ true
    → StandsBut pending old l → IsWith score terms (document_at (documents_of l) id)
    → new.method ≡ old.method → new.pages ≡ old.pages → new.entries ≡ old.entries
    → KeepsOthers old.marks new.marks id → HasMarks new.marks id (adds_at entry.key (has_term terms))
    → StandsBut (λ other. not (id == other) && pending other) new l
places old new id terms entry pending l score e moved stood with method pages entries others marks = record {
  rules = ap chosen_rules method ∙ stood.rules;
  entries = λ other. ap (λ (es : List (ℕ × ListKey)). value_at es other) entries ∙ stood.entries other;
  marks = λ term key other. by term key other (id == other) refl;
  pages = λ term. rw (pages) (stood.pages term);
}
  where
    was : entry_of l.documents id ≡ Some entry
    was = sym (e ∙ stood.entries id)

    here : at l id ≡ Some (record { document = with.it; entry = record { key = entry.key; moved = true } })
    here =
        at-before l id with.it entry with.is was
        ∙ ap (λ (k : ListKey). Some (record { document = with.it; entry = k })) (moved_entry _ entry (sym e) moved)

    by : (term : List ℕ) (key other : ℕ) (b : Bool) → (id == other) ≡ b
        → mark_in new.marks term key other ≡ cond (not b && pending other) None (mark_by_listing l term key other)
    by term key other true same =
        subst (λ (n : ℕ). mark_in new.marks term key n ≡ mark_by_listing l term key n) (eqb-true id other same)
        (marks term key ∙ ap (λ (ts : List (List ℕ)). adds_at entry.key (has_term ts) term key) (sym with.terms_are)
        ∙ sym (moved-marks l with.it entry.key term key)
        ∙ ap (mark_here l term key) (sym here))
    by term key other false away = others term key other away ∙ stood.marks term key other
