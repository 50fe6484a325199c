-- Documents that changed are touched.
use Rattle.std.proofs.Common.{◌≡◌, ◌==◌, ◌||◌, ℕ, Bool, true, false, Option, Some, None, option_map, cond, List, [], ◌∷◌, refl, sym, ap}
use Rattle.std.proofs.Common.{◌∙◌, if◌then◌else◌}
use Rattle.svr_chunks.specs.Chosen.{chosen_rules}
use Rattle.svr_idmap.specs.Ids.{SetsValue, value_at}
use Rattle.svr_listing.specs.Joined.{is_in}
use Rattle.svr_listing.specs.Listing.{document_at}
use Rattle.svr_listing.specs.declared.document.Document.{Document}
use Rattle.svr_listing.specs.Merges.{Merge, begin, is_same, new_key, touched}
use Rattle.svr_listing.specs.Methods.{Rules}
use Rattle.svr_listing.proofs.Merging.{new_key-begin, new_key-touched}
use Rattle.svr_merge.specs.Runs.{HaveDocuments, Run, StandsForMerge, pages_under}

-- exactly those documents have no new key any more whose score, text or existence is another
abbrev pub AreTouched : List Document → List Document → List (ℕ × ℕ) → List (ℕ × ℕ) → Type 0
AreTouched before now old new =
    (id : ℕ) → value_at new id ≡ (if is_same (document_at before id) (document_at now id) then value_at old id else None)

-- once these are touched, a run stands for the merge after the change
pub stands-touched : (before now : List Document) (old new : Run) (m : Merge) → StandsForMerge old m
    → new ≡ record old { keys = new.keys } → AreTouched before now old.keys new.keys → StandsForMerge new (touched m before now)
stands-touched before now old new m stands kept are = record {
  rules = ap (λ (r : Run). chosen_rules r.method) kept ∙ stands.rules;
  keys = λ id.
      are id ∙ ap (λ o. cond (is_same (document_at before id) (document_at now id)) o None) (stands.keys id)
      ∙ sym (new_key-touched m before now id);
  last = ap (λ (r : Run). r.last) kept ∙ stands.last;
  pages = λ term. ap (λ (r : Run). pages_under r.lists term) kept ∙ stands.pages term;
}

-- ---- ids are touched one after the other

-- these ids have no new key any more, and every other its own
abbrev pub Touches : List (ℕ × ℕ) → List (ℕ × ℕ) → List ℕ → Type 0
Touches old new ids = (k : ℕ) → value_at new k ≡ (if is_in k ids then None else value_at old k)

pub touches-none : (keys : List (ℕ × ℕ)) → Touches keys keys []
touches-none keys k = refl

pub touches-more : (old before after : List (ℕ × ℕ)) (id : ℕ) (ids : List ℕ) → Touches old before ids → SetsValue before after id None
    → Touches old after (id ∷ ids)
touches-more old before after id ids touches sets k =
    sets k ∙ ap (cond (id == k) None) (touches k) ∙ by (id == k) (is_in k ids)
  where
    by : (b c : Bool) → cond b None (cond c None (value_at old k)) ≡ cond (b || c) None (value_at old k)
    by true c = refl
    by false c = refl

pub documents-begin : (rules : Rules) (ds : List Document) → HaveDocuments ds (begin rules ds)
documents-begin rules ds id none = new_key-begin rules ds id ∙ ap (option_map (λ (d : Document). rules.key d.score)) none

pub documents-touched : (m : Merge) (before now : List Document) → HaveDocuments now (touched m before now)
documents-touched m before now id none =
    new_key-touched m before now id
    ∙ ap (λ (o : Option Document). cond (is_same (document_at before id) o) (new_key m id) None) none
    ∙ by (document_at before id)
  where
    by : (o : Option Document) → cond (is_same o None) (new_key m id) None ≡ None
    by None = refl
    by (Some d) = refl

-- the ids of those documents that stood there and are others now, and of none that is the same, are enough
pub are-touched : (before now : List Document) (m : Merge) (old new : List (ℕ × ℕ)) (ids : List ℕ) → HaveDocuments before m
    → ((id : ℕ) → value_at old id ≡ new_key m id) → Touches old new ids
    → ((id : ℕ) → is_in id ids ≡ true → is_same (document_at before id) (document_at now id) ≡ false)
    → ((id : ℕ) (d : Document) → document_at before id ≡ Some d → is_in id ids ≡ false → is_same (Some d) (document_at now id) ≡ true)
    → AreTouched before now old new
are-touched before now m old new ids have keys touches changed same id = touches id ∙ by (is_in id ids) refl
  where
    nothing : (b : Bool) (o : Option ℕ) → o ≡ None → o ≡ cond b o None
    nothing true o none = refl
    nothing false o none = none

    left : is_in id ids ≡ false → (o : Option Document) → document_at before id ≡ o
        → value_at old id ≡ cond (is_same o (document_at now id)) (value_at old id) None
    left out None at = nothing (is_same None (document_at now id)) (value_at old id) (keys id ∙ have id at)
    left out (Some d) at = ap (λ (b : Bool). cond b (value_at old id) None) (sym (same id d at out))

    by : (b : Bool) → is_in id ids ≡ b
        → cond b None (value_at old id) ≡ cond (is_same (document_at before id) (document_at now id)) (value_at old id) None
    by true e = ap (λ (b : Bool). cond b (value_at old id) None) (sym (changed id e))
    by false e = left e (document_at before id) refl
