-- The begin of a merge.
use Rattle.std.proofs.Common.{◌≡◌, ◌==◌, ℕ, Bool, true, false, cond, List, [], ◌∷◌, map, Option, Some, None, option_map}
use Rattle.std.proofs.Common.{refl, sym, ap, ◌∙◌}
use Rattle.std.specs.List.{find}
use Rattle.svr_chunks.specs.Chosen.{chosen_rules}
use Rattle.svr_chunks.specs.declared.chosen.Chosen.{Chosen}
use Rattle.svr_listing.specs.Listing.{document_at, hit_of}
use Rattle.svr_listing.specs.declared.document.Document.{Document}
use Rattle.svr_listing.specs.Merges.{begin}
use Rattle.svr_listing.specs.Methods.{Rules}
use Rattle.svr_listing.proofs.Merging.{new_key-begin}
use Rattle.svr_num.specs.declared.hit.Hit.{Hit}
use Rattle.svr_merge.specs.Layout.{HasKeysOf, key_among}
use Rattle.svr_merge.specs.Runs.{StandsForMerge}

among-hits : (rules : Rules) (ds : List Document) (id : ℕ)
    → key_among rules (map hit_of ds) id ≡ option_map (λ (d : Document). rules.key d.score) (document_at ds id)
among-hits rules [] id = refl
among-hits rules (d ∷ ds) id =
    by (d.id == id) (find (λ (e : Hit). e.id == id) (map hit_of ds)) (document_at ds id) (among-hits rules ds id)
  where
    by : (b : Bool) (x : Option Hit) (y : Option Document)
        → option_map (λ (e : Hit). rules.key e.score) x ≡ option_map (λ (e : Document). rules.key e.score) y
        → option_map (λ (e : Hit). rules.key e.score) (cond b (Some (hit_of d)) x)
        ≡ option_map (λ (e : Document). rules.key e.score) (cond b (Some d) y)
    by true x y e = refl
    by false x y e = e

pub begun : (method : Chosen) (rules : Rules) (documents : List Hit) (keys : List (ℕ × ℕ)) → chosen_rules method ≡ rules
    → HasKeysOf (chosen_rules method) documents keys → (ds : List Document) → map hit_of ds ≡ documents
    → StandsForMerge (record { method = method; keys = keys; last = None; lists = [] }) (begin rules ds)
begun method rules documents keys same has ds e = record {
  rules = same;
  keys = λ id.
      has id ∙ ap (λ (r : Rules). key_among r documents id) same
      ∙ ap (λ (hits : List Hit). key_among rules hits id) (sym e) ∙ among-hits rules ds id ∙ sym (new_key-begin rules ds id);
  last = refl;
  pages = λ term. refl;
}
