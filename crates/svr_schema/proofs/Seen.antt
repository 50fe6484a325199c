-- Tests of JSON values that are kept in a slice.
use Rattle.std.proofs.Common.{◌≡◌, ◌&&◌, Bool, true, List, map, sym, ap, ◌∙◌}
use Rattle.std.specs.List.{list_all}
use Rattle.std.proofs.lemmas.List.Folds.{list_all-map}
use Rattle.serde_json.specs.Data.{Data}
use Rattle.serde_json.specs.View.{view}
use Rattle.serde_json.specs.declared.value.Value.{Value}

pub list_all-seen : (p : Data → Bool) (vs : List Value) (es : List Data) → map view vs ≡ es → list_all (λ v. p (view v)) vs ≡ list_all p es
list_all-seen p vs es e = sym (list_all-map p view vs) ∙ ap (list_all p) e

pub and-seen : (b r : Bool) (p : Data → Bool) (vs : List Value) (es : List Data) → b ≡ true → map view vs ≡ es
    → r ≡ list_all (λ v. p (view v)) vs → r ≡ (b && list_all p es)
and-seen b r p vs es t e h = h ∙ list_all-seen p vs es e ∙ sym (ap (λ x. x && list_all p es) t)
