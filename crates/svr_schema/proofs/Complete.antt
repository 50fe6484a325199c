-- Each element of the components makes one, where the rules hold.
use Rattle.std.proofs.Common.{◌≡◌, ℕ, true, List, [], ◌∷◌, map, codes, Option, Some, None, option_and_then, is_some, refl, ap, ◌∙◌}
use Rattle.std.specs.List.{cons_option, filter_map, list_all}
use Rattle.std.proofs.lemmas.Bool.{false≢true}
use Rattle.serde_json.specs.Data.{Data}
use Rattle.svr_num.specs.declared.aggregate.Aggregate.{Aggregate}
use Rattle.svr_schema.specs.declared.component.Component.{Component}
use Rattle.svr_schema.specs.declared.component.Component.TheVariants.{Over}
use Rattle.svr_schema.specs.declared.read_component.Kind.{Kind}
use Rattle.svr_schema.specs.declared.read_component.Kind.TheVariants as kinds
use Rattle.svr_schema.specs.declared.table.Table.{Table}
use Rattle.svr_schema.specs.Components.{component_as, component_in, filter_in, int_column}
use Rattle.svr_schema.specs.Components.{is_filtered, is_filtered_as, is_placed, is_placed_as}
use Rattle.svr_schema.specs.Components.{is_weighted, is_weighted_as, kind_in, over_in, own_in, places_in, stand_in, weight_at}
use Rattle.svr_schema.proofs.Composed.{Placed-from_some}
use Rattle.svr_schema.proofs.Steps.{and_true, is_some-true}

own-some : (tables : List Table) (text_table : ℕ) (d : Data) → is_some (int_column tables text_table (codes "column") d) ≡ true
    → is_some (weight_at (codes "weight") d) ≡ true
    → is_some (own_in tables text_table d) ≡ true
own-some tables text_table d p w =
    let column = is_some-true _ p in
    let weight = is_some-true _ w in
    rw (column.1, weight.1) refl

chain : {A B C D E : Type 0} (o : Option A) (p : Option B) (q : Option C) (f : A → Option D) (g : A → B → C → D → E) (a : A) (b : B)
    (c : C) (d : D)
    → o ≡ Some a → p ≡ Some b → q ≡ Some c → f a ≡ Some d
    → is_some
    (option_and_then (λ x. option_and_then (λ y. option_and_then (λ z. option_and_then (λ w. Some (g x y z w)) (f x)) q) p) o) ≡ true
chain o p q f g a b c d eo ep eq ed = rw (eo, ep, eq, ed) refl

over-some : (tables : List Table) (text_table : ℕ) (h : Aggregate) (d : Data)
    → is_placed_as (Some (kinds.Over h)) tables text_table d ≡ true
    → is_weighted_as (Some (kinds.Over h)) d ≡ true → is_filtered_as (Some (kinds.Over h)) tables text_table d ≡ true
    → is_some (over_in tables text_table h d) ≡ true
over-some tables text_table h d p w f =
    let places = is_some-true (places_in tables text_table h d) p in
    let numbers = and_true (is_some (weight_at (codes "weight") d)) (is_some (stand_in h d)) w in
    let weight = is_some-true (weight_at (codes "weight") d) numbers.0 in
    let empty = is_some-true (stand_in h d) numbers.1 in
    let table = (Placed-from_some tables text_table h d places.0 places.1).table in
    let filtered : is_some (filter_in tables places.0.table d) ≡ true = rw table at f in
    let filter = is_some-true (filter_in tables places.0.table d) filtered in
    chain (places_in tables text_table h d) (weight_at (codes "weight") d) (stand_in h d) (λ q. filter_in tables q.table d)
    (λ q b e g. Over h q.table q.by q.column b e g) places.0 weight.0 empty.0 filter.0 places.1 weight.1 empty.1 filter.1

component_as-some : (k : Option Kind) (tables : List Table) (text_table : ℕ) (d : Data) → is_placed_as k tables text_table d ≡ true
    → is_weighted_as k d ≡ true
    → is_filtered_as k tables text_table d ≡ true → is_some (component_as k tables text_table d) ≡ true
component_as-some None tables text_table d p w f = absurd (false≢true p)
component_as-some (Some kinds.Own) tables text_table d p w f = own-some tables text_table d p w
component_as-some (Some (kinds.Over h)) tables text_table d p w f = over-some tables text_table h d p w f

one_more : (o : Option Component) (rest : List Component) → is_some o ≡ true → map Some (cons_option o rest) ≡ o ∷ map Some rest
one_more None rest e = absurd (false≢true e)
one_more (Some c) rest e = refl

pub complete : (tables : List Table) (text_table : ℕ) (es : List Data) → list_all (is_placed tables text_table) es ≡ true
    → list_all is_weighted es ≡ true
    → list_all (is_filtered tables text_table) es ≡ true
    → map Some (filter_map (component_in tables text_table) es) ≡ map (component_in tables text_table) es
complete tables text_table [] p w f = refl
complete tables text_table (e ∷ es) p w f =
    let here = and_true (is_placed tables text_table e) _ p in
    let there = and_true (is_weighted e) _ w in
    let last = and_true (is_filtered tables text_table e) _ f in
    one_more (component_in tables text_table e) _ (component_as-some (kind_in e) tables text_table e here.0 there.0 last.0)
    ∙ ap (λ cs. component_in tables text_table e ∷ cs) (complete tables text_table es here.1 there.1 last.1)
