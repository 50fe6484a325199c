use Rattle.std.proofs.Common.{◌≡◌, ℤ, pos, negsuc, ◌≤ℤ◌, List, false, true, Some, None, Ok, codes, map, sym, ap, subst, ◌∙◌, arith, rules}
use Rattle.std.specs.Int.{cast_signed, cast_unsigned, w64}
use Rattle.std.proofs.lemmas.Int.{ints, to_z-of_z}
use Rattle.serde_json.specs.Data.{Data}
use Rattle.serde_json.specs.View.{view}
use Rattle.svr_schema.specs.declared.component.Component.{Component}
use Rattle.svr_schema.specs.declared.method.MethodSpec.{MethodSpec}
use Rattle.svr_schema.specs.declared.schema.Schema.{Schema}
use Rattle.svr_schema.specs.declared.schema.TextPlace.{TextPlace}
use Rattle.svr_schema.specs.declared.table.Table.{Table}
use Rattle.svr_schema.specs.Components.{component_in, components_in}
use Rattle.svr_schema.specs.Lawful.{IsSchema}
use Rattle.svr_schema.specs.Parts.{elements_at}
use Rattle.svr_schema.specs.Rules.{divisor_in, has_short_text, text_place}
use Rattle.svr_schema.specs.Steps.{AreFew, component_fault, table_fault}
use Rattle.svr_schema.specs.Tables.{tables_in}
use Rattle.svr_schema.proofs.Accepted.{Before, ComponentsHold-from_none, divisor-range, made, made-IsSchema}
use Rattle.svr_schema.proofs.Complete.{complete}
use Rattle.svr_schema.proofs.Faults.{Tells-handed, failing-components, failing-divisor, failing-length}
use Rattle.svr_schema.proofs.Faults.{failing-method, failing-tables, failing-text, rule-tells, schema_in-ok}
use Rattle.svr_schema.proofs.Plain.{schema_no_float}
use Rattle.svr_schema.proofs.Tabled.{AreFew-tables, TablesHold-from_none}
use Rattle.svr_schema.proofs.schema.read_schema.Goals as goal
use Rattle.svr_schema.proofs.schema.read_schema.Goals.{In_ok-components}

-- the text and the components are read from the value's own tables
before : (c : In_ok-components) → Before (view c.args.value.now) c.in-Some.text
before c =
    let d = view c.args.value.now in
    let of_text = c.as_slice.ensures ∙ c.in_ok-tables.ensures.ok.1 in
    let of_components = c.as_slice-2.ensures ∙ c.in_ok-tables.ensures.ok.1 in
    record {
      tables = c.in_ok-tables.ensures.ok.0;
      text = subst (λ ts. text_place ts d ≡ Some c.in-Some.text) of_text (sym c.in-Some.ensures);
      components = subst (λ ts. component_fault ts c.in-Some.text.table d ≡ None) of_components c.in_ok-components.ensures.ok.0;
    }

parts : (c : In_ok-components)
    → c.in_ok-components.components ≡ components_in (tables_in (view c.args.value.now)) c.in-Some.text.table (view c.args.value.now)
parts c =
    c.in_ok-components.ensures.ok.1
    ∙ ap (λ ts. components_in ts c.in-Some.text.table (view c.args.value.now)) (c.as_slice-2.ensures ∙ c.in_ok-tables.ensures.ok.1)

few : (tables : List Table) (d : Data) → tables ≡ tables_in d → table_fault d ≡ None → AreFew tables
few tables d is none = subst AreFew (sym is) (AreFew-tables d (TablesHold-from_none d none))

kept_by : (n : ℤ) → pos 1 ≤ℤ n → n ≤ℤ pos 1000000000 → cast_signed w64 (cast_unsigned w64 n) ≡ n
kept_by (pos k) a b = to_z-of_z w64 (pos k) (record { sfits = omega (arith, ints) })
kept_by (negsuc k) a b = absurd (omega (arith, ints))

-- a divisor is the same behind i64
divisor-kept : (d : Data) (n : ℤ) → divisor_in d ≡ Some n → cast_signed w64 (cast_unsigned w64 n) ≡ n
divisor-kept d n e = let range = divisor-range d n e in kept_by n range.0 range.1

pub returns-in_err-tables-clause-rule : goal.returns-in_err-tables-clause-rule
returns-in_err-tables-clause-rule c =
    let d = view c.args.value.now in
    Tells-handed d c.from_residual.result c.in_err-tables.field-0.0 (search rules)
    (λ n e. failing-tables d n (c.in_err-tables.ensures.rule n e))

pub read_text-requires : goal.read_text-requires
read_text-requires c = few _ (view c.args.value.now) (c.as_slice.ensures ∙ c.in_ok-tables.ensures.ok.1) c.in_ok-tables.ensures.ok.0

pub returns-in_default-clause-rule : goal.returns-in_default-clause-rule
returns-in_default-clause-rule c =
    let d = view c.args.value.now in
    let of_text = c.as_slice.ensures ∙ c.in_ok-tables.ensures.ok.1 in
    rule-tells d 8 (failing-text d c.in_ok-tables.ensures.ok.0 (subst (λ ts. text_place ts d ≡ None) of_text (sym c.in_default.ensures)))

pub read_components-requires : goal.read_components-requires
read_components-requires c = few _ (view c.args.value.now) (c.as_slice-2.ensures ∙ c.in_ok-tables.ensures.ok.1) c.in_ok-tables.ensures.ok.0

pub returns-in_err-components-clause-rule : goal.returns-in_err-components-clause-rule
returns-in_err-components-clause-rule c =
    let d = view c.args.value.now in
    let of_text = c.as_slice.ensures ∙ c.in_ok-tables.ensures.ok.1 in
    let of_components = c.as_slice-2.ensures ∙ c.in_ok-tables.ensures.ok.1 in
    Tells-handed d c.from_residual-in_err-components.result c.in_err-components.field-0.0 (search rules)
    (λ n e. failing-components d c.in-Some.text n c.in_ok-tables.ensures.ok.0
    (subst (λ ts. text_place ts d ≡ Some c.in-Some.text) of_text (sym c.in-Some.ensures))
    (subst (λ ts. component_fault ts c.in-Some.text.table d ≡ Some n) of_components (c.in_err-components.ensures.rule n e)))

pub returns-in_default-read_divisor-clause-rule : goal.returns-in_default-read_divisor-clause-rule
returns-in_default-read_divisor-clause-rule c =
    let d = view c.args.value.now in
    let b = before (goal.at.returns-in_default-read_divisor-clause-rule c).In_ok-components in
    rule-tells d 13 (failing-divisor d _ b (sym c.in_default-read_divisor.ensures))

pub returns-in_default-read_method-clause-rule : goal.returns-in_default-read_method-clause-rule
returns-in_default-read_method-clause-rule c =
    let d = view c.args.value.now in
    let b = before (goal.at.returns-in_default-read_method-clause-rule c).In_ok-components in
    rule-tells d 14 (failing-method d _ _ b (sym c.in-Some-read_divisor.ensures) (sym c.in_default-read_method.ensures))

pub has_short_text-requires : goal.has_short_text-requires
has_short_text-requires c =
    let b = before (goal.at.has_short_text-requires c).In_ok-components in
    schema_no_float _ _ _ _ b (sym c.in-Some-read_divisor.ensures) (sym c.in-Some-read_method.ensures)

pub returns-then-not-branch-clause-rule : goal.returns-then-not-branch-clause-rule
returns-then-not-branch-clause-rule c =
    let d = view c.args.value.now in
    let b = before (goal.at.returns-then-not-branch-clause-rule c).In_ok-components in
    let long : has_short_text d ≡ false = sym c.in_ok-has_short_text.ensures ∙ c.if-not-branch.true in
    rule-tells d 14 (failing-length d _ _ _ b (sym c.in-Some-read_divisor.ensures) (sym c.in-Some-read_method.ensures) long)

abbrev of_parts : List Table → List Component → TextPlace → ℤ → MethodSpec → Schema
of_parts tables components p n m =
    record { tables = tables; text_table = p.table; text_column = p.column; components = components; divisor = n; method = m }

-- the schema that was made is the one that was found
of_parts-made : (d : Data) (p : TextPlace) (n z : ℤ) (m : MethodSpec) (tables : List Table) (components : List Component)
    → tables ≡ tables_in d → components ≡ components_in (tables_in d) p.table d → z ≡ n → of_parts tables components p z m ≡ made d p n m
of_parts-made d p n z m tables components e f g = cc

pub returns-clause-schema : goal.returns-clause-schema
returns-clause-schema c =
    let d = view c.args.value.now in
    let p = c.in-Some.text in
    let n = c.in-Some-read_divisor.divisor in
    let m = c.in-Some-read_method.method in
    let k = (goal.at.returns-clause-schema c).In_ok-components in
    let divisor = sym c.in-Some-read_divisor.ensures in
    let short : has_short_text d ≡ true = sym c.in_ok-has_short_text.ensures ∙ c.if-not-branch.false in
    let is = of_parts-made d p n _ m c.in_ok-tables.tables c.in_ok-components.components c.in_ok-tables.ensures.ok.1 (parts k)
    (divisor-kept d n divisor) in
    schema_in-ok d p n m (before k) divisor (sym c.in-Some-read_method.ensures) short ∙ ap (λ s. Ok s) (sym is)

pub returns-clause-text : goal.returns-clause-text
returns-clause-text c =
    let b = before (goal.at.returns-clause-text c).In_ok-components in
    record {
      plain = schema_no_float _ _ _ _ b (sym c.in-Some-read_divisor.ensures) (sym c.in-Some-read_method.ensures);
      short = sym c.in_ok-has_short_text.ensures ∙ c.if-not-branch.false;
    }

pub returns-clause-complete : goal.returns-clause-complete
returns-clause-complete c =
    let d = view c.args.value.now in
    let table = c.in-Some.text.table in
    let k = (goal.at.returns-clause-complete c).In_ok-components in
    let hold = ComponentsHold-from_none (tables_in d) table d (before k).components in
    ap (map Some) (parts k) ∙ complete (tables_in d) table _ hold.placed hold.weighted hold.filtered
    ∙ ap (λ ts. map (component_in ts table) (elements_at (codes "components") d)) (sym c.in_ok-tables.ensures.ok.1)

pub returns-clause-lawful : goal.returns-clause-lawful
returns-clause-lawful c =
    let d = view c.args.value.now in
    let p = c.in-Some.text in
    let n = c.in-Some-read_divisor.divisor in
    let m = c.in-Some-read_method.method in
    let k = (goal.at.returns-clause-lawful c).In_ok-components in
    let divisor = sym c.in-Some-read_divisor.ensures in
    let is = of_parts-made d p n _ m c.in_ok-tables.tables c.in_ok-components.components c.in_ok-tables.ensures.ok.1 (parts k)
    (divisor-kept d n divisor) in
    subst IsSchema (sym is) (made-IsSchema d p n m (before k) divisor (sym c.in-Some-read_method.ensures))
