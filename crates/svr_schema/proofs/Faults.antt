-- What `schema_in` says, by the step that finds it.
use Rattle.std.proofs.Common.{◌≡◌, ℕ, ℤ, Bool, true, false, List, Option, Some, None, refl, ap, sym, subst, ◌∙◌, Result, Ok, Err, IfErr}
use Rattle.serde_json.specs.Data.{Data}
use Rattle.svr_schema.specs.declared.error.SchemaError.{SchemaError}
use Rattle.svr_schema.specs.declared.error.SchemaError.TheVariants as error
use Rattle.svr_schema.specs.declared.method.MethodSpec.{MethodSpec}
use Rattle.svr_schema.specs.declared.schema.Schema.{Schema}
use Rattle.svr_schema.specs.declared.schema.TextPlace.{TextPlace}
use Rattle.svr_schema.specs.declared.table.Table.{Table}
use Rattle.svr_schema.specs.Rules.{are_filtered, are_named, are_placed, are_weighted, begin_with_id, divisor_in, has_components, has_parts}
use Rattle.svr_schema.specs.Rules.{has_short_text, has_tables, have_columns, have_different_columns, have_different_names}
use Rattle.svr_schema.specs.Rules.{method_in, rule, rule_gives, schema_in, text_place}
use Rattle.svr_schema.specs.Steps.{component_fault, first_fault, name_fault, table_fault}
use Rattle.svr_schema.specs.Tables.{tables_in}
use Rattle.svr_schema.proofs.Accepted.{Before, made}

-- what is read later, unless a rule failed before
abbrev unless : Option ℕ → Result Schema ℕ → Result Schema ℕ
unless None later = later
unless (Some n) later = Err n

unless-first_fault : (n : ℕ) (b : Bool) (f : Option ℕ) (later : Result Schema ℕ)
    → unless (first_fault n b f) later ≡ rule n b (unless f later)
unless-first_fault n true f later = refl
unless-first_fault n false f later = refl

-- ---- the rules in steps

-- rules 13 and 14
abbrev late : Data → TextPlace → Result Schema ℕ
late d p = rule_gives 13 (divisor_in d) (λ n. rule_gives 14 (method_in d) (λ m. rule 14 (has_short_text d) (Ok (made d p n m))))

-- rules 9 to 14
abbrev behind_text : Data → TextPlace → Result Schema ℕ
behind_text d p =
    rule 9 (has_components d) (rule 10 (are_placed (tables_in d) p.table d) (rule 11 (are_weighted d)
    (rule 12 (are_filtered (tables_in d) p.table d) (late d p))))

behind_text-steps : (d : Data) (p : TextPlace) → unless (component_fault (tables_in d) p.table d) (late d p) ≡ behind_text d p
unfolding component_fault
behind_text-steps d p =
    let later = late d p in
    let nine = has_components d in
    let ten = are_placed (tables_in d) p.table d in
    let eleven = are_weighted d in
    let twelve = are_filtered (tables_in d) p.table d in
    let last = first_fault 12 twelve None in
    let third = first_fault 11 eleven last in
    unless-first_fault 9 nine (first_fault 10 ten third) later ∙ ap (rule 9 nine) (unless-first_fault 10 ten third later
    ∙ ap (rule 10 ten) (unless-first_fault 11 eleven last later ∙ ap (rule 11 eleven) (unless-first_fault 12 twelve None later)))

-- rules 8 to 14
abbrev behind_tables : Data → Result Schema ℕ
behind_tables d = rule_gives 8 (text_place (tables_in d) d) (behind_text d)

names-steps : (tables : List Table) (later : Result Schema ℕ) → unless (name_fault tables) later
    ≡ rule 4 (are_named tables)
    (rule 5 (have_different_names tables) (rule 6 (have_different_columns tables) (rule 7 (begin_with_id tables) later)))
unfolding name_fault
names-steps tables later =
    let four = are_named tables in
    let five = have_different_names tables in
    let six = have_different_columns tables in
    let seven = begin_with_id tables in
    let last = first_fault 7 seven None in
    let third = first_fault 6 six last in
    unless-first_fault 4 four (first_fault 5 five third) later ∙ ap (rule 4 four) (unless-first_fault 5 five third later
    ∙ ap (rule 5 five) (unless-first_fault 6 six last later ∙ ap (rule 6 six) (unless-first_fault 7 seven None later)))

schema_in-steps : (d : Data) → unless (table_fault d) (behind_tables d) ≡ schema_in d
unfolding schema_in table_fault
schema_in-steps d =
    let later = behind_tables d in
    let one = has_parts d in
    let two = has_tables d in
    let three = have_columns d in
    let names = name_fault (tables_in d) in
    let last = first_fault 3 three names in
    unless-first_fault 1 one (first_fault 2 two last) later ∙ ap (rule 1 one) (unless-first_fault 2 two last later
    ∙ ap (rule 2 two) (unless-first_fault 3 three names later ∙ ap (rule 3 three) (names-steps (tables_in d) later)))

-- ---- each step

pub failing-tables : (d : Data) (n : ℕ) → table_fault d ≡ Some n → schema_in d ≡ Err n
failing-tables d n e = sym (schema_in-steps d) ∙ ap (λ f. unless f (behind_tables d)) e

past-tables : (d : Data) → table_fault d ≡ None → schema_in d ≡ behind_tables d
past-tables d e = sym (schema_in-steps d) ∙ ap (λ f. unless f (behind_tables d)) e

pub failing-text : (d : Data) → table_fault d ≡ None → text_place (tables_in d) d ≡ None → schema_in d ≡ Err 8
failing-text d e t = past-tables d e ∙ ap (λ o. rule_gives 8 o (behind_text d)) t

past-text : (d : Data) (p : TextPlace) → table_fault d ≡ None → text_place (tables_in d) d ≡ Some p
    → schema_in d ≡ unless (component_fault (tables_in d) p.table d) (late d p)
past-text d p e t = past-tables d e ∙ ap (λ o. rule_gives 8 o (behind_text d)) t ∙ sym (behind_text-steps d p)

pub failing-components : (d : Data) (p : TextPlace) (n : ℕ) → table_fault d ≡ None → text_place (tables_in d) d ≡ Some p
    → component_fault (tables_in d) p.table d ≡ Some n → schema_in d ≡ Err n
failing-components d p n e t f = past-text d p e t ∙ ap (λ o. unless o (late d p)) f

past-components : (d : Data) (p : TextPlace) → Before d p → schema_in d ≡ late d p
past-components d p b = past-text d p b.tables b.text ∙ ap (λ o. unless o (late d p)) b.components

pub failing-divisor : (d : Data) (p : TextPlace) → Before d p → divisor_in d ≡ None → schema_in d ≡ Err 13
failing-divisor d p b g = past-components d p b
    ∙ ap (λ o. rule_gives 13 o (λ n. rule_gives 14 (method_in d) (λ m. rule 14 (has_short_text d) (Ok (made d p n m))))) g

past-divisor : (d : Data) (p : TextPlace) (n : ℤ) → Before d p → divisor_in d ≡ Some n
    → schema_in d ≡ rule_gives 14 (method_in d) (λ m. rule 14 (has_short_text d) (Ok (made d p n m)))
past-divisor d p n b g = past-components d p b
    ∙ ap (λ o. rule_gives 13 o (λ z. rule_gives 14 (method_in d) (λ m. rule 14 (has_short_text d) (Ok (made d p z m))))) g

pub failing-method : (d : Data) (p : TextPlace) (n : ℤ) → Before d p → divisor_in d ≡ Some n → method_in d ≡ None → schema_in d ≡ Err 14
failing-method d p n b g h = past-divisor d p n b g ∙ ap (λ o. rule_gives 14 o (λ m. rule 14 (has_short_text d) (Ok (made d p n m)))) h

past-method : (d : Data) (p : TextPlace) (n : ℤ) (m : MethodSpec) → Before d p → divisor_in d ≡ Some n → method_in d ≡ Some m
    → schema_in d ≡ rule 14 (has_short_text d) (Ok (made d p n m))
past-method d p n m b g h = past-divisor d p n b g ∙ ap (λ o. rule_gives 14 o (λ s. rule 14 (has_short_text d) (Ok (made d p n s)))) h

pub failing-length : (d : Data) (p : TextPlace) (n : ℤ) (m : MethodSpec) → Before d p → divisor_in d ≡ Some n → method_in d ≡ Some m
    → has_short_text d ≡ false → schema_in d ≡ Err 14
failing-length d p n m b g h s = past-method d p n m b g h ∙ ap (λ short. rule 14 short (Ok (made d p n m))) s

pub schema_in-ok : (d : Data) (p : TextPlace) (n : ℤ) (m : MethodSpec) → Before d p → divisor_in d ≡ Some n → method_in d ≡ Some m
    → has_short_text d ≡ true → schema_in d ≡ Ok (made d p n m)
schema_in-ok d p n m b g h s = past-method d p n m b g h ∙ ap (λ short. rule 14 short (Ok (made d p n m))) s

-- ---- what an error says

abbrev pub Tells : Data → Result Schema SchemaError → Type 0
Tells d r = IfErr r (λ why. (n : ℕ) → why ≡ error.Rule n → schema_in d ≡ Err n)

-- an error of a step that is handed on
pub Tells-handed : (d : Data) (r : Result Schema SchemaError) (e : SchemaError) → r ≡ Err e
    → ((n : ℕ) → e ≡ error.Rule n → schema_in d ≡ Err n) → Tells d r
Tells-handed d r e is h = subst (Tells d) (sym is) h

-- a rule that was found to fail
pub rule-tells : (d : Data) (m : ℕ) → schema_in d ≡ Err m → (n : ℕ) → error.Rule m ≡ error.Rule n → schema_in d ≡ Err n
rule-tells d m f n e = let same : m ≡ n = cc in f ∙ ap (λ k. Err k) same
