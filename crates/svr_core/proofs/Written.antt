-- The text that is written for a schema.
use Rattle.std.proofs.Common.{◌≡◌, ◌≤◌, ℕ, List, [], ◌∷◌, length, Some, None, ap, sym, ◌∙◌, arith}
use Rattle.std.specs.Str.{IsUtf8}
use Rattle.std.proofs.lemmas.Bool.Decides.{nat_tests}
use Rattle.serde_json.specs.Data.{Data}
use Rattle.serde_json.specs.Read.{read}
use Rattle.serde_json.specs.Written.{compact_text}
use Rattle.serde_json.proofs.OnLiterals.{serde_json_on_literals}
use Rattle.svr_record.specs.Limits.{IsSchemaText}
use Rattle.svr_request.specs.Requests.{value_in}
use Rattle.svr_request.proofs.Lines.{value_in-value}
use Rattle.svr_schema.specs.Rules.{IsWritable}

-- no value is read of nothing
some_text : (text : List ℕ) (d : Data) → read text ≡ Some d → 1 ≤ length text
unfolding serde_json_on_literals
some_text [] d h = absurd (let e : None ≡ Some d = h in cc)
some_text (b ∷ text) d h = omega arith

pub IsSchemaText-written : (text : List ℕ) (d : Data) → IsWritable d → text ≡ compact_text d → read text ≡ Some d → IsSchemaText text
IsSchemaText-written text d w is again =
    let few : length (compact_text d) ≤ 1048576 = grind (arith, nat_tests, w.short) in
    record { some = some_text text d again; few = omega (arith, few, ap length is) }

pub value_in-written : (text : List ℕ) (d : Data) → text ≡ compact_text d → IsUtf8 text → read text ≡ Some d
    → value_in (compact_text d) ≡ Some d
value_in-written text d is utf8 again = ap value_in (sym is) ∙ value_in-value text d utf8 again
