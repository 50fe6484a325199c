-- What a line asks for, from how it is read.
use Rattle.std.proofs.Common.{◌≡◌, ℕ, List, Some, None, Err, true, false, cond, refl, ap, ◌∙◌}
use Rattle.std.specs.Str.{is_utf8, IsUtf8}
use Rattle.std.proofs.lemmas.Str.{is_utf8-from_IsUtf8, IsUtf8-from_is_utf8}
use Rattle.serde_json.specs.Data.{Data}
use Rattle.serde_json.specs.Read.{read}
use Rattle.svr_request.specs.declared.refusal.Refusal.TheVariants.{NotJson}
use Rattle.svr_json.specs.Parts.{◌>>=◌}
use Rattle.svr_request.specs.Requests.{asked_by, asked_of, block_in, block_of, request_of, value_in}

pub value_in-value : (line : List ℕ) (d : Data) → IsUtf8 line → read line ≡ Some d → value_in line ≡ Some d
value_in-value line d u r = ap (λ b. cond b (read line) None) (is_utf8-from_IsUtf8 line u) ∙ r

pub value_in-none : (line : List ℕ) → (IsUtf8 line → read line ≡ None) → value_in line ≡ None
value_in-none line f =
    (elim (is_utf8 line) as (λ b. is_utf8 line ≡ b → cond b (read line) None ≡ None) [
      | true ↦ λ e. f (IsUtf8-from_is_utf8 line e)
      | false ↦ λ e. refl
    ]) refl

pub request_of-value : (line : List ℕ) (d : Data) → IsUtf8 line → read line ≡ Some d → request_of line ≡ asked_of d
unfolding request_of
request_of-value line d u r = ap asked_by (value_in-value line d u r)

pub request_of-none : (line : List ℕ) → (IsUtf8 line → read line ≡ None) → request_of line ≡ Err NotJson
unfolding request_of
request_of-none line f = ap asked_by (value_in-none line f)

pub block_of-value : (line : List ℕ) (d : Data) → IsUtf8 line → read line ≡ Some d → block_of line ≡ block_in d
unfolding block_of
block_of-value line d u r = ap (λ o. o >>= block_in) (value_in-value line d u r)

pub block_of-none : (line : List ℕ) → (IsUtf8 line → read line ≡ None) → block_of line ≡ None
unfolding block_of
block_of-none line f = ap (λ o. o >>= block_in) (value_in-none line f)
