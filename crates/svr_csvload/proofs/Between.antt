-- What reading a record leaves: a place between two records, and fewer bytes ahead.
use Rattle.std.proofs.Common.{◌≡◌, ◌⊎◌, ◌<◌, ◌≤◌, ◌+◌, ℕ, zero, suc, List, [], ◌∷◌, ◌++◌, length}
use Rattle.std.proofs.Common.{Option, Some, None, Bool, true, false, cond, inl, inr, refl, sym, ap, subst, ◌∙◌, arith}
use Rattle.std.specs.Prelude.{◌==◌, ◌&&◌}
use Rattle.std.proofs.lemmas.Bool.{false≢true}
use Rattle.csv.specs.Machine.{Read, next_record, step, is_end, fields_after, field_after, ends_at_end, after_end}
use Rattle.csv.specs.Machine.{in_field, start_field, start_record, carriage_return, line_feed, ends_with, is_byte}
use Rattle.csv.specs.Reading.{records, records_from, records_next, strip_bom}
use Rattle.csv.specs.declared.parser.Config.{Config}
use Rattle.csv.specs.declared.parser.Terminator.{Terminator}
use Rattle.csv.specs.declared.parser.Terminator.TheVariants as terminator
use Rattle.csv.specs.declared.parser.Action.{Action}
use Rattle.csv.specs.declared.parser.Action.TheVariants as action
use Rattle.csv.specs.declared.parser.State.{State}
use Rattle.csv.specs.declared.parser.State.TheVariants as state

-- ---- one byte

-- if the byte ends a record, the reader stands between two
record Settles (turn : State × Action) : Type 0 where
  ending : is_end turn.1 ≡ true → ends_at_end turn.0 ≡ false

either : (b : Bool) (x y : State × Action) → Settles x → Settles y → Settles (cond b x y)
either true x y g h = g
either false x y g h = h

-- a byte that is passed over, or taken into the field
abbrev skip : State → State × Action
skip s = (s, action.Skip)

abbrev copy : State → State × Action
copy s = (s, action.Copy)

goes_on : (s : State) (a : Action) → is_end a ≡ false → Settles (s, a)
goes_on s a f = record { ending = λ e. absurd (false≢true (sym f ∙ e)) }

skips : (s : State) → Settles (skip s)
skips s = goes_on s action.Skip refl

copies : (s : State) → Settles (copy s)
copies s = goes_on s action.Copy refl

by_cr : (b : Bool) → ends_at_end (cond b state.AfterCr state.StartRecord) ≡ false
by_cr true = refl
by_cr false = refl

behind_end : (t : Terminator) (c : ℕ) → ends_at_end (after_end t c) ≡ false
behind_end terminator.CRLF c = by_cr (c == carriage_return)
behind_end (terminator.Any t) c = refl

abbrev unless_end : Config → ℕ → State × Action
unless_end cfg c = cond (ends_with cfg.terminator c) (after_end cfg.terminator c, action.EndRecord) (copy state.InField)

may_end : (cfg : Config) (c : ℕ) → Settles (unless_end cfg c)
may_end cfg c = either (ends_with cfg.terminator c) (after_end cfg.terminator c, action.EndRecord) (copy state.InField)
    (record { ending = λ _. behind_end cfg.terminator c }) (copies state.InField)

inside : (cfg : Config) (c : ℕ) → Settles (in_field cfg c)
inside cfg c = either (c == cfg.delimiter) (state.StartField, action.EndField) (unless_end cfg c)
    (goes_on state.StartField action.EndField refl) (may_end cfg c)

field_begins : (cfg : Config) (c : ℕ) → Settles (start_field cfg c)
field_begins cfg c = either (cfg.quoting && (c == cfg.quote)) (skip state.InQuoted) (in_field cfg c) (skips state.InQuoted) (inside cfg c)

no_line : (cfg : Config) (c : ℕ) → Settles (cond (is_byte cfg.comment c) (skip state.InComment) (start_field cfg c))
no_line cfg c = either (is_byte cfg.comment c) (skip state.InComment) (start_field cfg c) (skips state.InComment) (field_begins cfg c)

record_begins : (cfg : Config) (c : ℕ) → Settles (start_record cfg c)
record_begins cfg c = either (ends_with cfg.terminator c) (skip state.StartRecord)
    (cond (is_byte cfg.comment c) (skip state.InComment) (start_field cfg c))
    (skips state.StartRecord) (no_line cfg c)

no_quote : (cfg : Config) (c : ℕ) → Settles (cond (cfg.quoting && is_byte cfg.escape c) (skip state.InEscape) (copy state.InQuoted))
no_quote cfg c = either (cfg.quoting && is_byte cfg.escape c) (skip state.InEscape) (copy state.InQuoted) (skips state.InEscape)
    (copies state.InQuoted)

each_byte : (cfg : Config) (s : State) (c : ℕ) → Settles (step cfg s c)
each_byte cfg state.StartRecord c = record_begins cfg c
each_byte cfg state.AfterCr c = either (c == line_feed) (skip state.StartRecord) (start_record cfg c) (skips state.StartRecord)
    (record_begins cfg c)
each_byte cfg state.StartField c = field_begins cfg c
each_byte cfg state.InField c = inside cfg c
each_byte cfg state.AfterQuote c =
    either (cfg.quoting && cfg.double_quote && (c == cfg.quote)) (copy state.InQuoted) (in_field cfg c) (copies state.InQuoted)
    (inside cfg c)
each_byte cfg state.InQuoted c = either (cfg.quoting && (c == cfg.quote)) (skip state.AfterQuote)
    (cond (cfg.quoting && is_byte cfg.escape c) (skip state.InEscape) (copy state.InQuoted)) (skips state.AfterQuote) (no_quote cfg c)
each_byte cfg state.InEscape c = copies state.InQuoted
each_byte cfg state.InComment c =
    either (c == line_feed) (skip state.StartRecord) (skip state.InComment) (skips state.StartRecord) (skips state.InComment)

-- ---- a whole read

-- an answer by cases is the one or the other
which : {X : Type 0} (b : Bool) (x : X) (later : Option X) (p : X) → cond b (Some x) later ≡ Some p
    → ((b ≡ true) × (x ≡ p)) ⊎ (later ≡ Some p)
which true x later p h = let e : Some x ≡ Some p = h in inl (refl, cc)
which false x later p h = inr h

no_answer : {X P : Type 0} (p : X) → None ≡ Some p → P
no_answer p h = absurd (let e : None ≡ Some p = h in cc)

pub record Leaves (bytes : List ℕ) (p : Read) : Type 0 where
  pub between : ends_at_end p.1 ≡ false
  pub few : length p.2 ≤ length bytes

last_byte : (b : Bool) (found : List (List ℕ)) (p : Read) → ((b ≡ true) × ((found, state.StartRecord, []) ≡ p)) ⊎ (None ≡ Some p)
    → Leaves [] p
last_byte b found p (inl e) = subst (Leaves []) e.1 (record { between = refl; few = omega arith })
last_byte b found p (inr e) = no_answer p e

first_byte : (c : ℕ) (rest : List ℕ) (found : List (List ℕ)) (turn : State × Action) (later : Option Read) (p : Read)
    → Settles turn → (later ≡ Some p → Leaves rest p)
    → ((is_end turn.1 ≡ true) × ((found, turn.0, rest) ≡ p)) ⊎ (later ≡ Some p) → Leaves (c ∷ rest) p
first_byte c rest found turn later p settles more (inl e) =
    subst (Leaves (c ∷ rest)) e.1 (record { between = settles.ending e.0; few = omega arith })
first_byte c rest found turn later p settles more (inr e) = let l = more e in record { between = l.between; few = omega (arith, l.few) }

pub read-leaves : (cfg : Config) (s : State) (fields : List (List ℕ)) (field bytes : List ℕ) (p : Read)
    → next_record cfg s fields field bytes ≡ Some p → Leaves bytes p
unfolding next_record
read-leaves cfg s fields field [] p h =
    last_byte (ends_at_end s) (fields ++ (field ∷ [])) p (which (ends_at_end s) (fields ++ (field ∷ []), state.StartRecord, []) None p h)
read-leaves cfg s fields field (c ∷ rest) p h =
    let turn = step cfg s c in
    let found = fields_after turn.1 fields field in
    let later = next_record cfg turn.0 found (field_after turn.1 c field) rest in
    first_byte c rest found turn later p (each_byte cfg s c) (read-leaves cfg turn.0 found (field_after turn.1 c field) rest p)
    (which (is_end turn.1) (found, turn.0, rest) later p h)

no_record : (b : Bool) (found : List (List ℕ)) (p : Read) → b ≡ false
    → ((b ≡ true) × ((found, state.StartRecord, []) ≡ p)) ⊎ (None ≡ Some p) → length p.2 < 0
no_record b found p f (inl e) = absurd (false≢true (sym f ∙ e.0))
no_record b found p f (inr e) = no_answer p e

fewer : (c : ℕ) (rest : List ℕ) (b : Bool) (found : List (List ℕ)) (s : State) (later : Option Read) (p : Read)
    → (later ≡ Some p → Leaves rest p)
    → ((b ≡ true) × ((found, s, rest) ≡ p)) ⊎ (later ≡ Some p) → length p.2 < length (c ∷ rest)
fewer c rest b found s later p more (inl e) = subst (λ q. length q.2 < length (c ∷ rest)) e.1 (omega arith)
fewer c rest b found s later p more (inr e) = let l = more e in omega (arith, l.few)

-- from between two records, a read takes at least a byte
pub shorter : (cfg : Config) (s : State) (fields : List (List ℕ)) (field bytes : List ℕ) (p : Read)
    → ends_at_end s ≡ false → next_record cfg s fields field bytes ≡ Some p → length p.2 < length bytes
unfolding next_record
shorter cfg s fields field [] p whole h =
    no_record (ends_at_end s) (fields ++ (field ∷ [])) p whole
    (which (ends_at_end s) (fields ++ (field ∷ []), state.StartRecord, []) None p h)
shorter cfg s fields field (c ∷ rest) p whole h =
    let turn = step cfg s c in
    let found = fields_after turn.1 fields field in
    let later = next_record cfg turn.0 found (field_after turn.1 c field) rest in
    fewer c rest (is_end turn.1) found turn.0 later p (read-leaves cfg turn.0 found (field_after turn.1 c field) rest p)
    (which (is_end turn.1) (found, turn.0, rest) later p h)

-- ---- many reads

-- how many records at most is no matter where there is one for each byte
step-same : (cfg : Config) (n m : ℕ) (s : State) (xs : List ℕ) (o : Option Read) → next_record cfg s [] [] xs ≡ o
    → ((p : Read) → o ≡ Some p → records_from cfg n p.1 p.2 ≡ records_from cfg m p.1 p.2)
    → records_next (records_from cfg n) o ≡ records_next (records_from cfg m) o
step-same cfg n m s xs None e h = refl
step-same cfg n m s xs (Some p) e h = ap (λ t. p.0 ∷ t) (h p refl)

pub records_from-same : (cfg : Config) (n m : ℕ) (s : State) (xs : List ℕ) → ends_at_end s ≡ false → length xs < n → length xs < m
    → records_from cfg n s xs ≡ records_from cfg m s xs
unfolding records_from
records_from-same cfg zero m s xs b h k = absurd (omega (arith, h))
records_from-same cfg (suc n) zero s xs b h k = absurd (omega (arith, k))
records_from-same cfg (suc n) (suc m) s xs b h k = step-same cfg n m s xs (next_record cfg s [] [] xs) refl
    (λ p e. let less = shorter cfg s [] [] xs p b e in
    records_from-same cfg n m p.1 p.2 (read-leaves cfg s [] [] xs p e).between (omega (arith, less)) (omega (arith, less)))

few-step : (cfg : Config) (n : ℕ) (xs : List ℕ) (o : Option Read)
    → ((p : Read) → o ≡ Some p → length (records_from cfg n p.1 p.2) < length xs)
    → length (records_next (records_from cfg n) o) ≤ length xs
few-step cfg n xs None h = omega arith
few-step cfg n xs (Some p) h = let k = h p refl in omega arith

-- at most one record for each byte
few_records : (cfg : Config) (n : ℕ) (s : State) (xs : List ℕ) → ends_at_end s ≡ false → length (records_from cfg n s xs) ≤ length xs
unfolding records_from
few_records cfg zero s xs b = omega arith
few_records cfg (suc n) s xs b = few-step cfg n xs (next_record cfg s [] [] xs)
    (λ p e. let less = shorter cfg s [] [] xs p b e in
    let more = few_records cfg n p.1 p.2 (read-leaves cfg s [] [] xs p e).between in omega (arith, less, more))

strip_bom-no_longer : (xs : List ℕ) → length (strip_bom xs) ≤ length xs
unfolding strip_bom
strip_bom-no_longer [] = omega arith
strip_bom-no_longer (a ∷ []) = omega arith
strip_bom-no_longer (a ∷ b ∷ []) = omega arith
strip_bom-no_longer (a ∷ b ∷ c ∷ rest) =
    elim ((a == 0xEF) && (b == 0xBB) && (c == 0xBF)) as (λ t. length (cond t rest (a ∷ b ∷ c ∷ rest)) ≤ length (a ∷ b ∷ c ∷ rest)) [
      | true ↦ omega arith
      | false ↦ omega arith
    ]

pub few_records_of : (cfg : Config) (xs : List ℕ) → length (records cfg (strip_bom xs)) ≤ length xs
few_records_of cfg xs =
    omega (arith, few_records cfg (length (strip_bom xs) + 1) state.StartRecord (strip_bom xs) refl, strip_bom-no_longer xs)
