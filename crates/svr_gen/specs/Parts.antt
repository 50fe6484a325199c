-- Parts of a text, with numbers in them that a generator draws in the order in which they stand.
use Rattle.std.specs.Prelude.{ℕ, zero, suc, ◌+◌, ◌%◌, List, [], ◌∷◌, ◌++◌}
use Rattle.std.specs.Fmt.{decimal}
use Rattle.rand_pcg.specs.Lcg.{Lcg, started, increment_of}
use Rattle.rand_pcg.specs.Pcg.{multiplier_64, pcg32}

-- the generator of a number: PCG with words of 32 bits, on stream 1
unfoldable pub generator_of : ℕ → Lcg
generator_of number = started 64 multiplier_64 number (increment_of 64 1)

-- a text that was written, and the generator that its draws left
pub record Written : Type 0 where
  pub text : List ℕ
  pub generator : Lcg

-- a part of a text: what is written of it by a generator
abbrev pub Part : Type 0
Part = Lcg → Written

-- a text without a draw
unfoldable pub plain : List ℕ → Part
plain text g = record { text = text; generator = g }

-- a text that is written already, with the generator that its draws left
unfoldable pub as_written : Written → Part
as_written w g = w

-- what is written with a number that is drawn before it: the next word, modulo m
unfoldable pub with_draw : ℕ → (ℕ → Part) → Part
with_draw m part g = part ((pcg32 g).0 % m) (pcg32 g).1

-- a number below m in decimal
unfoldable pub below : ℕ → Part
below m = with_draw m (λ n. plain (decimal n))

-- a number from 1 to m in decimal
unfoldable pub one_to : ℕ → Part
one_to m = with_draw m (λ n. plain (decimal (1 + n)))

-- parts, each behind the one before it
unfoldable pub in_turn : List Part → Part
in_turn [] g = plain [] g
in_turn (part ∷ parts) g =
    let first = part g in
    let others = in_turn parts first.generator in
    record { text = first.text ++ others.text; generator = others.generator }

-- the parts for the numbers from 1 to n, in turn
unfoldable pub numbered : (ℕ → Part) → ℕ → Part
numbered part zero = plain []
numbered part (suc n) = in_turn (numbered part n ∷ part (suc n) ∷ [])
