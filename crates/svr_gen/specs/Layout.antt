-- Words of private clauses: a text that is being written.
use Rattle.std.specs.Prelude.{ℕ, ◌%◌, ◌++◌}
use Rattle.rand_pcg.specs.Pcg.{pcg32}
use Rattle.svr_gen.specs.Parts.{Part, Written}

-- the text with a part more
unfoldable pub followed : Written → Part → Written
followed w part = record { text = w.text ++ (part w.generator).text; generator = (part w.generator).generator }

-- the number below m that is drawn next
unfoldable pub drawn : ℕ → Written → ℕ
drawn m w = (pcg32 w.generator).0 % m

-- the text as it is, with the generator behind one draw
unfoldable pub after_draw : Written → Written
after_draw w = record w { generator = (pcg32 w.generator).1 }
