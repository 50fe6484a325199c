-- The loads of rows that were written beside a text.
use Rattle.std.proofs.Common.{◌≡◌, ◌∙◌, ap, refl, ℕ, List, []}
use Rattle.svr_gen.specs.Parts.{Part, Written, plain, numbered}
use Rattle.svr_gen.specs.Requests.{load, load_of}
use Rattle.svr_gen.specs.Layout.{followed}
use Rattle.svr_gen.proofs.Following.{followed-start}

-- the load of a part is that of its rows
followed-load : (w : Written) (table : List ℕ) (part : Part) → followed w (load_of table (part w.generator)) ≡ followed w (load table part)
unfolding followed load
followed-load w table part = refl

-- rows that were written one by one, from an empty text on, are those of the load
pub followed-load_of : (w start rows : Written) (table : List ℕ) (row : ℕ → Part) (n count : ℕ)
    → start ≡ plain [] w.generator → rows ≡ followed start (numbered row n) → n ≡ count
    → followed w (load_of table rows) ≡ followed w (load table (numbered row count))
followed-load_of w start rows table row n count from are all =
    ap (λ r. followed w (load_of table r))
    (are ∙ ap (λ m. followed start (numbered row m)) all ∙ followed-start start w.generator (numbered row count) from)
    ∙ followed-load w table (numbered row count)
