-- A text is followed by parts one after the other.
use Rattle.std.proofs.Common.{◌≡◌, ◌∙◌, ap, refl, sym, append_assoc, append-nil, add-one, ℕ, suc, ◌+◌, List, [], ◌∷◌}
use Rattle.rand_pcg.specs.Lcg.{Lcg}
use Rattle.svr_gen.specs.Parts.{Part, Written, plain, with_draw, in_turn, numbered}
use Rattle.svr_gen.specs.Layout.{followed, drawn, after_draw}

-- nothing follows
pub followed-nothing : (w : Written) → followed w (plain []) ≡ w
unfolding followed plain
followed-nothing w = ap (λ t. record w { text = t }) (append-nil w.text)

pub followed-in_turn-nil : (w : Written) → followed w (in_turn []) ≡ w
unfolding followed plain in_turn
followed-in_turn-nil w = ap (λ t. record w { text = t }) (append-nil w.text)

-- the first of some parts, and then the others
pub followed-in_turn-cons : (w : Written) (part : Part) (parts : List Part)
    → followed w (in_turn (part ∷ parts)) ≡ followed (followed w part) (in_turn parts)
unfolding followed in_turn
followed-in_turn-cons w part parts =
    ap (λ t. record { text = t; generator = (in_turn parts (part w.generator).generator).generator })
    (sym (append_assoc w.text (part w.generator).text (in_turn parts (part w.generator).generator).text))

-- a number is drawn, and then what is written with it
pub followed-with_draw : (w : Written) (m : ℕ) (part : ℕ → Part)
    → followed w (with_draw m part) ≡ followed (after_draw w) (part (drawn m w))
unfolding followed with_draw drawn after_draw
followed-with_draw w m part = refl

-- the parts for the numbers up to n, and then the next
pub followed-numbered-zero : (w : Written) (part : ℕ → Part) → followed w (numbered part 0) ≡ w
unfolding numbered
followed-numbered-zero w part = followed-nothing w

pub followed-numbered-more : (w : Written) (part : ℕ → Part) (n : ℕ)
    → followed w (numbered part (n + 1)) ≡ followed (followed w (numbered part n)) (part (n + 1))
unfolding numbered
followed-numbered-more w part n = rw add-one (
    followed-in_turn-cons w (numbered part n) (part (suc n) ∷ [])
    ∙ followed-in_turn-cons (followed w (numbered part n)) (part (suc n)) []
    ∙ followed-in_turn-nil (followed (followed w (numbered part n)) (part (suc n))))

-- an empty text is followed by what is written from its generator on
pub followed-start : (start : Written) (g : Lcg) (part : Part) → start ≡ plain [] g → followed start part ≡ part g
unfolding followed plain
followed-start start g part is = rw is refl

pub ruleset parts = (followed-in_turn-nil, followed-in_turn-cons, followed-with_draw)

pub ruleset numbers = (followed-numbered-zero, followed-numbered-more)
