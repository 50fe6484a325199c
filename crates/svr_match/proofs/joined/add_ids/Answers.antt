use Rattle.std.proofs.Common.{◌≡◌, ◌∙◌, List, ℕ, [], ◌∷◌, length, refl, ap, sym, arith, rules}
use Rattle.std.specs.Global.{Vec}
use Rattle.svr_listing.specs.Joined.{either}
use Rattle.svr_iter.specs.Merging.{Up-from}
use Rattle.svr_iter.proofs.MergeSteps.{either-nil}
use Rattle.svr_match.proofs.joined.add_ids.Goals as goal

none : (xs : List ℕ) → length xs ≡ 0 → xs ≡ []
none [] e = refl
none (x ∷ xs) e = absurd (omega arith)

pub returns-then-is_empty : goal.returns-then-is_empty
returns-then-is_empty c =
    let zero : length c.args.ids.now.items ≡ 0 = search rules in
    ap (λ (v : Vec ℕ). v.items) c.swap.ensures.x_after
    ∙ sym (either-nil c.args.others.now.items (Up-from c.args.others.now.items c.requires.others))
    ∙ sym (ap (either c.args.others.now.items) (none c.args.ids.now.items zero))
