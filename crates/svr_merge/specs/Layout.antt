-- Words of private clauses.
use Rattle.std.specs.Prelude.{◌≡◌, ℕ, ◌==◌, List, Option, None, find, option_map, true}
use Rattle.std.specs.Ordering.{flip_args, nat_cmp, on, then_cmp}
use Rattle.std.specs.declared.cmp.Ordering.{Ordering}
use Rattle.svr_num.specs.declared.hit.Hit.{Hit}
use Rattle.svr_idmap.specs.Ids.{value_at}
use Rattle.svr_listing.specs.Merges.{is_after}
use Rattle.svr_listing.specs.Methods.{Rules}
use Rattle.svr_long.specs.Lists.{pages_at}
use Rattle.svr_postpage.specs.declared.page_ref.PageRef.{PageRef}
use Rattle.svr_postpage.specs.declared.pair.Pair.{Pair}

-- the key of the score of the document with an id, if there is one
abbrev pub key_among : Rules → List Hit → ℕ → Option ℕ
key_among rules documents id = option_map (λ d. rules.key d.score) (find (λ d. d.id == id) documents)

-- each id has the key of its document's score
abbrev pub HasKeysOf : Rules → List Hit → List (ℕ × ℕ) → Type 0
HasKeysOf rules documents keys = (id : ℕ) → value_at keys id ≡ key_among rules documents id

-- no term after the last one has pages
abbrev pub NoLater : Option (List ℕ) → List (List ℕ × List PageRef) → Type 0
NoLater last lists = (term : List ℕ) → is_after last term ≡ true → pages_at lists term ≡ None

-- the order of pages as an order of two
abbrev pub page_rank : Pair → Pair → Ordering
page_rank = then_cmp (flip_args (on (λ p. p.key) nat_cmp)) (on (λ p. p.id) nat_cmp)
