-- What is wrong with bytes where a page is wanted.
use Rattle.std.specs.Prelude.{◌≡◌, ℕ, ◌==◌, ◌&&◌, ⊤, Bool, List, [], Option, None, Some, if◌then◌else◌}
use Rattle.std.specs.Option.{ForSome}
use Rattle.svr_postpage.specs.declared.page_ref.Damage.{Damage}
use Rattle.svr_postpage.specs.declared.page_ref.Damage.TheVariants as damage
use Rattle.svr_postpage.specs.declared.page_ref.PageFault.{PageFault}
use Rattle.svr_postpage.specs.declared.page_ref.PageFault.TheVariants as fault
use Rattle.svr_postpage.specs.declared.page_ref.PageRef.{PageRef}
use Rattle.svr_postpage.specs.declared.pair.Pair.{Pair}
use Rattle.svr_postpage.specs.Pages.{bytes_at, page_in}
use Rattle.svr_postpage.specs.Pairs.{ref_of}

-- two pages begin with the same pair and have as many
abbrev pub has_head_of : PageRef → PageRef → Bool
has_head_of a b = (a.key == b.key) && ((a.id == b.id) && (a.count == b.count))

-- no damage where a page found has the wanted head, else that it has another
abbrev pub damage_by_head : PageRef → PageRef → Option Damage
damage_by_head want found = if has_head_of want found then None else Some (damage.Head found.key found.id found.count)

-- the same, by the pairs of the page found, if it is one
abbrev pub damage_by_pairs : PageRef → Option (List Pair) → Option Damage
damage_by_pairs want None = Some damage.NotAPage
damage_by_pairs want (Some pairs) = damage_by_head want (ref_of want.at pairs)

-- what is wrong with bytes where this page is wanted: they are no page, or one with another first pair or number of pairs
abbrev pub damage_in : PageRef → List ℕ → Option Damage
damage_in want bytes = damage_by_pairs want (page_in bytes)

-- a damage is told of the page that was wanted, and is that of the bytes there, where they are told
abbrev pub TellsDamage : PageRef → Option (List ℕ) → PageFault → Type 0
TellsDamage want told fault.Read = ⊤
TellsDamage want told (fault.Damaged at why) = (at ≡ want.at) × ForSome told (λ bytes. damage_in want (bytes_at bytes at) ≡ Some why)

-- the pairs of a page found, if it is one and has the wanted head
abbrev pub pairs_with_head : PageRef → Option (List Pair) → List Pair
pairs_with_head want None = []
pairs_with_head want (Some pairs) = if has_head_of want (ref_of want.at pairs) then pairs else []

-- the pairs that a page has by the bytes told: none where those at its address are no page, or another one
abbrev pub pairs_told : List ℕ → PageRef → List Pair
pairs_told told want = pairs_with_head want (page_in (bytes_at told want.at))
