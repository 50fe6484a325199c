-- For the laws of readers.
use Rattle.std.proofs.Common.{◌≡◌, ℕ, List, Option, subst, sym}
use Rattle.svr_postpage.specs.declared.page_ref.PageFault.{PageFault}
use Rattle.svr_postpage.specs.declared.page_ref.PageFault.TheVariants as fault
use Rattle.svr_postpage.specs.declared.page_ref.PageRef.{PageRef}
use Rattle.svr_postpage.specs.Wanted.{TellsDamage}

-- a failed read tells no damage
pub tells-read : (want : PageRef) (told : Option (List ℕ)) {why : PageFault} → why ≡ fault.Read → TellsDamage want told why
tells-read want told is = subst (TellsDamage want told) (sym is) tt
