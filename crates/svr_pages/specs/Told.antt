-- What a reader tells, and that it is as its relations say.
use Rattle.std.proofs.Common.{◌≡◌, ◌⊎◌, ℕ, ◌<◌, ◌≤◌, ◌+◌, ◌-◌, List, length, take, drop, Option, None, Some, refl, sym, ap, subst, ◌∙◌, arith, inl, inr}
use Rattle.std.specs.Option.{ForSome, option_map}
use Rattle.std.proofs.lemmas.List.{length-drop, length-take, take-take}
use Rattle.std.proofs.lemmas.Slice.{between_is}
use Rattle.svr_edge.specs.Disk.{DiskView}
use Rattle.svr_postpage.specs.declared.page_ref.Damage.TheVariants as damage
use Rattle.svr_postpage.specs.declared.page_ref.PageFault.{PageFault}
use Rattle.svr_postpage.specs.declared.page_ref.PageFault.TheVariants as fault
use Rattle.svr_postpage.specs.declared.page_ref.PageRef.{PageRef}
use Rattle.svr_postpage.specs.Pages.{bytes_at}
use Rattle.svr_postpage.specs.Wanted.{TellsDamage, damage_by_pairs, damage_in}
use Rattle.svr_postpage.proofs.Spelling.{page_in-short}
use Rattle.svr_pages.specs.Asked.{AreRead, Fails, FromCache, FromDisk, Gives}
use Rattle.svr_pages.specs.Cached.{CachedPages}

-- a page within reach is the same of what is told
pub bytes_at-take : (reach at : ℕ) (content : List ℕ) → at + 4096 ≤ reach → bytes_at (take reach content) at ≡ bytes_at content at
bytes_at-take reach at content within =
    between_is (take reach content) at (at + 4096)
    ∙ ap (drop at) (take-take (at + 4096) reach content within)
    ∙ sym (between_is content at (at + 4096))

pub bytes_at-is : (at : ℕ) (content : List ℕ) → bytes_at content at ≡ take 4096 (drop at content)
bytes_at-is at content =
    let so_many : at + 4096 - at ≡ 4096 = omega arith in
    ap (λ m. take m (drop at content)) so_many

-- what is told, by the content
told_by : (reach : ℕ) (o : Option (List ℕ)) (bytes : List ℕ) → option_map (take reach) o ≡ Some bytes
    → (content : List ℕ) × ((o ≡ Some content) × (bytes ≡ take reach content))
told_by reach None bytes is = absurd (cc)
told_by reach (Some content) bytes is = (content, (refl, cc))

-- bytes that were read, or are cached, are those told
pub read_is_told : (reach : ℕ) (d : DiskView) (at : ℕ) (into : List ℕ) → at + 4096 ≤ reach → AreRead at d into
    → ForSome (option_map (take reach) d.content) (λ bytes. into ≡ bytes_at bytes at)
read_is_told reach d at into within are = λ bytes told.
    let by = told_by reach d.content bytes told in
    are by.0 by.1.0
    ∙ sym (bytes_at-is at by.0)
    ∙ sym (bytes_at-take reach at by.0 within)
    ∙ ap (λ (l : List ℕ). bytes_at l at) (sym by.1.1)

-- a page that ends past reach is none of what is told
pub past_is_none : (reach : ℕ) (o : Option (List ℕ)) (want : PageRef) → reach < want.at + 4096
    → TellsDamage want (option_map (take reach) o) (fault.Damaged want.at damage.NotAPage)
past_is_none reach o want past = (
  refl,
  λ bytes told.
      let by = told_by reach o bytes told in
      let short : length (bytes_at bytes want.at) < 4096 =
      let front : length (drop want.at (take reach by.0)) ≤ reach - want.at =
      omega (arith, length-drop want.at (take reach by.0), length-take reach by.0) in
      omega (
        arith,
        ap (λ (l : List ℕ). length (bytes_at l want.at)) by.1.1,
        length-take (want.at + 4096 - want.at) (drop want.at (take reach by.0)),
      ) in
      ap (damage_by_pairs want) (page_in-short (bytes_at bytes want.at) short),
)

module _ {D : Type 0} (view : D → DiskView) (reach : ℕ) (want : PageRef) (old new : D) (pages kept : CachedPages) where
  abbrev told : Option (List ℕ)
  told = option_map (take reach) (view old).content

  within : {P : Type 0} (bytes : List ℕ)
      → FromCache view reach want old new pages kept bytes ⊎ (FromDisk view reach want old new pages kept × P)
      → want.at + 4096 ≤ reach
  within bytes (inl cached) = cached.within
  within bytes (inr (read, kept)) = read.within

  -- a page that was given is undamaged in what is told
  pub Gives-sound : Gives view reach want old new pages kept → ForSome told (λ bytes. damage_in want (bytes_at bytes want.at) ≡ None)
  Gives-sound given = λ bytes tells.
      let there = read_is_told reach (view old) want.at given.bytes (within given.bytes given.from) given.are_read in
      ap (damage_in want) (sym (there bytes tells)) ∙ given.wanted

  same_content : {P : Type 0} (bytes : List ℕ)
      → FromCache view reach want old new pages kept bytes ⊎ (FromDisk view reach want old new pages kept × P)
      → (view new).content ≡ (view old).content
  same_content bytes (inl cached) = ap (λ d. (view d).content) cached.same_disk
  same_content bytes (inr (read, kept)) = read.once.stays.content

  -- it tells the same after a page was given
  pub Gives-same : (far : ℕ) → Gives view reach want old new pages kept → far ≡ reach → option_map (take far) (view new).content ≡ told
  Gives-same far given same =
      ap (λ n. option_map (take n) (view new).content) same ∙ ap (option_map (take reach)) (same_content given.bytes given.from)

  -- a fault tells its damage
  pub Fails-tells : (why : PageFault) → Fails view reach want old new pages kept why → TellsDamage want told why
  Fails-tells fault.Read failed = tt
  Fails-tells (fault.Damaged at why) (same, inl (none, past)) =
      subst (TellsDamage want told) (ap (λ a. fault.Damaged a why) (sym same))
      (subst (λ d. TellsDamage want told (fault.Damaged want.at d)) (sym none) (past_is_none reach (view old).content want past.past))
  Fails-tells (fault.Damaged at why) (same, inr damaged) = (
    same,
    λ bytes tells.
        let there = read_is_told reach (view old) want.at damaged.bytes (within damaged.bytes damaged.from) damaged.are_read in
        ap (λ a. damage_in want (bytes_at bytes a)) same ∙ ap (damage_in want) (sym (there bytes tells)) ∙ damaged.wrong,
  )
