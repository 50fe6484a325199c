-- Each page that a search needs was asked for, where it was answered.
use Rattle.std.proofs.Common.{◌≡◌, ◌≤◌, ◌<◌, ℕ, zero, suc, Bool, true, false, cond, List, [], ◌∷◌, map, nat_eq, get_or, Contains, refl, ap, arith, inl, inr}
use Rattle.std.specs.List.{sum_by}
use Rattle.std.proofs.lemmas.Bool.Decides.{nat_tests}
use Rattle.std.proofs.lemmas.List.Sums.{sum_by-cons}
use Rattle.std.proofs.lemmas.List.Elements.{Contains-append_cases, Contains-append_right}
use Rattle.svr_postpage.specs.declared.page_ref.PageRef.{PageRef}
use Rattle.svr_core.proofs.Apart.{is_place}

-- the only one
only : (place at : ℕ) (k : ℕ) → k < 1 → get_or (place ∷ []) k at ≡ at → place ≡ at
only place at zero within is = is
only place at (suc k) within is = absurd (omega (arith, within))

-- an address that is there weighs something
there_weighs : (at : ℕ) (places : List ℕ) → Contains places at → 1 ≤ sum_by (is_place at) places
there_weighs at [] there = absurd (let within = there.1 in omega arith)
there_weighs at (place ∷ places) there = elim (Contains-append_cases (place ∷ []) places at there) [
  | inl one ↦ (let same : place ≡ at = only place at one.0 one.1 one.2 in
      let one : is_place at place ≡ 1 = grind (arith, nat_tests, same) in omega (arith, one, sum_by-cons (is_place at) place places))
  | inr behind ↦ omega (arith, there_weighs at places behind, sum_by-cons (is_place at) place places)
]

-- and where it weighs something a page is there
weighs_there : (at : ℕ) (pages : List PageRef) → 1 ≤ sum_by (λ (page : PageRef). is_place at page.at) pages
    → (page : PageRef) × (Contains pages page × (page.at ≡ at))
weighs_there at [] some = absurd (omega (arith, some))
weighs_there at (page ∷ pages) some = by (nat_eq at page.at) refl (λ more. weighs_there at pages more)
  where
    by : (b : Bool) → nat_eq at page.at ≡ b
        → (1 ≤ sum_by (λ (p : PageRef). is_place at p.at) pages → (p : PageRef) × (Contains pages p × (p.at ≡ at)))
        → (p : PageRef) × (Contains (page ∷ pages) p × (p.at ≡ at))
    by true is behind = (page, ((0, omega arith, refl), (let same : page.at ≡ at = grind (arith, nat_tests, is) in same)))
    by false is behind =
        let rest = behind (omega (
          arith,
          some,
          sum_by-cons (λ (p : PageRef). is_place at p.at) page pages,
          ap {B = ℕ} (λ (b : Bool). cond b 1 0) is,
        )) in
        (rest.0, (Contains-append_right (page ∷ []) pages rest.0 rest.1.0, rest.1.1))

sum_by-places : (weight : ℕ → ℕ) (pages : List PageRef)
    → sum_by weight (map (λ (page : PageRef). page.at) pages) ≡ sum_by (λ (page : PageRef). weight page.at) pages
sum_by-places weight [] = refl
sum_by-places weight (page ∷ pages) = omega (
  arith,
  sum_by-cons weight page.at (map (λ (p : PageRef). p.at) pages),
  sum_by-cons (λ (p : PageRef). weight p.at) page pages,
  sum_by-places weight pages,
)

-- pages that weigh the same are at the same addresses
pub asked-there : (asked pages : List PageRef) → ((f : PageRef → ℕ) → sum_by f asked ≡ sum_by f pages) → (at : ℕ)
    → Contains (map (λ (page : PageRef). page.at) pages) at → (page : PageRef) × (Contains asked page × (page.at ≡ at))
asked-there asked pages same at there =
    weighs_there at asked (omega (
      arith,
      same (λ (page : PageRef). is_place at page.at),
      sum_by-places (is_place at) pages,
      there_weighs at (map (λ (page : PageRef). page.at) pages) there,
    ))
