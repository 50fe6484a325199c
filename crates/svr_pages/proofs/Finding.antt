-- Finding in a cache, seen as addresses with their bytes.
use Rattle.std.proofs.Common.{◌≡◌, ℕ, Bool, true, false, cond, nat_eq, List, [], ◌∷◌, map, Option, None, Some, IfSome, refl, sym, ap, ap₂, subst, ◌∙◌, eqb-true}
use Rattle.std.specs.Map.{lookup, lookup_entry, remove_entry}
use Rattle.std.specs.Option.{option_map, option_map_or}
use Rattle.std.proofs.lemmas.Map.Made.{lookup-map_values}
use Rattle.lru.specs.LruCache.{LruCache, lru_cache, promoted}
use Rattle.lru.proofs.CallerLemmas.{Contains-lookup, Contains-promoted}
use Rattle.svr_postpage.specs.declared.page_ref.PageRef.{PageRef}
use Rattle.svr_postpage.specs.Pages.{page_in}
use Rattle.svr_postpage.specs.Pairs.{ref_of}
use Rattle.svr_pages.specs.declared.pages.Kept.{Kept}
use Rattle.svr_pages.specs.Cached.{CachedPages, cached_at, used}
use Rattle.svr_pages.specs.Layout.{EachKnown, seen}

module _ {V : Type 0} where
  value_of : (b : Bool) (e : ℕ × V) (o : Option (ℕ × V))
      → cond b (Some e.1) (option_map (λ (x : ℕ × V). x.1) o) ≡ option_map (λ (x : ℕ × V). x.1) (cond b (Some e) o)
  value_of true e o = refl
  value_of false e o = refl

  lookup-entry : (test : ℕ → Bool) (es : List (ℕ × V)) → lookup test es ≡ option_map (λ (x : ℕ × V). x.1) (lookup_entry test es)
  lookup-entry test [] = refl
  lookup-entry test (e ∷ es) =
      ap (λ (o : Option V). cond (test e.0) (Some e.1) o) (lookup-entry test es) ∙ value_of (test e.0) e (lookup_entry test es)

  none-entry : (o : Option (ℕ × V)) → option_map (λ (x : ℕ × V). x.1) o ≡ None → o ≡ None
  none-entry None is = refl
  none-entry (Some e) is = absurd (cc)

  pub none_there : (test : ℕ → Bool) (es : List (ℕ × V)) → lookup test es ≡ None → lookup_entry test es ≡ None
  none_there test es none = none-entry (lookup_entry test es) (sym (lookup-entry test es) ∙ none)

module _ {V W : Type 0} (g : V → W) where
  abbrev shown : ℕ × V → ℕ × W
  shown e = (e.0, g e.1)

  first_of : (b : Bool) (e : ℕ × V) (o : Option (ℕ × V)) → cond b (Some (shown e)) (option_map shown o) ≡ option_map shown (cond b (Some e) o)
  first_of true e o = refl
  first_of false e o = refl

  lookup_entry-shown : (test : ℕ → Bool) (es : List (ℕ × V)) → lookup_entry test (map shown es) ≡ option_map shown (lookup_entry test es)
  lookup_entry-shown test [] = refl
  lookup_entry-shown test (e ∷ es) =
      ap (λ (o : Option (ℕ × W)). cond (test e.0) (Some (shown e)) o) (lookup_entry-shown test es)
      ∙ first_of (test e.0) e (lookup_entry test es)

  rest_of : (b : Bool) (e : ℕ × V) (es rest : List (ℕ × V)) → cond b (map shown es) (shown e ∷ map shown rest) ≡ map shown (cond b es (e ∷ rest))
  rest_of true e es rest = refl
  rest_of false e es rest = refl

  remove_entry-shown : (test : ℕ → Bool) (es : List (ℕ × V)) → remove_entry test (map shown es) ≡ map shown (remove_entry test es)
  remove_entry-shown test [] = refl
  remove_entry-shown test (e ∷ es) =
      ap (λ (l : List (ℕ × W)). cond (test e.0) (map shown es) (shown e ∷ l)) (remove_entry-shown test es)
      ∙ rest_of (test e.0) e es (remove_entry test es)

  front_of : (o : Option (ℕ × V)) (es rest : List (ℕ × V))
      → option_map_or (λ e. e ∷ map shown rest) (option_map shown o) (map shown es) ≡ map shown (option_map_or (λ e. e ∷ rest) o es)
  front_of None es rest = refl
  front_of (Some e) es rest = refl

  -- a page that is used goes in front in what is seen too
  promoted-shown : (test : ℕ → Bool) (es : List (ℕ × V)) → promoted test (map shown es) ≡ map shown (promoted test es)
  promoted-shown test es =
      ap₂ (λ (l : List (ℕ × W)) (o : Option (ℕ × W)). option_map_or (λ e. e ∷ l) o (map shown es)) (remove_entry-shown test es)
      (lookup_entry-shown test es)
      ∙ front_of (lookup_entry test es) es (remove_entry test es)

-- the page that is used goes in front
pub used-seen : (at : ℕ) (c : LruCache ℕ Kept) → seen (Some (lru_cache (promoted (nat_eq at) c.entries) c.cap)) ≡ used at (seen (Some c))
used-seen at c =
    ap (λ (es : List (ℕ × List ℕ)). record { pages = es; capacity = c.cap }) (sym (promoted-shown (λ (k : Kept). k.bytes) (nat_eq at) c.entries))

-- what is seen at an address
pub cached_at-seen : (at : ℕ) (c : LruCache ℕ Kept) → cached_at at (seen (Some c)) ≡ option_map (λ (k : Kept). k.bytes) (lookup (nat_eq at) c.entries)
cached_at-seen at c = lookup-map_values (λ (k : Kept). k.bytes) (nat_eq at) c.entries

-- each is known after one was used
pub known-promoted : (at : ℕ) (es : List (ℕ × Kept)) → EachKnown es → EachKnown (promoted (nat_eq at) es)
known-promoted at es known = λ e in_it. known e (Contains-promoted (nat_eq at) es e in_it)

-- what is found is known by what stands beside it
pub known-found : (at : ℕ) (es : List (ℕ × Kept)) (kept : Kept) → EachKnown es → lookup (nat_eq at) es ≡ Some kept
    → option_map (ref_of at) (page_in kept.bytes) ≡ Some kept.page
known-found at es kept known found =
    let there = Contains-lookup (nat_eq at) es kept found in
    let same : at ≡ there.0 = eqb-true at there.0 there.2 in
    subst (λ (k : ℕ). option_map (ref_of k) (page_in kept.bytes) ≡ Some kept.page) (sym same) (known (there.0, kept) there.1)

-- nothing is cached where nothing is seen
pub none-seen : (o : Option Kept) → option_map (λ (k : Kept). k.bytes) o ≡ None → o ≡ None
none-seen None is = refl
none-seen (Some k) is = absurd (cc)

module _ (at : ℕ) (c : LruCache ℕ Kept) (into : List ℕ) where
  -- a page was found: its bytes, and what it is known by
  abbrev pub Found : PageRef → Type 0
  Found page = (kept : Kept) × (lookup (nat_eq at) c.entries ≡ Some kept) × (page ≡ kept.page) × (into ≡ kept.bytes)

  pub found-seen : (r : Option PageRef) (v : CachedPages) → seen (Some c) ≡ v → IfSome r Found → IfSome r (λ _. cached_at at v ≡ Some into)
  found-seen None v is found = tt
  found-seen (Some page) v is (kept, there, same, bytes) =
      ap (cached_at at) (sym is)
      ∙ cached_at-seen at c
      ∙ ap (option_map (λ (k : Kept). k.bytes)) there
      ∙ ap (λ (l : List ℕ). Some l) (sym bytes)

  pub known-seen : (r : Option PageRef) → EachKnown c.entries → IfSome r Found
      → IfSome r (λ page. option_map (ref_of at) (page_in into) ≡ Some page)
  known-seen None known found = tt
  known-seen (Some page) known (kept, there, same, bytes) =
      ap (λ (l : List ℕ). option_map (ref_of at) (page_in l)) bytes
      ∙ known-found at c.entries kept known there
      ∙ ap (λ (p : PageRef). Some p) (sym same)

  pub none_found-seen : (v : CachedPages) → seen (Some c) ≡ v → lookup (nat_eq at) c.entries ≡ None → cached_at at v ≡ None
  none_found-seen v is none = ap (cached_at at) (sym is) ∙ cached_at-seen at c ∙ ap (option_map (λ (k : Kept). k.bytes)) none

-- a page that isn't cached changes nothing
pub used-none : (at : ℕ) (c : CachedPages) → cached_at at c ≡ None → used at c ≡ c
used-none at c none =
    ap (λ (o : Option (ℕ × List ℕ)). record {
      pages = option_map_or (λ e. e ∷ remove_entry (nat_eq at) c.pages) o c.pages;
      capacity = c.capacity;
    }) (none_there (nat_eq at) c.pages none)
