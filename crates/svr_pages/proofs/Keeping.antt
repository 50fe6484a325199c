-- Keeping a page in a cache, seen as addresses with their bytes.
use Rattle.std.proofs.Common.{◌≡◌, ◌⊎◌, ℕ, ◌<◌, ◌-◌, true, nat_eq, List, ◌∷◌, take, Option, None, Some, Contains, sym, ap, subst, ◌∙◌, eqb-true, inl, inr}
use Rattle.std.specs.Map.{lookup, lookup_entry, remove_entry}
use Rattle.std.specs.Option.{option_map, option_map_or}
use Rattle.std.proofs.lemmas.List.{take-map}
use Rattle.lru.specs.LruCache.{LruCache, lru_cache, put_entries}
use Rattle.lru.proofs.CallerLemmas.{Contains-put_entries}
use Rattle.svr_postpage.specs.declared.page_ref.PageRef.{PageRef}
use Rattle.svr_postpage.specs.Pages.{page_in}
use Rattle.svr_postpage.specs.Pairs.{ref_of}
use Rattle.svr_pages.specs.declared.pages.Kept.{Kept}
use Rattle.svr_pages.specs.Cached.{MayKeep, cached_at, with_page}
use Rattle.svr_pages.specs.Layout.{AreKnown, EachKnown, MayPut, seen}
use Rattle.svr_pages.proofs.Finding.{cached_at-seen, none-seen, none_there}

-- a new page comes in front
put-new : (c : LruCache ℕ Kept) (at : ℕ) (kept : Kept) → lookup (nat_eq at) c.entries ≡ None
    → put_entries nat_eq c at kept ≡ (at, kept) ∷ take (c.cap - 1) c.entries
put-new c at kept none =
    let gone : lookup_entry (nat_eq at) c.entries ≡ None = none_there (nat_eq at) c.entries none in
    ap (λ (o : Option (ℕ × Kept)). option_map_or (λ e. (e.0, kept) ∷ remove_entry (nat_eq at) c.entries) o ((at, kept) ∷ take (c.cap - 1) c.entries)) gone

-- a page is kept, in what is seen too
kept-seen : (page : PageRef) (bytes : List ℕ) (old : LruCache ℕ Kept) → cached_at page.at (seen (Some old)) ≡ None
    → seen (Some (lru_cache (put_entries nat_eq old page.at (record { page = page; bytes = bytes })) old.cap))
    ≡ with_page page.at bytes (seen (Some old))
kept-seen page bytes old none =
    let gone = none-seen _ (sym (cached_at-seen page.at old) ∙ none) in
    let kept : Kept = record { page = page; bytes = bytes } in
    ap (λ (es : List (ℕ × Kept)). seen (Some (lru_cache es old.cap))) (put-new old page.at kept gone)
    ∙ ap (λ (es : List (ℕ × List ℕ)). record { pages = (page.at, bytes) ∷ es; capacity = old.cap })
    (sym (take-map (λ (e : ℕ × Kept). (e.0, e.1.bytes)) (old.cap - 1) old.entries))

pub may_keep : (page : PageRef) (bytes : List ℕ) (old new : LruCache ℕ Kept) → cached_at page.at (seen (Some old)) ≡ None → 0 < old.cap
    → MayPut page bytes old new → MayKeep page.at bytes (seen (Some old)) (seen (Some new))
may_keep page bytes old new none room (inl same) = inl (ap (λ (c : LruCache ℕ Kept). seen (Some c)) same)
may_keep page bytes old new none room (inr put) =
    inr (room, ap (λ (c : LruCache ℕ Kept). seen (Some c)) put ∙ kept-seen page bytes old none)

known_by : (page : PageRef) (bytes : List ℕ) (old : LruCache ℕ Kept) → EachKnown old.entries
    → option_map (ref_of page.at) (page_in bytes) ≡ Some page → (e : ℕ × Kept)
    → (Contains old.entries e ⊎ ((e.1 ≡ record { page = page; bytes = bytes })
    × ((e.0 ≡ page.at) ⊎ ((w : Kept) × Contains old.entries (e.0, w) × (nat_eq page.at e.0 ≡ true)))))
    → option_map (ref_of e.0) (page_in e.1.bytes) ≡ Some e.1.page
known_by page bytes old known is e (inl there) = known e there
known_by page bytes old known is e (inr (same, inl key)) = rw (same, key) is
known_by page bytes old known is e (inr (same, inr (w, there, test))) =
    let key : page.at ≡ e.0 = eqb-true page.at e.0 test in
    rw (same, ← key) is

-- each is known after one was put
pub known-put : (page : PageRef) (bytes : List ℕ) (old new : LruCache ℕ Kept) → AreKnown (Some old)
    → option_map (ref_of page.at) (page_in bytes) ≡ Some page → MayPut page bytes old new → AreKnown (Some new)
known-put page bytes old new known is (inl same) = subst (λ (c : LruCache ℕ Kept). AreKnown (Some c)) (sym same) known
known-put page bytes old new known is (inr put) =
    subst (λ (c : LruCache ℕ Kept). AreKnown (Some c)) (sym put) (
      λ e in_it. known_by page bytes old known.0 is e (Contains-put_entries nat_eq old page.at (record { page = page; bytes = bytes }) e in_it),
      known.1,
    )
