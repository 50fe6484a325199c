-- The next slice of a merge as an entry, and which pages it asks for, by what is served.
use Rattle.std.proofs.Common.{◌≡◌, ◌==◌, ◌+◌, ◌&&◌, arith, ℕ, zero, suc, nat_le, Bool, true, false, min, List, [], ◌∷◌, ◌++◌, length, map, take, if◌then◌else◌}
use Rattle.std.proofs.Common.{Option, Some, None, Result, Ok, Err, refl, sym, ap, subst, ◌∙◌}
use Rattle.std.proofs.Math.Path.{fun_ext}
use Rattle.std.proofs.lemmas.Bool.Decides.{nat_tests}
use Rattle.std.proofs.lemmas.List.{length-map}
use Rattle.std.proofs.lemmas.List.Concat.{flat_map-append}
use Rattle.std.proofs.lemmas.Slice.Eq.{bytes_eq-Decides}
use Rattle.std.specs.List.{flat_map}
use Rattle.std.specs.Option.{ForSome, IsSome, option_and_then, option_map}
use Rattle.std.specs.Result.{IsErrAnd}
use Rattle.svr_catalog.specs.Merging.{IsSliceExactly}
use Rattle.svr_catalog.specs.Stands.{CatalogValue, Stands}
use Rattle.svr_index.specs.Docs.{refs_at}
use Rattle.svr_iter.specs.Asked.{Stops}
use Rattle.svr_iter.specs.declared.fault.ScanFault.{ScanFault}
use Rattle.svr_iter.specs.declared.fault.ScanFault.TheVariants as scan
use Rattle.svr_journal.specs.File.{end_of}
use Rattle.svr_listing.specs.declared.document.Listed.{Listed}
use Rattle.svr_listing.specs.Listing.{Listing, is_effective, pages_of, refs_of, stands_by}
use Rattle.svr_listing.specs.Merges.{Merge, terms_left}
use Rattle.svr_listing.specs.Served as listing
use Rattle.svr_listing.specs.Served.{IsServed}
use Rattle.svr_listing.proofs.ByBytes.{effective-is, stands_by-is}
use Rattle.svr_lists.specs.Lists.{StandsForServed, last_in}
use Rattle.svr_lists.specs.Slices.{AreFirst, AsksSlice, pairs_under, sliced_term, slice_of, slice_with, taken_from}
use Rattle.svr_lists.specs.Taken.{taken_by}
use Rattle.svr_lists.specs.declared.slice.Slice.{Slice}
use Rattle.svr_merge.specs.Images.{page_parts}
use Rattle.svr_postpage.specs.Wanted.{pairs_told}
use Rattle.svr_postpage.specs.declared.page_ref.PageFault.{PageFault}
use Rattle.svr_postpage.specs.declared.page_ref.PageRef.{PageRef}
use Rattle.svr_postpage.specs.declared.pair.Pair.{Pair}
use Rattle.svr_record.specs.Bodies.{body_of}
use Rattle.svr_record.specs.declared.record.Record.{Record}
use Rattle.svr_record.specs.declared.record.Record.TheVariants as entry
use Rattle.svr_record.specs.declared.record.TermPages.{TermPages}
use Rattle.svr_request.specs.declared.refusal.Refusal.TheVariants as refusal
use Rattle.svr_request.specs.declared.reply.Reply.TheVariants.{Left, Refused}
use Rattle.svr_tokens.specs.Tokens.{tokens_of}
use Rattle.svr_core.specs.declared.plan.Edit.{Edit}
use Rattle.svr_core.specs.declared.plan.Edit.TheVariants as edit
use Rattle.svr_core.specs.declared.plan.Entry.{Entry}
use Rattle.svr_core.specs.declared.plan.Step.TheVariants as step
use Rattle.svr_core.specs.Edits.{is_next, is_next_of, same_slice, same_terms, served_with, still_lawful}
use Rattle.svr_core.specs.Kept.{CoreValue, ServesAs, catalog_of, last_of}
use Rattle.svr_core.specs.Merges.{AsksSliced, IsKnown, IsSliceEntry, IsReadyFor, IsStepEntry, MayCome, taken_behind}
use Rattle.svr_core.specs.Replay.{pages_place}
use Rattle.svr_core.specs.Run.{Due, IsOfMerge, answer_due, edit_due, has_room, left_in, next_slice, pages_for, pages_sliced, slice_due, step_due, terms_reply, unless_empty}
use Rattle.svr_core.specs.State.{Served, State}
use Rattle.svr_core.proofs.Begun.{slice_accepted}

-- ---- what a slice may come to

room_of_merge : (room : Bool) (left : ℕ) (added : List (List ℕ))
    → IsOfMerge (if room then record { reply = Left left; added = added } else answer_due (Refused refusal.JournalFull)).reply
room_of_merge true left added = tt
room_of_merge false left added = tt

empty_of_merge : (empty : Bool) (left : ℕ) (due : Due) → IsOfMerge due.reply → IsOfMerge (if empty then answer_due (Left left) else due).reply
empty_of_merge true left due of_merge = tt
empty_of_merge false left due of_merge = of_merge

edit_of_merge : (s : State) (after : Served) (terms : List TermPages) (pages : List ℕ) (at : ℕ) (kept : Record)
    → served_with s.served (edit.Slice terms pages at) ≡ after → IsOfMerge (edit_due s (edit.Slice terms pages at) kept).reply
edit_of_merge s after terms pages at kept is =
    subst (λ (x : Served). IsOfMerge (if has_room s.bodies (body_of kept) then record { reply = terms_reply x; added = body_of kept ∷ [] }
    else answer_due (Refused refusal.JournalFull)).reply) (sym is)
    (room_of_merge (has_room s.bodies (body_of kept)) (left_in after.listed.listing after.listed.merge) (body_of kept ∷ []))

slice_of_merge : (s : State) (slice : Slice) → IsOfMerge (unless_empty s slice).reply
slice_of_merge s slice =
    let at = pages_place s.bodies slice.terms slice.pages in
    empty_of_merge (length slice.terms == 0) (left_in s.served.listed.listing s.served.listed.merge)
    (edit_due s (edit.Slice slice.terms slice.pages at) (entry.Slice slice.terms slice.pages))
    (edit_of_merge s (served_with s.served (edit.Slice slice.terms slice.pages at)) slice.terms slice.pages at
    (entry.Slice slice.terms slice.pages) refl)

picked_first : {A : Type 0} (test : Bool) (a b : A) → test ≡ true → (if test then a else b) ≡ a
picked_first true a b is = refl
picked_first false a b is = absurd (let e : false ≡ true = is in cc)

both : {a b : Bool} → a ≡ true → b ≡ true → (a && b) ≡ true
both h k = rw (h, k) refl

picked_second : {A : Type 0} (test : Bool) (a b : A) → test ≡ false → (if test then a else b) ≡ b
picked_second true a b is = absurd (let e : true ≡ false = is in cc)
picked_second false a b is = refl

-- as many terms as were taken are taken again
taken_again : (pairs : List ℕ → List Pair) (n most : ℕ) (terms : List (List ℕ))
    → taken_from pairs n (take (length (taken_from pairs n (take most terms))) terms) ≡ taken_from pairs n (take most terms)
taken_again pairs n zero terms = refl
taken_again pairs n (suc most) [] = refl
taken_again pairs n (suc most) (term ∷ terms) =
    by (taken_again pairs (n + length (page_parts (pairs term))) most terms) (nat_le 1024 n) refl
  where
    rest : List (List ℕ)
    rest = taken_from pairs (n + length (page_parts (pairs term))) (take most terms)

    by : taken_from pairs (n + length (page_parts (pairs term))) (take (length rest) terms) ≡ rest → (full : Bool) → nat_le 1024 n ≡ full
        → taken_from pairs n (take (length (if full then [] else term ∷ rest)) (term ∷ terms)) ≡ (if full then [] else term ∷ rest)
    by again true is = refl
    by again false is = picked_second (nat_le 1024 n) [] (term ∷ taken_from pairs (n + length (page_parts (pairs term))) (take (length rest) terms)) is
        ∙ ap (λ (ts : List (List ℕ)). term ∷ ts) again

-- a slice is the next one for as many terms as it has
sliced_again : (stands : List ℕ → Listed → Bool) (l : Listing) (m : Merge) (most : ℕ)
    → slice_of stands l m (length (slice_of stands l m most).terms) ≡ slice_of stands l m most
sliced_again stands l m most =
    let pairs = pairs_under stands l m in
    let terms = taken_from pairs 0 (take most (terms_left l m)) in
    ap (λ (n : ℕ). slice_with pairs (taken_from pairs 0 (take n (terms_left l m)))) (length-map terms (λ (term : List ℕ). sliced_term term (pairs term)))
    ∙ ap (slice_with pairs) (taken_again pairs 0 most (terms_left l m))

same_number : (n : ℕ) → (n == n) ≡ true
same_number n = grind (arith, nat_tests)

same_terms-refl : (ts : List TermPages) → same_terms ts ts ≡ true
same_terms-refl [] = refl
same_terms-refl (t ∷ ts) = both (both ((bytes_eq-Decides t.term t.term).1 refl) (same_number t.pages)) (same_terms-refl ts)

same_slice-refl : (slice : Slice) → same_slice slice slice ≡ true
same_slice-refl slice = both (same_terms-refl slice.terms) ((bytes_eq-Decides slice.pages slice.pages).1 refl)

is_next-of : (l : Listing) (m : Merge) (most : ℕ) (slice : Slice) → slice ≡ slice_of (is_effective l) l m most → is_next_of l (Some m) slice ≡ true
is_next-of l m most slice is =
    subst (λ (x : Slice). is_next_of l (Some m) x ≡ true) (sym is)
    (ap (same_slice (slice_of (is_effective l) l m most)) (sliced_again (is_effective l) l m most)
    ∙ same_slice-refl (slice_of (is_effective l) l m most))

-- a merge is begun where there is a last sliced term
begun_by_last : (o : Option Merge) → IsSome (option_map (λ m. m.last) o) → (m : Merge) × (o ≡ Some m)
begun_by_last None some = absurd (let e : false ≡ true = some in cc)
begun_by_last (Some m) some = (m, refl)

-- a slice of a merge that is begun
pub sliced_of_merge : (s : State) (most : ℕ) → IsSome (option_map (λ m. m.last) s.served.listed.merge) → IsOfMerge (step_due s (step.Slice most)).reply
sliced_of_merge s most begun =
    let m = begun_by_last s.served.listed.merge begun in
    subst (λ (o : Option Merge). IsOfMerge (slice_due s most o).reply) (sym m.1) (slice_of_merge s (next_slice s.served.listed.listing m.0 most))

-- ---- the slice that was made

module _ (told : Option (List ℕ)) (core : CoreValue) (v : CatalogValue) (kept : core.kept ≡ Some v) (begun : IsSome (last_of core))
    (most bound : ℕ) (bound_is : bound ≡ min most 1000) (s : State) (serves : ServesAs core s.served) where
  merge_begun : (m : Merge) × (s.served.listed.merge ≡ Some m)
  merge_begun = begun_by_last s.served.listed.merge (subst (λ (o : Option (Option (List ℕ))). IsSome o) serves.last begun)

  of_merge : IsOfMerge (step_due s (step.Slice most)).reply
  of_merge = sliced_of_merge s most (subst (λ (o : Option (Option (List ℕ))). IsSome o) serves.last begun)

  module _ (slice : Slice) (exact : ForSome told (λ bytes. IsSliceExactly v bound bytes slice)) where
    slice_is : IsKnown told s.served → slice ≡ next_slice s.served.listed.listing merge_begun.0 most
    slice_is known =
        exact known.bytes known.is s.served.listed merge_begun.0 (serves.lists known.lawful v kept) merge_begun.1 known.holds
        ∙ ap (slice_of (is_effective s.served.listed.listing) s.served.listed.listing merge_begun.0) bound_is

    due_is : IsKnown told s.served → step_due s (step.Slice most) ≡ unless_empty s slice
    due_is known = ap (slice_due s most) merge_begun.1 ∙ ap (unless_empty s) (sym (slice_is known))

    is_next_here : IsKnown told s.served → is_next s.served.listed slice ≡ true
    is_next_here known = subst (λ (o : Option Merge). is_next_of s.served.listed.listing o slice ≡ true) (sym merge_begun.1)
        (is_next-of s.served.listed.listing merge_begun.0 (min most 1000) slice (slice_is known))

    -- there is no term to slice
    pub none_sliced : (length slice.terms == 0) ≡ true
        → (IsKnown told s.served → step_due s (step.Slice most) ≡ answer_due (terms_reply s.served))
        × IsOfMerge (step_due s (step.Slice most)).reply
    none_sliced empty = (λ known. due_is known ∙ picked_first (length slice.terms == 0) _ _ empty, of_merge)

    -- the slice is an entry
    pub slice_planned : (e : Entry) (end : ℕ) → IsSliceEntry slice end e → end ≡ end_of s.bodies → (length slice.terms == 0) ≡ false
        → ((at : ℕ) → IsSome (taken_by v.lists slice at)) → IsStepEntry (IsKnown told s.served) core s (step.Slice most) e
    slice_planned e end made at some may = record {
      kept = entry.Slice slice.terms slice.pages;
      is_record = here.is_record;
      body = here.body;
      is_ready = subst (IsReadyFor s.served) (sym here.edit_is) tt;
      again = slice_accepted s.bodies core s.served serves slice.terms slice.pages comes
          ∙ ap (λ (x : Edit). Some (served_with s.served x)) (sym here.edit_is);
      due = λ known. due_is known ∙ picked_second (length slice.terms == 0) _ _ some
          ∙ ap (λ (x : Edit). edit_due s x (entry.Slice slice.terms slice.pages)) (sym here.edit_is);
      lawful = λ known. subst (λ (x : Edit). still_lawful s.served x ≡ true) (sym here.edit_is) (both known.lawful (is_next_here known));
      of_merge = of_merge;
    }
      where
        here : IsSliceEntry slice (end_of s.bodies) e
        here = subst (λ (n : ℕ). IsSliceEntry slice n e) at made

        set : IsSome (catalog_of core)
        set = rw kept refl

        comes : MayCome core (edit.Slice slice.terms slice.pages (pages_place s.bodies slice.terms slice.pages))
        comes = subst (λ (o : Option CatalogValue). IsSome (taken_behind (option_and_then (λ w. last_in w.lists) o) slice
            (pages_place s.bodies slice.terms slice.pages))) (sym kept) (may (pages_place s.bodies slice.terms slice.pages))

-- ---- the pages that were asked for

terms_sliced : (pairs : List ℕ → List Pair) (terms : List (List ℕ)) → map (λ t. t.term) (map (λ term. sliced_term term (pairs term)) terms) ≡ terms
terms_sliced pairs [] = refl
terms_sliced pairs (term ∷ terms) = ap (λ (ts : List (List ℕ)). term ∷ ts) (terms_sliced pairs terms)

module _ (told : Option (List ℕ)) (core : CoreValue) (v : CatalogValue) (kept : core.kept ≡ Some v) (begun : IsSome (last_of core))
    (most bound : ℕ) (bound_is : bound ≡ min most 1000) where
  -- the pages of the first terms of a slice are the first ones of its pages
  pages_first : (terms : List (List ℕ)) (asked : List PageRef) → asked ≡ flat_map (refs_at v.lists.index) terms
      → ForSome told (λ bytes. (l : listing.Served) (m : Merge) → IsServed tokens_of l → StandsForServed v.lists l → l.merge ≡ Some m
      → AreFirst terms (taken_from (pairs_under (stands_by (pairs_told bytes) l.listing) l.listing m) 0 (take bound (terms_left l.listing m))))
      → (s : Served) → ServesAs core s → IsKnown told s → (others : List PageRef) × (asked ++ others ≡ pages_for s (step.Slice most))
  pages_first terms asked are first s serves known = (
    refs_of l rest.0,
    ap (λ (ps : List PageRef). ps ++ refs_of l rest.0) front
        ∙ sym (flat_map-append refs terms rest.0)
        ∙ ap (refs_of l) (rest.1 ∙ same_terms)
        ∙ ap (pages_sliced l most) (sym merge.1),
  )
    where
      merge : (m : Merge) × (s.listed.merge ≡ Some m)
      merge = begun_by_last s.listed.merge (subst (λ (o : Option (Option (List ℕ))). IsSome o) serves.last begun)

      stands : Stands v s.listed
      stands = serves.lists known.lawful v kept

      l : Listing
      l = s.listed.listing

      refs : List ℕ → List PageRef
      refs = λ term. map (λ page. page.head) (pages_of l.lists term)

      read : PageRef → List Pair
      read = pairs_told known.bytes

      rest : AreFirst terms (taken_from (pairs_under (stands_by read l) l merge.0) 0 (take bound (terms_left l merge.0)))
      rest = first known.bytes known.is s.listed merge.0 stands.served stands.lists merge.1

      front : asked ≡ flat_map refs terms
      front = are ∙ ap (λ (f : List ℕ → List PageRef). flat_map f terms) (fun_ext stands.lists.index.pages)

      effective : stands_by read l ≡ is_effective l
      effective = fun_ext (λ term. fun_ext (λ d.
          stands_by-is read l known.holds stands.served.listing.in_order term d ∙ sym (effective-is l term d)))

      same_terms : taken_from (pairs_under (stands_by read l) l merge.0) 0 (take bound (terms_left l merge.0))
          ≡ map (λ t. t.term) (next_slice l merge.0 most).terms
      same_terms =
          ap (λ (n : ℕ). taken_from (pairs_under (stands_by read l) l merge.0) 0 (take n (terms_left l merge.0))) bound_is
          ∙ ap (λ (f : List ℕ → Listed → Bool). taken_from (pairs_under f l merge.0) 0 (take (min most 1000) (terms_left l merge.0))) effective
          ∙ sym (terms_sliced (pairs_under (is_effective l) l merge.0)
          (taken_from (pairs_under (is_effective l) l merge.0) 0 (take (min most 1000) (terms_left l merge.0))))

  module _ {R : Type 0} (gives : R → PageRef → R → Type 0) (fails : R → PageRef → PageFault → R → Type 0) (old new : R) where
    -- a call asks for the pages that its slice asked for, if it stops where that did
    asks_same : {T : Type 0} (made : Result Slice ScanFault) (result : Result T ScanFault)
        → (asks : AsksSlice told gives fails v.lists bound old new made)
        → Stops {R = R} {T = T} fails asks.asks.left asks.asks.between new result
        → AsksSliced {R = R} {T = T} told gives fails core most old new result
    asks_same made result asks stops = record {
      given = asks.asks.given;
      left = asks.asks.left;
      between = asks.asks.between;
      in_turn = asks.asks.in_turn;
      stops = stops;
      are_needed = pages_first asks.terms (asks.asks.given ++ asks.asks.left) asks.asks.are_these asks.first;
    }

    -- it answers
    pub asks_sliced : {T : Type 0} (slice : Slice) (answer : T) → AsksSlice told gives fails v.lists bound old new (Ok slice)
        → AsksSliced {R = R} {T = T} told gives fails core most old new (Ok answer)
    asks_sliced slice answer asks = asks_same (Ok slice) (Ok answer) asks asks.asks.stops

    -- the slice came to a fault
    pub asks_unsliced : {T : Type 0} (why : ScanFault) (result : Result T ScanFault) → IsErrAnd result (λ e. e ≡ why)
        → AsksSlice told gives fails v.lists bound old new (Err why)
        → AsksSliced {R = R} {T = T} told gives fails core most old new result
    asks_unsliced why (Ok value) is asks = absurd is
    asks_unsliced {T} why (Err e) is asks = asks_same (Err why) (Err e) asks
        (subst (λ (x : ScanFault). Stops {R = R} {T = T} fails asks.asks.left asks.asks.between new (Err x)) (sym is) (by why asks.asks.stops))
      where
        by : (x : ScanFault) → Stops {R = R} {T = Slice} fails asks.asks.left asks.asks.between new (Err x)
            → Stops {R = R} {T = T} fails asks.asks.left asks.asks.between new (Err x)
        by scan.Memory stops = stops
        by (scan.Page fault) stops = stops

    -- memory was wanting for the entry
    pub asks_spent : {T : Type 0} (slice : Slice) (result : Result T ScanFault) → IsErrAnd result (λ e. e ≡ scan.Memory)
        → AsksSlice told gives fails v.lists bound old new (Ok slice)
        → AsksSliced {R = R} {T = T} told gives fails core most old new result
    asks_spent slice (Ok value) is asks = absurd is
    asks_spent {T} slice (Err e) is asks = asks_same (Ok slice) (Err e) asks
        (subst (λ (x : ScanFault). Stops {R = R} {T = T} fails asks.asks.left asks.asks.between new (Err x)) (sym is) asks.asks.stops.1)
