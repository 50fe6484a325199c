-- What taking the greatest key from each list does to the groups of all of them.
use Rattle.std.proofs.Common.{◌≡◌, ℕ, ◌<◌, ◌^◌, Bool, true, List, [], ◌∷◌, ◌++◌, map, Option, Some, unwrap_or, refl, ap, sym, subst, ◌∙◌}
use Rattle.std.specs.List.{AllByRecursion, flat_map}
use Rattle.svr_num.specs.declared.mode.Mode.{Mode}
use Rattle.svr_num.specs.declared.mode.Mode.TheVariants as mode
use Rattle.svr_postpage.specs.declared.page_ref.PageRef.{PageRef}
use Rattle.svr_listing.specs.Groups.{AreGroups, IsGroup}
use Rattle.svr_listing.specs.Joined.{groups_in_all, groups_in_any}
use Rattle.svr_listing.specs.declared.group.Group.{Group}
use Rattle.svr_iter.specs.Keys.{greatest}
use Rattle.svr_iter.specs.Layout.{TakesAt, is_next}
use Rattle.svr_iter.specs.Taking.{IsLess, TakesGroup}
use Rattle.svr_iter.proofs.Choosing.{below_key, less_both, one_is}
use Rattle.svr_iter.proofs.Stepping.{IsStep, Step, groups-step, news, some_took}
use Rattle.svr_match.specs.Joined.{any_of, common_of, joined, may_in}
use Rattle.svr_match.specs.JoinedLaws.{ArePart, Part, all-is, any_groups-is, groups_joined, joined-group, map-map, mays}
use Rattle.svr_match.specs.Layout.{AreTaken, Turn}

-- ---- the turns as steps, where the reader tells bytes

abbrev step_of : {P : Type 0} → (P → Option ℕ) → (P → List Group) → ℕ → Turn P → Step
step_of next groups key t = record { old = groups t.old; new = groups t.new; ids = t.ids; took = is_next key (next t.old) }

are_steps : {P : Type 0} (groups : P → List ℕ → List Group) (next : P → Option ℕ) (may : P → ℕ → ℕ → Bool) (pages : P → ℕ → List PageRef)
    (told : Option (List ℕ)) (key : ℕ) (bytes : List ℕ)
    → told ≡ Some bytes → ((p : P) → AreGroups (may p) (next p) (groups p bytes)) → (turns : List (Turn P))
    → AllByRecursion (λ turn. TakesAt groups next may pages told key turn.old turn.new turn.ids) turns
    → AllByRecursion (IsStep key) (map (step_of next (λ p. groups p bytes) key) turns)
are_steps groups next may pages told key bytes at law [] all = tt
are_steps groups next may pages told key bytes at law (t ∷ ts) all = (
  record { is = all.0.taken bytes at; none = all.0.none; below = below_key _ _ key (groups t.new bytes) (law t.new) all.0.less },
  are_steps groups next may pages told key bytes at law ts all.1,
)

some_step : {P : Type 0} (next : P → Option ℕ) (groups : P → List Group) (key : ℕ) (turns : List (Turn P))
    → greatest (map next (map (λ (t : Turn P). t.old) turns)) ≡ Some key
    → some_took (map (step_of next groups key) turns) ≡ true
some_step next groups key [] e = absurd (cc)
some_step next groups key (t ∷ ts) e = one_is (next t.old) _ key _ e (some_step next groups key ts)

abbrev pub ids_in : {P : Type 0} → List (Turn P) → List (List ℕ)
ids_in turns = map (λ turn. turn.ids) turns

-- the first group of all lists was taken
taken_first : {P : Type 0} (m : Mode) (groups : P → List ℕ → List Group) (next : P → Option ℕ) (may : P → ℕ → ℕ → Bool)
    (pages : P → ℕ → List PageRef) (told : Option (List ℕ)) (key : ℕ)
    (old new : List P) (Holds : List (List ℕ) → Type 0) (bytes : List ℕ) → (are : AreTaken groups next may pages told key old new Holds)
    → Some key ≡ greatest (map next old)
    → ((p : P) (more : List ℕ) → AreGroups (may p) (next p) (groups p more)) → told ≡ Some bytes
    → groups_joined m (map (λ p. groups p bytes) old)
    ≡ record { key = unwrap_or (greatest (map next old)) 0; ids = joined m (ids_in are.turns) } ∷ groups_joined m
    (map (λ p. groups p bytes) new)
taken_first {P} m groups next may pages told key old new Holds bytes are e law at =
    let turns = are.turns in
    let ids : List ℕ = joined m (ids_in turns) in
    let f : Turn P → Step = step_of next (λ p. groups p bytes) key in
    let first : greatest (map next (map (λ (t : Turn P). t.old) turns)) ≡ Some key =
    ap (λ (l : List P). greatest (map next l)) are.olds ∙ sym e in
    ap (λ (l : List P). groups_joined m (map (λ p. groups p bytes) l)) (sym are.olds)
    ∙ ap (groups_joined m) (map-map (λ p. groups p bytes) (λ (t : Turn P). t.old) turns ∙ sym (map-map (λ (s : Step). s.old) f turns))
    ∙ groups-step (joined m) key (map f turns) (are_steps groups next may pages told key bytes at (λ p. law p bytes) turns are.each)
    (some_step next (λ p. groups p bytes) key turns first)
    ∙ ap (λ (l : List (List ℕ)). record { key = key; ids = joined m l } ∷ groups_joined m (news (map f turns)))
    (map-map (λ (s : Step). s.ids) f turns)
    ∙ ap (λ (l : List (List Group)). record { key = key; ids = ids } ∷ groups_joined m l)
    (map-map (λ (s : Step). s.new) f turns ∙ sym (map-map (λ p. groups p bytes) (λ (t : Turn P). t.new) turns))
    ∙ ap (λ (l : List P). record { key = key; ids = ids } ∷ groups_joined m (map (λ p. groups p bytes) l)) are.news
    ∙ ap (λ (o : Option ℕ). record { key = unwrap_or o 0; ids = ids } ∷ groups_joined m (map (λ p. groups p bytes) new)) e

abbrev part_of : {P : Type 0} → (P → ℕ → ℕ → Bool) → Turn P → Part
part_of may t = record { may = may t.old; ids = t.ids }

are_parts : {P : Type 0} (groups : P → List ℕ → List Group) (next : P → Option ℕ) (may : P → ℕ → ℕ → Bool) (pages : P → ℕ → List PageRef)
    (told : Option (List ℕ)) (key : ℕ) (turns : List (Turn P))
    → AllByRecursion (λ turn. TakesAt groups next may pages told key turn.old turn.new turn.ids) turns
    → AllByRecursion (ArePart key) (map (part_of may) turns)
are_parts groups next may pages told key [] all = tt
are_parts groups next may pages told key (t ∷ ts) all = (all.0.allowed, are_parts groups next may pages told key ts all.1)

taken_lawful : {P : Type 0} (m : Mode) (groups : P → List ℕ → List Group) (next : P → Option ℕ) (may : P → ℕ → ℕ → Bool)
    (pages : P → ℕ → List PageRef) (told : Option (List ℕ)) (key : ℕ)
    (old new : List P) (Holds : List (List ℕ) → Type 0) → (are : AreTaken groups next may pages told key old new Holds)
    → Some key ≡ greatest (map next old) → key < 2 ^ 48
    → IsGroup (may_in m (map may old)) (record { key = unwrap_or (greatest (map next old)) 0; ids = joined m (ids_in are.turns) })
taken_lawful {P} m groups next may pages told key old new Holds are e fits =
    let turns = are.turns in
    let ids : List ℕ = joined m (ids_in turns) in
    subst (λ (o : Option ℕ). IsGroup (may_in m (map may old)) (record { key = unwrap_or o 0; ids = ids })) e
    (subst (λ (l : List P). IsGroup (may_in m (map may l)) (record { key = key; ids = ids })) are.olds
    (subst (λ (l : List (ℕ → ℕ → Bool)). IsGroup (may_in m l) (record { key = key; ids = ids }))
    (map-map (λ (q : Part). q.may) (part_of may) turns ∙ sym (map-map may (λ (t : Turn P). t.old) turns))
    (subst (λ (l : List (List ℕ)). IsGroup (may_in m (mays (map (part_of may) turns))) (record { key = key; ids = joined m l }))
    (map-map (λ (q : Part). q.ids) (part_of may) turns)
    (joined-group m key (map (part_of may) turns) fits (are_parts groups next may pages told key turns are.each)))))

-- what taking the key from each list does to all of them
pub taken : {P : Type 0} (m : Mode) (groups : P → List ℕ → List Group) (next : P → Option ℕ) (may : P → ℕ → ℕ → Bool)
    (pages : P → ℕ → List PageRef) (told : Option (List ℕ)) (key : ℕ)
    (old new : List P) (Holds : List (List ℕ) → Type 0) → (are : AreTaken groups next may pages told key old new Holds)
    → Some key ≡ greatest (map next old) → key < 2 ^ 48
    → ((p : P) (more : List ℕ) → AreGroups (may p) (next p) (groups p more))
    → TakesGroup (λ ps bytes. groups_joined m (map (λ p. groups p bytes) ps)) (λ ps. greatest (map next ps)) (λ ps. may_in m (map may ps))
    (λ ps k. flat_map (λ p. pages p k) ps)
    told old new (joined m (ids_in are.turns))
taken {P} m groups next may pages told key old new Holds are e fits law = record {
  first = λ bytes at. taken_first m groups next may pages told key old new Holds bytes are e law at;
  lawful = taken_lawful m groups next may pages told key old new Holds are e fits;
  next_less = subst (λ (o : Option ℕ). IsLess (greatest (map next new)) o) e
      (subst (λ (l : List P). IsLess (greatest (map next l)) (Some key)) are.news (lower are.turns are.each));
  same_may = ap (may_in m) (ap (map may) (sym are.news) ∙ same_may are.turns are.each ∙ ap (map may) are.olds);
  same_pages = λ k lt.
      let below : k < key = subst (λ (o : Option ℕ). k < unwrap_or o 0) (sym e) lt in
      ap (flat_map (λ p. pages p k)) (sym are.news) ∙ same_pages k below are.turns are.each ∙ ap (flat_map (λ p. pages p k)) are.olds;
}
  where
    lower : (ts : List (Turn P)) → AllByRecursion (λ turn. TakesAt groups next may pages told key turn.old turn.new turn.ids) ts
        → IsLess (greatest (map next (map (λ (t : Turn P). t.new) ts))) (Some key)
    lower [] all = tt
    lower (t ∷ ts) all = less_both (next t.new) _ key all.0.less (lower ts all.1)

    same_may : (ts : List (Turn P)) → AllByRecursion (λ turn. TakesAt groups next may pages told key turn.old turn.new turn.ids) ts
        → map may (map (λ (t : Turn P). t.new) ts) ≡ map may (map (λ (t : Turn P). t.old) ts)
    same_may [] all = refl
    same_may (t ∷ ts) all =
        ap (λ (f : ℕ → ℕ → Bool). f ∷ map may (map (λ (t : Turn P). t.new) ts)) all.0.same_may
        ∙ ap (λ (l : List (ℕ → ℕ → Bool)). may t.old ∷ l) (same_may ts all.1)

    same_pages : (k : ℕ) → k < key → (ts : List (Turn P))
        → AllByRecursion (λ turn. TakesAt groups next may pages told key turn.old turn.new turn.ids) ts
        → flat_map (λ p. pages p k) (map (λ (t : Turn P). t.new) ts) ≡ flat_map (λ p. pages p k) (map (λ (t : Turn P). t.old) ts)
    same_pages k below [] all = refl
    same_pages k below (t ∷ ts) all =
        ap (λ (l : List PageRef). l ++ flat_map (λ p. pages p k) (map (λ (t : Turn P). t.new) ts)) (all.0.same_pages k below)
        ∙ ap (λ (l : List PageRef). pages t.old k ++ l) (same_pages k below ts all.1)

abbrev pub all_in : {P : Type 0} → (P → List ℕ → List Group) → List P → List ℕ → List Group
all_in groups ps bytes = groups_in_all (map (λ p. groups p bytes) ps)

abbrev pub any_in : {P : Type 0} → (P → List ℕ → List Group) → List P → List ℕ → List Group
any_in groups ps bytes = groups_in_any (map (λ p. groups p bytes) ps)

pub all_taken : {P : Type 0} (groups : P → List ℕ → List Group) (next : P → Option ℕ) (may : P → ℕ → ℕ → Bool)
    (pages : P → ℕ → List PageRef) (told : Option (List ℕ)) (key : ℕ)
    (old new : List P) (Holds : List (List ℕ) → Type 0) (ids : List ℕ) → (are : AreTaken groups next may pages told key old new Holds)
    → Some key ≡ greatest (map next old) → key < 2 ^ 48
    → ((p : P) (more : List ℕ) → AreGroups (may p) (next p) (groups p more)) → ids ≡ common_of (ids_in are.turns)
    → TakesGroup (all_in groups) (λ ps. greatest (map next ps)) (λ ps. may_in mode.All (map may ps))
    (λ ps k. flat_map (λ p. pages p k) ps) told old new ids
all_taken {P} groups next may pages told key old new Holds ids are e fits law same =
    let t = taken mode.All groups next may pages told key old new Holds are e fits law in
    subst (λ (l : List ℕ). TakesGroup (all_in groups) (λ ps. greatest (map next ps)) (λ ps. may_in mode.All (map may ps))
    (λ ps k. flat_map (λ p. pages p k) ps) told old new l) (sym same)
    (record {
      first = λ bytes at. all-is (map (λ p. groups p bytes) old) ∙ t.first bytes at
          ∙ ap (λ (l : List Group). record { key = unwrap_or (greatest (map next old)) 0; ids = common_of (ids_in are.turns) } ∷ l)
          (sym (all-is (map (λ p. groups p bytes) new)));
      lawful = t.lawful;
      next_less = t.next_less;
      same_may = t.same_may;
      same_pages = t.same_pages;
    })

pub any_taken : {P : Type 0} (groups : P → List ℕ → List Group) (next : P → Option ℕ) (may : P → ℕ → ℕ → Bool)
    (pages : P → ℕ → List PageRef) (told : Option (List ℕ)) (key : ℕ)
    (old new : List P) (Holds : List (List ℕ) → Type 0) (ids : List ℕ) → (are : AreTaken groups next may pages told key old new Holds)
    → Some key ≡ greatest (map next old) → key < 2 ^ 48
    → ((p : P) (more : List ℕ) → AreGroups (may p) (next p) (groups p more)) → ids ≡ any_of (ids_in are.turns)
    → TakesGroup (any_in groups) (λ ps. greatest (map next ps)) (λ ps. may_in mode.Any (map may ps))
    (λ ps k. flat_map (λ p. pages p k) ps) told old new ids
any_taken {P} groups next may pages told key old new Holds ids are e fits law same =
    let t = taken mode.Any groups next may pages told key old new Holds are e fits law in
    subst (λ (l : List ℕ). TakesGroup (any_in groups) (λ ps. greatest (map next ps)) (λ ps. may_in mode.Any (map may ps))
    (λ ps k. flat_map (λ p. pages p k) ps) told old new l) (sym same)
    (record {
      first = λ bytes at. any_groups-is (map (λ p. groups p bytes) old) ∙ t.first bytes at
          ∙ ap (λ (l : List Group). record { key = unwrap_or (greatest (map next old)) 0; ids = any_of (ids_in are.turns) } ∷ l)
          (sym (any_groups-is (map (λ p. groups p bytes) new)));
      lawful = t.lawful;
      next_less = t.next_less;
      same_may = t.same_may;
      same_pages = t.same_pages;
    })

-- the first list had its turn, and then the others
pub with_first : {P : Type 0} (groups : P → List ℕ → List Group) (next : P → Option ℕ) (may : P → ℕ → ℕ → Bool)
    (pages : P → ℕ → List PageRef) (told mid_told : Option (List ℕ)) (key : ℕ)
    (old new : P) (olds news : List P) (ids : List ℕ) (Holds Then : List (List ℕ) → Type 0)
    → TakesAt groups next may pages told key old new ids → mid_told ≡ told
    → (others : AreTaken groups next may pages mid_told key olds news Holds) → Then (ids ∷ ids_in others.turns)
    → AreTaken groups next may pages told key (old ∷ olds) (new ∷ news) Then
with_first {P} groups next may pages told mid_told key old new olds news ids Holds Then first same others holds = record {
  turns = record { old = old; new = new; ids = ids } ∷ others.turns;
  olds = ap (λ (l : List P). old ∷ l) others.olds;
  news = ap (λ (l : List P). new ∷ l) others.news;
  holds = holds;
  each = (
    first,
    subst (λ (t : Option (List ℕ)). AllByRecursion
        (λ turn. TakesAt groups next may pages t key turn.old turn.new turn.ids) others.turns) same others.each,
  );
}
