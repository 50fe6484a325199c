-- The groups of several lists put together keep the law of postings, as laws need it.
use Rattle.std.proofs.Common.{◌≡◌, ℕ, ◌<◌, ◌^◌, ◌==◌, ◌&&◌, ◌||◌, Bool, true, false, List, [], ◌∷◌, ◌++◌, map, filter, Option, Some, refl, ap, sym, subst, ◌∙◌}
use mathlib.Core.Path.{fun_ext}
use Rattle.std.specs.List.{AllByRecursion, flat_map, list_all, list_any}
use Rattle.std.specs.Option.{IfSome}
use Rattle.svr_num.specs.declared.mode.Mode.{Mode}
use Rattle.svr_num.specs.declared.mode.Mode.TheVariants as mode
use Rattle.svr_postpage.specs.declared.page_ref.PageRef.{PageRef}
use Rattle.svr_listing.specs.Groups.{AreGroups, Descends, IsGroup, first_key}
use Rattle.svr_listing.specs.declared.group.Group.{Group}
use Rattle.svr_listing.specs.Joined.{any_at, common_at, either, groups_in_all, groups_in_any, ids_at, is_in, keys_in}
use Rattle.svr_iter.specs.GroupLaws.{Up-filter, all-append, down_groups, filter-all, first_fits, first_group, from_all, greater_fits, law_groups, less_first, part_at, to_all}
use Rattle.svr_iter.specs.KeyLaws.{descending-all, descending-down, first-keys, keys_of}
use Rattle.svr_iter.specs.Keys.{greatest}
use Rattle.svr_iter.specs.Merging.{Up, Up-either, Up-from, Up-to, all-either}
use Rattle.svr_iter.specs.Taking.{IsLess}
use Rattle.svr_iter.specs.Truths.{and_left, and_right, both_true, eq_from, or_left, or_right}
use Rattle.svr_iter.proofs.Membership.{in_filter}
use Rattle.svr_match.specs.Joined.{any_of, common_of, joined, may_in}

-- the groups of all lists, by the mode
abbrev pub groups_joined : Mode → List (List Group) → List Group
groups_joined m lists = map (λ key. record { key = key; ids = joined m (map (ids_at key) lists) }) (keys_in lists)

-- ---- ids put together

any-all : (P : ℕ → Type 0) (lists : List (List ℕ)) → AllByRecursion (AllByRecursion P) lists → AllByRecursion P (any_of lists)
any-all P [] all = tt
any-all P (ids ∷ others) all = all-either P ids (any_of others) all.0 (any-all P others all.1)

pub any-up : (lists : List (List ℕ)) → Up (any_of lists)
any-up [] = tt
any-up (ids ∷ others) = Up-either ids (any_of others) (any-up others)

joined-up : (m : Mode) (lists : List (List ℕ)) → AllByRecursion Up lists → Up (joined m lists)
joined-up mode.Any lists all = any-up lists
joined-up mode.All [] all = tt
joined-up mode.All (ids ∷ others) all = Up-filter _ ids all.0

joined-all : (m : Mode) (P : ℕ → Type 0) (lists : List (List ℕ)) → AllByRecursion (AllByRecursion P) lists
    → AllByRecursion P (joined m lists)
joined-all mode.Any P lists all = any-all P lists all
joined-all mode.All P [] all = tt
joined-all mode.All P (ids ∷ others) all = filter-all P P _ ids (λ x p e. p) all.0

-- ids at a key, and where an id may come
pub record Part : Type 0 where
  pub may : ℕ → ℕ → Bool
  pub ids : List ℕ

abbrev pub mays : List Part → List (ℕ → ℕ → Bool)
mays parts = map (λ part. part.may) parts

abbrev pub ids_of : List Part → List (List ℕ)
ids_of parts = map (λ part. part.ids) parts

abbrev pub ArePart : ℕ → Part → Type 0
ArePart key part = IsGroup part.may (record { key = key; ids = part.ids })

at_member : (P : ℕ → Type 0) (id : ℕ) (xs : List ℕ) → AllByRecursion P xs → is_in id xs ≡ true → P id
at_member P id [] all e = absurd (cc)
at_member P id (x ∷ xs) all e = one (x == id) refl e (at_member P id xs all.1)
  where
    one : (b : Bool) → (x == id) ≡ b → (b || is_in id xs) ≡ true → (is_in id xs ≡ true → P id) → P id
    one true same h rest = subst P (eq_from x id same) all.0
    one false same h rest = rest h

in_all : (key id : ℕ) (parts : List Part) → AllByRecursion (ArePart key) parts → list_all (λ other. is_in id other) (ids_of parts) ≡ true
    → list_all (λ may. may key id) (mays parts) ≡ true
in_all key id [] all e = refl
in_all key id (part ∷ parts) all e =
    both_true _ _
    (at_member (λ i. part.may key i ≡ true) id part.ids (from_all _ part.ids all.0.allowed) (and_left (is_in id part.ids) _ e))
    (in_all key id parts all.1 (and_right (is_in id part.ids) _ e))

in_any : (key : ℕ) (Q : ℕ → Type 0) (parts : List Part) → AllByRecursion (ArePart key) parts
    → ((id : ℕ) → list_any (λ may. may key id) (mays parts) ≡ true → Q id)
    → AllByRecursion (AllByRecursion Q) (ids_of parts)
in_any key Q [] all q = tt
in_any key Q (part ∷ parts) all q = (
  subst (AllByRecursion Q) (keep part.ids)
      (filter-all (λ i. part.may key i ≡ true) Q (λ i. true) part.ids (λ id e t. q id (or_left _ _ e)) (from_all _ part.ids all.0.allowed)),
  in_any key Q parts all.1 (λ id e. q id (or_right (part.may key id) _ e)),
)
  where
    keep : (xs : List ℕ) → filter (λ (i : ℕ). true) xs ≡ xs
    keep [] = refl
    keep (x ∷ xs) = ap (λ (l : List ℕ). x ∷ l) (keep xs)

allowed_in : (m : Mode) (key : ℕ) (parts : List Part) → AllByRecursion (ArePart key) parts
    → AllByRecursion (λ id. may_in m (mays parts) key id ≡ true) (joined m (ids_of parts))
allowed_in mode.Any key parts all = any-all _ (ids_of parts)
    (in_any key (λ id. list_any (λ may. may key id) (mays parts) ≡ true) parts all (λ id e. e))
allowed_in mode.All key [] all = tt
allowed_in mode.All key (part ∷ parts) all =
    filter-all (λ id. part.may key id ≡ true) _ _ part.ids (λ id here e. both_true _ _ here (in_all key id parts all.1 e))
    (from_all _ part.ids all.0.allowed)

ups : (key : ℕ) (parts : List Part) → AllByRecursion (ArePart key) parts → AllByRecursion Up (ids_of parts)
ups key [] all = tt
ups key (part ∷ parts) all = (Up-from part.ids all.0.ordered.ascending, ups key parts all.1)

fits : (key : ℕ) (parts : List Part) → AllByRecursion (ArePart key) parts
    → AllByRecursion (AllByRecursion (λ id. id < 2 ^ 63)) (ids_of parts)
fits key [] all = tt
fits key (part ∷ parts) all = (from_all _ part.ids all.0.ordered.ids_fit, fits key parts all.1)

pub joined-group : (m : Mode) (key : ℕ) (parts : List Part) → key < 2 ^ 48 → AllByRecursion (ArePart key) parts
    → IsGroup (may_in m (mays parts)) (record { key = key; ids = joined m (ids_of parts) })
joined-group m key parts key_fits all = record {
  ordered = record {
    key_fits = key_fits;
    ascending = Up-to _ (joined-up m (ids_of parts) (ups key parts all));
    ids_fit = to_all _ _ (joined-all m (λ id. id < 2 ^ 63) (ids_of parts) (fits key parts all));
  };
  allowed = to_all _ _ (allowed_in m key parts all);
}

-- ---- the groups

abbrev pub parts_at : {P : Type 0} → (P → ℕ → ℕ → Bool) → (P → List Group) → ℕ → List P → List Part
parts_at may groups key ps = map (λ p. record { may = may p; ids = ids_at key (groups p) }) ps

pub map-map : {P Q T : Type 0} (f : Q → T) (h : P → Q) (ps : List P) → map f (map h ps) ≡ map (λ p. f (h p)) ps
map-map f h [] = refl
map-map {P} {Q} {T} f h (p ∷ ps) = ap (λ (l : List T). f (h p) ∷ l) (map-map f h ps)

each_part : {P : Type 0} (may : P → ℕ → ℕ → Bool) (next : P → Option ℕ) (groups : P → List Group)
    → ((p : P) → AreGroups (may p) (next p) (groups p)) → (key : ℕ) (ps : List P) → key < 2 ^ 48
    → AllByRecursion (ArePart key) (parts_at may groups key ps)
each_part may next groups law key [] lt = tt
each_part may next groups law key (p ∷ ps) lt = (part_at (may p) key (groups p) lt (law p).each, each_part may next groups law key ps lt)

group_law : {P : Type 0} (m : Mode) (may : P → ℕ → ℕ → Bool) (next : P → Option ℕ) (groups : P → List Group)
    → ((p : P) → AreGroups (may p) (next p) (groups p)) → (key : ℕ) (ps : List P)
    → key < 2 ^ 48 → IsGroup (may_in m (map may ps)) (record { key = key; ids = joined m (map (ids_at key) (map groups ps)) })
group_law {P} m may next groups law key ps lt =
    subst (λ (l : List (ℕ → ℕ → Bool)). IsGroup (may_in m l) (record { key = key; ids = joined m (map (ids_at key) (map groups ps)) }))
    (map-map (λ (q : Part). q.may) _ ps)
    (subst (λ (l : List (List ℕ)). IsGroup (may_in m (mays (parts_at may groups key ps))) (record { key = key; ids = joined m l }))
    (map-map (λ (q : Part). q.ids) _ ps ∙ sym (map-map (ids_at key) groups ps))
    (joined-group m key (parts_at may groups key ps) lt (each_part may next groups law key ps lt)))

keys_fit : {P : Type 0} (may : P → ℕ → ℕ → Bool) (next : P → Option ℕ) (groups : P → List Group)
    → ((p : P) → AreGroups (may p) (next p) (groups p)) → (ps : List P)
    → AllByRecursion (λ key. key < 2 ^ 48) (flat_map (λ list. keys_of list) (map groups ps))
keys_fit may next groups law [] = tt
keys_fit may next groups law (p ∷ ps) = all-append _ (keys_of (groups p)) _ (fit (groups p) (law p).each)
    (keys_fit may next groups law ps)
  where
    fit : (gs : List Group) → AllByRecursion (IsGroup (may p)) gs → AllByRecursion (λ key. key < 2 ^ 48) (keys_of gs)
    fit [] all = tt
    fit (g ∷ gs) all = (all.0.ordered.key_fits, fit gs all.1)

descend-all : {P : Type 0} (may : P → ℕ → ℕ → Bool) (next : P → Option ℕ) (groups : P → List Group)
    → ((p : P) → AreGroups (may p) (next p) (groups p)) → (ps : List P)
    → AllByRecursion (λ list. Descends list) (map groups ps)
descend-all may next groups law [] = tt
descend-all may next groups law (p ∷ ps) = ((law p).descend, descend-all may next groups law ps)

firsts : {P : Type 0} (may : P → ℕ → ℕ → Bool) (next : P → Option ℕ) (groups : P → List Group)
    → ((p : P) → AreGroups (may p) (next p) (groups p)) → (ps : List P)
    → map first_key (map groups ps) ≡ map next ps
firsts may next groups law [] = refl
firsts may next groups law (p ∷ ps) = ap (λ (o : Option ℕ). o ∷ map first_key (map groups ps)) (law p).begin
    ∙ ap (λ (l : List (Option ℕ)). next p ∷ l) (firsts may next groups law ps)

pub joined-lawful : {P : Type 0} (m : Mode) (may : P → ℕ → ℕ → Bool) (next : P → Option ℕ) (groups : P → List Group)
    → ((p : P) → AreGroups (may p) (next p) (groups p)) → (ps : List P)
    → AreGroups (may_in m (map may ps)) (greatest (map next ps)) (groups_joined m (map groups ps))
joined-lawful m may next groups law ps = record {
  begin = first_group _ (keys_in (map groups ps)) ∙ first-keys (map groups ps) (descend-all may next groups law ps)
      ∙ ap greatest (firsts may next groups law ps);
  descend = down_groups _ (keys_in (map groups ps)) (descending-down (flat_map (λ list. keys_of list) (map groups ps)));
  each = law_groups _ _ (keys_in (map groups ps)) (λ key lt. group_law m may next groups law key ps lt)
      (descending-all _ (flat_map (λ list. keys_of list) (map groups ps)) (keys_fit may next groups law ps));
}

-- ---- pages

pub joined-gone : {P : Type 0} (next : P → Option ℕ) (pages : P → ℕ → List PageRef)
    → ((p : P) (key : ℕ) → IsLess (next p) (Some key) → pages p key ≡ []) → (ps : List P) (key : ℕ)
    → IsLess (greatest (map next ps)) (Some key) → flat_map (λ p. pages p key) ps ≡ []
joined-gone next pages gone [] key less = refl
joined-gone next pages gone (p ∷ ps) key less =
    let both = less_first (next p) (greatest (map next ps)) key less in
    ap (λ (l : List PageRef). l ++ flat_map (λ q. pages q key) ps) (gone p key both.0) ∙ joined-gone next pages gone ps key both.1

fits_all : {P : Type 0} (may : P → ℕ → ℕ → Bool) (next : P → Option ℕ) (groups : P → List Group)
    → ((p : P) → AreGroups (may p) (next p) (groups p)) → (ps : List P)
    → IfSome (greatest (map next ps)) (λ key. key < 2 ^ 48)
fits_all may next groups law [] = tt
fits_all may next groups law (p ∷ ps) = greater_fits (next p) (greatest (map next ps))
    (subst (λ (o : Option ℕ). IfSome o (λ key. key < 2 ^ 48)) (law p).begin (first_fits (may p) (groups p) (law p).each))
    (fits_all may next groups law ps)

pub greatest-fits : {P : Type 0} (may : P → ℕ → ℕ → Bool) (next : P → Option ℕ) (groups : P → List Group)
    → ((p : P) → AreGroups (may p) (next p) (groups p)) → (ps : List P) (result : Option ℕ)
    → result ≡ greatest (map next ps) → IfSome result (λ key. key < 2 ^ 48)
greatest-fits may next groups law ps result e = subst (λ (o : Option ℕ). IfSome o (λ key. key < 2 ^ 48)) (sym e)
    (fits_all may next groups law ps)

-- ---- they are the groups of the definitions

and_turn : (a b : Bool) → (a && b) ≡ (b && a)
and_turn true true = refl
and_turn true false = refl
and_turn false true = refl
and_turn false false = refl

-- an id is in what all lists have where it is in each
pub in_common : (id : ℕ) (ids : List ℕ) (others : List (List ℕ))
    → is_in id (common_of (ids ∷ others)) ≡ list_all (λ other. is_in id other) (ids ∷ others)
in_common id ids others =
    in_filter (λ i. list_all (λ other. is_in i other) others) id ids ∙ and_turn (list_all (λ other. is_in id other) others) (is_in id ids)

keep_all : (xs : List ℕ) → xs ≡ filter (λ (id : ℕ). true) xs
keep_all [] = refl
keep_all (x ∷ xs) = ap (λ (l : List ℕ). x ∷ l) (keep_all xs)

common-is : (key : ℕ) (lists : List (List Group)) → common_at key lists ≡ common_of (map (ids_at key) lists)
common-is key [] = refl
common-is key (list ∷ []) = keep_all (ids_at key list)
common-is key (list ∷ other ∷ lists) =
    ap (λ (p : ℕ → Bool). filter p (ids_at key list))
    (fun_ext (λ id. ap (is_in id) (common-is key (other ∷ lists)) ∙ in_common id (ids_at key other) (map (ids_at key) lists)))

any-is : (key : ℕ) (lists : List (List Group)) → any_at key lists ≡ any_of (map (ids_at key) lists)
any-is key [] = refl
any-is key (list ∷ lists) = ap (either (ids_at key list)) (any-is key lists)

pub all-is : (lists : List (List Group)) → groups_in_all lists ≡ groups_joined mode.All lists
all-is lists = ap (λ (f : ℕ → List ℕ). map {B = Group} (λ key. record { key = key; ids = f key }) (keys_in lists))
    (fun_ext (λ key. common-is key lists))

pub any_groups-is : (lists : List (List Group)) → groups_in_any lists ≡ groups_joined mode.Any lists
any_groups-is lists = ap (λ (f : ℕ → List ℕ). map {B = Group} (λ key. record { key = key; ids = f key }) (keys_in lists))
    (fun_ext (λ key. any-is key lists))

pub all-lawful : {P : Type 0} (may : P → ℕ → ℕ → Bool) (next : P → Option ℕ) (groups : P → List Group)
    → ((p : P) → AreGroups (may p) (next p) (groups p)) → (ps : List P)
    → AreGroups (may_in mode.All (map may ps)) (greatest (map next ps)) (groups_in_all (map groups ps))
all-lawful may next groups law ps =
    subst (λ (l : List Group). AreGroups (may_in mode.All (map may ps)) (greatest (map next ps)) l) (sym (all-is (map groups ps)))
    (joined-lawful mode.All may next groups law ps)

pub any-lawful : {P : Type 0} (may : P → ℕ → ℕ → Bool) (next : P → Option ℕ) (groups : P → List Group)
    → ((p : P) → AreGroups (may p) (next p) (groups p)) → (ps : List P)
    → AreGroups (may_in mode.Any (map may ps)) (greatest (map next ps)) (groups_in_any (map groups ps))
any-lawful may next groups law ps =
    subst (λ (l : List Group). AreGroups (may_in mode.Any (map may ps)) (greatest (map next ps)) l) (sym (any_groups-is (map groups ps)))
    (joined-lawful mode.Any may next groups law ps)
