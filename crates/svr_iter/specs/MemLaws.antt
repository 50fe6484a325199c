-- Groups in memory keep the law of postings, as laws need it.
use Rattle.std.proofs.Common.{◌≡◌, ℕ, zero, suc, ◌<◌, ◌==◌, true, List, [], ◌∷◌, ◌++◌, length, get_or, drop, refl, arith, subst}
use Rattle.std.specs.List.{AllByRecursion, AllByRecursion-prop, list_any}
use Rattle.std.proofs.Props.{props}
use Rattle.std.proofs.lemmas.List.{append_assoc}
use Rattle.svr_listing.specs.Groups.{AreGroups, Descends, IsGroup, IsOrdered, first_key}
use Rattle.svr_listing.specs.declared.group.Group.{Group}
use Rattle.svr_iter.specs.Truths.{both_true, eq_self, or_left, or_right}
use Rattle.svr_iter.specs.Mem.{AreOrdered, holds}

is_among : (ids : List ℕ) (k d : ℕ) → k < length ids → list_any (λ other. other == get_or ids k d) ids ≡ true
is_among [] k d lt = absurd (omega arith)
is_among (x ∷ xs) zero d lt = or_left _ _ (eq_self x)
is_among (x ∷ xs) (suc k) d lt = or_right _ _ (is_among xs k d (omega arith))

holds_behind : (front gs : List Group) (key id : ℕ) → holds gs key id ≡ true → holds (front ++ gs) key id ≡ true
holds_behind [] gs key id e = e
holds_behind (f ∷ fs) gs key id e = or_right _ _ (holds_behind fs gs key id e)

holds_first : (g : Group) (gs : List Group) (k d : ℕ) → k < length g.ids → holds (g ∷ gs) g.key (get_or g.ids k d) ≡ true
holds_first g gs k d lt = or_left _ _ (both_true _ _ (eq_self g.key) (is_among g.ids k d lt))

allowed_from : (front gs : List Group) → AllByRecursion IsOrdered gs → AllByRecursion (IsGroup (holds (front ++ gs))) gs
allowed_from front [] are = tt
allowed_from front (g ∷ gs) are = (
  record { ordered = are.0; allowed = λ k d lt. holds_behind front (g ∷ gs) g.key _ (holds_first g gs k d lt) },
  subst (λ (l : List Group). AllByRecursion (IsGroup (holds l)) gs) (append_assoc front (g ∷ []) gs)
      (allowed_from (front ++ g ∷ []) gs are.1),
)

descends-drop : (n : ℕ) (gs : List Group) → Descends gs → Descends (drop n gs)
descends-drop zero gs d = d
descends-drop (suc n) [] d = tt
descends-drop (suc n) (g ∷ gs) d = descends-drop n gs d.1

all-drop : (P : Group → Type 0) (n : ℕ) (gs : List Group) → AllByRecursion P gs → AllByRecursion P (drop n gs)
all-drop P zero gs a = a
all-drop P (suc n) [] a = tt
all-drop P (suc n) (g ∷ gs) a = all-drop P n gs a.1

pub AreGroups-drop : (n : ℕ) (gs : List Group) → AreOrdered gs → AreGroups (holds gs) (first_key (drop n gs)) (drop n gs)
AreGroups-drop n gs are = record {
  begin = refl;
  descend = descends-drop n gs are.descend;
  each = all-drop (IsGroup (holds gs)) n gs (allowed_from [] gs are.each);
}

-- ---- each of these facts has one proof

descends-prop : (gs : List Group) → IsProp (Descends gs)
descends-prop [] = hlevel props
descends-prop (g ∷ gs) = hlevel (props, AllByRecursion-prop (λ (h : Group). h.key < g.key) (λ h. hlevel props) gs, descends-prop gs)

ordered-prop : (g : Group) → IsProp (IsOrdered g)
ordered-prop g = hlevel props

pub AreOrdered-prop : (gs : List Group) → IsProp (AreOrdered gs)
AreOrdered-prop gs = hlevel (props, descends-prop gs, AllByRecursion-prop IsOrdered ordered-prop gs)
