-- Taking the greatest key of a term from its posted pairs and its marks.
use Rattle.std.proofs.Common.{◌≡◌, ℕ, ◌<◌, ◌^◌, ◌&&◌, Bool, true, false, cond, List, [], ◌∷◌, map, nat_lt, Option, Some, None, unwrap_or, refl, ap, sym, subst, ◌∙◌, arith}
use Rattle.std.specs.List.{AllByRecursion}
use Rattle.std.specs.Option.{IfSome}
use Rattle.svr_num.specs.declared.list_key.ListKey.{ListKey}
use Rattle.svr_postpage.specs.declared.page_ref.PageRef.{PageRef}
use Rattle.svr_listing.specs.Groups.{AreGroups, Descends, IsGroup, first_key}
use Rattle.svr_listing.specs.declared.group.Group.{Group}
use Rattle.svr_listing.specs.Joined.{ids_at, keys_in}
use Rattle.svr_iter.specs.GroupLaws.{greater_fits}
use Rattle.svr_iter.specs.KeyLaws.{AllLess, descending-less}
use Rattle.svr_iter.specs.Keys.{greater, greatest}
use Rattle.svr_iter.specs.Layout.{IsUpTo, TakesAt, is_next}
use Rattle.svr_iter.specs.LiveLaws.{added-down, added-first, live_group, marks_law}
use Rattle.svr_iter.specs.Marks.{AreMarks, MarksAt, added_below, every, has_add, ids_of, is_below, is_listed, live_groups, live_ids, marks_at, next_add}
use Rattle.svr_iter.specs.Taking.{IsLess, TakesGroup}
use Rattle.svr_iter.specs.Truths.{and_left, eq_more, eq_self, lt_false, lt_from, lt_true}
use Rattle.svr_iter.proofs.Choosing.{below_key, is_next-some, less_both, not_next, one_is, up_to_greater}
use Rattle.svr_iter.proofs.Stepping.{IsStep, Step, ids_at-below, ids_at-here, keys_in-step, news, news_less, same_below, some_took}

below_less : (k key : ℕ) (below : Option ℕ) → k < key → is_below key below ≡ true → is_below k below ≡ true
below_less k key None lt e = refl
below_less k key (Some b) lt e = let less = lt_from key b e in lt_true k b (omega arith)

-- below a key, where it is below another
added-same : (below : Option ℕ) (key : ℕ) (ms : List MarksAt) → AllLess key (map (λ one. one.key) ms) → is_below key below ≡ true
    → added_below below ms ≡ added_below (Some key) ms
added-same below key [] less e = refl
added-same below key (m ∷ ms) less e =
    rw (below_less m.key key below less.0 e, lt_true m.key key less.0)
    (ap (λ (l : List Group). cond (has_add m.marks) (record { key = m.key; ids = ids_of m.marks } ∷ l) l)
    (added-same below key ms less.1 e))

next-less : (below : Option ℕ) (key bound : ℕ) (ms : List MarksAt) → AllLess bound (map (λ one. one.key) ms)
    → next_add below ms ≡ Some key → key < bound
next-less below key bound [] less e = absurd (cc)
next-less below key bound (m ∷ ms) less e = one (is_below m.key below && has_add m.marks) e (next-less below key bound ms less.1)
  where
    one : (b : Bool) → cond b (Some m.key) (next_add below ms) ≡ Some key → (next_add below ms ≡ Some key → key < bound) → key < bound
    one true f rest = let same : m.key ≡ key = cc in omega (arith, less.0)
    one false f rest = rest f

added-taken : (below : Option ℕ) (key : ℕ) (ms : List MarksAt) → AreMarks ms → next_add below ms ≡ Some key
    → added_below below ms ≡ record { key = key; ids = ids_of (marks_at key ms) } ∷ added_below (Some key) ms
added-taken below key [] are e = absurd (cc)
added-taken below key (m ∷ ms) are e =
    one (is_below m.key below && has_add m.marks) refl e
    (added-taken below key ms (record { descend = are.descend.1; each = are.each.1 }))
  where
    past : (nat_lt m.key key) ≡ false → added_below (Some key) (m ∷ ms) ≡ added_below (Some key) ms
    past f = rw f refl

    one : (b : Bool) → (is_below m.key below && has_add m.marks) ≡ b → cond b (Some m.key) (next_add below ms) ≡ Some key
        → (next_add below ms ≡ Some key → added_below below ms
        ≡ record { key = key; ids = ids_of (marks_at key ms) } ∷ added_below (Some key) ms)
        → cond b (record { key = m.key; ids = ids_of m.marks } ∷ added_below below ms) (added_below below ms)
        ≡ record { key = key; ids = ids_of (marks_at key (m ∷ ms)) } ∷ added_below (Some key) (m ∷ ms)
    one true t f rest =
        let same : m.key ≡ key = cc in
        subst (λ (n : ℕ). record { key = m.key; ids = ids_of m.marks } ∷ added_below below ms
        ≡ record { key = n; ids = ids_of (marks_at n (m ∷ ms)) } ∷ added_below (Some n) (m ∷ ms)) same
        (rw (eq_self m.key, lt_false m.key m.key (omega arith))
        (ap (λ (l : List Group). record { key = m.key; ids = ids_of m.marks } ∷ l)
        (added-same below m.key ms are.descend.0 (and_left _ _ t))))
    one false t f rest =
        let less : key < m.key = next-less below key m.key ms are.descend.0 f in
        rw (eq_more key m.key less, lt_false m.key key (omega arith)) (rest f)

abbrev pub below_then : Option ℕ → List MarksAt → ℕ → Option ℕ
below_then below ms key = cond (is_next key (next_add below ms)) (Some key) below

-- the two sources as steps
abbrev long_step : List Group → List Group → List ℕ → Bool → Step
long_step old new ids took = record { old = old; new = new; ids = ids; took = took }

abbrev short_step : Option ℕ → List MarksAt → ℕ → Step
short_step below ms key = record {
  old = added_below below ms;
  new = added_below (below_then below ms key) ms;
  ids = cond (is_next key (next_add below ms)) (ids_of (marks_at key ms)) [];
  took = is_next key (next_add below ms);
}

added-below : (key : ℕ) (ms : List MarksAt) → AllByRecursion (λ (group : Group). group.key < key) (added_below (Some key) ms)
added-below key [] = tt
added-below key (m ∷ ms) = one (nat_lt m.key key) (has_add m.marks) refl (added-below key ms)
  where
    one : (a b : Bool) → nat_lt m.key key ≡ a → AllByRecursion (λ (group : Group). group.key < key) (added_below (Some key) ms)
        → AllByRecursion (λ (group : Group). group.key < key)
        (cond (a && b) (record { key = m.key; ids = ids_of m.marks } ∷ added_below (Some key) ms) (added_below (Some key) ms))
    one true true e rest = (lt_from m.key key e, rest)
    one true false e rest = rest
    one false b e rest = rest

lower : (key bound : ℕ) (gs : List Group) → AllByRecursion (λ (group : Group). group.key < bound) gs → bound < key
    → AllByRecursion (λ (group : Group). group.key < key) gs
lower key bound [] all lt = tt
lower key bound (g ∷ gs) all lt = (omega (arith, all.0), lower key bound gs all.1 lt)

first_below : (key : ℕ) (gs : List Group) → Descends gs → IsLess (first_key gs) (Some key)
    → AllByRecursion (λ (group : Group). group.key < key) gs
first_below key [] d less = tt
first_below key (g ∷ gs) d less = (less, lower key g.key gs d.0 less)

short_is : (below : Option ℕ) (ms : List MarksAt) (key : ℕ) → AreMarks ms → IsUpTo key (next_add below ms)
    → IsStep key (short_step below ms key)
short_is below ms key are up = one (is_next key (next_add below ms)) refl
  where
    one : (b : Bool) → is_next key (next_add below ms) ≡ b
        → IsStep key (record {
          old = added_below below ms;
          new = added_below (cond b (Some key) below) ms;
          ids =
              cond b (ids_of (marks_at key ms)) [];
          took = b;
        })
    one true e = record { is = added-taken below key ms are (is_next-some key _ e); none = λ f. absurd (cc); below = added-below key ms }
    one false e = record {
      is = refl;
      none = λ f. refl;
      below = first_below key (added_below below ms) (added-down below ms are)
          (subst (λ (o : Option ℕ). IsLess o (Some key)) (sym (added-first below ms)) (not_next key (next_add below ms) e up));
    }

some_of : (a b : Option ℕ) (key : ℕ) → greatest (a ∷ b ∷ []) ≡ Some key
    → some_took (record { old = []; new = []; ids = []; took = is_next key a } ∷ record {
      old = [];
      new = [];
      ids = [];
      took =
          is_next key b;
    } ∷ []) ≡ true
some_of a b key e = one_is a (greatest (b ∷ [])) key _ e (λ f. one_is b None key false f (λ g. absurd (cc)))

-- where posted pairs and marks of a term are taken from
pub record Sources (L : Type 0) : Type 0 where
  pub long : L
  pub below : Option ℕ

abbrev pub next_of : {L : Type 0} → (L → Option ℕ) → List MarksAt → Sources L → Option ℕ
next_of next ms s = greatest (next s.long ∷ next_add s.below ms ∷ [])

-- what was taken from both, at the key that is the next one
pub record TakesBoth {L : Type 0} (groups : L → List ℕ → List Group) (next : L → Option ℕ) (pages : L → ℕ → List PageRef)
    (ms : List MarksAt) (told : Option (List ℕ)) (key : ℕ)
    (old new : Sources L) (posted : List ℕ) : Type 0 where
  pub is_key : Some key ≡ next_of next ms old
  pub takes : TakesAt groups next (λ _. every) pages told key old.long new.long posted
  pub below : new.below ≡ below_then old.below ms key

next_up_to : {L : Type 0} (next : L → Option ℕ) (ms : List MarksAt) (key : ℕ) (s : Sources L) → Some key ≡ next_of next ms s
    → IsUpTo key (next_add s.below ms)
next_up_to next ms key s e =
    (up_to_greater (next_add s.below ms) None key
    (up_to_greater (next s.long) (greatest (next_add s.below ms ∷ [])) key (subst (IsUpTo key) e (omega arith))).1).0

-- one of them had the greatest key, and its group is the first
live_first : {L : Type 0} (groups : L → List ℕ → List Group) (next : L → Option ℕ) (pages : L → ℕ → List PageRef)
    (entry : ℕ → Option ListKey) (ms : List MarksAt) (told : Option (List ℕ)) (key : ℕ)
    (old new : Sources L) (posted ids bytes : List ℕ) → TakesBoth groups next pages ms told key old new posted → AreMarks ms
    → ((l : L) (more : List ℕ) → AreGroups every (next l) (groups l more))
    → ids ≡ live_ids entry key (marks_at key ms) posted → told ≡ Some bytes
    → live_groups entry ms old.below (groups old.long bytes)
    ≡ record { key = unwrap_or (next_of next ms old) 0; ids = ids } ∷ live_groups entry ms new.below (groups new.long bytes)
live_first groups next pages entry ms told key old new posted ids bytes both are law same at =
    let takes = both.takes in
    let first : Step = long_step (groups old.long bytes) (groups new.long bytes) posted (is_next key (next old.long)) in
    let second : Step = short_step old.below ms key in
    let first_is : IsStep key first =
    record {
      is = takes.taken bytes at;
      none = takes.none;
      below =
          below_key every (next new.long) key (groups new.long bytes) (law new.long bytes) takes.less;
    } in
    let steps : AllByRecursion (IsStep key) (first ∷ second ∷ []) =
    (first_is, (short_is old.below ms key are (next_up_to next ms key old both.is_key), tt)) in
    let some : some_took (first ∷ second ∷ []) ≡ true = some_of (next old.long) (next_add old.below ms) key (sym both.is_key) in
    let f : ℕ → List ℕ = λ k. live_ids entry k (marks_at k ms) (ids_at k (groups old.long bytes)) in
    let h : ℕ → List ℕ = λ k. live_ids entry k (marks_at k ms) (ids_at k (groups new.long bytes)) in
    ap (λ (ks : List ℕ). map {B = Group} (λ k. record { key = k; ids = f k }) ks)
    (rw some at (keys_in-step key (first ∷ second ∷ []) steps))
    ∙ ap (λ (l : List ℕ). record { key = key; ids = l } ∷ map {B = Group} (λ k. record { key = k; ids = f k })
    (keys_in (news (first ∷ second ∷ []))))
    (ap (live_ids entry key (marks_at key ms)) (ids_at-here key _ _ posted _ first_is.is first_is.none first_is.below) ∙ sym same)
    ∙ ap (λ (l : List Group). record { key = key; ids = ids } ∷ l)
    (same_below key (keys_in (news (first ∷ second ∷ []))) f h (descending-less key _ (news_less key (first ∷ second ∷ []) steps))
    (λ k lt. ap (live_ids entry k (marks_at k ms)) (ids_at-below key k _ _ posted _ first_is.is lt)))
    ∙ ap (λ (o : Option ℕ). record { key = unwrap_or o 0; ids = ids } ∷ live_groups entry ms (below_then old.below ms key)
    (groups new.long bytes)) both.is_key
    ∙ ap (λ (o : Option ℕ). record { key = unwrap_or (next_of next ms old) 0; ids = ids } ∷ live_groups entry ms o
    (groups new.long bytes)) (sym both.below)

first-less : (key : ℕ) (gs : List Group) → AllByRecursion (λ (group : Group). group.key < key) gs → IsLess (first_key gs) (Some key)
first-less key [] all = tt
first-less key (g ∷ gs) all = all.0

live_next : {L : Type 0} (groups : L → List ℕ → List Group) (next : L → Option ℕ) (pages : L → ℕ → List PageRef) (ms : List MarksAt)
    (told : Option (List ℕ)) (key : ℕ)
    (old new : Sources L) (posted : List ℕ) → TakesBoth groups next pages ms told key old new posted → AreMarks ms
    → IsLess (next_of next ms new) (next_of next ms old)
live_next groups next pages ms told key old new posted both are =
    let step = short_is old.below ms key are (next_up_to next ms key old both.is_key) in
    let then = below_then old.below ms key in
    subst (λ (o : Option ℕ). IsLess (greatest (next new.long ∷ next_add o ms ∷ [])) (next_of next ms old)) (sym both.below)
    (subst (λ (o : Option ℕ). IsLess (greatest (next new.long ∷ next_add then ms ∷ [])) o) both.is_key
    (less_both (next new.long) (greatest (next_add then ms ∷ [])) key both.takes.less
    (less_both (next_add then ms) None key
    (subst (λ (o : Option ℕ). IsLess o (Some key)) (added-first then ms) (first-less key (added_below then ms) step.below)) tt)))

-- what taking the key does to the groups of the term
pub live_takes : {L : Type 0} (groups : L → List ℕ → List Group) (next : L → Option ℕ) (pages : L → ℕ → List PageRef)
    (entry : ℕ → Option ListKey) (ms : List MarksAt) (told : Option (List ℕ)) (key : ℕ)
    (old new : Sources L) (posted ids : List ℕ) → TakesBoth groups next pages ms told key old new posted → AreMarks ms
    → ((l : L) (more : List ℕ) → AreGroups every (next l) (groups l more))
    → ids ≡ live_ids entry key (marks_at key ms) posted
    → TakesGroup (λ s bytes. live_groups entry ms s.below (groups s.long bytes)) (next_of next ms) (λ _. is_listed entry)
    (λ s. pages s.long) told old new ids
live_takes groups next pages entry ms told key old new posted ids both are law same =
    let fits : key < 2 ^ 48 = both.takes.allowed.ordered.key_fits in
    let m = marks_law key ms fits are.each in
    record {
      first = λ bytes at. live_first groups next pages entry ms told key old new posted ids bytes both are law same at;
      lawful = subst (λ (o : Option ℕ). IsGroup (is_listed entry) (record { key = unwrap_or o 0; ids = ids })) both.is_key
          (subst (λ (l : List ℕ). IsGroup (is_listed entry) (record { key = key; ids = l })) (sym same)
          (live_group entry key (marks_at key ms) posted fits m.0 m.1 both.takes.allowed));
      next_less = live_next groups next pages ms told key old new posted both are;
      same_may = refl;
      same_pages = λ k lt. both.takes.same_pages k (subst (λ (o : Option ℕ). k < unwrap_or o 0) (sym both.is_key) lt);
    }

pub live_fits : (next add result : Option ℕ) → result ≡ greatest (next ∷ add ∷ []) → IfSome next (λ key. key < 2 ^ 48)
    → IfSome add (λ key. key < 2 ^ 48) → IfSome result (λ key. key < 2 ^ 48)
live_fits next add result e a b = subst (λ (o : Option ℕ). IfSome o (λ key. key < 2 ^ 48)) (sym e)
    (greater_fits next (greatest (add ∷ [])) a (greater_fits add None b tt))

greater-none : (o : Option ℕ) → greater o None ≡ o
greater-none None = refl
greater-none (Some x) = refl

pub key_is : (a b next add : Option ℕ) (key : ℕ) → Some key ≡ greater a b → a ≡ next → b ≡ add → Some key ≡ greatest (next ∷ add ∷ [])
key_is a b next add key e first second =
    e ∙ ap (λ (o : Option ℕ). greater o b) first ∙ ap (greater next) (second ∙ sym (greater-none add))
