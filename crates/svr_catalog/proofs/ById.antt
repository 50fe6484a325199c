-- Documents by ascending id, with one in the place of an id.
use Rattle.std.proofs.Common.{◌≡◌, ℕ, ◌<◌, ◌≤◌, ◌==◌, nat_lt, Bool, true, false, cond, List, [], ◌∷◌, Option, Some, None, refl, ap, ap₂, sym, subst, ◌∙◌, arith, eqb-true}
use Rattle.std.specs.List.{AllByRecursion, cons_option}
use Rattle.std.specs.Option.{ForSome}
use Rattle.std.proofs.lemmas.Bool.Decides.{nat_tests}
use Rattle.svr_listing.specs.declared.document.Document.{Document}
use Rattle.svr_listing.specs.Kept.{AreDocuments, Ascends}
use Rattle.svr_listing.specs.Listing.{document_at}
use Rattle.svr_listing.specs.Methods.{greatest}
use Rattle.svr_listing.proofs.Finding.{none_before}

eq_itself : (n : ℕ) → (n == n) ≡ true
eq_itself n = grind (arith, nat_tests)

-- this document, or none, stands at an id, and each other as it stood
abbrev pub put : ℕ → Option Document → List Document → List Document
put id o [] = cons_option o []
put id o (d ∷ ds) = cond (nat_lt id d.id) (cons_option o (d ∷ ds)) (cond (d.id == id) (cons_option o ds) (d ∷ put id o ds))

-- what is put at an id has it
abbrev pub IsAt : ℕ → Option Document → Type 0
IsAt id o = ForSome o (λ d. d.id ≡ id)

-- by where an id stands to another
module _ (P : List Document → Type 0) (id : ℕ) (o : Option Document) (d : Document) (ds : List Document)
    (below : id < d.id → P (cons_option o (d ∷ ds))) (same : d.id ≡ id → P (cons_option o ds))
    (above : d.id < id → P (d ∷ put id o ds)) where
  second : (b : Bool) → (d.id == id) ≡ b → d.id ≤ id → P (cond b (cons_option o ds) (d ∷ put id o ds))
  second true e low = same (eqb-true d.id id e)
  second false e low =
      let lower : d.id < id = grind (arith, nat_tests) in above lower

  first : (b : Bool) → nat_lt id d.id ≡ b → P (cond b (cons_option o (d ∷ ds)) (cond (d.id == id) (cons_option o ds) (d ∷ put id o ds)))
  first true e =
      let lower : id < d.id = grind (arith, nat_tests) in below lower
  first false e =
      let low : d.id ≤ id = grind (arith, nat_tests) in second (d.id == id) refl low

  put-cases : P (put id o (d ∷ ds))
  put-cases = first (nat_lt id d.id) refl

-- ---- what is found

pub none_later : (id : ℕ) (ds : List Document) (low : ℕ) → id < low → AllByRecursion (λ later. low < later.id) ds
    → AllByRecursion (λ later. id < later.id) ds
none_later id [] low lower all = tt
none_later id (d ∷ ds) low lower all = (let here : low < d.id = all.0 in omega arith, none_later id ds low lower all.1)

module _ (id k : ℕ) where
  -- a document, or none, in front of others among which its id isn't
  found-front : (o : Option Document) (ds : List Document) → IsAt id o → (id ≡ k → document_at ds k ≡ None)
      → document_at (cons_option o ds) k ≡ cond (id == k) o (document_at ds k)
  found-front None ds at none = gone (id == k) refl
    where
      gone : (b : Bool) → (id == k) ≡ b → document_at ds k ≡ cond b None (document_at ds k)
      gone true e = none (eqb-true id k e)
      gone false e = refl
  found-front (Some x) ds at none = ap (λ n. cond (n == k) (Some x) (document_at ds k)) (at x refl)

  -- past one that has another id
  found-past : (d : Document) (ds after : List Document) (o : Option Document) → (id ≡ k → (d.id == k) ≡ false)
      → document_at after k ≡ cond (id == k) o (document_at ds k)
      → document_at (d ∷ after) k ≡ cond (id == k) o (document_at (d ∷ ds) k)
  found-past d ds after o other rest = ap (λ x. cond (d.id == k) (Some d) x) rest ∙ both (id == k) refl (d.id == k) refl
    where
      both : (a : Bool) → (id == k) ≡ a → (b : Bool) → (d.id == k) ≡ b
          → cond b (Some d) (cond a o (document_at ds k)) ≡ cond a o (cond b (Some d) (document_at ds k))
      both false e b f = refl
      both true e false f = refl
      both true e true f =
          let no : (d.id == k) ≡ false = other (eqb-true id k e) in
          absurd (let bad : true ≡ false = sym f ∙ no in cc)

-- what is found at each id
pub document_at-put : (id k : ℕ) (o : Option Document) (ds : List Document) → Ascends ds → IsAt id o
    → document_at (put id o ds) k ≡ cond (id == k) o (document_at ds k)
document_at-put id k o [] up at = found-front id k o [] at (λ _. refl)
document_at-put id k o (d ∷ ds) up at =
    put-cases (λ l. document_at l k ≡ cond (id == k) o (document_at (d ∷ ds) k)) id o d ds
    (λ below. found-front id k o (d ∷ ds) at (λ same. none_before k (d ∷ ds)
    (subst (λ n. AllByRecursion (λ later. n < later.id) (d ∷ ds)) same (below, none_later id ds d.id below up.0))))
    (λ same.
    found-front id k o ds at (λ here. none_before k ds
    (subst (λ n. AllByRecursion (λ later. n < later.id) ds) (same ∙ here) up.0))
    ∙ by same (id == k) refl)
    (λ above. found-past id k d ds (put id o ds) o (λ same. (let lower : d.id < k = omega arith in grind (arith, nat_tests)))
    (document_at-put id k o ds up.1 at))
  where
    by : d.id ≡ id → (b : Bool) → (id == k) ≡ b → cond b o (document_at ds k) ≡ cond b o (cond (d.id == k) (Some d) (document_at ds k))
    by same true e = refl
    by same false e = ap (λ c. cond c (Some d) (document_at ds k)) (sym (ap (λ n. n == k) same ∙ e))

-- ---- what holds of each

all-cons : (P : Document → Type 0) (o : Option Document) (ds : List Document) → ForSome o P → AllByRecursion P ds
    → AllByRecursion P (cons_option o ds)
all-cons P None ds here all = all
all-cons P (Some d) ds here all = (here d refl, all)

pub all-put : (P : Document → Type 0) (id : ℕ) (o : Option Document) (ds : List Document) → ForSome o P → AllByRecursion P ds
    → AllByRecursion P (put id o ds)
all-put P id o [] here all = all-cons P o [] here tt
all-put P id o (d ∷ ds) here all =
    put-cases (AllByRecursion P) id o d ds (λ _. all-cons P o (d ∷ ds) here all) (λ _. all-cons P o ds here all.1)
    (λ _. (all.0, all-put P id o ds here all.1))

ascends-cons : (id : ℕ) (o : Option Document) (ds : List Document) → IsAt id o → AllByRecursion (λ later. id < later.id) ds → Ascends ds
    → Ascends (cons_option o ds)
ascends-cons id None ds at all up = up
ascends-cons id (Some d) ds at all up = (subst (λ n. AllByRecursion (λ later. n < later.id) ds) (sym (at d refl)) all, up)

ascends-put : (id : ℕ) (o : Option Document) (ds : List Document) → IsAt id o → Ascends ds → Ascends (put id o ds)
ascends-put id o [] at up = ascends-cons id o [] at tt tt
ascends-put id o (d ∷ ds) at up =
    put-cases Ascends id o d ds
    (λ below. ascends-cons id o (d ∷ ds) at (below, none_later id ds d.id below up.0) up)
    (λ same. ascends-cons id o ds at (subst (λ n. AllByRecursion (λ later. n < later.id) ds) same up.0) up.1)
    (λ above. (
      all-put (λ later. d.id < later.id) id o ds (λ x is. subst (λ n. d.id < n) (sym (at x is)) above) up.0,
      ascends-put id o ds at up.1,
    ))

-- a document, or none, that may stand among others
pub record MayStand (tokens : List ℕ → List (List ℕ)) (id : ℕ) (o : Option Document) : Type 0 where
  pub at : IsAt id o
  pub score : ForSome o (λ d. d.score ≤ greatest)
  pub terms : ForSome o (λ d. d.terms ≡ tokens d.text)

pub documents-put : (tokens : List ℕ → List (List ℕ)) (id : ℕ) (o : Option Document) (ds : List Document) → MayStand tokens id o
    → AreDocuments tokens ds → AreDocuments tokens (put id o ds)
documents-put tokens id o ds may are = record {
  ascend = ascends-put id o ds may.at are.ascend;
  scores = all-put (λ d. d.score ≤ greatest) id o ds may.score are.scores;
  terms = all-put (λ d. d.terms ≡ tokens d.text) id o ds may.terms are.terms;
}

-- ---- documents that are the same at each id

front_differs : (d : Document) (ds others : List Document) → AllByRecursion (λ later. d.id < later.id) others
    → ((id : ℕ) → document_at (d ∷ ds) id ≡ document_at others id) → ⊥
front_differs d ds others later same =
    let here : document_at (d ∷ ds) d.id ≡ Some d = ap (λ b. cond b (Some d) (document_at ds d.id)) (eq_itself d.id) in
    let none : Some d ≡ None = sym here ∙ same d.id ∙ none_before d.id others later in
    cc

rest_same : (d e : Document) (ds es : List Document) → AllByRecursion (λ later. d.id < later.id) ds
    → AllByRecursion (λ later. d.id < later.id) es → d.id ≡ e.id → (k : ℕ) → document_at (d ∷ ds) k ≡ document_at (e ∷ es) k
    → document_at ds k ≡ document_at es k
rest_same d e ds es first second id k same = by (d.id == k) refl
  where
    by : (b : Bool) → (d.id == k) ≡ b → document_at ds k ≡ document_at es k
    by true is =
        let key : d.id ≡ k = eqb-true d.id k is in
        none_before k ds (subst (λ n. AllByRecursion (λ later. n < later.id) ds) key first)
        ∙ sym (none_before k es (subst (λ n. AllByRecursion (λ later. n < later.id) es) key second))
    by false is =
        let other : (e.id == k) ≡ false = ap (λ n. n == k) (sym id) ∙ is in
        sym (ap (λ b. cond b (Some d) (document_at ds k)) is) ∙ same ∙ ap (λ b. cond b (Some e) (document_at es k)) other

pub same-by_id : (ds es : List Document) → Ascends ds → Ascends es → ((id : ℕ) → document_at ds id ≡ document_at es id) → ds ≡ es
same-by_id [] [] up down same = refl
same-by_id (d ∷ ds) [] up down same = absurd (front_differs d ds [] tt same)
same-by_id [] (e ∷ es) up down same = absurd (front_differs e es [] tt (λ id. sym (same id)))
same-by_id (d ∷ ds) (e ∷ es) up down same =
    by (same-by_id ds es up.1 down.1) (nat_lt d.id e.id) refl (nat_lt e.id d.id) refl
  where
    by : (((k : ℕ) → document_at ds k ≡ document_at es k) → ds ≡ es) → (a : Bool) → nat_lt d.id e.id ≡ a → (b : Bool)
        → nat_lt e.id d.id ≡ b → d ∷ ds ≡ e ∷ es
    by rest true is b _ =
        let lower : d.id < e.id = grind (arith, nat_tests) in
        absurd (front_differs d ds (e ∷ es) (lower, none_later d.id es e.id lower down.0) same)
    by rest false _ true is =
        let lower : e.id < d.id = grind (arith, nat_tests) in
        absurd (front_differs e es (d ∷ ds) (lower, none_later e.id ds d.id lower up.0) (λ id. sym (same id)))
    by rest false not_lower false not_above =
        let id : d.id ≡ e.id = grind (arith, nat_tests) in
        let there : document_at (e ∷ es) d.id ≡ Some e =
        ap (λ b. cond b (Some e) (document_at es d.id)) (ap (λ n. e.id == n) id ∙ eq_itself e.id) in
        let here : document_at (d ∷ ds) d.id ≡ Some d = ap (λ b. cond b (Some d) (document_at ds d.id)) (eq_itself d.id) in
        let both : Some d ≡ Some e = sym here ∙ same d.id ∙ there in
        let first : d ≡ e = cc in
        ap₂ (λ (x : Document) (xs : List Document). x ∷ xs) first
        (rest (λ k. rest_same d e ds es up.0 (subst (λ n. AllByRecursion (λ later. n < later.id) es) (sym id) down.0) id k (same k)))
