-- Taking the group of a key from one list after another.
use Rattle.std.proofs.Common.{◌≡◌, ℕ, zero, suc, ◌+◌, ◌<◌, ◌≤◌, Bool, List, [], ◌∷◌, ◌++◌, length, get_or, set, map, Option, Ok, Err, refl, ap, sym, subst, ◌∙◌, arith}
use Rattle.std.specs.List.{AllByRecursion, flat_map}
use Rattle.std.proofs.lemmas.Grind.{flat_map-append}
use Rattle.std.proofs.lemmas.List.{append_assoc, append-nil}
use Rattle.svr_postpage.specs.declared.page_ref.PageFault.{PageFault}
use Rattle.svr_postpage.specs.declared.page_ref.PageRef.{PageRef}
use Rattle.svr_postpage.specs.Reading.{InTurn}
use Rattle.svr_listing.specs.declared.group.Group.{Group}
use Rattle.svr_iter.specs.Asked.{Asks}
use Rattle.svr_iter.specs.Layout.{IsUpTo, TakesAt}
use Rattle.svr_iter.specs.declared.fault.ScanFault.{ScanFault}
use Rattle.svr_iter.specs.declared.fault.ScanFault.TheVariants as scan
use Rattle.svr_iter.proofs.Asking.{InTurn-append, asks_all, asks_fault, asks_memory, given_all}
use Rattle.svr_match.specs.Layout.{AreTaken, Turn}

-- the lists before `at` have had their turn
pub record Run {P R : Type 0} (groups : P → List ℕ → List Group) (next : P → Option ℕ) (may : P → ℕ → ℕ → Bool)
    (pages : P → ℕ → List PageRef)
    (told : Option (List ℕ)) (gives : R → PageRef → R → Type 0) (key at : ℕ) (start now : List P) (from to : R)
    (Holds : List (List ℕ) → Type 0) : Type 0 where
  pub turns : List (Turn P)
  pub rest : List P
  pub olds : map (λ turn. turn.old) turns ++ rest ≡ start
  pub news : map (λ turn. turn.new) turns ++ rest ≡ now
  pub count : length turns ≡ at
  pub holds : Holds (map (λ turn. turn.ids) turns)
  pub each : AllByRecursion (λ turn. TakesAt groups next may pages told key turn.old turn.new turn.ids) turns
  pub in_turn : InTurn gives (flat_map (λ turn. pages turn.old key) turns) from to

pub Run-start : {P R : Type 0} (groups : P → List ℕ → List Group) (next : P → Option ℕ) (may : P → ℕ → ℕ → Bool)
    (pages : P → ℕ → List PageRef)
    (told : Option (List ℕ)) (gives : R → PageRef → R → Type 0) (key : ℕ) (start : List P) (from : R) (Holds : List (List ℕ) → Type 0)
    → Holds []
    → Run groups next may pages told gives key 0 start start from from Holds
Run-start groups next may pages told gives key start from Holds none =
    record {
      turns = [];
      rest = start;
      olds = refl;
      news = refl;
      count = refl;
      holds = none;
      each = tt;
      in_turn = refl;
    }

rest_at : {P : Type 0} (xs rest : List P) (n : ℕ) (d : P) → length xs ≡ n → n < length (xs ++ rest)
    → (others : List P) × (rest ≡ get_or (xs ++ rest) n d ∷ others)
rest_at [] [] n d e lt = absurd (omega arith)
rest_at [] (r ∷ rs) zero d e lt = (rs, refl)
rest_at [] (r ∷ rs) (suc n) d e lt = absurd (omega arith)
rest_at (x ∷ xs) rest zero d e lt = absurd (omega arith)
rest_at (x ∷ xs) rest (suc n) d e lt = rest_at xs rest n d (omega arith) (omega arith)

set_at : {P : Type 0} (xs rest : List P) (n : ℕ) (old new : P) → length xs ≡ n → set (xs ++ old ∷ rest) n new ≡ (xs ++ new ∷ []) ++ rest
set_at [] rest zero old new e = refl
set_at [] rest (suc n) old new e = absurd (omega arith)
set_at (x ∷ xs) rest zero old new e = absurd (omega arith)
set_at {P} (x ∷ xs) rest (suc n) old new e = ap (λ (l : List P). x ∷ l) (set_at xs rest n old new (omega arith))

all-more : {P : Type 0} (Q : P → Type 0) (xs : List P) (x : P) → AllByRecursion Q xs → Q x → AllByRecursion Q (xs ++ x ∷ [])
all-more Q [] x all q = (q, tt)
all-more Q (y ∷ ys) x all q = (all.0, all-more Q ys x all.1 q)

all-at : {P : Type 0} (Q : P → Type 0) (xs : List P) (x : P) (rest : List P) → AllByRecursion Q (xs ++ x ∷ rest) → Q x
all-at Q [] x rest all = all.0
all-at Q (y ∷ ys) x rest all = all-at Q ys x rest all.1

map-more : {P Q : Type 0} (f : P → Q) (xs : List P) (x : P) → map f (xs ++ x ∷ []) ≡ map f xs ++ f x ∷ []
map-more f [] x = refl
map-more {P} {Q} f (y ∷ ys) x = ap (λ (l : List Q). f y ∷ l) (map-more f ys x)

length-map : {P Q : Type 0} (f : P → Q) (xs : List P) → length (map f xs) ≡ length xs
length-map f [] = refl
length-map f (x ∷ xs) = ap suc (length-map f xs)

length-more : {P : Type 0} (xs : List P) (x : P) → length (xs ++ x ∷ []) ≡ length xs + 1
length-more [] x = refl
length-more (y ∷ ys) x = let h = length-more ys x in omega arith

-- the list whose turn it is
pub Run-at : {P R : Type 0} {groups : P → List ℕ → List Group} {next : P → Option ℕ} {may : P → ℕ → ℕ → Bool} {pages : P → ℕ
    → List PageRef}
    {told : Option (List ℕ)} {gives : R → PageRef → R → Type 0} {key at : ℕ} {start now : List P} {from to : R} {Holds : List (List ℕ)
    → Type 0}
    → (run : Run groups next may pages told gives key at start now from to Holds) (d : P) → at < length now
    → (others : List P) × (run.rest ≡ get_or now at d ∷ others)
Run-at {P} {R} {at = at} {now = now} run d lt =
    subst (λ (l : List P). (others : List P) × (run.rest ≡ get_or l at d ∷ others)) run.news
    (rest_at (map (λ (t : Turn P). t.new) run.turns) run.rest at d (length-map _ run.turns ∙ run.count) (rw run.news lt))

pub Run-up_to : {P R : Type 0} {groups : P → List ℕ → List Group} {next : P → Option ℕ} {may : P → ℕ → ℕ → Bool} {pages : P → ℕ
    → List PageRef}
    {told : Option (List ℕ)} {gives : R → PageRef → R → Type 0} {key at : ℕ} {start now : List P} {from to : R} {Holds : List (List ℕ)
    → Type 0}
    → Run groups next may pages told gives key at start now from to Holds → (d : P) → at < length now
    → AllByRecursion (λ list. IsUpTo key (next list)) start → IsUpTo key (next (get_or now at d))
Run-up_to {P} {R} {next} {key = key} {at = at} {now = now} run d lt all =
    let here = Run-at run d lt in
    all-at (λ list. IsUpTo key (next list)) (map (λ (t : Turn P). t.old) run.turns) (get_or now at d) here.0
    (subst (λ (l : List P). AllByRecursion (λ list. IsUpTo key (next list)) l)
    (sym run.olds ∙ ap (λ (l : List P). map (λ (t : Turn P). t.old) run.turns ++ l) here.1) all)

pub Run-more : {P R T : Type 0} {groups : P → List ℕ → List Group} {next : P → Option ℕ} {may : P → ℕ → ℕ → Bool} {pages : P → ℕ
    → List PageRef}
    {told : Option (List ℕ)} {gives : R → PageRef → R → Type 0} {fails : R → PageRef → PageFault → R → Type 0} {key at : ℕ}
    {start now : List P} {from mid to : R} {Holds : List (List ℕ) → Type 0}
    → Run groups next may pages told gives key at start now from mid Holds
    → (d new : P) (more : List ℕ) (Then : List (List ℕ) → Type 0) (value : T) → at < length now
    → TakesAt groups next may pages told key (get_or now at d) new more
    → Asks {R = R} {T = T} gives fails (pages (get_or now at d) key) mid to (Ok value)
    → ((all : List (List ℕ)) → Holds all → Then (all ++ more ∷ []))
    → Run groups next may pages told gives key (at + 1) start (set now at new) from to Then
Run-more {P} {R} {T} {groups} {next} {may} {pages} {told} {gives} {fails} {key} {at} {start} {now} {from} {mid} {to} {Holds} run d new more
    Then value lt takes asks step =
    let here = Run-at run d lt in
    let turn : Turn P = record { old = get_or now at d; new = new; ids = more } in
    record {
      turns = run.turns ++ turn ∷ [];
      rest = here.0;
      olds = ap (λ (l : List P). l ++ here.0) (map-more (λ (t : Turn P). t.old) run.turns turn)
          ∙ append_assoc (map (λ (t : Turn P). t.old) run.turns) (turn.old ∷ []) here.0
          ∙ sym (ap (λ (l : List P). map (λ (t : Turn P). t.old) run.turns ++ l) here.1) ∙ run.olds;
      news = ap (λ (l : List P). l ++ here.0) (map-more (λ (t : Turn P). t.new) run.turns turn)
          ∙ sym (set_at (map (λ (t : Turn P). t.new) run.turns) here.0 at (get_or now at d) new (length-map _ run.turns ∙ run.count))
          ∙ ap (λ (l : List P). set l at new) (sym (ap (λ (l : List P). map (λ (t : Turn P). t.new) run.turns ++ l) here.1) ∙ run.news);
      count = length-more run.turns turn ∙ ap (λ (n : ℕ). n + 1) run.count;
      holds = subst Then (sym (map-more (λ (t : Turn P). t.ids) run.turns turn)) (step (map (λ (t : Turn P). t.ids) run.turns) run.holds);
      each = all-more (λ (t : Turn P). TakesAt groups next may pages told key t.old t.new t.ids) run.turns turn run.each takes;
      in_turn = subst (λ (l : List PageRef). InTurn gives l from to)
          (ap (λ (l : List PageRef). flat_map (λ (t : Turn P). pages t.old key) run.turns ++ l) (sym (append-nil (pages turn.old key)))
          ∙ sym (flat_map-append (λ (t : Turn P). pages t.old key) run.turns (turn ∷ [])))
          (InTurn-append gives _ _ from mid to run.in_turn (given_all gives fails _ mid to value asks));
    }

flat_olds : {P : Type 0} (f : P → List PageRef) (ts : List (Turn P))
    → flat_map f (map (λ (t : Turn P). t.old) ts) ≡ flat_map (λ (t : Turn P). f t.old) ts
flat_olds f [] = refl
flat_olds f (t ∷ ts) = ap (λ (l : List PageRef). f t.old ++ l) (flat_olds f ts)

-- the pages of the lists that had their turn, of the list whose turn it is, and of the others
pages_on : {P R : Type 0} {groups : P → List ℕ → List Group} {next : P → Option ℕ} {may : P → ℕ → ℕ → Bool} {pages : P → ℕ
    → List PageRef}
    {told : Option (List ℕ)} {gives : R → PageRef → R → Type 0} {key at : ℕ} {start now : List P} {from mid : R} {Holds : List (List ℕ)
    → Type 0}
    → (run : Run groups next may pages told gives key at start now from mid Holds) (d : P) (lt : at < length now)
    → flat_map (λ (t : Turn P). pages t.old key) run.turns
    ++ (pages (get_or now at d) key ++ flat_map (λ list. pages list key) (Run-at run d lt).0) ≡ flat_map (λ list. pages list key) start
pages_on {P} {pages = pages} {key = key} {at = at} {now = now} run d lt =
    let here = Run-at run d lt in
    ap (λ (l : List PageRef). l ++ (pages (get_or now at d) key ++ flat_map (λ list. pages list key) here.0))
    (sym (flat_olds (λ list. pages list key) run.turns))
    ∙ sym (flat_map-append (λ list. pages list key) (map (λ (t : Turn P). t.old) run.turns) (get_or now at d ∷ here.0))
    ∙ ap (flat_map (λ list. pages list key)) (sym (ap (λ (l : List P). map (λ (t : Turn P). t.old) run.turns ++ l) here.1) ∙ run.olds)

-- a fault while it was a list's turn
pub Run-fault : {P R T V : Type 0} {groups : P → List ℕ → List Group} {next : P → Option ℕ} {may : P → ℕ → ℕ → Bool} {pages : P → ℕ
    → List PageRef}
    {told : Option (List ℕ)} {gives : R → PageRef → R → Type 0} {fails : R → PageRef → PageFault → R → Type 0} {key at : ℕ}
    {start now : List P} {from mid to : R} {Holds : List (List ℕ) → Type 0}
    → Run groups next may pages told gives key at start now from mid Holds → (d : P) (f : ScanFault) → at < length now
    → Asks {R = R} {T = T} gives fails (pages (get_or now at d) key) mid to (Err f)
    → Asks {R = R} {T = V} gives fails (flat_map (λ list. pages list key) start) from to (Err f)
Run-fault {P} {R} {T} {V} {groups} {next} {may} {pages} {told} {gives} {fails} {key} {at} {start} {now} {from} {mid} {to} {Holds} run d
    f lt asks =
    asks_fault {R = R} gives fails {T = T} {V = V} _ _
    (flat_map (λ list. pages list key) (Run-at run d lt).0) _ from mid to f run.in_turn asks (pages_on run d lt)

-- want of memory before a list's pages were asked for
pub Run-memory : {P R V : Type 0} {groups : P → List ℕ → List Group} {next : P → Option ℕ} {may : P → ℕ → ℕ → Bool} {pages : P → ℕ
    → List PageRef}
    {told : Option (List ℕ)} {gives : R → PageRef → R → Type 0} {fails : R → PageRef → PageFault → R → Type 0} {key at : ℕ}
    {start now : List P} {from mid : R} {Holds : List (List ℕ) → Type 0}
    → Run groups next may pages told gives key at start now from mid Holds → (d : P) → at < length now
    → Asks {R = R} {T = V} gives fails (flat_map (λ list. pages list key) start) from mid (Err scan.Memory)
Run-memory {P} {R} {V} {groups} {next} {may} {pages} {told} {gives} {fails} {key} {at} {start} {now} {from} {mid} {Holds} run d lt =
    asks_memory {R = R} gives fails {T = V} _ _ _ from mid run.in_turn (pages_on run d lt)

-- want of memory behind a list's turn
pub Run-memory-behind : {P R T V : Type 0} {groups : P → List ℕ → List Group} {next : P → Option ℕ} {may : P → ℕ → ℕ → Bool} {pages : P → ℕ
    → List PageRef}
    {told : Option (List ℕ)} {gives : R → PageRef → R → Type 0} {fails : R → PageRef → PageFault → R → Type 0} {key at : ℕ}
    {start now : List P} {from mid to : R} {Holds : List (List ℕ) → Type 0}
    → Run groups next may pages told gives key at start now from mid Holds → (d : P) (value : T) → at < length now
    → Asks {R = R} {T = T} gives fails (pages (get_or now at d) key) mid to (Ok value)
    → Asks {R = R} {T = V} gives fails (flat_map (λ list. pages list key) start) from to (Err scan.Memory)
Run-memory-behind {P} {R} {T} {V} {groups} {next} {may} {pages} {told} {gives} {fails} {key} {at} {start} {now} {from} {mid} {to} {Holds}
    run d value lt asks =
    let before : List PageRef = flat_map (λ (t : Turn P). pages t.old key) run.turns in
    let rest : List PageRef = flat_map (λ list. pages list key) (Run-at run d lt).0 in
    asks_memory {R = R} gives fails {T = V} (before ++ pages (get_or now at d) key) rest _ from to
    (InTurn-append gives before _ from mid to run.in_turn (given_all {R = R} gives fails {T = T} _ mid to value asks))
    (append_assoc before (pages (get_or now at d) key) rest ∙ pages_on run d lt)

no_rest : {P : Type 0} (xs rest : List P) (n : ℕ) → length xs ≡ n → length (xs ++ rest) ≤ n → rest ≡ []
no_rest [] [] n e le = refl
no_rest [] (r ∷ rs) zero e le = absurd (omega arith)
no_rest [] (r ∷ rs) (suc n) e le = absurd (omega arith)
no_rest (x ∷ xs) rest zero e le = absurd (omega arith)
no_rest (x ∷ xs) rest (suc n) e le = no_rest xs rest n (omega arith) (omega arith)

pub Run-none : {P R : Type 0} {groups : P → List ℕ → List Group} {next : P → Option ℕ} {may : P → ℕ → ℕ → Bool} {pages : P → ℕ
    → List PageRef}
    {told : Option (List ℕ)} {gives : R → PageRef → R → Type 0} {key at : ℕ} {start now : List P} {from to : R} {Holds : List (List ℕ)
    → Type 0}
    → (run : Run groups next may pages told gives key at start now from to Holds) → length now ≤ at → run.rest ≡ []
Run-none {P} run le = no_rest (map (λ (t : Turn P). t.new) run.turns) run.rest _ (length-map _ run.turns ∙ run.count) (rw run.news le)

olds_at_end : {P R : Type 0} {groups : P → List ℕ → List Group} {next : P → Option ℕ} {may : P → ℕ → ℕ → Bool} {pages : P → ℕ
    → List PageRef}
    {told : Option (List ℕ)} {gives : R → PageRef → R → Type 0} {key at : ℕ} {start now : List P} {from to : R} {Holds : List (List ℕ)
    → Type 0}
    → (run : Run groups next may pages told gives key at start now from to Holds) → length now ≤ at
    → map (λ (t : Turn P). t.old) run.turns ≡ start
olds_at_end {P} run le =
    sym (append-nil (map (λ (t : Turn P). t.old) run.turns))
    ∙ sym (ap (λ (l : List P). map (λ (t : Turn P). t.old) run.turns ++ l) (Run-none run le)) ∙ run.olds

-- all lists have had their turn
pub Run-end : {P R : Type 0} {groups : P → List ℕ → List Group} {next : P → Option ℕ} {may : P → ℕ → ℕ → Bool} {pages : P → ℕ
    → List PageRef}
    {told : Option (List ℕ)} {gives : R → PageRef → R → Type 0} {key at : ℕ} {start now : List P} {from to : R} {Holds : List (List ℕ)
    → Type 0}
    → Run groups next may pages told gives key at start now from to Holds → length now ≤ at
    → AreTaken groups next may pages told key start now Holds
Run-end {P} run le =
    let none = Run-none run le in
    record {
      turns = run.turns;
      olds = olds_at_end run le;
      news = sym (append-nil (map (λ (t : Turn P). t.new) run.turns))
          ∙ sym (ap (λ (l : List P). map (λ (t : Turn P). t.new) run.turns ++ l) none) ∙ run.news;
      holds = run.holds;
      each = run.each;
    }

pub Run-asks : {P R V : Type 0} {groups : P → List ℕ → List Group} {next : P → Option ℕ} {may : P → ℕ → ℕ → Bool} {pages : P → ℕ
    → List PageRef}
    {told : Option (List ℕ)} {gives : R → PageRef → R → Type 0} {fails : R → PageRef → PageFault → R → Type 0} {key at : ℕ}
    {start now : List P} {from to : R} {Holds : List (List ℕ) → Type 0} (value : V)
    → Run groups next may pages told gives key at start now from to Holds → length now ≤ at
    → Asks {R = R} {T = V} gives fails (flat_map (λ list. pages list key) start) from to (Ok value)
Run-asks {P} {R} {V} {pages = pages} {gives = gives} {fails = fails} {key = key} {from = from} {to = to} value run le =
    asks_all {R = R} gives fails {T = V} _ from to value
    (subst (λ (l : List PageRef). InTurn gives l from to)
    (sym (flat_olds (λ list. pages list key) run.turns) ∙ ap (flat_map (λ list. pages list key)) (olds_at_end run le)) run.in_turn)
