-- What the moves and the text of a change do to the documents of rows.
use Rattle.std.proofs.Common.{◌≡◌, ℕ, ◌≤◌, ◌<◌, ◌+◌, ◌==◌, ◌&&◌, ◌||◌, Bool, true, false, cond, List, length, take, get_or, Option, Some, None, option_map, IfSome, refl, ap, ap₂, sym, subst, ◌∙◌, arith, eqb-true}
use Rattle.std.specs.Option.{is_some, option_eq}
use Rattle.std.proofs.lemmas.Bool.Decides.{nat_tests}
use Rattle.std.proofs.lemmas.List.Folds.{list_any_more}
use Rattle.svr_idmap.specs.Ids.{value_at}
use Rattle.svr_listing.specs.declared.document.Document.{Document}
use Rattle.svr_listing.specs.Listing.{document_at, score_in}
use Rattle.svr_listing.specs.Methods.{greatest}
use Rattle.svr_listing.proofs.Rows.{clamped_low}
use Rattle.svr_lists.specs.Lists.{FollowsDocument, IsAtScores, IsRewritten, ListsValue, SetsScore}
use Rattle.svr_rows.specs.Changes.{changed, refusal_of, table_of}
use Rattle.svr_rows.specs.Rows.{TableRows, has_row, id_of, row_at, rows_in}
use Rattle.svr_rows.specs.declared.change.Change.{Change}
use Rattle.svr_rows.specs.declared.change.Change.TheVariants.{Insert, Update, Delete}
use Rattle.svr_rows.specs.declared.row.Row.{Row}
use Rattle.svr_rows.proofs.ById.{is_some-row_at}
use Rattle.svr_rows.proofs.Tested.{has_row-insert, has_row-update}
use Rattle.svr_schema.specs.declared.schema.Schema.{Schema}
use Rattle.svr_view.specs.declared.score_move.ScoreMove.{ScoreMove}
use Rattle.svr_view.specs.Layout.{id_changed, row_after}
use Rattle.svr_view.specs.Score.{score_at, score_of}
use Rattle.svr_view.specs.View.{AreMoves, AreTablesOf}
use Rattle.svr_view.proofs.Scored.{id_of-found}
use Rattle.svr_catalog.specs.Catalog.{document_of, text_of}
use Rattle.svr_catalog.specs.Layout.{Carries, IsMidway, MovesBy, documents_from, edited_in, halfway, rescored, row_or, text_or_none}
use Rattle.svr_catalog.proofs.Midway.{halfway-same, listed-at, midway-end, midway-seen, midway-step, midway-written}
use Rattle.svr_catalog.proofs.Moves.{IsMove, seen_in, unmoved}
use Rattle.svr_catalog.proofs.Rows.{AreTablesOf-changed, document_at-row, documents-are, is_own, row_at-after, score_in-documents}

-- ---- options of rows

pub if-read : {A : Type 0} (P : Row → Type 0) (read : A → Row) (o : Option A) (r : Option Row) → option_map read o ≡ r → IfSome r P
    → IfSome o (λ x. P (read x))
if-read P read None r same is = tt
if-read P read (Some x) r same is = let Q : Option Row → Type 0 = λ o. IfSome o P in subst Q (sym same) is

pub some-read : {A : Type 0} (read : A → Row) (o : Option A) → is_some (option_map read o) ≡ is_some o
some-read read None = refl
some-read read (Some x) = refl

none-from : (o : Option Row) → is_some o ≡ false → o ≡ None
none-from None e = refl
none-from (Some r) e = absurd (cc)

some-from : (o : Option Row) → is_some o ≡ true → (r : Row) × (o ≡ Some r)
some-from None e = absurd (cc)
some-from (Some r) e = (r, refl)

-- a row that a document comes with is that of the change
came : (own : Bool) (was now comes : Option Row) (r : Row) → now ≡ cond own comes was → was ≡ None → now ≡ Some r
    → (own ≡ true) × (comes ≡ Some r)
came true was now comes r is none some = (refl, sym is ∙ some)
came false was now comes r is none some = absurd (let bad : Some r ≡ None = sym some ∙ is ∙ none in cc)

id-comes : (change : Change) (r : Row) → row_after change ≡ Some r → id_of r ≡ id_changed change
id-comes (Insert at row) r e = let same : row ≡ r = cc in ap id_of (sym same)
id-comes (Update at row) r e = let same : row ≡ r = cc in ap id_of (sym same)
id-comes (Delete at id) r e = absurd (let bad : None ≡ Some r = e in cc)

both : (a b : Bool) → (a && b) ≡ true → (a ≡ true) × (b ≡ true)
both true b e = (refl, e)
both false b e = absurd (let bad : false ≡ true = e in cc)

-- ---- one move

module _ (s : Schema) (tables now : List TableRows) where
  low : (o : Option Row) → IfSome (option_map (score_of s now) o) (λ score. score ≤ greatest)
  low None = tt
  low (Some r) = clamped_low _

  -- what a move does to the document of rows before and after
  moved-by : (was is comes : Option Row) → ((r : Row) → was ≡ None → is ≡ Some r → comes ≡ Some r)
      → option_eq (λ a b. a == b) (option_map (score_of s tables) was) (option_map (score_of s now) is) ≡ false
      → MovesBy (option_map (score_of s tables) was) (option_map (score_of s now) is) (text_or_none s (row_or was comes))
      (option_map (document_of s tables) was) (halfway (option_map (document_of s tables) was) (option_map (document_of s now) is))
  moved-by None None comes first differs = refl
  moved-by (Some b) None comes first differs = refl
  moved-by None (Some r) comes first differs = record {
    new = refl;
    is = record {
      it = document_of s now r;
      is = refl;
      score_is = refl;
      text_is = sym (ap (text_or_none s) (first r refl refl));
    };
  }
  moved-by (Some b) (Some r) comes first differs = record {
    old_score = score_of s tables b;
    was = record { it = document_of s tables b; is = refl; score_is = refl; text_is = refl };
    is = record { it = rescored (score_of s now r) (document_of s tables b); is = refl; score_is = refl; text_is = refl };
    differs = differs;
  }

  there-or : (was is comes : Option Row) → ((r : Row) → was ≡ None → is ≡ Some r → comes ≡ Some r)
      → IfSome (option_map (score_of s now) is) (λ _. is_some (row_or was comes) ≡ true)
  there-or was None comes first = tt
  there-or (Some b) (Some r) comes first = refl
  there-or None (Some r) comes first = ap (λ (o : Option Row). is_some o) (first r refl refl)

  -- the row that it has, or comes with, has its id
  id-or : (id : ℕ) (was is comes : Option Row) → ((r : Row) → was ≡ Some r → id_of r ≡ id) → ((r : Row) → is ≡ Some r → id_of r ≡ id)
      → ((r : Row) → was ≡ None → is ≡ Some r → comes ≡ Some r)
      → option_eq (λ a b. a == b) (option_map (score_of s tables) was) (option_map (score_of s now) is) ≡ false
      → IfSome (row_or was comes) (λ r. id_of r ≡ id)
  id-or id (Some b) is comes old new first differs = old b refl
  id-or id None None comes old new first differs = absurd (let bad : true ≡ false = differs in cc)
  id-or id None (Some r) comes old new first differs =
      let Q : Option Row → Type 0 = λ o. IfSome o (λ r. id_of r ≡ id) in subst Q (sym (first r refl refl)) (new r refl)

  -- where rows are the same, halfway is the end
  pub same-row : (o : Option Row)
      → halfway (option_map (document_of s tables) o) (option_map (document_of s now) o) ≡ option_map (document_of s now) o
  same-row None = refl
  same-row (Some r) = refl

module _ (s : Schema) (tables : List TableRows) (change : Change) (of : AreTablesOf s tables) (accepted : refusal_of tables change ≡ None) where
  abbrev later : List TableRows
  later = changed tables change

  abbrev was_at : ℕ → Option Row
  was_at id = row_at (rows_in tables s.text_table) id

  abbrev is_at : ℕ → Option Row
  is_at id = row_at (rows_in later s.text_table) id

  first-row : (id : ℕ) (r : Row) → was_at id ≡ None → is_at id ≡ Some r → row_after change ≡ Some r
  first-row id r none some =
      (came (is_own s change id) (was_at id) (is_at id) (row_after change) r (row_at-after s tables change accepted id) none some).1

  module _ (m : ScoreMove) (is : IsMove (score_at s tables) (score_at s later) m) where
    differs : option_eq (λ a b. a == b) (option_map (score_of s tables) (was_at m.id)) (option_map (score_of s later) (is_at m.id)) ≡ false
    unfolding score_at
    differs = is.differs

    old_is : m.old ≡ option_map (score_of s tables) (was_at m.id)
    unfolding score_at
    old_is = is.old_is

    new_is : m.new ≡ option_map (score_of s later) (is_at m.id)
    unfolding score_at
    new_is = is.new_is

    abbrev its_row : Option Row
    its_row = row_or (was_at m.id) (row_after change)

    pub move-id : IfSome its_row (λ r. id_of r ≡ m.id)
    move-id =
        id-or s tables later m.id (was_at m.id) (is_at m.id) (row_after change) (id_of-found (rows_in tables s.text_table) m.id)
        (id_of-found (rows_in later s.text_table) m.id) (first-row m.id) differs

    pub move-there : IfSome m.new (λ _. is_some its_row ≡ true)
    move-there =
        let Q : Option ℕ → Type 0 = λ o. IfSome o (λ _. is_some its_row ≡ true) in
        subst Q (sym new_is) (there-or s tables later (was_at m.id) (is_at m.id) (row_after change) (first-row m.id))

    pub move-score : IfSome m.new (λ score. score ≤ greatest)
    move-score =
        let Q : Option ℕ → Type 0 = λ o. IfSome o (λ score. score ≤ greatest) in subst Q (sym new_is) (low s tables later (is_at m.id))

    module _ (seen : ℕ → Bool) (new : seen m.id ≡ false) (old v : ListsValue)
        (half : IsMidway (documents_from s tables) (documents_from s later) seen old v) where
      pub move-listed : is_some (value_at v.index.entries m.id) ≡ is_some m.old
      move-listed =
          listed-at (score_in half.mid) v m.id half.at_scores
          ∙ ap (λ (o : Option Document). is_some (option_map (λ (d : Document). d.score) o))
          (half.at m.id
          ∙ ap (λ b. cond b (halfway (document_at (documents_from s tables) m.id) (document_at (documents_from s later) m.id))
          (document_at (documents_from s tables) m.id)) new)
          ∙ ap (λ (o : Option ℕ). is_some o) (score_in-documents s tables m.id ∙ sym is.old_is)

      changes : (text : List ℕ) → text ≡ text_or_none s its_row
          → MovesBy m.old m.new text (document_at (documents_from s tables) m.id)
          (halfway (document_at (documents_from s tables) m.id) (document_at (documents_from s later) m.id))
      changes text same =
          subst (λ (t : List ℕ). MovesBy m.old m.new t (document_at (documents_from s tables) m.id)
          (halfway (document_at (documents_from s tables) m.id) (document_at (documents_from s later) m.id))) (sym same)
          (subst (λ (o : Option ℕ). MovesBy o m.new (text_or_none s its_row) (document_at (documents_from s tables) m.id)
          (halfway (document_at (documents_from s tables) m.id) (document_at (documents_from s later) m.id))) (sym old_is)
          (subst (λ (o : Option ℕ). MovesBy (option_map (score_of s tables) (was_at m.id)) o (text_or_none s its_row)
          (document_at (documents_from s tables) m.id)
          (halfway (document_at (documents_from s tables) m.id) (document_at (documents_from s later) m.id))) (sym new_is)
          (subst (λ (o : Option Document). MovesBy (option_map (score_of s tables) (was_at m.id)) (option_map (score_of s later) (is_at m.id))
          (text_or_none s its_row) o (halfway o (document_at (documents_from s later) m.id))) (sym (document_at-row s tables m.id))
          (subst (λ (o : Option Document). MovesBy (option_map (score_of s tables) (was_at m.id)) (option_map (score_of s later) (is_at m.id))
          (text_or_none s its_row) (option_map (document_of s tables) (was_at m.id))
          (halfway (option_map (document_of s tables) (was_at m.id)) o)) (sym (document_at-row s later m.id))
          (moved-by s tables later (was_at m.id) (is_at m.id) (row_after change) (first-row m.id) differs)))))

      -- lists that follow a move
      pub move-step : (text : List ℕ) (v' : ListsValue) → text ≡ text_or_none s its_row
          → FollowsDocument v v' m.id (MovesBy m.old m.new text)
          → ((o n : ℕ → Option ℕ) → IsAtScores o v → SetsScore o n m.id m.new → IsAtScores n v')
          → IsMidway (documents_from s tables) (documents_from s later) (λ k. (m.id == k) || seen k) old v'
      move-step text v' same follows scores =
          midway-step (documents_from s tables) (documents_from s later) seen m.id (MovesBy m.old m.new text) old v v'
          (documents-are s tables of) (documents-are s later (AreTablesOf-changed s tables change of accepted)) new half follows
          (changes text same)
          (subst (λ (score : Option ℕ). (o n : ℕ → Option ℕ) → IsAtScores o v → SetsScore o n m.id score → IsAtScores n v')
          (is.new_is ∙ sym (score_in-documents s later m.id)) scores)

  -- ---- all moves

  or-flip : (a b : Bool) → (a || b) ≡ (b || a)
  or-flip true true = refl
  or-flip true false = refl
  or-flip false true = refl
  or-flip false false = refl

  seen-more : (moves : List ScoreMove) (i : ℕ) (d m : ScoreMove) → i < length moves → m ≡ get_or moves i d → (k : ℕ)
      → ((m.id == k) || seen_in (take i moves) k) ≡ seen_in (take (i + 1) moves) k
  seen-more moves i d m below is k =
      or-flip (m.id == k) (seen_in (take i moves) k)
      ∙ ap (λ (x : ScoreMove). seen_in (take i moves) k || (x.id == k)) is
      ∙ sym (list_any_more (λ (x : ScoreMove). x.id == k) moves i d below)

  -- the next move is seen
  pub moves-more : (moves : List ScoreMove) (i : ℕ) (d m : ScoreMove) (old v : ListsValue) → i < length moves → m ≡ get_or moves i d
      → IsMidway (documents_from s tables) (documents_from s later) (λ k. (m.id == k) || seen_in (take i moves) k) old v
      → IsMidway (documents_from s tables) (documents_from s later) (seen_in (take (i + 1) moves)) old v
  moves-more moves i d m old v below is half =
      midway-seen (documents_from s tables) (documents_from s later) (λ k. (m.id == k) || seen_in (take i moves) k)
      (seen_in (take (i + 1) moves)) old v
      (λ k. ap (λ b. cond b (halfway (document_at (documents_from s tables) k) (document_at (documents_from s later) k))
      (document_at (documents_from s tables) k)) (seen-more moves i d m below is k)) half

  -- after the last one each document is halfway
  pub moves-all : (moves : List ScoreMove) (old v : ListsValue) → AreMoves (score_at s tables) (score_at s later) moves
      → IsMidway (documents_from s tables) (documents_from s later) (seen_in moves) old v
      → IsMidway (documents_from s tables) (documents_from s later) (λ _. true) old v
  moves-all moves old v are half =
      midway-seen (documents_from s tables) (documents_from s later) (seen_in moves) (λ _. true) old v (λ k. by k (seen_in moves k) refl) half
    where
      by : (k : ℕ) (b : Bool) → seen_in moves k ≡ b
          → cond b (halfway (document_at (documents_from s tables) k) (document_at (documents_from s later) k)) (document_at (documents_from s tables) k)
          ≡ halfway (document_at (documents_from s tables) k) (document_at (documents_from s later) k)
      by k true e = refl
      by k false e =
          sym (halfway-same (document_at (documents_from s tables) k) (document_at (documents_from s later) k)
          (score_in-documents s tables k ∙ unmoved (score_at s tables) (score_at s later) moves are k e ∙ sym (score_in-documents s later k)))

-- ---- the text

module _ (s : Schema) (tables : List TableRows) (change : Change) (accepted : refusal_of tables change ≡ None) where
  abbrev then : List TableRows
  then = changed tables change

  other-row : (id : ℕ) → is_own s change id ≡ false
      → halfway (document_at (documents_from s tables) id) (document_at (documents_from s then) id) ≡ document_at (documents_from s then) id
  other-row id other =
      let same : row_at (rows_in then s.text_table) id ≡ row_at (rows_in tables s.text_table) id =
      row_at-after s tables change accepted id ∙ ap (λ b. cond b (row_after change) (row_at (rows_in tables s.text_table) id)) other in
      let now_is = document_at-row s then id ∙ ap (option_map (document_of s then)) same in
      ap₂ halfway (document_at-row s tables id) now_is ∙ same-row s tables then (row_at (rows_in tables s.text_table) id) ∙ sym now_is

  own-row : (id : ℕ) → is_own s change id ≡ true → row_at (rows_in then s.text_table) id ≡ row_after change
  own-row id own = row_at-after s tables change accepted id ∙ ap (λ b. cond b (row_after change) (row_at (rows_in tables s.text_table) id)) own

  ends-new : (id : ℕ) → row_at (rows_in tables s.text_table) id ≡ None
      → halfway (document_at (documents_from s tables) id) (document_at (documents_from s then) id) ≡ document_at (documents_from s then) id
  ends-new id none =
      ap (λ (o : Option Document). halfway o (document_at (documents_from s then) id))
      (document_at-row s tables id ∙ ap (option_map (document_of s tables)) none)

  gone : (o : Option Document) → halfway o None ≡ None
  gone None = refl
  gone (Some d) = refl

  ends-gone : (id : ℕ) → row_at (rows_in then s.text_table) id ≡ None
      → halfway (document_at (documents_from s tables) id) (document_at (documents_from s then) id) ≡ document_at (documents_from s then) id
  ends-gone id none =
      let is = document_at-row s then id ∙ ap (option_map (document_of s then)) none in
      ap (halfway (document_at (documents_from s tables) id)) is ∙ gone (document_at (documents_from s tables) id) ∙ sym is

module _ (s : Schema) (tables : List TableRows) where
  own-ends : (change : Change) (accepted : refusal_of tables change ≡ None) (id : ℕ) → edited_in s change ≡ None → is_own s change id ≡ true
      → halfway (document_at (documents_from s tables) id) (document_at (documents_from s (changed tables change)) id)
      ≡ document_at (documents_from s (changed tables change)) id
  own-ends (Insert at row) accepted id none own =
      let here = both (at == s.text_table) (id_of row == id) own in
      let table : at ≡ s.text_table = eqb-true at s.text_table here.0 in
      let key : id_of row ≡ id = eqb-true (id_of row) id here.1 in
      let new : has_row (rows_in tables s.text_table) id ≡ false =
      subst (λ k. has_row (rows_in tables s.text_table) k ≡ false) key
      (subst (λ t. has_row (rows_in tables t) (id_of row) ≡ false) table (has_row-insert tables at row accepted)) in
      ends-new s tables (Insert at row) accepted id
      (none-from (row_at (rows_in tables s.text_table) id) (is_some-row_at (rows_in tables s.text_table) id ∙ new))
  own-ends (Update at row) accepted id none own =
      let here = both (at == s.text_table) (id_of row == id) own in
      absurd (let bad : Some row ≡ None = sym (ap (λ b. cond b (Some row) None) here.0) ∙ none in cc)
  own-ends (Delete at old) accepted id none own =
      ends-gone s tables (Delete at old) accepted id (own-row s tables (Delete at old) accepted id own)

  -- where no text is edited, halfway is the end
  pub text-ends : (change : Change) (accepted : refusal_of tables change ≡ None) → edited_in s change ≡ None → (id : ℕ)
      → halfway (document_at (documents_from s tables) id) (document_at (documents_from s (changed tables change)) id)
      ≡ document_at (documents_from s (changed tables change)) id
  text-ends change accepted none id = by (is_own s change id) refl
    where
      by : (b : Bool) → is_own s change id ≡ b
          → halfway (document_at (documents_from s tables) id) (document_at (documents_from s (changed tables change)) id)
          ≡ document_at (documents_from s (changed tables change)) id
      by true e = own-ends change accepted id none e
      by false e = other-row s tables change accepted id e

  -- the edit of a text: its document stays, and it is the only one whose text is another
  pub record IsEdit (change : Change) (row before : Row) : Type 0 where
    pub was : row_at (rows_in tables s.text_table) (id_of row) ≡ Some before
    pub is : row_at (rows_in (changed tables change) s.text_table) (id_of row) ≡ Some row
    pub others : (k : ℕ) → (id_of row == k) ≡ false
        → halfway (document_at (documents_from s tables) k) (document_at (documents_from s (changed tables change)) k)
        ≡ document_at (documents_from s (changed tables change)) k

  itself : (n : ℕ) → (n == n) ≡ true
  itself n = grind (arith, nat_tests)

  edited-table : (change : Change) (row : Row) → edited_in s change ≡ Some row → (table_of change == s.text_table) ≡ true
  edited-table (Insert at r) row e = absurd (let bad : None ≡ Some row = e in cc)
  edited-table (Delete at id) row e = absurd (let bad : None ≡ Some row = e in cc)
  edited-table (Update at r) row e = by (at == s.text_table) e
    where
      by : (b : Bool) → cond b (Some r) None ≡ Some row → b ≡ true
      by true e = refl
      by false e = absurd (let bad : None ≡ Some row = e in cc)

  pub edited-row : (change : Change) (row : Row) → edited_in s change ≡ Some row → row_after change ≡ Some row
  edited-row (Insert at r) row e = absurd (let bad : None ≡ Some row = e in cc)
  edited-row (Delete at id) row e = absurd (let bad : None ≡ Some row = e in cc)
  edited-row (Update at r) row e = by (at == s.text_table) e
    where
      by : (b : Bool) → cond b (Some r) None ≡ Some row → Some r ≡ Some row
      by true e = e
      by false e = absurd (let bad : None ≡ Some row = e in cc)

  edited-there : (change : Change) (row : Row) → refusal_of tables change ≡ None → edited_in s change ≡ Some row
      → has_row (rows_in tables s.text_table) (id_of row) ≡ true
  edited-there (Insert at r) row accepted e = absurd (let bad : None ≡ Some row = e in cc)
  edited-there (Delete at id) row accepted e = absurd (let bad : None ≡ Some row = e in cc)
  edited-there (Update at r) row accepted e =
      let some : Some r ≡ Some row = edited-row (Update at r) row e in
      let same : r ≡ row = cc in
      let table : at ≡ s.text_table = eqb-true at s.text_table (edited-table (Update at r) row e) in
      subst (λ (x : Row). has_row (rows_in tables s.text_table) (id_of x) ≡ true) same
      (subst (λ t. has_row (rows_in tables t) (id_of r) ≡ true) table (has_row-update tables at r accepted))

  own-key : (change : Change) (row : Row) → edited_in s change ≡ Some row → (k : ℕ) → is_own s change k ≡ (id_of row == k)
  own-key change row e k =
      ap (λ b. b && (id_changed change == k)) (edited-table change row e)
      ∙ ap (λ n. n == k) (sym (id-comes change row (edited-row change row e)))

  -- a row in place of a document's row, which was found at its id, is an edit
  pub edit-is : (change : Change) (row before : Row) (id : ℕ) → refusal_of tables change ≡ None → edited_in s change ≡ Some row
      → id ≡ id_of row → row_at (rows_in tables s.text_table) id ≡ Some before → IsEdit change row before
  edit-is change row before id accepted e same was = record {
    was = subst (λ (n : ℕ). row_at (rows_in tables s.text_table) n ≡ Some before) same was;
    is = own-row s tables change accepted (id_of row) (own-key change row e (id_of row) ∙ itself (id_of row))
        ∙ edited-row change row e;
    others = λ k other. other-row s tables change accepted k (own-key change row e k ∙ other);
  }

  -- the row is there
  pub edit-there : (change : Change) (row : Row) → refusal_of tables change ≡ None → edited_in s change ≡ Some row
      → row_at (rows_in tables s.text_table) (id_of row) ≡ None → ⊥
  edit-there change row accepted e none =
      let there = is_some-row_at (rows_in tables s.text_table) (id_of row) ∙ edited-there change row accepted e in
      let bad : false ≡ true = sym (ap (λ (o : Option Row). is_some o) none) ∙ there in cc

  -- lists that follow an edit
  pub edit-carries : (change : Change) (row before : Row) → AreTablesOf s tables → refusal_of tables change ≡ None → IsEdit change row before
      → (v v' : ListsValue) → FollowsDocument v v' (id_of row) (IsRewritten (text_of s before) (text_of s row)) → (old : ListsValue)
      → IsMidway (documents_from s tables) (documents_from s (changed tables change)) (λ _. true) old v
      → Carries (documents_from s tables) (documents_from s (changed tables change)) old v'
  edit-carries change row before of accepted edit v v' follows old half =
      midway-written (documents_from s tables) (documents_from s (changed tables change)) (id_of row) (document_of s tables before)
      (document_of s (changed tables change) row) (document_at-row s tables (id_of row) ∙ ap (option_map (document_of s tables)) edit.was)
      (document_at-row s (changed tables change) (id_of row) ∙ ap (option_map (document_of s (changed tables change))) edit.is) edit.others old
      v v' (documents-are s (changed tables change) (AreTablesOf-changed s tables change of accepted)) half follows

  edit-score : (change : Change) (row before : Row) → IsEdit change row before
      → score_at s (changed tables change) (id_of row) ≡ Some (score_of s (changed tables change) row)
  unfolding score_at
  edit-score change row before edit = ap (option_map (score_of s (changed tables change))) edit.is

  -- it is listed
  pub edit-listed : (change : Change) (row before : Row) → IsEdit change row before → (v : ListsValue)
      → IsAtScores (score_at s (changed tables change)) v → is_some (value_at v.index.entries (id_of row)) ≡ true
  edit-listed change row before edit v at =
      listed-at (score_at s (changed tables change)) v (id_of row) at
      ∙ ap (λ (o : Option ℕ). is_some o) (edit-score change row before edit)

  -- where no text is edited, the change is done
  pub text-carries : (change : Change) → AreTablesOf s tables → refusal_of tables change ≡ None → edited_in s change ≡ None → (old v : ListsValue)
      → IsMidway (documents_from s tables) (documents_from s (changed tables change)) (λ _. true) old v
      → Carries (documents_from s tables) (documents_from s (changed tables change)) old v
  text-carries change of accepted none old v half =
      midway-end (documents_from s tables) (documents_from s (changed tables change)) old v
      (documents-are s (changed tables change) (AreTablesOf-changed s tables change of accepted)) (text-ends change accepted none) half
