-- Lists on their way through a change, one document after the other.
use Rattle.std.proofs.Common.{◌≡◌, ℕ, ◌≤◌, ◌==◌, ◌&&◌, ◌||◌, Bool, true, false, cond, List, Option, Some, None, option_map, refl, ap, ap₂, sym, subst, ◌∙◌, arith, eqb-true, inl, inr, ◌⊎◌}
use Rattle.std.specs.Option.{ForSome, is_some}
use Rattle.std.specs.Str.{bytes_eq}
use Rattle.std.proofs.Math.Path.{fun_ext}
use Rattle.std.proofs.lemmas.Bool.Decides.{nat_tests}
use Rattle.svr_chunks.specs.Chosen.{chosen_rules}
use Rattle.svr_idmap.specs.Ids.{value_at}
use Rattle.svr_num.specs.declared.list_key.ListKey.{ListKey}
use Rattle.svr_listing.specs.declared.document.Document.{Document}
use Rattle.svr_listing.specs.Kept.{AreDocuments}
use Rattle.svr_listing.specs.Listing.{document_at, score_in}
use Rattle.svr_listing.specs.Merges.{is_same}
use Rattle.svr_listing.specs.Methods.{Rules, greatest}
use Rattle.svr_listing.proofs.Finding.{found, id_found}
use Rattle.svr_lists.specs.Lists.{FollowsDocument, IsAtScore, IsAtScores, IsRewritten, ListsValue, SetsScore}
use Rattle.svr_lists.proofs.Changing.{stands-kept}
use Rattle.svr_lists.proofs.Twice.{AreOnTheWay, IsHalfway, follows-on}
use Rattle.svr_tokens.specs.Tokens.{tokens_of}
use Rattle.svr_catalog.specs.Layout.{Carries, IsMidway, halfway, rescored}
use Rattle.svr_catalog.proofs.ById.{MayStand, document_at-put, documents-put, put, same-by_id}

-- ---- documents that stand at an id

pub may_stand : (ds : List Document) (id : ℕ) → AreDocuments tokens_of ds → MayStand tokens_of id (document_at ds id)
may_stand ds id are = record {
  at = λ d there. id_found ds id d there;
  score = λ d there. (found (λ d. d.score ≤ greatest) (λ d. d.id == id) ds d are.scores there).0;
  terms = λ d there. (found (λ d. d.terms ≡ tokens_of d.text) (λ d. d.id == id) ds d are.terms there).0;
}

some_is : (P : Document → Type 0) (d : Document) → P d → ForSome (Some d) P
some_is P d here e is = let same : d ≡ e = cc in subst P same here

none_is : (P : Document → Type 0) → ForSome None P
none_is P e is = absurd (cc)

pub halfway-may : (id : ℕ) (before now : Option Document) → MayStand tokens_of id before → MayStand tokens_of id now
    → MayStand tokens_of id (halfway before now)
halfway-may id None now was is = is
halfway-may id (Some d) None was is = record {
  at = none_is (λ d. d.id ≡ id);
  score = none_is (λ d. d.score ≤ greatest);
  terms = none_is (λ d. d.terms ≡ tokens_of d.text);
}
halfway-may id (Some d) (Some e) was is = record {
  at = some_is (λ d. d.id ≡ id) (rescored e.score d) (was.at d refl);
  score = some_is (λ d. d.score ≤ greatest) (rescored e.score d) (is.score e refl);
  terms = some_is (λ d. d.terms ≡ tokens_of d.text) (rescored e.score d) (was.terms d refl);
}

-- it has the score that it has in the end
pub halfway-score : (before now : Option Document)
    → option_map (λ (d : Document). d.score) (halfway before now) ≡ option_map (λ (d : Document). d.score) now
halfway-score None now = refl
halfway-score (Some d) None = refl
halfway-score (Some d) (Some e) = refl

-- where the score stays nothing changes
pub halfway-same : (before now : Option Document)
    → option_map (λ (d : Document). d.score) before ≡ option_map (λ (d : Document). d.score) now → halfway before now ≡ before
halfway-same None None same = refl
halfway-same None (Some e) same = absurd (cc)
halfway-same (Some d) None same = refl_none d same
  where
    refl_none : (d : Document) → option_map (λ (d : Document). d.score) (Some d) ≡ None → None ≡ Some d
    refl_none d same = absurd (cc)
halfway-same (Some d) (Some e) same =
    let score : d.score ≡ e.score = cc in
    ap (λ (n : ℕ). Some (record { id = d.id; score = n; text = d.text; terms = d.terms })) (sym score)

number_itself : (n : ℕ) → (n == n) ≡ true
number_itself n = grind (arith, nat_tests)

-- ---- one step

module _ (before now : List Document) (seen : ℕ → Bool) (id : ℕ) (Change : Option Document → Option Document → Type 0) (old v v' : ListsValue)
    (were : AreDocuments tokens_of before) (are : AreDocuments tokens_of now) (new : seen id ≡ false) (m : IsMidway before now seen old v) where
  abbrev next : List Document
  next = put id (halfway (document_at before id) (document_at now id)) m.mid

  may : MayStand tokens_of id (halfway (document_at before id) (document_at now id))
  may = halfway-may id (document_at before id) (document_at now id) (may_stand before id were) (may_stand now id are)

  next-at : (k : ℕ) → document_at next k ≡ cond (id == k) (halfway (document_at before id) (document_at now id)) (document_at m.mid k)
  next-at k = document_at-put id k (halfway (document_at before id) (document_at now id)) m.mid m.are.ascend may.at

  next-here : document_at next id ≡ halfway (document_at before id) (document_at now id)
  next-here =
      next-at id
      ∙ ap (λ b. cond b (halfway (document_at before id) (document_at now id)) (document_at m.mid id)) (number_itself id)

  next-other : (k : ℕ) → (id == k) ≡ false → document_at next k ≡ document_at m.mid k
  next-other k other =
      next-at k ∙ ap (λ b. cond b (halfway (document_at before id) (document_at now id)) (document_at m.mid k)) other

  mid-here : document_at m.mid id ≡ document_at before id
  mid-here = m.at id ∙ ap (λ b. cond b (halfway (document_at before id) (document_at now id)) (document_at before id)) new

  on_the_way : AreOnTheWay before m.mid next
  on_the_way k = by (id == k) refl
    where
      by : (b : Bool) → (id == k) ≡ b → (document_at m.mid k ≡ document_at before k)
          ⊎ IsHalfway (document_at before k) (document_at m.mid k) (document_at next k)
      by true e = inl (subst (λ n. document_at m.mid n ≡ document_at before n) (eqb-true id k e) mid-here)
      by false e =
          let same = next-other k e in
          inr (record {
            score_is = ap (option_map (λ (d : Document). d.score)) (sym same);
            differs = ap (is_same (document_at before k)) (sym same);
          })

  step-at : (k : ℕ) → document_at next k ≡ cond ((id == k) || seen k) (halfway (document_at before k) (document_at now k)) (document_at before k)
  step-at k = by (id == k) refl
    where
      by : (b : Bool) → (id == k) ≡ b
          → document_at next k ≡ cond (b || seen k) (halfway (document_at before k) (document_at now k)) (document_at before k)
      by true e =
          subst (λ n. document_at next n ≡ halfway (document_at before n) (document_at now n)) (eqb-true id k e) next-here
      by false e = next-other k e ∙ m.at k

  -- one document more went halfway
  pub midway-step : FollowsDocument v v' id Change → Change (document_at before id) (halfway (document_at before id) (document_at now id))
      → ((o n : ℕ → Option ℕ) → IsAtScores o v → SetsScore o n id (score_in now id) → IsAtScores n v')
      → IsMidway before now (λ k. (id == k) || seen k) old v'
  midway-step follows changes scores = record {
    mid = next;
    are = documents-put tokens_of id (halfway (document_at before id) (document_at now id)) m.mid may m.are;
    at = step-at;
    carries = λ s served same stood.
        follows-on v v' id Change follows s m.mid next served m.are
        (documents-put tokens_of id (halfway (document_at before id) (document_at now id)) m.mid may m.are)
        (subst (λ (ds : List Document). AreOnTheWay ds m.mid next) (sym same) on_the_way) (m.carries s served same stood)
        next-other (subst (λ (o : Option Document). Change o (document_at next id)) (sym mid-here)
        (subst (λ (o : Option Document). Change (document_at before id) o) (sym next-here) changes));
    at_scores = scores (score_in m.mid) (score_in next) m.at_scores (λ k. by k (id == k) refl);
  }
    where
      by : (k : ℕ) (b : Bool) → (id == k) ≡ b → score_in next k ≡ cond b (score_in now id) (score_in m.mid k)
      by k true e =
          ap (score_in next) (sym (eqb-true id k e))
          ∙ ap (option_map (λ (d : Document). d.score)) next-here
          ∙ halfway-score (document_at before id) (document_at now id)
      by k false e = ap (option_map (λ (d : Document). d.score)) (next-other k e)

-- ---- from the begin to the end

-- other words for what was seen
pub midway-seen : (before now : List Document) (seen other : ℕ → Bool) (old v : ListsValue)
    → ((k : ℕ) → cond (seen k) (halfway (document_at before k) (document_at now k)) (document_at before k)
    ≡ cond (other k) (halfway (document_at before k) (document_at now k)) (document_at before k))
    → IsMidway before now seen old v → IsMidway before now other old v
midway-seen before now seen other old v same m = record {
  mid = m.mid;
  are = m.are;
  at = λ k. m.at k ∙ same k;
  carries = m.carries;
  at_scores = m.at_scores;
}

-- before the first nothing is seen
pub midway-begin : (before now : List Document) (v : ListsValue) → AreDocuments tokens_of before → IsAtScores (score_in before) v
    → IsMidway before now (λ _. false) v v
midway-begin before now v are scores = record {
  mid = before;
  are = are;
  at = λ id. refl;
  carries = λ s served same stands.
      stands-kept v s before served stands (λ id. ap (λ (ds : List Document). document_at ds id) (sym same));
  at_scores = scores;
}

-- where each document is halfway what it is in the end, the change is done
pub midway-end : (before now : List Document) (old v : ListsValue) → AreDocuments tokens_of now
    → ((id : ℕ) → halfway (document_at before id) (document_at now id) ≡ document_at now id) → IsMidway before now (λ _. true) old v
    → Carries before now old v
midway-end before now old v are done m =
    let same : m.mid ≡ now = same-by_id m.mid now m.are.ascend are.ascend (λ id. m.at id ∙ done id) in
    subst (λ (ds : List Document). Carries before ds old v) same m.carries

-- where one document is another besides, its text is still to be written
module _ (before now : List Document) (id : ℕ) (d e : Document) (was : document_at before id ≡ Some d) (is : document_at now id ≡ Some e)
    (others : (k : ℕ) → (id == k) ≡ false → halfway (document_at before k) (document_at now k) ≡ document_at now k) (old v v' : ListsValue)
    (are : AreDocuments tokens_of now) (m : IsMidway before now (λ _. true) old v) where
  half : document_at m.mid id ≡ Some (rescored e.score d)
  half = m.at id ∙ ap₂ halfway was is

  written-way : (b : Bool) → (d.score == e.score) ≡ b → (document_at m.mid id ≡ document_at before id)
      ⊎ IsHalfway (document_at before id) (document_at m.mid id) (document_at now id)
  written-way true same =
      let score : d.score ≡ e.score = eqb-true d.score e.score same in
      inl (half ∙ ap (λ (n : ℕ). Some (rescored n d)) (sym score) ∙ sym was)
  written-way false other =
      inr (record {
        score_is = ap (option_map (λ (x : Document). x.score)) half ∙ sym (ap (option_map (λ (x : Document). x.score)) is);
        differs = ap₂ is_same was half
            ∙ ap (λ b. b && bytes_eq d.text d.text) other
            ∙ sym (ap (λ b. b && bytes_eq d.text e.text) other)
            ∙ sym (ap₂ is_same was is);
      })

  written-other : (k : ℕ) → (id == k) ≡ false → document_at now k ≡ document_at m.mid k
  written-other k other = sym (m.at k ∙ others k other)

  written : AreOnTheWay before m.mid now
  written k = by (id == k) refl
    where
      by : (b : Bool) → (id == k) ≡ b → (document_at m.mid k ≡ document_at before k)
          ⊎ IsHalfway (document_at before k) (document_at m.mid k) (document_at now k)
      by true e' =
          subst (λ n. (document_at m.mid n ≡ document_at before n) ⊎ IsHalfway (document_at before n) (document_at m.mid n) (document_at now n))
          (eqb-true id k e') (written-way (d.score == e.score) refl)
      by false e' =
          let same = written-other k e' in
          inr (record {
            score_is = ap (option_map (λ (x : Document). x.score)) (sym same);
            differs = ap (is_same (document_at before k)) (sym same);
          })

  pub midway-written : FollowsDocument v v' id (IsRewritten d.text e.text) → Carries before now old v'
  midway-written follows = λ s served same stood.
      follows-on v v' id (IsRewritten d.text e.text) follows s m.mid now served m.are are
      (subst (λ (ds : List Document). AreOnTheWay ds m.mid now) (sym same) written) (m.carries s served same stood) written-other
      (record {
        score = e.score;
        was = record { it = rescored e.score d; is = half; score_is = refl; text_is = refl };
        is = record { it = e; is = is; score_is = refl; text_is = refl };
      })

-- ---- scores

-- lists are at scores that are told otherwise
pub at_scores-same : (f g : ℕ → Option ℕ) (v : ListsValue) → ((id : ℕ) → f id ≡ g id) → IsAtScores f v → IsAtScores g v
at_scores-same f g v same at = subst (λ (h : ℕ → Option ℕ). IsAtScores h v) (fun_ext same) at

-- halfway lists are at the scores that documents have in the end
pub midway-scores : (before now : List Document) (old v : ListsValue) → IsMidway before now (λ _. true) old v → IsAtScores (score_in now) v
midway-scores before now old v m =
    at_scores-same (score_in m.mid) (score_in now) v
    (λ id. ap (option_map (λ (d : Document). d.score)) (m.at id) ∙ halfway-score (document_at before id) (document_at now id)) m.at_scores

listed-some : (rules : Rules) (score : Option ℕ) (entry : Option ListKey) → IsAtScore rules score entry → is_some entry ≡ is_some score
listed-some rules None None at = refl
listed-some rules None (Some k) at = absurd at
listed-some rules (Some n) None at = absurd at
listed-some rules (Some n) (Some k) at = refl

-- a document is listed where it has a score
pub listed-at : (score : ℕ → Option ℕ) (v : ListsValue) (id : ℕ) → IsAtScores score v
    → is_some (value_at v.index.entries id) ≡ is_some (score id)
listed-at score v id at = listed-some (chosen_rules v.index.method) (score id) (value_at v.index.entries id) (at.entries id)
