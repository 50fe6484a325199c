-- A merge is begun, and how many terms it has left.
use Rattle.std.proofs.Common.{◌≡◌, ◌==◌, ◌+◌, ◌-◌, ◌^◌, ◌≤◌, ℕ, Bool, true, false, cond, min, List, [], ◌∷◌, length, map, find, filter, Option, Some, None, option_map}
use Rattle.std.proofs.Common.{refl, ap, sym, subst, ◌∙◌, arith, slice_get}
use Rattle.svr_num.specs.declared.hit.Hit.{Hit}
use Rattle.svr_tokens.specs.Tokens.{tokens_of}
use Rattle.svr_listing.specs.declared.document.Document.{Document}
use Rattle.svr_listing.specs.Listing.{document_at, documents_of, hit_of}
use Rattle.svr_listing.specs.Merges.{Merge, begin, by_bytes, is_after, live_terms, terms_left}
use Rattle.svr_listing.specs.Methods.{Rules}
use Rattle.svr_listing.proofs.Merging.{new_key-begin}
use Rattle.svr_listing.proofs.Terms.{left-more}
use Rattle.svr_index.specs.Index.{Indexed}
use Rattle.svr_index.specs.Terms.{IsNextLive}
use Rattle.svr_merge.specs.Runs.{Run, StandsForMerge}
use Rattle.svr_merge.proofs.Touching.{documents-begin}
use Rattle.svr_lists.specs.Layout.{CountsBehind, CountsOn}
use Rattle.svr_lists.specs.Lists.{HasKeysOfScores, IsAtScores, IsMergeOf, ListsValue}
use Rattle.svr_lists.specs.Merges.{AreScoresOf, BeginsMerge, CountsLeft}

-- a run stands for the begin of a merge beside any documents with these ids and scores
abbrev pub IsBegun : Run → List Hit → Rules → Type 0
IsBegun run documents rules = (ds : List Document) → map hit_of ds ≡ documents → StandsForMerge run (begin rules ds)

pub begins : (index : Indexed) (old : Option Run) (run : Run) (documents : List Hit) (rules : Rules) → IsBegun run documents rules
    → BeginsMerge (record { index = index; merge = old }) (record { index = index; merge = Some run }) documents rules
begins index old run documents rules is s stands same = record {
  index = stands.index;
  merge = record { stands = is (documents_of s.listing) same; have = documents-begin rules (documents_of s.listing) };
}

-- ---- keys of scores

-- a document with an id and a score
abbrev plain : Hit → Document
plain hit = record { id = hit.id; score = hit.score; text = []; terms = [] }

plain_hits : (hits : List Hit) → map hit_of (map plain hits) ≡ hits
plain_hits [] = refl
plain_hits (h ∷ hs) = ap (λ (l : List Hit). h ∷ l) (plain_hits hs)

plain_score : (hits : List Hit) (id : ℕ)
    → option_map (λ (d : Document). d.score) (document_at (map plain hits) id) ≡ option_map (λ (h : Hit). h.score) (find (λ h. h.id == id) hits)
plain_score [] id = refl
plain_score (h ∷ hs) id = by (h.id == id) (plain_score hs id)
  where
    by : (b : Bool)
        → option_map (λ (d : Document). d.score) (document_at (map plain hs) id) ≡ option_map (λ (h : Hit). h.score) (find (λ h. h.id == id) hs)
        → option_map (λ (d : Document). d.score) (cond b (Some (plain h)) (document_at (map plain hs) id))
        ≡ option_map (λ (h : Hit). h.score) (cond b (Some h) (find (λ h. h.id == id) hs))
    by true more = refl
    by false more = more

key_of_score : (f : ℕ → ℕ) (o : Option Document)
    → option_map (λ (d : Document). f d.score) o ≡ option_map f (option_map (λ (d : Document). d.score) o)
key_of_score f None = refl
key_of_score f (Some d) = refl

pub at-begun : (index : Indexed) (old : Option Run) (run : Run) (documents : List Hit) (rules : Rules) (score : ℕ → Option ℕ)
    → IsBegun run documents rules → IsAtScores score (record { index = index; merge = old }) → AreScoresOf documents score
    → IsAtScores score (record { index = index; merge = Some run })
at-begun index old run documents rules score is at are = record {
  entries = at.entries;
  new_keys = λ r e. subst (HasKeysOfScores score) (let same : run ≡ r = cc in same) keys;
}
  where
    stands : StandsForMerge run (begin rules (map plain documents))
    stands = is (map plain documents) (plain_hits documents)

    keys : HasKeysOfScores score run
    keys id key found =
        ap (λ (r : Rules). option_map r.key (score id)) stands.rules
        ∙ ap (option_map rules.key) (are id ∙ sym (plain_score documents id))
        ∙ sym (key_of_score rules.key (document_at (map plain documents) id))
        ∙ sym (new_key-begin rules (map plain documents) id)
        ∙ sym (stands.keys id)
        ∙ found

-- ---- terms left

-- behind the first of those behind one are the others
pub counts-more : (index : Indexed) (first after : Option (List ℕ)) (term : List ℕ) (count : ℕ) → CountsOn index first after count
    → IsNextLive index after (Some term) → CountsOn index first (Some term) (count + 1)
counts-more index first after term count counts next tokens l is stood =
    by (filter (is_after after) (live_terms l)) refl (next tokens l is stood) (counts tokens l is stood)
  where
    by : (ts : List (List ℕ)) → filter (is_after after) (live_terms l) ≡ ts → Some term ≡ slice_get ts 0
        → length (filter (is_after first) (live_terms l)) ≡ count + length ts
        → length (filter (is_after first) (live_terms l)) ≡ count + 1 + length (filter (is_after (Some term)) (live_terms l))
    by [] e n c = absurd (cc)
    by (t ∷ ts) e n c =
        let same : t ≡ term = cc in
        let rest : filter (by_bytes term) (live_terms l) ≡ ts =
        subst (λ (x : List ℕ). filter (by_bytes x) (live_terms l) ≡ ts) same
        (left-more l (record { rules = l.rules; keys = []; last = after; lists = [] }) t ts e) in
        let long : length (filter (by_bytes term) (live_terms l)) ≡ length ts = ap (λ (x : List (List ℕ)). length x) rest in
        omega (arith, c, long)

-- where there is no first, all are counted
pub counts-all : (index : Indexed) (first after : Option (List ℕ)) (count : ℕ) → count ≤ 2 ^ 64 - 1 → CountsOn index first after count
    → IsNextLive index after None → CountsBehind index first count
counts-all index first after count low counts next tokens l is stood =
    by (filter (is_after after) (live_terms l)) (next tokens l is stood) (counts tokens l is stood)
  where
    exactly : (n : ℕ) → n ≡ count + 0 → count ≡ min n (2 ^ 64 - 1)
    exactly n e = grind (arith)

    by : (ts : List (List ℕ)) → None ≡ slice_get ts 0 → length (filter (is_after first) (live_terms l)) ≡ count + length ts
        → count ≡ min (length (filter (is_after first) (live_terms l))) (2 ^ 64 - 1)
    by [] n c = exactly (length (filter (is_after first) (live_terms l))) c
    by (t ∷ ts) n c = absurd (cc)

-- a count that came to its end tells no more
pub counts-end : (index : Indexed) (first after : Option (List ℕ)) → CountsOn index first after (2 ^ 64 - 1)
    → CountsBehind index first (2 ^ 64 - 1)
counts-end index first after counts tokens l is stood =
    at_most (length (filter (is_after first) (live_terms l))) (length (filter (is_after after) (live_terms l))) (counts tokens l is stood)
  where
    at_most : (n m : ℕ) → n ≡ 2 ^ 64 - 1 + m → 2 ^ 64 - 1 ≡ min n (2 ^ 64 - 1)
    at_most n m e = grind (arith)

pub left-counts : (v : ListsValue) (run : Run) (last : Option (List ℕ)) (count : ℕ) → v.merge ≡ Some run → last ≡ run.last
    → CountsBehind v.index last count → CountsLeft v (Some count)
left-counts v run last count begun is_last counts s is stands =
    by s.merge (subst (λ (o : Option Run). IsMergeOf (documents_of s.listing) o s.merge) begun stands.merge)
  where
    by : (o : Option Merge) → IsMergeOf (documents_of s.listing) (Some run) o
        → Some count ≡ option_map (λ m. min (length (terms_left s.listing m)) (2 ^ 64 - 1)) o
    by None merge = absurd merge
    by (Some m) merge =
        ap (λ (n : ℕ). Some n)
        (counts tokens_of s.listing is.listing stands.index
        ∙ ap (λ (x : Option (List ℕ)). min (length (filter (is_after x) (live_terms s.listing))) (2 ^ 64 - 1)) (is_last ∙ merge.stands.last))
