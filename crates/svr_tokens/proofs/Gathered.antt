-- The terms of the words that are left, beside those that are gathered.
use Rattle.std.proofs.Common.{◌≡◌, refl, List, ℕ, [], ◌∷◌, true, false, map, nat_cmp}
use Rattle.std.specs.Cmp.Lexicographic.{slice_cmp}
use Rattle.std.specs.BTreeSet.{insert_key}
use Rattle.std.specs.List.{filter, fold}
use Rattle.unicode_segmentation.specs.Word.{words}
use Rattle.svr_tokens.specs.Tokens.{folded, is_short, terms_in, ascending, tokens_of}

-- the terms ks with those of the words ws
unfoldable pub gathered : List (List ℕ) → List (List ℕ) → List (List ℕ)
gathered ks ws = fold (insert_key (slice_cmp nat_cmp)) ks (filter is_short (map folded ws))

pub gathered-all : (text : List ℕ) → gathered [] (words text) ≡ tokens_of text
unfolding gathered terms_in ascending tokens_of
gathered-all text = refl

pub gathered-none : (ks ws : List (List ℕ)) → ws ≡ [] → gathered ks ws ≡ ks
unfolding gathered
gathered-none ks ws e = rw e refl

pub gathered-short : (ks ws rest : List (List ℕ)) (w : List ℕ) → ws ≡ w ∷ rest → is_short (folded w) ≡ true
    → gathered ks ws ≡ gathered (insert_key (slice_cmp nat_cmp) ks (folded w)) rest
unfolding gathered
gathered-short ks ws rest w e h = rw (e, h) refl

pub gathered-long : (ks ws rest : List (List ℕ)) (w : List ℕ) → ws ≡ w ∷ rest → is_short (folded w) ≡ false
    → gathered ks ws ≡ gathered ks rest
unfolding gathered
gathered-long ks ws rest w e h = rw (e, h) refl
