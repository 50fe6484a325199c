-- The terms of a text, and which terms a list of them has.
use Rattle.std.specs.Prelude.{ℕ, List, [], Bool, length, nat_le, map, encode_utf8_all, chars}
use Rattle.std.specs.Ordering.{nat_cmp}
use Rattle.std.specs.Cmp.Lexicographic.{slice_cmp}
use Rattle.std.specs.List.{filter, fold, list_all, list_any}
use Rattle.std.specs.Str.{bytes_eq}
use Rattle.std.specs.BTreeSet.{insert_key}
use Rattle.unicode_segmentation.specs.Word.{words}
use Rattle.caseless.specs.Caseless.{default_case_fold}

-- a word in default case folding
abbrev pub folded : List ℕ → List ℕ
folded word = encode_utf8_all (default_case_fold (chars word))

-- whether a folded word is short enough to be a term
abbrev pub is_short : List ℕ → Bool
is_short term = nat_le (length term) 255

-- the folded words of a text in their order, repeats included, without those that are too long
unfoldable pub terms_in : List ℕ → List (List ℕ)
terms_in text = filter is_short (map folded (words text))

-- the different ones of the terms, ascending by bytes
unfoldable pub ascending : List (List ℕ) → List (List ℕ)
ascending terms = fold (insert_key (slice_cmp nat_cmp)) [] terms

-- the terms of a text
unfoldable pub tokens_of : List ℕ → List (List ℕ)
tokens_of text = ascending (terms_in text)

-- whether the term is one of the terms
abbrev pub has_term : List (List ℕ) → List ℕ → Bool
has_term terms term = list_any (bytes_eq term) terms

-- whether each of the wanted is one of the terms
abbrev pub has_all_terms : List (List ℕ) → List (List ℕ) → Bool
has_all_terms terms wanted = list_all (has_term terms) wanted

-- whether at least one of the wanted is one of the terms
abbrev pub has_any_terms : List (List ℕ) → List (List ℕ) → Bool
has_any_terms terms wanted = list_any (has_term terms) wanted
