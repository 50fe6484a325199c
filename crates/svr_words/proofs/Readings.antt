-- What words ask for, by what the command finds in them.
use Rattle.std.proofs.Common.{◌≡◌, ◌∙◌, ap, refl, sym, codes, List, ℕ, true, false, Option, None}
use Rattle.clap.specs.Words.{first_of, first_value, found_of}
use Rattle.clap.specs.declared.parser.matches.ArgMatches.{ArgMatches}
use Rattle.clap.proofs.WalkLemmas.{first_value-rows}
use Rattle.svr_words.specs.Command.{is_taken, value_of}
use Rattle.svr_words.specs.Layout.{Finds}
use Rattle.svr_words.specs.Words.{reading_of, words_in}

-- words that the command refuses have no reading
pub words_in-refused : (words : List (List ℕ)) → is_taken words ≡ false → words_in words ≡ None
unfolding words_in
words_in-refused words is = rw is refl

-- words that it takes are read by the values that it finds
words_in-values : (words : List (List ℕ)) → is_taken words ≡ true
    → words_in words ≡ reading_of (value_of (codes "mode") words) (value_of (codes "number") words) (value_of (codes "cache") words)
unfolding words_in
words_in-values words is = rw is refl

value_of-found : (words : List (List ℕ)) (m : ArgMatches) (id : List ℕ) → Finds words m
    → first_value (found_of m) id ≡ value_of id words
value_of-found words m id finds = first_value-rows (found_of m) id ∙ ap (first_of id) finds.rows

-- what the command found in the words is what they ask for
pub words_in-found : (words : List (List ℕ)) (m : ArgMatches) (mode number pages : Option (List ℕ)) → Finds words m
    → mode ≡ first_value (found_of m) (codes "mode")
    → number ≡ first_value (found_of m) (codes "number")
    → pages ≡ first_value (found_of m) (codes "cache")
    → reading_of mode number pages ≡ words_in words
words_in-found words m mode number pages finds mode_is number_is pages_is =
    let a = mode_is ∙ value_of-found words m (codes "mode") finds in
    let b = number_is ∙ value_of-found words m (codes "number") finds in
    let d = pages_is ∙ value_of-found words m (codes "cache") finds in
    rw (a, b, d) (sym (words_in-values words finds.taken))
