-- What words ask for, worked out by hand: whatever name the program has.
use Rattle.std.proofs.Common.{◌≡◌, refl, codes, List, ℕ, [], ◌∷◌, Some, None}
use Rattle.clap.proofs.OnLiterals.{clap_on_literals}
use Rattle.svr_num.specs.Digits.{digits_in}
use Rattle.svr_words.specs.Words.{words_in}
use Rattle.svr_words.specs.declared.words.Words.TheVariants.{Serve, Check, Gen}

modes : (svr : List ℕ)
    → (words_in (svr ∷ codes "serve" ∷ []) ≡ Some (Serve 1024))
    × (words_in (svr ∷ codes "check" ∷ []) ≡ Some (Check 1024))
    × (words_in (svr ∷ codes "gen" ∷ codes "7" ∷ []) ≡ Some (Gen 7 1024))
unfolding words_in digits_in clap_on_literals
modes svr = (refl, refl, refl)

no_modes : (svr : List ℕ)
    → (words_in [] ≡ None)
    × (words_in (svr ∷ []) ≡ None)
    × (words_in (svr ∷ codes "sing" ∷ []) ≡ None)
    × (words_in (svr ∷ codes "Serve" ∷ []) ≡ None)
    × (words_in (svr ∷ codes "help" ∷ []) ≡ None)
    × (words_in (svr ∷ codes "--help" ∷ []) ≡ None)
    × (words_in (svr ∷ codes "serve" ∷ codes "-h" ∷ []) ≡ None)
unfolding words_in digits_in clap_on_literals
no_modes svr = (refl, refl, refl, refl, refl, refl, refl)

numbers : (svr : List ℕ)
    → (words_in (svr ∷ codes "gen" ∷ codes "0" ∷ []) ≡ Some (Gen 0 1024))
    × (words_in (svr ∷ codes "gen" ∷ codes "007" ∷ []) ≡ Some (Gen 7 1024))
    × (words_in (svr ∷ codes "gen" ∷ codes "18446744073709551615" ∷ []) ≡ Some (Gen 18446744073709551615 1024))
    × (words_in (svr ∷ codes "gen" ∷ codes "18446744073709551616" ∷ []) ≡ None)
    × (words_in (svr ∷ codes "gen" ∷ []) ≡ None)
    × (words_in (svr ∷ codes "gen" ∷ [] ∷ []) ≡ None)
    × (words_in (svr ∷ codes "gen" ∷ codes "+7" ∷ []) ≡ None)
    × (words_in (svr ∷ codes "gen" ∷ codes "-7" ∷ []) ≡ None)
    × (words_in (svr ∷ codes "gen" ∷ codes "seven" ∷ []) ≡ None)
    × (words_in (svr ∷ codes "gen" ∷ codes "7" ∷ codes "8" ∷ []) ≡ None)
    × (words_in (svr ∷ codes "7" ∷ codes "gen" ∷ []) ≡ None)
    × (words_in (svr ∷ codes "serve" ∷ codes "5" ∷ []) ≡ None)
    × (words_in (svr ∷ codes "check" ∷ codes "5" ∷ []) ≡ None)
unfolding words_in digits_in clap_on_literals
numbers svr = (refl, refl, refl, refl, refl, refl, refl, refl, refl, refl, refl, refl, refl)

pages : (svr : List ℕ)
    → (words_in (svr ∷ codes "serve" ∷ codes "--cache" ∷ codes "16" ∷ []) ≡ Some (Serve 16))
    × (words_in (svr ∷ codes "--cache" ∷ codes "16" ∷ codes "serve" ∷ []) ≡ Some (Serve 16))
    × (words_in (svr ∷ codes "check" ∷ codes "--cache=16" ∷ []) ≡ Some (Check 16))
    × (words_in (svr ∷ codes "gen" ∷ codes "--cache" ∷ codes "00016" ∷ codes "7" ∷ []) ≡ Some (Gen 7 16))
    × (words_in (svr ∷ codes "serve" ∷ codes "--cache" ∷ codes "0" ∷ []) ≡ Some (Serve 0))
    × (words_in (svr ∷ codes "serve" ∷ codes "--cache" ∷ codes "65536" ∷ []) ≡ Some (Serve 65536))
    × (words_in (svr ∷ codes "serve" ∷ codes "--cache" ∷ codes "65537" ∷ []) ≡ None)
    × (words_in (svr ∷ codes "serve" ∷ codes "--cache" ∷ codes "+16" ∷ []) ≡ None)
    × (words_in (svr ∷ codes "serve" ∷ codes "--cache=" ∷ []) ≡ None)
    × (words_in (svr ∷ codes "serve" ∷ codes "--cache" ∷ []) ≡ None)
    × (words_in (svr ∷ codes "serve" ∷ codes "--cache" ∷ codes "16" ∷ codes "--cache" ∷ codes "16" ∷ []) ≡ None)
    × (words_in (svr ∷ codes "serve" ∷ codes "--pages" ∷ codes "16" ∷ []) ≡ None)
    × (words_in (svr ∷ codes "--cache" ∷ codes "16" ∷ []) ≡ None)
unfolding words_in digits_in clap_on_literals
pages svr = (refl, refl, refl, refl, refl, refl, refl, refl, refl, refl, refl, refl, refl)

-- behind `--` each word is a positional
dashes : (svr : List ℕ)
    → (words_in (svr ∷ codes "--" ∷ codes "serve" ∷ []) ≡ Some (Serve 1024))
    × (words_in (svr ∷ codes "--cache" ∷ codes "16" ∷ codes "gen" ∷ codes "--" ∷ codes "7" ∷ []) ≡ Some (Gen 7 16))
    × (words_in (svr ∷ codes "serve" ∷ codes "--" ∷ codes "--cache" ∷ codes "16" ∷ []) ≡ None)
unfolding words_in digits_in clap_on_literals
dashes svr = (refl, refl, refl)
