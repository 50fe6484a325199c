-- What the words of the command line ask for.
use Rattle.std.specs.Prelude.{ℕ, List, codes, Option, Some, None, option_map, option_and_then, if◌then◌else◌, nat_le}
use Rattle.std.specs.Str.{bytes_eq}
use Rattle.svr_num.specs.Digits.{digits_in}
use Rattle.svr_words.specs.Command.{is_taken, value_of}
use Rattle.svr_words.specs.declared.words.Words.{Words}
use Rattle.svr_words.specs.declared.words.Words.TheVariants.{Serve, Check, Gen}

-- PAGES: how many pages are to be cached, up to 65,536, and 1,024 where the words don't say
abbrev pub pages_in : Option (List ℕ) → Option ℕ
pages_in None = Some 1024
pages_in (Some text) = option_and_then (λ pages. if nat_le pages 65536 then Some pages else None) (digits_in text)

-- MODE, with N exactly for `gen`
abbrev pub asked_by : List ℕ → Option (List ℕ) → ℕ → Option Words
asked_by mode None cache =
    if bytes_eq mode (codes "serve") then Some (Serve cache)
    else if bytes_eq mode (codes "check") then Some (Check cache)
    else None
asked_by mode (Some text) cache =
    if bytes_eq mode (codes "gen") then option_map (λ number. Gen number cache) (digits_in text) else None

-- MODE, N and PAGES
abbrev pub reading_of : Option (List ℕ) → Option (List ℕ) → Option (List ℕ) → Option Words
reading_of mode number pages =
    option_and_then (λ m. option_and_then (λ cache. asked_by m number cache) (pages_in pages)) mode

-- what the words ask for, the program's name first: the command takes them, and what it finds in them can be read
unfoldable pub words_in : List (List ℕ) → Option Words
words_in words =
    if is_taken words
    then reading_of (value_of (codes "mode") words) (value_of (codes "number") words) (value_of (codes "cache") words)
    else None
