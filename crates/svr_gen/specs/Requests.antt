-- The lines of the workload, each ended by LF, and what each draws.
use Rattle.std.specs.Prelude.{ℕ, ◌+◌, ◌%◌, ◌==◌, List, [], ◌∷◌, length, codes, if◌then◌else◌}
use Rattle.std.specs.Fmt.{decimal}
use Rattle.svr_gen.specs.Parts.{Part, Written, as_written, plain, with_draw, below, one_to, in_turn, numbered}

-- movies have a title, and reviews and visits name a movie
unfoldable pub tables : Part
tables = in_turn
    (plain (codes "{\"name\":\"movies\",\"columns\":[{\"name\":\"id\",\"type\":\"int\"},{\"name\":\"title\",\"type\":\"text\"}]},")
    ∷ plain (codes "{\"name\":\"reviews\",\"columns\":[{\"name\":\"id\",\"type\":\"int\"},{\"name\":\"movie\",\"type\":\"int\"},")
    ∷ plain (codes "{\"name\":\"stars\",\"type\":\"int\"}]},")
    ∷ plain (codes "{\"name\":\"visits\",\"columns\":[{\"name\":\"id\",\"type\":\"int\"},{\"name\":\"movie\",\"type\":\"int\"},")
    ∷ plain (codes "{\"name\":\"hits\",\"type\":\"int\"}]}")
    ∷ [])

-- the schema: titles are searched; the score of a movie is half of what the sum of its visits' hits and 200 times the mean of its reviews'
-- stars come to; movies are listed by chunks of at least 4
unfoldable pub schema : Part
schema = in_turn
    (plain (codes "{\"op\":\"schema\",\"schema\":{\"tables\":[")
    ∷ tables
    ∷ plain (codes "],\"text\":{\"table\":\"movies\",\"column\":\"title\"},\"components\":[")
    ∷ plain (codes "{\"kind\":\"avg\",\"table\":\"reviews\",\"by\":\"movie\",\"column\":\"stars\",\"weight\":200,\"empty\":0},")
    ∷ plain (codes "{\"kind\":\"sum\",\"table\":\"visits\",\"by\":\"movie\",\"column\":\"hits\",\"weight\":1}")
    ∷ plain (codes "],\"divisor\":2,\"method\":{\"kind\":\"chunk\",\"ratio\":200,\"min_docs\":4}}}\n")
    ∷ [])

-- a word: w with a number below 400
unfoldable pub word : Part
word = in_turn (plain (codes "w") ∷ below 400 ∷ [])

-- a word behind a space
unfoldable pub next_word : Part
next_word = in_turn (plain (codes " ") ∷ word ∷ [])

-- a title: eight words
unfoldable pub title : Part
title = in_turn (word ∷ numbered (λ _. next_word) 7 ∷ [])

-- the row of a movie: its id and its title
unfoldable pub movie_row : ℕ → Part
movie_row id = in_turn (plain (decimal id) ∷ plain (codes ",") ∷ title ∷ plain (codes "\n") ∷ [])

-- the row of a review: its id, its movie and its stars
unfoldable pub review_row : ℕ → Part
review_row id =
    in_turn (plain (decimal id) ∷ plain (codes ",") ∷ one_to 2000 ∷ plain (codes ",") ∷ one_to 5 ∷ plain (codes "\n") ∷ [])

-- the row of visits: their id, which is that of their movie, and their hits
unfoldable pub visit_row : ℕ → Part
visit_row id = in_turn
    (plain (decimal id) ∷ plain (codes ",") ∷ plain (decimal id) ∷ plain (codes ",")
    ∷ below 10000 ∷ plain (codes "\n") ∷ [])

-- the load of rows that are written already: a line that says how many bytes they are, and behind it the rows
unfoldable pub load_of : List ℕ → Written → Part
load_of table rows = in_turn
    (plain (codes "{\"op\":\"load\",\"table\":\"") ∷ plain table
    ∷ plain (codes "\",\"bytes\":") ∷ plain (decimal (length rows.text)) ∷ plain (codes ",\"header\":false}\n")
    ∷ as_written rows ∷ [])

-- the load of rows
unfoldable pub load : List ℕ → Part → Part
load table rows g = load_of table (rows g) g

-- the update of visits, whose id from 1 to 2,000 is that of their movie, to hits below 20,000
unfoldable pub visit_update : Part
visit_update = with_draw 2000 (λ n. in_turn
    (plain (codes "{\"op\":\"update\",\"table\":\"visits\",\"row\":[")
    ∷ plain (decimal (1 + n)) ∷ plain (codes ",") ∷ plain (decimal (1 + n)) ∷ plain (codes ",") ∷ below 20000 ∷ plain (codes "]}\n") ∷ []))

-- the update of a movie to another title
unfoldable pub movie_update : Part
movie_update = in_turn
    (plain (codes "{\"op\":\"update\",\"table\":\"movies\",\"row\":[")
    ∷ one_to 2000 ∷ plain (codes ",\"") ∷ title ∷ plain (codes "\"]}\n") ∷ [])

-- the delete of a review, which may be gone already
unfoldable pub review_delete : Part
review_delete = in_turn (plain (codes "{\"op\":\"delete\",\"table\":\"reviews\",\"id\":") ∷ one_to 3000 ∷ plain (codes "}\n") ∷ [])

-- the mode of a search: any where the number drawn is 1, and all otherwise
unfoldable pub mode : Part
mode = with_draw 2 (λ n. plain (if n == 1 then codes "any" else codes "all"))

-- a search for two words, for 1 to 20 hits
unfoldable pub search_request : Part
search_request = in_turn
    (plain (codes "{\"op\":\"search\",\"query\":\"") ∷ word ∷ next_word ∷ plain (codes "\",\"mode\":\"") ∷ mode
    ∷ plain (codes "\",\"k\":") ∷ one_to 20 ∷ plain (codes "}\n") ∷ [])

-- the step of a merge behind so many others: a begin, two slices of 200 terms and a publish, and so on from the begin
unfoldable pub merge_step : ℕ → List ℕ
merge_step before =
    if before % 4 == 0 then codes "{\"op\":\"merge-begin\"}\n"
    else if before % 4 == 3 then codes "{\"op\":\"merge-publish\"}\n"
    else codes "{\"op\":\"merge-slice\",\"terms\":200}\n"

-- a whole merge
unfoldable pub merge : Part
merge = plain (codes "{\"op\":\"merge\"}\n")
