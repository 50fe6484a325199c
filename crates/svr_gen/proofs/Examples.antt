-- What is written by the generator of 7 from its first draw on, worked out by a program that knows nothing of these definitions. The first
-- words of that generator are 250, 46, 112 and so on, modulo 400.
use Rattle.std.proofs.Common.{◌≡◌, ◌++◌, refl, codes}
use Rattle.std.specs.Fmt.{digits}
use Rattle.svr_gen.specs.Parts.{as_written, below, generator_of, in_turn, numbered, one_to, plain, with_draw}
use Rattle.svr_gen.specs.Requests.{load, load_of, merge_step, mode, movie_row, movie_update, next_word, review_delete, review_row, search_request, title, visit_row, visit_update, word}
use Rattle.svr_gen.specs.Workload.{chosen, merges_with, steps}

rows : ((movie_row 1 (generator_of 7)).text ≡ codes "1,w250 w46 w112 w31 w37 w291 w167 w79\n")
    × ((review_row 1 (generator_of 7)).text ≡ codes "1,1851,2\n")
    × ((visit_row 1 (generator_of 7)).text ≡ codes "1,1,3850\n")
unfolding below digits generator_of in_turn movie_row next_word numbered one_to plain review_row title visit_row with_draw word
rows = (refl, refl, refl)

changes : ((visit_update (generator_of 7)).text ≡ codes "{\"op\":\"update\",\"table\":\"visits\",\"row\":[1851,1851,14046]}\n")
    × ((movie_update (generator_of 7)).text
    ≡ codes "{\"op\":\"update\",\"table\":\"movies\",\"row\":[1851,\"w46 w112 w31 w37 w291 w167 w79 w351\"]}\n")
    × ((review_delete (generator_of 7)).text ≡ codes "{\"op\":\"delete\",\"table\":\"reviews\",\"id\":1851}\n")
unfolding below digits generator_of in_turn movie_update next_word numbered one_to plain review_delete title visit_update with_draw word
changes = (refl, refl, refl)

search : (search_request (generator_of 7)).text ≡ codes "{\"op\":\"search\",\"query\":\"w250 w46\",\"mode\":\"all\",\"k\":12}\n"
unfolding below digits generator_of in_turn mode next_word one_to plain search_request with_draw word
search = refl

-- the choices of the first steps are 0, 1, 7, 1, 9 and 5
first_steps : (steps 6 0 (generator_of 7)).text
    ≡ codes "{\"op\":\"update\",\"table\":\"visits\",\"row\":[47,47,17312]}\n"
    ++ codes "{\"op\":\"update\",\"table\":\"visits\",\"row\":[1638,1638,8691]}\n"
    ++ codes "{\"op\":\"search\",\"query\":\"w79 w351\",\"mode\":\"all\",\"k\":12}\n"
    ++ codes "{\"op\":\"update\",\"table\":\"visits\",\"row\":[557,557,2973]}\n"
    ++ codes "{\"op\":\"merge-begin\"}\n"
    ++ codes "{\"op\":\"delete\",\"table\":\"reviews\",\"id\":1575}\n"
unfolding below chosen digits generator_of in_turn merge_step merges_with mode next_word one_to plain review_delete search_request steps visit_update with_draw word
first_steps = refl

a_load : (load (codes "visits") (numbered visit_row 2) (generator_of 7)).text
    ≡ codes "{\"op\":\"load\",\"table\":\"visits\",\"bytes\":18,\"header\":false}\n1,1,3850\n2,2,4046\n"
unfolding as_written below digits generator_of in_turn load load_of numbered plain visit_row with_draw
a_load = refl
