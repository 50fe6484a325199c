-- The workload of a number.
use Rattle.std.specs.Prelude.{ℕ, zero, suc, ◌==◌, nat_le, List, [], ◌∷◌, codes, if◌then◌else◌}
use Rattle.svr_gen.specs.Parts.{Part, generator_of, plain, with_draw, in_turn, numbered}
use Rattle.svr_gen.specs.Requests.{load, merge, merge_step, movie_row, movie_update, review_delete, review_row, schema, search_request, visit_row, visit_update}

-- the request of a step by the choice that was drawn for it, behind so many steps of merges
unfoldable pub chosen : ℕ → ℕ → Part
chosen choice merges =
    if nat_le choice 3 then visit_update
    else if choice == 4 then movie_update
    else if choice == 5 then review_delete
    else if choice == 9 then plain (merge_step merges)
    else search_request

-- how many steps of merges there are with that one
unfoldable pub merges_with : ℕ → ℕ → ℕ
merges_with choice merges = if choice == 9 then suc merges else merges

-- so many steps, behind so many steps of merges: each draws one of ten choices
unfoldable pub steps : ℕ → ℕ → Part
steps zero merges = plain []
steps (suc count) merges =
    with_draw 10 (λ choice. in_turn (chosen choice merges ∷ steps count (merges_with choice merges) ∷ []))

-- all requests: 2,000 movies, 3,000 reviews and 2,000 visits are loaded and merged; 600 steps, a merge, and ten searches follow
unfoldable pub requests : Part
requests = in_turn
    (schema
    ∷ load (codes "movies") (numbered movie_row 2000)
    ∷ load (codes "reviews") (numbered review_row 3000)
    ∷ load (codes "visits") (numbered visit_row 2000)
    ∷ merge
    ∷ steps 600 0
    ∷ merge
    ∷ numbered (λ _. search_request) 10
    ∷ [])

-- the text of these, by the generator of the number
unfoldable pub workload_of : ℕ → List ℕ
workload_of number = (requests (generator_of number)).text
