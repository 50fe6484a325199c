-- An index that stands for a listing tells its terms.
use Rattle.std.proofs.Common.{◌≡◌, ℕ, true, List, [], map, ap, ◌∙◌}
use Rattle.svr_idmap.specs.Ids.{value_at}
use Rattle.svr_iter.specs.Effective.{Tells}
use Rattle.svr_iter.specs.MemPairs.{IsPaged, grouped}
use Rattle.svr_listing.specs.Kept.{Ascends}
use Rattle.svr_listing.specs.Listing.{Listing, descending, documents_of, has_pair, pages_of, pairs_by}
use Rattle.svr_long.specs.Cursor.{page_pairs, pairs_from}
use Rattle.svr_long.specs.CursorLaws.{read_told}
use Rattle.svr_long.specs.Heads.{are_heads, heads}
use Rattle.svr_long.specs.PagedLaws.{IsPaged-from, IsPaged-left}
use Rattle.svr_long.proofs.Posted.{ids-grouped, keys-grouped, pairs_from-posted}
use Rattle.svr_postpage.specs.declared.pair.Pair.{Pair}
use Rattle.svr_short.proofs.Marking.{mark_of-marks_of}
use Rattle.svr_short.specs.Short.{marks_of}
use Rattle.svr_index.specs.Index.{Indexed, StandsFor}
use Rattle.svr_index.specs.Docs.{refs_at}

pub tells : (index : Indexed) (l : Listing) (term bytes : List ℕ) → Ascends (documents_of l) → StandsFor index l
    → are_heads (refs_at index term) ≡ true
    → Tells l term (page_pairs bytes) (value_at index.entries) (marks_of index.marks term)
    (grouped (pairs_from (page_pairs bytes) (refs_at index term)))
tells index l term bytes up stood ordered = record {
  ascend = up;
  entries = stood.entries;
  marks = λ key id. mark_of-marks_of index.marks term key id ∙ stood.marks term key id;
  keys = keys-grouped pairs paged ∙ ap (λ (ps : List Pair). descending (map (λ (p : Pair). p.key) ps)) same;
  ids = λ key id. ids-grouped key id pairs paged ∙ ap (has_pair (record { key = key; id = id })) same;
}
  where
    pairs : List Pair
    pairs = pairs_from (page_pairs bytes) (refs_at index term)

    paged : IsPaged pairs
    paged = IsPaged-left (page_pairs bytes) (read_told bytes) [] (refs_at index term) (IsPaged-from (heads (refs_at index term)) ordered)

    same : pairs ≡ pairs_by (page_pairs bytes) (pages_of l.lists term)
    same = ap (pairs_from (page_pairs bytes)) (stood.pages term) ∙ pairs_from-posted (page_pairs bytes) (pages_of l.lists term)
