use Rattle.std.proofs.Common.{◌≡◌, Bool, true, List, take, Option, None, option_map, IfSome, get_or, refl, ap, sym, subst, ◌∙◌}
use Rattle.std.specs.Option.{is_some}
use Rattle.std.proofs.lemmas.List.{take_all}
use Rattle.svr_rows.specs.Changes.{changed}
use Rattle.svr_rows.specs.Rows.{id_of, row_at, rows_in}
use Rattle.svr_rows.specs.declared.row.Row.{Row}
use Rattle.svr_listing.specs.Listing.{score_in}
use Rattle.svr_view.specs.declared.score_move.ScoreMove.{ScoreMove}
use Rattle.svr_view.specs.Layout.{row_after}
use Rattle.svr_view.specs.Score.{score_at}
use Rattle.svr_catalog.specs.Layout.{IsMidway, documents_from, row_or, text_or_none}
use Rattle.svr_catalog.proofs.Following.{if-read, move-id, move-listed, move-score, move-step, move-there, moves-all, moves-more, some-read}
use Rattle.svr_catalog.proofs.Midway.{at_scores-same, midway-begin}
use Rattle.svr_catalog.proofs.Moves.{move-fresh, move-is, seen_in}
use Rattle.svr_catalog.proofs.Rows.{documents-are, score_in-documents}
use Rattle.svr_catalog.proofs.follow.follow_moves.Goals as goal

-- what stands in place of a move that isn't there
abbrev no_move : ScoreMove
no_move = record { id = 0; old = None; new = None }

pub loop-to-init : goal.loop-to-init
loop-to-init g c =
    let s = c.args.schema.now in
    let tables = c.args.tables.now in (
      midway-begin (documents_from s tables) (documents_from s (changed tables c.args.change.now)) c.args.lists.now
          (documents-are s tables c.requires.tables)
          (at_scores-same (score_at s tables) (score_in (documents_from s tables)) c.args.lists.now (λ id. sym (score_in-documents s tables id))
          c.requires.at_scores),
      refl,
    )

pub follow_move-requires-clause-id : goal.follow_move-requires-clause-id
follow_move-requires-clause-id g c =
    let s = c.args.schema.now in
    let tables = c.args.tables.now in
    let change = c.args.change.now in
    let m = get_or c.args.moves.now c.loop-to.to-index no_move in
    let is = move-is (score_at s tables) (score_at s (changed tables change)) c.args.moves.now c.requires.moves c.loop-to.to-index no_move m
    c.loop-to-test.true refl in
    if-read (λ r. id_of r ≡ m.id) (λ row. row.now) c.row_for-row.result (row_or (row_at (rows_in tables s.text_table) m.id) (row_after change))
    c.row_for-row.ensures.row (move-id s tables change c.requires.tables c.requires.accepted m is)

pub follow_move-requires-clause-there : goal.follow_move-requires-clause-there
follow_move-requires-clause-there g c =
    let s = c.args.schema.now in
    let tables = c.args.tables.now in
    let change = c.args.change.now in
    let m = get_or c.args.moves.now c.loop-to.to-index no_move in
    let is = move-is (score_at s tables) (score_at s (changed tables change)) c.args.moves.now c.requires.moves c.loop-to.to-index no_move m
    c.loop-to-test.true refl in
    let same : is_some c.row_for-row.result ≡ is_some (row_or (row_at (rows_in tables s.text_table) m.id) (row_after change)) =
    sym (some-read (λ row. row.now) c.row_for-row.result) ∙ ap (λ (o : Option Row). is_some o) c.row_for-row.ensures.row in
    subst (λ (b : Bool). IfSome m.new (λ _. b ≡ true)) (sym same)
    (move-there s tables change c.requires.tables c.requires.accepted m is)

pub follow_move-requires-clause-score : goal.follow_move-requires-clause-score
follow_move-requires-clause-score g c =
    let s = c.args.schema.now in
    let tables = c.args.tables.now in
    let change = c.args.change.now in
    let m = get_or c.args.moves.now c.loop-to.to-index no_move in
    let is = move-is (score_at s tables) (score_at s (changed tables change)) c.args.moves.now c.requires.moves c.loop-to.to-index no_move m
    c.loop-to-test.true refl in
    move-score s tables change c.requires.tables c.requires.accepted m is

pub follow_move-requires-clause-listed : goal.follow_move-requires-clause-listed
follow_move-requires-clause-listed g c =
    let s = c.args.schema.now in
    let tables = c.args.tables.now in
    let change = c.args.change.now in
    let i = c.loop-to.to-index in
    let m = get_or c.args.moves.now i no_move in
    let is = move-is (score_at s tables) (score_at s (changed tables change)) c.args.moves.now c.requires.moves i no_move m
    c.loop-to-test.true refl in
    let new = move-fresh (score_at s tables) (score_at s (changed tables change)) c.args.moves.now c.requires.moves i no_move m
    c.loop-to-test.true refl in
    move-listed s tables change c.requires.tables c.requires.accepted m is (seen_in (take i c.args.moves.now)) new c.args.lists.now
    c.loop-to.lists c.loop-to.invariant.0

pub loop-to-preserved : goal.loop-to-preserved
loop-to-preserved g c =
    let s = c.args.schema.now in
    let tables = c.args.tables.now in
    let change = c.args.change.now in
    let i = c.loop-to.to-index in
    let m = get_or c.args.moves.now i no_move in
    let is = move-is (score_at s tables) (score_at s (changed tables change)) c.args.moves.now c.requires.moves i no_move m
    c.loop-to-test.true refl in
    let new = move-fresh (score_at s tables) (score_at s (changed tables change)) c.args.moves.now c.requires.moves i no_move m
    c.loop-to-test.true refl in (
      moves-more s tables change c.requires.tables c.requires.accepted c.args.moves.now i no_move m c.args.lists.now c.follow_move.new.lists
          c.loop-to-test.true refl
          (move-step s tables change c.requires.tables c.requires.accepted m is (seen_in (take i c.args.moves.now)) new c.args.lists.now
          c.loop-to.lists c.loop-to.invariant.0 (text_or_none s (option_map (λ row. row.now) c.row_for-row.result)) c.follow_move.new.lists
          (ap (text_or_none s) c.row_for-row.ensures.row) c.in_ok-follow_move.ensures.follows c.in_ok-follow_move.ensures.at_scores),
      c.in_ok-follow_move.ensures.last ∙ c.loop-to.invariant.1,
    )

pub returns-clause-midway : goal.returns-clause-midway
returns-clause-midway g c =
    let s = c.args.schema.now in
    let tables = c.args.tables.now in
    let change = c.args.change.now in
    moves-all s tables change c.requires.tables c.requires.accepted c.args.moves.now c.args.lists.now c.loop-to.lists c.requires.moves
    (subst (λ (ms : List ScoreMove). IsMidway (documents_from s tables) (documents_from s (changed tables change)) (seen_in ms)
    c.args.lists.now c.loop-to.lists) (take_all c.loop-to.to-index c.args.moves.now c.loop-to-test.false) c.loop-to.invariant.0)
