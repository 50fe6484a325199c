use Rattle.svr_tests_search.proofs.over_pages.changes.make_change.Given as goal

abbrev pub ghosts-change_in : goal.ghosts-change_in
ghosts-change_in a = record { name = a.blank.name; parts = a.blank.parts }
