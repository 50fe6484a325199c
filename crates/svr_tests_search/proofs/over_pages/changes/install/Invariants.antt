use Rattle.svr_tests_search.proofs.over_pages.changes.install.Given as goal

abbrev pub ghosts-install_in : goal.ghosts-install_in
ghosts-install_in a = record { name = a.blank.name; parts = a.blank.parts }
