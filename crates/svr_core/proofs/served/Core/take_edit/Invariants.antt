use Rattle.svr_core.proofs.served.Core.take_edit.Given as goal

-- the ledger of the blank
abbrev pub ghosts-edited : goal.ghosts-edited
ghosts-edited a = record { name = a.blank.name; parts = a.blank.parts }
