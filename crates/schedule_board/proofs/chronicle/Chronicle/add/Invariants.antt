use Rattle.schedule_board.proofs.chronicle.Chronicle.add.Given as goal

-- what is added
abbrev pub ghosts-add_as : goal.ghosts-add_as
ghosts-add_as a = record { entries = a.more.now }
