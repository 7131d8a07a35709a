use Rattle.uses.proofs.placed_run.run_two_placed.Given as goal

abbrev pub ghosts-run_at : goal.ghosts-run_at
ghosts-run_at g a = record { came = a.places.now }
