use Rattle.hm_rows_exec.proofs.run.Run.claim.Given as goal

abbrev pub ghosts-next_claim : goal.ghosts-next_claim
ghosts-next_claim a = record { name = a.blank.name; parts = a.blank.parts }
