use Rattle.hm_judge.proofs.steps.is_free.Given as goal

abbrev pub ghosts-is_free_in : goal.ghosts-is_free_in
ghosts-is_free_in a = record { name = a.blank.name; parts = a.blank.parts }
