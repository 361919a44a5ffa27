use Rattle.hm_locks.proofs.pages.Pages.take.Given as goal

abbrev pub ghosts-link : goal.ghosts-link
ghosts-link a = record { name = a.blank.name; parts = a.blank.parts }
