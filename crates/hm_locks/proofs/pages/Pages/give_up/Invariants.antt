use Rattle.hm_locks.proofs.pages.Pages.give_up.Given as goal

abbrev pub ghosts-unlink : goal.ghosts-unlink
ghosts-unlink a = record { name = a.blank.name; parts = a.blank.parts }
