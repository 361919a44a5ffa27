use Rattle.hm_sched.proofs.sched.Sched.ready.Given as goal

abbrev pub ghosts-push_uncounted : goal.ghosts-push_uncounted
ghosts-push_uncounted a = record { name = a.blank.name; parts = a.blank.parts }
