use Rattle.hm_roster.proofs.desk.Desk.behind_step.Given as goal

abbrev pub ghosts-look_at_uncounted : goal.ghosts-look_at_uncounted
ghosts-look_at_uncounted a = record { name = a.blank.name; parts = a.blank.parts }
