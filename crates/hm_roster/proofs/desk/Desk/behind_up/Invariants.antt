use Rattle.hm_roster.proofs.desk.Desk.behind_up.Given as goal

abbrev pub ghosts-wake_held_uncounted : goal.ghosts-wake_held_uncounted
ghosts-wake_held_uncounted a = record { name = a.blank.name; parts = a.blank.parts }
