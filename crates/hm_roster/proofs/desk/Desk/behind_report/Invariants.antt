use Rattle.hm_roster.proofs.desk.Desk.behind_report.Given as goal

abbrev pub ghosts-hear_uncounted : goal.ghosts-hear_uncounted
ghosts-hear_uncounted a = record { name = a.blank.name; parts = a.blank.parts }
