use Rattle.hm_roster.proofs.desk.Desk.behind_submit.Given as goal

abbrev pub ghosts-line_up_last_uncounted : goal.ghosts-line_up_last_uncounted
ghosts-line_up_last_uncounted a = record { name = a.blank.name; parts = a.blank.parts }
