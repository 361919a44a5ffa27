use Rattle.hm_roster.proofs.desk.Desk.put_back.Given as goal

abbrev pub ghosts-let_go_uncounted : goal.ghosts-let_go_uncounted
ghosts-let_go_uncounted a = record { name = a.blank.name; parts = a.blank.parts }
