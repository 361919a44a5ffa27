use Rattle.hm_world.proofs.hall.WorldHall.take.Given as goal

abbrev pub ghosts-take_next : goal.ghosts-take_next
ghosts-take_next g a = record { name = a.blank.name; parts = a.blank.parts }
