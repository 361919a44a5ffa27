use Rattle.hm_rows_leaves.proofs.timers.new_reserve_set_cancel_due_of_and_advance.Given as goal

abbrev pub ghosts-three_timers : goal.ghosts-three_timers
ghosts-three_timers g a = record { name = a.blank.name; parts = a.blank.parts }
