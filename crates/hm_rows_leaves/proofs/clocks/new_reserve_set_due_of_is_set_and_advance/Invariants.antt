use Rattle.hm_rows_leaves.proofs.clocks.new_reserve_set_due_of_is_set_and_advance.Given as goal

abbrev pub ghosts-far_timers : goal.ghosts-far_timers
ghosts-far_timers g a = record { name = a.blank.name; parts = a.blank.parts }
