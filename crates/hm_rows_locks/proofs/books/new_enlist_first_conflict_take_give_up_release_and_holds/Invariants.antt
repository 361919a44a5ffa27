use Rattle.hm_rows_locks.proofs.books.new_enlist_first_conflict_take_give_up_release_and_holds.Given as goal

abbrev pub ghosts-run : goal.ghosts-run
ghosts-run g a = record { name = a.blank.name; parts = a.blank.parts }
