use Rattle.hm_rows_locks.proofs.books.draft_asks_reserve_enlist_draft_lists_take_release_and_holders.Given as goal

abbrev pub ghosts-run : goal.ghosts-run
ghosts-run g a = record { name = a.blank.name; parts = a.blank.parts }
