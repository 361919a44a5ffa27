use Rattle.std.proofs.Common.{◌≡◌, ℕ, length, ◌⊎◌}
use Rattle.std.specs.Prelude.{◌↔◌}
use Rattle.hm_lists.specs.Chains.{IsIn, list_at}
use Rattle.hm_locks.specs.Kept.{IsAmong}
use Rattle.hm_locks.proofs.seats.seat.Given as goal

abbrev pub invariant-loop-done : goal.invariant-loop-done
invariant-loop-done l = record {
  lists : (k n : ℕ) → IsIn n (list_at l.lists.lists k) ↔ (IsIn n (list_at l.fn.lists.lists k) ⊎ IsAmong l.wants l.first l.done k n);
  count : length l.lists.lists ≡ length l.fn.lists.lists;
  spare : l.lists.spare ≡ l.fn.lists.spare;
  room : l.lists.room ≡ l.fn.lists.room;
}

abbrev pub ghosts-link : goal.ghosts-link
ghosts-link a = record { name = a.blank.name; parts = a.blank.parts }
