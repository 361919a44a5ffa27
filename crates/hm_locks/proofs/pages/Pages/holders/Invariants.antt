use Rattle.std.proofs.Common.{◌≡◌, ◌++◌}
use Rattle.std.specs.List.{filter_map}
use Rattle.hm_lists.specs.Chains.{list_at}
use Rattle.hm_locks.proofs.Holders.{pid_at}
use Rattle.hm_locks.proofs.pages.Pages.holders.Given as goal

abbrev pub invariant-loop-place : goal.invariant-loop-place
invariant-loop-place l =
    l.pids.items ++ filter_map (pid_at l.self.entries.items) l.place-iterator ≡ filter_map (pid_at l.self.entries.items) (list_at l.self.held.lists 0)
