use Rattle.std.specs.Prelude.{◌≡◌}
use Rattle.hm_server.specs.Actors.{storage_of}
use Rattle.hm_world.specs.Shown.{shown_below}
use Rattle.hm_world.proofs.shown.storage_shown.Given as goal

abbrev pub invariant-loop-pid : goal.invariant-loop-pid
invariant-loop-pid l = record { below : storage_of l.storage ≡ shown_below l.state.past l.pid }
