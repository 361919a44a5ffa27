use Rattle.hm_server.specs.Actors.{storage_of}
use Rattle.hm_world.specs.Shown.{IsFencedBut}
use Rattle.hm_world.proofs.shown.with_fences.Given as goal

abbrev pub invariant-loop-server : goal.invariant-loop-server
invariant-loop-server l = record { fences : IsFencedBut l.state.past l.server-iterator (storage_of l.storage) }
