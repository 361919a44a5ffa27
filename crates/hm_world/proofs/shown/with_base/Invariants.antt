use Rattle.std.proofs.Common.{◌≡◌, take}
use Rattle.hm_server.specs.Actors.{storage_of}
use Rattle.hm_world.specs.Shown.{laid_among, with_laid}
use Rattle.hm_world.proofs.shown.with_base.Given as goal

abbrev pub invariant-loop-root : goal.invariant-loop-root
invariant-loop-root l = record { laid : storage_of l.storage ≡ with_laid l.state.past (laid_among (take l.root-index l.root-items)) }
