use Rattle.std.proofs.Common.{◌≡◌, ◌≤◌, length, drop}
use Rattle.hm_names.specs.Server.{Server}
use Rattle.hm_hbck.specs.Findings.{running}
use Rattle.hm_hbck.specs.Found.{running_in}
use Rattle.hm_hbck.proofs.crew.crew_of.Given as goal

abbrev pub invariant-loop-at : goal.invariant-loop-at
invariant-loop-at l = record {
  crew : (server : Server) → running_in (λ actor. actor.now) l.crew.pairs server ≡ running (drop l.at l.actors) server;
  within : l.at ≤ length l.actors;
}

abbrev pub decreases-loop-at : goal.decreases-loop-at
decreases-loop-at l = l.at
