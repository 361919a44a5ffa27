-- What holds of those who are claimed, after every list of events.
use Rattle.std.specs.Prelude.{List}
use Rattle.hm_model.specs.Holding.{NoneClash}
use Rattle.hm_model.specs.Journal.{Past}
use Rattle.hm_model.specs.Rules.{IsLegal}
use Rattle.hm_world_model.specs.Claims.{AreOnce}
use Rattle.hm_world_model.specs.Events.{Event}
use Rattle.hm_world_model.specs.Runs.{IsRun, after}
use Rattle.hm_world_model.specs.World.{claimed_pids, opened}

-- no procedure is claimed twice at a time
abbrev pub ClaimedOnce : Type 0
ClaimedOnce = (J : Past) → IsLegal J → (events : List Event) → IsRun (opened J) events → AreOnce (claimed_pids (after (opened J) events))

-- no two procedures that hold conflict, those that were claimed too
abbrev pub NeverClash : Type 0
NeverClash =
    (J : Past) → IsLegal J → (events : List Event) → IsRun (opened J) events
    → NoneClash (after (opened J) events).past (after (opened J) events).taken
