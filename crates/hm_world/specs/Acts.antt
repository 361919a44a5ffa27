-- What an event does, and why it is refused.
use Rattle.std.specs.Prelude.{◌≡◌, ◌⊎◌, ℕ, ◌+◌, ◌++◌, [], length, Bool, Option, Result, Ok, Err, true, false}
use Rattle.hm_names.specs.Server.{Server}
use Rattle.hm_names.specs.declared.pid.Pid.{Pid}
use Rattle.hm_data.specs.declared.call.Peer.{Peer}
use Rattle.hm_data.specs.declared.call.Peer.TheVariants as peer_is
use Rattle.hm_hall.specs.declared.fault.Halt.{Halt}
use Rattle.hm_hall.specs.declared.fault.HallFault.{HallFault}
use Rattle.hm_hall.specs.declared.fault.HallFault.TheVariants as fault_is
use Rattle.hm_exec.specs.declared.answers.UpWhy.{UpWhy}
use Rattle.hm_exec.specs.declared.answers.UpWhy.TheVariants as up_why
use Rattle.hm_exec.specs.Fleet.{AnswersUp, CanUp}
use Rattle.hm_exec.specs.Moment.{IsHalted, past_of}
use Rattle.hm_world_model.specs.Outside.{armed, died, runs, started}
use Rattle.hm_world.specs.Carrying.{OnlyExec}
use Rattle.hm_world.specs.Scene.{GoesOn, Scene}

-- memory ran out for a server that may come up, before the executor was asked
abbrev pub LacksMemory : Scene → Server → Scene → Type 0
LacksMemory old server new = GoesOn old × CanUp (past_of old.exec) server × (new.exec ≡ old.exec)

-- a server comes up, and runs from then on, in place of any other of its host and port; a refusal starts none, and leaves those that
-- run, also where an older one went down first
abbrev pub Starts : Scene → Server → Result (Option (Server × Pid)) UpWhy → Scene → Type 0
Starts old server (Ok down) new =
    AnswersUp old.exec server (Ok down) new.exec × (new ≡ record old { exec = new.exec; outside = started old.outside server })
Starts old server (Err (up_why.Fault fault_is.Memory)) new =
    (AnswersUp old.exec server (Err (up_why.Fault fault_is.Memory)) new.exec ⊎ LacksMemory old server new)
    × OnlyExec old new
Starts old server (Err why) new = AnswersUp old.exec server (Err why) new.exec × OnlyExec old new

-- whether a server of this name ran: it runs no longer
abbrev pub Dies : Scene → Server → Bool → Scene → Type 0
Dies old server true new = (runs old.outside (peer_is.Server server) ≡ true) × (new ≡ record old { outside = died old.outside server })
Dies old server false new = (runs old.outside (peer_is.Server server) ≡ false) × (new ≡ old)

-- whether a peer runs, where nothing halted the world: it is to refuse so often
abbrev pub Arms : Scene → Peer → ℕ → Result Bool Halt → Scene → Type 0
Arms old peer count (Ok true) new = GoesOn old × (runs old.outside peer ≡ true) × (new ≡ record old { outside = armed old.outside peer count })
Arms old peer count (Ok false) new = GoesOn old × (runs old.outside peer ≡ false) × (new ≡ old)
Arms old peer count (Err why) new = IsHalted old.exec why new.exec × OnlyExec old new

-- all that travels is lost, halted or not
abbrev pub Loses : Scene → ℕ → Scene → Type 0
Loses old lost new = (lost ≡ length old.wire + length old.waiting) × (new ≡ record old { wire = []; waiting = [] })

-- each call ever sent is on the wire once more, and each report ever made waits once more
abbrev pub Repeats : Scene → Result ℕ HallFault → Scene → Type 0
Repeats old (Ok repeated) new =
    GoesOn old × (let o = old.outside in (repeated ≡ length o.sent + length o.reports)
    × (new ≡ record old { wire = old.wire ++ o.sent; waiting = old.waiting ++ o.reports }))
Repeats old (Err (fault_is.Halted why)) new = IsHalted old.exec why new.exec × OnlyExec old new
Repeats old (Err fault_is.Memory) new = GoesOn old × (new ≡ old)
Repeats old (Err fault) new = ⊥
