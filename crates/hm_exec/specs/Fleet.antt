-- What servers that come and go are answered, and what is left.
use Rattle.std.specs.Prelude.{◌≡◌, ◌⊎◌, ◌+◌, ◌≤◌, Result, Ok, Err, Option, Some, None, true, false}
use Rattle.hm_names.specs.Server.{Server}
use Rattle.hm_names.specs.declared.pid.Pid.{Pid}
use Rattle.hm_data.specs.declared.entry.Entry.{Entry}
use Rattle.hm_data.specs.declared.entry.Entry.TheVariants as entry_is
use Rattle.hm_hall.specs.Recording.{Accepts}
use Rattle.hm_hall.specs.declared.fault.HallFault.{HallFault}
use Rattle.hm_hall.specs.declared.fault.HallFault.TheVariants as fault_is
use Rattle.hm_model.specs.Fleet.{came_up, has_older_live, is_live, same_address}
use Rattle.hm_model.specs.Journal.{Past}
use Rattle.hm_model.specs.Rules.{Allowed}
use Rattle.hm_model.specs.Standings.{MayComeUp, greatest_start, standings_of}
use Rattle.hm_model.specs.Tree.{made}
use Rattle.hm_places.specs.declared.refused.DownRefused.{DownRefused}
use Rattle.hm_places.specs.declared.refused.DownRefused.TheVariants as down_is
use Rattle.hm_places.specs.declared.refused.UpRefused.{UpRefused}
use Rattle.hm_places.specs.declared.refused.UpRefused.TheVariants as up_is
use Rattle.hm_exec.specs.declared.answers.DownWhy.{DownWhy}
use Rattle.hm_exec.specs.declared.answers.DownWhy.TheVariants as down_why
use Rattle.hm_exec.specs.declared.answers.UpWhy.{UpWhy}
use Rattle.hm_exec.specs.declared.answers.UpWhy.TheVariants as up_why
use Rattle.hm_exec.specs.Moment.{FaultsAt, IsAdded, IsGoing, IsHalted, Moment, past_of}

-- why a server can't come up: it is live; or one of its address came up with its start code or a greater one, and this is the
-- greatest
abbrev pub CannotUp : Past → Server → UpRefused → Type 0
CannotUp J server up_is.Known = is_live J server ≡ true
CannotUp J server (up_is.OldStart start) =
    (is_live J server ≡ false) × (start ≡ greatest_start (standings_of J) server) × (server.start ≤ start)
CannotUp J server up_is.Memory = ⊥

-- the server may come up
abbrev pub CanUp : Past → Server → Type 0
CanUp J server = MayComeUp (standings_of J) server

-- this older server of the address is live
abbrev pub IsOlder : Past → Server → Server → Type 0
IsOlder J server older = (is_live J older ≡ true) × (same_address server older ≡ true)

-- the faults of a call that records what it makes a copy of: memory may run out before the recorder is asked
abbrev pub FaultsCopying : Moment → Entry → HallFault → Moment → Type 0
FaultsCopying old entry fault_is.Memory new = IsGoing old × Allowed (past_of old) entry × (new ≡ old)
FaultsCopying old entry fault_is.LogFault new = FaultsAt old entry fault_is.LogFault new
FaultsCopying old entry (fault_is.JournalFull bytes) new = FaultsAt old entry (fault_is.JournalFull bytes) new
FaultsCopying old entry (fault_is.Halted why) new = FaultsAt old entry (fault_is.Halted why) new

-- the older server went down, and its crash has the next number
abbrev pub PutsDown : Moment → Server → Server → Pid → Moment → Type 0
PutsDown old server older pid new =
    IsOlder (past_of old) server older × IsAdded old (entry_is.Down older) new × (pid.0 ≡ made (past_of old) + 1)

-- the faults of a server that comes up before anything is recorded
abbrev pub FaultsFirst : Moment → Server → HallFault → Moment → Type 0
FaultsFirst old server fault new =
    ((has_older_live (past_of old) server ≡ false) × FaultsCopying old (entry_is.Up server) fault new)
    ⊎ ((older : Server) × IsOlder (past_of old) server older × FaultsCopying old (entry_is.Down older) fault new)

-- memory runs out only where what is recorded first would be: the entry of an older server that goes down is as long as this one
abbrev pub RunsOutLast : Moment → Server → HallFault → Type 0
RunsOutLast old server fault = fault ≡ fault_is.Memory → Accepts old.kept (entry_is.Up server)

-- the entry brings a server up
abbrev pub BringsUp : Entry → Type 0
BringsUp entry = (server : Server) × (entry ≡ entry_is.Up server)

-- what `server_up` answers, and what is left: the one exception is that a Down may stand without its Up, where the Up met a fault
abbrev pub AnswersUp : Moment → Server → Result (Option (Server × Pid)) UpWhy → Moment → Type 0
AnswersUp old server (Ok None) new =
    CanUp (past_of old) server × (has_older_live (past_of old) server ≡ false) × IsAdded old (entry_is.Up server) new
AnswersUp old server (Ok (Some (older, pid))) new =
    CanUp (past_of old) server × (between : Moment) × PutsDown old server older pid between × IsAdded between (entry_is.Up server) new
AnswersUp old server (Err (up_why.Up why)) new = IsGoing old × CannotUp (past_of old) server why × (new ≡ old)
AnswersUp old server (Err (up_why.Fault (fault_is.Halted why))) new = IsHalted old why new
AnswersUp old server (Err (up_why.Fault fault)) new =
    CanUp (past_of old) server × (FaultsFirst old server fault new
    ⊎ ((older : Server) × (pid : Pid) × (between : Moment) × PutsDown old server older pid between × FaultsAt between (entry_is.Up server) fault new))
    × RunsOutLast old server fault

-- why a server can't go down: it never came up, or isn't live
abbrev pub CannotDown : Past → Server → DownRefused → Type 0
CannotDown J server down_is.Unknown = came_up J server ≡ false
CannotDown J server down_is.AlreadyDown = (came_up J server ≡ true) × (is_live J server ≡ false)

-- what `server_down` answers, and what is left: the crash has the next number
abbrev pub AnswersDown : Moment → Server → Result Pid DownWhy → Moment → Type 0
AnswersDown old server (Ok pid) new = IsAdded old (entry_is.Down server) new × (pid.0 ≡ made (past_of old) + 1)
AnswersDown old server (Err (down_why.Down why)) new = IsGoing old × CannotDown (past_of old) server why × (new ≡ old)
AnswersDown old server (Err (down_why.Fault (fault_is.Halted why))) new = IsHalted old why new
AnswersDown old server (Err (down_why.Fault fault)) new = (is_live (past_of old) server ≡ true) × FaultsCopying old (entry_is.Down server) fault new
