-- What becomes of each command: what it is answered, unless memory runs out, and what it leaves.
use Rattle.std.specs.Prelude.{◌≡◌, ◌≢◌, ◌⊎◌, ◌<◌, ◌≤◌, ℕ, List, Bool, Option, Some, None, Result, MatchOption}
use Rattle.hm_names.specs.Region.{Region}
use Rattle.hm_names.specs.Server.{Server}
use Rattle.hm_names.specs.declared.nonce.Nonce.{Nonce}
use Rattle.hm_names.specs.declared.pid.Pid.{Pid}
use Rattle.hm_data.specs.declared.call.Peer.{Peer}
use Rattle.hm_data.specs.declared.call.Peer.TheVariants as peer_is
use Rattle.hm_data.specs.declared.entry.Entry.{Entry}
use Rattle.hm_data.specs.declared.entry.Entry.TheVariants as entry_is
use Rattle.hm_data.specs.declared.request.Request.{Request}
use Rattle.hm_data.specs.declared.request.Request.TheVariants as request_is
use Rattle.hm_hall.specs.declared.fault.Halt.{Halt}
use Rattle.hm_hall.specs.declared.fault.HallFault.{HallFault}
use Rattle.hm_model.specs.Image.{counted}
use Rattle.hm_model.specs.Records.{unfinished}
use Rattle.hm_refusals.specs.declared.aborts.AbortRefused.{AbortRefused}
use Rattle.hm_script.specs.declared.command.Command.{Command}
use Rattle.hm_script.specs.declared.command.Command.TheVariants as command_is
use Rattle.hm_show.specs.Locks.{locks_table}
use Rattle.hm_show.specs.Procs.{procs_json, procs_table}
use Rattle.hm_show.specs.Regions.{regions_table}
use Rattle.hm_show.specs.Servers.{servers_table}
use Rattle.hm_exec.specs.Fleet.{AnswersDown}
use Rattle.hm_exec.specs.Submitting.{AnswersAbort}
use Rattle.hm_exec.specs.declared.answers.DownWhy.{DownWhy}
use Rattle.hm_exec.specs.declared.answers.UpWhy.{UpWhy}
use Rattle.hm_world.specs.Acts.{Arms, Dies, Loses, Repeats, Starts}
use Rattle.hm_world.specs.Carrying.{OnlyExec}
use Rattle.hm_world.specs.Scene.{Scene, past_in}
use Rattle.hm_commands.specs.Balancing.{Balances, no_nonce}
use Rattle.hm_commands.specs.Scenes.{halt_at}
use Rattle.hm_commands.specs.Submissions.{Submits}
use Rattle.hm_commands.specs.Tasks.{Breaks, IsDone, LacksMemory, Tasks}
use Rattle.hm_commands.specs.Telling.{told_abort, told_arming, told_death, told_down, told_repeat, told_up}
use Rattle.hm_commands.specs.declared.answer.Answer.{Answer}
use Rattle.hm_commands.specs.declared.answer.Answer.TheVariants as answer_is

-- what a command that submits asks for, and under which nonce
abbrev pub asked : Command → Option (Nonce × Request)
asked (command_is.Namespace nonce ns) = Some (nonce, request_is.CreateNamespace ns)
asked (command_is.DropNamespace nonce ns) = Some (nonce, request_is.DropNamespace ns)
asked (command_is.Create nonce table keys) = Some (nonce, request_is.CreateTable table keys)
asked (command_is.Delete nonce table) = Some (nonce, request_is.DeleteTable table)
asked (command_is.Enable nonce table) = Some (nonce, request_is.EnableTable table)
asked (command_is.Disable nonce table) = Some (nonce, request_is.DisableTable table)
asked (command_is.Modify nonce table version) = Some (nonce, request_is.ModifyTable table version)
asked (command_is.Split nonce region key) = Some (nonce, request_is.SplitRegion region key)
asked (command_is.Merge nonce regions) = Some (nonce, request_is.MergeRegions regions)
asked (command_is.Move nonce region to) = Some (nonce, request_is.Move region to)
asked command = None

-- a root is aborted
abbrev pub Aborts : Pid → Scene → Option Answer → Scene → Type 0
Aborts pid old answer new =
    (result : Result Bool AbortRefused) × AnswersAbort old.exec pid result new.exec × OnlyExec old new × (answer ≡ told_abort (past_in old) pid result)

-- a server comes up
abbrev pub ComesUp : Server → Scene → Option Answer → Scene → Type 0
ComesUp server old answer new = (result : Result (Option (Server × Pid)) UpWhy) × Starts old server result new × (answer ≡ told_up server result)

-- a server is held to be dead
abbrev pub Expires : Server → Scene → Option Answer → Scene → Type 0
Expires server old answer new =
    (result : Result Pid DownWhy) × AnswersDown old.exec server result new.exec × OnlyExec old new × (answer ≡ told_down server result)

-- a server dies
abbrev pub Kills : Server → Scene → Option Answer → Scene → Type 0
Kills server old answer new = (ran : Bool) × Dies old server ran new × (answer ≡ told_death server ran)

-- who is called is to refuse so often
abbrev pub Refuses : Peer → ℕ → Scene → Option Answer → Scene → Type 0
Refuses peer count old answer new = (result : Result Bool Halt) × Arms old peer count result new × (answer ≡ told_arming result)

-- all that travels is lost
abbrev pub LosesAll : Scene → Option Answer → Scene → Type 0
LosesAll old answer new = (lost : ℕ) × Loses old lost new × (answer ≡ Some (answer_is.Lost lost))

-- all that ever travelled does so once more
abbrev pub RepeatsAll : Scene → Option Answer → Scene → Type 0
RepeatsAll old answer new = (result : Result ℕ HallFault) × Repeats old result new × (answer ≡ told_repeat result)

-- so many tasks are done, or fewer where nothing is left then; the task that would have come next halts the run, or lacks memory
abbrev pub WorksFor : ℕ → Scene → Option Answer → Scene → Type 0
WorksFor most old (Some (answer_is.Stepped count at)) new =
    Tasks count old new × (count ≤ most) × (count < most → IsDone new) × (at ≡ counted (past_in new))
WorksFor most old (Some (answer_is.Halted why)) new = (count : ℕ) × (mid : Scene) × Tasks count old mid × (count < most) × Breaks mid why new
WorksFor most old (Some answer) new = ⊥
WorksFor most old None new = (count : ℕ) × (mid : Scene) × Tasks count old mid × (count < most) × LacksMemory mid new

-- nothing is left to do after some tasks, and so many roots haven't ended
abbrev pub Rests : Scene → ℕ → Scene → Type 0
Rests old roots new = ((count : ℕ) × Tasks count old new) × IsDone new × (roots ≡ unfinished (past_in new))

-- tasks are done until nothing is left; the one that would have come next halts the run, or lacks memory
abbrev pub Settles : Scene → Option Answer → Scene → Type 0
Settles old (Some (answer_is.Settled at)) new = Rests old 0 new × (at ≡ counted (past_in new))
Settles old (Some (answer_is.Waiting at roots)) new = Rests old roots new × (roots ≢ 0) × (at ≡ counted (past_in new))
Settles old (Some (answer_is.Halted why)) new = (count : ℕ) × (mid : Scene) × Tasks count old mid × Breaks mid why new
Settles old (Some answer) new = ⊥
Settles old None new = (count : ℕ) × (mid : Scene) × Tasks count old mid × LacksMemory mid new

-- it is a table of this text, unless memory ran out
abbrev pub IsTable : List ℕ → Option Answer → Type 0
IsTable text (Some (answer_is.Table table)) = table.items ≡ text
IsTable text (Some answer) = ⊥
IsTable text None = Unit {0}

-- a table is shown, and nothing changes
abbrev pub Shows : List ℕ → Scene → Option Answer → Scene → Type 0
Shows text old answer new = IsTable text answer × (new ≡ old)

-- what becomes of a command that asks for nothing under a nonce
abbrev pub ComesOther : Command → Scene → Option Answer → Scene → Type 0
ComesOther (command_is.Abort pid) old answer new = Aborts pid old answer new
ComesOther (command_is.Server server) old answer new = ComesUp server old answer new
ComesOther (command_is.Die server) old answer new = Kills server old answer new
ComesOther (command_is.Expire server) old answer new = Expires server old answer new
ComesOther (command_is.Refuse server count) old answer new = Refuses (peer_is.Server server) count old answer new
ComesOther (command_is.RefuseStorage count) old answer new = Refuses peer_is.Storage count old answer new
ComesOther (command_is.Step count) old answer new = WorksFor count old answer new
ComesOther command_is.Settle old answer new = Settles old answer new
ComesOther command_is.Lose old answer new = LosesAll old answer new
ComesOther command_is.Repeat old answer new = RepeatsAll old answer new
ComesOther command_is.Balance old answer new = Balances old answer new
ComesOther command_is.Procs old answer new = Shows (procs_table (past_in old)) old answer new
ComesOther command_is.ProcsJson old answer new = Shows (procs_json (past_in old)) old answer new
ComesOther command_is.Regions old answer new = Shows (regions_table (past_in old)) old answer new
ComesOther command_is.Locks old answer new = Shows (locks_table (past_in old)) old answer new
ComesOther command_is.Servers old answer new = Shows (servers_table (past_in old)) old answer new
ComesOther command old answer new = ⊥

-- what becomes of a command where nothing halts the run
abbrev pub ComesAt : Command → Scene → Option Answer → Scene → Type 0
ComesAt command old answer new = MatchOption (asked command) (ComesOther command old answer new) (λ ask. Submits ask.0 ask.1 old answer new)

-- what becomes of a command: while the run is halted each is told so, and does nothing
abbrev pub Comes : Command → Scene → Option Answer → Scene → Type 0
Comes command old answer new = MatchOption (halt_at old) (ComesAt command old answer new) (λ why. (answer ≡ Some (answer_is.Halted why)) × (new ≡ old))

-- from old, the command may have this answer, and then new is left
abbrev pub Answers : Command → Scene → Answer → Scene → Type 0
Answers command old answer new = Comes command old (Some answer) new

-- from old, memory ran out for the command, and new is left
abbrev pub IsUnanswered : Command → Scene → Scene → Type 0
IsUnanswered command old new = Comes command old None new

-- a step, what undoes one, or a report
abbrev pub IsWork : Entry → Type 0
IsWork (entry_is.Step pid pick out) = Unit {0}
IsWork (entry_is.Undo pid row out) = Unit {0}
IsWork (entry_is.Report call told) = Unit {0}
IsWork entry = ⊥

-- a move of a region to a server, under no nonce
abbrev pub IsMove : Entry → Type 0
IsMove entry = (region : Region) × (to : Server) × (entry ≡ entry_is.Submit no_nonce (request_is.Move region (Some to)))

-- the entries that a command which submits nothing of its own may add
abbrev pub OtherMayAdd : Command → Entry → Type 0
OtherMayAdd (command_is.Abort pid) entry = entry ≡ entry_is.Abort pid
OtherMayAdd (command_is.Server server) entry = (entry ≡ entry_is.Up server) ⊎ ((older : Server) × (entry ≡ entry_is.Down older))
OtherMayAdd (command_is.Expire server) entry = entry ≡ entry_is.Down server
OtherMayAdd (command_is.Step count) entry = IsWork entry
OtherMayAdd command_is.Settle entry = IsWork entry
OtherMayAdd command_is.Balance entry = IsMove entry
OtherMayAdd command entry = ⊥

-- the entries that a command may add, answered or not
abbrev pub MayAdd : Command → Entry → Type 0
MayAdd command entry = MatchOption (asked command) (OtherMayAdd command entry) (λ ask. entry ≡ entry_is.Submit ask.0 ask.1)
