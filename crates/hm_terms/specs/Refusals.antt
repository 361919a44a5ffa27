-- Who refused how often, and how often each was told to.
use Rattle.std.specs.Prelude.{◌≡◌, ◌≤◌, ◌+◌, ℕ, List, [], ◌∷◌, length, Option, Some, None, Bool, true, false, ◌&&◌, if◌then◌else◌}
use Rattle.hm_names.specs.Region.{Region}
use Rattle.hm_names.specs.Server.{Server}
use Rattle.hm_names.specs.declared.pid.Pid.{Pid}
use Rattle.hm_data.specs.declared.call.Peer.{Peer}
use Rattle.hm_data.specs.declared.call.Peer.TheVariants as peer_is
use Rattle.hm_data.specs.declared.call.ReportMsg.{ReportMsg}
use Rattle.hm_data.specs.declared.call.Told.{Told}
use Rattle.hm_data.specs.declared.call.Told.TheVariants as told_is
use Rattle.hm_data.specs.declared.entry.Entry.TheVariants as entry_is
use Rattle.hm_model.specs.Actors.{Actor, Served}
use Rattle.hm_model.specs.Fleet.{same_server}
use Rattle.hm_model.specs.Journal.{Past}
use Rattle.hm_model.specs.Locks.{IsIn}
use Rattle.hm_model.specs.Reports.{peer_of}
use Rattle.hm_script.specs.declared.command.Command.{Command}
use Rattle.hm_script.specs.declared.command.Command.TheVariants as command_is
use Rattle.hm_world_model.specs.Outside.{Outside}
use Rattle.hm_world.specs.Scene.{Scene, past_in}
use Rattle.hm_commands.specs.declared.answer.Answer.{Answer}
use Rattle.hm_commands.specs.declared.answer.Answer.TheVariants as answer_is

-- an answer that refuses what was asked: a region wasn't opened, a layout not made
abbrev pub is_refusal : Told → Bool
is_refusal told_is.FailedOpen = true
is_refusal told_is.Refused = true
is_refusal told = false

-- this one is who was called
abbrev pub is_called : Peer → Option Peer → Bool
is_called (peer_is.Server server) (Some (peer_is.Server other)) = same_server server other
is_called peer_is.Storage (Some peer_is.Storage) = true
is_called peer called = false

-- the calls that this one refused, as the reports of a journal have it
abbrev pub refused_by : Peer → Past → List ℕ
refused_by peer [] = []
refused_by peer (entry_is.Report call told ∷ before) =
    if is_refusal told && is_called peer (peer_of before call.0) then call.0 ∷ refused_by peer before else refused_by peer before
refused_by peer (entry_is.Base part ∷ before) = []
refused_by peer (entry ∷ before) = refused_by peer before

-- how often a command that was answered so lets this one refuse
abbrev pub granted : Peer → Command → Option Answer → ℕ
granted peer (command_is.Refuse server count) (Some answer_is.Armed) = if is_called peer (Some (peer_is.Server server)) then count else 0
granted peer (command_is.RefuseStorage count) (Some answer_is.Armed) = if is_called peer (Some peer_is.Storage) then count else 0
granted peer command answer = 0

-- how often commands with these answers do
abbrev pub granted_by : Peer → List Command → List Answer → ℕ
granted_by peer (command ∷ commands) (answer ∷ answers) = granted peer command (Some answer) + granted_by peer commands answers
granted_by peer commands answers = 0

-- how often a server, if it runs, is to refuse
abbrev pub left_if : Option Actor → ℕ
left_if None = 0
left_if (Some actor) = actor.refusals

-- how often this one is to refuse now
abbrev pub refusals_left : Outside → Peer → ℕ
refusals_left o (peer_is.Server server) = left_if (o.actors server)
refusals_left o peer_is.Storage = let storage = o.storage in storage.refusals

-- this one would answer a call with a refusal once more
abbrev pub RefusesAgain : Outside → Peer → ℕ → Type 0
RefusesAgain o (peer_is.Server server) p =
    (actor : Actor) × (region : Region) × (last : Served)
    × (o.actors server ≡ Some actor) × (actor.last region ≡ Some last) × (is_refusal last.told ≡ true) × (p ≡ last.id.0)
RefusesAgain o peer_is.Storage p =
    (id : Pid) × (told : Told) × (let storage = o.storage in storage.answer id ≡ Some told) × (is_refusal told ≡ true) × (p ≡ id.0)

-- a report that this one refused
abbrev pub IsRefusalOf : Peer → ReportMsg → Type 0
IsRefusalOf peer report = (report.from ≡ peer) × (is_refusal report.told ≡ true)

-- what is outside keeps this one to so many refusals in all: it refused these calls alone, and is to refuse the rest at most
pub record KeepsTo (peer : Peer) (n : ℕ) (calls : List ℕ) (o : Outside) : Type 0 where
  pub named : (server : Server) (actor : Actor) → o.actors server ≡ Some actor → actor.name ≡ server
  pub made : (report : ReportMsg) → IsIn report o.reports → IsRefusalOf peer report → IsIn report.call.0 calls
  pub again : (p : ℕ) → RefusesAgain o peer p → IsIn p calls
  pub few : length calls + refusals_left o peer ≤ n

-- so does a scene: what waits was reported, and what the journal reports is among these calls
pub record IsWithin (peer : Peer) (n : ℕ) (at : Scene) : Type 0 where
  pub calls : List ℕ
  pub keeps : KeepsTo peer n calls at.outside
  pub waiting_is : (let o = at.outside in (report : ReportMsg) → IsIn report at.waiting → IsIn report o.reports)
  pub recorded : (p : ℕ) → IsIn p (refused_by peer (past_in at)) → IsIn p calls
