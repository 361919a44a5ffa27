-- When an event may come, and runs of them.
use Rattle.std.specs.Prelude.{◌≡◌, ◌≢◌, ℕ, ◌≤◌, List, [], ◌∷◌, length, Option, Some, None, true, ◌⊎◌}
use Rattle.hm_names.specs.Server.{Server}
use Rattle.hm_names.specs.declared.pid.Pid.{Pid}
use Rattle.hm_data.specs.declared.call.ReportMsg.{ReportMsg}
use Rattle.hm_data.specs.declared.call.Peer.TheVariants as peer_is
use Rattle.hm_data.specs.declared.call.Told.{Told}
use Rattle.hm_data.specs.declared.entry.Entry.{Entry}
use Rattle.hm_data.specs.declared.entry.Entry.TheVariants as entry_is
use Rattle.hm_model.specs.Base.{IsBegun}
use Rattle.hm_model.specs.Fleet.{same_address}
use Rattle.hm_model.specs.Holding.{IsFree}
use Rattle.hm_model.specs.Image.{counted}
use Rattle.hm_model.specs.Journal.{Past}
use Rattle.hm_model.specs.Locks.{IsIn}
use Rattle.hm_model.specs.Picks.{PicksRight}
use Rattle.hm_model.specs.Rebase.{MayRoll, up_to}
use Rattle.hm_model.specs.Reports.{call_of, peer_of}
use Rattle.hm_model.specs.Rest.{IsAvailable}
use Rattle.hm_model.specs.Rules.{Allowed}
use Rattle.hm_model.specs.Tree.{root_of}
use Rattle.hm_world_model.specs.Events.{End, Event, Life, Travel, Work, Works, Travels, Lives, Ends, Submit, Claim, Commit, GiveUp, Flush, Expire, Abort, Adopt, Roll, Send, Deliver, DeliverAgain, Hear, Ignore, HearAgain, Lose, Repeat, SendOld, DeliverOld, Miss, Start, Die, Arm, Fault, Full, Stop, happens}
use Rattle.hm_world_model.specs.Outside.{Outside, runs}
use Rattle.hm_world_model.specs.World.{Claimed, LogFault, World, claimed_pids, durable_part, whole}
use Rattle.hm_data.specs.declared.call.Call.{Call}

-- the master isn't halted
abbrev pub GoesOn : World → Type 0
GoesOn w = w.halted ≡ None

-- what is recorded may be written: no fault of the log halted the master; one whose journal is full still writes
abbrev pub CanWrite : World → Type 0
CanWrite w = w.halted ≢ Some LogFault

-- an entry may be recorded next
abbrev pub MayEnter : World → Entry → Type 0
MayEnter w entry = GoesOn w × Allowed w.past entry

-- the step of a claimed procedure with the server that was picked, or what undoes one of its tree
abbrev pub IsWork : Past → Claimed → Entry → Type 0
IsWork past claim (entry_is.Step pid pick out) = (pid.0 ≡ claim.pid) × (pick ≡ claim.pick)
IsWork past claim (entry_is.Undo pid row out) = root_of past pid.0 ≡ claim.pid
IsWork past claim entry = ⊥

-- a report of whom was called may be recorded next
abbrev pub MayHear : World → ReportMsg → Type 0
MayHear w report =
    MayEnter w (entry_is.Report report.call report.told) × (peer_of w.past report.call.0 ≡ Some report.from)

-- a report was made with this answer to this call
abbrev pub IsMade : Outside → Pid → Told → Type 0
IsMade o call told = (report : ReportMsg) × IsIn report o.reports × (report.call ≡ call) × (report.told ≡ told)

-- a report is recorded only where it was ever made, and no part of a base
abbrev pub IsTrueReport : Outside → Entry → Type 0
IsTrueReport o (entry_is.Report call told) = IsMade o call told
IsTrueReport o (entry_is.Base part) = ⊥
IsTrueReport o entry = Unit {0}

-- what a fault may leave after the journal: nothing, or an entry that may be recorded next, a report only where it was made
abbrev pub MayLeave : World → Option Entry → Type 0
MayLeave w None = CanWrite w
MayLeave w (Some entry) = MayEnter w entry × IsTrueReport w.outside entry

-- a server may come up, and before it an older one of its host and port that is live goes down
abbrev pub MayStart : World → Server → Option Server → Type 0
MayStart w server None = MayEnter w (entry_is.Up server)
MayStart w server (Some older) =
    (same_address server older ≡ true) × MayEnter w (entry_is.Down older)
    × Allowed (entry_is.Down older ∷ w.past) (entry_is.Up server)

-- all entries can be rolled: nobody is claimed, and the journal is durable, has begun, and its image may take its place
abbrev pub CanRoll : World → Type 0
CanRoll w = (w.claimed ≡ []) × (w.durable ≡ length w.past) × IsBegun w.past × MayRoll w.past

-- a master may work so
abbrev pub MayWork : World → Work → Type 0
MayWork w (Submit nonce request) = MayEnter w (entry_is.Submit nonce request)
MayWork w (Claim claim) =
    GoesOn w × IsAvailable w.past w.taken (claimed_pids w) claim.pid × IsFree w.past w.taken claim.pid
    × PicksRight w.past claim.pid claim.pick
MayWork w (Commit claim entry) = IsIn claim w.claimed × IsWork w.past claim entry × MayEnter w entry
MayWork w (GiveUp claim) = IsIn claim w.claimed
MayWork w (Flush k) = CanWrite w × (w.durable ≤ k) × (k ≤ length w.past)
MayWork w (Expire server) = MayEnter w (entry_is.Down server)
MayWork w (Abort pid) = MayEnter w (entry_is.Abort pid)
MayWork w (Adopt sheets) = MayEnter w (entry_is.Adopt sheets)
MayWork w Roll = GoesOn w × CanRoll w

-- calls and reports may travel so
abbrev pub MayTravel : World → Travel → Type 0
MayTravel w (Send call) =
    GoesOn w × (call_of (durable_part w) call.id.0 ≡ Some call) × (runs w.outside call.peer ≡ true)
MayTravel w (Deliver call) = GoesOn w × ((rest : List Call) × (w.wire ≡ call ∷ rest))
MayTravel w (DeliverAgain call) = GoesOn w × IsIn call w.outside.sent
MayTravel w (Hear report) = MayHear w report × ((rest : List ReportMsg) × (w.waiting ≡ report ∷ rest))
MayTravel w (Ignore report) = GoesOn w × ((rest : List ReportMsg) × (w.waiting ≡ report ∷ rest)) × (MayHear w report → ⊥)
MayTravel w (HearAgain report) = MayHear w report × IsIn report w.outside.reports
MayTravel w (SendOld call) = (call_of (durable_part w) call.id.0 ≡ Some call) × (runs w.outside call.peer ≡ true)
MayTravel w (DeliverOld call) = (rest : List Call) × (w.wire ≡ call ∷ rest)
MayTravel w (Miss report) = (rest : List ReportMsg) × (w.waiting ≡ report ∷ rest)
MayTravel w Lose = Unit {0}
MayTravel w Repeat = GoesOn w

-- so may servers and the storage
abbrev pub MayLive : World → Life → Type 0
MayLive w (Start server older) = MayStart w server older
MayLive w (Die server) = runs w.outside (peer_is.Server server) ≡ true
MayLive w (Arm peer count) = GoesOn w × (runs w.outside peer ≡ true)

-- so many entries of a journal, which has begun, may have been rolled
pub record IsRolledIn (J : Past) (r : ℕ) : Type 0 where
  pub begun : IsBegun J
  pub within : r ≤ counted J
  pub front : IsBegun (up_to J r)
  pub may : MayRoll (up_to J r)

-- a roll of so many entries may have failed, and come through all the same: the log failed and left no entry, and all entries,
-- which are so many, can be rolled
pub record HasFailedToRoll (w : World) (r : ℕ) : Type 0 where
  pub failed : w.halted ≡ Some LogFault
  pub tailless : w.tail ≡ None
  pub can : CanRoll w
  pub all : r ≡ counted w.past

-- a stop may leave a journal that is rebased so: as it was, or by a roll that failed
abbrev pub MayBeRolled : World → Option ℕ → Type 0
MayBeRolled w rolled = (rolled ≡ w.rolled) ⊎ ((r : ℕ) × (rolled ≡ Some r) × HasFailedToRoll w r)

-- a master may end so
abbrev pub MayEnd : World → End → Type 0
MayEnd w (Fault tail) = MayLeave w tail
MayEnd w Full = GoesOn w
MayEnd w (Stop k rolled) = (w.durable ≤ k) × (k ≤ length (whole w)) × MayBeRolled w rolled

-- an event may come. While the master is halted only those that need nothing recorded: giving up; what a deposed master sends, has
-- delivered or takes; loss; a server's death; a stop; and while the journal is full, but the log hasn't failed, a flush, and a
-- fault that leaves no entry.
abbrev pub May : World → Event → Type 0
May w (Works work) = MayWork w work
May w (Travels travel) = MayTravel w travel
May w (Lives life) = MayLive w life
May w (Ends end) = MayEnd w end

-- a world after events, of which the newest stands first
abbrev pub after : World → List Event → World
after w [] = w
after w (event ∷ before) = happens (after w before) event

-- each event could come where it came
abbrev pub IsRun : World → List Event → Type 0
IsRun w [] = Unit {0}
IsRun w (event ∷ before) = IsRun w before × May (after w before) event
