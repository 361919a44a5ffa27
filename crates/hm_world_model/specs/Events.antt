-- What may happen to a world, and what it does.
use Rattle.std.specs.Prelude.{ℕ, List, [], ◌∷◌, ◌++◌, drop, Option, Some, None, Bool, not, ◌==◌, is_some, if◌then◌else◌}
use Rattle.std.specs.List.{filter}
use Rattle.hm_names.specs.Server.{Server}
use Rattle.hm_names.specs.declared.nonce.Nonce.{Nonce}
use Rattle.hm_names.specs.declared.pid.Pid.{Pid}
use Rattle.hm_data.specs.declared.call.Call.{Call}
use Rattle.hm_data.specs.declared.call.Peer.{Peer}
use Rattle.hm_data.specs.declared.call.ReportMsg.{ReportMsg}
use Rattle.hm_data.specs.declared.entry.Entry.{Entry}
use Rattle.hm_data.specs.declared.entry.Entry.TheVariants as entry_is
use Rattle.hm_data.specs.declared.request.Request.{Request}
use Rattle.hm_data.specs.declared.sheet.Sheet.{Sheet}
use Rattle.hm_model.specs.Answers.{last_answer}
use Rattle.hm_model.specs.Image.{counted}
use Rattle.hm_world_model.specs.Outside.{armed, delivered, died, report_to, started, with_report, with_sent}
use Rattle.hm_world_model.specs.World.{Claimed, LogFault, JournalFull, World, first, whole}

-- what a master does by itself. An event that is refused, or finds nothing to do, changes nothing and isn't told.
pub data Work : Type 0 where
  Submit : (nonce : Nonce) (request : Request) → Work
  Claim : (claim : Claimed) → Work
  Commit : (claim : Claimed) (entry : Entry) → Work  -- the step, or the undo, of a claimed procedure
  GiveUp : (claim : Claimed) → Work
  Flush : (k : ℕ) → Work  -- the first k entries are durable
  Expire : (server : Server) → Work
  Abort : (pid : Pid) → Work
  Adopt : (sheets : List Sheet) → Work
  Roll : Work  -- all entries are replaced by their image in the master's own journal

-- what becomes of calls and reports
pub data Travel : Type 0 where
  Send : (call : Call) → Travel
  Deliver : (call : Call) → Travel  -- the oldest on the wire, which leaves it
  DeliverAgain : (call : Call) → Travel  -- any that was ever sent
  Hear : (report : ReportMsg) → Travel  -- the oldest that waits, which is recorded and waits no longer
  Ignore : (report : ReportMsg) → Travel  -- the same, which isn't recorded
  HearAgain : (report : ReportMsg) → Travel  -- any that was ever made
  Lose : Travel
  Repeat : Travel
  SendOld : (call : Call) → Travel  -- by a master that was deposed
  DeliverOld : (call : Call) → Travel  -- for it
  Miss : (report : ReportMsg) → Travel  -- the oldest that waits, which a master that was deposed hears in this one's place

-- what becomes of the servers and the storage
pub data Life : Type 0 where
  Start : (server : Server) (older : Option Server) → Life  -- with the older one of its host and port that is live
  Die : (server : Server) → Life
  Arm : (peer : Peer) (count : ℕ) → Life

-- what ends a master
pub data End : Type 0 where
  Fault : (tail : Option Entry) → End
  Full : End
  Stop : (k : ℕ) (rolled : Option ℕ) → End

-- events
pub data Event : Type 0 where
  Works : Work → Event
  Travels : Travel → Event
  Lives : Life → Event
  Ends : End → Event

-- an entry is recorded
abbrev pub with_entry : World → Entry → World
with_entry w entry = record w { past = entry ∷ w.past }

-- a report is recorded
abbrev pub with_heard : World → ReportMsg → World
with_heard w report = with_entry w (entry_is.Report report.call report.told)

-- claims without those of a procedure
abbrev pub unclaimed : List Claimed → ℕ → List Claimed
unclaimed claims p = filter (λ claim. not (claim.pid == p)) claims

-- who holds without a step, and gives it up, holds no longer
abbrev pub untaken : Bool → List ℕ → ℕ → List ℕ
untaken stepped taken p = if stepped then taken else filter (λ q. not (q == p)) taken

-- a call is served, and its report waits
abbrev pub with_delivered : World → Call → World
with_delivered w call =
    record w { waiting = with_report w.waiting (report_to w.outside call); outside = delivered w.outside call }

-- a server that is older went down
abbrev pub with_older_down : Option Server → World → World
with_older_down None w = w
with_older_down (Some older) w = with_entry w (entry_is.Down older)

-- a stop leaves the first k entries of the journal with its tail, rebased as they were, or by a roll that failed, and what is outside
abbrev pub stopped : World → ℕ → Option ℕ → World
stopped w k rolled =
    record w { past = first k (whole w); tail = None; durable = k; taken = []; claimed = []; halted = None; rolled = rolled }

-- the world after a master's work
abbrev pub worked : World → Work → World
worked w (Submit nonce request) = with_entry w (entry_is.Submit nonce request)
worked w (Claim claim) = record w { taken = claim.pid ∷ w.taken; claimed = claim ∷ w.claimed }
worked w (Commit claim entry) = record (with_entry w entry) { claimed = unclaimed w.claimed claim.pid }
worked w (GiveUp claim) =
    record w { taken = untaken (is_some (last_answer w.past claim.pid)) w.taken claim.pid; claimed = unclaimed w.claimed claim.pid }
worked w (Flush k) = record w { durable = k }
worked w (Expire server) = with_entry w (entry_is.Down server)
worked w (Abort pid) = with_entry w (entry_is.Abort pid)
worked w (Adopt sheets) = with_entry w (entry_is.Adopt sheets)
worked w Roll = record w { rolled = Some (counted w.past) }

-- the world after what becomes of calls and reports
abbrev pub travelled : World → Travel → World
travelled w (Send call) = record w { wire = w.wire ++ call ∷ []; outside = with_sent w.outside call }
travelled w (Deliver call) = record (with_delivered w call) { wire = drop 1 w.wire }
travelled w (DeliverAgain call) = with_delivered w call
travelled w (Hear report) = record (with_heard w report) { waiting = drop 1 w.waiting }
travelled w (Ignore report) = record w { waiting = drop 1 w.waiting }
travelled w (HearAgain report) = with_heard w report
travelled w (SendOld call) = record w { wire = w.wire ++ call ∷ []; outside = with_sent w.outside call }
travelled w (DeliverOld call) = record (with_delivered w call) { wire = drop 1 w.wire }
travelled w (Miss report) = record w { waiting = drop 1 w.waiting }
travelled w Lose = record w { wire = []; waiting = [] }
travelled w Repeat = record w { wire = w.wire ++ w.outside.sent; waiting = w.waiting ++ w.outside.reports }

-- the world after what becomes of the servers and the storage
abbrev pub lived : World → Life → World
lived w (Start server older) =
    record (with_entry (with_older_down older w) (entry_is.Up server)) { outside = started w.outside server }
lived w (Die server) = record w { outside = died w.outside server }
lived w (Arm peer count) = record w { outside = armed w.outside peer count }

-- the world after what ends a master
abbrev pub ended_by : World → End → World
ended_by w (Fault tail) = record w { tail = tail; halted = Some LogFault }
ended_by w Full = record w { halted = Some JournalFull }
ended_by w (Stop k rolled) = stopped w k rolled

-- the world after an event
abbrev pub happens : World → Event → World
happens w (Works work) = worked w work
happens w (Travels travel) = travelled w travel
happens w (Lives life) = lived w life
happens w (Ends end) = ended_by w end
