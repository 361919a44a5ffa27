-- That calls come to an end: an open one is answered, and its answer is recorded.
use Rattle.std.specs.Prelude.{◌≡◌, ◌≢◌, ℕ, ◌≤◌, Some, true, false}
use Rattle.hm_names.specs.Region.{Region}
use Rattle.hm_names.specs.Server.{Server}
use Rattle.hm_data.specs.declared.call.Call.{Call}
use Rattle.hm_data.specs.declared.call.ReportMsg.{ReportMsg}
use Rattle.hm_model.specs.Journal.{Past}
use Rattle.hm_model.specs.Locks.{IsIn}
use Rattle.hm_model.specs.Phase.{ended}
use Rattle.hm_model.specs.Reports.{call_of, is_settled, last_call, peer_of}
use Rattle.hm_model.specs.Rules.{FitsCall, IsLegal, IsOutstanding}
use Rattle.hm_world_model.specs.Outside.{report_to, runs}
use Rattle.hm_world_model.specs.Safe.{CallsTo, IsKept}
use Rattle.hm_world_model.specs.World.{World}

-- a call is recorded, and isn't settled
abbrev pub IsOpen : Past → Call → Type 0
IsOpen J call = (call_of J call.id.0 ≡ Some call) × (is_settled J call.id.0 ≡ false)

-- calls about a region have rising ids, and all but the last are of procedures that have ended
abbrev pub EarlierHaveEnded : Type 0
EarlierHaveEnded =
    (J : Past) → IsLegal J → (p : ℕ) (region : Region) (server : Server) → CallsTo J p region server
    → (last : ℕ) × (last_call J region ≡ Some last) × (p ≤ last) × (p ≢ last → ended J p ≡ true)

-- an open call is answered when it is delivered, where who is called runs
abbrev pub OpenIsAnswered : Type 0
OpenIsAnswered =
    (w : World) → IsKept w → (call : Call) → IsOpen w.past call → runs w.outside call.peer ≡ true
    → (report : ReportMsg) × (report_to w.outside call ≡ Some report) × (report.call ≡ call.id)

-- a report of a call that isn't settled is never ignored: the call is there, its answer fits, and it is from whom was called
abbrev pub ReportsAreHeard : Type 0
ReportsAreHeard =
    (w : World) → IsKept w → (report : ReportMsg) → IsIn report w.outside.reports → is_settled w.past report.call.0 ≡ false
    → IsOutstanding w.past report.call.0 × FitsCall w.past report.call.0 report.told
    × (peer_of w.past report.call.0 ≡ Some report.from)
