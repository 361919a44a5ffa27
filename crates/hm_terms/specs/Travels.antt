-- Which calls a journal reports, and that what travelled brought their reports.
use Rattle.std.specs.Prelude.{◌≡◌, ◌⊎◌, ℕ, List, [], ◌∷◌}
use Rattle.hm_data.specs.declared.call.Call.{Call}
use Rattle.hm_data.specs.declared.call.ReportMsg.{ReportMsg}
use Rattle.hm_data.specs.declared.entry.Entry.TheVariants as entry_is
use Rattle.hm_model.specs.Journal.{Past}
use Rattle.hm_model.specs.Locks.{IsIn}
use Rattle.hm_world_model.specs.Outside.{Outside}
use Rattle.hm_world.specs.Scene.{Scene, past_in}
use Rattle.hm_world.specs.Sound.{IsSent}

-- the calls that a journal reports, one for each of its reports
abbrev pub reported_in : Past → List ℕ
reported_in [] = []
reported_in (entry_is.Report call told ∷ before) = call.0 ∷ reported_in before
reported_in (entry_is.Base part ∷ before) = []
reported_in (entry ∷ before) = reported_in before

-- each report ever made is of a call that was sent; and each that is recorded was recorded before, or made
pub record HasTravelled (before recorded : List ℕ) (wire : List Call) (waiting : List ReportMsg) (o : Outside) : Type 0 where
  pub sent : IsSent wire waiting o
  pub made : (report : ReportMsg) → IsIn report o.reports → (call : Call) × IsIn call o.sent × (report.call ≡ call.id)
  pub heard : (p : ℕ) → IsIn p recorded → IsIn p before ⊎ ((report : ReportMsg) × IsIn report o.reports × (p ≡ report.call.0))

-- so it is in a scene, where these calls were reported when the journal was opened
abbrev pub Travelled : List ℕ → Scene → Type 0
Travelled before at = HasTravelled before (reported_in (past_in at)) at.wire at.waiting at.outside
