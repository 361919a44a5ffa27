-- What the calls of the executor do to what is recorded: nothing, or an entry that may follow is recorded or refused.
use Rattle.std.proofs.Common.{◌≡◌, ◌⊎◌, ℕ, Bool, true, false, None, Option, Some, Result, Ok, Err, refl, ap, inl, inr}
use Rattle.hm_names.specs.Server.{Server}
use Rattle.hm_names.specs.declared.nonce.Nonce.{Nonce}
use Rattle.hm_names.specs.declared.pid.Pid.{Pid}
use Rattle.hm_data.specs.declared.call.ReportMsg.{ReportMsg}
use Rattle.hm_data.specs.declared.entry.Entry.{Entry}
use Rattle.hm_data.specs.declared.entry.Entry.TheVariants as entry_is
use Rattle.hm_data.specs.declared.request.Request.{Request}
use Rattle.hm_hall.specs.Recording.{Recording, Records}
use Rattle.hm_hall.specs.declared.fault.HallFault.{HallFault}
use Rattle.hm_hall.specs.declared.fault.HallFault.TheVariants as fault_is
use Rattle.hm_hall.specs.declared.fault.RecordFault.{RecordFault}
use Rattle.hm_hall.specs.declared.fault.RecordFault.TheVariants as record_is
use Rattle.hm_model.specs.Base.{IsBegun}
use Rattle.hm_model.specs.Journal.{back}
use Rattle.hm_model.specs.Laws.{is_part}
use Rattle.hm_model.specs.Rules.{Allowed}
use Rattle.hm_refusals.specs.declared.aborts.AbortRefused.{AbortRefused}
use Rattle.hm_refusals.specs.declared.aborts.AbortRefused.TheVariants as abort_is
use Rattle.hm_refusals.specs.declared.submissions.Refused.{Refused}
use Rattle.hm_refusals.specs.declared.submissions.Refused.TheVariants as refused_is
use Rattle.hm_exec.specs.Fleet.{AnswersDown, AnswersUp, FaultsCopying, FaultsFirst, PutsDown}
use Rattle.hm_exec.specs.Hearing.{AnswersReport, report_entry}
use Rattle.hm_exec.specs.Moment.{FaultsAt, IsAdded, IsFault, Moment, past_of}
use Rattle.hm_world_model.specs.Measure.{calls_made}
use Rattle.hm_world_model.specs.Outside.{Outside}
use Rattle.hm_world_model.specs.Runs.{IsTrueReport}
use Rattle.hm_exec.specs.Submitting.{AnswersAbort, AnswersSubmit, IsWelcome}
use Rattle.hm_exec.specs.declared.answers.Accepted.{Accepted}
use Rattle.hm_exec.specs.declared.answers.DownWhy.{DownWhy}
use Rattle.hm_exec.specs.declared.answers.DownWhy.TheVariants as down_why
use Rattle.hm_exec.specs.declared.answers.UpWhy.{UpWhy}
use Rattle.hm_exec.specs.declared.answers.UpWhy.TheVariants as up_why
use Rattle.hm_exec.specs.declared.answers.Heard.{Heard}
use Rattle.hm_exec.specs.declared.answers.Heard.TheVariants as heard_is

-- nothing was recorded, or an entry of these was, or was refused
abbrev pub Entered : (Entry → Type 0) → Recording → Recording → Type 0
Entered P old new =
    (new ≡ old) ⊎ ((entry : Entry) × P entry × Allowed (back old.entries) entry × (result : Result ℕ RecordFault) × Records old entry result new)

-- an entry that calls nobody, reports nothing and is no part of a base
abbrev pub IsQuiet : Entry → Type 0
IsQuiet entry = (calls_made entry ≡ 0) × ((o : Outside) → IsTrueReport o entry) × (is_part entry ≡ false)

-- it was recorded
pub by_added : (P : Entry → Type 0) (old new : Moment) (entry : Entry) → P entry → IsAdded old entry new → Entered P old.kept new.kept
by_added P old new entry holds added = inr (entry, holds, added.1, Ok added.2.0, added.2.1)

-- or wasn't
pub by_fault : (P : Entry → Type 0) (old new : Moment) (entry : Entry) (fault : HallFault) → P entry → Allowed (back (let kept = old.kept in kept.entries)) entry → IsFault old entry fault new → Entered P old.kept new.kept
by_fault P old new entry fault_is.LogFault holds may fault = inr (entry, holds, may, Err record_is.LogFault, fault.0)
by_fault P old new entry (fault_is.JournalFull bytes) holds may fault = inr (entry, holds, may, Err (record_is.JournalFull bytes), fault.0)
by_fault P old new entry (fault_is.Halted why) holds may fault = absurd fault
by_fault P old new entry fault_is.Memory holds may fault = inl (ap (λ (m : Moment). m.kept) fault.1)

pub by_faults : (P : Entry → Type 0) (old new : Moment) (entry : Entry) (fault : HallFault) → P entry → FaultsAt old entry fault new → Entered P old.kept new.kept
by_faults P old new entry (fault_is.Halted why) holds faults = inl (ap (λ (m : Moment). m.kept) faults.1)
by_faults P old new entry fault_is.LogFault holds faults = by_fault P old new entry fault_is.LogFault holds faults.1 faults.2
by_faults P old new entry (fault_is.JournalFull bytes) holds faults = by_fault P old new entry (fault_is.JournalFull bytes) holds faults.1 faults.2
by_faults P old new entry fault_is.Memory holds faults = by_fault P old new entry fault_is.Memory holds faults.1 faults.2

-- the same moment
pub by_same : (P : Entry → Type 0) (old new : Moment) → new ≡ old → Entered P old.kept new.kept
by_same P old new same = inl (ap (λ (m : Moment). m.kept) same)

-- a submission
module _ (P : Entry → Type 0) (old new : Moment) (nonce : Nonce) (request : Request) (begun : IsBegun (past_of old)) (holds : P (entry_is.Submit nonce request)) where
  welcome : (fault : HallFault) → IsWelcome old nonce request → IsFault old (entry_is.Submit nonce request) fault new → Entered P old.kept new.kept
  welcome fault may faults =
      by_fault P old new (entry_is.Submit nonce request) fault holds (begun, (may.1.0, (inr may.1.1, (may.1.2, tt)))) faults

  pub submit_enters : (result : Result Accepted Refused) → AnswersSubmit old nonce request result new → Entered P old.kept new.kept
  submit_enters (Ok accepted) (inl made) = by_added P old new (entry_is.Submit nonce request) holds made.3
  submit_enters (Ok accepted) (inr repeated) = by_same P old new repeated.3
  submit_enters (Err (refused_is.Halted why)) answers = by_same P old new answers.1
  submit_enters (Err (refused_is.BadArgs number)) answers = by_same P old new answers.2
  submit_enters (Err (refused_is.NonceClash pid)) answers = by_same P old new answers.2
  submit_enters (Err (refused_is.TooManyRegions count)) answers = by_same P old new answers.2
  submit_enters (Err (refused_is.JournalFull bytes)) (inl soft) = by_same P old new soft.3
  submit_enters (Err (refused_is.JournalFull bytes)) (inr hard) = welcome (fault_is.JournalFull bytes) hard.0 hard.1
  submit_enters (Err refused_is.Memory) answers = welcome fault_is.Memory answers.0 answers.1
  submit_enters (Err refused_is.LogFault) answers = welcome fault_is.LogFault answers.0 answers.1

-- an abort
pub abort_enters : (P : Entry → Type 0) (old new : Moment) (pid : Pid) → P (entry_is.Abort pid) → (result : Result Bool AbortRefused) → AnswersAbort old pid result new → Entered P old.kept new.kept
abort_enters P old new pid holds (Ok true) answers = by_same P old new answers.2
abort_enters P old new pid holds (Ok false) answers = by_added P old new (entry_is.Abort pid) holds answers.1
abort_enters P old new pid holds (Err (abort_is.Fault (fault_is.Halted why))) answers = by_same P old new answers.1
abort_enters P old new pid holds (Err (abort_is.Fault fault_is.LogFault)) answers = by_faults P old new (entry_is.Abort pid) fault_is.LogFault holds answers.1
abort_enters P old new pid holds (Err (abort_is.Fault (fault_is.JournalFull bytes))) answers = by_faults P old new (entry_is.Abort pid) (fault_is.JournalFull bytes) holds answers.1
abort_enters P old new pid holds (Err (abort_is.Fault fault_is.Memory)) answers = by_faults P old new (entry_is.Abort pid) fault_is.Memory holds answers.1
abort_enters P old new pid holds (Err abort_is.Unknown) answers = by_same P old new answers.2
abort_enters P old new pid holds (Err (abort_is.Child root)) answers = by_same P old new answers.2
abort_enters P old new pid holds (Err (abort_is.Finished phase)) answers = by_same P old new answers.2
abort_enters P old new pid holds (Err (abort_is.TooLate row)) answers = by_same P old new answers.2

-- a server that goes down
by_copying : (P : Entry → Type 0) (old new : Moment) (entry : Entry) (fault : HallFault) → P entry → FaultsCopying old entry fault new → Entered P old.kept new.kept
by_copying P old new entry fault_is.Memory holds faults = by_same P old new faults.2
by_copying P old new entry fault_is.LogFault holds faults = by_faults P old new entry fault_is.LogFault holds faults
by_copying P old new entry (fault_is.JournalFull bytes) holds faults = by_faults P old new entry (fault_is.JournalFull bytes) holds faults
by_copying P old new entry (fault_is.Halted why) holds faults = by_faults P old new entry (fault_is.Halted why) holds faults

pub down_enters : (P : Entry → Type 0) (old new : Moment) (server : Server) → P (entry_is.Down server) → (result : Result Pid DownWhy) → AnswersDown old server result new → Entered P old.kept new.kept
down_enters P old new server holds (Ok pid) answers = by_added P old new (entry_is.Down server) holds answers.0
down_enters P old new server holds (Err (down_why.Down why)) answers = by_same P old new answers.2
down_enters P old new server holds (Err (down_why.Fault (fault_is.Halted why))) answers = by_same P old new answers.1
down_enters P old new server holds (Err (down_why.Fault fault_is.Memory)) answers = by_copying P old new (entry_is.Down server) fault_is.Memory holds answers.1
down_enters P old new server holds (Err (down_why.Fault fault_is.LogFault)) answers = by_copying P old new (entry_is.Down server) fault_is.LogFault holds answers.1
down_enters P old new server holds (Err (down_why.Fault (fault_is.JournalFull bytes))) answers = by_copying P old new (entry_is.Down server) (fault_is.JournalFull bytes) holds answers.1

-- a report
pub report_enters : (P : Entry → Type 0) (old new : Moment) (report : ReportMsg) → P (report_entry report) → (result : Result Heard HallFault) → AnswersReport old report result new → Entered P old.kept new.kept
report_enters P old new report holds (Ok (heard_is.Accepted number)) answers = by_added P old new (report_entry report) holds answers.1
report_enters P old new report holds (Ok (heard_is.Ignored why)) answers = by_same P old new answers.2
report_enters P old new report holds (Err (fault_is.Halted why)) answers = by_same P old new answers.1
report_enters P old new report holds (Err fault_is.Memory) answers = by_faults P old new (report_entry report) fault_is.Memory holds answers.1
report_enters P old new report holds (Err fault_is.LogFault) answers = by_faults P old new (report_entry report) fault_is.LogFault holds answers.1
report_enters P old new report holds (Err (fault_is.JournalFull bytes)) answers = by_faults P old new (report_entry report) (fault_is.JournalFull bytes) holds answers.1

-- a server that comes up: an older one may go down first
pub up_enters : (old new : Moment) (server : Server) (down : Option (Server × Pid)) → AnswersUp old server (Ok down) new → (between : Moment) × Entered IsQuiet old.kept between.kept × IsAdded between (entry_is.Up server) new
up_enters old new server None answers = (old, inl refl, answers.2)
up_enters old new server (Some (older, pid)) answers = (answers.1, by_added IsQuiet old answers.1 (entry_is.Down older) (refl, (λ o. tt), refl) answers.2.1, answers.3)

-- one that doesn't
first_enters : (old new : Moment) (server : Server) (fault : HallFault) → FaultsFirst old server fault new → Entered IsQuiet old.kept new.kept
first_enters old new server fault (inl none) = by_copying IsQuiet old new (entry_is.Up server) fault (refl, (λ o. tt), refl) none.1
first_enters old new server fault (inr older) = by_copying IsQuiet old new (entry_is.Down older.0) fault (refl, (λ o. tt), refl) older.2

-- nothing was recorded, or one entry was or was refused, and after it another one
abbrev pub EnteredTwice : Recording → Recording → Type 0
EnteredTwice old new = (between : Recording) × Entered IsQuiet old between × Entered IsQuiet between new

once : (old new : Recording) → Entered IsQuiet old new → EnteredTwice old new
once old new entered = (new, entered, inl refl)

not_up_fault : (old new : Moment) (server : Server) (fault : HallFault)
    → FaultsFirst old server fault new ⊎ ((older : Server) × (pid : Pid) × (between : Moment) × PutsDown old server older pid between × FaultsAt between (entry_is.Up server) fault new) → EnteredTwice old.kept new.kept
not_up_fault old new server fault (inl first) = once old.kept new.kept (first_enters old new server fault first)
not_up_fault old new server fault (inr later) =
    ((let between = later.2 in between.kept), by_added IsQuiet old later.2 (entry_is.Down later.0) (refl, (λ o. tt), refl) later.3.1, by_faults IsQuiet later.2 new (entry_is.Up server) fault (refl, (λ o. tt), refl) later.4)

pub not_up_enters : (old new : Moment) (server : Server) (why : UpWhy) → AnswersUp old server (Err why) new → EnteredTwice old.kept new.kept
not_up_enters old new server (up_why.Up why) answers = once old.kept new.kept (by_same IsQuiet old new answers.2)
not_up_enters old new server (up_why.Fault (fault_is.Halted why)) answers = once old.kept new.kept (by_same IsQuiet old new answers.1)
not_up_enters old new server (up_why.Fault fault_is.Memory) answers = not_up_fault old new server fault_is.Memory answers.1
not_up_enters old new server (up_why.Fault fault_is.LogFault) answers = not_up_fault old new server fault_is.LogFault answers.1
not_up_enters old new server (up_why.Fault (fault_is.JournalFull bytes)) answers = not_up_fault old new server (fault_is.JournalFull bytes) answers.1
