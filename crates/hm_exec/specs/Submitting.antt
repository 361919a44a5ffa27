-- What a submission and an abort are answered, and what is left.
use Rattle.std.specs.Prelude.{◌≡◌, ◌⊎◌, ℕ, ◌+◌, Bool, Result, Ok, Err, Some, None, true, false}
use Rattle.hm_names.specs.declared.nonce.Nonce.{Nonce}
use Rattle.hm_names.specs.declared.pid.Pid.{Pid}
use Rattle.hm_data.specs.declared.entry.Entry.TheVariants as entry_is
use Rattle.hm_data.specs.declared.request.Request.{Request}
use Rattle.hm_hall.specs.Recording.{full_at}
use Rattle.hm_hall.specs.declared.fault.HallFault.{HallFault}
use Rattle.hm_hall.specs.declared.fault.HallFault.TheVariants as fault_is
use Rattle.hm_model.specs.Tree.{made}
use Rattle.hm_refusals.specs.Aborts.{IsAborted}
use Rattle.hm_refusals.specs.Aborts.{IsAgainst as IsAgainstAbort}
use Rattle.hm_refusals.specs.Submissions.{IsAgainst, IsNew, IsRepeated}
use Rattle.hm_refusals.specs.declared.aborts.AbortRefused.{AbortRefused}
use Rattle.hm_refusals.specs.declared.aborts.AbortRefused.TheVariants as abort_is
use Rattle.hm_refusals.specs.declared.submissions.Refused.{Refused}
use Rattle.hm_refusals.specs.declared.submissions.Refused.TheVariants as refused_is
use Rattle.hm_exec.specs.declared.answers.Accepted.{Accepted}
use Rattle.hm_exec.specs.Moment.{FaultsAt, IsAdded, IsFault, IsGoing, IsHalted, Moment, past_of}

-- the submission is new, and the journal is below its soft mark
abbrev pub IsWelcome : Moment → Nonce → Request → Type 0
IsWelcome at nonce request = IsGoing at × IsNew (past_of at) nonce request × (full_at at.kept ≡ None)

-- a submission that is accepted: it was recorded and made the next root; or it is repeated, and nothing is recorded
abbrev pub Submits : Moment → Nonce → Request → Accepted → Moment → Type 0
Submits old nonce request accepted new =
    ((accepted.repeated ≡ false) × IsWelcome old nonce request × (let pid = accepted.pid in pid.0 ≡ made (past_of old) + 1) × IsAdded old (entry_is.Submit nonce request) new)
    ⊎ ((accepted.repeated ≡ true) × IsGoing old × (let pid = accepted.pid in IsRepeated (past_of old) nonce request pid.0) × (new ≡ old))

-- a submission that is refused by what the journal says
abbrev pub IsRefusedBy : Moment → Nonce → Request → Refused → Moment → Type 0
IsRefusedBy old nonce request why new = IsGoing old × IsAgainst (past_of old) nonce request why × (new ≡ old)

-- a new submission to which the journal is full: it has reached its soft mark, which halts nothing; or the entry would pass the
-- hard mark, which halts
abbrev pub IsTooFull : Moment → Nonce → Request → ℕ → Moment → Type 0
IsTooFull old nonce request bytes new =
    (IsGoing old × IsNew (past_of old) nonce request × (full_at old.kept ≡ Some bytes) × (new ≡ old))
    ⊎ (IsWelcome old nonce request × IsFault old (entry_is.Submit nonce request) (fault_is.JournalFull bytes) new)

-- a submission that is refused, in the order of judging: halted; by what the journal says; the journal is full; memory ran out; the
-- log failed
abbrev pub RefusesToSubmit : Moment → Nonce → Request → Refused → Moment → Type 0
RefusesToSubmit old nonce request (refused_is.Halted why) new = IsHalted old why new
RefusesToSubmit old nonce request (refused_is.BadArgs number) new = IsRefusedBy old nonce request (refused_is.BadArgs number) new
RefusesToSubmit old nonce request (refused_is.NonceClash pid) new = IsRefusedBy old nonce request (refused_is.NonceClash pid) new
RefusesToSubmit old nonce request (refused_is.TooManyRegions count) new = IsRefusedBy old nonce request (refused_is.TooManyRegions count) new
RefusesToSubmit old nonce request (refused_is.JournalFull bytes) new = IsTooFull old nonce request bytes new
RefusesToSubmit old nonce request refused_is.Memory new = IsWelcome old nonce request × IsFault old (entry_is.Submit nonce request) fault_is.Memory new
RefusesToSubmit old nonce request refused_is.LogFault new = IsWelcome old nonce request × IsFault old (entry_is.Submit nonce request) fault_is.LogFault new

-- the refusal of a submission that wasn't recorded
abbrev pub refused_by : HallFault → Refused
refused_by fault_is.LogFault = refused_is.LogFault
refused_by (fault_is.JournalFull bytes) = refused_is.JournalFull bytes
refused_by (fault_is.Halted why) = refused_is.Halted why
refused_by fault_is.Memory = refused_is.Memory

-- what `submit` answers, and what is left
abbrev pub AnswersSubmit : Moment → Nonce → Request → Result Accepted Refused → Moment → Type 0
AnswersSubmit old nonce request (Ok accepted) new = Submits old nonce request accepted new
AnswersSubmit old nonce request (Err why) new = RefusesToSubmit old nonce request why new

-- what `abort` answers, and what is left: who was aborted before isn't aborted again; a refusal records nothing
abbrev pub AnswersAbort : Moment → Pid → Result Bool AbortRefused → Moment → Type 0
AnswersAbort old pid (Ok true) new = IsGoing old × IsAborted (past_of old) pid.0 true × (new ≡ old)
AnswersAbort old pid (Ok false) new = IsAborted (past_of old) pid.0 false × IsAdded old (entry_is.Abort pid) new
AnswersAbort old pid (Err (abort_is.Fault (fault_is.Halted why))) new = IsHalted old why new
AnswersAbort old pid (Err (abort_is.Fault fault)) new = IsAborted (past_of old) pid.0 false × FaultsAt old (entry_is.Abort pid) fault new
AnswersAbort old pid (Err why) new = IsGoing old × IsAgainstAbort (past_of old) pid.0 why × (new ≡ old)
