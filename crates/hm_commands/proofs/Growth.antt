-- What becomes of commands adds to the journal.
use Rattle.std.proofs.Common.{◌≡◌, ◌⊎◌, ℕ, zero, suc, Bool, true, false, List, [], ◌∷◌, ◌++◌, get_or, All, Option, Some, None, Result, Ok, Err, refl, sym, ap, ◌∙◌, subst, inl, inr, append-nil, append_assoc}
use Rattle.std.specs.Prelude.{MatchOption}
use Rattle.std.proofs.lemmas.Option.{none-some}
use Rattle.std.proofs.lemmas.List.Elements.{All-nil, All-cons, All-append}
use Rattle.hm_names.specs.Server.{Server}
use Rattle.hm_names.specs.declared.nonce.Nonce.{Nonce}
use Rattle.hm_names.specs.declared.pid.Pid.{Pid}
use Rattle.hm_data.specs.declared.call.Call.{Call}
use Rattle.hm_data.specs.declared.call.Peer.{Peer}
use Rattle.hm_data.specs.declared.call.Peer.TheVariants as peer_is
use Rattle.hm_data.specs.declared.call.ReportMsg.{ReportMsg}
use Rattle.hm_data.specs.declared.entry.Entry.{Entry}
use Rattle.hm_data.specs.declared.entry.Entry.TheVariants as entry_is
use Rattle.hm_data.specs.declared.request.Request.{Request}
use Rattle.hm_data.specs.declared.request.Request.TheVariants as request_is
use Rattle.hm_data.specs.declared.step.StepIn.{StepIn}
use Rattle.hm_data.specs.declared.step.StepOut.{StepOut}
use Rattle.hm_data.specs.declared.step.Turn.{Turn}
use Rattle.hm_data.specs.declared.step.Turn.TheVariants as turn_is
use Rattle.hm_hall.specs.Recording.{Passes, Recording, Records, bytes_of}
use Rattle.hm_hall.specs.declared.fault.Halt.{Halt}
use Rattle.hm_hall.specs.declared.fault.Halt.TheVariants as halt_is
use Rattle.hm_hall.specs.declared.fault.HallFault.{HallFault}
use Rattle.hm_hall.specs.declared.fault.HallFault.TheVariants as fault_is
use Rattle.hm_hall.specs.declared.taken.Taken.{Taken}
use Rattle.hm_refusals.specs.declared.aborts.AbortRefused.{AbortRefused}
use Rattle.hm_refusals.specs.declared.aborts.AbortRefused.TheVariants as abort_is
use Rattle.hm_refusals.specs.declared.submissions.Refused.{Refused}
use Rattle.hm_refusals.specs.declared.submissions.Refused.TheVariants as refused_is
use Rattle.hm_exec.specs.Claiming.{AnswersCommit, PutsBack, entry_by, entry_of}
use Rattle.hm_exec.specs.Fleet.{AnswersDown, AnswersUp, FaultsCopying, FaultsFirst, PutsDown}
use Rattle.hm_exec.specs.Hearing.{AnswersReport, report_entry}
use Rattle.hm_exec.specs.Moment.{FaultsAt, IsAdded, IsFault, Moment}
use Rattle.hm_exec.specs.Submitting.{AnswersAbort, AnswersSubmit}
use Rattle.hm_exec.specs.declared.answers.Accepted.{Accepted}
use Rattle.hm_exec.specs.declared.answers.DownWhy.{DownWhy}
use Rattle.hm_exec.specs.declared.answers.DownWhy.TheVariants as down_why
use Rattle.hm_exec.specs.declared.answers.Heard.{Heard}
use Rattle.hm_exec.specs.declared.answers.Heard.TheVariants as heard_is
use Rattle.hm_exec.specs.declared.answers.UpWhy.{UpWhy}
use Rattle.hm_exec.specs.declared.answers.UpWhy.TheVariants as up_why
use Rattle.hm_script.specs.declared.command.Command.{Command}
use Rattle.hm_script.specs.declared.command.Command.TheVariants as command_is
use Rattle.hm_world.specs.Acts.{Arms, Dies, Repeats, Starts}
use Rattle.hm_world.specs.Carrying.{Carries, CarriesBy}
use Rattle.hm_world.specs.Scene.{Scene}
use Rattle.hm_commands.specs.Commands.{Comes, ComesAt, ComesOther, IsMove, IsWork, MayAdd, OtherMayAdd, Settles, WorksFor, asked}
use Rattle.hm_commands.specs.Balancing.{AreRecorded, Balances, Ends, HaltsAt, MayTry, SubmitsMove, no_nonce}
use Rattle.hm_commands.specs.Submissions.{Submits}
use Rattle.hm_commands.specs.Telling.{told_submit}
use Rattle.hm_moves.specs.declared.moving.Move.{Move}
use Rattle.hm_commands.specs.Scenes.{halt_at, kept_at}
use Rattle.hm_commands.specs.Tasks.{Becomes, Breaks, LacksMemory, Steps, Tasks, Works}
use Rattle.hm_commands.specs.declared.answer.Answer.{Answer}
use Rattle.hm_commands.specs.declared.answer.Answer.TheVariants as answer_is
use Rattle.hm_commands.specs.declared.tasks.Worked.{Worked}
use Rattle.hm_commands.specs.declared.tasks.Worked.TheVariants as worked_is

-- after some entries, which have so many bytes, an entry passes the mark
abbrev pub IsPassed : ℕ → ℕ → Type 0
IsPassed hard bytes = (journal : List Entry) × (entry : Entry) × (bytes ≡ bytes_of journal) × Passes hard journal entry

-- such entries were added, and the marks stay; what went on is halted as full only at an entry that passes the hard mark
pub record Grows (P : Entry → Type 0) (old new : Recording) : Type 0 where
  pub added : List Entry
  pub each : All P added
  pub grown : new.entries ≡ old.entries ++ added
  pub soft : new.soft ≡ old.soft
  pub hard : new.hard ≡ old.hard
  pub full : (bytes : ℕ) → old.halted ≡ None → new.halted ≡ Some (halt_is.JournalFull bytes) → IsPassed old.hard bytes

pub all_none : (P : Entry → Type 0) → All P []
all_none P = All-nil P

pub all_one : (P : Entry → Type 0) (entry : Entry) → P entry → All P (entry ∷ [])
all_one P entry p = All-cons P entry [] p (All-nil P)

no_fault : (bytes : ℕ) → Some halt_is.LogFault ≡ Some (halt_is.JournalFull bytes) → ⊥
no_fault bytes e = cc

same_bytes : (b bytes : ℕ) → Some (halt_is.JournalFull b) ≡ Some (halt_is.JournalFull bytes) → bytes ≡ b
same_bytes b bytes e = cc

-- nothing was recorded, and nothing halts
pub same_grows : (P : Entry → Type 0) (old new : Recording) → new ≡ old → Grows P old new
same_grows P old new same = record {
  added = [];
  each = all_none P;
  grown = ap (λ (k : Recording). k.entries) same ∙ sym (append-nil old.entries);
  soft = ap (λ (k : Recording). k.soft) same;
  hard = ap (λ (k : Recording). k.hard) same;
  full = λ bytes going is. absurd (none-some (halt_is.JournalFull bytes) (sym going ∙ sym (ap (λ (k : Recording). k.halted) same) ∙ is));
}

-- an entry was recorded
pub recorded_grows : (P : Entry → Type 0) (old new : Recording) (entry : Entry) (number : ℕ) → P entry → Records old entry (Ok number) new → Grows P old new
recorded_grows P old new entry number p r =
    let is = r.3 in
    record {
      added = entry ∷ [];
      each = all_one P entry p;
      grown = ap (λ (k : Recording). k.entries) is;
      soft = ap (λ (k : Recording). k.soft) is;
      hard = ap (λ (k : Recording). k.hard) is;
      full = λ bytes going full. absurd (none-some (halt_is.JournalFull bytes) (sym going ∙ sym (ap (λ (k : Recording). k.halted) is) ∙ full));
    }

-- after it nothing halts
pub recorded_going : (old new : Recording) (entry : Entry) (number : ℕ) → Records old entry (Ok number) new → new.halted ≡ None
recorded_going old new entry number r = ap (λ (k : Recording). k.halted) r.3 ∙ r.0

module _ (P : Entry → Type 0) (old new : Moment) where
  pub added_grows : (entry : Entry) → P entry → IsAdded old entry new → Grows P old.kept new.kept
  added_grows entry p a = recorded_grows P old.kept new.kept entry a.2.0 p a.2.1

  pub kept_grows : new ≡ old → Grows P old.kept new.kept
  kept_grows same = same_grows P old.kept new.kept (ap (λ (m : Moment). m.kept) same)

  -- an entry wasn't recorded
  pub fault_grows : (entry : Entry) (fault : HallFault) → IsFault old entry fault new → Grows P old.kept new.kept
  fault_grows entry fault_is.LogFault f =
      let is = f.0.2 in
      record {
        added = [];
        each = all_none P;
        grown = ap (λ (k : Recording). k.entries) is ∙ sym (append-nil old.kept.entries);
        soft = ap (λ (k : Recording). k.soft) is;
        hard = ap (λ (k : Recording). k.hard) is;
        full = λ bytes going full. absurd (no_fault bytes (sym (ap (λ (k : Recording). k.halted) is) ∙ full));
      }
  fault_grows entry (fault_is.JournalFull b) f =
      let is = f.0.3 in
      record {
        added = [];
        each = all_none P;
        grown = ap (λ (k : Recording). k.entries) is ∙ sym (append-nil old.kept.entries);
        soft = ap (λ (k : Recording). k.soft) is;
        hard = ap (λ (k : Recording). k.hard) is;
        full = λ bytes going full. (old.kept.entries, entry, same_bytes b bytes (sym (ap (λ (k : Recording). k.halted) is) ∙ full) ∙ f.0.2, f.0.1);
      }
  fault_grows entry (fault_is.Halted why) f = absurd f
  fault_grows entry fault_is.Memory f = kept_grows f.1

  pub faults_grow : (entry : Entry) (fault : HallFault) → FaultsAt old entry fault new → Grows P old.kept new.kept
  faults_grow entry (fault_is.Halted why) f = kept_grows f.1
  faults_grow entry fault_is.LogFault f = fault_grows entry fault_is.LogFault f.2
  faults_grow entry (fault_is.JournalFull b) f = fault_grows entry (fault_is.JournalFull b) f.2
  faults_grow entry fault_is.Memory f = fault_grows entry fault_is.Memory f.2

  pub copying_grows : (entry : Entry) (fault : HallFault) → FaultsCopying old entry fault new → Grows P old.kept new.kept
  copying_grows entry (fault_is.Halted why) f = faults_grow entry (fault_is.Halted why) f
  copying_grows entry fault_is.LogFault f = faults_grow entry fault_is.LogFault f
  copying_grows entry (fault_is.JournalFull b) f = faults_grow entry (fault_is.JournalFull b) f
  copying_grows entry fault_is.Memory f = kept_grows f.2

-- one after another, where nothing halted between
pub grows_on : (P : Entry → Type 0) (a b c : Recording) → (a.halted ≡ None → b.halted ≡ None) → Grows P a b → Grows P b c → Grows P a c
grows_on P a b c goes one two = record {
  added = one.added ++ two.added;
  each = All-append P one.added two.added one.each two.each;
  grown = two.grown ∙ ap (λ (l : List Entry). l ++ two.added) one.grown ∙ append_assoc a.entries one.added two.added;
  soft = two.soft ∙ one.soft;
  hard = two.hard ∙ one.hard;
  full = λ bytes going is. subst (λ (h : ℕ). IsPassed h bytes) one.hard (two.full bytes (goes going) is);
}

-- a submission
pub submit_grows : (nonce : Nonce) (request : Request) (old new : Moment) (result : Result Accepted Refused) → AnswersSubmit old nonce request result new → Grows (λ entry. entry ≡ entry_is.Submit nonce request) old.kept new.kept
submit_grows nonce request old new result = by result
  where
    P : Entry → Type 0
    P entry = entry ≡ entry_is.Submit nonce request

    by : (result : Result Accepted Refused) → AnswersSubmit old nonce request result new → Grows P old.kept new.kept
    by (Ok accepted) (inl a) = added_grows P old new (entry_is.Submit nonce request) refl a.3
    by (Ok accepted) (inr a) = kept_grows P old new a.3
    by (Err (refused_is.Halted why)) a = kept_grows P old new a.1
    by (Err (refused_is.BadArgs number)) a = kept_grows P old new a.2
    by (Err (refused_is.NonceClash pid)) a = kept_grows P old new a.2
    by (Err (refused_is.TooManyRegions drawn)) a = kept_grows P old new a.2
    by (Err (refused_is.JournalFull bytes)) (inl a) = kept_grows P old new a.3
    by (Err (refused_is.JournalFull bytes)) (inr a) = fault_grows P old new (entry_is.Submit nonce request) (fault_is.JournalFull bytes) a.1
    by (Err refused_is.Memory) a = fault_grows P old new (entry_is.Submit nonce request) fault_is.Memory a.1
    by (Err refused_is.LogFault) a = fault_grows P old new (entry_is.Submit nonce request) fault_is.LogFault a.1

-- what may be more
grows_as : (P Q : Entry → Type 0) → ((entry : Entry) → P entry → Q entry) → (old new : Recording) → Grows P old new → Grows Q old new
grows_as P Q f old new g = record { added = g.added; each = λ k d lt. f (get_or g.added k d) (g.each k d lt); grown = g.grown; soft = g.soft; hard = g.hard; full = g.full }

-- where a submission is told as a new procedure nothing was halted
pub told_going : (nonce : Nonce) (request : Request) (old new : Moment) (halted : Option Halt) (pid : ℕ) (result : Result Accepted Refused) → AnswersSubmit old nonce request result new → Some (answer_is.Pid pid) ≡ told_submit halted result
    → old.kept.halted ≡ None → new.kept.halted ≡ None
told_going nonce request old new halted pid (Ok accepted) (inl a) told going = recorded_going old.kept new.kept (entry_is.Submit nonce request) a.3.2.0 a.3.2.1
told_going nonce request old new halted pid (Ok accepted) (inr a) told going = ap (λ (m : Moment). m.kept.halted) a.3 ∙ going
told_going nonce request old new halted pid (Err (refused_is.Halted why)) a told going = absurd (cc)
told_going nonce request old new halted pid (Err (refused_is.BadArgs number)) a told going = absurd (cc)
told_going nonce request old new halted pid (Err (refused_is.NonceClash other)) a told going = absurd (cc)
told_going nonce request old new halted pid (Err (refused_is.TooManyRegions drawn)) a told going = absurd (cc)
told_going nonce request old new None pid (Err (refused_is.JournalFull bytes)) a told going = absurd (cc)
told_going nonce request old new (Some why) pid (Err (refused_is.JournalFull bytes)) a told going = absurd (cc)
told_going nonce request old new halted pid (Err refused_is.Memory) a told going = absurd (cc)
told_going nonce request old new halted pid (Err refused_is.LogFault) a told going = absurd (cc)

-- an abort
abort_grows : (pid : Pid) (old new : Moment) (result : Result Bool AbortRefused) → AnswersAbort old pid result new → Grows (λ entry. entry ≡ entry_is.Abort pid) old.kept new.kept
abort_grows pid old new result = by result
  where
    P : Entry → Type 0
    P entry = entry ≡ entry_is.Abort pid

    by : (result : Result Bool AbortRefused) → AnswersAbort old pid result new → Grows P old.kept new.kept
    by (Ok true) a = kept_grows P old new a.2
    by (Ok false) a = added_grows P old new (entry_is.Abort pid) refl a.1
    by (Err (abort_is.Fault (fault_is.Halted why))) a = kept_grows P old new a.1
    by (Err (abort_is.Fault fault_is.LogFault)) a = faults_grow P old new (entry_is.Abort pid) fault_is.LogFault a.1
    by (Err (abort_is.Fault (fault_is.JournalFull b))) a = faults_grow P old new (entry_is.Abort pid) (fault_is.JournalFull b) a.1
    by (Err (abort_is.Fault fault_is.Memory)) a = faults_grow P old new (entry_is.Abort pid) fault_is.Memory a.1
    by (Err abort_is.Unknown) a = kept_grows P old new a.2
    by (Err (abort_is.Child root)) a = kept_grows P old new a.2
    by (Err (abort_is.Finished phase)) a = kept_grows P old new a.2
    by (Err (abort_is.TooLate row)) a = kept_grows P old new a.2

-- a server that is held to be dead
down_grows : (server : Server) (old new : Moment) (result : Result Pid DownWhy) → AnswersDown old server result new → Grows (λ entry. entry ≡ entry_is.Down server) old.kept new.kept
down_grows server old new result = by result
  where
    P : Entry → Type 0
    P entry = entry ≡ entry_is.Down server

    by : (result : Result Pid DownWhy) → AnswersDown old server result new → Grows P old.kept new.kept
    by (Ok pid) a = added_grows P old new (entry_is.Down server) refl a.0
    by (Err (down_why.Down why)) a = kept_grows P old new a.2
    by (Err (down_why.Fault (fault_is.Halted why))) a = kept_grows P old new a.1
    by (Err (down_why.Fault fault_is.LogFault)) a = copying_grows P old new (entry_is.Down server) fault_is.LogFault a.1
    by (Err (down_why.Fault (fault_is.JournalFull b))) a = copying_grows P old new (entry_is.Down server) (fault_is.JournalFull b) a.1
    by (Err (down_why.Fault fault_is.Memory)) a = copying_grows P old new (entry_is.Down server) fault_is.Memory a.1

-- what a server that comes up may add
abbrev UpMayAdd : Server → Entry → Type 0
UpMayAdd server entry = (entry ≡ entry_is.Up server) ⊎ ((older : Server) × (entry ≡ entry_is.Down older))

-- a server that comes up
module _ (server : Server) (old new : Moment) where
  abbrev P : Entry → Type 0
  P = UpMayAdd server

  two_grow : (older : Server) (between : Moment) → IsAdded old (entry_is.Down older) between → Grows P between.kept new.kept → Grows P old.kept new.kept
  two_grow older between down more =
      grows_on P old.kept between.kept new.kept (λ going. recorded_going old.kept between.kept (entry_is.Down older) down.2.0 down.2.1)
      (added_grows P old between (entry_is.Down older) (inr (older, refl)) down) more

  first_grows : (fault : HallFault) → FaultsFirst old server fault new → Grows P old.kept new.kept
  first_grows fault (inl alone) = copying_grows P old new (entry_is.Up server) fault alone.1
  first_grows fault (inr older) = copying_grows P old new (entry_is.Down older.0) fault older.2

  fault_up : (fault : HallFault) → (FaultsFirst old server fault new ⊎ ((older : Server) × (pid : Pid) × (between : Moment) × PutsDown old server older pid between × FaultsAt between (entry_is.Up server) fault new)) → Grows P old.kept new.kept
  fault_up fault (inl first) = first_grows fault first
  fault_up fault (inr late) = two_grow late.0 late.2 late.3.1 (faults_grow P late.2 new (entry_is.Up server) fault late.4)

  pub up_grows : (result : Result (Option (Server × Pid)) UpWhy) → AnswersUp old server result new → Grows P old.kept new.kept
  up_grows (Ok None) a = added_grows P old new (entry_is.Up server) (inl refl) a.2
  up_grows (Ok (Some (older, pid))) a = two_grow older a.1 a.2.1 (added_grows P a.1 new (entry_is.Up server) (inl refl) a.3)
  up_grows (Err (up_why.Up why)) a = kept_grows P old new a.2
  up_grows (Err (up_why.Fault (fault_is.Halted why))) a = kept_grows P old new a.1
  up_grows (Err (up_why.Fault fault_is.LogFault)) a = fault_up fault_is.LogFault a.1
  up_grows (Err (up_why.Fault (fault_is.JournalFull b))) a = fault_up (fault_is.JournalFull b) a.1
  up_grows (Err (up_why.Fault fault_is.Memory)) a = fault_up fault_is.Memory a.1

start_grows : (server : Server) (old new : Scene) (result : Result (Option (Server × Pid)) UpWhy) → Starts old server result new → Grows (UpMayAdd server) (kept_at old) (kept_at new)
start_grows server old new (Ok down) s = up_grows server old.exec new.exec (Ok down) s.0
start_grows server old new (Err (up_why.Up why)) s = up_grows server old.exec new.exec (Err (up_why.Up why)) s.0
start_grows server old new (Err (up_why.Fault fault_is.LogFault)) s = up_grows server old.exec new.exec (Err (up_why.Fault fault_is.LogFault)) s.0
start_grows server old new (Err (up_why.Fault (fault_is.JournalFull b))) s = up_grows server old.exec new.exec (Err (up_why.Fault (fault_is.JournalFull b))) s.0
start_grows server old new (Err (up_why.Fault (fault_is.Halted why))) s = up_grows server old.exec new.exec (Err (up_why.Fault (fault_is.Halted why))) s.0
start_grows server old new (Err (up_why.Fault fault_is.Memory)) (inl a, rest) = up_grows server old.exec new.exec (Err (up_why.Fault fault_is.Memory)) a
start_grows server old new (Err (up_why.Fault fault_is.Memory)) (inr a, rest) = kept_grows (UpMayAdd server) old.exec new.exec a.2

-- scenes with the same executor
exec_grows : (P : Entry → Type 0) (old new : Scene) → new.exec ≡ old.exec → Grows P (kept_at old) (kept_at new)
exec_grows P old new same = kept_grows P old.exec new.exec same

-- scenes that are the same
pub scene_grows : (P : Entry → Type 0) (old new : Scene) → new ≡ old → Grows P (kept_at old) (kept_at new)
scene_grows P old new same = exec_grows P old new (ap (λ (s : Scene). s.exec) same)

work_by : (turn : Turn) (p : ℕ) (was : StepIn) (out : StepOut) → IsWork (entry_by turn p was out)
work_by turn_is.Step p was out = tt
work_by (turn_is.Undo edits) p was out = tt

pub is_work : (taken : Taken) (out : StepOut) → IsWork (entry_of taken out)
is_work taken out = work_by taken.was.turn taken.pid.0 taken.was out

-- a report
report_grows : (report : ReportMsg) (old new : Moment) (result : Result Heard HallFault) → AnswersReport old report result new → Grows IsWork old.kept new.kept
report_grows report old new (Ok (heard_is.Accepted number)) a = added_grows IsWork old new (report_entry report) tt a.1
report_grows report old new (Ok (heard_is.Ignored why)) a = kept_grows IsWork old new a.2
report_grows report old new (Err (fault_is.Halted why)) a = kept_grows IsWork old new a.1
report_grows report old new (Err fault_is.LogFault) a = faults_grow IsWork old new (report_entry report) fault_is.LogFault a.1
report_grows report old new (Err (fault_is.JournalFull b)) a = faults_grow IsWork old new (report_entry report) (fault_is.JournalFull b) a.1
report_grows report old new (Err fault_is.Memory) a = faults_grow IsWork old new (report_entry report) fault_is.Memory a.1

-- after a report that was heard nothing halts
heard_going : (report : ReportMsg) (old new : Moment) (heard : Heard) → AnswersReport old report (Ok heard) new → new.kept.halted ≡ None
heard_going report old new (heard_is.Accepted number) a = recorded_going old.kept new.kept (report_entry report) a.1.2.0 a.1.2.1
heard_going report old new (heard_is.Ignored why) a = ap (λ (m : Moment). m.kept.halted) a.2 ∙ a.0

-- what is carried
carries_grows : (old new : Scene) (result : Result Bool HallFault) → Carries old result new → Grows IsWork (kept_at old) (kept_at new)
carries_grows old new result = by old.waiting old.wire result
  where
    by : (waiting : List ReportMsg) (wire : List Call) (result : Result Bool HallFault) → CarriesBy waiting wire old result new → Grows IsWork (kept_at old) (kept_at new)
    by (report ∷ rest) wire (Ok true) c = report_grows report old.exec new.exec (Ok c.0.0) c.0.1
    by (report ∷ rest) wire (Ok false) c = absurd c
    by (report ∷ rest) wire (Err fault) c = report_grows report old.exec new.exec (Err fault) c.0
    by [] wire (Err (fault_is.Halted why)) c = exec_grows IsWork old new c.0.1
    by [] wire (Err fault_is.Memory) c = scene_grows IsWork old new c.1
    by [] wire (Err fault_is.LogFault) c = absurd c
    by [] wire (Err (fault_is.JournalFull b)) c = absurd c
    by [] (call ∷ rest) (Ok true) c = exec_grows IsWork old new (ap (λ (s : Scene). s.exec) c.1)
    by [] (call ∷ rest) (Ok false) c = absurd c
    by [] [] (Ok true) c = exec_grows IsWork old new (ap (λ (s : Scene). s.exec) c.3)
    by [] [] (Ok false) c = scene_grows IsWork old new c.2

-- after what is carried nothing halts
carried_going : (old new : Scene) → Carries old (Ok true) new → halt_at new ≡ None
carried_going old new = by old.waiting old.wire
  where
    by : (waiting : List ReportMsg) (wire : List Call) → CarriesBy waiting wire old (Ok true) new → halt_at new ≡ None
    by (report ∷ rest) wire c = heard_going report old.exec new.exec c.0.0 c.0.1
    by [] (call ∷ rest) c = ap (λ (s : Scene). halt_at s) c.1 ∙ c.0
    by [] [] c = ap (λ (s : Scene). halt_at s) c.3 ∙ c.0

-- recording a handler's answer
gives_grows : (mid : Scene) (taken : Taken) (out : StepOut) (worked : Worked) (new : Scene) → Becomes mid taken out worked new → Grows IsWork (kept_at mid) (kept_at new)
gives_grows mid taken out worked_is.Done new b = recorded_grows IsWork (kept_at mid) (kept_at new) (entry_of taken out) b.0 (is_work taken out) b.1.0.3
gives_grows mid taken out (worked_is.Halted why) new b = refused_grows b.0 b.1 b.2.0 b.3.0
  where
    back_grows : (late : Scene) → Grows IsWork (kept_at mid) (kept_at late) → kept_at new ≡ kept_at late → Grows IsWork (kept_at mid) (kept_at new)
    back_grows late grows same = subst (λ (k : Recording). Grows IsWork (kept_at mid) k) (sym same) grows

    refused_grows : (fault : HallFault) (late : Scene) → AnswersCommit mid.exec taken out (Err (taken, fault)) late.exec → PutsBack late.exec taken new.exec → Grows IsWork (kept_at mid) (kept_at new)
    refused_grows (fault_is.Halted why) late r back = back_grows late (kept_grows IsWork mid.exec late.exec r.1.1) back.0
    refused_grows fault_is.Memory late r back = back_grows late (kept_grows IsWork mid.exec late.exec r.1.1) back.0
    refused_grows fault_is.LogFault late r back = back_grows late (faults_grow IsWork mid.exec late.exec (entry_of taken out) fault_is.LogFault r.1.1) back.0
    refused_grows (fault_is.JournalFull bytes) late r back = back_grows late (faults_grow IsWork mid.exec late.exec (entry_of taken out) (fault_is.JournalFull bytes) r.1.1) back.0
gives_grows mid taken out worked_is.Idle new b = absurd b

-- a step
steps_grows : (old : Scene) (worked : Worked) (new : Scene) → Steps old worked new → Grows IsWork (kept_at old) (kept_at new)
steps_grows old worked new s =
    let same : kept_at s.mid ≡ kept_at old = s.takes.0.3 in
    subst (λ (k : Recording). Grows IsWork k (kept_at new)) same (gives_grows s.mid s.taken s.runs.0 worked new s.runs.2)

-- what became of a task
pub works_grows : (old : Scene) (worked : Worked) (new : Scene) → Works old worked new → Grows IsWork (kept_at old) (kept_at new)
works_grows old worked_is.Done new (inl steps) = steps_grows old worked_is.Done new steps
works_grows old worked_is.Done new (inr carried) = carries_grows old new (Ok true) carried.1
works_grows old (worked_is.Halted why) new (inl steps) = steps_grows old (worked_is.Halted why) new steps
works_grows old (worked_is.Halted why) new (inr carried) = carries_grows old new (Err carried.1.0) carried.1.1
works_grows old worked_is.Idle new idle = scene_grows IsWork old new idle.1

-- after a task that was done nothing halts
pub done_going : (old new : Scene) → Works old worked_is.Done new → halt_at new ≡ None
done_going old new (inl steps) = recorded_going (kept_at steps.mid) (kept_at new) (entry_of steps.taken steps.runs.0) steps.runs.2.0 steps.runs.2.1.0.3
done_going old new (inr carried) = carried_going old new carried.1

-- some tasks
pub tasks_going : (count : ℕ) (old new : Scene) → Tasks count old new → halt_at old ≡ None → halt_at new ≡ None
tasks_going zero old new t going = ap (λ (s : Scene). halt_at s) t ∙ going
tasks_going (suc count) old new t going = tasks_going count t.0 new t.2 (done_going old t.0 t.1)

pub tasks_grow : (count : ℕ) (old new : Scene) → Tasks count old new → Grows IsWork (kept_at old) (kept_at new)
tasks_grow zero old new t = scene_grows IsWork old new t
tasks_grow (suc count) old new t =
    grows_on IsWork (kept_at old) (kept_at t.0) (kept_at new) (λ going. done_going old t.0 t.1) (works_grows old worked_is.Done t.0 t.1) (tasks_grow count t.0 new t.2)

module _ (old new : Scene) where
  breaks_grow : (count : ℕ) (mid : Scene) (why : Halt) → Tasks count old mid → Breaks mid why new → Grows IsWork (kept_at old) (kept_at new)
  breaks_grow count mid why t b =
      grows_on IsWork (kept_at old) (kept_at mid) (kept_at new) (tasks_going count old mid t) (tasks_grow count old mid t) (works_grows mid (worked_is.Halted why) new b)

  lacks_grow : (count : ℕ) (mid : Scene) → Tasks count old mid → LacksMemory mid new → Grows IsWork (kept_at old) (kept_at new)
  lacks_grow count mid t l = subst (λ (s : Scene). Grows IsWork (kept_at old) (kept_at s)) (sym l.2) (tasks_grow count old mid t)

  works_for_grow : (most : ℕ) (answer : Option Answer) → WorksFor most old answer new → Grows IsWork (kept_at old) (kept_at new)
  works_for_grow most (Some (answer_is.Stepped count at)) w = tasks_grow count old new w.0
  works_for_grow most (Some (answer_is.Halted why)) w = breaks_grow w.0 w.1 why w.2 w.4
  works_for_grow most (Some answer) w = absurd w
  works_for_grow most None w = lacks_grow w.0 w.1 w.2 w.4

  settles_grow : (answer : Option Answer) → Settles old answer new → Grows IsWork (kept_at old) (kept_at new)
  settles_grow (Some (answer_is.Settled at)) s = tasks_grow s.0.0.0 old new s.0.0.1
  settles_grow (Some (answer_is.Waiting at roots)) s = tasks_grow s.0.0.0 old new s.0.0.1
  settles_grow (Some (answer_is.Halted why)) s = breaks_grow s.0 s.1 why s.2 s.3
  settles_grow (Some answer) s = absurd s
  settles_grow None s = lacks_grow s.0 s.1 s.2 s.3

  dies_grow : (P : Entry → Type 0) (server : Server) (ran : Bool) → Dies old server ran new → Grows P (kept_at old) (kept_at new)
  dies_grow P server true d = exec_grows P old new (ap (λ (s : Scene). s.exec) d.1)
  dies_grow P server false d = scene_grows P old new d.1

  arms_grow : (P : Entry → Type 0) (peer : Peer) (count : ℕ) (result : Result Bool Halt) → Arms old peer count result new → Grows P (kept_at old) (kept_at new)
  arms_grow P peer count (Ok true) a = exec_grows P old new (ap (λ (s : Scene). s.exec) a.2)
  arms_grow P peer count (Ok false) a = scene_grows P old new a.2
  arms_grow P peer count (Err why) a = exec_grows P old new a.0.1

  repeats_grow : (P : Entry → Type 0) (result : Result ℕ HallFault) → Repeats old result new → Grows P (kept_at old) (kept_at new)
  repeats_grow P (Ok count) r = exec_grows P old new (ap (λ (s : Scene). s.exec) r.1.1)
  repeats_grow P (Err (fault_is.Halted why)) r = exec_grows P old new r.0.1
  repeats_grow P (Err fault_is.Memory) r = scene_grows P old new r.1
  repeats_grow P (Err fault_is.LogFault) r = absurd r
  repeats_grow P (Err (fault_is.JournalFull b)) r = absurd r

  move_grows : (move : Move) (before : Scene) (answer : Answer) (after : Scene) → SubmitsMove move before answer after → Grows IsMove (kept_at before) (kept_at after)
  move_grows move before answer after s =
      let request = request_is.Move move.region (Some move.to) in
      grows_as (λ entry. entry ≡ entry_is.Submit no_nonce request) IsMove (λ entry is. (move.region, move.to, is)) (kept_at before) (kept_at after)
      (submit_grows no_nonce request before.exec after.exec s.0 s.1)

  pub recorded_grow : (moved : List (Move × ℕ)) (before after : Scene) → AreRecorded moved before after
      → Grows IsMove (kept_at before) (kept_at after) × ((kept_at before).halted ≡ None → (kept_at after).halted ≡ None)
  recorded_grow [] before after same = (scene_grows IsMove before after same, λ going. ap halt_at same ∙ going)
  recorded_grow (one ∷ moved) before after (mid, first, rest) =
      let request = request_is.Move one.0.region (Some one.0.to) in
      let goes = told_going no_nonce request before.exec mid.exec (halt_at mid) one.1 first.0 first.1 first.3 in
      let more = recorded_grow moved mid after rest in
      (grows_on IsMove (kept_at before) (kept_at mid) (kept_at after) goes (move_grows one.0 before (answer_is.Pid one.1) mid first) more.0, λ going. more.1 (goes going))

  ends_grow : (left : List Move) (mid : Scene) (end : Option Answer) → Ends left mid end new → Grows IsMove (kept_at mid) (kept_at new)
  ends_grow [] mid None same = scene_grows IsMove mid new same
  ends_grow [] mid (Some answer) e = absurd e
  ends_grow (move ∷ more) mid None e = absurd e
  ends_grow (move ∷ more) mid (Some answer) e = move_grows move mid answer new e.0

  halts_grow : (left : List Move) (mid : Scene) (why : Halt) → HaltsAt left mid why new → Grows IsMove (kept_at mid) (kept_at new)
  halts_grow [] mid why e = absurd e
  halts_grow (move ∷ more) mid why e = move_grows move mid (answer_is.Halted why) new e

  try_grows : (left : List Move) (mid : Scene) → MayTry left mid new → Grows IsMove (kept_at mid) (kept_at new)
  try_grows [] mid same = scene_grows IsMove mid new same
  try_grows (move ∷ more) mid (inl same) = scene_grows IsMove mid new same
  try_grows (move ∷ more) mid (inr (answer, submits)) = move_grows move mid answer new submits

  moved_grow : (moved : List (Move × ℕ)) (mid : Scene) → AreRecorded moved old mid → Grows IsMove (kept_at mid) (kept_at new) → Grows IsMove (kept_at old) (kept_at new)
  moved_grow moved mid recorded more = let first = recorded_grow moved old mid recorded in grows_on IsMove (kept_at old) (kept_at mid) (kept_at new) first.1 first.0 more

  balances_grow : (answer : Option Answer) → Balances old answer new → Grows IsMove (kept_at old) (kept_at new)
  balances_grow (Some (answer_is.Balanced lines)) b = moved_grow b.0.moved b.1 b.3.recorded (ends_grow b.0.left b.1 b.2 b.4)
  balances_grow (Some (answer_is.Halted why)) b = moved_grow b.0.moved b.1 b.2.recorded (halts_grow b.0.left b.1 why b.3)
  balances_grow (Some answer) b = absurd b
  balances_grow None (inl same) = scene_grows IsMove old new same
  balances_grow None (inr b) = moved_grow b.0.moved b.1 b.2.recorded (try_grows b.0.left b.1 b.3)

  pub other_grows : (command : Command) (answer : Option Answer) → ComesOther command old answer new → Grows (OtherMayAdd command) (kept_at old) (kept_at new)
  other_grows (command_is.Abort pid) answer c = abort_grows pid old.exec new.exec c.0 c.1
  other_grows (command_is.Server server) answer c = start_grows server old new c.0 c.1
  other_grows (command_is.Die server) answer c = dies_grow (OtherMayAdd (command_is.Die server)) server c.0 c.1
  other_grows (command_is.Expire server) answer c = down_grows server old.exec new.exec c.0 c.1
  other_grows (command_is.Refuse server count) answer c = arms_grow (OtherMayAdd (command_is.Refuse server count)) (peer_is.Server server) count c.0 c.1
  other_grows (command_is.RefuseStorage count) answer c = arms_grow (OtherMayAdd (command_is.RefuseStorage count)) peer_is.Storage count c.0 c.1
  other_grows (command_is.Step count) answer c = works_for_grow count answer c
  other_grows command_is.Settle answer c = settles_grow answer c
  other_grows command_is.Lose answer c = exec_grows (OtherMayAdd command_is.Lose) old new (ap (λ (s : Scene). s.exec) c.1.1)
  other_grows command_is.Repeat answer c = repeats_grow (OtherMayAdd command_is.Repeat) c.0 c.1
  other_grows command_is.Balance answer c = balances_grow answer c
  other_grows command_is.Procs answer c = scene_grows (OtherMayAdd command_is.Procs) old new c.1
  other_grows command_is.ProcsJson answer c = scene_grows (OtherMayAdd command_is.ProcsJson) old new c.1
  other_grows command_is.Regions answer c = scene_grows (OtherMayAdd command_is.Regions) old new c.1
  other_grows command_is.Locks answer c = scene_grows (OtherMayAdd command_is.Locks) old new c.1
  other_grows command_is.Servers answer c = scene_grows (OtherMayAdd command_is.Servers) old new c.1
  other_grows command answer c = absurd c

  at_grows : (command : Command) (answer : Option Answer) → ComesAt command old answer new → Grows (MayAdd command) (kept_at old) (kept_at new)
  at_grows command answer = by (asked command)
    where
      by : (ask : Option (Nonce × Request)) → MatchOption ask (ComesOther command old answer new) (λ ask. Submits ask.0 ask.1 old answer new)
          → Grows (λ entry. MatchOption ask (OtherMayAdd command entry) (λ ask. entry ≡ entry_is.Submit ask.0 ask.1)) (kept_at old) (kept_at new)
      by None c = other_grows command answer c
      by (Some ask) c = submit_grows ask.0 ask.1 old.exec new.exec c.0 c.1

  -- what becomes of a command adds what it may add
  pub comes_grows : (command : Command) (answer : Option Answer) → Comes command old answer new → Grows (MayAdd command) (kept_at old) (kept_at new)
  comes_grows command answer = by (halt_at old)
    where
      by : (halted : Option Halt) → MatchOption halted (ComesAt command old answer new) (λ why. (answer ≡ Some (answer_is.Halted why)) × (new ≡ old)) → Grows (MayAdd command) (kept_at old) (kept_at new)
      by None c = at_grows command answer c
      by (Some why) c = scene_grows (MayAdd command) old new c.1
