-- An entry whose recording failed is one that its command may add, and halted the run.
use Rattle.std.proofs.Common.{◌≡◌, ◌⊎◌, ℕ, zero, suc, Bool, true, false, List, [], ◌∷◌, Option, Some, None, Result, Ok, Err, refl, sym, ap, ◌∙◌, subst, inl, inr}
use Rattle.std.specs.Prelude.{MatchOption}
use Rattle.std.proofs.lemmas.Option.{none-some}
use Rattle.hm_names.specs.Server.{Server}
use Rattle.hm_names.specs.declared.nonce.Nonce.{Nonce}
use Rattle.hm_names.specs.declared.pid.Pid.{Pid}
use Rattle.hm_data.specs.declared.call.Call.{Call}
use Rattle.hm_data.specs.declared.call.Peer.{Peer}
use Rattle.hm_data.specs.declared.call.Peer.TheVariants as peer_is
use Rattle.hm_data.specs.declared.call.ReportMsg.{ReportMsg}
use Rattle.hm_data.specs.declared.entry.Entry.{Entry}
use Rattle.hm_data.specs.declared.entry.Entry.TheVariants as entry_is
use Rattle.hm_data.specs.declared.request.Request.{Request}
use Rattle.hm_data.specs.declared.request.Request.TheVariants as request_is
use Rattle.hm_data.specs.declared.step.StepOut.{StepOut}
use Rattle.hm_hall.specs.Recording.{Recording, Records}
use Rattle.hm_hall.specs.declared.fault.Halt.{Halt}
use Rattle.hm_hall.specs.declared.fault.Halt.TheVariants as halt_is
use Rattle.hm_hall.specs.declared.fault.HallFault.{HallFault}
use Rattle.hm_hall.specs.declared.fault.HallFault.TheVariants as fault_is
use Rattle.hm_hall.specs.declared.taken.Taken.{Taken}
use Rattle.hm_refusals.specs.declared.aborts.AbortRefused.{AbortRefused}
use Rattle.hm_refusals.specs.declared.aborts.AbortRefused.TheVariants as abort_is
use Rattle.hm_refusals.specs.declared.submissions.Refused.{Refused}
use Rattle.hm_refusals.specs.declared.submissions.Refused.TheVariants as refused_is
use Rattle.hm_exec.specs.Claiming.{AnswersCommit, PutsBack, entry_of}
use Rattle.hm_exec.specs.Fleet.{AnswersDown, AnswersUp, FaultsCopying, FaultsFirst, PutsDown}
use Rattle.hm_exec.specs.Hearing.{AnswersReport, report_entry}
use Rattle.hm_exec.specs.Moment.{FaultsAt, IsAdded, IsFault, Moment}
use Rattle.hm_exec.specs.Submitting.{AnswersAbort, AnswersSubmit}
use Rattle.hm_exec.specs.declared.answers.Accepted.{Accepted}
use Rattle.hm_exec.specs.declared.answers.DownWhy.{DownWhy}
use Rattle.hm_exec.specs.declared.answers.DownWhy.TheVariants as down_why
use Rattle.hm_exec.specs.declared.answers.Heard.{Heard}
use Rattle.hm_exec.specs.declared.answers.Heard.TheVariants as heard_is
use Rattle.hm_exec.specs.declared.answers.UpWhy.{UpWhy}
use Rattle.hm_exec.specs.declared.answers.UpWhy.TheVariants as up_why
use Rattle.hm_script.specs.declared.command.Command.{Command}
use Rattle.hm_script.specs.declared.command.Command.TheVariants as command_is
use Rattle.hm_world.specs.Acts.{Arms, Dies, Repeats, Starts}
use Rattle.hm_world.specs.Carrying.{Carries, CarriesBy}
use Rattle.hm_world.specs.Scene.{Scene}
use Rattle.hm_commands.specs.Balancing.{AreRecorded, Balances, Ends, HaltsAt, MayTry, SubmitsMove, no_nonce}
use Rattle.hm_commands.specs.Commands.{ComesAt, ComesOther, IsMove, IsWork, MayAdd, OtherMayAdd, Settles, WorksFor, asked}
use Rattle.hm_commands.specs.Scenes.{halt_at, kept_at}
use Rattle.hm_commands.specs.Submissions.{Submits}
use Rattle.hm_commands.specs.Tasks.{Becomes, Breaks, LacksMemory, Steps, Tasks, Works}
use Rattle.hm_commands.specs.declared.answer.Answer.{Answer}
use Rattle.hm_commands.specs.declared.answer.Answer.TheVariants as answer_is
use Rattle.hm_commands.specs.declared.tasks.Worked.{Worked}
use Rattle.hm_commands.specs.declared.tasks.Worked.TheVariants as worked_is
use Rattle.hm_commands.proofs.Growth.{done_going, is_work, recorded_going, recorded_grow, tasks_going, told_going}
use Rattle.hm_moves.specs.declared.moving.Move.{Move}

-- the entry whose recording failed is the same as before; or it is such an entry, and a fault of the log halted the run at it
abbrev pub Fails : (Entry → Type 0) → Recording → Recording → Type 0
Fails P old new = (new.tail ≡ old.tail) ⊎ ((entry : Entry) × P entry × (new.tail ≡ Some entry) × (new.halted ≡ Some halt_is.LogFault))

module _ (P : Entry → Type 0) where
  -- one after another, where nothing halted between
  fails_on : (a b c : Recording) → b.halted ≡ None → Fails P a b → Fails P b c → Fails P a c
  fails_on a b c going (inl same) (inl then) = inl (then ∙ same)
  fails_on a b c going (inl same) (inr failed) = inr failed
  fails_on a b c going (inr failed) then = absurd (none-some halt_is.LogFault (sym going ∙ failed.3))

  recorded_fails : (old new : Recording) (entry : Entry) (number : ℕ) → Records old entry (Ok number) new → Fails P old new
  recorded_fails old new entry number r = inl (ap (λ (k : Recording). k.tail) r.3)

  module _ (old new : Moment) where
    kept_fails : new ≡ old → Fails P old.kept new.kept
    kept_fails same = inl (ap (λ (m : Moment). m.kept.tail) same)

    added_fails : (entry : Entry) → IsAdded old entry new → Fails P old.kept new.kept
    added_fails entry a = recorded_fails old.kept new.kept entry a.2.0 a.2.1

    fault_fails : (entry : Entry) (fault : HallFault) → P entry → IsFault old entry fault new → Fails P old.kept new.kept
    fault_fails entry fault_is.LogFault p f = inr (entry, p, ap (λ (k : Recording). k.tail) f.0.2, ap (λ (k : Recording). k.halted) f.0.2)
    fault_fails entry (fault_is.JournalFull b) p f = inl (ap (λ (k : Recording). k.tail) f.0.3)
    fault_fails entry (fault_is.Halted why) p f = absurd f
    fault_fails entry fault_is.Memory p f = kept_fails f.1

    faults_fail : (entry : Entry) (fault : HallFault) → P entry → FaultsAt old entry fault new → Fails P old.kept new.kept
    faults_fail entry (fault_is.Halted why) p f = kept_fails f.1
    faults_fail entry fault_is.LogFault p f = fault_fails entry fault_is.LogFault p f.2
    faults_fail entry (fault_is.JournalFull b) p f = fault_fails entry (fault_is.JournalFull b) p f.2
    faults_fail entry fault_is.Memory p f = fault_fails entry fault_is.Memory p f.2

    copying_fails : (entry : Entry) (fault : HallFault) → P entry → FaultsCopying old entry fault new → Fails P old.kept new.kept
    copying_fails entry (fault_is.Halted why) p f = faults_fail entry (fault_is.Halted why) p f
    copying_fails entry fault_is.LogFault p f = faults_fail entry fault_is.LogFault p f
    copying_fails entry (fault_is.JournalFull b) p f = faults_fail entry (fault_is.JournalFull b) p f
    copying_fails entry fault_is.Memory p f = kept_fails f.2

    -- a submission
    submit_fails : (nonce : Nonce) (request : Request) (result : Result Accepted Refused) → P (entry_is.Submit nonce request) → AnswersSubmit old nonce request result new → Fails P old.kept new.kept
    submit_fails nonce request (Ok accepted) p (inl a) = added_fails (entry_is.Submit nonce request) a.3
    submit_fails nonce request (Ok accepted) p (inr a) = kept_fails a.3
    submit_fails nonce request (Err (refused_is.Halted why)) p a = kept_fails a.1
    submit_fails nonce request (Err (refused_is.BadArgs number)) p a = kept_fails a.2
    submit_fails nonce request (Err (refused_is.NonceClash pid)) p a = kept_fails a.2
    submit_fails nonce request (Err (refused_is.TooManyRegions drawn)) p a = kept_fails a.2
    submit_fails nonce request (Err (refused_is.JournalFull bytes)) p (inl a) = kept_fails a.3
    submit_fails nonce request (Err (refused_is.JournalFull bytes)) p (inr a) = fault_fails (entry_is.Submit nonce request) (fault_is.JournalFull bytes) p a.1
    submit_fails nonce request (Err refused_is.Memory) p a = fault_fails (entry_is.Submit nonce request) fault_is.Memory p a.1
    submit_fails nonce request (Err refused_is.LogFault) p a = fault_fails (entry_is.Submit nonce request) fault_is.LogFault p a.1

  -- scenes with the same executor
  exec_fails : (old new : Scene) → new.exec ≡ old.exec → Fails P (kept_at old) (kept_at new)
  exec_fails old new same = kept_fails old.exec new.exec same

  -- scenes that are the same
  scene_fails : (old new : Scene) → new ≡ old → Fails P (kept_at old) (kept_at new)
  scene_fails old new same = exec_fails old new (ap (λ (s : Scene). s.exec) same)

-- an abort
abort_fails : (pid : Pid) (old new : Moment) (result : Result Bool AbortRefused) → AnswersAbort old pid result new → Fails (λ entry. entry ≡ entry_is.Abort pid) old.kept new.kept
abort_fails pid old new result = by result
  where
    P : Entry → Type 0
    P entry = entry ≡ entry_is.Abort pid

    by : (result : Result Bool AbortRefused) → AnswersAbort old pid result new → Fails P old.kept new.kept
    by (Ok true) a = kept_fails P old new a.2
    by (Ok false) a = added_fails P old new (entry_is.Abort pid) a.1
    by (Err (abort_is.Fault (fault_is.Halted why))) a = kept_fails P old new a.1
    by (Err (abort_is.Fault fault_is.LogFault)) a = faults_fail P old new (entry_is.Abort pid) fault_is.LogFault refl a.1
    by (Err (abort_is.Fault (fault_is.JournalFull b))) a = faults_fail P old new (entry_is.Abort pid) (fault_is.JournalFull b) refl a.1
    by (Err (abort_is.Fault fault_is.Memory)) a = faults_fail P old new (entry_is.Abort pid) fault_is.Memory refl a.1
    by (Err abort_is.Unknown) a = kept_fails P old new a.2
    by (Err (abort_is.Child root)) a = kept_fails P old new a.2
    by (Err (abort_is.Finished phase)) a = kept_fails P old new a.2
    by (Err (abort_is.TooLate row)) a = kept_fails P old new a.2

-- a server that is held to be dead
down_fails : (server : Server) (old new : Moment) (result : Result Pid DownWhy) → AnswersDown old server result new → Fails (λ entry. entry ≡ entry_is.Down server) old.kept new.kept
down_fails server old new result = by result
  where
    P : Entry → Type 0
    P entry = entry ≡ entry_is.Down server

    by : (result : Result Pid DownWhy) → AnswersDown old server result new → Fails P old.kept new.kept
    by (Ok pid) a = added_fails P old new (entry_is.Down server) a.0
    by (Err (down_why.Down why)) a = kept_fails P old new a.2
    by (Err (down_why.Fault (fault_is.Halted why))) a = kept_fails P old new a.1
    by (Err (down_why.Fault fault_is.LogFault)) a = copying_fails P old new (entry_is.Down server) fault_is.LogFault refl a.1
    by (Err (down_why.Fault (fault_is.JournalFull b))) a = copying_fails P old new (entry_is.Down server) (fault_is.JournalFull b) refl a.1
    by (Err (down_why.Fault fault_is.Memory)) a = copying_fails P old new (entry_is.Down server) fault_is.Memory refl a.1

-- a server that comes up
module _ (server : Server) where
  abbrev P : Entry → Type 0
  P = OtherMayAdd (command_is.Server server)

  module _ (old new : Moment) where
    two_fail : (older : Server) (between : Moment) → IsAdded old (entry_is.Down older) between → Fails P between.kept new.kept → Fails P old.kept new.kept
    two_fail older between down more =
        fails_on P old.kept between.kept new.kept (recorded_going old.kept between.kept (entry_is.Down older) down.2.0 down.2.1) (added_fails P old between (entry_is.Down older) down) more

    first_fails : (fault : HallFault) → FaultsFirst old server fault new → Fails P old.kept new.kept
    first_fails fault (inl alone) = copying_fails P old new (entry_is.Up server) fault (inl refl) alone.1
    first_fails fault (inr older) = copying_fails P old new (entry_is.Down older.0) fault (inr (older.0, refl)) older.2

    fault_up : (fault : HallFault) → (FaultsFirst old server fault new ⊎ ((older : Server) × (pid : Pid) × (between : Moment) × PutsDown old server older pid between × FaultsAt between (entry_is.Up server) fault new)) → Fails P old.kept new.kept
    fault_up fault (inl first) = first_fails fault first
    fault_up fault (inr late) = two_fail late.0 late.2 late.3.1 (faults_fail P late.2 new (entry_is.Up server) fault (inl refl) late.4)

    up_fails : (result : Result (Option (Server × Pid)) UpWhy) → AnswersUp old server result new → Fails P old.kept new.kept
    up_fails (Ok None) a = added_fails P old new (entry_is.Up server) a.2
    up_fails (Ok (Some (older, pid))) a = two_fail older a.1 a.2.1 (added_fails P a.1 new (entry_is.Up server) a.3)
    up_fails (Err (up_why.Up why)) a = kept_fails P old new a.2
    up_fails (Err (up_why.Fault (fault_is.Halted why))) a = kept_fails P old new a.1
    up_fails (Err (up_why.Fault fault_is.LogFault)) a = fault_up fault_is.LogFault a.1
    up_fails (Err (up_why.Fault (fault_is.JournalFull b))) a = fault_up (fault_is.JournalFull b) a.1
    up_fails (Err (up_why.Fault fault_is.Memory)) a = fault_up fault_is.Memory a.1

  start_fails : (old new : Scene) (result : Result (Option (Server × Pid)) UpWhy) → Starts old server result new → Fails P (kept_at old) (kept_at new)
  start_fails old new (Ok down) s = up_fails old.exec new.exec (Ok down) s.0
  start_fails old new (Err (up_why.Up why)) s = up_fails old.exec new.exec (Err (up_why.Up why)) s.0
  start_fails old new (Err (up_why.Fault fault_is.LogFault)) s = up_fails old.exec new.exec (Err (up_why.Fault fault_is.LogFault)) s.0
  start_fails old new (Err (up_why.Fault (fault_is.JournalFull b))) s = up_fails old.exec new.exec (Err (up_why.Fault (fault_is.JournalFull b))) s.0
  start_fails old new (Err (up_why.Fault (fault_is.Halted why))) s = up_fails old.exec new.exec (Err (up_why.Fault (fault_is.Halted why))) s.0
  start_fails old new (Err (up_why.Fault fault_is.Memory)) (inl a, rest) = up_fails old.exec new.exec (Err (up_why.Fault fault_is.Memory)) a
  start_fails old new (Err (up_why.Fault fault_is.Memory)) (inr a, rest) = exec_fails P old new a.2

-- a report
report_fails : (report : ReportMsg) (old new : Moment) (result : Result Heard HallFault) → AnswersReport old report result new → Fails IsWork old.kept new.kept
report_fails report old new (Ok (heard_is.Accepted number)) a = added_fails IsWork old new (report_entry report) a.1
report_fails report old new (Ok (heard_is.Ignored why)) a = kept_fails IsWork old new a.2
report_fails report old new (Err (fault_is.Halted why)) a = kept_fails IsWork old new a.1
report_fails report old new (Err fault_is.LogFault) a = faults_fail IsWork old new (report_entry report) fault_is.LogFault tt a.1
report_fails report old new (Err (fault_is.JournalFull b)) a = faults_fail IsWork old new (report_entry report) (fault_is.JournalFull b) tt a.1
report_fails report old new (Err fault_is.Memory) a = faults_fail IsWork old new (report_entry report) fault_is.Memory tt a.1

-- what is carried
carries_fails : (old new : Scene) (result : Result Bool HallFault) → Carries old result new → Fails IsWork (kept_at old) (kept_at new)
carries_fails old new result = by old.waiting old.wire result
  where
    by : (waiting : List ReportMsg) (wire : List Call) (result : Result Bool HallFault) → CarriesBy waiting wire old result new → Fails IsWork (kept_at old) (kept_at new)
    by (report ∷ rest) wire (Ok true) c = report_fails report old.exec new.exec (Ok c.0.0) c.0.1
    by (report ∷ rest) wire (Ok false) c = absurd c
    by (report ∷ rest) wire (Err fault) c = report_fails report old.exec new.exec (Err fault) c.0
    by [] wire (Err (fault_is.Halted why)) c = exec_fails IsWork old new c.0.1
    by [] wire (Err fault_is.Memory) c = scene_fails IsWork old new c.1
    by [] wire (Err fault_is.LogFault) c = absurd c
    by [] wire (Err (fault_is.JournalFull b)) c = absurd c
    by [] (call ∷ rest) (Ok true) c = exec_fails IsWork old new (ap (λ (s : Scene). s.exec) c.1)
    by [] (call ∷ rest) (Ok false) c = absurd c
    by [] [] (Ok true) c = exec_fails IsWork old new (ap (λ (s : Scene). s.exec) c.3)
    by [] [] (Ok false) c = scene_fails IsWork old new c.2

-- recording a handler's answer
gives_fails : (mid : Scene) (taken : Taken) (out : StepOut) (worked : Worked) (new : Scene) → Becomes mid taken out worked new → Fails IsWork (kept_at mid) (kept_at new)
gives_fails mid taken out worked_is.Done new b = recorded_fails IsWork (kept_at mid) (kept_at new) (entry_of taken out) b.0 b.1.0.3
gives_fails mid taken out (worked_is.Halted why) new b = refused_fails b.0 b.1 b.2.0 b.3.0
  where
    back_fails : (late : Scene) → Fails IsWork (kept_at mid) (kept_at late) → kept_at new ≡ kept_at late → Fails IsWork (kept_at mid) (kept_at new)
    back_fails late fails same = subst (λ (k : Recording). Fails IsWork (kept_at mid) k) (sym same) fails

    refused_fails : (fault : HallFault) (late : Scene) → AnswersCommit mid.exec taken out (Err (taken, fault)) late.exec → PutsBack late.exec taken new.exec → Fails IsWork (kept_at mid) (kept_at new)
    refused_fails (fault_is.Halted why) late r back = back_fails late (kept_fails IsWork mid.exec late.exec r.1.1) back.0
    refused_fails fault_is.Memory late r back = back_fails late (kept_fails IsWork mid.exec late.exec r.1.1) back.0
    refused_fails fault_is.LogFault late r back = back_fails late (faults_fail IsWork mid.exec late.exec (entry_of taken out) fault_is.LogFault (is_work taken out) r.1.1) back.0
    refused_fails (fault_is.JournalFull b) late r back = back_fails late (faults_fail IsWork mid.exec late.exec (entry_of taken out) (fault_is.JournalFull b) (is_work taken out) r.1.1) back.0
gives_fails mid taken out worked_is.Idle new b = absurd b

-- a step
steps_fails : (old : Scene) (worked : Worked) (new : Scene) → Steps old worked new → Fails IsWork (kept_at old) (kept_at new)
steps_fails old worked new s =
    let same : kept_at s.mid ≡ kept_at old = s.takes.0.3 in
    subst (λ (k : Recording). Fails IsWork k (kept_at new)) same (gives_fails s.mid s.taken s.runs.0 worked new s.runs.2)

-- what became of a task
works_fails : (old : Scene) (worked : Worked) (new : Scene) → Works old worked new → Fails IsWork (kept_at old) (kept_at new)
works_fails old worked_is.Done new (inl steps) = steps_fails old worked_is.Done new steps
works_fails old worked_is.Done new (inr carried) = carries_fails old new (Ok true) carried.1
works_fails old (worked_is.Halted why) new (inl steps) = steps_fails old (worked_is.Halted why) new steps
works_fails old (worked_is.Halted why) new (inr carried) = carries_fails old new (Err carried.1.0) carried.1.1
works_fails old worked_is.Idle new idle = scene_fails IsWork old new idle.1

-- some tasks
tasks_fail : (count : ℕ) (old new : Scene) → Tasks count old new → Fails IsWork (kept_at old) (kept_at new)
tasks_fail zero old new t = scene_fails IsWork old new t
tasks_fail (suc count) old new t =
    fails_on IsWork (kept_at old) (kept_at t.0) (kept_at new) (done_going old t.0 t.1) (works_fails old worked_is.Done t.0 t.1) (tasks_fail count t.0 new t.2)

-- a move that is submitted
move_fails : (move : Move) (old : Scene) (answer : Answer) (new : Scene) → SubmitsMove move old answer new → Fails IsMove (kept_at old) (kept_at new)
move_fails move old answer new s = submit_fails IsMove old.exec new.exec no_nonce (request_is.Move move.region (Some move.to)) s.0 (move.region, move.to, refl) s.1

-- moves that were recorded
moved_fail : (moved : List (Move × ℕ)) (old new : Scene) → AreRecorded moved old new → halt_at old ≡ None → Fails IsMove (kept_at old) (kept_at new)
moved_fail [] old new same going = scene_fails IsMove old new same
moved_fail (one ∷ moved) old new (mid, first, rest) going =
    let goes = told_going no_nonce (request_is.Move one.0.region (Some one.0.to)) old.exec mid.exec (halt_at mid) one.1 first.0 first.1 first.3 going in
    fails_on IsMove (kept_at old) (kept_at mid) (kept_at new) goes (move_fails one.0 old (answer_is.Pid one.1) mid first) (moved_fail moved mid new rest goes)

module _ (old new : Scene) (going : halt_at old ≡ None) where
  breaks_fail : (count : ℕ) (mid : Scene) (why : Halt) → Tasks count old mid → Breaks mid why new → Fails IsWork (kept_at old) (kept_at new)
  breaks_fail count mid why t b =
      fails_on IsWork (kept_at old) (kept_at mid) (kept_at new) (tasks_going count old mid t going) (tasks_fail count old mid t) (works_fails mid (worked_is.Halted why) new b)

  lacks_fail : (count : ℕ) (mid : Scene) → Tasks count old mid → LacksMemory mid new → Fails IsWork (kept_at old) (kept_at new)
  lacks_fail count mid t l = subst (λ (s : Scene). Fails IsWork (kept_at old) (kept_at s)) (sym l.2) (tasks_fail count old mid t)

  works_for_fail : (most : ℕ) (answer : Option Answer) → WorksFor most old answer new → Fails IsWork (kept_at old) (kept_at new)
  works_for_fail most (Some (answer_is.Stepped count at)) w = tasks_fail count old new w.0
  works_for_fail most (Some (answer_is.Halted why)) w = breaks_fail w.0 w.1 why w.2 w.4
  works_for_fail most (Some answer) w = absurd w
  works_for_fail most None w = lacks_fail w.0 w.1 w.2 w.4

  settles_fail : (answer : Option Answer) → Settles old answer new → Fails IsWork (kept_at old) (kept_at new)
  settles_fail (Some (answer_is.Settled at)) s = tasks_fail s.0.0.0 old new s.0.0.1
  settles_fail (Some (answer_is.Waiting at roots)) s = tasks_fail s.0.0.0 old new s.0.0.1
  settles_fail (Some (answer_is.Halted why)) s = breaks_fail s.0 s.1 why s.2 s.3
  settles_fail (Some answer) s = absurd s
  settles_fail None s = lacks_fail s.0 s.1 s.2 s.3

  dies_fail : (P : Entry → Type 0) (server : Server) (ran : Bool) → Dies old server ran new → Fails P (kept_at old) (kept_at new)
  dies_fail P server true d = exec_fails P old new (ap (λ (s : Scene). s.exec) d.1)
  dies_fail P server false d = scene_fails P old new d.1

  arms_fail : (P : Entry → Type 0) (peer : Peer) (count : ℕ) (result : Result Bool Halt) → Arms old peer count result new → Fails P (kept_at old) (kept_at new)
  arms_fail P peer count (Ok true) a = exec_fails P old new (ap (λ (s : Scene). s.exec) a.2)
  arms_fail P peer count (Ok false) a = scene_fails P old new a.2
  arms_fail P peer count (Err why) a = exec_fails P old new a.0.1

  repeats_fail : (P : Entry → Type 0) (result : Result ℕ HallFault) → Repeats old result new → Fails P (kept_at old) (kept_at new)
  repeats_fail P (Ok count) r = exec_fails P old new (ap (λ (s : Scene). s.exec) r.1.1)
  repeats_fail P (Err (fault_is.Halted why)) r = exec_fails P old new r.0.1
  repeats_fail P (Err fault_is.Memory) r = scene_fails P old new r.1
  repeats_fail P (Err fault_is.LogFault) r = absurd r
  repeats_fail P (Err (fault_is.JournalFull b)) r = absurd r

  ends_fail : (left : List Move) (mid : Scene) (end : Option Answer) → Ends left mid end new → Fails IsMove (kept_at mid) (kept_at new)
  ends_fail [] mid None same = scene_fails IsMove mid new same
  ends_fail [] mid (Some answer) e = absurd e
  ends_fail (move ∷ more) mid None e = absurd e
  ends_fail (move ∷ more) mid (Some answer) e = move_fails move mid answer new e.0

  halts_fail : (left : List Move) (mid : Scene) (why : Halt) → HaltsAt left mid why new → Fails IsMove (kept_at mid) (kept_at new)
  halts_fail [] mid why e = absurd e
  halts_fail (move ∷ more) mid why e = move_fails move mid (answer_is.Halted why) new e

  try_fails : (left : List Move) (mid : Scene) → MayTry left mid new → Fails IsMove (kept_at mid) (kept_at new)
  try_fails [] mid same = scene_fails IsMove mid new same
  try_fails (move ∷ more) mid (inl same) = scene_fails IsMove mid new same
  try_fails (move ∷ more) mid (inr (answer, submits)) = move_fails move mid answer new submits

  plan_fails : (moved : List (Move × ℕ)) (mid : Scene) → AreRecorded moved old mid → Fails IsMove (kept_at mid) (kept_at new) → Fails IsMove (kept_at old) (kept_at new)
  plan_fails moved mid recorded more =
      fails_on IsMove (kept_at old) (kept_at mid) (kept_at new) ((recorded_grow old mid moved old mid recorded).1 going) (moved_fail moved old mid recorded going) more

  balances_fail : (answer : Option Answer) → Balances old answer new → Fails IsMove (kept_at old) (kept_at new)
  balances_fail (Some (answer_is.Balanced lines)) b = plan_fails b.0.moved b.1 b.3.recorded (ends_fail b.0.left b.1 b.2 b.4)
  balances_fail (Some (answer_is.Halted why)) b = plan_fails b.0.moved b.1 b.2.recorded (halts_fail b.0.left b.1 why b.3)
  balances_fail (Some answer) b = absurd b
  balances_fail None (inl same) = scene_fails IsMove old new same
  balances_fail None (inr b) = plan_fails b.0.moved b.1 b.2.recorded (try_fails b.0.left b.1 b.3)

  other_fails : (command : Command) (answer : Option Answer) → ComesOther command old answer new → Fails (OtherMayAdd command) (kept_at old) (kept_at new)
  other_fails (command_is.Abort pid) answer c = abort_fails pid old.exec new.exec c.0 c.1
  other_fails (command_is.Server server) answer c = start_fails server old new c.0 c.1
  other_fails (command_is.Die server) answer c = dies_fail (OtherMayAdd (command_is.Die server)) server c.0 c.1
  other_fails (command_is.Expire server) answer c = down_fails server old.exec new.exec c.0 c.1
  other_fails (command_is.Refuse server count) answer c = arms_fail (OtherMayAdd (command_is.Refuse server count)) (peer_is.Server server) count c.0 c.1
  other_fails (command_is.RefuseStorage count) answer c = arms_fail (OtherMayAdd (command_is.RefuseStorage count)) peer_is.Storage count c.0 c.1
  other_fails (command_is.Step count) answer c = works_for_fail count answer c
  other_fails command_is.Settle answer c = settles_fail answer c
  other_fails command_is.Lose answer c = exec_fails (OtherMayAdd command_is.Lose) old new (ap (λ (s : Scene). s.exec) c.1.1)
  other_fails command_is.Repeat answer c = repeats_fail (OtherMayAdd command_is.Repeat) c.0 c.1
  other_fails command_is.Balance answer c = balances_fail answer c
  other_fails command_is.Procs answer c = scene_fails (OtherMayAdd command_is.Procs) old new c.1
  other_fails command_is.ProcsJson answer c = scene_fails (OtherMayAdd command_is.ProcsJson) old new c.1
  other_fails command_is.Regions answer c = scene_fails (OtherMayAdd command_is.Regions) old new c.1
  other_fails command_is.Locks answer c = scene_fails (OtherMayAdd command_is.Locks) old new c.1
  other_fails command_is.Servers answer c = scene_fails (OtherMayAdd command_is.Servers) old new c.1
  other_fails command answer c = absurd c

  -- what becomes of a command that isn't told of a halt
  pub at_fails : (command : Command) (answer : Option Answer) → ComesAt command old answer new → Fails (MayAdd command) (kept_at old) (kept_at new)
  at_fails command answer = by (asked command)
    where
      by : (ask : Option (Nonce × Request)) → MatchOption ask (ComesOther command old answer new) (λ ask. Submits ask.0 ask.1 old answer new)
          → Fails (λ entry. MatchOption ask (OtherMayAdd command entry) (λ ask. entry ≡ entry_is.Submit ask.0 ask.1)) (kept_at old) (kept_at new)
      by None c = other_fails command answer c
      by (Some ask) c = submit_fails (λ entry. entry ≡ entry_is.Submit ask.0 ask.1) old.exec new.exec ask.0 ask.1 c.0 refl c.1
