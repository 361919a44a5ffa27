-- Whatever each thing that can happen keeps, commands keep.
use Rattle.std.proofs.Common.{◌≡◌, ◌+◌, ℕ, zero, suc, List, [], ◌∷◌, ◌++◌, cond, Bool, true, false, Option, Some, None, Result, Ok, Err, refl, sym, ap, ◌∙◌, subst, inl, inr}
use Rattle.std.specs.Prelude.{MatchOption}
use Rattle.hm_names.specs.Server.{Server}
use Rattle.hm_names.specs.declared.nonce.Nonce.{Nonce}
use Rattle.hm_names.specs.declared.pid.Pid.{Pid}
use Rattle.hm_data.specs.declared.call.Call.{Call}
use Rattle.hm_data.specs.declared.call.Peer.{Peer}
use Rattle.hm_data.specs.declared.call.Peer.TheVariants as peer_is
use Rattle.hm_data.specs.declared.call.ReportMsg.{ReportMsg}
use Rattle.hm_data.specs.declared.entry.Entry.{Entry}
use Rattle.hm_data.specs.declared.entry.Entry.TheVariants as entry_is
use Rattle.hm_data.specs.declared.request.Request.{Request}
use Rattle.hm_data.specs.declared.request.Request.TheVariants as request_is
use Rattle.hm_data.specs.declared.step.StepIn.{StepIn}
use Rattle.hm_data.specs.declared.step.StepOut.{StepOut}
use Rattle.hm_data.specs.declared.step.Turn.{Turn}
use Rattle.hm_data.specs.declared.step.Turn.TheVariants as turn_is
use Rattle.hm_hall.specs.Recording.{Recording}
use Rattle.hm_hall.specs.declared.fault.Halt.{Halt}
use Rattle.hm_hall.specs.declared.fault.HallFault.{HallFault}
use Rattle.hm_hall.specs.declared.fault.HallFault.TheVariants as fault_is
use Rattle.hm_hall.specs.declared.taken.Given.TheVariants as given_is
use Rattle.hm_hall.specs.declared.taken.Taken.{Taken}
use Rattle.hm_refusals.specs.Reports.{IsHeard}
use Rattle.hm_exec.specs.Claiming.{AnswersCommit, PutsBack, entry_by, entry_of}
use Rattle.hm_exec.specs.Hearing.{AnswersReport, report_entry}
use Rattle.hm_exec.specs.declared.answers.Heard.{Heard}
use Rattle.hm_exec.specs.declared.answers.Heard.TheVariants as heard_is
use Rattle.hm_exec.specs.declared.answers.UpWhy.{UpWhy}
use Rattle.hm_exec.specs.declared.answers.UpWhy.TheVariants as up_why
use Rattle.hm_script.specs.declared.command.Command.{Command}
use Rattle.hm_script.specs.declared.command.Command.TheVariants as command_is
use Rattle.hm_world_model.specs.Outside.{armed, delivered, died, report_to, started, with_report, with_sent}
use Rattle.hm_world.specs.Acts.{Arms, Dies, Repeats, Starts}
use Rattle.hm_world.specs.Carrying.{Carries, CarriesBy, OnlyExec}
use Rattle.hm_world.specs.Scene.{Scene, past_in}
use Rattle.hm_world.specs.Taking.{Gives, Returns, Takes}
use Rattle.hm_hall.specs.declared.hall.Task.TheVariants as task_is
use Rattle.hm_commands.specs.Balancing.{no_nonce}
use Rattle.hm_commands.specs.Commands.{Comes, ComesAt, ComesOther, Expires, OtherMayAdd, Settles, WorksFor, asked}
use Rattle.hm_commands.specs.Scenes.{halt_at, journal_at, kept_at}
use Rattle.hm_commands.specs.Submissions.{Submits}
use Rattle.hm_commands.specs.Telling.{told_arming}
use Rattle.hm_commands.specs.Tasks.{Breaks, LacksMemory, Tasks}
use Rattle.hm_commands.specs.declared.answer.Answer.{Answer}
use Rattle.hm_commands.specs.declared.answer.Answer.TheVariants as answer_is
use Rattle.hm_commands.proofs.Moving.{balances_only}
use Rattle.hm_commands.proofs.Growth.{Grows, faults_grow, kept_grows, other_grows, recorded_grows, submit_grows}
use Rattle.hm_terms.specs.Refusals.{granted, is_called}

-- no report
abbrev pub IsSilent : Entry → Type 0
IsSilent (entry_is.Report call told) = ⊥
IsSilent (entry_is.Base part) = ⊥
IsSilent entry = Unit {0}

-- no report was added
abbrev pub IsQuiet : Scene → Scene → Type 0
IsQuiet old new = Grows IsSilent (kept_at old) (kept_at new)

silent_as : (entry other : Entry) → entry ≡ other → IsSilent other → IsSilent entry
silent_as entry other same silent = subst IsSilent (sym same) silent

grows_silent : (P : Entry → Type 0) → ((entry : Entry) → P entry → IsSilent entry) → (old new : Recording) → Grows P old new → Grows IsSilent old new
grows_silent P silent old new grows = record {
  added = grows.added;
  each = λ k entry within. silent _ (grows.each k entry within);
  grown = grows.grown;
  soft = grows.soft;
  hard = grows.hard;
  full = grows.full;
}

-- what is kept, with how often this one is to refuse in all
module _ (peer : Peer) (I : ℕ → Scene → Type 0) where
  -- whatever can happen keeps it
  pub record IsKept : Type 0 where
    pub more : (n m : ℕ) (at : Scene) → I n at → I (n + m) at
    pub quiet : (n : ℕ) (old new : Scene) → IsQuiet old new → OnlyExec old new → I n old → I n new
    pub heard : (n : ℕ) (report : ReportMsg) (rest : List ReportMsg) (old new : Scene) → old.waiting ≡ report ∷ rest → IsHeard (past_in old) report
        → journal_at new ≡ journal_at old ++ report_entry report ∷ [] → new ≡ record old { exec = new.exec; waiting = rest } → I n old → I n new
    pub ignored : (n : ℕ) (report : ReportMsg) (rest : List ReportMsg) (old new : Scene) → old.waiting ≡ report ∷ rest → IsQuiet old new
        → new ≡ record old { exec = new.exec; waiting = rest } → I n old → I n new
    pub delivered_on : (n : ℕ) (call : Call) (rest : List Call) (old new : Scene) → old.wire ≡ call ∷ rest
        → new ≡ record old { outside = delivered old.outside call; wire = rest; waiting = with_report old.waiting (report_to old.outside call) } → I n old → I n new
    pub sent_on : (n : ℕ) (call : Call) (old new : Scene) → old.wire ≡ [] → new ≡ record old { outside = with_sent old.outside call; wire = call ∷ [] } → I n old → I n new
    pub started_on : (n : ℕ) (server : Server) (old new : Scene) → IsQuiet old new → new ≡ record old { exec = new.exec; outside = started old.outside server } → I n old → I n new
    pub died_on : (n : ℕ) (server : Server) (old new : Scene) → new ≡ record old { outside = died old.outside server } → I n old → I n new
    pub armed_on : (n : ℕ) (to : Peer) (count : ℕ) (old new : Scene) → new ≡ record old { outside = armed old.outside to count } → I n old
        → I (n + cond (is_called peer (Some to)) count 0) new
    pub lost_on : (n : ℕ) (old new : Scene) → new ≡ record old { wire = []; waiting = [] } → I n old → I n new
    pub repeated_on : (n : ℕ) (old new : Scene) → new ≡ record old { wire = old.wire ++ old.outside.sent; waiting = old.waiting ++ old.outside.reports } → I n old → I n new

-- a step, or what undoes one, is no report
entry_silent : (turn : Turn) (p : ℕ) (was : StepIn) (out : StepOut) → IsSilent (entry_by turn p was out)
entry_silent turn_is.Step p was out = tt
entry_silent (turn_is.Undo edits) p was out = tt

taken_silent : (taken : Taken) (out : StepOut) → IsSilent (entry_of taken out)
taken_silent taken out = entry_silent taken.was.turn taken.pid.0 taken.was out

-- recording a handler's answer
module _ (mid new : Scene) (taken : Taken) (out : StepOut) where
  back_quiet : (late : Scene) → IsQuiet mid late → kept_at new ≡ kept_at late → IsQuiet mid new
  back_quiet late grows same = subst (λ (k : Recording). Grows IsSilent (kept_at mid) k) (sym same) grows

  refused_quiet : (fault : HallFault) (late : Scene) → AnswersCommit mid.exec taken out (Err (taken, fault)) late.exec → PutsBack late.exec taken new.exec → IsQuiet mid new
  refused_quiet (fault_is.Halted why) late r back = back_quiet late (kept_grows IsSilent mid.exec late.exec r.1.1) back.0
  refused_quiet fault_is.Memory late r back = back_quiet late (kept_grows IsSilent mid.exec late.exec r.1.1) back.0
  refused_quiet fault_is.LogFault late r back = back_quiet late (faults_grow IsSilent mid.exec late.exec (entry_of taken out) fault_is.LogFault r.1.1) back.0
  refused_quiet (fault_is.JournalFull bytes) late r back = back_quiet late (faults_grow IsSilent mid.exec late.exec (entry_of taken out) (fault_is.JournalFull bytes) r.1.1) back.0

only_on : (old mid new : Scene) → OnlyExec old mid → OnlyExec mid new → OnlyExec old new
only_on old mid new one two = subst (λ (s : Scene). new ≡ record s { exec = new.exec }) one two

-- commands that do no tasks
abbrev IsCalm : Command → Type 0
IsCalm (command_is.Step count) = ⊥
IsCalm command_is.Settle = ⊥
IsCalm command = Unit {0}

-- their entries are no reports
other_silent : (command : Command) → IsCalm command → (entry : Entry) → OtherMayAdd command entry → IsSilent entry
other_silent (command_is.Abort pid) calm entry may = silent_as entry (entry_is.Abort pid) may tt
other_silent (command_is.Server server) calm entry (inl up) = silent_as entry (entry_is.Up server) up tt
other_silent (command_is.Server server) calm entry (inr down) = silent_as entry (entry_is.Down down.0) down.1 tt
other_silent (command_is.Expire server) calm entry may = silent_as entry (entry_is.Down server) may tt
other_silent (command_is.Step count) calm entry may = absurd calm
other_silent command_is.Settle calm entry may = absurd calm
other_silent command_is.Balance calm entry may = silent_as entry (entry_is.Submit no_nonce (request_is.Move may.0 (Some may.1))) may.2 tt
other_silent command calm entry may = absurd may

calm_quiet : (command : Command) (old : Scene) (answer : Option Answer) (new : Scene) → IsCalm command → ComesOther command old answer new → IsQuiet old new
calm_quiet command old answer new calm c = grows_silent (OtherMayAdd command) (other_silent command calm) (kept_at old) (kept_at new) (other_grows old new command answer c)

module _ (peer : Peer) (I : ℕ → Scene → Type 0) (k : IsKept peer I) where
  module _ (n : ℕ) (old : Scene) (w : I n old) where
    stays_same : (new : Scene) → new ≡ old → I n new
    stays_same new same = subst (λ (s : Scene). I n s) (sym same) w

    exec_same : (new : Scene) → new.exec ≡ old.exec → IsQuiet old new
    exec_same new same = kept_grows IsSilent old.exec new.exec same

    -- a procedure was claimed, and then this was added for it
    claimed_on : (taken : Taken) (mid new : Scene) → Takes old (Ok (task_is.Run taken)) mid → IsQuiet mid new → OnlyExec mid new → I n new
    claimed_on taken mid new takes grows only =
        let same : kept_at mid ≡ kept_at old = takes.0.3 in
        k.quiet n old new (subst (λ (r : Recording). Grows IsSilent r (kept_at new)) same grows) (only_on old mid new takes.1 only) w

    -- its step
    step_on : (taken : Taken) (out : StepOut) (number : ℕ) (mid new : Scene) → Takes old (Ok (task_is.Run taken)) mid → Gives mid taken out (Ok (given_is.Kept number)) new → I n new
    step_on taken out number mid new takes gives =
        claimed_on taken mid new takes (recorded_grows IsSilent (kept_at mid) (kept_at new) (entry_of taken out) number (taken_silent taken out) gives.0.3) gives.1

    -- nothing
    unstepped_on : (taken : Taken) (out : StepOut) (fault : HallFault) (mid late new : Scene) → Takes old (Ok (task_is.Run taken)) mid → Gives mid taken out (Err (taken, fault)) late → Returns late taken new
        → I n new
    unstepped_on taken out fault mid late new takes gives back =
        claimed_on taken mid new takes (refused_quiet mid new taken out fault late gives.0 back.0) (only_on mid late new gives.1 back.1)

    -- a report is heard
    heard_on : (report : ReportMsg) (rest : List ReportMsg) (new : Scene) (heard : Heard) → old.waiting ≡ report ∷ rest → AnswersReport old.exec report (Ok heard) new.exec
        → new ≡ record old { exec = new.exec; waiting = rest } → I n new
    heard_on report rest new (heard_is.Accepted number) waits a is = k.heard n report rest old new waits a.0 (ap (λ (r : Recording). r.entries) a.2.3) is w
    heard_on report rest new (heard_is.Ignored why) waits a is = k.ignored n report rest old new waits (exec_same new a.2) is w

    report_failed : (report : ReportMsg) (fault : HallFault) (new : Scene) → AnswersReport old.exec report (Err fault) new.exec → OnlyExec old new → I n new
    report_failed report fault new a only = k.quiet n old new (by fault a) only w
      where
        by : (fault : HallFault) → AnswersReport old.exec report (Err fault) new.exec → IsQuiet old new
        by (fault_is.Halted why) a = kept_grows IsSilent old.exec new.exec a.1
        by fault_is.LogFault a = faults_grow IsSilent old.exec new.exec (report_entry report) fault_is.LogFault a.1
        by (fault_is.JournalFull b) a = faults_grow IsSilent old.exec new.exec (report_entry report) (fault_is.JournalFull b) a.1
        by fault_is.Memory a = faults_grow IsSilent old.exec new.exec (report_entry report) fault_is.Memory a.1

    carries_on : (new : Scene) (result : Result Bool HallFault) → Carries old result new → I n new
    carries_on new result = by old.waiting old.wire result refl refl
      where
        by : (waiting : List ReportMsg) (wire : List Call) (result : Result Bool HallFault) → old.waiting ≡ waiting → old.wire ≡ wire → CarriesBy waiting wire old result new → I n new
        by (report ∷ rest) wire (Ok true) e f c = heard_on report rest new c.0.0 e c.0.1 c.1
        by (report ∷ rest) wire (Ok false) e f c = absurd c
        by (report ∷ rest) wire (Err fault) e f c = report_failed report fault new c.0 c.1
        by [] wire (Err (fault_is.Halted why)) e f c = k.quiet n old new (exec_same new c.0.1) c.1 w
        by [] wire (Err fault_is.Memory) e f c = stays_same new c.1
        by [] wire (Err fault_is.LogFault) e f c = absurd c
        by [] wire (Err (fault_is.JournalFull b)) e f c = absurd c
        by [] (call ∷ rest) (Ok true) e f c = k.delivered_on n call rest old new f c.1 w
        by [] (call ∷ rest) (Ok false) e f c = absurd c
        by [] [] (Ok true) e f c = k.sent_on n c.1 old new f c.3 w
        by [] [] (Ok false) e f c = stays_same new c.2

    -- a task halts the run
    halts_on : (why : Halt) (new : Scene) → Breaks old why new → I n new
    halts_on why new (inl s) = unstepped_on s.taken s.runs.0 s.runs.2.0 s.mid s.runs.2.1 new s.takes s.runs.2.2 s.runs.2.3
    halts_on why new (inr c) = carries_on new (Err c.1.0) c.1.1

  -- some tasks
  tasks_on : (n count : ℕ) (old new : Scene) → Tasks count old new → I n old → I n new
  tasks_on n zero old new t w = stays_same n old w new t
  tasks_on n (suc count) old new (mid, inl s, later) w = tasks_on n count mid new later (step_on n old w s.taken s.runs.0 s.runs.2.0 s.mid mid s.takes s.runs.2.1)
  tasks_on n (suc count) old new (mid, inr c, later) w = tasks_on n count mid new later (carries_on n old w mid (Ok true) c.1)

  module _ (n : ℕ) (old : Scene) (w : I n old) (new : Scene) where
    breaks_on : (count : ℕ) (mid : Scene) (why : Halt) → Tasks count old mid → Breaks mid why new → I n new
    breaks_on count mid why t b = halts_on n mid (tasks_on n count old mid t w) why new b

    lacks_on : (count : ℕ) (mid : Scene) → Tasks count old mid → LacksMemory mid new → I n new
    lacks_on count mid t l = stays_same n mid (tasks_on n count old mid t w) new l.2

    works_for_on : (most : ℕ) (answer : Option Answer) → WorksFor most old answer new → I n new
    works_for_on most (Some (answer_is.Stepped count at)) c = tasks_on n count old new c.0 w
    works_for_on most (Some (answer_is.Halted why)) c = breaks_on c.0 c.1 why c.2 c.4
    works_for_on most (Some answer) c = absurd c
    works_for_on most None c = lacks_on c.0 c.1 c.2 c.4

    settles_on : (answer : Option Answer) → Settles old answer new → I n new
    settles_on (Some (answer_is.Settled at)) s = tasks_on n s.0.0.0 old new s.0.0.1 w
    settles_on (Some (answer_is.Waiting at roots)) s = tasks_on n s.0.0.0 old new s.0.0.1 w
    settles_on (Some (answer_is.Halted why)) s = breaks_on s.0 s.1 why s.2 s.3
    settles_on (Some answer) s = absurd s
    settles_on None s = lacks_on s.0 s.1 s.2 s.3

    same_as : new ≡ old → I n new
    same_as same = stays_same n old w new same

    starts_on : (server : Server) (result : Result (Option (Server × Pid)) UpWhy) → IsQuiet old new → Starts old server result new → I n new
    starts_on server (Ok down) quiet s = k.started_on n server old new quiet s.1 w
    starts_on server (Err (up_why.Up why)) quiet s = k.quiet n old new quiet s.1 w
    starts_on server (Err (up_why.Fault fault_is.LogFault)) quiet s = k.quiet n old new quiet s.1 w
    starts_on server (Err (up_why.Fault (fault_is.JournalFull b))) quiet s = k.quiet n old new quiet s.1 w
    starts_on server (Err (up_why.Fault (fault_is.Halted why))) quiet s = k.quiet n old new quiet s.1 w
    starts_on server (Err (up_why.Fault fault_is.Memory)) quiet s = k.quiet n old new quiet s.1 w

    dies_on : (server : Server) (ran : Bool) → Dies old server ran new → I n new
    dies_on server true d = k.died_on n server old new d.1 w
    dies_on server false d = same_as d.1

    repeats_on : (result : Result ℕ HallFault) → Repeats old result new → I n new
    repeats_on (Ok count) r = k.repeated_on n old new r.1.1 w
    repeats_on (Err (fault_is.Halted why)) r = k.quiet n old new (kept_grows IsSilent old.exec new.exec r.0.1) r.1 w
    repeats_on (Err fault_is.Memory) r = same_as r.1
    repeats_on (Err fault_is.LogFault) r = absurd r
    repeats_on (Err (fault_is.JournalFull b)) r = absurd r

    more_on : (m : ℕ) → I n new → I (n + m) new
    more_on m on = k.more n m new on

    -- somebody is to refuse: exactly where that is answered so, so much is granted
    refuses_on : (to : Peer) (count : ℕ) (command : Command) → granted peer command (Some answer_is.Armed) ≡ cond (is_called peer (Some to)) count 0
        → (result : Result Bool Halt) (answer : Option Answer) → Arms old to count result new → answer ≡ told_arming result → I (n + granted peer command answer) new
    refuses_on to count command grants (Ok true) answer a told =
        subst (λ m. I (n + m) new) (sym (ap (granted peer command) told ∙ grants)) (k.armed_on n to count old new a.2 w)
    refuses_on to count command grants (Ok false) answer a told = more_on (granted peer command answer) (same_as a.2)
    refuses_on to count command grants (Err why) answer a told =
        more_on (granted peer command answer) (k.quiet n old new (kept_grows IsSilent old.exec new.exec a.0.1) a.1 w)

    other_on : (command : Command) (answer : Option Answer) → ComesOther command old answer new → I (n + granted peer command answer) new
    other_on (command_is.Abort pid) answer c = more_on (granted peer (command_is.Abort pid) answer) (k.quiet n old new (calm_quiet (command_is.Abort pid) old answer new tt c) c.2 w)
    other_on (command_is.Server server) answer c = more_on (granted peer (command_is.Server server) answer) (starts_on server c.0 (calm_quiet (command_is.Server server) old answer new tt c) c.1)
    other_on (command_is.Die server) answer c = more_on (granted peer (command_is.Die server) answer) (dies_on server c.0 c.1)
    other_on (command_is.Expire server) answer c = more_on (granted peer (command_is.Expire server) answer) (k.quiet n old new (calm_quiet (command_is.Expire server) old answer new tt c) c.2 w)
    other_on (command_is.Refuse server count) answer c = refuses_on (peer_is.Server server) count (command_is.Refuse server count) refl c.0 answer c.1 c.2
    other_on (command_is.RefuseStorage count) answer c = refuses_on peer_is.Storage count (command_is.RefuseStorage count) refl c.0 answer c.1 c.2
    other_on (command_is.Step count) answer c = more_on (granted peer (command_is.Step count) answer) (works_for_on count answer c)
    other_on command_is.Settle answer c = more_on (granted peer command_is.Settle answer) (settles_on answer c)
    other_on command_is.Lose answer c = more_on (granted peer command_is.Lose answer) (k.lost_on n old new c.1.1 w)
    other_on command_is.Repeat answer c = more_on (granted peer command_is.Repeat answer) (repeats_on c.0 c.1)
    other_on command_is.Balance answer c =
        more_on (granted peer command_is.Balance answer) (k.quiet n old new (calm_quiet command_is.Balance old answer new tt c) (balances_only old new answer c) w)
    other_on command_is.Procs answer c = more_on (granted peer command_is.Procs answer) (same_as c.1)
    other_on command_is.ProcsJson answer c = more_on (granted peer command_is.ProcsJson answer) (same_as c.1)
    other_on command_is.Regions answer c = more_on (granted peer command_is.Regions answer) (same_as c.1)
    other_on command_is.Locks answer c = more_on (granted peer command_is.Locks answer) (same_as c.1)
    other_on command_is.Servers answer c = more_on (granted peer command_is.Servers answer) (same_as c.1)
    other_on command answer c = absurd c

    submits_on : (nonce : Nonce) (request : Request) (answer : Option Answer) → Submits nonce request old answer new → I n new
    submits_on nonce request answer c =
        k.quiet n old new
        (grows_silent (λ entry. entry ≡ entry_is.Submit nonce request) (λ entry is. silent_as entry (entry_is.Submit nonce request) is tt) (kept_at old) (kept_at new)
        (submit_grows nonce request old.exec new.exec c.0 c.1)) c.2 w

    at_on : (command : Command) (answer : Option Answer) → ComesAt command old answer new → I (n + granted peer command answer) new
    at_on command answer = by (asked command)
      where
        by : (ask : Option (Nonce × Request)) → MatchOption ask (ComesOther command old answer new) (λ ask. Submits ask.0 ask.1 old answer new) → I (n + granted peer command answer) new
        by None c = other_on command answer c
        by (Some ask) c = more_on (granted peer command answer) (submits_on ask.0 ask.1 answer c)

    -- a command keeps it
    pub comes_on : (command : Command) (answer : Option Answer) → Comes command old answer new → I (n + granted peer command answer) new
    comes_on command answer = by (halt_at old)
      where
        by : (halted : Option Halt) → MatchOption halted (ComesAt command old answer new) (λ why. (answer ≡ Some (answer_is.Halted why)) × (new ≡ old)) → I (n + granted peer command answer) new
        by None c = at_on command answer c
        by (Some why) c = more_on (granted peer command answer) (same_as c.1)

    -- so it does where a server is held to be dead, for no command
    pub expires_on : (server : Server) (answer : Option Answer) → Expires server old answer new → I n new
    expires_on server answer c = k.quiet n old new (calm_quiet (command_is.Expire server) old answer new tt c) c.2 w
