-- Commands keep who is called to its refusals.
use Rattle.std.proofs.Common.{◌≡◌, ◌+◌, ℕ, zero, suc, List, [], ◌∷◌, ◌++◌, All, length, Bool, true, false, ◌&&◌, cond, Option, Some, None, Result, Ok, Err, refl, sym, ap, ◌∙◌, subst, inl, inr, append-nil, append_assoc, arith}
use Rattle.std.specs.Prelude.{MatchOption}
use Rattle.std.proofs.lemmas.Bool.{false≢true}
use Rattle.std.proofs.lemmas.List.Elements.{All-head, All-tail}
use Rattle.hm_names.specs.Server.{Server}
use Rattle.hm_names.specs.declared.nonce.Nonce.{Nonce}
use Rattle.hm_names.specs.declared.pid.Pid.{Pid}
use Rattle.hm_data.specs.declared.call.Call.{Call}
use Rattle.hm_data.specs.declared.call.Peer.{Peer}
use Rattle.hm_data.specs.declared.call.Peer.TheVariants as peer_is
use Rattle.hm_data.specs.declared.call.ReportMsg.{ReportMsg}
use Rattle.hm_data.specs.declared.entry.Entry.{Entry}
use Rattle.hm_data.specs.declared.entry.Entry.TheVariants as entry_is
use Rattle.hm_data.specs.declared.request.Request.{Request}
use Rattle.hm_data.specs.declared.request.Request.TheVariants as request_is
use Rattle.hm_data.specs.declared.step.StepIn.{StepIn}
use Rattle.hm_data.specs.declared.step.StepOut.{StepOut}
use Rattle.hm_data.specs.declared.step.Turn.{Turn}
use Rattle.hm_data.specs.declared.step.Turn.TheVariants as turn_is
use Rattle.hm_hall.specs.Recording.{Recording}
use Rattle.hm_hall.specs.declared.fault.Halt.{Halt}
use Rattle.hm_hall.specs.declared.fault.HallFault.{HallFault}
use Rattle.hm_hall.specs.declared.fault.HallFault.TheVariants as fault_is
use Rattle.hm_hall.specs.declared.hall.Task.TheVariants as task_is
use Rattle.hm_hall.specs.declared.taken.Given.TheVariants as given_is
use Rattle.hm_hall.specs.declared.taken.Taken.{Taken}
use Rattle.hm_model.specs.Journal.{Past, back}
use Rattle.hm_model.specs.Locks.{IsIn}
use Rattle.hm_model.specs.Reports.{peer_of}
use Rattle.hm_model.proofs.NameTies.{same_server-is}
use Rattle.hm_model.proofs.Prefixes.{back-push}
use Rattle.hm_exec.specs.Claiming.{AnswersCommit, PutsBack, entry_by, entry_of}
use Rattle.hm_exec.specs.Hearing.{AnswersReport, report_entry}
use Rattle.hm_exec.specs.declared.answers.Heard.{Heard}
use Rattle.hm_exec.specs.declared.answers.Heard.TheVariants as heard_is
use Rattle.hm_exec.specs.declared.answers.UpWhy.{UpWhy}
use Rattle.hm_exec.specs.declared.answers.UpWhy.TheVariants as up_why
use Rattle.hm_script.specs.declared.command.Command.{Command}
use Rattle.hm_script.specs.declared.command.Command.TheVariants as command_is
use Rattle.hm_world_model.specs.Outside.{Outside, answer_by, armed, deliver_by, delivered, died, report_to, started, with_report, with_sent}
use Rattle.hm_world_model.proofs.Facts.{in_both, pushed_old}
use Rattle.hm_world.specs.Acts.{Arms, Dies, Repeats, Starts}
use Rattle.hm_world.specs.Carrying.{Carries, CarriesBy, OnlyExec}
use Rattle.hm_world.specs.Scene.{Scene, past_in}
use Rattle.hm_world.specs.Taking.{Gives, Returns, Takes}
use Rattle.hm_commands.specs.Balancing.{no_nonce}
use Rattle.hm_commands.specs.Commands.{Comes, ComesAt, ComesOther, OtherMayAdd, Settles, WorksFor, asked}
use Rattle.hm_commands.specs.Scenes.{halt_at, journal_at, kept_at, new_scene}
use Rattle.hm_commands.specs.Submissions.{Submits}
use Rattle.hm_commands.specs.Telling.{told_arming}
use Rattle.hm_commands.specs.Tasks.{Breaks, LacksMemory, Tasks}
use Rattle.hm_commands.specs.declared.answer.Answer.{Answer}
use Rattle.hm_commands.specs.declared.answer.Answer.TheVariants as answer_is
use Rattle.hm_commands.proofs.Moving.{balances_only}
use Rattle.hm_commands.proofs.Growth.{Grows, faults_grow, kept_grows, other_grows, recorded_grows, submit_grows}
use Rattle.hm_terms.specs.Refusals.{IsWithin, KeepsTo, granted, granted_by, is_called, is_refusal, refused_by}
use Rattle.hm_terms.specs.Theorem.{AnswersInTurn, CommandsStayWithin, DownsStayWithin, NewIsWithin, RefusalsAreGranted, WithinIsFew}
use Rattle.hm_terms.proofs.Events.{KeepsOn, in_reports, keeps_armed, keeps_armed_storage, keeps_delivered, keeps_died, keeps_more, keeps_new, keeps_sent, keeps_started}
use Rattle.hm_terms.proofs.Once.{few_among, once, with_refused}
use Rattle.hm_terms.proofs.Serving.{Among}

-- entries that are no reports leave the calls that are refused
abbrev LeavesRefused : Entry → Type 0
LeavesRefused entry = (peer : Peer) (J : Past) → refused_by peer (entry ∷ J) ≡ refused_by peer J

same_leaves : (entry other : Entry) → entry ≡ other → LeavesRefused other → LeavesRefused entry
same_leaves entry other same leaves peer J = subst (λ (e : Entry). refused_by peer (e ∷ J) ≡ refused_by peer J) (sym same) (leaves peer J)

refused_all : (P : Entry → Type 0) → ((entry : Entry) → P entry → LeavesRefused entry) → (peer : Peer) (journal added : List Entry) → All P added → refused_by peer (back (journal ++ added)) ≡ refused_by peer (back journal)
refused_all P leaves peer journal [] all = ap (λ (j : List Entry). refused_by peer (back j)) (append-nil journal)
refused_all P leaves peer journal (entry ∷ added) all =
    ap (λ (j : List Entry). refused_by peer (back j)) (sym (append_assoc journal (entry ∷ []) added))
    ∙ refused_all P leaves peer (journal ++ entry ∷ []) added (All-tail P entry added all)
    ∙ ap (refused_by peer) (back-push journal entry) ∙ leaves entry (All-head P entry added all) peer (back journal)

refused_grown : (P : Entry → Type 0) → ((entry : Entry) → P entry → LeavesRefused entry) → (peer : Peer) (old new : Scene) → Grows P (kept_at old) (kept_at new) → refused_by peer (past_in new) ≡ refused_by peer (past_in old)
refused_grown P leaves peer old new grows = ap (λ (j : List Entry). refused_by peer (back j)) grows.grown ∙ refused_all P leaves peer (journal_at old) grows.added grows.each

-- whose calls are looked at is whom a test tells
called_is : (peer other : Peer) → is_called peer (Some other) ≡ true → other ≡ peer
called_is (peer_is.Server server) (peer_is.Server other) h = ap peer_is.Server (sym (same_server-is server other h))
called_is (peer_is.Server server) peer_is.Storage h = absurd (false≢true h)
called_is peer_is.Storage (peer_is.Server other) h = absurd (false≢true h)
called_is peer_is.Storage peer_is.Storage h = refl

both : (a b : Bool) → (a && b) ≡ true → (a ≡ true) × (b ≡ true)
both true b h = (refl, h)
both false b h = absurd (false≢true h)

-- what waits is among the reports, after one more too
waits_on : (waiting reports : List ReportMsg) (made : Option ReportMsg) → ((report : ReportMsg) → IsIn report waiting → IsIn report reports)
    → (report : ReportMsg) → IsIn report (with_report waiting made) → IsIn report (with_report reports made)
waits_on waiting reports None among report h = among report h
waits_on waiting reports (Some last) among report h = elim (in_reports waiting (Some last) report h) [
  | inl same ↦ new_there reports report last same
  | inr there ↦ pushed_old report last reports (among report there)
]
  where
    new_there : (reports : List ReportMsg) (report last : ReportMsg) → Some last ≡ Some report → IsIn report (reports ++ last ∷ [])
    new_there [] report last same = inl cc
    new_there (first ∷ reports) report last same = inr (new_there reports report last same)

module _ (peer : Peer) (n : ℕ) (old : Scene) (w : IsWithin peer n old) where
  -- the same is there, but for what the executor has, and the journal reports no more refusals
  stays : (new : Scene) → refused_by peer (past_in new) ≡ refused_by peer (past_in old) → OnlyExec old new → IsWithin peer n new
  stays new same only = record {
    calls = w.calls;
    keeps = subst (λ (s : Scene). KeepsTo peer n w.calls s.outside) (sym only) w.keeps;
    waiting_is = subst (λ (s : Scene). (report : ReportMsg) → IsIn report s.waiting → IsIn report s.outside.reports) (sym only) w.waiting_is;
    recorded = λ p h. w.recorded p (subst (IsIn p) same h);
  }

  stays_grown : (P : Entry → Type 0) → ((entry : Entry) → P entry → LeavesRefused entry) → (new : Scene) → Grows P (kept_at old) (kept_at new) → OnlyExec old new → IsWithin peer n new
  stays_grown P leaves new grows only = stays new (refused_grown P leaves peer old new grows) only

  stays_same : (new : Scene) → new ≡ old → IsWithin peer n new
  stays_same new same = subst (λ (s : Scene). IsWithin peer n s) (sym same) w

  -- as many refusals are reported, with something else outside
  stays_with : (m : ℕ) (more : List ℕ) (new : Scene) → Among w.calls more → KeepsTo peer m more new.outside
      → ((report : ReportMsg) → IsIn report new.waiting → IsIn report new.outside.reports) → refused_by peer (past_in new) ≡ refused_by peer (past_in old) → IsWithin peer m new
  stays_with m more new among keeps waits same = record {
    calls = more;
    keeps = keeps;
    waiting_is = waits;
    recorded = λ p h. among p (w.recorded p (subst (IsIn p) same h));
  }

  -- more may be granted
  stays_more : (m : ℕ) → IsWithin peer (n + m) old
  stays_more m = record { calls = w.calls; keeps = keeps_more peer n m w.calls old.outside w.keeps; waiting_is = w.waiting_is; recorded = w.recorded }

-- a step, or what undoes one, is no report
entry_leaves : (turn : Turn) (p : ℕ) (was : StepIn) (out : StepOut) → LeavesRefused (entry_by turn p was out)
entry_leaves turn_is.Step p was out peer J = refl
entry_leaves (turn_is.Undo edits) p was out peer J = refl

taken_leaves : (taken : Taken) (out : StepOut) → LeavesRefused (entry_of taken out)
taken_leaves taken out = entry_leaves taken.was.turn taken.pid.0 taken.was out

-- recording a handler's answer
module _ (mid new : Scene) (taken : Taken) (out : StepOut) where
  back_grows : (late : Scene) → Grows LeavesRefused (kept_at mid) (kept_at late) → kept_at new ≡ kept_at late → Grows LeavesRefused (kept_at mid) (kept_at new)
  back_grows late grows same = subst (λ (k : Recording). Grows LeavesRefused (kept_at mid) k) (sym same) grows

  refused_grows : (fault : HallFault) (late : Scene) → AnswersCommit mid.exec taken out (Err (taken, fault)) late.exec → PutsBack late.exec taken new.exec → Grows LeavesRefused (kept_at mid) (kept_at new)
  refused_grows (fault_is.Halted why) late r back = back_grows late (kept_grows LeavesRefused mid.exec late.exec r.1.1) back.0
  refused_grows fault_is.Memory late r back = back_grows late (kept_grows LeavesRefused mid.exec late.exec r.1.1) back.0
  refused_grows fault_is.LogFault late r back = back_grows late (faults_grow LeavesRefused mid.exec late.exec (entry_of taken out) fault_is.LogFault r.1.1) back.0
  refused_grows (fault_is.JournalFull bytes) late r back = back_grows late (faults_grow LeavesRefused mid.exec late.exec (entry_of taken out) (fault_is.JournalFull bytes) r.1.1) back.0

only_on : (old mid new : Scene) → OnlyExec old mid → OnlyExec mid new → OnlyExec old new
only_on old mid new one two = subst (λ (s : Scene). new ≡ record s { exec = new.exec }) one two

module _ (peer : Peer) (n : ℕ) (old : Scene) (w : IsWithin peer n old) where
  -- a procedure was claimed, and then this was added for it
  claimed_within : (taken : Taken) (mid new : Scene) → Takes old (Ok (task_is.Run taken)) mid → Grows LeavesRefused (kept_at mid) (kept_at new) → OnlyExec mid new → IsWithin peer n new
  claimed_within taken mid new takes grows only =
      let same : kept_at mid ≡ kept_at old = takes.0.3 in
      stays_grown peer n old w LeavesRefused (λ entry leaves. leaves) new (subst (λ (k : Recording). Grows LeavesRefused k (kept_at new)) same grows) (only_on old mid new takes.1 only)

  -- its step
  step_within : (taken : Taken) (out : StepOut) (number : ℕ) (mid new : Scene) → Takes old (Ok (task_is.Run taken)) mid → Gives mid taken out (Ok (given_is.Kept number)) new → IsWithin peer n new
  step_within taken out number mid new takes gives =
      claimed_within taken mid new takes (recorded_grows LeavesRefused (kept_at mid) (kept_at new) (entry_of taken out) number (taken_leaves taken out) gives.0.3) gives.1

  -- nothing
  unstepped_within : (taken : Taken) (out : StepOut) (fault : HallFault) (mid late new : Scene) → Takes old (Ok (task_is.Run taken)) mid → Gives mid taken out (Err (taken, fault)) late → Returns late taken new
      → IsWithin peer n new
  unstepped_within taken out fault mid late new takes gives back =
      claimed_within taken mid new takes (refused_grows mid new taken out fault late gives.0 back.0) (only_on mid late new gives.1 back.1)

  -- a report is heard
  heard_within : (report : ReportMsg) (rest : List ReportMsg) (new : Scene) (heard : Heard) → old.waiting ≡ report ∷ rest → AnswersReport old.exec report (Ok heard) new.exec
      → new ≡ record old { exec = new.exec; waiting = rest } → IsWithin peer n new
  heard_within report rest new heard waits a is = record {
    calls = w.calls;
    keeps = subst (λ (s : Scene). KeepsTo peer n w.calls s.outside) (sym is) w.keeps;
    waiting_is = subst (λ (s : Scene). (one : ReportMsg) → IsIn one s.waiting → IsIn one s.outside.reports) (sym is)
        (λ one h. w.waiting_is one (subst (λ (l : List ReportMsg). IsIn one l) (sym waits) (inr h)));
    recorded = by heard a;
  }
    where
      there : IsIn report old.outside.reports
      there = w.waiting_is report (subst (λ (l : List ReportMsg). IsIn report l) (sym waits) (inl refl))

      called : peer_of (past_in old) report.call.0 ≡ Some report.from → is_called peer (peer_of (past_in old) report.call.0) ≡ true → report.from ≡ peer
      called from tests = called_is peer report.from (sym (ap (is_called peer) from) ∙ tests)

      counted : (refused : Bool) → (is_refusal report.told && is_called peer (peer_of (past_in old) report.call.0)) ≡ refused → peer_of (past_in old) report.call.0 ≡ Some report.from
          → (p : ℕ) → IsIn p (with_refused refused report.call.0 (refused_by peer (past_in old))) → IsIn p w.calls
      counted true e from p (inl same) =
          let tests = both (is_refusal report.told) (is_called peer (peer_of (past_in old) report.call.0)) e in
          subst (λ q. IsIn q w.calls) (sym same) (w.keeps.made report there (called from tests.1, tests.0))
      counted true e from p (inr more) = w.recorded p more
      counted false e from p more = w.recorded p more

      by : (heard : Heard) → AnswersReport old.exec report (Ok heard) new.exec → (p : ℕ) → IsIn p (refused_by peer (past_in new)) → IsIn p w.calls
      by (heard_is.Accepted number) a p h =
          let grown : journal_at new ≡ journal_at old ++ report_entry report ∷ [] = ap (λ (k : Recording). k.entries) a.2.3 in
          let now : past_in new ≡ report_entry report ∷ past_in old = ap back grown ∙ back-push (journal_at old) (report_entry report) in
          counted (is_refusal report.told && is_called peer (peer_of (past_in old) report.call.0)) refl a.0.0.0 p (subst (λ (J : Past). IsIn p (refused_by peer J)) now h)
      by (heard_is.Ignored why) a p h = w.recorded p (subst (λ x. IsIn p (refused_by peer (back x.kept.entries))) a.2 h)

  report_failed : (report : ReportMsg) (fault : HallFault) (new : Scene) → AnswersReport old.exec report (Err fault) new.exec → OnlyExec old new → IsWithin peer n new
  report_failed report fault new a only = stays_grown peer n old w LeavesRefused (λ entry leaves. leaves) new (by fault a) only
    where
      by : (fault : HallFault) → AnswersReport old.exec report (Err fault) new.exec → Grows LeavesRefused (kept_at old) (kept_at new)
      by (fault_is.Halted why) a = kept_grows LeavesRefused old.exec new.exec a.1
      by fault_is.LogFault a = faults_grow LeavesRefused old.exec new.exec (report_entry report) fault_is.LogFault a.1
      by (fault_is.JournalFull b) a = faults_grow LeavesRefused old.exec new.exec (report_entry report) (fault_is.JournalFull b) a.1
      by fault_is.Memory a = faults_grow LeavesRefused old.exec new.exec (report_entry report) fault_is.Memory a.1

  delivered_within : (call : Call) (rest : List Call) (new : Scene)
      → new ≡ record old { outside = delivered old.outside call; wire = rest; waiting = with_report old.waiting (report_to old.outside call) } → IsWithin peer n new
  delivered_within call rest new is =
      let on : KeepsOn peer n w.calls (delivered old.outside call) = keeps_delivered n w.calls old.outside call peer w.keeps in
      stays_with peer n old w n on.more new on.among (subst (λ (s : Scene). KeepsTo peer n on.more s.outside) (sym is) on.keeps)
      (subst (λ (s : Scene). (report : ReportMsg) → IsIn report s.waiting → IsIn report s.outside.reports) (sym is) waits)
      (ap (λ (s : Scene). refused_by peer (past_in s)) is)
    where
      reports_at : (to : Peer) → (deliver_by old.outside call to).reports ≡ with_report old.outside.reports (answer_by old.outside call to)
      reports_at (peer_is.Server server) = refl
      reports_at peer_is.Storage = refl

      waits : (report : ReportMsg) → IsIn report (with_report old.waiting (report_to old.outside call)) → IsIn report (delivered old.outside call).reports
      waits report h = subst (λ (l : List ReportMsg). IsIn report l) (sym (reports_at call.peer)) (waits_on old.waiting old.outside.reports (report_to old.outside call) w.waiting_is report h)

  sent_within : (call : Call) (new : Scene) → new ≡ record old { outside = with_sent old.outside call; wire = call ∷ [] } → IsWithin peer n new
  sent_within call new is =
      stays_with peer n old w n w.calls new (λ p h. h) (subst (λ (s : Scene). KeepsTo peer n w.calls s.outside) (sym is) (keeps_sent peer n w.calls old.outside w.keeps call))
      (subst (λ (s : Scene). (report : ReportMsg) → IsIn report s.waiting → IsIn report s.outside.reports) (sym is) w.waiting_is)
      (ap (λ (s : Scene). refused_by peer (past_in s)) is)

  carries_within : (new : Scene) (result : Result Bool HallFault) → Carries old result new → IsWithin peer n new
  carries_within new result = by old.waiting old.wire result refl
    where
      by : (waiting : List ReportMsg) (wire : List Call) (result : Result Bool HallFault) → old.waiting ≡ waiting → CarriesBy waiting wire old result new → IsWithin peer n new
      by (report ∷ rest) wire (Ok true) e c = heard_within report rest new c.0.0 e c.0.1 c.1
      by (report ∷ rest) wire (Ok false) e c = absurd c
      by (report ∷ rest) wire (Err fault) e c = report_failed report fault new c.0 c.1
      by [] wire (Err (fault_is.Halted why)) e c = stays_grown peer n old w LeavesRefused (λ entry leaves. leaves) new (kept_grows LeavesRefused old.exec new.exec c.0.1) c.1
      by [] wire (Err fault_is.Memory) e c = stays_same peer n old w new c.1
      by [] wire (Err fault_is.LogFault) e c = absurd c
      by [] wire (Err (fault_is.JournalFull b)) e c = absurd c
      by [] (call ∷ rest) (Ok true) e c = delivered_within call rest new c.1
      by [] (call ∷ rest) (Ok false) e c = absurd c
      by [] [] (Ok true) e c = sent_within c.1 new c.3
      by [] [] (Ok false) e c = stays_same peer n old w new c.2

  -- a task halts the run
  halts_within : (why : Halt) (new : Scene) → Breaks old why new → IsWithin peer n new
  halts_within why new (inl s) = unstepped_within s.taken s.runs.0 s.runs.2.0 s.mid s.runs.2.1 new s.takes s.runs.2.2 s.runs.2.3
  halts_within why new (inr c) = carries_within new (Err c.1.0) c.1.1

-- some tasks
tasks_within : (peer : Peer) (n count : ℕ) (old new : Scene) → Tasks count old new → IsWithin peer n old → IsWithin peer n new
tasks_within peer n zero old new t w = stays_same peer n old w new t
tasks_within peer n (suc count) old new (mid, inl s, more) w = tasks_within peer n count mid new more (step_within peer n old w s.taken s.runs.0 s.runs.2.0 s.mid mid s.takes s.runs.2.1)
tasks_within peer n (suc count) old new (mid, inr c, more) w = tasks_within peer n count mid new more (carries_within peer n old w mid (Ok true) c.1)

module _ (peer : Peer) (n : ℕ) (old : Scene) (w : IsWithin peer n old) (new : Scene) where
  breaks_within : (count : ℕ) (mid : Scene) (why : Halt) → Tasks count old mid → Breaks mid why new → IsWithin peer n new
  breaks_within count mid why t b = halts_within peer n mid (tasks_within peer n count old mid t w) why new b

  lacks_within : (count : ℕ) (mid : Scene) → Tasks count old mid → LacksMemory mid new → IsWithin peer n new
  lacks_within count mid t l = stays_same peer n mid (tasks_within peer n count old mid t w) new l.2

  works_for_within : (most : ℕ) (answer : Option Answer) → WorksFor most old answer new → IsWithin peer n new
  works_for_within most (Some (answer_is.Stepped count at)) c = tasks_within peer n count old new c.0 w
  works_for_within most (Some (answer_is.Halted why)) c = breaks_within c.0 c.1 why c.2 c.4
  works_for_within most (Some answer) c = absurd c
  works_for_within most None c = lacks_within c.0 c.1 c.2 c.4

  settles_within : (answer : Option Answer) → Settles old answer new → IsWithin peer n new
  settles_within (Some (answer_is.Settled at)) s = tasks_within peer n s.0.0.0 old new s.0.0.1 w
  settles_within (Some (answer_is.Waiting at roots)) s = tasks_within peer n s.0.0.0 old new s.0.0.1 w
  settles_within (Some (answer_is.Halted why)) s = breaks_within s.0 s.1 why s.2 s.3
  settles_within (Some answer) s = absurd s
  settles_within None s = lacks_within s.0 s.1 s.2 s.3

-- commands that do no tasks
abbrev IsCalm : Command → Type 0
IsCalm (command_is.Step count) = ⊥
IsCalm command_is.Settle = ⊥
IsCalm command = Unit {0}

-- their entries are no reports
other_leaves : (command : Command) → IsCalm command → (entry : Entry) → OtherMayAdd command entry → LeavesRefused entry
other_leaves (command_is.Abort pid) calm entry may = same_leaves entry (entry_is.Abort pid) may (λ peer J. refl)
other_leaves (command_is.Server server) calm entry (inl up) = same_leaves entry (entry_is.Up server) up (λ peer J. refl)
other_leaves (command_is.Server server) calm entry (inr down) = same_leaves entry (entry_is.Down down.0) down.1 (λ peer J. refl)
other_leaves (command_is.Expire server) calm entry may = same_leaves entry (entry_is.Down server) may (λ peer J. refl)
other_leaves (command_is.Step count) calm entry may = absurd calm
other_leaves command_is.Settle calm entry may = absurd calm
other_leaves command_is.Balance calm entry may = same_leaves entry (entry_is.Submit no_nonce (request_is.Move may.0 (Some may.1))) may.2 (λ peer J. refl)
other_leaves command calm entry may = absurd may

module _ (peer : Peer) (n : ℕ) (old : Scene) (w : IsWithin peer n old) (new : Scene) where
  -- a command whose entries are no reports leaves the refusals that the journal reports
  calm_same : (command : Command) (answer : Option Answer) → IsCalm command → ComesOther command old answer new → refused_by peer (past_in new) ≡ refused_by peer (past_in old)
  calm_same command answer calm c = refused_grown (OtherMayAdd command) (other_leaves command calm) peer old new (other_grows old new command answer c)

  -- what travels and waits is as it was, and what is outside is this
  outside_within : (m : ℕ) (o : Outside) → o.reports ≡ old.outside.reports → KeepsTo peer m w.calls o → new ≡ record old { exec = new.exec; outside = o }
      → refused_by peer (past_in new) ≡ refused_by peer (past_in old) → IsWithin peer m new
  outside_within m o reports keeps is same =
      stays_with peer n old w m w.calls new (λ p h. h) (subst (λ (s : Scene). KeepsTo peer m w.calls s.outside) (sym is) keeps)
      (subst (λ (s : Scene). (report : ReportMsg) → IsIn report s.waiting → IsIn report s.outside.reports) (sym is)
      (λ report h. subst (λ (l : List ReportMsg). IsIn report l) (sym reports) (w.waiting_is report h)))
      same

  starts_within : (server : Server) (result : Result (Option (Server × Pid)) UpWhy) → refused_by peer (past_in new) ≡ refused_by peer (past_in old) → Starts old server result new → IsWithin peer n new
  starts_within server (Ok down) same s = outside_within n (started old.outside server) refl (keeps_started peer n w.calls old.outside w.keeps server) s.1 same
  starts_within server (Err (up_why.Up why)) same s = stays peer n old w new same s.1
  starts_within server (Err (up_why.Fault fault_is.LogFault)) same s = stays peer n old w new same s.1
  starts_within server (Err (up_why.Fault (fault_is.JournalFull b))) same s = stays peer n old w new same s.1
  starts_within server (Err (up_why.Fault (fault_is.Halted why))) same s = stays peer n old w new same s.1
  starts_within server (Err (up_why.Fault fault_is.Memory)) same s = stays peer n old w new same s.1

  dies_within : (server : Server) (ran : Bool) → Dies old server ran new → IsWithin peer n new
  dies_within server true d =
      outside_within n (died old.outside server) refl (keeps_died peer n w.calls old.outside w.keeps server) (d.1 ∙ exec_is d.1) (ap (λ (s : Scene). refused_by peer (past_in s)) d.1)
    where
      exec_is : new ≡ record old { outside = died old.outside server } → record old { outside = died old.outside server } ≡ record old { exec = new.exec; outside = died old.outside server }
      exec_is e = ap (λ x. let s : Scene = record old { exec = x; outside = died old.outside server } in s) (sym (ap (λ (s : Scene). s.exec) e))
  dies_within server false d = stays_same peer n old w new d.1

  arms_within : (to : Peer) (count : ℕ) (o : Outside) → o.reports ≡ old.outside.reports → KeepsTo peer (n + cond (is_called peer (Some to)) count 0) w.calls o
      → new ≡ record old { outside = o } → IsWithin peer (n + cond (is_called peer (Some to)) count 0) new
  arms_within to count o reports keeps is =
      outside_within (n + cond (is_called peer (Some to)) count 0) o reports keeps (is ∙ ap (λ x. let s : Scene = record old { exec = x; outside = o } in s) (sym (ap (λ (s : Scene). s.exec) is)))
      (ap (λ (s : Scene). refused_by peer (past_in s)) is)

  loses_within : new ≡ record old { wire = []; waiting = [] } → IsWithin peer n new
  loses_within is =
      stays_with peer n old w n w.calls new (λ p h. h) (subst (λ (s : Scene). KeepsTo peer n w.calls s.outside) (sym is) w.keeps)
      (subst (λ (s : Scene). (report : ReportMsg) → IsIn report s.waiting → IsIn report s.outside.reports) (sym is) (λ report h. absurd h))
      (ap (λ (s : Scene). refused_by peer (past_in s)) is)

  repeats_within : (result : Result ℕ HallFault) → Repeats old result new → IsWithin peer n new
  repeats_within (Ok count) r =
      let is = r.1.1 in
      stays_with peer n old w n w.calls new (λ p h. h) (subst (λ (s : Scene). KeepsTo peer n w.calls s.outside) (sym is) w.keeps)
      (subst (λ (s : Scene). (report : ReportMsg) → IsIn report s.waiting → IsIn report s.outside.reports) (sym is)
      (λ report h. elim (in_both report old.waiting old.outside.reports h) [ inl there ↦ w.waiting_is report there | inr made ↦ made ]))
      (ap (λ (s : Scene). refused_by peer (past_in s)) is)
  repeats_within (Err (fault_is.Halted why)) r = stays_grown peer n old w LeavesRefused (λ entry leaves. leaves) new (kept_grows LeavesRefused old.exec new.exec r.0.1) r.1
  repeats_within (Err fault_is.Memory) r = stays_same peer n old w new r.1
  repeats_within (Err fault_is.LogFault) r = absurd r
  repeats_within (Err (fault_is.JournalFull b)) r = absurd r

  -- somebody is to refuse: exactly where that is answered so, so much is granted
  refuse_within : (to : Peer) (count : ℕ) (o : Outside) → o.reports ≡ old.outside.reports → KeepsTo peer (n + cond (is_called peer (Some to)) count 0) w.calls o → armed old.outside to count ≡ o
      → (command : Command) → granted peer command (Some answer_is.Armed) ≡ cond (is_called peer (Some to)) count 0
      → (result : Result Bool Halt) (answer : Option Answer) → Arms old to count result new → answer ≡ told_arming result → IsWithin peer (n + granted peer command answer) new
  refuse_within to count o reports keeps is command grants (Ok true) answer a told =
      subst (λ m. IsWithin peer (n + m) new) (sym (ap (granted peer command) told ∙ grants)) (arms_within to count o reports keeps (a.2 ∙ ap (λ x. let s : Scene = record old { outside = x } in s) is))
  refuse_within to count o reports keeps is command grants (Ok false) answer a told = stays_more peer n new (stays_same peer n old w new a.2) (granted peer command answer)
  refuse_within to count o reports keeps is command grants (Err why) answer a told =
      stays_more peer n new (stays_grown peer n old w LeavesRefused (λ entry leaves. leaves) new (kept_grows LeavesRefused old.exec new.exec a.0.1) a.1) (granted peer command answer)

  more : (m : ℕ) → IsWithin peer n new → IsWithin peer (n + m) new
  more m within = stays_more peer n new within m

  other_within : (command : Command) (answer : Option Answer) → ComesOther command old answer new → IsWithin peer (n + granted peer command answer) new
  other_within (command_is.Abort pid) answer c = more (granted peer (command_is.Abort pid) answer) (stays peer n old w new (calm_same (command_is.Abort pid) answer tt c) c.2)
  other_within (command_is.Server server) answer c = more (granted peer (command_is.Server server) answer) (starts_within server c.0 (calm_same (command_is.Server server) answer tt c) c.1)
  other_within (command_is.Die server) answer c = more (granted peer (command_is.Die server) answer) (dies_within server c.0 c.1)
  other_within (command_is.Expire server) answer c = more (granted peer (command_is.Expire server) answer) (stays peer n old w new (calm_same (command_is.Expire server) answer tt c) c.2)
  other_within (command_is.Refuse server count) answer c =
      refuse_within (peer_is.Server server) count (armed old.outside (peer_is.Server server) count) refl (keeps_armed n count w.calls old.outside server peer w.keeps) refl (command_is.Refuse server count) refl c.0 answer c.1 c.2
  other_within (command_is.RefuseStorage count) answer c =
      refuse_within peer_is.Storage count (armed old.outside peer_is.Storage count) refl (keeps_armed_storage n count w.calls old.outside peer w.keeps) refl (command_is.RefuseStorage count) refl c.0 answer c.1 c.2
  other_within (command_is.Step count) answer c = more (granted peer (command_is.Step count) answer) (works_for_within peer n old w new count answer c)
  other_within command_is.Settle answer c = more (granted peer command_is.Settle answer) (settles_within peer n old w new answer c)
  other_within command_is.Lose answer c = more (granted peer command_is.Lose answer) (loses_within c.1.1)
  other_within command_is.Repeat answer c = more (granted peer command_is.Repeat answer) (repeats_within c.0 c.1)
  other_within command_is.Balance answer c = more (granted peer command_is.Balance answer) (stays peer n old w new (calm_same command_is.Balance answer tt c) (balances_only old new answer c))
  other_within command_is.Procs answer c = more (granted peer command_is.Procs answer) (stays_same peer n old w new c.1)
  other_within command_is.ProcsJson answer c = more (granted peer command_is.ProcsJson answer) (stays_same peer n old w new c.1)
  other_within command_is.Regions answer c = more (granted peer command_is.Regions answer) (stays_same peer n old w new c.1)
  other_within command_is.Locks answer c = more (granted peer command_is.Locks answer) (stays_same peer n old w new c.1)
  other_within command_is.Servers answer c = more (granted peer command_is.Servers answer) (stays_same peer n old w new c.1)
  other_within command answer c = absurd c

  submits_within : (nonce : Nonce) (request : Request) (answer : Option Answer) → Submits nonce request old answer new → IsWithin peer n new
  submits_within nonce request answer c =
      stays_grown peer n old w (λ entry. entry ≡ entry_is.Submit nonce request) (λ entry is. same_leaves entry (entry_is.Submit nonce request) is (λ peer J. refl)) new
      (submit_grows nonce request old.exec new.exec c.0 c.1) c.2

  at_within : (command : Command) (answer : Option Answer) → ComesAt command old answer new → IsWithin peer (n + granted peer command answer) new
  at_within command answer = by (asked command)
    where
      by : (ask : Option (Nonce × Request)) → MatchOption ask (ComesOther command old answer new) (λ ask. Submits ask.0 ask.1 old answer new) → IsWithin peer (n + granted peer command answer) new
      by None c = other_within command answer c
      by (Some ask) c = more (granted peer command answer) (submits_within ask.0 ask.1 answer c)

  comes_within : (command : Command) (answer : Option Answer) → Comes command old answer new → IsWithin peer (n + granted peer command answer) new
  comes_within command answer = by (halt_at old)
    where
      by : (halted : Option Halt) → MatchOption halted (ComesAt command old answer new) (λ why. (answer ≡ Some (answer_is.Halted why)) × (new ≡ old)) → IsWithin peer (n + granted peer command answer) new
      by None c = at_within command answer c
      by (Some why) c = more (granted peer command answer) (stays_same peer n old w new c.1)

-- the laws
pub new_within : NewIsWithin
new_within kept peer = record {
  calls = refused_by peer (past_in (new_scene kept));
  keeps = keeps_new peer (refused_by peer (past_in (new_scene kept))) (past_in (new_scene kept));
  waiting_is = λ report h. absurd h;
  recorded = λ p h. h;
}

pub commands_within : CommandsStayWithin
commands_within command old answer new c peer n w = comes_within peer n old w new command answer c

pub downs_within : DownsStayWithin
downs_within server old answer new c peer n w = stays peer n old w new (calm_same peer n old w new (command_is.Expire server) answer tt c) c.2

pub within_few : WithinIsFew
within_few peer n at legal w =
    let most = few_among (refused_by peer (past_in at)) w.calls (once peer (past_in at) legal) w.recorded in
    let few = w.keeps.few in
    omega (arith, most, few)

turns_within : (commands : List Command) (old : Scene) (answers : List Answer) (new : Scene) → AnswersInTurn commands old answers new → (peer : Peer) (n : ℕ) → IsWithin peer n old → IsWithin peer (n + granted_by peer commands answers) new
turns_within [] old answers new t peer n w = stays_more peer n new (stays_same peer n old w new t.1) (granted_by peer [] answers)
turns_within (command ∷ commands) old answers new t peer n w =
    let mid = t.0 in
    let within = turns_within commands mid t.2 new t.5 peer (n + granted peer command (Some t.1)) (comes_within peer n old w mid command (Some t.1) t.3) in
    subst (λ (l : List Answer). IsWithin peer (n + granted_by peer (command ∷ commands) l) new) (sym t.4)
    (subst (λ m. IsWithin peer m new) (sums n (granted peer command (Some t.1)) (granted_by peer commands t.2)) within)
  where
    sums : (a b c : ℕ) → a + b + c ≡ a + (b + c)
    sums a b c = omega arith

pub refusals_granted : RefusalsAreGranted
refusals_granted kept commands answers new turns legal peer =
    within_few peer (length (refused_by peer (past_in (new_scene kept))) + granted_by peer commands answers) new legal
    (turns_within commands (new_scene kept) answers new turns peer (length (refused_by peer (past_in (new_scene kept)))) (new_within kept peer))
