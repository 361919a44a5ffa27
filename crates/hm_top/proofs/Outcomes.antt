-- How a run ends.
use Rattle.std.proofs.Common.{◌≡◌, ◌≢◌, ◌+◌, ◌-◌, ◌*◌, ℕ, List, [], ◌++◌, length, Option, Some, None, Result, Ok, Err, refl, sym, ap, ◌∙◌, subst, inl, inr, append-nil, append_assoc, arith, ◌∷◌}
use Rattle.hm_data.specs.declared.entry.Entry.{Entry}
use Rattle.hm_data.specs.declared.entry.Entry.TheVariants as entry_is
use Rattle.hm_data.specs.declared.sheet.Sheet.{Sheet}
use Rattle.hm_hall.specs.declared.fault.Halt.{Halt}
use Rattle.hm_hall.specs.declared.fault.Halt.TheVariants as halt_is
use Rattle.hm_log.specs.Format.{IsClean}
use Rattle.hm_journal.specs.Stored.{AllStored, IsOnDisk, opened}
use Rattle.hm_journal.specs.declared.limits.Limits.{Limits}
use Rattle.hm_journal.specs.declared.why.JournalWhy.{JournalWhy}
use Rattle.hm_journal.specs.declared.why.JournalWhy.TheVariants as why_is
use Rattle.hm_model.specs.Base.{HasNoHalfBase, IsBegun}
use Rattle.hm_model.specs.Journal.{Past, back}
use Rattle.hm_model.specs.Rebase.{up_to}
use Rattle.hm_model.specs.Rules.{IsLegal}
use Rattle.hm_model.proofs.Nonces.{nonces_once}
use Rattle.hm_model.proofs.Parted.{no_half}
use Rattle.hm_model.proofs.Prefixes.{legal_before}
use Rattle.hm_serial.proofs.Failing.{failure_leaves_all}
use Rattle.hm_serial.proofs.Serial.{catalog_is, deeds_apply_is}
use Rattle.hm_model.proofs.Taken.{legal_apart}
use Rattle.hm_cover.proofs.Never.{never_overlap}
use Rattle.hm_cover.proofs.Now.{live_cover, missing_bare}
use Rattle.hm_single.proofs.SingleLive.{single_over}
use Rattle.hm_names.specs.Server.{Server}
use Rattle.hm_world.specs.Scene.{Scene}
use Rattle.hm_commands.specs.Hands.{HandsUse, Ran, SumRisesBy, sheets_used, steps_in}
use Rattle.hm_commands.specs.Scenes.{halt_at, journal_at, kept_at, whole}
use Rattle.hm_commands.specs.declared.answer.Answer.{Answer}
use Rattle.hm_commands.proofs.Ran.{steps_more}
use Rattle.hm_script.specs.declared.command.Command.{Command}
use Rattle.hm_top.specs.declared.status.EarlyEnd.{EarlyEnd}
use Rattle.hm_top.specs.declared.status.EarlyEnd.TheVariants as early_is
use Rattle.hm_top.specs.declared.status.LogWhy.{LogWhy}
use Rattle.hm_top.specs.declared.status.RunStatus.{RunStatus}
use Rattle.hm_top.specs.declared.status.RunStatus.TheVariants.{Done, Usage, BadScript, LogFault, LogRefused, ReadFault, WriteFault, JournalFull, Memory}
use Rattle.hm_top.specs.Ending.{ended_status, log_why_of, unopened_status}
use Rattle.hm_top.specs.Faith.{KeepsFaith}
use Rattle.hm_top.specs.Got.{Got, GotAnswers, IsLast, IsPartOf, IsShort}
use Rattle.hm_top.specs.Ports.{DiskUse, SinkUse}
use Rattle.hm_top.specs.Left.{CountsTo, IsLeft, IsNotOpened, IsSpared, StopsLeave}
use Rattle.hm_top.specs.declared.words.Form.{Form}
use Rattle.hm_top.specs.declared.words.Form.TheVariants as form_is
use Rattle.hm_top.specs.Checking.{EndsCheck}
use Rattle.hm_top.specs.Generating.{EndsGen}
use Rattle.hm_top.specs.Run.{AskFor, EndsAs, EndsBy, EndsRun, IsRead, Run, before_line, session_of}
use Rattle.hm_top.specs.Session.{AreAnswered, EndedBy, IsSilent, Outcome, Session, WasOpened}
use Rattle.hm_top.specs.Standing.{begun}
use Rattle.hm_top.specs.Status.{last_line}
use Rattle.hm_top.specs.Answering.{IsAnswering, Remains}
use Rattle.hm_top.specs.Opening.{IsEndOf, opening_lines}
use Rattle.hm_top.specs.Transcript.{text_of}
use Rattle.hm_top.proofs.Entire.{legal_up_to, whole_up_to}

-- no line
last_none : (rose : Type 0) (old new : List ℕ) → IsLast rose old new [] → new ≡ old
last_none rose old new (inl whole) = whole ∙ append-nil old
last_none rose old new (inr part) = let short = part.1.1 in absurd (omega (arith, short))

-- a line after a text
last_more : (rose rose' : Type 0) (old mid new text line : List ℕ) → (rose → rose') → mid ≡ old ++ text → IsLast rose mid new line → IsLast rose' (old ++ text) new line
last_more rose rose' old mid new text line later e (inl whole) = inl (whole ∙ ap (λ m. m ++ line) e)
last_more rose rose' old mid new text line later e (inr part) = inr (later part.0, subst (λ m. IsPartOf m new line) e part.1)

-- what the sink has after the last line
pub got_finished : (rose rose' : Type 0) (old mid new : List ℕ) (status : RunStatus) (answers : List Answer) → (rose → rose') → GotAnswers old mid status answers → IsLast rose mid new (last_line status)
    → Got rose' old new status answers
got_finished rose rose' old mid new Done answers later e last = last_none rose mid new last ∙ e
got_finished rose rose' old mid new WriteFault answers later e last = subst (λ m. IsShort old m answers) (sym (last_none rose mid new last)) e
got_finished rose rose' old mid new Memory answers later e last = last_none rose mid new last ∙ e
got_finished rose rose' old mid new status answers later e last = last_more rose rose' old mid new (text_of answers) (last_line status) later e last

-- what holds of a legal journal in which no base stands unfinished
faith_of : (J : Past) → IsLegal J → HasNoHalfBase J → KeepsFaith J
faith_of J legal whole = record {
  legal = legal;
  begun = whole;
  catalog = record {
    serial_is = catalog_is J legal;
    deeds = λ newer older pid pick out is. deeds_apply_is pid pick out older (legal_before newer (entry_is.Step pid pick out ∷ older) (subst IsLegal is legal));
    failures = λ newer older entry is. failure_leaves_all entry older (legal_before newer (entry ∷ older) (subst IsLegal is legal));
  };
  ranges = record { apart = never_overlap J legal; covered = live_cover J legal whole; bare = missing_bare J legal whole };
  nonces = nonces_once J legal;
  locks = legal_apart J legal;
  single = single_over J legal;
}

-- what an end says of the run
abbrev pub EndsSo : Result (Unit {0}) EarlyEnd → Scene → Type 0
EndsSo (Ok done) new = Unit {0}
EndsSo (Err end) new = IsEndOf end new

-- what the opening adds, which is no step
pub opened_grows : (sheets : List Sheet) (old : List Entry) → (first : List Entry) × (opened sheets old ≡ old ++ first) × (steps_in first ≡ 0)
opened_grows sheets [] = (entry_is.Start sheets ∷ [], refl, refl)
opened_grows sheets (entry ∷ journal) = ([], sym (append-nil (entry ∷ journal)), refl)

-- the commands of a run, with other words for what was given and said, and another sink
module _ (session : Session) (given : List Command → Type 0) (said : RunStatus → List Answer → Type 0) (out : SinkUse) (status : RunStatus)
    (f : (commands : List Command) → session.given commands → given commands) (g : (answers : List Answer) → session.said status answers → said status answers) where
  abbrev pub other : Session
  other = record session { given = given; said = said; out = out }

  pub answered_map : (commands : List Command) (old : List Entry) (new : Scene) → AreAnswered session status commands old new → AreAnswered other status commands old new
  answered_map commands old new a = record {
    left = a.left;
    lines = a.lines;
    start = a.start;
    opening = a.opening;
    rest = a.rest;
    answers = a.answers;
    mid = a.mid;
    turns = a.turns;
    remains = a.remains;
    said_are = g (opening_lines (begun session.limits (sheets_used session.hands) old) a.lines ++ a.answers) a.said_are;
  }

  abbrev pub opened_map : WasOpened session status → WasOpened other status
  opened_map o = record {
    commands = o.commands;
    given_are = f o.commands o.given_are;
    old = o.old;
    taken = o.taken;
    new = o.new;
    answering = answered_map o.commands o.old o.new o.answering;
    left = o.left;
  }

  ended_map : (halted : Option Halt) → EndedBy session status halted → EndedBy other status halted
  ended_map halted e = (opened_map e.0, e.1)

  silent_map : IsSilent session status → IsSilent other status
  silent_map s = (s.0, g [] s.1, (s.2.0, f s.2.0 s.2.1))

-- an outcome, said of other ends
module _ (session : Session) (given : List Command → Type 0) (said : RunStatus → List Answer → Type 0) (out : SinkUse) (f : (commands : List Command) → session.given commands → given commands) where
  abbrev its : Session
  its = record session { given = given; said = said; out = out }

  memory_map : ((answers : List Answer) → session.said Memory answers → said Memory answers) → Outcome session Memory → Outcome its Memory
  memory_map g (inl vain) = inl (silent_map session given said out Memory f g vain.0, vain.1, vain.2)
  memory_map g (inr (inl full)) = inr (inl (full.0, g [] full.1, (full.2.0, f full.2.0 full.2.1), full.3))
  memory_map g (inr (inr opened)) = inr (inr (opened_map session given said out Memory f g opened))

  pub outcome_map : (status : RunStatus) → ((answers : List Answer) → session.said status answers → said status answers) → (session.out.failed → out.failed) → Outcome session status → Outcome its status
  outcome_map Done g later o = ended_map session given said out Done f g None o
  outcome_map LogFault g later (failed, inl vain) = (failed, inl (silent_map session given said out LogFault f g vain.0, vain.1))
  outcome_map LogFault g later (failed, inr ended) = (failed, inr (ended_map session given said out LogFault f g (Some halt_is.LogFault) ended))
  outcome_map (JournalFull bytes) g later o = ended_map session given said out (JournalFull bytes) f g (Some (halt_is.JournalFull bytes)) o
  outcome_map (LogRefused why) g later o = (silent_map session given said out (LogRefused why) f g o.0, o.1)
  outcome_map WriteFault g later o = (later o.0, opened_map session given said out WriteFault f g o.1)
  outcome_map Memory g later o = memory_map g o
  outcome_map status g later o = absurd o

-- the outcome of a script that was read
pub run_ends : (run : Run) (said : SinkUse → RunStatus → List Answer → Type 0) (status : RunStatus) → Outcome (session_of run said) status → EndsRun run said status
run_ends run said (BadScript bad) o = absurd o
run_ends run said ReadFault o = absurd o
run_ends run said Memory o = inr o
run_ends run said status o = o

-- how each form ended, said of another sink
module _ (run : Run) (said said' : SinkUse → RunStatus → List Answer → Type 0) (out : SinkUse) (later : run.out.failed → out.failed) where
  -- what was said under this status is said of the other
  abbrev pub Maps : RunStatus → Type 0
  Maps status = (answers : List Answer) → said run.out status answers → said' out status answers

  abbrev its' : Run
  its' = record run { out = out }

  run_map : (status : RunStatus) → Maps status → EndsRun run said status → EndsRun its' said' status
  run_map (BadScript bad) g e = (e.0, (e.1.0, e.1.1, g [] e.1.2))
  run_map ReadFault g e = (e.0, (e.1.0, e.1.1, g [] e.1.2))
  run_map Memory g (inl idle) = inl (idle.0, idle.1, g [] idle.2)
  run_map Memory g (inr o) = inr (outcome_map (session_of run said) (IsRead its') (said' out) out (λ cs c. c) Memory g later o)
  run_map status g e = outcome_map (session_of run said) (IsRead its') (said' out) out (λ cs c. c) status g later e

  check_map : (status : RunStatus) → Maps status → EndsCheck run.out run.disk (sheets_used run.hands) (said run.out) status → EndsCheck out run.disk (sheets_used run.hands) (said' out) status
  check_map Done g (read, (n, has, (line, text, said_is))) = (read, (n, has, (line, text, g (line ∷ []) said_is)))
  check_map LogFault g (read, (failed, said_is)) = (read, (failed, g [] said_is))
  check_map (LogRefused why) g (read, (cause, said_is)) = (read, (cause, g [] said_is))
  check_map WriteFault g (read, (failed, (n, has, (line, text, said_is)))) = (read, (later failed, (n, has, (line, text, g (line ∷ []) said_is))))
  check_map Memory g (read, said_is) = (read, g [] said_is)
  check_map status g e = absurd e.1

  gen_map : (seed count : ℕ) (status : RunStatus) → Maps status → EndsGen run.limits run.disk run.hands run.marks seed count run.out (said run.out) status
      → EndsGen run.limits run.disk run.hands run.marks seed count out (said' out) status
  gen_map seed count Done g (made, (line, text, said_is)) = (made, (line, text, g (line ∷ []) said_is))
  gen_map seed count WriteFault g (failed, (made, (line, text, said_is))) = (later failed, (made, (line, text, g (line ∷ []) said_is)))
  gen_map seed count (LogRefused why) g (said_is, rest) = (g [] said_is, rest)
  gen_map seed count Memory g (said_is, rest) = (g [] said_is, rest)
  gen_map seed count status g (said_is, rest) = (g [] said_is, rest)

  form_map : (form : Form) (status : RunStatus) → Maps status → EndsAs run said form status → EndsAs its' said' form status
  form_map form_is.Run status g e = run_map status g e
  form_map form_is.Check status g (untouched, none, e) = (untouched, none, check_map status g e)
  form_map (form_is.Gen seed count) status g (untouched, e) = (untouched, gen_map seed count status g e)

  -- the end of a run, said of another sink
  pub ends_map : (status : RunStatus) → Maps status → EndsBy run said status → EndsBy its' said' status
  ends_map (Usage word) g e = (e.0, e.1, (e.2.0, e.2.1, g [] e.2.2))
  ends_map status g (form, asked, e) = (form, asked, form_map form status g e)

module _ (takes : List Entry → Type 0) (commands : List Command) (limits : Limits) (out : SinkUse) (disk : DiskUse) (hands : HandsUse) (marks : List ℕ) where
  -- these commands, answered before the last line
  abbrev pub spoken : Session
  spoken = record { takes = takes; given = λ read. read ≡ commands; said = before_line out; limits = limits; out = out; disk = disk; hands = hands; marks = marks }

  -- what was left of a journal that was opened
  pub left_of : (old : List Entry) (new : Scene) → (disk.tells → IsOnDisk (sheets_used hands) disk.before old) → IsLegal (back (whole new)) → IsBegun (back (whole new)) → (disk.tells → AllStored disk.stops.after (kept_at new))
      → (disk.tells → StopsLeave disk hands old new) → CountsTo disk (1 + 2 * (length (whole new) - length old)) → (disk.tells → IsClean disk.before → disk.called (2 * (length (whole new) - length old)))
      → (halt_at new ≡ Some halt_is.LogFault → disk.failed) → Ran hands (opened (sheets_used hands) old) (journal_at new) → IsLeft disk hands old new
  left_of old new held legal is_begun holds stops called clean cause ran =
      let first = opened_grows (sheets_used hands) old in
      let steps : steps_in ran.0 ≡ steps_in (first.0 ++ ran.0) = let all = steps_more first.0 ran.0 in let none = first.2 in omega arith in
      record {
        added = first.0 ++ ran.0;
        longer = ran.1 ∙ ap (λ l. l ++ ran.0) first.1 ∙ append_assoc old first.0 ran.0;
        faith = λ mark. faith_of (up_to (back (whole new)) mark) (legal_up_to (back (whole new)) mark legal) (whole_up_to (back (whole new)) mark legal (no_half (back (whole new)) is_begun));
        held = held;
        holds = holds;
        stops = stops;
        called = called;
        clean = clean;
        ran = subst (λ n. SumRisesBy n hands.runs_before hands.runs_after) steps ran.2.rises;
        cause = cause;
      }

  -- the outcome of beginning, and of answering the commands
  module _ (old : List Entry) (taken : takes old) (new : Scene) (left : IsLeft disk hands old new) where
    abbrev first : Scene
    first = begun limits (sheets_used hands) old

    -- under a status that its end has, or one after which as much remains
    abbrev pub was_opened : (status : RunStatus) (ended : Result (Unit {0}) EarlyEnd) → ((answers : List Answer) → GotAnswers out.before out.after (ended_status ended None) answers → GotAnswers out.before out.after status answers)
        → ((servers : List Server) (answered rest : List Command) (at left : Scene) → Remains (ended_status ended None) servers answered rest at left → Remains status servers answered rest at left)
        → IsAnswering out.tells out.before out.after ended commands first marks new → WasOpened spoken status
    was_opened status ended f r a = record {
      commands = commands;
      given_are = refl;
      old = old;
      taken = taken;
      new = new;
      answering = record {
        left = a.left;
        lines = a.lines;
        start = a.start;
        opening = a.opening;
        rest = a.rest;
        answers = a.answers;
        mid = a.mid;
        turns = a.turns;
        remains = r a.left a.turns.answered a.rest a.mid new a.remains;
        said_are = λ told. f (opening_lines first a.lines ++ a.answers) (a.said_are told);
      };
      left = left;
    }

    ended_by : (status : RunStatus) (halted : Option Halt) → halt_at new ≡ halted → ((answers : List Answer) → GotAnswers out.before out.after Done answers → GotAnswers out.before out.after status answers)
        → ((servers : List Server) (answered rest : List Command) (at left : Scene) → Remains Done servers answered rest at left → Remains status servers answered rest at left)
        → IsAnswering out.tells out.before out.after (Ok tt) commands first marks new → EndedBy spoken status halted
    ended_by status halted is f r a = (was_opened status (Ok tt) f r a, is)

    pub outcome_answered : (ended : Result (Unit {0}) EarlyEnd) (halted : Option Halt) → halt_at new ≡ halted → EndsSo ended new → (ended ≡ Err early_is.WriteFault → out.failed)
        → IsAnswering out.tells out.before out.after ended commands first marks new → Outcome spoken (ended_status ended halted)
    outcome_answered (Ok done) None is so fails a = ended_by Done None is (λ answers t. t) (λ servers answered rest at left r. r) a
    outcome_answered (Ok done) (Some halt_is.LogFault) is so fails a = (left.cause is, inr (ended_by LogFault (Some halt_is.LogFault) is (λ answers t. t) (λ servers answered rest at left r. inl r) a))
    outcome_answered (Ok done) (Some (halt_is.JournalFull bytes)) is so fails a = ended_by (JournalFull bytes) (Some (halt_is.JournalFull bytes)) is (λ answers t. t) (λ servers answered rest at left r. inl r) a
    outcome_answered (Err (early_is.Halted halt_is.LogFault)) halted is so fails a =
        (left.cause so, inr (was_opened LogFault (Err (early_is.Halted halt_is.LogFault)) (λ answers t. t) (λ servers answered rest at left r. r) a, so))
    outcome_answered (Err (early_is.Halted (halt_is.JournalFull bytes))) halted is so fails a =
        (was_opened (JournalFull bytes) (Err (early_is.Halted (halt_is.JournalFull bytes))) (λ answers t. t) (λ servers answered rest at left r. r) a, so)
    outcome_answered (Err early_is.WriteFault) halted is so fails a = (fails refl, was_opened WriteFault (Err early_is.WriteFault) (λ answers t. t) (λ servers answered rest at left r. r) a)
    outcome_answered (Err early_is.Memory) halted is so fails a = inr (inr (was_opened Memory (Err early_is.Memory) (λ answers t. t) (λ servers answered rest at left r. r) a))

  module _ (none : marks ≡ []) (quiet : out.tells → out.after ≡ out.before) where
    -- nothing was said yet
    none_said : out.tells → out.after ≡ out.before ++ text_of []
    none_said told = quiet told ∙ sym (append-nil out.before)

    refusal : (cause : JournalWhy) (why : LogWhy) → log_why_of cause ≡ Some why → IsNotOpened disk hands cause → Outcome spoken (LogRefused why)
    refusal cause why is holds = ((none, none_said, (commands, refl)), (cause, is, holds))

    -- the outcome of an opening that failed
    pub outcome_unopened : (why : JournalWhy) → (why ≡ why_is.Fault → disk.failed) → IsSpared disk hands → (why ≢ why_is.Fault → IsNotOpened disk hands why) → Outcome spoken (unopened_status why)
    outcome_unopened why_is.Fault fault spares holds = (fault refl, inl ((none, none_said, (commands, refl)), spares))
    outcome_unopened why_is.Memory fault spares holds = inl ((none, none_said, (commands, refl)), spares, holds (λ e. absurd (cc)))
    outcome_unopened why fault spares holds = refusal why _ refl (holds (λ e. absurd (cc)))

    -- the outcome where there was no room for the executor or for the marks
    pub outcome_full : (old : List Entry) → IsLeft disk hands old (begun limits (sheets_used hands) old) → Outcome spoken Memory
    outcome_full old left = inr (inl (none, none_said, (commands, refl), (old, left)))

-- how it ended, by what its words ask for
pub ends_form : (run : Run) (said : SinkUse → RunStatus → List Answer → Type 0) (form : Form) (status : RunStatus) → AskFor run form → EndsAs run said form status → EndsBy run said status
ends_form run said form_is.Run (Usage word) asked e = absurd e
ends_form run said form_is.Check (Usage word) asked e = absurd e.2.1
ends_form run said (form_is.Gen seed count) (Usage word) asked e = absurd e.1.1
ends_form run said form status asked e = (form, asked, e)
