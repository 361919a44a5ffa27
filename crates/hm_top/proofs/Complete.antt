-- Where nothing is wrong and nothing fails, a run is done, or the journal is full; and why each status comes.
use Rattle.std.proofs.Common.{◌≡◌, ℕ, List, Ok, refl, sym, ◌∙◌, subst, inl, inr}
use Rattle.hm_data.specs.declared.entry.Entry.{Entry}
use Rattle.hm_script.specs.declared.command.Command.{Command}
use Rattle.hm_script.specs.declared.bad.Bad.{Bad}
use Rattle.hm_commands.specs.declared.answer.Answer.{Answer}
use Rattle.hm_commands.proofs.Growth.{IsPassed}
use Rattle.hm_top.specs.declared.status.RunStatus.{RunStatus}
use Rattle.hm_top.specs.declared.status.RunStatus.TheVariants.{Done, Usage, BadScript, LogFault, LogRefused, ReadFault, WriteFault, JournalFull, Memory}
use Rattle.hm_top.specs.declared.words.Form.{Form}
use Rattle.hm_top.specs.declared.words.Form.TheVariants as form_is
use Rattle.hm_top.specs.Generating.{made_session}
use Rattle.hm_top.specs.Ports.{SinkUse}
use Rattle.hm_top.specs.Run.{Accepts, Ends, EndsAs, IsBadScript, IsComplete, IsRead, RanOut, RanOutIn, Run, behind_line, session_of}
use Rattle.hm_top.specs.Script.{IsBad, IsScript}
use Rattle.hm_top.specs.Session.{Outcome, Session}
use Rattle.hm_top.specs.Words.{form_of}
use Rattle.hm_top.proofs.Full.{ended_full}

-- a script isn't bad
pub not_bad : (bytes : List ℕ) (commands : List Command) (bad : Bad) → IsScript bytes commands → IsBad bytes bad → ⊥
not_bad bytes commands bad script is = absurd (cc)

-- one call has one form
one_form : (run : Run) (form other : Form) → form_of run.words ≡ Ok form → form_of run.words ≡ Ok other → form ≡ other
one_form run form other is also = let same : Ok form ≡ Ok other = sym is ∙ also in cc

module _ (run : Run) where
  -- only `run` refuses a script
  pub bad_in : (form : Form) (bad : Bad) → EndsAs run behind_line form (BadScript bad) → (form ≡ form_is.Run) × IsBadScript run bad
  bad_in form_is.Run bad e = (refl, e.0)
  bad_in form_is.Check bad e = absurd e.2.1
  bad_in (form_is.Gen seed count) bad e = absurd e.1.1

  -- a fault of the log has its cause
  pub fault_in : (form : Form) → EndsAs run behind_line form LogFault → run.disk.failed
  fault_in form_is.Run e = e.0
  fault_in form_is.Check e = e.2.1.0
  fault_in (form_is.Gen seed count) e = e.1.1.0

  -- so has one of the source
  pub read_in : (form : Form) → EndsAs run behind_line form ReadFault → run.script.failed
  read_in form_is.Run e = e.0
  read_in form_is.Check e = absurd e.2.1
  read_in (form_is.Gen seed count) e = absurd e.1.1

  -- and one of the sink
  pub write_in : (form : Form) → EndsAs run behind_line form WriteFault → run.out.failed
  write_in form_is.Run e = e.0
  write_in form_is.Check e = e.2.1.0
  write_in (form_is.Gen seed count) e = e.1.0

  -- and a full journal
  pub full_in : (form : Form) (bytes : ℕ) → EndsAs run behind_line form (JournalFull bytes) → IsPassed run.limits.hard bytes
  full_in form_is.Run bytes e = ended_full (session_of run behind_line) bytes e
  full_in form_is.Check bytes e = absurd e.2.1
  full_in (form_is.Gen seed count) bytes e = ended_full (made_session run.limits run.disk run.hands run.marks seed count) bytes e.1.1

  -- where memory ran out for commands
  module _ (takes : List Entry → Type 0) (given : List Command → Type 0) (said : RunStatus → List Answer → Type 0) (out : SinkUse) where
    abbrev its : Session
    its = record { takes = takes; given = given; said = said; limits = run.limits; out = out; disk = run.disk; hands = run.hands; marks = run.marks }

    lacks : Outcome its Memory → (commands : List Command) × given commands × RanOutIn run its commands
    lacks (inl vain) = (vain.0.2.0, vain.0.2.1, inl (λ told. (vain.2.1 told).0))
    lacks (inr (inl full)) = (full.2.0, full.2.1, inr (inl (full.3.0, full.3.1.held)))
    lacks (inr (inr opened)) = (opened.commands, opened.given_are, inr (inr (opened.old, opened.new, opened.answering)))

  -- where memory ran out
  pub ran_out : (form : Form) → EndsAs run behind_line form Memory → RanOut run form
  ran_out form_is.Run (inl idle) = inl idle.0
  ran_out form_is.Run (inr o) = inr (lacks (λ old. Unit {0}) (IsRead run) (behind_line run.out) run.out o)
  ran_out form_is.Check e = e.2.0
  ran_out (form_is.Gen seed count) (untouched, (said, inl idle)) = inl idle.0
  ran_out (form_is.Gen seed count) (untouched, (said, inr (inl o))) =
      let made = made_session run.limits run.disk run.hands run.marks seed count in
      let found = lacks made.takes made.given made.said made.out o in
      inr (inl (subst (RanOutIn run made) found.1 found.2))
  ran_out (form_is.Gen seed count) (untouched, (said, inr (inr made))) = inr (inr made)

-- the words and the script are right, and nothing failed
pub complete : (run : Run) (status : RunStatus) → Accepts run status → Ends run status → IsComplete run status
complete run Done accepts e told held form journal asked right on fits reads takes works = inl refl
complete run (JournalFull bytes) accepts e told held form journal asked right on fits reads takes works = inr (inl (bytes, refl))
complete run Memory accepts e told held form journal asked right on fits reads takes works = inr (inr refl)
complete run (Usage word) accepts e told held form journal asked right on fits reads takes works = absurd (let is = sym e.0 ∙ asked in cc)
complete run (BadScript bad) accepts e told held form journal asked right on fits reads takes works =
    let found = bad_in run e.0 bad e.2 in
    let script = right (one_form run form e.0 asked e.1 ∙ found.0) in
    absurd (not_bad run.script.before script.0 bad script.1 (found.1.1 told).0)
complete run LogFault accepts e told held form journal asked right on fits reads takes works = absurd (works (fault_in run e.0 e.2))
complete run (LogRefused why) accepts e told held form journal asked right on fits reads takes works = absurd (accepts form asked held journal on fits why refl)
complete run ReadFault accepts e told held form journal asked right on fits reads takes works = absurd (reads (read_in run e.0 e.2))
complete run WriteFault accepts e told held form journal asked right on fits reads takes works = absurd (takes (write_in run e.0 e.2))
