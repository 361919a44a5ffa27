-- How making a cluster by a script ends.
use Rattle.std.proofs.Common.{◌≡◌, ℕ, List, [], Option, Some, None, refl, sym, ap, ◌∙◌, subst, inl, inr}
use Rattle.hm_gen.specs.Generated.{generated}
use Rattle.hm_hall.specs.declared.fault.Halt.{Halt}
use Rattle.hm_hall.specs.declared.fault.Halt.TheVariants as halt_is
use Rattle.hm_journal.specs.declared.limits.Limits.{Limits}
use Rattle.hm_journal.specs.declared.why.JournalWhy.{JournalWhy}
use Rattle.hm_journal.specs.declared.why.JournalWhy.TheVariants as why_is
use Rattle.hm_script.specs.declared.command.Command.{Command}
use Rattle.hm_world.specs.Scene.{Scene}
use Rattle.hm_commands.specs.Hands.{HandsUse}
use Rattle.hm_commands.specs.Scenes.{halt_at}
use Rattle.hm_commands.specs.declared.answer.Answer.{Answer}
use Rattle.hm_top.specs.declared.status.EarlyEnd.TheVariants as early_is
use Rattle.hm_top.specs.declared.status.RunStatus.{RunStatus}
use Rattle.hm_top.specs.declared.status.RunStatus.TheVariants.{Done, LogRefused, WriteFault, Memory}
use Rattle.hm_top.specs.declared.status.LogWhy.{LogWhy}
use Rattle.hm_top.specs.declared.status.LogWhy.TheVariants as log_why_is
use Rattle.hm_top.specs.declared.talking.Stop.{Stop}
use Rattle.hm_top.specs.declared.talking.Stop.TheVariants as stop_is
use Rattle.hm_top.specs.Ending.{halted_status, stop_status, unopened_status}
use Rattle.hm_top.specs.Generating.{EndsGen, IsFresh, IsNotFresh, TellsAs, TellsOf, made_session, nowhere, text_at}
use Rattle.hm_top.specs.Got.{SaysLine}
use Rattle.hm_top.specs.Ports.{DiskUse, SinkUse}
use Rattle.hm_top.specs.Run.{before_line}
use Rattle.hm_top.specs.Session.{Outcome, Session, WasOpened}
use Rattle.hm_top.proofs.Lines.{none_said}
use Rattle.hm_top.proofs.Outcomes.{opened_map, outcome_map, spoken}
use Rattle.hm_top.proofs.Refusals.{halt_tells}

-- the line of a script that was answered is no refusal of the log
pub line_tells : (out : SinkUse) (said : RunStatus → List Answer → Type 0) (seed count : ℕ) (halted : Option Halt) (at : Scene) (why : LogWhy) → TellsAs out said seed count halted at (LogRefused why) → ⊥
line_tells out said seed count None at why tells = tells
line_tells out said seed count (Some halt) at why tells = halt_tells (Some halt) why (sym tells.0)

module _ (limits : Limits) (disk : DiskUse) (hands : HandsUse) (marks : List ℕ) (seed count : ℕ) where
  abbrev made : Session
  made = made_session limits disk hands marks seed count

  -- commands that are the script, answered to a sink that didn't fail
  module _ (commands : List Command) (script : commands ≡ generated seed count) (sink : SinkUse) (works : sink.failed → ⊥) where
    abbrev here : Session
    here = spoken IsFresh commands limits sink disk hands marks

    pub made_outcome : (status : RunStatus) → Outcome here status → Outcome made status
    made_outcome status o = outcome_map here (λ cs. cs ≡ generated seed count) (λ s answers. Unit {0}) nowhere (λ cs is. is ∙ script) status (λ answers t. tt) works o

    pub made_opened : (at : Scene) → ((opened : WasOpened here Done) × (opened.new ≡ at)) → (opened : WasOpened made Done) × (opened.new ≡ at)
    made_opened at (opened, is) = (opened_map here (λ cs. cs ≡ generated seed count) (λ s answers. Unit {0}) nowhere Done (λ cs is. is ∙ script) (λ answers t. tt) opened, is)

  module _ (out : SinkUse) where
    abbrev ends : RunStatus → Type 0
    ends = EndsGen limits disk hands marks seed count out (before_line out)

    -- what was said of where the script was answered
    module _ (at : Scene) (all : (opened : WasOpened made Done) × (opened.new ≡ at)) where
      line_there : (status : RunStatus) → SaysLine (before_line out) status (text_at seed count at) → SaysLine (before_line out) status (text_at seed count all.0.new)
      line_there status line = subst (λ (s : Scene). SaysLine (before_line out) status (text_at seed count s)) (sym all.1) line

      told_as : (halted : Option Halt) → halt_at at ≡ halted → Outcome made (halted_status halted) → (status : RunStatus) → TellsAs out (before_line out) seed count halted at status → ends status
      told_as None is o Done line = ((all.0, ap halt_at all.1 ∙ is), line_there Done line)
      told_as None is o WriteFault (failed, line) = (failed, ((all.0, ap halt_at all.1 ∙ is), line_there WriteFault line))
      told_as None is o Memory said = (said, inr (inr (all.0, ap halt_at all.1 ∙ is)))
      told_as None is o status said = absurd said
      told_as (Some halt_is.LogFault) is o status (same, said) = subst ends (sym same) (subst (λ s. before_line out s []) same said, o)
      told_as (Some (halt_is.JournalFull bytes)) is o status (same, said) = subst ends (sym same) (subst (λ s. before_line out s []) same said, o)

      pub told_of : Outcome made (halted_status (halt_at at)) → (status : RunStatus) → TellsOf out (before_line out) seed count at status → ends status
      told_of o status tells = told_as (halt_at at) refl o status tells

    -- no line was said
    module _ (quiet : out.tells → out.after ≡ out.before) where
      pub gen_stopped : (stop : Stop) → Outcome made (stop_status stop) → ends (stop_status stop)
      gen_stopped stop_is.NoRoom o = (λ told. none_said out.before out.after (quiet told), inr (inl o))
      gen_stopped (stop_is.Early (early_is.Halted halt_is.LogFault)) o = (λ told. none_said out.before out.after (quiet told), o)
      gen_stopped (stop_is.Early (early_is.Halted (halt_is.JournalFull bytes))) o = (λ told. none_said out.before out.after (quiet told), o)
      gen_stopped (stop_is.Early early_is.WriteFault) o = absurd o.0
      gen_stopped (stop_is.Early early_is.Memory) o = (λ told. none_said out.before out.after (quiet told), inr (inl o))

      pub gen_unopened : (why : JournalWhy) → Outcome made (unopened_status why) → ends (unopened_status why)
      gen_unopened why_is.Fault o = (λ told. none_said out.before out.after (quiet told), o)
      gen_unopened why_is.Memory o = (λ told. none_said out.before out.after (quiet told), inr (inl o))
      gen_unopened why o = (λ told. none_said out.before out.after (quiet told), inl o)

      pub gen_refused : (entries : ℕ) → IsNotFresh limits disk hands marks seed count entries → ends (LogRefused (log_why_is.NotEmpty entries))
      gen_refused entries not_fresh = (λ told. none_said out.before out.after (quiet told), inr (entries, refl, not_fresh))

      pub gen_unmade : disk.untouched → marks ≡ [] → ends Memory
      gen_unmade untouched none = (λ told. none_said out.before out.after (quiet told), inl (untouched, none))
