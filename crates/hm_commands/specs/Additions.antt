-- That a command adds entries of its own alone, also where the last of them couldn't be recorded.
use Rattle.std.specs.Prelude.{◌≡◌, List, ◌++◌, All, Option, None}
use Rattle.hm_data.specs.declared.entry.Entry.{Entry}
use Rattle.hm_journal.specs.Since.{with_tail}
use Rattle.hm_script.specs.declared.command.Command.{Command}
use Rattle.hm_world.specs.Scene.{Scene}
use Rattle.hm_commands.specs.Commands.{Comes, MayAdd}
use Rattle.hm_commands.specs.Scenes.{halt_at, journal_at, kept_at, whole}
use Rattle.hm_commands.specs.declared.answer.Answer.{Answer}

-- while nothing halts the run there is no entry whose recording failed
abbrev pub IsTailless : Scene → Type 0
IsTailless at = halt_at at ≡ None → (let kept = kept_at at in kept.tail ≡ None)

-- what was added are entries that the command may add: those that were recorded, and the one whose recording failed, if there is one
pub record AddsItsOwn (command : Command) (old new : Scene) : Type 0 where
  pub recorded : List Entry
  pub failed : Option Entry
  pub each : All (MayAdd command) (with_tail recorded failed)
  pub grown : journal_at new ≡ journal_at old ++ recorded
  pub whole_grown : whole new ≡ whole old ++ with_tail recorded failed

-- each command, answered or not, adds entries of its own alone
abbrev pub CommandsAddTheirOwn : Type 0
CommandsAddTheirOwn =
    (command : Command) (old : Scene) (answer : Option Answer) (new : Scene) → Comes command old answer new
    → IsTailless old → AddsItsOwn command old new × IsTailless new
