-- Which scripts are read.
use Rattle.std.specs.Prelude.{ℕ, List}
use Rattle.hm_script.specs.declared.bad.Bad.{Bad}
use Rattle.hm_script.specs.declared.command.Command.{Command}
use Rattle.hm_script.specs.Script.{IsFaultTo, IsScriptTo}
use Rattle.hm_commands.specs.Offered.{offered}

-- the bytes are a script of these commands
abbrev pub IsScript : List ℕ → List Command → Type 0
IsScript bytes commands = IsScriptTo offered bytes commands

-- why bytes are no script: the first fault of the first line that has one, or else the first command that isn't offered
abbrev pub IsBad : List ℕ → Bad → Type 0
IsBad bytes bad = IsFaultTo offered bytes bad
