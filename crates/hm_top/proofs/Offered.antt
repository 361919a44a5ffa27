-- Which commands are offered.
use Rattle.std.proofs.Common.{◌++◌, ◌∷◌, [], All, List, refl}
use Rattle.std.proofs.lemmas.List.Elements.{All-cons, All-head, All-nil, All-tail}
use Rattle.hm_gen.specs.Generated.{IsGenerated}
use Rattle.hm_script.specs.declared.command.Command.{Command}
use Rattle.hm_script.specs.declared.command.Command.TheVariants as command_is
use Rattle.hm_commands.specs.Offered.{IsOffered}

-- of commands that are offered each is
pub offered_in : (before : List Command) (command : Command) (after : List Command) → All IsOffered (before ++ command ∷ after) → IsOffered command
offered_in [] command after all = All-head IsOffered command after all
offered_in (first ∷ before) command after all = offered_in before command after (All-tail IsOffered first (before ++ command ∷ after) all)

-- commands of the sorts that a made script has
made_is : (command : Command) → IsGenerated command → IsOffered command
made_is (command_is.Server server) is = refl
made_is (command_is.Create nonce table keys) is = refl
made_is command_is.Settle is = refl
made_is (command_is.Move nonce region to) is = refl
made_is (command_is.Die server) is = refl
made_is (command_is.Expire server) is = refl
made_is command_is.Balance is = refl
made_is command is = absurd is

-- so each command of a made script is
pub made_offered : (commands : List Command) → All IsGenerated commands → All IsOffered commands
made_offered [] all = All-nil IsOffered
made_offered (command ∷ commands) all = All-cons IsOffered command commands (made_is command (All-head IsGenerated command commands all)) (made_offered commands (All-tail IsGenerated command commands all))
