use Rattle.hm_commands.proofs.Adding.{commands_add}
use Rattle.hm_commands.proofs.laws.commands_add_their_own.Goals as goal

pub returns : goal.returns
returns c = commands_add
