use Rattle.hm_gen.proofs.Parts.{all_generated}
use Rattle.hm_gen.proofs.script.generated_are_own.Goals as goal

pub returns : goal.returns
returns c = all_generated
