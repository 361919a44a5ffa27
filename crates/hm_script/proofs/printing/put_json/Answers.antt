use Rattle.std.proofs.Common.{refl}
use Rattle.hm_script.proofs.printing.put_json.Goals as goal

pub returns-clause-fit : goal.returns-clause-fit
returns-clause-fit c = ((refl, refl), refl)
