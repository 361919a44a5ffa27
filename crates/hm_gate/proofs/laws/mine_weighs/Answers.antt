use Rattle.hm_gate.proofs.Weighing as weighing
use Rattle.hm_gate.proofs.laws.mine_weighs.Goals as goal

pub returns : goal.returns
returns g c = weighing.mine_weighs g.V.Kept.shown
