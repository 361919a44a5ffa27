use Rattle.hm_model.proofs.Counting.{all_ended, none_unfinished}
use Rattle.hm_model.proofs.Nonces.{nonces_once}
use Rattle.hm_model.proofs.laws.roots_are_told.Goals as goal

pub returns-clause-nonces : goal.returns-clause-nonces
returns-clause-nonces c = nonces_once

pub returns-clause-tells : goal.returns-clause-tells
returns-clause-tells c = λ J legal. (none_unfinished J legal, all_ended J)
