use Rattle.hm_model.proofs.Prefixes.{legal_before, legal_cut, back-cut, back-push}
use Rattle.hm_model.proofs.laws.parts_are_legal.Goals as goal

pub returns-clause-older : goal.returns-clause-older
returns-clause-older c = legal_before

pub returns-clause-front : goal.returns-clause-front
returns-clause-front c = legal_cut

pub returns-clause-push : goal.returns-clause-push
returns-clause-push c = back-push

pub returns-clause-cut : goal.returns-clause-cut
returns-clause-cut c = back-cut
