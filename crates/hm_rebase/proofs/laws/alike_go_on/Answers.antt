use Rattle.hm_rebase.proofs.Allowing.{alike_allow}
use Rattle.hm_rebase.proofs.Forgetting.{forgotten_rowless}
use Rattle.hm_rebase.proofs.Rebased.{alike_places, alike_under_way}
use Rattle.hm_rebase.proofs.Staying.{alike_stay}
use Rattle.hm_rebase.proofs.laws.alike_go_on.Goals as goal

pub returns-clause-allow : goal.returns-clause-allow
returns-clause-allow c = alike_allow

pub returns-clause-stay : goal.returns-clause-stay
returns-clause-stay c = alike_stay

pub returns-clause-under_way : goal.returns-clause-under_way
returns-clause-under_way c = alike_under_way

pub returns-clause-placed : goal.returns-clause-placed
returns-clause-placed c = alike_places

pub returns-clause-rowless : goal.returns-clause-rowless
returns-clause-rowless c = forgotten_rowless
