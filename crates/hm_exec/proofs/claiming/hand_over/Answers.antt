use Rattle.hm_exec.proofs.Given.{given_stays}
use Rattle.hm_exec.proofs.claiming.hand_over.Goals as goal

pub returns-in_err-reserve_claim-clause-given : goal.returns-in_err-reserve_claim-clause-given
returns-in_err-reserve_claim-clause-given c =
    given_stays c.args.state.now.past c.args.desk.now c.reserve_claim.new.self c.args.pid.0 c.reserve_claim.ensures.claimed c.reserve_claim.ensures.numbers c.reserve_claim.ensures.sched c.reserve_claim.ensures.book c.requires.given

pub returns-clause-given : goal.returns-clause-given
returns-clause-given c =
    given_stays c.args.state.now.past c.args.desk.now c.reserve_claim.new.self c.args.pid.0 c.reserve_claim.ensures.claimed c.reserve_claim.ensures.numbers c.reserve_claim.ensures.sched c.reserve_claim.ensures.book c.requires.given
