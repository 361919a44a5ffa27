-- Whoever can go on stays able to.
use Rattle.hm_tied.specs.AblesIn.{ClaimedStayAble}
use Rattle.hm_tied.proofs.Ables.{ables_stay}

pub claimed_stay_able : ClaimedStayAble
claimed_stay_able entry J number_of roster legal tied able q among = ables_stay entry J q legal (able q among) (tied.claims q among).1
