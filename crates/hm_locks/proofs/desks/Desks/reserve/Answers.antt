use Rattle.std.proofs.Common.{arith}
use Rattle.hm_locks.proofs.desks.Desks.reserve.Goals as goal

pub invariant_of-self-2 : goal.invariant_of-self-2
invariant_of-self-2 c =
    let desks = c.self.invariant in
    let few = c.requires in
    let most = desks.most in
    let small = desks.few in
    let is = c.max-self-inside.ensures in
    rw c.reserve.ensures.pairs (record {
      most = omega (arith, most, is);
      few = omega (arith, few, small, is);
      within = desks.within;
      apart = desks.apart;
    })
