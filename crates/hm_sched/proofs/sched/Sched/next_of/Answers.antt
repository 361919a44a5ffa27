use Rattle.std.proofs.Common.{arith}
use Rattle.hm_sched.proofs.Keeping.{same_room}
use Rattle.hm_sched.proofs.Passing.{next_some, passing_next, popped_was}
use Rattle.hm_sched.proofs.sched.Sched.next_of.Goals as goal

pub first_conflict-requires : goal.first_conflict-requires
first_conflict-requires g c = c.requires.enlisted c.in-Some.pid (popped_was _ _ _ _ _ _ _ c.in-Some.pid c.loop-pid.invariant.passing c.in-Some.ensures.pops)

pub loop-pid-preserved : goal.loop-pid-preserved
loop-pid-preserved g c = record {
  passing = passing_next _ _ _ _ _ _ _ _ _ c.in-Some.pid c.in-Some-first_conflict.holder.0 c.requires.ready c.loop-pid.invariant.passing c.in-Some.ensures.pops c.in-Some-first_conflict.ensures.first c.push.ensures.list
      (let pop = c.pop.ensures.steps in
      let asks = c.first_conflict.ensures.steps in
      let push = c.push.ensures.steps in omega (arith, pop, asks, push));
  room = same_room _ _ _ (same_room _ _ _ c.loop-pid.invariant.room c.pop.ensures.room) c.push.ensures.room;
}

pub returns-in-None-clause-next : goal.returns-in-None-clause-next
returns-in-None-clause-next g c =
    next_some _ _ _ _ _ _ _ _ c.in-Some.pid c.loop-pid.invariant.passing c.in-Some.ensures.pops c.in-None.ensures.first
    (let pop = c.pop.ensures.steps in
    let asks = c.first_conflict.ensures.steps in omega (arith, pop, asks))
