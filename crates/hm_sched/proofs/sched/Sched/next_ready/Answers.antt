use Rattle.std.proofs.Common.{subst, inr}
use Rattle.hm_lists.specs.Chains.{IsIn}
use Rattle.hm_sched.proofs.Passing.{next_both, passes_both, passes_first, tables_kept}
use Rattle.hm_sched.proofs.sched.Sched.next_ready.Goals as goal

pub next_of-requires-in-None-clause-enlisted : goal.next_of-requires-in-None-clause-enlisted
next_of-requires-in-None-clause-enlisted g c q is = c.requires.enlisted q (inr (subst (IsIn q) (tables_kept _ _ _ _ _ _ c.in-None.ensures.next) is))

pub returns-in-Some-clause-passes : goal.returns-in-Some-clause-passes
returns-in-Some-clause-passes g c = (passes_first _ _ _ c.in-Some.ensures.next.moves c.in-Some.pid c.in-Some.ensures.next.passes c.in-Some.ensures.out).0

pub returns-in-Some-clause-fewer : goal.returns-in-Some-clause-fewer
returns-in-Some-clause-fewer g c = (passes_first _ _ _ c.in-Some.ensures.next.moves c.in-Some.pid c.in-Some.ensures.next.passes c.in-Some.ensures.out).1

pub returns-in-None-clause-next : goal.returns-in-None-clause-next
returns-in-None-clause-next g c = next_both _ _ _ _ _ _ _ _ c.in-None.ensures.next c.next_of-in-None.ensures.next

pub returns-in-None-clause-passes : goal.returns-in-None-clause-passes
returns-in-None-clause-passes g c =
    (passes_both _ _ _ _ c.in-None.ensures.next.moves c.next_of-in-None.ensures.next.moves c.next_of-in-None.result c.in-None.ensures.next.passes c.next_of-in-None.ensures.next.passes c.next_of-in-None.ensures.out).0

pub returns-in-None-clause-fewer : goal.returns-in-None-clause-fewer
returns-in-None-clause-fewer g c =
    (passes_both _ _ _ _ c.in-None.ensures.next.moves c.next_of-in-None.ensures.next.moves c.next_of-in-None.result c.in-None.ensures.next.passes c.next_of-in-None.ensures.next.passes c.next_of-in-None.ensures.out).1
