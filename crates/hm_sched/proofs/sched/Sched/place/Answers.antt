use Rattle.std.proofs.Common.{ap, sym, subst}
use Rattle.hm_sched.specs.Queues.{Stations, StandsIn, number}
use Rattle.hm_sched.proofs.Numbers.{number_is}
use Rattle.hm_sched.proofs.sched.Sched.place.Goals as goal

pub returns-clause-one : goal.returns-clause-one
returns-clause-one c k other one two =
    number_is k other (c.list_of.ensures.apart.in_one (number k) (number other) c.args.pid
    (subst (λ ls. StandsIn ls k c.args.pid) (sym (ap (λ (s : Stations). s.lists) c.self.view_is)) one)
    (subst (λ ls. StandsIn ls other c.args.pid) (sym (ap (λ (s : Stations). s.lists) c.self.view_is)) two))
