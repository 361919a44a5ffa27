use Rattle.std.proofs.Common.{Option, subst, sym}
use Rattle.std.specs.Prelude.{IsSome}
use Rattle.hm_locks.specs.Book.{Row}
use Rattle.hm_roster.specs.Roster.{finished}
use Rattle.hm_roster.proofs.Placing.{out_of}
use Rattle.hm_roster.proofs.Ranging.{same_on}
use Rattle.hm_roster.proofs.desk.Desk.finish_both.Goals as goal

pub finish_other-requires-clause-enlisted : goal.finish_other-requires-clause-enlisted
finish_other-requires-clause-enlisted g c differs over = subst (λ (o : Option Row). IsSome o) (sym (c.finish_if.ensures.others c.args.root.0 differs)) c.requires.root_enlisted

pub returns-clause-owes : goal.returns-clause-owes
returns-clause-owes g c debts owes = c.finish_other.ensures.owes (finished debts c.args.pid.0) (out_of debts.over c.args.pid.0) (c.finish_if.ensures.owes debts owes)

pub returns-clause-same : goal.returns-clause-same
returns-clause-same g c = same_on c.args.self.now c.finish_if.new.self c.finish_other.new.self c.finish_if.ensures.same c.finish_other.ensures.same
