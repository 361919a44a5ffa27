use Rattle.std.proofs.Common.{◌<◌, None, Some, ap, sym, subst, ◌∙◌}
use Rattle.std.specs.Option.{option_copied}
use Rattle.hm_roster.specs.Roster.{number_if}
use Rattle.hm_roster.proofs.desk.Desk.number.Goals as goal

pub returns-in_default-clause-below : goal.returns-in_default-clause-below
returns-in_default-clause-below c = c.requires None

pub returns-in-Some-get-clause-below : goal.returns-in-Some-get-clause-below
returns-in-Some-get-clause-below c = subst (λ n. number_if n < c.args.self.now.sched.servers) (sym (ap option_copied (sym c.in-Some-get.is) ∙ c.get.ensures)) (c.requires (Some c.in-Some.server.now))

pub returns-in-None-clause-below : goal.returns-in-None-clause-below
returns-in-None-clause-below c = subst (λ n. number_if n < c.args.self.now.sched.servers) (sym (ap option_copied (sym c.in-None.is) ∙ c.get.ensures)) (c.requires (Some c.in-Some.server.now))
