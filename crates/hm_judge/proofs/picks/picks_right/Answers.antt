use Rattle.std.proofs.Common.{ap, sym, ◌∙◌}
use Rattle.std.specs.Option.{option_copied}
use Rattle.hm_judge.proofs.Picking.{right_by}
use Rattle.hm_judge.proofs.picks.picks_right.Goals as goal

pub returns-then-needed : goal.returns-then-needed
returns-then-needed c =
    right_by c.args.records.now.past c.find.ensures.legal c.args.pid.0 c.in-Some.found.now (sym (ap option_copied c.in-Some.is) ∙ c.find.ensures.found)
    c.args.pick.now c.in-Some-pick.server c.in-Some-pick.is c.needs_server-needed.result c.if-needed.true c.needs_server-needed.ensures c.fits.result c.fits.ensures
