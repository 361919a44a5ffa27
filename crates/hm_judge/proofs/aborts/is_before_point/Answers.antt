use Rattle.std.proofs.Common.{ap, sym, ◌∙◌}
use Rattle.std.specs.Option.{option_copied}
use Rattle.hm_judge.proofs.Failing.{no_point, point_iff}
use Rattle.hm_judge.proofs.aborts.is_before_point.Goals as goal

pub returns-in-Some-next_row : goal.returns-in-Some-next_row
returns-in-Some-next_row c =
    point_iff c.args.records.now.past c.find.ensures.legal c.args.pid.0 c.in-Some.found.now (sym (ap option_copied c.in-Some.is) ∙ c.find.ensures.found)
    c.next_row.result c.next_row.ensures c.in-Some-next_row.row c.in-Some-next_row.is

pub returns-in-None : goal.returns-in-None
returns-in-None c =
    no_point c.args.records.now.past c.find.ensures.legal c.args.pid.0 c.in-Some.found.now (sym (ap option_copied c.in-Some.is) ∙ c.find.ensures.found)
    c.next_row.result c.next_row.ensures c.in-None.is
