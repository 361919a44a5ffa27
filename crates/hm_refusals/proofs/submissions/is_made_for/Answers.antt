use Rattle.std.proofs.Common.{ap, sym, ◌∙◌}
use Rattle.std.specs.Option.{option_copied}
use Rattle.hm_refusals.proofs.Submitting.{made_for}
use Rattle.hm_refusals.proofs.submissions.is_made_for.Goals as goal

pub returns-in-Root : goal.returns-in-Root
returns-in-Root c =
    made_for c.args.records.now.past c.args.pid.0 c.in-Some.found.now (sym (ap option_copied c.in-Some.is) ∙ c.shown.ensures) c.in-Root.asked c.args.request.now c.in-Root.first c.in-Root.is c.same.result
    c.same.ensures
