use Rattle.std.proofs.Common.{ap, sym, ◌∙◌}
use Rattle.std.specs.Option.{option_copied}
use Rattle.hm_model.specs.Records.{record_of}
use Rattle.hm_roster.proofs.Awaiting.{awaits_by}
use Rattle.hm_roster.proofs.abilities.awaits.Goals as goal

pub returns-in-Some : goal.returns-in-Some
returns-in-Some c stuck =
    awaits_by c.args.records.now.past c.procedures.ensures.legal c.args.pid.0 c.in-Some.found.now (sym (ap option_copied c.in-Some.is) ∙ c.find.ensures ∙ ap (λ J. record_of J c.args.pid.0) c.procedures.ensures.past) c.same.result c.same.ensures stuck
