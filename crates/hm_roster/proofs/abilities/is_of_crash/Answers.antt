use Rattle.std.proofs.Common.{ap, sym, ◌∙◌}
use Rattle.std.specs.Option.{option_copied}
use Rattle.hm_model.specs.Records.{record_of}
use Rattle.hm_roster.proofs.Awaiting.{crashless}
use Rattle.hm_roster.proofs.abilities.is_of_crash.Goals as goal

pub returns-in_default : goal.returns-in_default
returns-in_default c =
    crashless c.args.records.now.past c.procedures-procedures.ensures.legal c.args.pid.0
    (sym (ap option_copied c.in_default.is) ∙ c.find.ensures ∙ ap (λ J. record_of J c.args.pid.0) c.procedures-procedures.ensures.past)
