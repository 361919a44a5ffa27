use Rattle.std.proofs.Common.{ap, sym, ◌∙◌}
use Rattle.std.proofs.lemmas.Bool.{false≢true}
use Rattle.std.specs.Option.{option_copied}
use Rattle.hm_judge.proofs.Undoing.{latest_nobody}
use Rattle.hm_judge.proofs.undos.is_latest.Goals as goal

pub returns-in_default : goal.returns-in_default
returns-in_default c = (
  λ on. absurd (false≢true on),
  λ is. absurd (latest_nobody c.args.records.now.past c.find.ensures.legal c.args.pid.0 c.args.row (sym (ap option_copied c.in_default.is) ∙ c.find.ensures.found) is),
)
