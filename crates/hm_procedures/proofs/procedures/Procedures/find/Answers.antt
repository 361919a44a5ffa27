use Rattle.std.proofs.Common.{ap, sym, ◌∙◌}
use Rattle.std.specs.Option.{option_copied}
use Rattle.hm_procedures.proofs.Readers.{shown_by}
use Rattle.hm_procedures.proofs.procedures.Procedures.find.Goals as goal

pub returns-in-Some : goal.returns-in-Some
returns-in-Some c = shown_by c.args.self.now.past c.args.pid.0 c.in-Some.kept.now (sym (ap option_copied c.in-Some.is) ∙ c.kept.ensures.kept)
