use Rattle.std.proofs.Common.{ap, sym, ◌∙◌}
use Rattle.std.specs.Option.{option_copied}
use Rattle.hm_procedures.proofs.Readers.{undoes_by}
use Rattle.hm_procedures.proofs.procedures.Procedures.undoes.Goals as goal

pub returns-in-Some : goal.returns-in-Some
returns-in-Some c = undoes_by c.args.self.now.past c.kept.ensures.legal c.args.pid.0 c.in-Some.kept.now (sym (ap option_copied c.in-Some.is) ∙ c.kept.ensures.kept) c.undoes.result c.undoes.ensures
