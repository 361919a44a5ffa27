use Rattle.std.proofs.Common.{ap, sym, ◌∙◌}
use Rattle.std.specs.Option.{option_copied}
use Rattle.hm_procedures.proofs.Blank.{blank_all}
use Rattle.hm_procedures.proofs.Readers.{gone_of}
use Rattle.hm_procedures.proofs.procedures.Procedures.first_child.Goals as goal

pub returns-in-None : goal.returns-in-None
returns-in-None c = sym (blank_all c.args.self.now.past c.kept.ensures.legal c.args.pid.0 (gone_of c.args.self.now.past c.args.pid.0 (sym (ap option_copied c.in-None.is) ∙ c.kept.ensures.kept))).first
