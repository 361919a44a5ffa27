use Rattle.std.proofs.Common.{ap, sym, subst, ◌∙◌}
use Rattle.std.specs.Option.{option_copied}
use Rattle.hm_model.specs.Journal.{Past}
use Rattle.hm_model.specs.OldRoots.{old_record_of}
use Rattle.hm_procedures.specs.OldRoots.{AreRising, IsFound}
use Rattle.hm_procedures.specs.Procedures.{ProceduresView}
use Rattle.hm_procedures.proofs.Olds.{found_shown, rising}
use Rattle.hm_procedures.proofs.procedures.Procedures.find_old.Goals as goal

pub find_old-requires : goal.find_old-requires
find_old-requires c =
    let J : Past = c.self.inside.past.entries in
    subst AreRising (sym (c.deref.ensures.value ∙ c.self.invariant.0.2.shown)) (rising J c.self.invariant.0.0.legal)

pub returns : goal.returns
returns c =
    let J : Past = c.self.inside.past.entries in
    found_shown J c.self.invariant.0.0.legal c.args.pid.0 (option_copied c.find_old.result) (subst (λ l. IsFound l c.args.pid.0 (option_copied c.find_old.result)) (c.deref.ensures.value ∙ c.self.invariant.0.2.shown) c.find_old.ensures)
    ∙ ap (λ (v : ProceduresView). old_record_of v.past c.args.pid.0) c.self.view_is
