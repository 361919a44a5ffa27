use Rattle.std.proofs.Common.{ap, sym, ◌∙◌}
use Rattle.std.specs.Option.{option_copied}
use Rattle.hm_model.specs.Phase.{ended}
use Rattle.hm_judge.proofs.Failing.{abort_iff}
use Rattle.hm_judge.proofs.aborts.can_abort.Goals as goal

pub returns : goal.returns
returns c =
    abort_iff c.args.records.now.past c.find.ensures.legal c.args.pid.0 c.in-Some.found.now (sym (ap option_copied c.in-Some.is) ∙ c.find.ensures.found)
    (sym c.is_root.ensures ∙ c.if-not-is_root.false) c.if-found.false
    (ap (λ J. ended J c.args.pid.0) (sym c.procedures.ensures.past) ∙ sym c.has_ended.ensures ∙ c.if-has_ended.false) c.has_failed.result c.has_failed.ensures
