use Rattle.std.proofs.Common.{◌∙◌, ◌++◌, ◌∷◌, [], ap, sym, subst}
use Rattle.std.proofs.lemmas.List.Elements.{All-push}
use Rattle.hm_names.specs.declared.pid.Pid.{Pid}
use Rattle.hm_exec.specs.Claiming.{IsAnswer}
use Rattle.hm_model.specs.Journal.{Past}
use Rattle.hm_model.specs.Locks.{IsIn}
use Rattle.hm_rows_exec.specs.Outs.{AreOut, IsOut, RunView, at_exec}
use Rattle.hm_rows_exec.proofs.run.Run.keep.Goals as goal

pub invariant_of-self : goal.invariant_of-self
invariant_of-self c =
    let exec = c.self.inside.exec in
    let out = c.in_ok-out.out in
    let claimed = subst (λ (v : RunView). IsIn (let pid = c.args.taken.pid in pid.0) (let e = v.exec in e.claimed)) (sym c.self.view_is) c.requires.claimed in
    let is : IsOut (at_exec exec) out = (
      subst (λ (pid : Pid). IsIn pid.0 exec.claimed) (sym c.in_ok-out.ensures.pid) claimed,
      subst (λ (J : Past). IsAnswer J out.1 out.2) (sym c.state.ensures) c.in_ok-out.ensures.answer,
    ) in
    subst (AreOut (at_exec exec)) (sym (c.push_reserved.ensures.items ∙ ap (λ items. items ++ out ∷ []) c.reserve.ensures.items))
    (All-push (IsOut (at_exec exec)) c.self.inside.outs.items out c.self.invariant is)
