use Rattle.std.proofs.Common.{◌∙◌, ap, sym, Some, if◌then◌else◌}
use Rattle.std.specs.Ordering.{is_eq}
use Rattle.hm_names.specs.Order.{pid_cmp}
use Rattle.hm_data.specs.declared.call.Told.TheVariants as told_is
use Rattle.hm_index.specs.Index.{find}
use Rattle.hm_server.specs.Actors.{StorageView, is_laid_in}
use Rattle.hm_server.proofs.Alike.{kept_answer}
use Rattle.hm_server.proofs.storage.StorageActor.fence.Goals as goal

pub returns-clause-storage : goal.returns-clause-storage
returns-clause-storage c =
    let f = c.self.inside in
    let answers = ap (λ (t : StorageView). t.answers) c.self.view_is in
    let fenced = ap (λ (t : StorageView). t.fenced) c.self.view_is in
    let laid = ap (λ (t : StorageView). t.laid) c.self.view_is in
    let refusals = ap (λ (t : StorageView). t.refusals) c.self.view_is in
    record {
      answer = rw (← answers) (kept_answer f.answers.pairs c.set.new.self.pairs c.args.id told_is.Fenced (λ other. c.set.ensures.pairs other ∙ ap (λ l. if is_eq (pid_cmp c.args.id other) then Some told_is.Fenced else find pid_cmp l other) c.in_ok-reserve.ensures.pairs));
      fenced = rw (← fenced) c.in_ok-add_fence.ensures.fenced;
      laid = λ root. ap (λ l. is_laid_in l root) (sym laid);
      refusals = sym refusals;
    }
