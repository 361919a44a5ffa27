use Rattle.std.proofs.Common.{ap, sym}
use Rattle.hm_server.specs.Actors.{StorageView, answer_in, is_laid_in}
use Rattle.hm_server.proofs.storage.StorageActor.show_fenced.Goals as goal

pub returns-clause-storage : goal.returns-clause-storage
returns-clause-storage c =
    let answers = ap (λ (t : StorageView). t.answers) c.self.view_is in
    let fenced = ap (λ (t : StorageView). t.fenced) c.self.view_is in
    let laid = ap (λ (t : StorageView). t.laid) c.self.view_is in
    let refusals = ap (λ (t : StorageView). t.refusals) c.self.view_is in
    record {
      answer = λ id. ap (λ l. answer_in l id) (sym answers);
      fenced = rw (← fenced) c.in_ok-add_fence.ensures.fenced;
      laid = λ root. ap (λ l. is_laid_in l root) (sym laid);
      refusals = sym refusals;
    }
