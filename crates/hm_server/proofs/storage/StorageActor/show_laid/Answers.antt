use Rattle.std.proofs.Common.{ap, sym}
use Rattle.hm_server.specs.Actors.{StorageView, answer_in, is_fenced_in}
use Rattle.hm_server.proofs.storage.StorageActor.show_laid.Goals as goal

pub returns-clause-storage : goal.returns-clause-storage
returns-clause-storage c =
    let answers = ap (λ (t : StorageView). t.answers) c.self.view_is in
    let fenced = ap (λ (t : StorageView). t.fenced) c.self.view_is in
    let laid = ap (λ (t : StorageView). t.laid) c.self.view_is in
    let refusals = ap (λ (t : StorageView). t.refusals) c.self.view_is in
    record {
      answer = λ id. ap (λ l. answer_in l id) (sym answers);
      fenced = λ server. ap (λ l. is_fenced_in l server) (sym fenced);
      laid = rw (← laid) c.in_ok-set_layout.ensures.laid;
      refusals = sym refusals;
    }
