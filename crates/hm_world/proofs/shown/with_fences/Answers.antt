use Rattle.std.proofs.Common.{List, ◌∙◌, subst, sym}
use Rattle.hm_names.specs.Server.{Server}
use Rattle.hm_model.specs.declared.standing.Standing.{Standing}
use Rattle.hm_server.specs.Actors.{storage_of}
use Rattle.hm_world.specs.Shown.{IsFencedBut}
use Rattle.hm_world.proofs.Storages.{fences_first, fences_last, fences_next}
use Rattle.hm_world.proofs.shown.with_fences.Goals as goal

pub loop-server-init : goal.loop-server-init
loop-server-init c =
    let J = c.args.state.now.past in
    record {
      fences = subst (λ (rows : List (Server × Standing)). IsFencedBut J rows (storage_of c.in_ok-storage.storage))
          (sym (c.into_iter-server-iterator.ensures.into_iter_gives ∙ c.iter-server-items.ensures ∙ c.all-servers.ensures ∙ c.servers.ensures))
          (fences_first J c.journal.ensures.legal (storage_of c.in_ok-storage.storage) c.in_ok-storage.ensures);
    }

pub loop-server-preserved : goal.loop-server-preserved
loop-server-preserved c =
    let J = c.args.state.now.past in
    record {
      fences = fences_next J c.in-Some.field-0.now.0 c.in-Some.field-0.now.1 c.next.new.self (storage_of c.loop-server.storage) (storage_of c.show_fence.new.storage)
          (subst (λ (rows : List (Server × Standing)). IsFencedBut J rows (storage_of c.loop-server.storage)) c.in-Some.ensures.steps c.loop-server.invariant.fences) c.in_ok-show_fence.ensures;
    }

pub returns : goal.returns
returns c =
    let J = c.args.state.now.past in
    fences_last J (storage_of c.loop-server.storage)
    (subst (λ (rows : List (Server × Standing)). IsFencedBut J rows (storage_of c.loop-server.storage)) c.in-None.ensures.steps.0 c.loop-server.invariant.fences)
