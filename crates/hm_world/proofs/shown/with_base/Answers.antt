use Rattle.std.proofs.Common.{List, ◌∙◌, ap, map}
use Rattle.std.proofs.lemmas.List.{take_all}
use Rattle.hm_names.specs.declared.pid.Pid.{Pid}
use Rattle.hm_model.specs.Image.{old_layouts}
use Rattle.hm_model.specs.Journal.{Past}
use Rattle.hm_model.specs.Tree.{pid_of}
use Rattle.hm_server.specs.Actors.{storage_of}
use Rattle.hm_world.specs.Shown.{laid_among, with_laid}
use Rattle.hm_world.proofs.Storages.{layout_more, layouts_last}
use Rattle.hm_world.proofs.shown.with_base.Goals as goal

pub loop-root-preserved : goal.loop-root-preserved
loop-root-preserved c = record {
  laid = layout_more c.args.state.now.past c.layouts-root-items.result.now c.loop-root.root-index (pid_of 0) (storage_of c.loop-root.storage) (storage_of c.show_laid.new.self) c.loop-root-test.true c.loop-root.invariant.laid c.in_ok-show_laid.ensures.storage;
}

pub returns : goal.returns
returns c =
    let J = c.args.state.now.past in
    let rows = take_all c.loop-root.root-index c.layouts-root-items.result.now c.loop-root-test.false ∙ c.layouts-root-items.ensures ∙ ap (λ (K : Past). map pid_of (old_layouts K)) c.records.ensures in
    layouts_last J c.journal.ensures.legal (storage_of c.loop-root.storage) (c.loop-root.invariant.laid ∙ ap (λ (roots : List Pid). with_laid J (laid_among roots)) rows)
