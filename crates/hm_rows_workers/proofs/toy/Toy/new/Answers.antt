use Rattle.std.proofs.Common.{append-nil, arith, subst, sym, ◌∙◌}
use Rattle.std.proofs.lemmas.Grind.{common_steps}
use Rattle.hm_rows_workers.specs.Tasks.{AreSo, outs_from}
use Rattle.hm_rows_workers.proofs.Telling.{AllWait, none_out, one_more, so_begins}
use Rattle.hm_rows_workers.proofs.toy.Toy.new.Goals as goal

pub loop-preserved : goal.loop-preserved
loop-preserved c = record {
  all = subst AllWait (sym c.in_ok-push.ensures.items) (one_more c.loop.stages.items c.loop.invariant.all);
  long = grind (arith, common_steps, c.in_ok-push.ensures.items, c.loop.invariant.long);
}

pub invariant_of-result : goal.invariant_of-result
invariant_of-result c = record {
  so = subst (AreSo c.loop.stages.items) (sym c.new.ensures.items) (so_begins c.loop.stages.items c.loop.invariant.all);
  all = grind (arith, c.loop.invariant.long, c.loop-test.false, c.from.ensures);
  few = grind (arith, c.loop.invariant.long, c.loop-test.false);
}

pub returns : goal.returns
returns c = record { none = append-nil (outs_from 0 c.loop.stages.items) ∙ none_out 0 c.loop.stages.items c.loop.invariant.all }
