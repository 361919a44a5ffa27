use Rattle.std.proofs.Common.{ap, ◌∙◌}
use Rattle.hm_model.specs.Locks.{in_name_order}
use Rattle.hm_views.proofs.Sorting.{regions_sorted}
use Rattle.hm_views.proofs.order.in_name_order.Goals as goal

pub returns : goal.returns
returns c = regions_sorted c.in_ok-copied.copied.items c.sort.new.self.items c.in_ok-sort.ensures.sorted c.in_ok-sort.ensures.stable ∙ ap in_name_order c.in_ok-copied.ensures
