use Rattle.std.proofs.Common.{◌≡◌, ◌-◌}
use Rattle.hm_entry.specs.Reading.{items_at}
use Rattle.hm_entry.proofs.Loop.{with_front}
use Rattle.hm_entry.proofs.get.items.Given as goal

abbrev pub invariant-loop : goal.invariant-loop
invariant-loop g l = with_front l.items.items (items_at g.T.Get.read (l.count - l.counter) l.r) ≡ items_at g.T.Get.read l.count l.fn.r
