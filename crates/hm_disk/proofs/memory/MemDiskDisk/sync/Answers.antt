use Rattle.std.proofs.Common.{rules, refl}
use Rattle.hm_disk.proofs.Calls.{kept_as, kept_sync}
use Rattle.hm_disk.proofs.memory.MemDiskDisk.sync.Goals as goal

pub invariant_of-self-2 : goal.invariant_of-self-2
invariant_of-self-2 c = record {
  kept = kept_as _ _ (kept_sync _ c.self.invariant.kept) refl refl (search rules) (search rules) (search rules);
  bytes_room = c.self.invariant.bytes_room;
  synced_room = search (rules, c.self.invariant.synced_room);
  dirty_room = search (rules, c.self.invariant.dirty_room);
}
