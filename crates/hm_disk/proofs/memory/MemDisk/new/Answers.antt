use Rattle.std.proofs.Common.{rules}
use Rattle.hm_disk.proofs.Calls.{kept_new}
use Rattle.hm_disk.proofs.memory.MemDisk.new.Goals as goal

pub invariant_of-result : goal.invariant_of-result
invariant_of-result c = record {
  kept = kept_new _ c.args.bytes.items (search rules) (search rules) (search rules) (search rules) (search rules);
  bytes_room = search rules;
  synced_room = search rules;
  dirty_room = search rules;
}
