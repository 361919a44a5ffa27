use Rattle.std.proofs.Common.{◌≡◌, ◌+◌, ◌++◌, take, vec_len, vec_capacity}
use Rattle.hm_index.proofs.room.put_all.Given as goal

abbrev pub invariant-loop-item : goal.invariant-loop-item
invariant-loop-item l = record {
  items : l.items.items ≡ l.initial.items.items ++ take l.item-index l.more;
  len : vec_len l.items ≡ vec_len l.initial.items + l.item-index;
  capacity : vec_capacity l.items ≡ vec_capacity l.initial.items;
}
