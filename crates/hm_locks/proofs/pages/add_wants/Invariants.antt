use Rattle.std.proofs.Common.{◌≡◌, ◌+◌, ◌≤◌, ℕ, length, Some, vec_len, vec_capacity}
use Rattle.hm_index.specs.Index.{find}
use Rattle.hm_locks.specs.Kept.{AreAdded}
use Rattle.hm_locks.specs.Keys.{lock_cmp}
use Rattle.hm_locks.specs.declared.key.Key.{Key}
use Rattle.hm_locks.proofs.pages.add_wants.Given as goal

abbrev pub invariant-loop-claim : goal.invariant-loop-claim
invariant-loop-claim l = record {
  items : AreAdded l.desks.numbers l.place l.yielded l.fn.wants.items l.wants.items;
  kept : (key : Key) (d : ℕ) → find lock_cmp l.fn.desks.numbers key ≡ Some d → find lock_cmp l.desks.numbers key ≡ Some d;
  len : vec_len l.wants ≡ vec_len l.fn.wants + length l.yielded;
  capacity : vec_capacity l.wants ≡ vec_capacity l.fn.wants;
  limit : l.desks.limit ≡ l.fn.desks.limit;
  spare : l.fn.desks.spare ≤ l.desks.spare + length l.yielded;
  room : l.desks.room ≡ l.fn.desks.room;
}
