use Rattle.std.proofs.Common.{List, ℕ, inl, refl, arith, subst}
use Rattle.hm_disk.specs.Disk.{CutOrWhole}
use Rattle.hm_disk.specs.Memory.{MemView, mem_image}
use Rattle.hm_disk.proofs.Calls.{kept_as, kept_cut}
use Rattle.hm_disk.proofs.memory.MemDiskDisk.cut.Goals as goal

pub returns-then-next_call_fails-clause-crash : goal.returns-then-next_call_fails-clause-crash
returns-then-next_call_fails-clause-crash c f now =
    let P : MemView → Type 0 = λ m. (d : List ℕ) × mem_image m d × CutOrWhole c.args.size d f in
    subst P c.self.view_is (f, now, inl refl)

pub invariant_of-self-2 : goal.invariant_of-self-2
invariant_of-self-2 c = record {
  kept = kept_as _ _ (kept_cut _ c.self.invariant.kept c.args.size) refl c.truncate.ensures.items refl c.truncate-2.ensures.items c.then-self-inside.ensures;
  bytes_room = omega (arith, c.self.invariant.bytes_room);
  synced_room = c.self.invariant.synced_room;
  dirty_room = omega (arith, c.self.invariant.dirty_room);
}
