use Rattle.std.proofs.Common.{◌+◌, ◌≤◌, List, ℕ, length, refl, arith, ap, subst}
use Rattle.hm_disk.specs.Disk.{Torn}
use Rattle.hm_disk.specs.Memory.{MemView, mem_image}
use Rattle.hm_disk.specs.Fields.{view_of}
use Rattle.hm_disk.proofs.Splice.{torn_same}
use Rattle.hm_disk.proofs.Calls.{kept_as, kept_write, write_follows}
use Rattle.hm_disk.proofs.memory.MemDiskDisk.write_at.Goals as goal

pub returns-then-next_call_fails-clause-crash : goal.returns-then-next_call_fails-clause-crash
returns-then-next_call_fails-clause-crash c f now =
    let P : MemView → Type 0 = λ m. (d : List ℕ) × mem_image m d × Torn c.args.at (length c.args.bytes.now) d f in
    subst P c.self.view_is (f, now, torn_same c.args.at (length c.args.bytes.now) f)

pub invariant_of-self-2 : goal.invariant_of-self-2
invariant_of-self-2 c =
    let low : c.args.at ≤ length c.self.inside.bytes.items = omega (arith, c.requires.place, ap (λ (m : MemView). length m.bytes) c.self.view_is) in
    let fits : c.args.at + length c.args.bytes.now ≤ c.self.inside.room = omega (arith, low, c.self.invariant.kept.within, c.if-bytes-self.false) in
    record {
      kept = kept_as _ _ (kept_write _ c.self.invariant.kept c.args.at c.args.bytes.now low fits) refl c.overlay.ensures.items refl c.mark.ensures.items c.then-self-inside.ensures;
      bytes_room = omega (arith, c.self.invariant.bytes_room);
      synced_room = c.self.invariant.synced_room;
      dirty_room = omega (arith, c.self.invariant.dirty_room);
    }

pub returns-clause-crash : goal.returns-clause-crash
returns-clause-crash c f now =
    let P : MemView → Type 0 = λ m. (d : List ℕ) × mem_image m d × Torn c.args.at (length c.args.bytes.now) d f in
    let low : c.args.at ≤ length c.self.inside.bytes.items = omega (arith, c.requires.place, ap (λ (m : MemView). length m.bytes) c.self.view_is) in
    subst P c.self.view_is (write_follows (view_of c.self.inside) c.args.at c.args.bytes.now _ _ f low c.overlay.ensures.items c.then-self-inside.ensures now)
