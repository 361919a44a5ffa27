use Rattle.std.proofs.Common.{rules, ◌≡◌, ◌≤◌, List, ℕ, length, inr, refl, arith, sym, ap, subst}
use Rattle.hm_disk.specs.Past.{Reaches}
use Rattle.hm_disk.specs.Memory.{MemView, mem_image}
use Rattle.hm_disk.specs.Fields.{IsKept}
use Rattle.hm_disk.specs.Chosen.{chosen}
use Rattle.hm_disk.specs.declared.memory.Choice.{Choice}
use Rattle.hm_disk.specs.declared.memory.Choice.TheVariants.{Synced, AsRead, Fill}
use Rattle.hm_disk.proofs.Filled.{length-filled}
use Rattle.hm_disk.proofs.Calls.{kept_new}
use Rattle.hm_disk.proofs.memory.MemDisk.stop.Goals as goal

-- each choice is an image
chosen_reaches : (m : MemView) (choice : Choice) → IsKept m → Reaches m.events (chosen choice m.bytes m.synced m.dirty)
chosen_reaches m Synced kept = kept.kept
chosen_reaches m AsRead kept = kept.reads
chosen_reaches m (Fill byte) kept = kept.fills byte

-- each choice is within the room
chosen_fits : (m : MemView) (choice : Choice) → IsKept m → length (chosen choice m.bytes m.synced m.dirty) ≤ m.room
chosen_fits m Synced kept = kept.was
chosen_fits m AsRead kept = kept.within
chosen_fits m (Fill byte) kept = omega (arith, kept.within, length-filled byte m.dirty m.bytes kept.marked)

pub returns-clause-image : goal.returns-clause-image
returns-clause-image c =
    let P : MemView → Type 0 = λ m. mem_image m c.pick.new.bytes.items in
    subst P c.disk.view_is (inr (subst (λ (l : List ℕ). Reaches c.disk.inside.past.events l) (sym (search rules)) (chosen_reaches _ c.args.choice c.disk.invariant.kept)))

pub put-requires : goal.put-requires
put-requires c =
    let is : c.pick.new.bytes.items ≡ chosen c.args.choice c.disk.inside.bytes.items c.disk.inside.synced.items c.disk.inside.dirty.items = search rules in
    omega (arith, c.disk.invariant.synced_room, ap length c.deref-3.ensures.value, ap length is, chosen_fits _ c.args.choice c.disk.invariant.kept)

pub grow-requires : goal.grow-requires
grow-requires c =
    let is : c.pick.new.bytes.items ≡ chosen c.args.choice c.disk.inside.bytes.items c.disk.inside.synced.items c.disk.inside.dirty.items = search rules in
    let long : c.len.result ≡ length c.pick.new.bytes.items = search rules in
    omega (arith, c.disk.invariant.dirty_room, ap length is, long, chosen_fits _ c.args.choice c.disk.invariant.kept)

pub invariant_of-disk : goal.invariant_of-disk
invariant_of-disk c =
    let is : c.pick.new.bytes.items ≡ chosen c.args.choice c.disk.inside.bytes.items c.disk.inside.synced.items c.disk.inside.dirty.items = search rules in
    record {
      kept = kept_new _ c.pick.new.bytes.items refl (search rules) (search rules) (search rules) (omega (arith, ap length is, chosen_fits _ c.args.choice c.disk.invariant.kept));
      bytes_room = omega (arith, c.disk.invariant.bytes_room);
      synced_room = omega (arith, c.disk.invariant.synced_room);
      dirty_room = omega (arith, c.disk.invariant.dirty_room);
    }
