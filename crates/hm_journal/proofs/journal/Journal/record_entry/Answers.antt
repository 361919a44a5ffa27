use Rattle.std.proofs.Common.{◌≡◌, ◌-◌, length, Some, Ok, Err, ap, sym, subst, ◌∙◌, arith, vec_len, vec_capacity}
use Rattle.hm_log.specs.Format.{IsFrame}
use Rattle.hm_data.specs.declared.entry.Entry.{Entry}
use Rattle.hm_hall.specs.declared.fault.Halt.TheVariants as halt_is
use Rattle.hm_hall.specs.declared.fault.RecordFault.TheVariants as fault_is
use Rattle.hm_hall.specs.Recording.{Records}
use Rattle.hm_journal.specs.View.{JournalView, entries_in, entry_of, kept_of}
use Rattle.hm_journal.proofs.Moving.{failed_since, recorded_since}
use Rattle.hm_journal.proofs.Keeping.{entries_more, entry_in_is, failed_records, finds_ready, found_next, full_records, is_frame, kept_failed, kept_recorded, leaves_entry, left_now, logs, on_err, on_ok, place_of, ready_frame, ready_passes, recorded}
use Rattle.hm_journal.proofs.journal.Journal.record_entry.Goals as goal

pub returns-in_default-into_frame-clause-records : goal.returns-in_default-into_frame-clause-records
returns-in_default-into_frame-clause-records g c =
    let f = c.self.inside in
    let next = c.in-Some-take.next in
    let finds = found_next f.next c.take.new.self c.take.result f.halted next c.in_default.is c.take.ensures.value c.take.ensures.after c.in-Some-take.is in
    let kept = kept_of f.frames.items f.next f.tail f.halted f.limits in
    let ready = finds_ready kept (vec_len f.frames) (vec_capacity f.frames) f.next c.take.new.self f.halted next finds c.self.invariant.0.next_is in
    subst (λ (w : JournalView _). (entry : Entry) → w.kept.next ≡ Some entry → Records w.kept entry (Err (fault_is.JournalFull f.bytes)) (kept_of f.frames.items c.take.new.self f.tail (Some (halt_is.JournalFull f.bytes)) f.limits)) c.self.view_is
    (full_records f.frames.items f.next c.take.new.self f.tail f.halted f.limits next finds f.bytes
    (ready_passes kept (vec_len f.frames) (vec_capacity f.frames) next ready (sym c.into_frame.ensures ∙ c.in_default-into_frame.is) finds.going) c.self.invariant.0.sized)

pub append-requires-clause-size : goal.append-requires-clause-size
append-requires-clause-size g c =
    let f = c.self.inside in
    let next = c.in-Some-take.next in
    let finds = found_next f.next c.take.new.self c.take.result f.halted next c.in_default.is c.take.ensures.value c.take.ensures.after c.in-Some-take.is in
    let kept = kept_of f.frames.items f.next f.tail f.halted f.limits in
    let ready = finds_ready kept (vec_len f.frames) (vec_capacity f.frames) f.next c.take.new.self f.halted next finds c.self.invariant.0.next_is in
    let is = ready_frame kept (vec_len f.frames) (vec_capacity f.frames) next c.in-Some-into_frame.frame ready (sym c.into_frame.ensures ∙ c.in-Some-into_frame.is) in
    subst IsFrame (sym c.deref.ensures.value) (is_frame c.in-Some-into_frame.frame.items next.entry.disk is.spells is.short)

pub invariant_of-self-then-is_err : goal.invariant_of-self-then-is_err
invariant_of-self-then-is_err g c =
    let d = g.D.Disk in
    let f = c.self.inside in
    let next = c.in-Some-take.next in
    let frame = c.in-Some-into_frame.frame in
    let entry = next.entry.disk in
    let finds = found_next f.next c.take.new.self c.take.result f.halted next c.in_default.is c.take.ensures.value c.take.ensures.after c.in-Some-take.is in
    let kept = kept_of f.frames.items f.next f.tail f.halted f.limits in
    let ready = finds_ready kept (vec_len f.frames) (vec_capacity f.frames) f.next c.take.new.self f.halted next finds c.self.invariant.0.next_is in
    let is = ready_frame kept (vec_len f.frames) (vec_capacity f.frames) next frame ready (sym c.into_frame.ensures ∙ c.in-Some-into_frame.is) in (
      kept_failed d.tells (d.image f.log.disk) (d.image c.append.new.self.disk) f.log.frames c.append.new.self.frames f.log.bytes c.append.new.self.bytes f.log.stalled c.append.new.self.stalled
          f.frames.items f.next c.take.new.self f.tail f.halted f.limits next frame f.bytes f.origin.parts f.origin.based (vec_len f.frames) (vec_capacity f.frames) c.self.invariant.0 finds is
          (on_err c.append.result _ c.is_err.result c.is_err.ensures.value c.if-is_err.true c.append.ensures.stalled)
          (λ told. left_now d.moment d.left_since d.image g.met.D.Disk.counts_now f.log.disk c.append.new.self.disk f.log.frames c.deref.result.now frame.items c.deref.ensures.value (c.append.ensures.any_moment told)),
      failed_since d f.opened f.log.disk c.append.new.self.disk (entries_in f.frames.items) entry (entry_of f.tail) (entry_of (Some frame)) f.halted
          finds.going c.self.invariant.0.failed (entry_in_is frame.items entry is.fits is.spells) c.self.invariant.1
          (λ told. leaves_entry d.moment d.left_since f.log.disk c.append.new.self.disk f.log.frames c.deref.result.now frame.items (entries_in f.frames.items) entry
          (logs d.tells (d.image f.log.disk) f.log.frames f.log.bytes f.log.stalled f.next f.tail f.bytes f.origin.parts f.origin.based (vec_len f.frames) (vec_capacity f.frames) kept c.self.invariant.0 finds.going told)
          c.deref.ensures.value is.spells (c.append.ensures.any_moment told))
          c.append.ensures.called (on_err c.append.result _ c.is_err.result c.is_err.ensures.value c.if-is_err.true c.append.ensures.fault),
    )

pub returns-then-is_err-clause-records : goal.returns-then-is_err-clause-records
returns-then-is_err-clause-records g c =
    let f = c.self.inside in
    let next = c.in-Some-take.next in
    let frame = c.in-Some-into_frame.frame in
    let finds = found_next f.next c.take.new.self c.take.result f.halted next c.in_default.is c.take.ensures.value c.take.ensures.after c.in-Some-take.is in
    let kept = kept_of f.frames.items f.next f.tail f.halted f.limits in
    let ready = finds_ready kept (vec_len f.frames) (vec_capacity f.frames) f.next c.take.new.self f.halted next finds c.self.invariant.0.next_is in
    let is = ready_frame kept (vec_len f.frames) (vec_capacity f.frames) next frame ready (sym c.into_frame.ensures ∙ c.in-Some-into_frame.is) in
    subst (λ (w : JournalView _). (entry : Entry) → w.kept.next ≡ Some entry → Records w.kept entry (Err fault_is.LogFault) (kept_of f.frames.items c.take.new.self (Some frame) (Some halt_is.LogFault) f.limits)) c.self.view_is
    (failed_records f.frames.items f.next c.take.new.self f.tail f.halted f.limits next finds (vec_len f.frames) (vec_capacity f.frames) frame is)

pub returns-clause-records : goal.returns-clause-records
returns-clause-records g c =
    let f = c.self.inside in
    let next = c.in-Some-take.next in
    let frame = c.in-Some-into_frame.frame in
    let finds = found_next f.next c.take.new.self c.take.result f.halted next c.in_default.is c.take.ensures.value c.take.ensures.after c.in-Some-take.is in
    let kept = kept_of f.frames.items f.next f.tail f.halted f.limits in
    let ready = finds_ready kept (vec_len f.frames) (vec_capacity f.frames) f.next c.take.new.self f.halted next finds c.self.invariant.0.next_is in
    let is = ready_frame kept (vec_len f.frames) (vec_capacity f.frames) next frame ready (sym c.into_frame.ensures ∙ c.in-Some-into_frame.is) in
    let place = c.len.result - f.origin.parts in
    let origin = c.self.invariant.0.origin in
    let all = place_of f.origin.parts f.origin.based (entries_in f.frames.items) (c.parts_stand_first.ensures.all (entries_in f.frames.items)) origin in
    subst (λ (w : JournalView _). (entry : Entry) → w.kept.next ≡ Some entry → Records w.kept entry (Ok place) (kept_of c.push_reserved.new.self.items c.take.new.self f.tail f.halted f.limits)) c.self.view_is
    (recorded f.frames.items f.next c.take.new.self f.tail f.halted f.limits next finds (vec_len f.frames) (vec_capacity f.frames) frame is
    place (omega (arith, c.len.ensures, c.self.invariant.0.count_is, all)) c.push_reserved.new.self.items c.push_reserved.ensures.items)

pub invariant_of-self-2 : goal.invariant_of-self-2
invariant_of-self-2 g c =
    let d = g.D.Disk in
    let f = c.self.inside in
    let next = c.in-Some-take.next in
    let frame = c.in-Some-into_frame.frame in
    let entry = next.entry.disk in
    let finds = found_next f.next c.take.new.self c.take.result f.halted next c.in_default.is c.take.ensures.value c.take.ensures.after c.in-Some-take.is in
    let kept = kept_of f.frames.items f.next f.tail f.halted f.limits in
    let ready = finds_ready kept (vec_len f.frames) (vec_capacity f.frames) f.next c.take.new.self f.halted next finds c.self.invariant.0.next_is in
    let is = ready_frame kept (vec_len f.frames) (vec_capacity f.frames) next frame ready (sym c.into_frame.ensures ∙ c.in-Some-into_frame.is) in
    let long : c.len-2.result ≡ length frame.items = omega (arith, c.len-2.ensures, frame.ok) in (
      kept_recorded d.tells (d.image f.log.disk) (d.image c.append.new.self.disk) f.log.frames c.append.new.self.frames f.log.bytes c.append.new.self.bytes f.log.stalled c.append.new.self.stalled
          f.frames.items c.push_reserved.new.self.items f.next c.take.new.self f.tail f.halted f.limits next frame c.deref.result.now f.bytes c.len-2.result f.origin.parts f.origin.based (vec_len f.frames) (vec_len c.push_reserved.new.self)
          (vec_capacity f.frames) (vec_capacity c.push_reserved.new.self) c.self.invariant.0 finds is (on_ok c.append.result _ c.is_err.result c.is_err.ensures.value c.if-is_err.false c.append.ensures.live_on)
          c.deref.ensures.value c.push_reserved.ensures.items c.push_reserved.ensures.len long (on_ok c.append.result _ c.is_err.result c.is_err.ensures.value c.if-is_err.false c.append.ensures.bytes)
          (λ told. on_ok c.append.result _ c.is_err.result c.is_err.ensures.value c.if-is_err.false (c.append.ensures.added told))
          (λ told. on_ok c.append.result _ c.is_err.result c.is_err.ensures.value c.if-is_err.false (c.append.ensures.durable told)) c.parts_stand_first.ensures.parts c.parts_stand_first.ensures.behind,
      recorded_since d f.opened f.log.disk c.append.new.self.disk (entries_in f.frames.items) (entries_in c.push_reserved.new.self.items) entry (entry_of f.tail) f.halted
          finds.going c.self.invariant.0.failed
          (ap entries_in c.push_reserved.ensures.items ∙ entries_more f.frames.items frame entry is.fits is.spells) c.self.invariant.1
          (λ told. leaves_entry d.moment d.left_since f.log.disk c.append.new.self.disk f.log.frames c.deref.result.now frame.items (entries_in f.frames.items) entry
          (logs d.tells (d.image f.log.disk) f.log.frames f.log.bytes f.log.stalled f.next f.tail f.bytes f.origin.parts f.origin.based (vec_len f.frames) (vec_capacity f.frames) kept c.self.invariant.0 finds.going told)
          c.deref.ensures.value is.spells (c.append.ensures.any_moment told))
          (on_ok c.append.result _ c.is_err.result c.is_err.ensures.value c.if-is_err.false c.append.ensures.changes) c.append.ensures.called
          (on_ok c.append.result _ c.is_err.result c.is_err.ensures.value c.if-is_err.false c.append.ensures.no_fault),
    )
