use Rattle.std.proofs.Common.{rules, ◌≡◌, ◌+◌, arith}
use Rattle.hm_log.proofs.Ways.{if_ok}
use Rattle.hm_batch.proofs.Growing.{note_count, byte_count, laid_as}
use Rattle.hm_batch.proofs.batch.Batch.reserve.Goals as goal

pub returns-clause-made : goal.returns-clause-made
returns-clause-made c =
    let notes = c.reserve.new.self in
    let bytes = c.reserve-2.new.self in
    let laid = laid_as _ notes.items _ bytes.items _ c.reserve.ensures.items c.reserve-2.ensures.items c.self.invariant.1 in
    let size : c.in_ok-size.size ≡ c.args.bytes + 5 = search rules in
    if_ok c.reserve-2.result
    (λ room. (
      omega (arith, room, size, bytes.ok.0, byte_count notes.items bytes.items c.self.invariant.0 laid),
      omega (arith, c.in_ok-reserve.ensures.ok, notes.ok.0, note_count notes.items bytes.items c.self.invariant.0 laid),
    ))
    c.reserve-2.ensures.ok
