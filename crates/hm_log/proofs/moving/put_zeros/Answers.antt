use Rattle.std.proofs.Common.{◌≡◌, ◌++◌, ℕ, List, length, ◌∙◌, ap, arith, append_assoc, length-append}
use Rattle.hm_disk.specs.Disk.{written}
use Rattle.hm_disk.proofs.Splice.{written_end}
use Rattle.hm_log.proofs.Runs.{used_then}
use Rattle.hm_log.proofs.moving.put_zeros.Goals as goal

pub returns-in_err-put_part-clause-goes_on : goal.returns-in_err-put_part-clause-goes_on
returns-in_err-put_part-clause-goes_on g c at n base start low high so_far =
    c.put_part.ensures.goes_on at n base start (omega (arith, low, c.loop-at.invariant.low))
    (omega (arith, high, ap length c.deref.ensures.value, c.fill.ensures.long, c.min-count.ensures, c.loop-at.invariant.high)) (c.loop-at.invariant.goes_on at n base start low high so_far)

pub loop-at-preserved : goal.loop-at-preserved
loop-at-preserved g c =
    let was = c.loop-at.invariant in
    let d = g.D.Disk in
    let new = c.fill.new.buffer.items in
    record {
      capacity = c.fill.ensures.capacity ∙ was.capacity;
      low = omega (arith, was.low);
      high = omega (arith, was.high, c.min-count.ensures);
      written = λ tells.
          let so = was.written tells in
          let end : c.loop-at.at ≡ length (d.seen c.loop-at.disk) = omega (arith, c.requires.end tells, so.1, ap length so.2, length-append (d.seen c.args.disk.now) so.0) in (
            so.0 ++ new,
            omega (arith, so.1, length-append so.0 new, c.fill.ensures.long),
            c.in_ok-put_part.ensures.written tells
                ∙ ap (λ (b : List ℕ). written c.loop-at.at b (d.seen c.loop-at.disk)) c.deref.ensures.value
                ∙ written_end c.loop-at.at (d.seen c.loop-at.disk) new end
                ∙ ap (λ (l : List ℕ). l ++ new) so.2
                ∙ append_assoc (d.seen c.args.disk.now) so.0 new,
          );
      goes_on = λ at n base start low high so_far.
          c.put_part.ensures.goes_on at n base start (omega (arith, low, was.low))
          (omega (arith, high, ap length c.deref.ensures.value, c.fill.ensures.long, c.min-count.ensures, was.high)) (was.goes_on at n base start low high so_far);
      no_fault = c.in_ok-put_part.ensures.no_fault ∙ was.no_fault;
      used = used_then d c.args.disk.now c.loop-at.disk c.put_part.new.disk was.used c.put_part.ensures.used;
    }
