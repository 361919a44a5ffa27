use Rattle.std.proofs.Common.{refl}
use Rattle.hm_hbck.specs.Found.{hold_of}
use Rattle.hm_hbck.specs.Pairs.{of_pair}
use Rattle.hm_hbck.proofs.Meeting.{meet_off, stopped}
use Rattle.hm_hbck.proofs.pairs.add_pairs_with.Goals as goal

pub returns-then-is_past : goal.returns-then-is_past
returns-then-is_past c =
    let one = hold_of c.args.one.now in
    stopped one c.args.after.now c.loop-other.other-index c.other-item.result _ c.loop-other.found.items _ (of_pair one) c.loop-other-test.true c.other-item.is
    c.loop-other.invariant.ends c.if-is_past.ensures (λ hold off. rw (meet_off one hold off) refl) c.loop-other.invariant.found
