use Rattle.hm_roll.proofs.Images.{next_frame, next_fits}
use Rattle.hm_roll.proofs.framing.frames_of.Goals as goal

pub loop-part-preserved : goal.loop-part-preserved
loop-part-preserved c =
    let parts = c.args.parts.now in
    let place = c.loop-part.part-index in
    let part = c.part-item.result in
    record {
      so_far = next_frame parts place part c.loop-part.frames c.add_frame.new.frames c.loop-part-test.true c.part-item.is c.loop-part.invariant.so_far c.in_ok-add_frame.ensures.added;
      fit = next_fits parts place part c.loop-part-test.true c.part-item.is c.loop-part.invariant.fit c.in_ok-add_frame.ensures.fits;
    }
