use Rattle.hm_rows_base.proofs.Short.{all_short}
use Rattle.hm_rows_base.proofs.bases.respelled.Goals as goal

pub frames_of-requires : goal.frames_of-requires
frames_of-requires c = all_short c.args.parts.now c.args.frames.now c.requires.are c.count-count.ensures.each
