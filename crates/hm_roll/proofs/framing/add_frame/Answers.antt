use Rattle.std.proofs.Common.{◌∙◌}
use Rattle.hm_roll.proofs.Images.{is_frame}
use Rattle.hm_roll.proofs.framing.add_frame.Goals as goal

pub push-requires : goal.push-requires
push-requires c = is_frame c.args.part.now c.deref.result.now (c.deref.ensures.value ∙ c.in_ok-frame.ensures.bytes) c.requires
