use Rattle.std.proofs.Common.{◌≡◌, drop, slice_get}
use Rattle.hm_index.specs.Blocks.{laid, places}
use Rattle.hm_index.proofs.order.Order.at.Given as goal

abbrev pub invariant-loop-block : goal.invariant-loop-block
invariant-loop-block l = slice_get (places (laid (drop l.block-index l.block-items))) l.rest ≡ slice_get (places (laid l.self.blocks)) l.number
