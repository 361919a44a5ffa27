use Rattle.std.proofs.Common.{◌∙◌, sym}
use Rattle.hm_index.specs.Blocks.{laid, places, picked}
use Rattle.hm_index.proofs.Pairs.{in_order}
use Rattle.hm_index.proofs.Picked.{length-picked}
use Rattle.hm_index.proofs.view.View.len.Goals as goal

pub returns-clause-count : goal.returns-clause-count
returns-clause-count g c =
    let f = c.self.inside in
    rw (← c.self.view_is) (sym (length-picked f.pairs.now (places (laid f.order.now.blocks)) c.self.invariant.within ∙ c.self.invariant.all))

pub returns-clause-rising : goal.returns-clause-rising
returns-clause-rising g c =
    let f = c.self.inside in
    rw (← c.self.view_is) (in_order g.K.Ord.cmp g.met.K.Ord.total (picked f.pairs.now (places (laid f.order.now.blocks))) c.self.invariant.rises)
