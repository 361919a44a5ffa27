use Rattle.std.proofs.Common.{ap}
use Rattle.hm_index.specs.Index.{IndexView}
use Rattle.hm_index.proofs.index.Index.view.Goals as goal

pub returns : goal.returns
returns g c = rw (c.new.ensures, c.deref.ensures.value) (ap (λ (t : IndexView _ _). t.pairs) c.self.view_is)
