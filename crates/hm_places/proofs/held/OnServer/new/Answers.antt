use Rattle.hm_places.proofs.AtServers.{names_min}
use Rattle.hm_places.proofs.held.OnServer.new.Goals as goal

pub invariant_of-result : goal.invariant_of-result
invariant_of-result c = rw c.part.ensures (names_min c.args.rows.now.came c.min-count.result c.args.most c.args.numbers.now c.min-count.ensures c.requires).have

pub returns : goal.returns
returns c = rw c.part.ensures (names_min c.args.rows.now.came c.min-count.result c.args.most c.args.numbers.now c.min-count.ensures c.requires).names
