use Rattle.std.proofs.Common.{ap, ◌∙◌, arith}
use Rattle.hm_procedures.proofs.Members.{root_low}
use Rattle.hm_procedures.specs.Trees.{TreesView}
use Rattle.hm_procedures.proofs.trees.Trees.first.Goals as goal

pub returns-clause-first : goal.returns-clause-first
returns-clause-first c = λ i lt is.
    let from = ap (λ (v : TreesView). v.from) c.self.view_is in
    let low = root_low c.self.inside.from c.self.inside.members.items c.self.invariant.0 i c.args.root (ap (λ (v : TreesView). Rattle.std.specs.List.slice_get v.roots i) c.self.view_is ∙ is) in
    omega (arith, low, lt, from)
