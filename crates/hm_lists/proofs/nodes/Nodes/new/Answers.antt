use Rattle.std.proofs.Common.{◌∙◌, refl}
use Rattle.hm_lists.specs.Chains.{list_at, lists_of}
use Rattle.hm_lists.specs.Links.{chains_of}
use Rattle.hm_lists.proofs.Held.{first_gives}
use Rattle.hm_lists.proofs.Ways.{begins}
use Rattle.hm_lists.proofs.nodes.Nodes.new.Goals as goal

pub invariant_of-result : goal.invariant_of-result
invariant_of-result c =
    let s = chains_of c.args.links.now in
    (begins s c.requires.linked c.args.list c.requires.list (list_at (lists_of s) c.args.list) c.first_of.result refl (c.first_of.ensures ∙ first_gives s c.requires.linked c.args.list c.requires.list)).0

pub returns : goal.returns
returns c =
    let s = chains_of c.args.links.now in
    (begins s c.requires.linked c.args.list c.requires.list (list_at (lists_of s) c.args.list) c.first_of.result refl (c.first_of.ensures ∙ first_gives s c.requires.linked c.args.list c.requires.list)).1
