use Rattle.std.proofs.Common.{◌≡◌, ◌∙◌, sym, ap, subst, arith}
use Rattle.hm_lists.specs.Chains.{Chains, IsLinked, lists_of}
use Rattle.hm_lists.specs.Links.{chains_of}
use Rattle.hm_lists.proofs.Held.{popped, popped_none}
use Rattle.hm_lists.proofs.links.Links.pop_front.Goals as goal

pub first_of-requires : goal.first_of-requires
first_of-requires c = let count = c.requires.linked.count in let list = c.requires.list in omega (arith, count, list)

pub returns-in_err-node-clause-first : goal.returns-in_err-node-clause-first
returns-in_err-node-clause-first c =
    c.from_residual.ensures ∙ (popped_none (chains_of c.args.self.now) c.requires.linked c.args.list c.requires.list (sym c.first_of.ensures ∙ c.in_err-node.was)).0

pub returns-in_err-node-clause-lists : goal.returns-in_err-node-clause-lists
returns-in_err-node-clause-lists c = (popped_none (chains_of c.args.self.now) c.requires.linked c.args.list c.requires.list (sym c.first_of.ensures ∙ c.in_err-node.was)).1

pub take_out-requires-clause-node : goal.take_out-requires-clause-node
take_out-requires-clause-node c = let out = popped (chains_of c.args.self.now) c.requires.linked c.args.list c.in_ok-node.node c.requires.list (sym c.first_of.ensures ∙ c.in_ok-node.was) in let lt = out.0.node in omega (arith, lt)

pub take_out-requires-clause-prev : goal.take_out-requires-clause-prev
take_out-requires-clause-prev c = (popped (chains_of c.args.self.now) c.requires.linked c.args.list c.in_ok-node.node c.requires.list (sym c.first_of.ensures ∙ c.in_ok-node.was)).0.before

pub take_out-requires-clause-next : goal.take_out-requires-clause-next
take_out-requires-clause-next c = (popped (chains_of c.args.self.now) c.requires.linked c.args.list c.in_ok-node.node c.requires.list (sym c.first_of.ensures ∙ c.in_ok-node.was)).0.next

pub returns-clause-linked : goal.returns-clause-linked
returns-clause-linked c =
    let out = popped (chains_of c.args.self.now) c.requires.linked c.args.list c.in_ok-node.node c.requires.list (sym c.first_of.ensures ∙ c.in_ok-node.was) in
    let P : Chains → Type 0 = λ s. IsLinked s (lists_of s) in
    subst P (sym c.take_out.ensures.chains) out.0.linked

pub returns-clause-first : goal.returns-clause-first
returns-clause-first c = (popped (chains_of c.args.self.now) c.requires.linked c.args.list c.in_ok-node.node c.requires.list (sym c.first_of.ensures ∙ c.in_ok-node.was)).1

pub returns-clause-lists : goal.returns-clause-lists
returns-clause-lists c = let out = popped (chains_of c.args.self.now) c.requires.linked c.args.list c.in_ok-node.node c.requires.list (sym c.first_of.ensures ∙ c.in_ok-node.was) in ap lists_of c.take_out.ensures.chains ∙ out.0.lists
