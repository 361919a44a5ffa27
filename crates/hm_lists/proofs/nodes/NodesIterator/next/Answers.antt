use Rattle.std.proofs.Common.{◌≡◌, ◌<◌, ◌∷◌, ◌∙◌, length, refl, sym, ap, subst, arith, Some, ℕ}
use Rattle.hm_lists.specs.declared.node.Node.{Node}
use Rattle.hm_lists.specs.Chains.{Chains, free, node_at}
use Rattle.hm_lists.specs.Links.{chains_of, rest_from, IsOnWay}
use Rattle.hm_lists.proofs.Held.{element_at}
use Rattle.hm_lists.proofs.Ways.{goes_on, walk_is_over}
use Rattle.hm_lists.proofs.nodes.NodesIterator.next.Goals as goal

-- the node that was read
at : (s : Chains) (x : ℕ) (n : Node) → IsOnWay s (Some x) → n ≡ Rattle.std.proofs.Common.get_or s.nodes x n → IsOnWay s n.next × (rest_from s (Some x) ≡ x ∷ rest_from s n.next)
at s x n way is =
    let go = goes_on s x way in
    let same : (node_at s x).next ≡ n.next = ap (λ (m : Node). m.next) (element_at s.nodes x n free go.0 is) in
    (subst (IsOnWay s) same go.1, go.2 ∙ ap (λ o. x ∷ rest_from s o) same)

pub index-requires : goal.index-requires
index-requires c =
    let s = chains_of c.self.inside.links.now in
    let go = goes_on s c.in_ok-node.node (subst (IsOnWay s) c.in_ok-node.was c.self.invariant) in
    let lt = go.0 in omega (arith, lt)

pub invariant_of-self : goal.invariant_of-self
invariant_of-self c =
    let s = chains_of c.self.inside.links.now in
    (at s c.in_ok-node.node c.index.result.now (subst (IsOnWay s) c.in_ok-node.was c.self.invariant) c.index.ensures).0

pub returns-clause-steps : goal.returns-clause-steps
returns-clause-steps c =
    let s = chains_of c.self.inside.links.now in
    sym c.self.view_is ∙ ap (rest_from s) c.in_ok-node.was
    ∙ (at s c.in_ok-node.node c.index.result.now (subst (IsOnWay s) c.in_ok-node.was c.self.invariant) c.index.ensures).1

pub returns-clause-goes : goal.returns-clause-goes
returns-clause-goes c =
    let s = chains_of c.self.inside.links.now in
    let steps = sym c.self.view_is ∙ ap (rest_from s) c.in_ok-node.was
    ∙ (at s c.in_ok-node.node c.index.result.now (subst (IsOnWay s) c.in_ok-node.was c.self.invariant) c.index.ensures).1 in
    record { on = λ finite. (tt, tt, (let e = ap length steps in omega (arith, e))); keeps = tt; rests = λ finite. tt }
