use Rattle.std.proofs.Common.{◌∙◌, ap, length, arith, List, Option, Bool}
use Rattle.hm_sched.proofs.Keeping.{kept_more, kept_same}
use Rattle.hm_sched.proofs.sched.Sched.reserve.Goals as goal

pub invariant_of-self : goal.invariant_of-self
invariant_of-self c =
    kept_same c.self.inside.lists c.reserve_lists.new.self (length c.self.inside.said.items) c.self.inside.servers c.self.invariant c.in_err-reserve_lists.ensures.err
    (let spare = c.reserve_lists.ensures.spare in omega (arith, spare))

pub invariant_of-self-in_err-reserve_nodes : goal.invariant_of-self-in_err-reserve_nodes
invariant_of-self-in_err-reserve_nodes c =
    let waits = c.self.invariant.waits in
    let suspended = c.self.invariant.suspended in
    let small = c.self.invariant.small in
    let nodes = c.self.invariant.nodes in
    let most = c.if-most-gt-MOST.false in
    let spare = c.reserve_lists.ensures.spare in
    let same = c.in_err-reserve_nodes.ensures.err in
    kept_more c.self.inside.lists c.reserve_nodes.new.self (length c.self.inside.said.items) (length c.self.inside.said.items) c.self.inside.servers c.self.inside.servers _ c.self.invariant
    (c.reserve_nodes.ensures.lists ∙ c.in_ok-reserve_lists.ensures.ok) (omega arith) (omega (arith, nodes, spare, same)) (omega (arith, waits)) (omega (arith, suspended)) (omega (arith, small, most))

pub invariant_of-self-in_err-resize : goal.invariant_of-self-in_err-resize
invariant_of-self-in_err-resize c =
    let waits = c.self.invariant.waits in
    let suspended = c.self.invariant.suspended in
    let small = c.self.invariant.small in
    let nodes = c.self.invariant.nodes in
    let most = c.if-most-gt-MOST.false in
    let spare = c.reserve_lists.ensures.spare in
    let more = c.in_ok-reserve_nodes.ensures.ok in
    let same = ap (λ (l : List (Option Bool)). length l) c.in_err-resize.ensures.items in
    kept_more c.self.inside.lists c.reserve_nodes.new.self (length c.self.inside.said.items) (length c.resize.new.self.items) c.self.inside.servers c.self.inside.servers _ c.self.invariant
    (c.reserve_nodes.ensures.lists ∙ c.in_ok-reserve_lists.ensures.ok) (omega (arith, same)) (omega (arith, nodes, spare, more, same)) (omega (arith, waits, same)) (omega (arith, suspended)) (omega (arith, small, most))

pub invariant_of-self-2 : goal.invariant_of-self-2
invariant_of-self-2 c =
    let waits = c.self.invariant.waits in
    let suspended = c.self.invariant.suspended in
    let small = c.self.invariant.small in
    let nodes = c.self.invariant.nodes in
    let most = c.if-most-gt-MOST.false in
    let spare = c.reserve_lists.ensures.spare in
    let more = c.in_ok-reserve_nodes.ensures.ok in
    let long = c.in_ok-resize.ensures.len in
    let count = c.max-count.ensures in
    let len = c.len.ensures in
    let highest = c.max-most.ensures in
    let others = c.max-self-inside.ensures in
    kept_more c.self.inside.lists c.reserve_nodes.new.self (length c.self.inside.said.items) (length c.resize.new.self.items) c.self.inside.servers c.max-self-inside.result _ c.self.invariant
    (c.reserve_nodes.ensures.lists ∙ c.in_ok-reserve_lists.ensures.ok) (omega (arith, long, count, len)) (omega (arith, nodes, spare, more, long, count, len)) (omega (arith, waits, long, count, len, highest)) (omega (arith, suspended, others, highest)) (omega (arith, small, most))
