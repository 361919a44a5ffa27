use Rattle.std.proofs.Common.{◌≡◌, ◌<◌, sym, subst, ◌∙◌}
use Rattle.hm_procedures.specs.Procedures.{IsNextChild, children_below}
use Rattle.hm_procedures.proofs.Firsts.{firsts}
use Rattle.hm_procedures.proofs.Kids.{IsChild, begins, bound, further, left, next_child, smaller}
use Rattle.hm_procedures.proofs.procedures.Procedures.children.Goals as goal

pub loop-at-init : goal.loop-at-init
loop-at-init c =
    let first = subst (IsNextChild c.args.self.now.past c.args.pid.0 0) (sym c.first_child-at.ensures) (firsts c.args.self.now.past c.last_pid-legal.ensures.legal c.args.pid.0) in
    record {
      children = c.new-children.ensures.items ∙ sym (begins c.args.self.now.past c.last_pid-legal.ensures.legal c.args.pid.0 c.first_child-at.result first);
      child = next_child c.args.self.now.past c.last_pid-legal.ensures.legal c.args.pid.0 0 c.first_child-at.result first;
    }

pub loop-at-smaller : goal.loop-at-smaller
loop-at-smaller c =
    let child = subst (IsChild c.args.self.now.past c.args.pid.0) c.in-Some.is c.loop-at.invariant.child in
    subst (λ at. left c.args.self.now.past c.next_sibling-at.result < left c.args.self.now.past at) (sym c.in-Some.is)
    (smaller c.args.self.now.past c.last_pid-legal.ensures.legal c.args.pid.0 c.in-Some.child c.next_sibling-at.result child (c.next_sibling-at.ensures c.args.pid.0 child))

pub loop-at-preserved : goal.loop-at-preserved
loop-at-preserved c =
    let child = subst (IsChild c.args.self.now.past c.args.pid.0) c.in-Some.is c.loop-at.invariant.child in
    let was = subst (λ at. c.loop-at.children.items ≡ children_below c.args.self.now.past c.args.pid.0 (bound c.args.self.now.past at)) c.in-Some.is c.loop-at.invariant.children in
    let next = c.next_sibling-at.ensures c.args.pid.0 child in
    record {
      children = further c.args.self.now.past c.last_pid-legal.ensures.legal c.args.pid.0 c.in-Some.child c.next_sibling-at.result c.loop-at.children.items c.push.new.self.items child next was c.in_ok-push.ensures.items;
      child = next_child c.args.self.now.past c.last_pid-legal.ensures.legal c.args.pid.0 c.in-Some.child.0 c.next_sibling-at.result next;
    }
