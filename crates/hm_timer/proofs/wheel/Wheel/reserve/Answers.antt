use Rattle.std.proofs.Common.{◌∙◌, ap, sym, subst, arith, length, vec_len}
use Rattle.hm_timer.specs.Timers.{IsWheel, timers}
use Rattle.hm_timer.proofs.Wheels.{with_room, with_dues}
use Rattle.hm_timer.proofs.wheel.Wheel.reserve.Goals as goal

pub invariant_of-self : goal.invariant_of-self
invariant_of-self c =
    let same = c.in_err-reserve_nodes.ensures.err in record {
      wheel = with_room c.self.inside.tick c.self.inside.dues.items c.self.inside.lists c.reserve_nodes.new.self c.self.invariant.wheel c.reserve_nodes.ensures.lists (omega (arith, same));
      all = c.self.invariant.all ∙ ap (λ ls. length (timers c.self.inside.tick ls)) (sym c.reserve_nodes.ensures.lists);
    }

pub invariant_of-self-else-pids-len : goal.invariant_of-self-else-pids-len
invariant_of-self-else-pids-len c =
    let most = c.in_ok-reserve_nodes.ensures.ok in record {
      wheel = with_room c.self.inside.tick c.self.inside.dues.items c.self.inside.lists c.reserve_nodes.new.self c.self.invariant.wheel c.reserve_nodes.ensures.lists (omega (arith, most));
      all = c.self.invariant.all ∙ ap (λ ls. length (timers c.self.inside.tick ls)) (sym c.reserve_nodes.ensures.lists);
    }

pub invariant_of-self-in_err-resize : goal.invariant_of-self-in_err-resize
invariant_of-self-in_err-resize c =
    let most = c.in_ok-reserve_nodes.ensures.ok in record {
      wheel = subst (λ d. IsWheel c.self.inside.tick d c.reserve_nodes.new.self) (sym c.in_err-resize.ensures.items) (with_room c.self.inside.tick c.self.inside.dues.items c.self.inside.lists c.reserve_nodes.new.self c.self.invariant.wheel c.reserve_nodes.ensures.lists (omega (arith, most)));
      all = c.self.invariant.all ∙ ap (λ ls. length (timers c.self.inside.tick ls)) (sym c.reserve_nodes.ensures.lists);
    }

pub invariant_of-self-in-Continue-branch-2 : goal.invariant_of-self-in-Continue-branch-2
invariant_of-self-in-Continue-branch-2 c =
    let most = c.in_ok-reserve_nodes.ensures.ok in record {
      wheel = with_dues c.self.inside.tick c.args.pids (vec_len c.self.inside.dues) c.self.inside.dues.items c.resize.new.self.items c.reserve_nodes.new.self
          (with_room c.self.inside.tick c.self.inside.dues.items c.self.inside.lists c.reserve_nodes.new.self c.self.invariant.wheel c.reserve_nodes.ensures.lists (omega (arith, most))) (omega arith) (omega arith) (omega arith) (omega (arith, most)) c.in_ok-resize.ensures.items;
      all = c.self.invariant.all ∙ ap (λ ls. length (timers c.self.inside.tick ls)) (sym c.reserve_nodes.ensures.lists);
    }
