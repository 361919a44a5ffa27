use Rattle.std.proofs.Common.{◌≡◌, ◌+◌, arith}
use Rattle.hm_fleet.specs.Fleet.{outside_of}
use Rattle.hm_model.specs.Tree.{made}
use Rattle.hm_model.proofs.Grown.{grown_all}
use Rattle.hm_world.proofs.Below.{below_all, below_none}
use Rattle.hm_world.proofs.opening.all_due.Goals as goal

pub loop-pid-init : goal.loop-pid-init
loop-pid-init c = record {
  below = below_none c.args.state.now.past (outside_of c.args.fleet.now) c.first_pid-pid.result c.new-numbers.result.items c.journal.ensures.legal c.first_pid-pid.ensures c.new-numbers.ensures;
}

pub returns : goal.returns
returns c =
    let J = c.args.state.now.past in
    let few = (grown_all J c.journal.ensures.legal).low in
    let first = c.first_pid-pid.ensures in
    let test = c.loop-pid-test.false in
    let end = c.loop-pid.auto in
    let last = c.last_pid-last.ensures.last in
    let all : c.loop-pid.pid ≡ made J + 1 = omega (arith, last, test, end, first, few) in
    below_all J (outside_of c.args.fleet.now) c.loop-pid.pid c.loop-pid.numbers.items c.journal.ensures.legal all c.loop-pid.invariant.below
