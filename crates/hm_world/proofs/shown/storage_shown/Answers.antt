use Rattle.std.proofs.Common.{◌≡◌, ◌+◌, arith}
use Rattle.hm_model.specs.Tree.{made}
use Rattle.hm_model.proofs.Grown.{grown_all}
use Rattle.hm_server.specs.Actors.{storage_of}
use Rattle.hm_world.proofs.Storages.{shown_all, shown_first}
use Rattle.hm_world.proofs.shown.storage_shown.Goals as goal

pub loop-pid-init : goal.loop-pid-init
loop-pid-init c = record {
  below = shown_first c.args.state.now.past c.journal.ensures.legal c.first_pid-pid.result (storage_of c.in_ok-storage.storage) c.first_pid-pid.ensures c.in_ok-storage.ensures;
}

pub returns : goal.returns
returns c =
    let J = c.args.state.now.past in
    let last : c.last_pid-last.result ≡ made J = c.last_pid-last.ensures.last in
    let few = (grown_all J c.journal.ensures.legal).low in
    let first = c.first_pid-pid.ensures in
    let test = c.loop-pid-test.false in
    let end = c.loop-pid.auto in
    let all : c.loop-pid.pid ≡ made J + 1 = omega (arith, last, test, end, first, few) in
    shown_all J c.journal.ensures.legal c.layouts_tell.ensures c.loop-pid.pid (storage_of c.loop-pid.storage) all c.loop-pid.invariant.below
