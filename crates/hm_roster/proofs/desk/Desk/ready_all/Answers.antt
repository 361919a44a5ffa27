use Rattle.std.proofs.Common.{◌≡◌, ◌+◌, ℕ, suc, ap, arith, refl, subst, sym, ◌∙◌}
use Rattle.hm_model.specs.Tree.{made}
use Rattle.hm_model.proofs.Grown.{grown_all}
use Rattle.hm_roster.specs.Opening.{IsReadyBelow}
use Rattle.hm_roster.proofs.Desks.{below_still}
use Rattle.hm_roster.proofs.Ranging.{same_on}
use Rattle.hm_roster.proofs.Readied.{all_ready, ready_follows}
use Rattle.hm_roster.proofs.desk.Desk.ready_all.Goals as goal

pub loop-pid-init : goal.loop-pid-init
loop-pid-init c = record {
  below = subst (λ (n : ℕ). IsReadyBelow c.args.records.now.past c.args.self.now n) (sym c.first_pid-pid.ensures) c.requires.none;
  same = record { claimed = refl; numbers = refl; pids = refl; servers = refl };
}

pub loop-pid-preserved : goal.loop-pid-preserved
loop-pid-preserved c = record { below = c.ready_one.ensures.below; same = same_on c.args.self.now c.loop-pid.self c.ready_one.new.self c.loop-pid.invariant.same c.ready_one.ensures.same }

pub returns-clause-follows : goal.returns-clause-follows
returns-clause-follows c =
    let J = c.args.records.now.past in
    let inv = c.loop-pid.invariant in
    let last : c.last_pid-last.result ≡ made J = c.last_pid-last.ensures.last ∙ ap made c.procedures.ensures.past in
    let first = c.first_pid-pid.ensures in
    let few = (grown_all J c.procedures.ensures.legal).low in
    let all : c.loop-pid.pid ≡ made J + 1 = (let test = c.loop-pid-test.false in (let end = c.loop-pid.auto in omega (arith, last, test, end, first, few))) in
    ready_follows J c.procedures.ensures.legal c.loop-pid.self (subst (λ (k : ℕ). IsReadyBelow J c.loop-pid.self k) all inv.below) (let pids = inv.same.pids in (let room = c.requires.room in omega (arith, pids, room))) (below_still c.args.self.now c.loop-pid.self inv.same c.requires.below)

pub returns-clause-ready : goal.returns-clause-ready
returns-clause-ready c =
    let J = c.args.records.now.past in
    let last : c.last_pid-last.result ≡ made J = c.last_pid-last.ensures.last ∙ ap made c.procedures.ensures.past in
    let first = c.first_pid-pid.ensures in
    let few = (grown_all J c.procedures.ensures.legal).low in
    let all : c.loop-pid.pid ≡ made J + 1 = (let test = c.loop-pid-test.false in (let end = c.loop-pid.auto in omega (arith, last, test, end, first, few))) in
    all_ready J c.procedures.ensures.legal c.loop-pid.self (subst (λ (k : ℕ). IsReadyBelow J c.loop-pid.self k) all c.loop-pid.invariant.below)

pub returns-clause-order : goal.returns-clause-order
returns-clause-order c servers =
    let J = c.args.records.now.past in
    let last : c.last_pid-last.result ≡ made J = c.last_pid-last.ensures.last ∙ ap made c.procedures.ensures.past in
    let first = c.first_pid-pid.ensures in
    let few = (grown_all J c.procedures.ensures.legal).low in
    let all : c.loop-pid.pid ≡ suc (made J) = (let test = c.loop-pid-test.false in (let end = c.loop-pid.auto in omega (arith, last, test, end, first, few))) in
    c.loop-pid.invariant.below.order servers (made J) all
