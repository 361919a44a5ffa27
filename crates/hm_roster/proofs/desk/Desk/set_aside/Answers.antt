use Rattle.std.proofs.Common.{◌<◌, List, ℕ, refl, ap, subst, sym, ◌∙◌}
use Rattle.std.proofs.lemmas.Bool.{true≢false}
use Rattle.hm_model.specs.Locks.{IsIn}
use Rattle.hm_model.specs.Tree.{made}
use Rattle.hm_sched.specs.Queues.{StandsIn, ready_count}
use Rattle.hm_sched.specs.declared.queue.Queue.TheVariants.{Held, Suspended, Waits}
use Rattle.hm_tied.proofs.Paid.{one_pays}
use Rattle.hm_tied.proofs.Uses.{free_given}
use Rattle.hm_tied.specs.Calls.{owing}
use Rattle.hm_roster.specs.Looks.{ready_in}
use Rattle.hm_roster.specs.Roster.{number_on, roster_of, roster_with}
use Rattle.hm_roster.proofs.Desks.{below_still}
use Rattle.hm_roster.proofs.Giving.{held_aside, ready_stays}
use Rattle.hm_roster.proofs.Lacking.{lacks}
use Rattle.hm_roster.proofs.Looking.{held_off, ready_same, suspended_off, waits_stay}
use Rattle.hm_roster.proofs.Placing.{idle, suspended}
use Rattle.hm_roster.proofs.desk.Desk.set_aside.Goals as goal

pub returns-then-can_go-clause-follows : goal.returns-then-can_go-clause-follows
returns-then-can_go-clause-follows g c =
    let J = c.args.records.now.past in
    let given = c.requires.given in
    let same = c.give_back.ensures.same in
    let may = lacks J c.can_go.ensures.legal c.args.pid.0 (c.can_go.ensures.go.0 c.if-can_go.true) (c.requires.stuck (c.can_go.ensures.go.0 c.if-can_go.true)) in
    record {
      tied =
          held_aside J c.can_go.ensures.legal (number_on c.give_back.new.self) (roster_of c.give_back.new.self) c.hold.new.self.lists c.args.pid.0 c.give_back.ensures.owes given.opened
          (λ mine. given.unclaimed (subst (λ (l : List ℕ). IsIn c.args.pid.0 l) (ap (λ v. v.items) same.claimed) mine)) may.0 may.1 (free_given J (number_on c.args.self.now) (roster_with c.args.self.now given.was) c.args.pid.0 given.tied given.opened given.alone) c.hold.ensures.joins;
      room = subst (λ (k : ℕ). made J < k) (sym (c.hold.ensures.room.pids ∙ same.pids)) given.room;
      below = λ server. subst (λ (k : ℕ). number_on c.give_back.new.self server < k) (sym c.hold.ensures.room.servers) (below_still c.args.self.now c.give_back.new.self same given.below server);
    }

pub returns-then-can_go-clause-ready : goal.returns-then-can_go-clause-ready
returns-then-can_go-clause-ready g c = ready_stays c.give_back.new.self.sched.lists c.hold.new.self.lists Held _ refl c.hold.ensures.list ∙ ap ready_count c.give_back.ensures.lists

pub returns-then-awaits-clause-follows : goal.returns-then-awaits-clause-follows
returns-then-awaits-clause-follows g c =
    let J = c.args.records.now.past in
    let given = c.requires.given in
    let same = c.give_back.ensures.same in
    record {
      tied =
          one_pays J (number_on c.give_back.new.self) (record { claimed = c.give_back.new.self.claimed.items; lists = c.suspend.new.self.lists; rows = c.give_back.new.self.book.rows }) c.args.pid.0
          (suspended J (number_on c.give_back.new.self) (roster_of c.give_back.new.self) (owing c.args.pid.0) c.args.pid.0 c.give_back.ensures.owes c.can_go.ensures.legal given.opened
          (λ mine. given.unclaimed (subst (λ (l : List ℕ). IsIn c.args.pid.0 l) (ap (λ v. v.items) same.claimed) mine)) c.suspend.new.self.lists c.number_called-server.result c.number_called-server.ensures.number
          (λ go. true≢false (sym (c.can_go.ensures.go.1 go) ∙ c.if-can_go.false)) c.suspend.ensures.joins);
      room = subst (λ (k : ℕ). made J < k) (sym (c.suspend.ensures.room.pids ∙ same.pids)) given.room;
      below = λ server. subst (λ (k : ℕ). number_on c.give_back.new.self server < k) (sym c.suspend.ensures.room.servers) (below_still c.args.self.now c.give_back.new.self same given.below server);
    }

pub returns-then-awaits-clause-ready : goal.returns-then-awaits-clause-ready
returns-then-awaits-clause-ready g c = ready_stays c.give_back.new.self.sched.lists c.suspend.new.self.lists (Suspended c.number_called-server.result) _ refl c.suspend.ensures.list ∙ ap ready_count c.give_back.ensures.lists

pub returns-else-awaits-clause-follows : goal.returns-else-awaits-clause-follows
returns-else-awaits-clause-follows g c =
    let J = c.args.records.now.past in
    let given = c.requires.given in
    let same = c.give_back.ensures.same in
    record {
      tied =
          one_pays J (number_on c.give_back.new.self) (roster_of c.give_back.new.self) c.args.pid.0
          (idle J (number_on c.give_back.new.self) (roster_of c.give_back.new.self) (owing c.args.pid.0) c.args.pid.0 c.give_back.ensures.owes
          (λ go. true≢false (sym (c.can_go.ensures.go.1 go) ∙ c.if-can_go.false))
          (λ waits. true≢false (sym ((c.awaits.ensures (λ go. true≢false (sym (c.can_go.ensures.go.1 go) ∙ c.if-can_go.false))).1 waits) ∙ c.if-awaits.false)));
      room = subst (λ (k : ℕ). made J < k) (sym same.pids) given.room;
      below = below_still c.args.self.now c.give_back.new.self same given.below;
    }

pub returns-then-can_go-clause-same_ready : goal.returns-then-can_go-clause-same_ready
returns-then-can_go-clause-same_ready g c = ready_same c.give_back.new.self.sched.lists c.hold.new.self.lists Held _ refl c.hold.ensures.list ∙ ap ready_in c.give_back.ensures.lists

pub returns-then-awaits-clause-same_ready : goal.returns-then-awaits-clause-same_ready
returns-then-awaits-clause-same_ready g c =
    ready_same c.give_back.new.self.sched.lists c.suspend.new.self.lists (Suspended c.number_called-server.result) _ refl c.suspend.ensures.list ∙ ap ready_in c.give_back.ensures.lists

pub returns-then-can_go-clause-waits : goal.returns-then-can_go-clause-waits
returns-then-can_go-clause-waits g c h q is =
    waits_stay c.give_back.new.self.sched.lists c.hold.new.self.lists Held _ held_off c.hold.ensures.list h q (subst (λ (l : List (List ℕ)). StandsIn l (Waits h) q) (sym c.give_back.ensures.lists) is)

pub returns-then-awaits-clause-waits : goal.returns-then-awaits-clause-waits
returns-then-awaits-clause-waits g c h q is =
    waits_stay c.give_back.new.self.sched.lists c.suspend.new.self.lists (Suspended c.number_called-server.result) _ (suspended_off c.number_called-server.result) c.suspend.ensures.list h q
    (subst (λ (l : List (List ℕ)). StandsIn l (Waits h) q) (sym c.give_back.ensures.lists) is)
