use Rattle.std.proofs.Common.{Bool, List, [], ap, subst, sym, ℕ, ◌++◌, ◌<◌, ◌∙◌, ◌∷◌}
use Rattle.hm_model.specs.Locks.{IsIn}
use Rattle.hm_model.specs.Tree.{made}
use Rattle.hm_sched.specs.Queues.{IsWith, members, ready_list}
use Rattle.hm_tied.specs.Calls.{owing}
use Rattle.hm_tied.proofs.Paid.{one_pays}
use Rattle.hm_roster.specs.Roster.{number_on, roster_of}
use Rattle.hm_roster.proofs.Desks.{below_still}
use Rattle.hm_roster.proofs.Placing.{readied}
use Rattle.hm_roster.proofs.desk.Desk.let_be.Goals as goal

pub returns-clause-follows : goal.returns-clause-follows
returns-clause-follows c =
    let J = c.args.records.now.past in
    let given = c.requires in
    let same = c.give_back.ensures.same in
    record {
      tied =
          one_pays J (number_on c.give_back.new.self) (record { claimed = c.give_back.new.self.claimed.items; lists = c.ready.new.self.lists; rows = c.give_back.new.self.book.rows }) c.args.pid.0
          (readied J (number_on c.give_back.new.self) (roster_of c.give_back.new.self) (owing c.args.pid.0) c.args.pid.0 c.give_back.ensures.owes c.procedures-legal.ensures.legal given.opened
          (λ mine. given.unclaimed (subst (λ (l : List ℕ). IsIn c.args.pid.0 l) (ap (λ v. v.items) same.claimed) mine)) c.ready.new.self.lists c.is_of_crash-servers.result c.ready.ensures.joins);
      room = subst (λ (k : ℕ). made J < k) (sym (c.ready.ensures.pids ∙ same.pids)) given.room;
      below = λ server. subst (λ (k : ℕ). number_on c.give_back.new.self server < k) (sym c.ready.ensures.servers) (below_still c.args.self.now c.give_back.new.self same given.below server);
    }

pub returns-clause-back : goal.returns-clause-back
returns-clause-back c =
    let moved = λ (servers : Bool) (old : List (List ℕ)). IsWith old (ready_list servers) (members old (ready_list servers) ++ c.args.pid.0 ∷ []) c.ready.new.self.lists in
    subst (λ (servers : Bool). moved servers c.args.self.now.sched.lists) c.is_of_crash-servers.ensures (subst (λ (old : List (List ℕ)). moved c.is_of_crash-servers.result old) c.give_back.ensures.lists c.ready.ensures.list)
