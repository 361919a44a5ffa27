use Rattle.std.proofs.Common.{◌<◌, ℕ, List, arith, refl, ap, subst, sym, ◌∙◌}
use Rattle.hm_model.specs.Tree.{made}
use Rattle.hm_model.specs.Claims.{Unclaims}
use Rattle.hm_tied.specs.Calls.{owing}
use Rattle.hm_tied.proofs.Paid.{one_pays}
use Rattle.hm_roster.specs.Roster.{number_on, roster_of}
use Rattle.hm_roster.proofs.Desks.{below_still, enlisted_known}
use Rattle.hm_roster.proofs.Giving.{claimed_enlisted}
use Rattle.hm_roster.proofs.Placing.{readied}
use Rattle.hm_roster.proofs.desk.Desk.put_back.Goals as goal

pub ready-requires-clause-known : goal.ready-requires-clause-known
ready-requires-clause-known c =
    subst (λ (k : ℕ). c.args.pid.0 < k) (sym c.let_go_uncounted.ensures.same.pids)
    (enlisted_known c.args.records.now.past c.procedures-legal.ensures.legal c.args.self.now c.requires.follows c.args.pid.0
    (claimed_enlisted c.args.records.now.past (number_on c.args.self.now) (roster_of c.args.self.now) c.args.pid.0 c.requires.follows.tied c.requires.mine))

pub returns-clause-follows : goal.returns-clause-follows
returns-clause-follows c =
    let J = c.args.records.now.past in
    let same = c.let_go_uncounted.ensures.same in
    let fewer = subst (λ (l : List ℕ). Unclaims c.args.pid.0 l c.unclaim.new.claimed.items) (ap (λ v. v.items) same.claimed) c.unclaim.ensures.less in
    record {
      tied =
          one_pays J (number_on c.let_go_uncounted.new.self) (record { claimed = c.unclaim.new.claimed.items; lists = c.ready.new.self.lists; rows = c.let_go_uncounted.new.self.book.rows }) c.args.pid.0
          (readied J (number_on c.let_go_uncounted.new.self) (record { claimed = c.unclaim.new.claimed.items; lists = c.let_go_uncounted.new.self.sched.lists; rows = c.let_go_uncounted.new.self.book.rows }) (owing c.args.pid.0) c.args.pid.0
          (c.let_go_uncounted.ensures.owes c.unclaim.new.claimed.items fewer) c.procedures-legal.ensures.legal (c.requires.follows.tied.claims c.args.pid.0 c.requires.mine).0 (λ e. ((fewer c.args.pid.0).0 e).1 refl)
          c.ready.new.self.lists c.is_of_crash-servers.result c.ready.ensures.joins);
      room = subst (λ (k : ℕ). made J < k) (sym (c.ready.ensures.pids ∙ same.pids)) c.requires.follows.room;
      below = λ server. subst (λ (k : ℕ). number_on c.let_go_uncounted.new.self server < k) (sym c.ready.ensures.servers) (below_still c.args.self.now c.let_go_uncounted.new.self same c.requires.follows.below server);
    }

pub returns-clause-claimed : goal.returns-clause-claimed
returns-clause-claimed c = subst (λ (l : List ℕ). Unclaims c.args.pid.0 l c.unclaim.new.claimed.items) (ap (λ v. v.items) c.let_go_uncounted.ensures.same.claimed) c.unclaim.ensures.less

pub returns-clause-room : goal.returns-clause-room
returns-clause-room c =
    let let_go = c.let_go_uncounted.ensures.room in
    let claims = c.unclaim.ensures.capacity in
    let sched = c.ready.ensures.room in omega (arith, let_go, claims, sched)
