use Rattle.std.proofs.Common.{List, ℕ, refl, ap, subst, sym, ◌∙◌}
use Rattle.std.proofs.lemmas.Bool.{true≢false}
use Rattle.hm_model.specs.Rest.{IsAvailable}
use Rattle.hm_locks.specs.Book.{Book}
use Rattle.hm_tied.proofs.Uses.{ready_enlisted}
use Rattle.hm_roster.specs.Looks.{IsStuck}
use Rattle.hm_roster.specs.Roster.{number_on, roster_of}
use Rattle.hm_roster.proofs.Desks.{enlisted_known, given_on, nobody_on}
use Rattle.hm_roster.proofs.Giving.{given_available, none_given}
use Rattle.hm_roster.proofs.Looking.{asks_stay, look_aside, look_begin, look_next}
use Rattle.hm_roster.proofs.desk.Desk.next.Goals.{else-can_go-via-else-can_go, else-can_go-via-then-can_go+else-has_pick}
use Rattle.hm_roster.proofs.desk.Desk.next.Goals as goal

pub next-requires-clause-enlisted : goal.next-requires-clause-enlisted
next-requires-clause-enlisted g c = ready_enlisted c.args.records.now.past (number_on c.loop-pid.self) (roster_of c.loop-pid.self) c.loop-pid.invariant.follows.tied

pub next-requires-clause-known : goal.next-requires-clause-known
next-requires-clause-known g c = enlisted_known c.args.records.now.past c.procedures-legal.ensures.legal c.loop-pid.self c.loop-pid.invariant.follows

pub returns-then-has_pick-clause-given : goal.returns-then-has_pick-clause-given
returns-then-has_pick-clause-given g c =
    given_on c.args.records.now.past c.procedures-legal.ensures.legal c.loop-pid.self (record { claimed = c.loop-pid.self.claimed; sched = c.next.new.self; book = c.next.new.book; numbers = c.loop-pid.self.numbers }) c.in-Some.pid.0 c.loop-pid.invariant.follows
    (record { claimed = refl; numbers = refl; pids = c.in-Some.ensures.room.pids; servers = c.in-Some.ensures.room.servers }) c.in-Some.ensures.passes c.in-Some.ensures.some

pub returns-then-has_pick-clause-available : goal.returns-then-has_pick-clause-available
returns-then-has_pick-clause-available g c =
    subst (λ (l : List ℕ). IsAvailable c.args.records.now.past l l c.in-Some.pid.0) (ap (λ v. v.items) c.loop-pid.invariant.same.claimed)
    (given_available c.args.records.now.past c.procedures-legal.ensures.legal (number_on c.loop-pid.self) (roster_of c.loop-pid.self) c.next.new.self.lists c.in-Some.pid.0 c.loop-pid.invariant.follows.tied c.in-Some.ensures.passes
    (c.can_go.ensures.go.0 c.if-can_go.true) (λ node is. sym (c.has_pick.ensures node is) ∙ c.if-has_pick.true))

pub set_aside-requires-clause-given : goal.set_aside-requires-clause-given
set_aside-requires-clause-given g c =
    given_on c.args.records.now.past c.procedures-legal.ensures.legal c.loop-pid.self (record { claimed = c.loop-pid.self.claimed; sched = c.next.new.self; book = c.next.new.book; numbers = c.loop-pid.self.numbers }) c.in-Some.pid.0 c.loop-pid.invariant.follows
    (record { claimed = refl; numbers = refl; pids = c.in-Some.ensures.room.pids; servers = c.in-Some.ensures.room.servers }) c.in-Some.ensures.passes c.in-Some.ensures.some

pub set_aside-requires-clause-stuck : goal.set_aside-requires-clause-stuck
set_aside-requires-clause-stuck g c = elim c.else-can_go.branch [
  | else-can_go-via-then-can_go+else-has_pick w ↦ λ go node is. sym (w.has_pick.ensures node is) ∙ w.if-has_pick.false
  | else-can_go-via-else-can_go w ↦ λ go. absurd (true≢false (sym (c.can_go.ensures.go.1 go) ∙ w.if-can_go.false))
]

pub returns-clause-follows : goal.returns-clause-follows
returns-clause-follows g c =
    nobody_on c.args.records.now.past c.loop-pid.self (record { claimed = c.loop-pid.self.claimed; sched = c.next.new.self; book = c.next.new.book; numbers = c.loop-pid.self.numbers }) c.loop-pid.invariant.follows
    (record { claimed = refl; numbers = refl; pids = c.in_default.ensures.room.pids; servers = c.in_default.ensures.room.servers })
    (none_given c.args.records.now.past (number_on c.loop-pid.self) (roster_of c.loop-pid.self) c.next.new.self.lists c.loop-pid.invariant.follows.tied c.in_default.ensures.passes).0
    (ap (λ (b : Book). b.rows) c.in_default.ensures.none)

pub returns-clause-none : goal.returns-clause-none
returns-clause-none g c =
    subst (λ (l : List ℕ). (q : ℕ) → IsAvailable c.args.records.now.past l l q → ⊥) (ap (λ v. v.items) c.loop-pid.invariant.same.claimed)
    (none_given c.args.records.now.past (number_on c.loop-pid.self) (roster_of c.loop-pid.self) c.next.new.self.lists c.loop-pid.invariant.follows.tied c.in_default.ensures.passes).1

pub returns-then-has_pick-clause-looks : goal.returns-then-has_pick-clause-looks
returns-then-has_pick-clause-looks g c = look_next _ _ _ _ _ _ _ _ _ _ c.loop-pid.invariant.asks c.loop-pid.invariant.looks c.in-Some.ensures.next

pub returns-clause-looks : goal.returns-clause-looks
returns-clause-looks g c = look_next _ _ _ _ _ _ _ _ _ _ c.loop-pid.invariant.asks c.loop-pid.invariant.looks c.in_default.ensures.next

pub loop-pid-init : goal.loop-pid-init
loop-pid-init g c = record {
  follows = c.requires;
  same = record { claimed = refl; numbers = refl; pids = refl; servers = refl };
  asks = λ q. refl;
  looks = look_begin _ _ _ _;
}

pub loop-pid-preserved : goal.loop-pid-preserved
loop-pid-preserved g c =
    let stuck : IsStuck c.args.records.now.past c.in-Some.pid.0 = elim c.else-can_go.branch [
      | else-can_go-via-then-can_go+else-has_pick w ↦ λ go node is. sym (w.has_pick.ensures node is) ∙ w.if-has_pick.false
      | else-can_go-via-else-can_go w ↦ λ go. absurd (true≢false (sym (c.can_go.ensures.go.1 go) ∙ w.if-can_go.false))
    ] in
    let was = c.loop-pid.invariant.same in
    let same = c.set_aside.ensures.same in record {
      follows = c.set_aside.ensures.follows;
      same = record {
        claimed = same.claimed ∙ was.claimed;
        numbers = same.numbers ∙ was.numbers;
        pids = same.pids ∙ c.in-Some.ensures.room.pids ∙ was.pids;
        servers = same.servers ∙ c.in-Some.ensures.room.servers ∙ was.servers;
      };
      asks = λ q. c.set_aside.ensures.asks q ∙ asks_stay _ _ _ _ c.in-Some.ensures.some q ∙ c.loop-pid.invariant.asks q;
      looks =
          look_aside _ _ _ _ _ _ _ _ _ (look_next _ _ _ _ _ _ _ _ _ _ c.loop-pid.invariant.asks c.loop-pid.invariant.looks c.in-Some.ensures.next) stuck c.set_aside.ensures.same_ready
          c.set_aside.ensures.waits c.set_aside.ensures.steps;
    }
