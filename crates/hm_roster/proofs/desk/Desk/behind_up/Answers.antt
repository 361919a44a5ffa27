use Rattle.std.proofs.Common.{◌<◌, ℕ, subst, sym}
use Rattle.hm_model.specs.Rules.{IsLegal}
use Rattle.hm_model.specs.Tree.{made}
use Rattle.hm_tied.specs.Entries.{late_debts}
use Rattle.hm_tied.specs.Tied.{IsTiedBut}
use Rattle.hm_tied.proofs.Others.{up_owes}
use Rattle.hm_roster.specs.Roster.{number_on, pids_on, roster_of}
use Rattle.hm_roster.proofs.Desks.{below_still}
use Rattle.hm_roster.proofs.desk.Desk.behind_up.Goals as goal

pub returns-clause-follows : goal.returns-clause-follows
returns-clause-follows c =
    let followed = c.requires.1 in
    let same = c.wake_held_uncounted.ensures.same in
    record {
      tied =
          c.wake_held_uncounted.ensures.owes c.args.records.now.past late_debts
          (subst (λ J. IsTiedBut J (number_on c.args.self.now) (roster_of c.args.self.now) late_debts) (sym followed.1)
          (up_owes c.requires.0 followed.0 (number_on c.args.self.now) (roster_of c.args.self.now) (subst IsLegal followed.1 c.procedures-legal.ensures.legal) followed.2.tied));
      room = subst (λ J. made J < pids_on c.wake_held_uncounted.new.self) (sym followed.1) (subst (λ (k : ℕ). made followed.0 < k) (sym same.pids) followed.2.room);
      below = below_still c.args.self.now c.wake_held_uncounted.new.self same followed.2.below;
    }
