use Rattle.std.proofs.Common.{◌<◌, subst, sym}
use Rattle.hm_model.specs.Rules.{IsLegal}
use Rattle.hm_model.specs.Tree.{made}
use Rattle.hm_tied.specs.Tied.{IsTied}
use Rattle.hm_tied.proofs.Others.{abort_ties}
use Rattle.hm_roster.specs.Roster.{number_on, pids_on, roster_of}
use Rattle.hm_roster.proofs.desk.Desk.behind_abort.Goals as goal

pub returns : goal.returns
returns c =
    let followed = c.requires in
    record {
      tied =
          subst (λ J. IsTied J (number_on c.args.self.now) (roster_of c.args.self.now)) (sym followed.1)
          (abort_ties c.args.pid followed.0 (number_on c.args.self.now) (roster_of c.args.self.now) (subst IsLegal followed.1 c.procedures-legal.ensures.legal) followed.2.tied);
      room = subst (λ J. made J < pids_on c.args.self.now) (sym followed.1) followed.2.room;
      below = followed.2.below;
    }
