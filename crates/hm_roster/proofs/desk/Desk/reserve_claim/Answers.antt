use Rattle.std.proofs.Common.{List, ℕ, subst, sym}
use Rattle.hm_tied.specs.Tied.{IsTied}
use Rattle.hm_roster.specs.Roster.{lists_on, number_on, rows_on}
use Rattle.hm_roster.proofs.desk.Desk.reserve_claim.Goals as goal

pub returns-clause-follows : goal.returns-clause-follows
returns-clause-follows c past follows = record {
  tied = subst (λ (l : List ℕ). IsTied past (number_on c.args.self.now) (record { claimed = l; lists = lists_on c.args.self.now; rows = rows_on c.args.self.now })) (sym c.reserve.ensures.items) follows.tied;
  room = follows.room;
  below = follows.below;
}
