use Rattle.std.proofs.Common.{◌∷◌, List, ℕ, subst, sym}
use Rattle.hm_model.specs.Claims.{IsClaimedToo}
use Rattle.hm_tied.specs.Tied.{no_debts}
use Rattle.hm_tied.proofs.Calls.{claim_ties}
use Rattle.hm_roster.specs.Roster.{claims_on, lists_on, number_on, roster_with, rows_on}
use Rattle.hm_roster.proofs.Claimed.{claims_alike, in_push}
use Rattle.hm_roster.proofs.desk.Desk.claim.Goals as goal

pub returns-clause-follows : goal.returns-clause-follows
returns-clause-follows c =
    let J = c.args.records.now.past in
    let given = c.requires.given in
    record {
      tied =
          claims_alike J (number_on c.args.self.now) (record { claimed = c.args.pid.0 ∷ claims_on c.args.self.now; lists = lists_on c.args.self.now; rows = rows_on c.args.self.now }) no_debts c.push_reserved.new.self.items
          (subst (λ (l : List ℕ). IsClaimedToo c.args.pid.0 (claims_on c.args.self.now) l) (sym c.push_reserved.ensures.items) (in_push (claims_on c.args.self.now) c.args.pid.0))
          (claim_ties J (number_on c.args.self.now) (roster_with c.args.self.now given.was) (rows_on c.args.self.now) c.args.pid.0 c.procedures-legal.ensures.legal given.tied c.requires.go given.nowhere given.taken);
      room = given.room;
      below = given.below;
    }

pub returns-clause-claimed : goal.returns-clause-claimed
returns-clause-claimed c = subst (λ (l : List ℕ). IsClaimedToo c.args.pid.0 (claims_on c.args.self.now) l) (sym c.push_reserved.ensures.items) (in_push (claims_on c.args.self.now) c.args.pid.0)
