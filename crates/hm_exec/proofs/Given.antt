-- A procedure that was given, where room is made for its claim.
use Rattle.std.proofs.Common.{◌≡◌, ◌<◌, ℕ, List, Option, true, ap, sym, subst}
use Rattle.std.specs.Option.{option_map}
use Rattle.hm_names.specs.Server.{Server}
use Rattle.hm_locks.specs.Book.{AreChanged, Row, holding, row_of}
use Rattle.hm_model.specs.Journal.{Past}
use Rattle.hm_model.specs.Locks.{IsIn}
use Rattle.hm_model.specs.Tree.{made}
use Rattle.hm_roster.specs.Roster.{IsGiven, claims_on, lists_on, number_in, number_on, roster_with, servers_on}
use Rattle.hm_roster.specs.declared.desk.Desk.{Desk}
use Rattle.hm_sched.specs.Queues.{StandsNowhere}
use Rattle.hm_tied.specs.Calls.{owing}
use Rattle.hm_tied.specs.Tied.{IsTiedBut}

-- where the claims, the numbers, the lists and the book are the same, whoever was given still is
pub given_stays : (J : Past) (old new : Desk) (p : ℕ) → claims_on new ≡ claims_on old → new.numbers ≡ old.numbers → new.sched ≡ old.sched → new.book ≡ old.book → IsGiven J old p → IsGiven J new p
given_stays J old new p claims numbers sched book given =
    let same : number_on old ≡ number_on new = sym (ap (λ m. number_in m.pairs) numbers) in record {
      was = given.was;
      tied =
          subst (λ (c : List ℕ). IsTiedBut J (number_on new) (record { claimed = c; lists = lists_on new; rows = given.was }) (owing p)) (sym claims)
          (subst (λ (l : List (List ℕ)). IsTiedBut J (number_on new) (record { claimed = claims_on old; lists = l; rows = given.was }) (owing p)) (sym (ap (λ s. s.lists) sched))
          (subst (λ (n : Option Server → ℕ). IsTiedBut J n (roster_with old given.was) (owing p)) same given.tied));
      nowhere = subst (λ (l : List (List ℕ)). StandsNowhere l p) (sym (ap (λ s. s.lists) sched)) given.nowhere;
      opened = given.opened;
      unclaimed = λ e. given.unclaimed (subst (IsIn p) claims e);
      known = subst (λ (k : ℕ). p < k) (sym (ap (λ s. s.pids) sched)) given.known;
      room = subst (λ (k : ℕ). made J < k) (sym (ap (λ s. s.pids) sched)) given.room;
      below = λ server. subst (λ (k : ℕ). number_on new server < k) (sym (ap (λ s. s.servers) sched)) (subst (λ (n : Option Server → ℕ). n server < servers_on old) same (given.below server));
      taken = subst (λ (rows : List Row). AreChanged given.was p (option_map (holding true) (row_of given.was p)) rows) (sym (ap (λ b. b.rows) book)) given.taken;
      alone = given.alone;
    }
