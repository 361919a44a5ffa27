-- Desks that gave a procedure, set one aside, or had a claim put back.
use Rattle.std.proofs.Common.{◌≡◌, ◌<◌, ℕ, List, Option, Some, true, refl, ap, sym, subst, arith}
use Rattle.std.specs.Option.{option_map}
use Rattle.hm_names.specs.Server.{Server}
use Rattle.hm_locks.specs.Book.{AreChanged, IsEnlisted, Row, holding, row_of}
use Rattle.hm_model.specs.Journal.{Past}
use Rattle.hm_model.specs.Locks.{IsIn}
use Rattle.hm_model.specs.Rules.{IsLegal}
use Rattle.hm_model.specs.Tree.{made}
use Rattle.hm_sched.specs.Effects.{Passes}
use Rattle.hm_tied.specs.Calls.{owing}
use Rattle.hm_tied.specs.Tied.{Debts, IsTied, IsTiedBut, no_debts}
use Rattle.hm_tied.proofs.Uses.{known_made}
use Rattle.hm_roster.specs.Roster.{Follows, HasLists, IsGiven, IsSameBut, claims_on, lists_on, number_in, number_on, pids_on, roster_of, rows_on, servers_on}
use Rattle.hm_roster.specs.declared.desk.Desk.{Desk}
use Rattle.hm_roster.proofs.Giving.{given_free, given_open, given_tied}

-- what is said of claims and numbers is said of the same ones
pub carried : (J : Past) (desk new : Desk) (lists : List (List ℕ)) (rows : List Row) (debts : Debts) → IsSameBut desk new
    → IsTiedBut J (number_on desk) (record { claimed = claims_on desk; lists = lists; rows = rows }) debts
    → IsTiedBut J (number_on new) (record { claimed = claims_on new; lists = lists; rows = rows }) debts
carried J desk new lists rows debts same tied =
    subst (λ (c : List ℕ). IsTiedBut J (number_on new) (record { claimed = c; lists = lists; rows = rows }) debts) (sym (ap (λ v. v.items) same.claimed))
    (subst (λ (n : Option Server → ℕ). IsTiedBut J n (record { claimed = claims_on desk; lists = lists; rows = rows }) debts) (sym (ap (λ m. number_in m.pairs) same.numbers)) tied)

pub below_still : (desk new : Desk) → IsSameBut desk new → HasLists desk → HasLists new
below_still desk new same below server =
    subst (λ (k : ℕ). number_on new server < k) (sym same.servers)
    (subst (λ (n : Option Server → ℕ). n server < servers_on desk) (sym (ap (λ m. number_in m.pairs) same.numbers)) (below server))

-- who is known has room
pub enlisted_known : (J : Past) → IsLegal J → (desk : Desk) → Follows J desk → (q : ℕ) → IsEnlisted (rows_on desk) q → q < pids_on desk
enlisted_known J legal desk follows q there = let le = (known_made J (number_on desk) (roster_of desk) no_debts legal follows.tied q).0 there in omega (arith, le, follows)

-- a procedure that was given
pub given_on : (J : Past) → IsLegal J → (desk new : Desk) (p : ℕ) → Follows J desk → IsSameBut desk new → Passes (rows_on desk) (lists_on desk) (lists_on new) (Some p)
    → AreChanged (rows_on desk) p (option_map (holding true) (row_of (rows_on desk) p)) (rows_on new) → IsGiven J new p
given_on J legal desk new p follows same passes taken =
    let opens = given_open J legal (number_on desk) (roster_of desk) (lists_on new) p follows.tied passes in
    let room = follows.room in
    record {
      was = rows_on desk;
      tied = carried J desk new (lists_on new) (rows_on desk) (owing p) same (given_tied J legal (number_on desk) (roster_of desk) (lists_on new) p follows.tied passes);
      nowhere = λ queue there. passes.gone p refl queue there;
      opened = opens;
      unclaimed = λ mine. given_free J legal (number_on desk) (roster_of desk) (lists_on new) p follows.tied passes (subst (λ (c : List ℕ). IsIn p c) (ap (λ v. v.items) same.claimed) mine);
      known = subst (λ (k : ℕ). p < k) (sym same.pids) (enlisted_known J legal desk follows p ((let book = follows.tied.book in book.opened p opens)));
      room = subst (λ (k : ℕ). made J < k) (sym same.pids) follows.room;
      below = below_still desk new same follows.below;
      taken = taken;
      alone = (passes.some p refl).1;
    }

-- nobody was given
pub nobody_on : (J : Past) (desk new : Desk) → Follows J desk → IsSameBut desk new → IsTied J (number_on desk) (record { claimed = claims_on desk; lists = lists_on new; rows = rows_on desk }) → rows_on new ≡ rows_on desk → Follows J new
nobody_on J desk new follows same tied rows = record {
  tied = subst (λ (r : List Row). IsTied J (number_on new) (record { claimed = claims_on new; lists = lists_on new; rows = r })) (sym rows) (carried J desk new (lists_on new) (rows_on desk) no_debts same tied);
  room = subst (λ (k : ℕ). made J < k) (sym same.pids) follows.room;
  below = below_still desk new same follows.below;
}
