-- At an opening all that haven't ended are ready.
use Rattle.std.proofs.Common.{◌≡◌, ◌≢◌, ◌⊎◌, ℕ, ◌+◌, ◌<◌, ◌≤◌, List, [], ◌∷◌, ◌++◌, Bool, true, false, not, ◌&&◌, Option, Some, None, is_some, refl, inl, inr, ap, sym, ◌∙◌, subst, arith}
use Rattle.std.proofs.lemmas.Bool.{cases_eq, false≢true, true≢false}
use Rattle.hm_lists.specs.Chains.{IsIn as IsNode}
use Rattle.hm_model.specs.Journal.{Past}
use Rattle.hm_model.specs.Locks.{IsIn}
use Rattle.hm_model.specs.Phase.{ended}
use Rattle.hm_model.specs.Procedures.{offset}
use Rattle.hm_model.specs.Rules.{IsLegal}
use Rattle.hm_model.specs.Tree.{Node, made, node_of}
use Rattle.hm_model.proofs.Grown.{grown_all, made_up_to}
use Rattle.hm_model.proofs.Trees.{some_of}
use Rattle.hm_sched.specs.Effects.{Joins}
use Rattle.hm_sched.specs.Queues.{IsReady, IsWith, Stands, StandsIn, members, ready_list}
use Rattle.hm_sched.specs.declared.queue.Queue.{Queue}
use Rattle.hm_sched.specs.declared.queue.Queue.TheVariants.{Servers, Tables}
use Rattle.hm_tied.specs.Tied.{IsOpen, IsTiedBut}
use Rattle.hm_tied.proofs.Going.{busy_open}
use Rattle.hm_tied.proofs.Paid.{owed_told}
use Rattle.hm_tied.proofs.Uses.{debts_rise, opening_owes}
use Rattle.hm_roster.specs.Opening.{IsBookBelow, IsReadyBelow, all_owed}
use Rattle.hm_roster.specs.Roster.{Follows, HasLists, IsSameBut, claims_on, is_of_crash, lists_on, number_on, pids_on, roster_of, rows_on}
use Rattle.hm_roster.specs.declared.desk.Desk.{Desk}
use Rattle.hm_roster.proofs.Desks.{carried}
use Rattle.hm_roster.proofs.Numbers.{nobody_low}
use Rattle.hm_roster.proofs.Opened.{book_all}
use Rattle.hm_roster.proofs.Ordered.{none_among, order_next, order_passed}
use Rattle.hm_roster.proofs.Placing.{readied}

-- who stands in a ready list is ready
in_ready : (lists : List (List ℕ)) (servers : Bool) (q : ℕ) → StandsIn lists (ready_list servers) q → IsReady lists q
in_ready lists true q e = inl e
in_ready lists false q e = inr e

-- and stands there
pub ready_stands : (lists : List (List ℕ)) (q : ℕ) → IsReady lists q → Stands lists q
ready_stands lists q (inl e) = (Servers, e)
ready_stands lists q (inr e) = (Tables, e)

-- it stays ready where another joins
ready_kept : (old new : List (List ℕ)) (queue : Queue) (p q : ℕ) → Joins old new queue p → IsReady old q → IsReady new q
ready_kept old new queue p q joins (inl e) = inl (joins.kept Servers q e)
ready_kept old new queue p q joins (inr e) = inr (joins.kept Tables q e)

-- none but those that haven't ended are below the next
below_next : (J : Past) (n q : ℕ) → q < n + 1 → (q < n) ⊎ (q ≡ n)
below_next J n q lt = elim (cases_eq q n) [ inl same ↦ inr same | inr differs ↦ inl (omega (arith, lt, differs)) ]

-- at first nobody is ready
pub none_ready : (J : Past) → IsLegal J → (desk : Desk) → claims_on desk ≡ [] → ((k : Queue) → members (lists_on desk) k ≡ []) → IsBookBelow J (rows_on desk) (made J + 1) → IsReadyBelow J desk (offset J + 1)
none_ready J legal desk free empty below = record {
  tied = subst (λ (c : List ℕ). IsTiedBut J (number_on desk) (record { claimed = c; lists = lists_on desk; rows = rows_on desk }) all_owed) (sym free) (let book = book_all J legal (rows_on desk) below in opening_owes J (number_on desk) (lists_on desk) (rows_on desk) book.0 book.1 empty);
  order = λ servers k is. empty (ready_list servers) ∙ sym (none_among J legal servers k (omega (arith, is)));
  ready = λ q lt opens. absurd (opens.0 (nobody_low J legal q (omega (arith, lt))));
  later = λ q le queue e. subst (IsNode q) (empty queue) e;
}

-- who has ended isn't open
over_off : (there over : Bool) → over ≡ true → (there && not over) ≡ false
over_off true true e = refl
over_off false over e = refl
over_off true false e = absurd (false≢true e)

-- who is there and goes on is
opens_on : (o : Option Node) (over : Bool) → o ≢ None → over ≡ false → (is_some o && not over) ≡ true
opens_on None over some e = absurd (some refl)
opens_on (Some x) true some e = absurd (true≢false e)
opens_on (Some x) false some e = refl

-- one that has ended is passed
pub ready_passed : (J : Past) (desk : Desk) (n : ℕ) → 1 ≤ n → ended J n ≡ true → IsReadyBelow J desk n → IsReadyBelow J desk (n + 1)
ready_passed J desk n low over below = record {
  tied = below.tied;
  order = order_passed J (lists_on desk) n low (over_off (is_some (node_of J n)) (ended J n) over) below.order;
  ready = λ q lt opens. elim (below_next J n q lt) [
    | inl few ↦ below.ready q few opens
    | inr same ↦ absurd (true≢false (sym over ∙ ap (ended J) (sym same) ∙ opens.1))
  ];
  later = λ q le. below.later q (omega (arith, le));
}

-- another is ready
pub ready_next : (J : Past) → IsLegal J → (desk new : Desk) (n : ℕ) (servers : Bool) → 1 ≤ n → servers ≡ is_of_crash J n → IsOpen J n → claims_on desk ≡ [] → IsSameBut desk new → rows_on new ≡ rows_on desk → Joins (lists_on desk) (lists_on new) (ready_list servers) n → IsWith (lists_on desk) (ready_list servers) (members (lists_on desk) (ready_list servers) ++ n ∷ []) (lists_on new) → IsReadyBelow J desk n → IsReadyBelow J new (n + 1)
ready_next J legal desk new n servers low home opens free same rows joins with_it below = record {
  tied =
      subst (λ (r : List Rattle.hm_locks.specs.Book.Row). IsTiedBut J (number_on new) (record { claimed = claims_on new; lists = lists_on new; rows = r }) all_owed) (sym rows)
      (carried J desk new (lists_on new) (rows_on desk) all_owed same
      (debts_rise J (number_on desk) (record { claimed = claims_on desk; lists = lists_on new; rows = rows_on desk }) _ all_owed
      (readied J (number_on desk) (roster_of desk) all_owed n below.tied legal opens (λ mine. subst (IsIn n) free mine) (lists_on new) servers joins)
      (record { owed = λ q e. refl; slack = λ q e. e; over = λ q. refl; late = λ e. e })));
  order = order_next J (lists_on desk) (lists_on new) n servers low (opens_on (node_of J n) (ended J n) opens.0 opens.1) home with_it below.order;
  ready = λ q lt its. elim (below_next J n q lt) [
    | inl few ↦ ready_kept (lists_on desk) (lists_on new) (ready_list servers) n q joins (below.ready q few its)
    | inr own ↦ in_ready (lists_on new) servers q (subst (StandsIn (lists_on new) (ready_list servers)) (sym own) joins.there)
  ];
  later = λ q le queue e. elim (joins.only queue q e) [
    | inl old ↦ below.later q (omega (arith, le)) queue old
    | inr own ↦ (let same = own.1 in omega (arith, le, same))
  ];
}

-- all are
pub all_ready : (J : Past) → IsLegal J → (desk : Desk) → IsReadyBelow J desk (made J + 1) → (q : ℕ) → IsOpen J q → IsReady (lists_on desk) q
all_ready J legal desk below q opens = below.ready q (let x = some_of (node_of J q) opens.0 in (let le = (made_up_to J (grown_all J legal) q x.0 x.1).1 in omega (arith, le))) opens

-- so the desk follows
pub ready_follows : (J : Past) → IsLegal J → (desk : Desk) → IsReadyBelow J desk (made J + 1) → made J < pids_on desk → HasLists desk → Follows J desk
ready_follows J legal desk below room lists = record {
  tied = owed_told J (number_on desk) (roster_of desk) all_owed (λ q. false) below.tied (λ q on free busy. inl (ready_stands (lists_on desk) q (all_ready J legal desk below q (busy_open J legal q busy))));
  room = room;
  below = lists;
}
