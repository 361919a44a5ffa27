-- What a tied state tells, and how it begins, goes on and is done.
use Rattle.std.proofs.Common.{Bool, List, None, Option, Some, [], ap, arith, cond, false, inl, inr, not, refl, subst, sym, true, ℕ, ◌||◌, ◌∙◌, ◌∷◌, ◌≡◌, ◌≢◌, ◌≤◌, ◌⊎◌}
use Rattle.std.proofs.lemmas.Bool.{and_from, cases_Bool, cases_eq, false≢true, or_left, or_right}
use Rattle.std.proofs.lemmas.Option.{none-some, same_Some}
use Rattle.hm_names.specs.Server.{Server}
use Rattle.hm_locks.specs.Book.{IsFree, Row, above_in, row_of}
use Rattle.hm_locks.proofs.Ties.{free_is_free}
use Rattle.hm_model.specs.Holding.{IsFree as IsClear}
use Rattle.hm_model.specs.Journal.{Past}
use Rattle.hm_model.specs.Phase.{ended_node}
use Rattle.hm_model.specs.Tree.{Node, made, node_of}
use Rattle.hm_model.specs.Whereabouts.{called_by}
use Rattle.hm_model.proofs.CameUp.{named_came}
use Rattle.hm_model.proofs.Grown.{grown_all, made_up_to}
use Rattle.hm_model.proofs.Trees.{some_of}
use Rattle.hm_model.proofs.CallSteps.{called_server}
use Rattle.hm_sched.specs.Queues.{StandsIn}
use Rattle.hm_sched.specs.declared.queue.Queue.{Queue}
use Rattle.hm_sched.specs.declared.queue.Queue.TheVariants.{Held, Servers, Suspended, Tables, Waits}
use Rattle.hm_lists.specs.Chains.{IsIn as IsNode}
use Rattle.hm_tied.specs.CallsIn.{owing}
use Rattle.hm_tied.specs.Tied.{IsOpen, IsOver, called_in}
use Rattle.hm_tied.specs.TiedIn.{IsTied, IsTiedBut, Roster}
use Rattle.hm_tied.specs.Entries.{row_made}
use Rattle.hm_tied.specs.Bounds.{Bounds}
use Rattle.hm_tied.specs.UsesIn.{BoundsOwe, TimersOwe, is_woken, AncestorsAreTold, DebtsMayRise, EnlistingBegins, FreeTies, KnownAreMade, NoneClashTies, NumbersTie, OpeningOwes, ReadyAreEnlisted, RoomTies}
use Rattle.hm_tied.proofs.Calls.{whole}
use Rattle.hm_tied.proofs.EnteringIn.{same_enlists}
use Rattle.hm_tied.proofs.Rows.{enlisted_some}
use Rattle.hm_tied.proofs.Uses.{none_after}

pub free_ties : FreeTies
free_ties J number_of roster p tied opens = free_is_free J roster.claimed roster.rows p (whole J roster.claimed roster.rows tied.book) (tied.book.opened p opens)

-- one that is owed alone, and that nobody who holds blocks, conflicts with none that has a step
pub free_given : (J : Past) (number_of : Option Server → ℕ) (roster : Roster) (p : ℕ) → IsTiedBut J number_of roster (owing p) → IsOpen J p → IsFree roster.rows p → IsClear J [] p
free_given J number_of roster p tied opens free q holds conflict =
    (free_is_free J roster.claimed roster.rows p (whole J roster.claimed roster.rows tied.book) (tied.book.opened p opens)).0 free q
    (holds.0, holds.1, elim holds.2 [ inl some ↦ inl some | inr among ↦ absurd among ]) conflict

pub none_clash_ties : NoneClashTies
none_clash_ties J number_of roster tied clear p q p_holds q_holds conflict =
    (free_ties J number_of roster p tied (p_holds.0, p_holds.1)).0 (λ h blocks. clear p h (tied.book.held p p_holds) blocks) q q_holds conflict

listed_open : (J : Past) (number_of : Option Server → ℕ) (roster : Roster) → IsTied J number_of roster → (k : Queue) (q : ℕ) → StandsIn roster.lists k q → IsOpen J q
listed_open J number_of roster tied k q e = elim (tied.listed k q e).0 [ inl opens ↦ opens | inr over ↦ absurd (false≢true over.0) ]

pub ready_enlisted : ReadyAreEnlisted
ready_enlisted J number_of roster tied q (inl e) = tied.book.opened q (listed_open J number_of roster tied Servers q e)
ready_enlisted J number_of roster tied q (inr e) = tied.book.opened q (listed_open J number_of roster tied Tables q e)

pub known_made : KnownAreMade
known_made J number_of roster debts legal tied q = ((λ e. low (tied.book.enlisted q e)), (λ e. low (tied.listed e.0 q e.1).0))
  where
    low_node : node_of J q ≢ None → q ≤ made J
    low_node some = let x = some_of (node_of J q) some in (made_up_to J (grown_all J legal) q x.0 x.1).1

    low : IsOpen J q ⊎ IsOver J debts.over q → q ≤ made J
    low (inl opens) = low_node opens.0
    low (inr over) = low_node (λ none. false≢true (sym (ap (ended_node J q) none) ∙ over.1))

pub room_ties : RoomTies
room_ties J number_of roster debts lists tied same = record {
  listed = λ k q e. tied.listed k q (back k q e);
  claims = tied.claims;
  waits = λ h q e. tied.waits h q (back (Waits h) q e);
  calls = λ s q e. tied.calls s q (back (Suspended s) q e);
  aside = λ q e. tied.aside q (back Held q e);
  must = λ q idle free busy. elim (tied.must q idle free busy) [ inl there ↦ inl (there.0, subst (IsNode q) (sym (same there.0)) there.1) | inr owed ↦ inr owed ];
  book = tied.book;
}
  where
    back : (k : Queue) (q : ℕ) → StandsIn lists k q → StandsIn roster.lists k q
    back k q e = subst (IsNode q) (same k) e

pub numbers_tie : NumbersTie
numbers_tie J number_of more_of roster debts legal tied storage servers = record {
  listed = tied.listed;
  claims = tied.claims;
  waits = tied.waits;
  calls = λ s q e. let was = tied.calls s q e in (same q (node_of J q) refl ∙ was.0, was.1);
  aside = tied.aside;
  must = tied.must;
  book = tied.book;
}
  where
    by : (q : ℕ) (x : Node) → node_of J q ≡ Some x → (o : Option Server) → called_by x.args ≡ o → more_of o ≡ number_of o
    by q x is None e = storage
    by q x is (Some server) e = servers server ((named_came J legal).args q x is server (called_server x.args server e))

    same : (q : ℕ) (o : Option Node) → node_of J q ≡ o → more_of (called_in (node_of J q)) ≡ number_of (called_in (node_of J q))
    same q None e = ap (λ o. more_of (called_in o)) e ∙ storage ∙ ap (λ o. number_of (called_in o)) (sym e)
    same q (Some x) e = ap (λ o. more_of (called_in o)) e ∙ by q x e (called_by x.args) refl ∙ ap (λ o. number_of (called_in o)) (sym e)

pub debts_rise : DebtsMayRise
debts_rise J number_of roster debts more tied within = record {
  listed = λ k q e. (over_more q (tied.listed k q e).0, (tied.listed k q e).1);
  claims = tied.claims;
  waits = tied.waits;
  calls = λ s q e. ((tied.calls s q e).0, elim (tied.calls s q e).1 [ inl still ↦ inl still | inr on ↦ inr (within.slack q on) ]);
  aside = λ q e. elim (tied.aside q e) [ inl lacks ↦ inl lacks | inr late ↦ inr (within.late q late) ];
  must = λ q idle free busy. elim (tied.must q idle free busy) [ inl there ↦ inl there | inr owed ↦ inr (within.owed q owed) ];
  book = record {
    says = tied.book.says;
    enlisted = λ p e. over_more p (tied.book.enlisted p e);
    opened = tied.book.opened;
    left = λ p e. tied.book.left p (within.over p ∙ e);
    holds = λ p e. elim (tied.book.holds p e) [ inl h ↦ inl h | inr over ↦ inr (sym (within.over p) ∙ over.0, over.1) ];
    held = tied.book.held;
  };
}
  where
    over_more : (q : ℕ) → IsOpen J q ⊎ IsOver J debts.over q → IsOpen J q ⊎ IsOver J more.over q
    over_more q (inl opens) = inl opens
    over_more q (inr over) = inr (sym (within.over q) ∙ over.0, over.1)

pub opening_owes : OpeningOwes
opening_owes bounds J number_of lists rows book opens empty = record {
  listed = λ k q e. absurd (nobody k q e);
  claims = λ q e. absurd e;
  waits = λ h q e. absurd (nobody (Waits h) q e);
  calls = λ s q e. absurd (nobody (Suspended s) q e);
  aside = λ q e. absurd (nobody Held q e);
  must = λ q idle free busy. inr refl;
  book = record {
    says = book.says;
    enlisted = λ p e. inl ((opens p).0 e);
    opened = λ p e. (opens p).1 e;
    left = λ p e. absurd (false≢true e);
    holds = λ p e. inl (book.holds p e);
    held = book.held;
  };
}
  where
    nobody : (k : Queue) (q : ℕ) → StandsIn lists k q → ⊥
    nobody k q e = subst (IsNode q) (empty k) e

-- nobody is enlisted who isn't there
none_enlisted : (J : Past) (number_of : Option Server → ℕ) (roster : Roster) → IsTied J number_of roster → (p : ℕ) → node_of J p ≡ None → row_of roster.rows p ≡ None
none_enlisted J number_of roster tied p none = (same_enlists J J number_of roster tied (λ q. refl)).made p none ∙ ap (row_made p) none

pub enlisting_begins : EnlistingBegins
enlisting_begins entry J number_of roster legal tied = record {
  kept = λ p some. refl;
  made = λ p none lt. none_enlisted J number_of roster tied p none ∙ sym (ap (row_made p) (none_after entry J legal p none (omega (arith, lt))));
  rest = λ p none le. none_enlisted J number_of roster tied p none;
}

pub ancestors_told : AncestorsAreTold
ancestors_told J number_of roster p node tied opens is =
    let row = enlisted_some (row_of roster.rows p) (tied.book.opened p opens) in
    let says = tied.book.says p row.0 row.1 in
    let same = row_pid row.0 row.1 in
    ap above_in row.1 ∙ says.2 ∙ ap (λ (n : Node). n.above) (same_Some says.0 node (sym says.1 ∙ ap (node_of J) same ∙ is))
  where
    row_pid : (row : Row) → row_of roster.rows p ≡ Some row → row.pid ≡ p
    row_pid row e = by roster.rows e
      where
        by : (rows : List Row) → row_of rows p ≡ Some row → row.pid ≡ p
        by [] e = absurd (none-some row e)
        by (first ∷ more) e = elim (cases_eq first.pid p) [
          | inl same ↦ ap (λ (r : Row). r.pid) (sym (same_Some first row (sym (ap (λ b. cond b (Some first) (row_of more p)) (Rattle.std.proofs.lemmas.Bool.eq-eqb first.pid p same)) ∙ e))) ∙ same
          | inr differs ↦ by more (sym (ap (λ b. cond b (Some first) (row_of more p)) (Rattle.std.proofs.lemmas.Bool.ne_eqb first.pid p differs)) ∙ e)
        ]

-- either a timer isn't set, or it was set
idle_or : (waits : ℕ → Bool) (q : ℕ) → (waits q ≡ false) ⊎ (waits q ≡ true)
idle_or waits q = elim (cases_Bool (waits q)) [ inr off ↦ inl off | inl on ↦ inr on ]

pub bounds_owe : BoundsOwe
bounds_owe J number_of roster debts bounds tied = record {
  listed = tied.listed;
  claims = tied.claims;
  waits = tied.waits;
  calls = tied.calls;
  aside = λ q e. inr refl;
  must = λ q idle free busy. elim (idle_or (let old = roster.bounds in old.waits) q) [
    | inl was ↦ elim (tied.must q was free busy) [ inl there ↦ inl there | inr owed ↦ inr (or_left (debts.owed q) (is_woken roster.bounds bounds q) owed) ]
    | inr was ↦ inr (or_right (debts.owed q) (is_woken roster.bounds bounds q) (and_from (let old = roster.bounds in old.waits q) (not (bounds.waits q)) was (ap not idle)))
  ];
  book = tied.book;
}

pub timers_owe : TimersOwe
timers_owe J number_of roster debts waits tied = record {
  listed = tied.listed;
  claims = tied.claims;
  waits = tied.waits;
  calls = tied.calls;
  aside = tied.aside;
  must = λ q idle free busy. elim (idle_or (let old = roster.bounds in old.waits) q) [
    | inl was ↦ elim (tied.must q was free busy) [
      | inl there ↦ inl there
      | inr owed ↦ inr (and_from (not (waits q)) (debts.owed q || is_woken roster.bounds (now q) q) (ap not idle) (or_left (debts.owed q) (is_woken roster.bounds (now q) q) owed))
    ]
    | inr was ↦ inr (and_from (not (waits q)) (debts.owed q || is_woken roster.bounds (now q) q) (ap not idle) (or_right (debts.owed q) (is_woken roster.bounds (now q) q) (and_from (let old = roster.bounds in old.waits q) (not (waits q)) was (ap not idle))))
  ];
  book = tied.book;
}
  where
    now : ℕ → Bounds
    now q = record roster.bounds { waits = waits }
