-- What a tied state tells, and how it begins, goes on and is done.
use Rattle.std.proofs.Common.{List, None, Option, Some, [], ap, arith, cond, false, inl, inr, not, refl, subst, sym, true, ℕ, ◌&&◌, ◌+◌, ◌==◌, ◌∙◌, ◌∷◌, ◌≡◌, ◌≢◌, ◌≤◌, ◌⊎◌}
use Rattle.std.proofs.lemmas.Bool.{and_parts, cases_eq, cases_lt, false≢true, not-true, or_cases, true≢false}
use Rattle.std.proofs.lemmas.Option.{none-some, same_Some}
use Rattle.hm_names.specs.Server.{Server}
use Rattle.hm_data.specs.Numbers.{told_number}
use Rattle.hm_data.specs.declared.args.Args.{Args}
use Rattle.hm_data.specs.declared.args.Args.TheVariants as args_are
use Rattle.hm_data.specs.declared.call.Told.TheVariants as told_is
use Rattle.hm_data.specs.declared.entry.Entry.{Entry}
use Rattle.hm_data.specs.declared.entry.Entry.TheVariants as entry_is
use Rattle.hm_locks.specs.Book.{IsFree, Row, above_in, new_row, row_of}
use Rattle.hm_locks.proofs.Ties.{free_is_free}
use Rattle.hm_model.specs.Fleet.{fences_by, fences_if, is_fenced}
use Rattle.hm_model.specs.Holding.{IsFree as IsClear}
use Rattle.hm_model.specs.Inputs.{fenced_if}
use Rattle.hm_model.specs.Journal.{Past}
use Rattle.hm_model.specs.Locks.{asks}
use Rattle.hm_model.specs.Phase.{ended_node}
use Rattle.hm_model.specs.Tree.{Node, made, node_of}
use Rattle.hm_model.specs.Whereabouts.{called_by}
use Rattle.hm_model.proofs.CameUp.{named_came}
use Rattle.hm_model.proofs.Grown.{grown_all, made_up_to}
use Rattle.hm_model.proofs.NameTies.{same_server-is}
use Rattle.hm_model.specs.Rules.{IsLegal}
use Rattle.hm_model.proofs.Trees.{down_rooted, grown_all as grown_of, node_same, some_of, submit_rooted, undo_rooted}
use Rattle.hm_model.proofs.CallSteps.{called_server}
use Rattle.hm_sched.specs.Queues.{StandsIn}
use Rattle.hm_sched.specs.declared.queue.Queue.{Queue}
use Rattle.hm_sched.specs.declared.queue.Queue.TheVariants.{Held, Servers, Suspended, Tables, Waits}
use Rattle.hm_lists.specs.Chains.{IsIn as IsNode}
use Rattle.hm_tied.specs.Calls.{owing}
use Rattle.hm_tied.specs.Tied.{IsOpen, IsOver, IsTied, IsTiedBut, Roster, called_in}
use Rattle.hm_tied.specs.Entries.{row_made}
use Rattle.hm_tied.specs.Uses.{AncestorsAreTold, DebtsMayRise, EnlistingBegins, EnlistingEnds, EnlistingGoesOn, FencesOne, FreeTies, KnownAreMade, NoneClashTies, NumbersTie, OpeningOwes, ReadyAreEnlisted, RoomTies}
use Rattle.hm_tied.proofs.Calls.{whole}
use Rattle.hm_tied.proofs.Entering.{same_enlists}
use Rattle.hm_tied.proofs.Rows.{enlisted_some, row_here, row_there}

pub free_ties : FreeTies
free_ties J number_of roster p tied opens = free_is_free J roster.claimed roster.rows p (whole J roster.claimed roster.rows tied.book) (tied.book.opened p opens)

-- one that is owed alone, and that nobody who holds blocks, conflicts with none that has a step
pub free_given : (J : Past) (number_of : Option Server → ℕ) (roster : Roster) (p : ℕ) → IsTiedBut J number_of roster (owing p) → IsOpen J p → IsFree roster.rows p → IsClear J [] p
free_given J number_of roster p tied opens free q holds conflict =
    (free_is_free J roster.claimed roster.rows p (whole J roster.claimed roster.rows tied.book) (tied.book.opened p opens)).0 free q
    (holds.0, holds.1, elim holds.2 [ inl some ↦ inl some | inr among ↦ absurd among ]) conflict

pub none_clash_ties : NoneClashTies
none_clash_ties J number_of roster tied clear p q p_holds q_holds conflict =
    (free_ties J number_of roster p tied (p_holds.0, p_holds.1)).0 (λ h blocks. clear p h (tied.book.held p p_holds) blocks) q q_holds conflict

listed_open : (J : Past) (number_of : Option Server → ℕ) (roster : Roster) → IsTied J number_of roster → (k : Queue) (q : ℕ) → StandsIn roster.lists k q → IsOpen J q
listed_open J number_of roster tied k q e = elim (tied.listed k q e).0 [ inl opens ↦ opens | inr over ↦ absurd (false≢true over.0) ]

pub ready_enlisted : ReadyAreEnlisted
ready_enlisted J number_of roster tied q (inl e) = tied.book.opened q (listed_open J number_of roster tied Servers q e)
ready_enlisted J number_of roster tied q (inr e) = tied.book.opened q (listed_open J number_of roster tied Tables q e)

pub known_made : KnownAreMade
known_made J number_of roster debts legal tied q = ((λ e. low (tied.book.enlisted q e)), (λ e. low (tied.listed e.0 q e.1).0))
  where
    low_node : node_of J q ≢ None → q ≤ made J
    low_node some = let x = some_of (node_of J q) some in (made_up_to J (grown_all J legal) q x.0 x.1).1

    low : IsOpen J q ⊎ IsOver J debts.over q → q ≤ made J
    low (inl opens) = low_node opens.0
    low (inr over) = low_node (λ none. false≢true (sym (ap (ended_node J q) none) ∙ over.1))

pub room_ties : RoomTies
room_ties J number_of roster debts lists tied same = record {
  listed = λ k q e. tied.listed k q (back k q e);
  claims = tied.claims;
  waits = λ h q e. tied.waits h q (back (Waits h) q e);
  calls = λ s q e. tied.calls s q (back (Suspended s) q e);
  aside = λ q e. tied.aside q (back Held q e);
  must = λ q free busy. elim (tied.must q free busy) [ inl there ↦ inl (there.0, subst (IsNode q) (sym (same there.0)) there.1) | inr owed ↦ inr owed ];
  book = tied.book;
}
  where
    back : (k : Queue) (q : ℕ) → StandsIn lists k q → StandsIn roster.lists k q
    back k q e = subst (IsNode q) (same k) e

pub numbers_tie : NumbersTie
numbers_tie J number_of more_of roster debts legal tied storage servers = record {
  listed = tied.listed;
  claims = tied.claims;
  waits = tied.waits;
  calls = λ s q e. let was = tied.calls s q e in (same q (node_of J q) refl ∙ was.0, was.1);
  aside = tied.aside;
  must = tied.must;
  book = tied.book;
}
  where
    by : (q : ℕ) (x : Node) → node_of J q ≡ Some x → (o : Option Server) → called_by x.args ≡ o → more_of o ≡ number_of o
    by q x is None e = storage
    by q x is (Some server) e = servers server ((named_came J legal).args q x is server (called_server x.args server e))

    same : (q : ℕ) (o : Option Node) → node_of J q ≡ o → more_of (called_in (node_of J q)) ≡ number_of (called_in (node_of J q))
    same q None e = ap (λ o. more_of (called_in o)) e ∙ storage ∙ ap (λ o. number_of (called_in o)) (sym e)
    same q (Some x) e = ap (λ o. more_of (called_in o)) e ∙ by q x e (called_by x.args) refl ∙ ap (λ o. number_of (called_in o)) (sym e)

pub debts_rise : DebtsMayRise
debts_rise J number_of roster debts more tied within = record {
  listed = λ k q e. (over_more q (tied.listed k q e).0, (tied.listed k q e).1);
  claims = tied.claims;
  waits = tied.waits;
  calls = λ s q e. ((tied.calls s q e).0, elim (tied.calls s q e).1 [ inl still ↦ inl still | inr on ↦ inr (within.slack q on) ]);
  aside = λ q e. elim (tied.aside q e) [ inl lacks ↦ inl lacks | inr late ↦ inr (within.late late) ];
  must = λ q free busy. elim (tied.must q free busy) [ inl there ↦ inl there | inr owed ↦ inr (within.owed q owed) ];
  book = record {
    says = tied.book.says;
    enlisted = λ p e. over_more p (tied.book.enlisted p e);
    opened = tied.book.opened;
    left = λ p e. tied.book.left p (within.over p ∙ e);
    holds = λ p e. elim (tied.book.holds p e) [ inl h ↦ inl h | inr over ↦ inr (sym (within.over p) ∙ over.0, over.1) ];
    held = tied.book.held;
  };
}
  where
    over_more : (q : ℕ) → IsOpen J q ⊎ IsOver J debts.over q → IsOpen J q ⊎ IsOver J more.over q
    over_more q (inl opens) = inl opens
    over_more q (inr over) = inr (sym (within.over q) ∙ over.0, over.1)

pub opening_owes : OpeningOwes
opening_owes J number_of lists rows book opens empty = record {
  listed = λ k q e. absurd (nobody k q e);
  claims = λ q e. absurd e;
  waits = λ h q e. absurd (nobody (Waits h) q e);
  calls = λ s q e. absurd (nobody (Suspended s) q e);
  aside = λ q e. absurd (nobody Held q e);
  must = λ q free busy. inr refl;
  book = record {
    says = book.says;
    enlisted = λ p e. inl ((opens p).0 e);
    opened = λ p e. (opens p).1 e;
    left = λ p e. absurd (false≢true e);
    holds = λ p e. inl (book.holds p e);
    held = book.held;
  };
}
  where
    nobody : (k : Queue) (q : ℕ) → StandsIn lists k q → ⊥
    nobody k q e = subst (IsNode q) (empty k) e

-- a call that fences is one to fence
fences_named : (args : Args) (s : Server) → fences_by args s ≡ true → args ≡ args_are.FenceCall s
fences_named (args_are.FenceCall other) s e = ap (λ n. args_are.FenceCall n) (sym (same_server-is s other e))
fences_named args s e = absurd (false≢true e)

fences_there : (o : Option Node) (s : Server) → fences_if o s ≡ true → (node : Node) × (o ≡ Some node) × (node.args ≡ args_are.FenceCall s)
fences_there None s e = absurd (false≢true e)
fences_there (Some node) s e = (node, refl, fences_named node.args s e)

pub fences_one : FencesOne
fences_one call told J p on = by (called_in (node_of J p)) refl on
  where
    by : (o : Option Server) → called_in (node_of J p) ≡ o → (fenced_if (entry_is.Report call told ∷ J) o && not (fenced_if J o)) ≡ true
        → (node : Node) × (server : Server) × (node_of J call.0 ≡ Some node) × (node.args ≡ args_are.FenceCall server) × (called_in (node_of J p) ≡ Some server)
    by None is e = absurd (false≢true e)
    by (Some s) is e =
        let parts = and_parts (fenced_if (entry_is.Report call told ∷ J) (Some s)) (not (is_fenced J s)) e in
        let heard : ((told_number told == told_number told_is.Fenced) && fences_if (node_of J call.0) s) ≡ true = elim (or_cases ((told_number told == told_number told_is.Fenced) && fences_if (node_of J call.0) s) (is_fenced J s) parts.0) [
          | inl here ↦ here
          | inr was ↦ absurd (true≢false (sym was ∙ not-true (is_fenced J s) parts.1))
        ] in
        let there = fences_there (node_of J call.0) s (and_parts (told_number told == told_number told_is.Fenced) (fences_if (node_of J call.0) s) heard).1 in
        (there.0, s, there.1, there.2, is)

-- nobody is enlisted who isn't there
none_enlisted : (J : Past) (number_of : Option Server → ℕ) (roster : Roster) → IsTied J number_of roster → (p : ℕ) → node_of J p ≡ None → row_of roster.rows p ≡ None
none_enlisted J number_of roster tied p none = (same_enlists J J number_of roster tied (λ q. refl)).made p none ∙ ap (row_made p) none

-- an entry makes none with a number of those before
pub none_after : (entry : Entry) (J : Past) → IsLegal (entry ∷ J) → (p : ℕ) → node_of J p ≡ None → p ≤ made J → node_of (entry ∷ J) p ≡ None
none_after (entry_is.Submit nonce request) J legal p none le = (submit_rooted nonce request J (grown_of J legal.0)).old p le ∙ none
none_after (entry_is.Step pid pick out) J legal p none le = node_same pid pick out J p le ∙ none
none_after (entry_is.Undo pid row out) J legal p none le = (undo_rooted pid row out J (grown_of J legal.0)).old p le ∙ none
none_after (entry_is.Down server) J legal p none le = (down_rooted server J (grown_of J legal.0)).old p le ∙ none
none_after (entry_is.Base part) J legal p none le = refl
none_after entry J legal p none le = none

pub enlisting_begins : EnlistingBegins
enlisting_begins entry J number_of roster legal tied = record {
  kept = λ p some. refl;
  made = λ p none lt. none_enlisted J number_of roster tied p none ∙ sym (ap (row_made p) (none_after entry J legal p none (omega (arith, lt))));
  rest = λ p none le. none_enlisted J number_of roster tied p none;
}

pub enlisting_goes_on : EnlistingGoesOn
enlisting_goes_on J after old rows new n node parent below fresh is above changed = record {
  kept = λ p some. there p (λ same. some (ap (node_of J) (sym same) ∙ fresh)) ∙ below.kept p some;
  made = λ p none lt. elim (cases_eq n p) [
    | inl same ↦ subst (λ k. row_of new k ≡ row_made k (node_of after k)) same own
    | inr differs ↦ there p differs ∙ below.made p none (omega (arith, lt, differs))
  ];
  rest = λ p none le. there p (λ same. omega (arith, le, same)) ∙ below.rest p none (omega (arith, le));
}
  where
    there : (p : ℕ) → n ≢ p → row_of new p ≡ row_of rows p
    there p differs = row_there rows new n (Some (new_row rows n parent (asks node.args))) changed p differs

    own : row_of new n ≡ row_made n (node_of after n)
    own = row_here rows new n (Some (new_row rows n parent (asks node.args))) changed n refl ∙ ap (λ l. Some (record { pid = n; above = l; asks = asks node.args; holds = false })) above ∙ ap (row_made n) (sym is)

pub enlisting_ends : EnlistingEnds
enlisting_ends J after old new legal below = record {
  kept = below.kept;
  made = λ p none. elim (cases_lt p (made after + 1)) [
    | inl lt ↦ below.made p none lt
    | inr le ↦ below.rest p none le ∙ sym (ap (row_made p) ((grown_all after legal).numbered p (omega (arith, le))))
  ];
}

pub ancestors_told : AncestorsAreTold
ancestors_told J number_of roster p node tied opens is =
    let row = enlisted_some (row_of roster.rows p) (tied.book.opened p opens) in
    let says = tied.book.says p row.0 row.1 in
    let same = row_pid row.0 row.1 in
    ap above_in row.1 ∙ says.2 ∙ ap (λ (n : Node). n.above) (same_Some says.0 node (sym says.1 ∙ ap (node_of J) same ∙ is))
  where
    row_pid : (row : Row) → row_of roster.rows p ≡ Some row → row.pid ≡ p
    row_pid row e = by roster.rows e
      where
        by : (rows : List Row) → row_of rows p ≡ Some row → row.pid ≡ p
        by [] e = absurd (none-some row e)
        by (first ∷ more) e = elim (cases_eq first.pid p) [
          | inl same ↦ ap (λ (r : Row). r.pid) (sym (same_Some first row (sym (ap (λ b. cond b (Some first) (row_of more p)) (Rattle.std.proofs.lemmas.Bool.eq-eqb first.pid p same)) ∙ e))) ∙ same
          | inr differs ↦ by more (sym (ap (λ b. cond b (Some first) (row_of more p)) (Rattle.std.proofs.lemmas.Bool.ne_eqb first.pid p differs)) ∙ e)
        ]
