-- After an entry.
use Rattle.std.proofs.Common.{◌≡◌, ◌≢◌, ℕ, ◌+◌, ◌<◌, ◌≤◌, List, ◌∷◌, Option, Some, None, Bool, true, false, ◌||◌, is_none, nat_lt, nat_le, refl, inl, inr, ap, sym, ◌∙◌, subst, arith}
use Rattle.std.proofs.lemmas.Bool.{and_parts, cases_Bool, false≢true, leb-true, ltb-true, or_cases}
use Rattle.std.proofs.lemmas.Option.{none-some, same_Some}
use Rattle.hm_names.specs.Server.{Server}
use Rattle.hm_names.specs.declared.pid.Pid.{Pid}
use Rattle.hm_data.specs.declared.args.Args.{Args}
use Rattle.hm_data.specs.declared.args.Args.TheVariants as args_are
use Rattle.hm_data.specs.declared.call.Told.{Told}
use Rattle.hm_data.specs.declared.entry.Entry.{Entry}
use Rattle.hm_data.specs.declared.entry.Entry.TheVariants as entry_is
use Rattle.hm_model.specs.Journal.{Past}
use Rattle.hm_model.specs.Rules.{IsLegal}
use Rattle.hm_model.specs.Tree.{Node, made, node_of}
use Rattle.hm_model.specs.Reports.{verb_of}
use Rattle.hm_model.proofs.Calls.{calls_own}
use Rattle.hm_model.proofs.Grown.{grown_all, made_up_to}
use Rattle.hm_model.proofs.Trees.{some_of}
use Rattle.hm_sched.specs.Effects.{Wakes, WakesOne}
use Rattle.hm_sched.specs.declared.queue.Queue.TheVariants.{Suspended}
use Rattle.hm_tied.specs.Calls.{without}
use Rattle.hm_tied.specs.Entries.{is_fenced_by, is_new, report_debts}
use Rattle.hm_tied.specs.Tied.{Debts, IsTied, IsTiedBut, Roster}
use Rattle.hm_tied.proofs.Calls.{wake_all_owes, wake_owes}
use Rattle.hm_tied.proofs.Going.{busy_open}
use Rattle.hm_tied.proofs.Others.{report_owes}
use Rattle.hm_tied.proofs.Paid.{fence_pays, owed_told, report_pays}
use Rattle.hm_tied.proofs.Uses.{fences_one}
use Rattle.hm_roster.specs.Behind.{IsHeard, fenced_in, number_of_some, server_to_fence}
use Rattle.hm_roster.specs.Roster.{Follows, IsSameBut, claims_on, lists_on, number_on, outside, pids_on, roster_of, rows_on, paid_from}
use Rattle.hm_roster.specs.declared.desk.Desk.{Desk}
use Rattle.hm_roster.proofs.Desks.{below_still}
use Rattle.hm_roster.proofs.Numbers.{made_behind}

-- who isn't there
gone : (o : Option Node) → is_none o ≡ true → o ≡ None
gone None e = refl
gone (Some x) e = absurd (false≢true e)

-- what an entry made was looked at
module _ (J : Past) (entry : Entry) (legal : IsLegal (entry ∷ J)) where
  pub new_below : (q : ℕ) → is_new J q ≡ true → node_of (entry ∷ J) q ≢ None → (made J < q) × (q ≤ made (entry ∷ J))
  new_below q new there =
      let x = some_of (node_of (entry ∷ J) q) there in
      (made_behind entry J q x.0 (gone (node_of J q) new) x.1, (made_up_to (entry ∷ J) (grown_all (entry ∷ J) legal) q x.0 x.1).1)

  pub new_paid : (n : Option Server → ℕ) (roster : Roster) (debts : Debts) (low high : ℕ) → low ≡ made J + 1 → high ≡ made (entry ∷ J) + 1 → debts.owed ≡ is_new J
      → IsTiedBut (entry ∷ J) n roster (paid_from debts low high) → IsTiedBut (entry ∷ J) n roster (record debts { owed = λ q. false; slack = outside debts.slack low high })
  new_paid n roster debts low high from to owed tied = owed_told (entry ∷ J) n roster (paid_from debts low high) (λ q. false) tied (λ q on free busy. absurd (none q on (busy_open (entry ∷ J) legal q busy).0))
    where
      none : (q : ℕ) → outside debts.owed low high q ≡ true → node_of (entry ∷ J) q ≢ None → ⊥
      none q on there =
          let parts = and_parts (debts.owed q) (nat_lt q low || nat_le high q) on in
          let at = new_below q (sym (ap (λ (test : ℕ → Bool). test q) owed) ∙ parts.0) there in
          elim (or_cases (nat_lt q low) (nat_le high q) parts.1) [
            | inl below ↦ (let l = ltb-true q low below in omega (arith, l, at, from))
            | inr over ↦ (let h = leb-true high q over in omega (arith, h, at, to))
          ]

-- who called was made
pub reported_known : (call : Pid) (told : Told) (J : Past) → IsLegal (entry_is.Report call told ∷ J) → call.0 ≤ made J
reported_known call told J legal =
    let verb = some_of (verb_of J call.0) legal.1.1.0.0 in
    let own = calls_own J legal.0 call.0 verb.0 verb.1 in
    (made_up_to J (grown_all J legal.0) call.0 own.0 own.1).1

-- after a report of a call that fences nobody
pub heard_one : (call : Pid) (told : Told) (J : Past) → IsLegal (entry_is.Report call told ∷ J) → (n : Option Server → ℕ) (roster : Roster) (lists : List (List ℕ)) → IsTied J n roster → WakesOne roster.lists lists call.0
    → ((node : Node) (server : Server) → node_of J call.0 ≡ Some node → node.args ≡ args_are.FenceCall server → ⊥) → IsTied (entry_is.Report call told ∷ J) n (record roster { lists = lists })
heard_one call told J legal n roster lists tied wakes none =
    report_pays call told J n (record roster { lists = lists }) fenced
    (wake_owes (entry_is.Report call told ∷ J) n roster (report_debts J (entry_is.Report call told ∷ J) call.0) lists call.0 (report_owes call told J n roster legal tied) wakes)
  where
    fenced : (q : ℕ) → is_fenced_by J (entry_is.Report call told ∷ J) (node_of J q) ≡ false
    fenced q = elim (cases_Bool (is_fenced_by J (entry_is.Report call told ∷ J) (node_of J q))) [
      | inl on ↦ (let found = fences_one call told J q on in absurd (none found.0 found.1 found.2 found.3))
      | inr off ↦ off
    ]

-- after a report of a call to fence a server
pub heard_all : (call : Pid) (told : Told) (J : Past) → IsLegal (entry_is.Report call told ∷ J) → (n : Option Server → ℕ) (roster : Roster) (between lists : List (List ℕ)) (number : ℕ) → IsTied J n roster → WakesOne roster.lists between call.0
    → Wakes between lists (Suspended number) → ((node : Node) × (server : Server) × (node_of J call.0 ≡ Some node) × (node.args ≡ args_are.FenceCall server) × (number ≡ n (Some server)))
    → IsTied (entry_is.Report call told ∷ J) n (record roster { lists = lists })
heard_all call told J legal n roster between lists number tied one all fences =
    fence_pays call told J n (record roster { lists = lists }) fences.0 fences.1 fences.2 fences.3
    (wake_all_owes (entry_is.Report call told ∷ J) n (record roster { lists = between }) (let debts = report_debts J (entry_is.Report call told ∷ J) call.0 in record debts { slack = without debts.slack call.0 }) lists (n (Some fences.1))
    (wake_owes (entry_is.Report call told ∷ J) n roster (report_debts J (entry_is.Report call told ∷ J) call.0) between call.0 (report_owes call told J n roster legal tied) one)
    (subst (λ s. Wakes between lists (Suspended s)) fences.4 all))

-- who is to be fenced is named
named : (args : Args) (server : Server) → server_to_fence args ≡ Some server → args ≡ args_are.FenceCall server
named (args_are.Root request first) server e = absurd (none-some server e)
named (args_are.Transit region goal to) server e = absurd (none-some server e)
named (args_are.Crash other) server e = absurd (none-some server e)
named (args_are.AddRegions table first bounds) server e = absurd (none-some server e)
named (args_are.DropRegions table ids) server e = absurd (none-some server e)
named (args_are.AssignCall region other) server e = absurd (none-some server e)
named (args_are.CloseCall region other) server e = absurd (none-some server e)
named (args_are.FenceCall other) server e = ap (λ s. args_are.FenceCall s) (same_Some other server e)
named (args_are.LayoutCall root) server e = absurd (none-some server e)
named (args_are.SweepLayout root) server e = absurd (none-some server e)

-- where a number is told there is a fence
fences : (o : Option Node) (desk : Desk) (number : ℕ) → Some number ≡ number_of_some desk (fenced_in o)
    → (node : Node) × (server : Server) × (o ≡ Some node) × (node.args ≡ args_are.FenceCall server) × (number ≡ number_on desk (Some server))
fences None desk number e = absurd (none-some number (sym e))
fences (Some node) desk number e = by (server_to_fence node.args) refl e
  where
    by : (f : Option Server) → server_to_fence node.args ≡ f → Some number ≡ number_of_some desk f
        → (x : Node) × (server : Server) × (Some node ≡ Some x) × (x.args ≡ args_are.FenceCall server) × (number ≡ number_on desk (Some server))
    by None is e = absurd (none-some number (sym e))
    by (Some server) is e = (node, server, refl, named node.args server is, same_Some number (number_on desk (Some server)) e)

-- where none is told there is none
fences_none : (o : Option Node) (desk : Desk) → None ≡ number_of_some desk (fenced_in o) → (node : Node) (server : Server) → o ≡ Some node → node.args ≡ args_are.FenceCall server → ⊥
fences_none o desk none node server is args = none-some (number_on desk (Some server)) (none ∙ ap (λ x. number_of_some desk (fenced_in x)) is ∙ ap (λ a. number_of_some desk (server_to_fence a)) args)

module _ (J : Past) (legal : IsLegal J) (call : Pid) (desk : Desk) (heard : IsHeard J call desk) where
  -- who called has room
  pub called_known : call.0 < pids_on desk
  called_known =
      let le = reported_known call heard.0 heard.1.0 (subst IsLegal heard.1.1 legal) in
      let room = heard.1.2.room in
      omega (arith, le, room)

  -- once it was woken nothing is left to do, where it fences nobody
  pub tied_one : (lists : List (List ℕ)) → WakesOne (lists_on desk) lists call.0 → None ≡ number_of_some desk (fenced_in (node_of J call.0)) → IsTied J (number_on desk) (record { claimed = claims_on desk; lists = lists; rows = rows_on desk })
  tied_one lists one none =
      let none_is = subst (λ K. None ≡ number_of_some desk (fenced_in (node_of K call.0))) heard.1.1 none in
      subst (λ K. IsTied K (number_on desk) (record { claimed = claims_on desk; lists = lists; rows = rows_on desk })) (sym heard.1.1)
      (heard_one call heard.0 heard.1.0 (subst IsLegal heard.1.1 legal) (number_on desk) (roster_of desk) lists heard.1.2.tied one (fences_none (node_of heard.1.0 call.0) desk none_is))

  -- and where it fences a server, once those were woken too whose calls went there
  pub tied_all : (between lists : List (List ℕ)) (number : ℕ) → WakesOne (lists_on desk) between call.0 → Wakes between lists (Suspended number) → Some number ≡ number_of_some desk (fenced_in (node_of J call.0))
      → IsTied J (number_on desk) (record { claimed = claims_on desk; lists = lists; rows = rows_on desk })
  tied_all between lists number one all some =
      let some_is = subst (λ K. Some number ≡ number_of_some desk (fenced_in (node_of K call.0))) heard.1.1 some in
      subst (λ K. IsTied K (number_on desk) (record { claimed = claims_on desk; lists = lists; rows = rows_on desk })) (sym heard.1.1)
      (heard_all call heard.0 heard.1.0 (subst IsLegal heard.1.1 legal) (number_on desk) (roster_of desk) between lists number heard.1.2.tied one all (fences (node_of heard.1.0 call.0) desk number some_is))

  -- so it follows
  pub heard_follows : (new : Desk) → IsSameBut desk new → IsTied J (number_on new) (roster_of new) → Follows J new
  heard_follows new same tied = record {
    tied = tied;
    room = subst (λ (k : ℕ). made J < k) (sym same.pids) (subst (λ K. made K < pids_on desk) (sym heard.1.1) heard.1.2.room);
    below = below_still desk new same heard.1.2.below;
  }
