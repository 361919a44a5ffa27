-- What a procedure may still cost stays, whatever others of the tree, and other trees, do.
use Rattle.hm_model.specs.Fleet.{is_live, same_server}
use Rattle.hm_model.specs.Whereabouts.{crashed_in, moved_by}
use Rattle.hm_costs.proofs.At.{CrashAt, AllCounted, At, CallAt, Counting, Fresh, CallGoes, Lined, OpensAt, TransitAt, call_due, due_at, IsIdle}
use Rattle.hm_costs.proofs.Live.{IsDead, dead_stays}
use Rattle.hm_costs.proofs.Lost.{CrashDue, Moving}
use Rattle.hm_costs.proofs.RegionsLeave.{covered_stays, within_stays}
use Rattle.std.proofs.Common.{◌≡◌, ◌≢◌, ℕ, List, ◌∷◌, true, ◌==◌, Option, Some, None, refl, ap, sym, ◌∙◌, subst, arith, inl, inr, ◌⊎◌}
use Rattle.std.proofs.lemmas.Bool.{cond-false, ne_eqb, or_right, true≢false}
use Rattle.std.proofs.lemmas.Option.{none-some, same_Some}
use Rattle.hm_names.specs.Region.{Region}
use Rattle.hm_names.specs.Server.{Server}
use Rattle.hm_data.specs.declared.answer.Answer.{Answer}
use Rattle.hm_data.specs.declared.answer.Answer.TheVariants as answer_is
use Rattle.hm_data.specs.declared.args.Args.{Args}
use Rattle.hm_data.specs.declared.args.Args.TheVariants as args_are
use Rattle.hm_data.specs.declared.entry.Entry.{Entry}
use Rattle.hm_data.specs.declared.entry.Entry.TheVariants as entry_is
use Rattle.hm_data.specs.declared.place.Place.{Place}
use Rattle.hm_model.specs.Answers.{is_stopped, last_answer, report_of, row_after, row_of}
use Rattle.hm_model.specs.Inputs.{made_at_step}
use Rattle.hm_model.specs.Journal.{Past}
use Rattle.hm_model.specs.Kinds.{first_row_of, kind_of}
use Rattle.hm_model.specs.Rules.{IsLegal}
use Rattle.hm_model.specs.Sheets.{sheet_for}
use Rattle.hm_model.specs.Tree.{Node, node_of}
use Rattle.hm_model.proofs.Grown.{nodes_stay}
use Rattle.hm_model.proofs.CameUp.{fenced_stays}
use Rattle.hm_model.proofs.ValidSheets.{Leads}
use Rattle.hm_model.proofs.Trees.{grown_all, other_answer, other_steps, sheets_stay}
use Rattle.hm_model.proofs.Tops.{ended_top}
use Rattle.hm_costs.proofs.RowsStay.{counts_stay}
use Rattle.hm_costs.proofs.Opening.{opens_holds, place_stays}
use Rattle.hm_costs.proofs.Prices.{AllAt, Going, Spares}
use Rattle.hm_costs.proofs.Spend.{price}
use Rattle.hm_model.specs.Wanted.{goal_in}

spared_last : (entry : Entry) (J : Past) (q : ℕ) → Spares entry q → last_answer (entry ∷ J) q ≡ last_answer J q
spared_last (entry_is.Step pid pick out) J q spares = other_answer pid pick out J q spares
spared_last (entry_is.Base part) J q spares = absurd spares
spared_last entry J q spares = refl

spared_report : (entry : Entry) (J : Past) (q : ℕ) → Spares entry q → report_of (entry ∷ J) q ≡ report_of J q
spared_report (entry_is.Report call told) J q spares = cond-false (q == call.0) (Some told) (report_of J q) (ne_eqb q call.0 spares)
spared_report (entry_is.Base part) J q spares = absurd spares
spared_report entry J q spares = refl

spared_steps : (entry : Entry) (J : Past) (q : ℕ) → Spares entry q → made_at_step (entry ∷ J) q ≡ made_at_step J q
spared_steps (entry_is.Step pid pick out) J q spares = other_steps pid pick out J q spares
spared_steps (entry_is.Base part) J q spares = absurd spares
spared_steps entry J q spares = refl

-- a server that is live stays so while the root goes on
live_stays : (entry : Entry) (J : Past) (r : ℕ) (top : Node) → Going J r top → Going (entry ∷ J) r top → (server : Server) → is_live J server ≡ true → is_live (entry ∷ J) server ≡ true
live_stays (entry_is.Up other) J r top going later server live = or_right (same_server server other) (is_live J server) live
live_stays (entry_is.Down other) J r top going later server live =
    absurd (true≢false (sym (later.quiet.1 (λ none. none-some top (sym none ∙ going.is_top))) ∙ ended_top J r top going.is_top going.at_top ∙ going.unended))
live_stays (entry_is.Base part) J r top going later server live = absurd (none-some top later.is_top)
live_stays entry J r top going later server live = live

module _ (entry : Entry) (J : Past) (legal : IsLegal (entry ∷ J)) (r : ℕ) (top : Node) (going : Going J r top) (later : Going (entry ∷ J) r top) (stepped : last_answer J r ≢ None) (all : AllAt At Fresh price J r) (q : ℕ) (x : Node) (is : node_of J q ≡ Some x) (of : x.root ≡ r) (spares : Spares entry q) where
  last_stays : last_answer (entry ∷ J) q ≡ last_answer J q
  last_stays = spared_last entry J q spares

  row_stays : row_of (entry ∷ J) q x ≡ row_of J q x
  row_stays = ap (row_after (first_row_of x.args)) last_stays

  opens_stays : (region : Region) → moved_by x.args ≡ Some region → (row_of J q x ≡ 1) ⊎ (row_of J q x ≡ 2) → OpensAt J region → OpensAt (entry ∷ J) region
  opens_stays region m at o = (o.0, ap (λ (p : Place). p.server) (place_stays entry J legal q x region is m (opens_holds J legal.0 q x region is m at) spares) ∙ o.1, live_stays entry J r top going later o.0 o.2)

  transit_stays : (budget : ℕ) (region : Region) → moved_by x.args ≡ Some region → TransitAt J q x region budget → TransitAt (entry ∷ J) q x region budget
  transit_stays budget region m at = record {
    due = λ runs. let due = at.due (ap is_stopped (sym last_stays) ∙ runs) in let same = ap (due_at (goal_in x.args)) row_stays in omega (arith, due, same);
    first = λ five. let f = at.first (sym row_stays ∙ five) in (last_stays ∙ f.0, f.1);
    opening = λ h. elim h [
      | inl one ↦ opens_stays region m (inl (sym row_stays ∙ one)) (at.opening (inl (sym row_stays ∙ one)))
      | inr two ↦ opens_stays region m (inr (sym row_stays ∙ two)) (at.opening (inr (sym row_stays ∙ two)))
    ];
    waiting = λ two.
        let w = at.waiting (sym row_stays ∙ two) in
        let since = spared_steps entry J q spares in
        let lt = w.4 in
        (last_stays ∙ w.0, w.1, w.2, nodes_stay entry J legal w.1 _ w.3, omega (arith, since, lt));
  }

  goes_stays : (args : Args) → CallGoes J q x args → CallGoes (entry ∷ J) q x args
  goes_stays (args_are.AssignCall region server) h = (live_stays entry J r top going later server h.0, λ stops. last_stays ∙ h.1 (ap is_stopped (sym last_stays) ∙ stops))
  goes_stays (args_are.FenceCall server) h = (λ told e. fenced_stays entry J server (h.0 told (sym (spared_report entry J q spares) ∙ e)), λ stops. fenced_stays entry J server (h.1 (ap is_stopped (sym last_stays) ∙ stops)))
  goes_stays (args_are.LayoutCall root) h = h
  goes_stays args h = tt

  call_stays : (budget : ℕ) → CallAt J q x budget → CallAt (entry ∷ J) q x budget
  call_stays budget at = record {
    due = let due = at.due in let one = ap (λ o. call_due o (report_of (entry ∷ J) q)) last_stays in let two = ap (call_due (last_answer J q)) (spared_report entry J q spares) in omega (arith, due, one, two);
    clean = λ told e. at.clean told (sym (spared_report entry J q spares) ∙ e);
    goes = goes_stays x.args at.goes;
  }

  lined_stays : (budget : ℕ) → Lined J q x budget → Lined (entry ∷ J) q x budget
  lined_stays budget at = record {
    lines = at.lines;
    n = at.n;
    leads = λ sheet found. subst (λ n. Leads sheet.rows n at.lines) (sym row_stays) (at.leads sheet (ap (λ s. sheet_for s (kind_of x.args)) (sym (sheets_stay entry J legal q x is)) ∙ found));
    enough = at.enough;
    checks = elim at.checks [ inl first ↦ inl (last_stays ∙ first.0, first.1) | inr none ↦ inr none ];
    later = at.later;
    known = elim at.known [
      | inl off ↦ inl off
      | inr c ↦ inr (record { counter = c.counter; top = c.top; idle = subst IsIdle (sym last_stays) c.idle; soon = c.soon; counted = counted_stay c })
    ];
  }
    where
      counted_stay : Counting J q x at.n at.lines → AllCounted (entry ∷ J) x.args at.n at.lines
      counted_stay c =
          let here : q ≡ r = sym ((grown_all J legal.0).tops q x is c.top) ∙ of in
          let one : top ≡ x = same_Some top x (sym going.is_top ∙ ap (node_of J) (sym here) ∙ is) in
          let own : Going J q x = subst (Going J q) one (subst (λ k. Going J k top) (sym here) going) in
          counts_stay J q x own (λ none. stepped (ap (last_answer J) (sym here) ∙ none)) c.counter c.idle entry legal spares at.n at.lines c.counted

  moving_stays : (server : Server) (rest : List Region) → IsDead J server → Moving J q x server rest → Moving (entry ∷ J) q x server rest
  moving_stays server rest dead (inl fencing) = inl (within_stays entry J legal q x is server dead rest fencing.0, fencing.1, nodes_stay entry J legal fencing.1 _ fencing.2)
  moving_stays server rest dead (inr moving) = inr (fenced_stays entry J server moving.0, covered_stays J r all q x of server dead moving.0 rest entry legal is moving.1)

  crash_stays : (budget : ℕ) (server : Server) → crashed_in x.args ≡ Some server → CrashAt J q x server budget → CrashAt (entry ∷ J) q x server budget
  crash_stays budget server c at = record {
    dead = dead_stays entry J legal server at.dead;
    due = subst (CrashDue (entry ∷ J) q x server budget) (sym last_stays) (by (last_answer J q) at.due);
  }
    where
      by : (last : Option Answer) → CrashDue J q x server budget last → CrashDue (entry ∷ J) q x server budget last
      by None d = (d.0, d.1, within_stays entry J legal q x is server at.dead d.0 d.2)
      by (Some (answer_is.Wait n)) d = (d.0, d.1, d.2, moving_stays server d.1 at.dead d.3)
      by (Some answer) d = d

  pub all_stays : (budget : ℕ) → At J q x budget → At (entry ∷ J) q x budget
  all_stays budget at = record {
    lined = λ exact runs. lined_stays budget (at.lined exact (ap is_stopped (sym last_stays) ∙ runs));
    moves = λ region m. transit_stays budget region m (at.moves region m);
    calls = λ verb v. call_stays budget (at.calls verb v);
    crash = λ server c. crash_stays budget server c (at.crash server c);
  }
