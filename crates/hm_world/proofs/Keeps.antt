-- A world stays sound after each of its calls.
use Rattle.std.proofs.Common.{◌≡◌, ℕ, ◌∷◌, ◌++◌, [], Bool, true, false, None, Some, List, refl, sym, ap, ◌∙◌, inl, inr, subst}
use Rattle.std.proofs.Math.Path.{fun_ext}
use Rattle.std.proofs.lemmas.Bool.{false≢true}
use Rattle.std.proofs.lemmas.Option.{none-some, same_Some}
use Rattle.hm_names.specs.Server.{Server}
use Rattle.hm_data.specs.declared.call.Call.{Call}
use Rattle.hm_data.specs.declared.call.Peer.{Peer}
use Rattle.hm_data.specs.declared.call.Peer.TheVariants as peer_is
use Rattle.hm_data.specs.declared.call.ReportMsg.{ReportMsg}
use Rattle.hm_data.specs.declared.entry.Entry.{Entry}
use Rattle.hm_data.specs.declared.entry.Entry.TheVariants as entry_is
use Rattle.hm_hall.specs.Recording.{Recording}
use Rattle.hm_model.specs.Fleet.{came_up}
use Rattle.hm_model.specs.Journal.{back}
use Rattle.hm_model.specs.Laws.{is_part}
use Rattle.hm_model.specs.Locks.{IsIn}
use Rattle.hm_model.specs.Reports.{call_of, peer_in}
use Rattle.hm_model.specs.Rules.{IsLegal}
use Rattle.hm_server.specs.Actors.{IsStorage}
use Rattle.hm_exec.specs.Hearing.{report_entry}
use Rattle.hm_exec.specs.Moment.{IsAdded, Moment, past_of}
use Rattle.hm_fleet.specs.Fleet.{Delivers, FleetView, outside_of}
use Rattle.hm_world_model.specs.Measure.{calls_made}
use Rattle.hm_world_model.specs.Outside.{armed, delivered, died, nobody, report_to, runs, started, with_report, with_sent}
use Rattle.hm_world_model.specs.Runs.{IsTrueReport}
use Rattle.hm_world_model.specs.Safe.{Safe}
use Rattle.hm_world_model.specs.World.{opened, shown_storage}
use Rattle.hm_world_model.proofs.Opening.{opened_kept}
use Rattle.hm_world_model.proofs.Tails.{safe_past}
use Rattle.hm_model.specs.Storages.{Storage}
use Rattle.hm_world_model.proofs.Facts.{node_called, parts_of}
use Rattle.hm_world_model.proofs.Keeping.{outside_keeps}
use Rattle.hm_world_model.proofs.Known.{called_up, peer_called}
use Rattle.hm_world_model.proofs.Measure.{runs_on}
use Rattle.hm_world_model.proofs.Servers.{not_up}
use Rattle.hm_world.specs.Sound.{HaveDue, IsSafeWith, IsSent, IsSound}
use Rattle.hm_world.proofs.Dues.{have_entered, have_outside}
use Rattle.hm_world.proofs.Entered.{Entered, IsQuiet, by_added}
use Rattle.hm_world.proofs.Running.{armed_runs, died_runs, started_runs}
use Rattle.hm_world.proofs.Sendings.{sent_delivered, sent_heard, sent_lost, sent_outside, sent_repeated, sent_sent}
use Rattle.hm_world.proofs.Sounds.{safe_entered, safe_going, safe_outside}

module _ (kept : Recording) (fleet new : FleetView) (numbers : List ℕ) (sound : IsSound kept fleet numbers) where
  -- nothing changed but room
  pub sound_same : outside_of new ≡ outside_of fleet → new.wire ≡ fleet.wire → new.waiting ≡ fleet.waiting → IsSound kept new numbers
  sound_same outside wire waiting = record {
    safe = subst (IsSafeWith kept) (sym outside) sound.safe;
    sent = subst (λ o. IsSent new.wire new.waiting o) (sym outside) (subst (λ w. IsSent w new.waiting (outside_of fleet)) (sym wire) (subst (λ w. IsSent fleet.wire w (outside_of fleet)) (sym waiting) sound.sent));
    due = subst (λ o. HaveDue (back kept.entries) o numbers) (sym outside) sound.due;
  }

  -- the oldest report waits no longer
  pub sound_heard : (report : ReportMsg) (rest : List ReportMsg) → fleet.waiting ≡ report ∷ rest → outside_of new ≡ outside_of fleet → new.wire ≡ fleet.wire → new.waiting ≡ rest → IsSound kept new numbers
  sound_heard report rest is outside wire waiting = record {
    safe = subst (IsSafeWith kept) (sym outside) sound.safe;
    sent = subst (λ o. IsSent new.wire new.waiting o) (sym outside) (subst (λ w. IsSent w new.waiting (outside_of fleet)) (sym wire) (subst (λ w. IsSent fleet.wire w (outside_of fleet)) (sym waiting) (sent_heard fleet.wire report rest (outside_of fleet) (subst (λ w. IsSent fleet.wire w (outside_of fleet)) is sound.sent))));
    due = subst (λ o. HaveDue (back kept.entries) o numbers) (sym outside) sound.due;
  }

  -- the oldest call is delivered
  pub sound_delivered : (call : Call) → fleet.wire ≡ call ∷ new.wire → outside_of new ≡ delivered (outside_of fleet) call → new.waiting ≡ with_report fleet.waiting (report_to (outside_of fleet) call) → IsSound kept new numbers
  sound_delivered call wire outside waiting = record {
    safe = subst (IsSafeWith kept) (sym outside) (safe_outside kept (outside_of fleet) (delivered (outside_of fleet) call) (λ J safe. ((outside_keeps J (outside_of fleet) safe).0 call (safe.calls.sent_is call was_sent)).1) sound.safe);
    sent = subst (λ o. IsSent new.wire new.waiting o) (sym outside) (subst (λ w. IsSent new.wire w (delivered (outside_of fleet) call)) (sym waiting) (sent_delivered call new.wire fleet.waiting (outside_of fleet) (subst (λ w. IsSent w fleet.waiting (outside_of fleet)) wire sound.sent)));
    due = subst (λ o. HaveDue (back kept.entries) o numbers) (sym outside) (have_outside (back kept.entries) (outside_of fleet) (delivered (outside_of fleet) call) numbers (λ peer on. sym (runs_on (outside_of fleet) call peer) ∙ on) sound.due);
  }
    where
      was_sent : IsIn call (outside_of fleet).sent
      was_sent = sound.sent.wire_is call (subst (IsIn call) (sym wire) (inl refl))

  -- the same, if there was one
  pub sound_delivers : (moved : Bool) → Delivers fleet moved new → IsSound kept new numbers
  sound_delivers true (call, done) = sound_delivered call done.wire done.outside done.waiting
  sound_delivers false (none, same) = sound_same same.outside same.wire same.waiting

  -- a recorded call is sent
  pub sound_sent : kept.halted ≡ None → (call : Call) → call_of (back kept.entries) call.id.0 ≡ Some call → new.wire ≡ fleet.wire ++ call ∷ [] → outside_of new ≡ with_sent (outside_of fleet) call → new.waiting ≡ fleet.waiting → IsSound kept new numbers
  sound_sent going call recorded wire outside waiting = record {
    safe = subst (IsSafeWith kept) (sym outside) (safe_going kept (outside_of fleet) (with_sent (outside_of fleet) call) going ((outside_keeps (back kept.entries) (outside_of fleet) sound.safe.safe).0 call recorded).0 sound.safe);
    sent = subst (λ o. IsSent new.wire new.waiting o) (sym outside) (subst (λ w. IsSent w new.waiting (with_sent (outside_of fleet) call)) (sym wire) (subst (λ w. IsSent (fleet.wire ++ call ∷ []) w (with_sent (outside_of fleet) call)) (sym waiting) (sent_sent fleet.wire fleet.waiting (outside_of fleet) call sound.sent)));
    due = subst (λ o. HaveDue (back kept.entries) o numbers) (sym outside) (have_outside (back kept.entries) (outside_of fleet) (with_sent (outside_of fleet) call) numbers (λ peer on. same peer on) sound.due);
  }
    where
      same : (peer : Peer) → runs (with_sent (outside_of fleet) call) peer ≡ true → runs (outside_of fleet) peer ≡ true
      same (peer_is.Server server) on = on
      same peer_is.Storage on = on

  -- a server dies
  pub sound_died : (server : Server) → outside_of new ≡ died (outside_of fleet) server → new.wire ≡ fleet.wire → new.waiting ≡ fleet.waiting → IsSound kept new numbers
  sound_died server outside wire waiting = record {
    safe = subst (IsSafeWith kept) (sym outside) (safe_outside kept (outside_of fleet) (died (outside_of fleet) server) (λ J safe. (outside_keeps J (outside_of fleet) safe).2 server) sound.safe);
    sent = subst (λ o. IsSent new.wire new.waiting o) (sym outside) (subst (λ w. IsSent w new.waiting (died (outside_of fleet) server)) (sym wire) (subst (λ w. IsSent fleet.wire w (died (outside_of fleet) server)) (sym waiting) (sent_outside fleet.wire fleet.waiting (outside_of fleet) (died (outside_of fleet) server) refl refl sound.sent)));
    due = subst (λ o. HaveDue (back kept.entries) o numbers) (sym outside) (have_outside (back kept.entries) (outside_of fleet) (died (outside_of fleet) server) numbers (died_runs (outside_of fleet) server) sound.due);
  }

  -- one is to refuse
  pub sound_armed : (peer : Peer) (count : ℕ) → outside_of new ≡ armed (outside_of fleet) peer count → new.wire ≡ fleet.wire → new.waiting ≡ fleet.waiting → IsSound kept new numbers
  sound_armed peer count outside wire waiting = record {
    safe = subst (IsSafeWith kept) (sym outside) (safe_outside kept (outside_of fleet) (armed (outside_of fleet) peer count) (λ J safe. (outside_keeps J (outside_of fleet) safe).3 peer count) sound.safe);
    sent = subst (λ o. IsSent new.wire new.waiting o) (sym outside) (subst (λ w. IsSent w new.waiting (armed (outside_of fleet) peer count)) (sym wire) (subst (λ w. IsSent fleet.wire w (armed (outside_of fleet) peer count)) (sym waiting) (sent_outside fleet.wire fleet.waiting (outside_of fleet) (armed (outside_of fleet) peer count) (sent_is peer) (reports_is peer) sound.sent)));
    due = subst (λ o. HaveDue (back kept.entries) o numbers) (sym outside) (have_outside (back kept.entries) (outside_of fleet) (armed (outside_of fleet) peer count) numbers (armed_runs (outside_of fleet) peer count) sound.due);
  }
    where
      sent_is : (peer : Peer) → (armed (outside_of fleet) peer count).sent ≡ (outside_of fleet).sent
      sent_is (peer_is.Server server) = refl
      sent_is peer_is.Storage = refl

      reports_is : (peer : Peer) → (armed (outside_of fleet) peer count).reports ≡ (outside_of fleet).reports
      reports_is (peer_is.Server server) = refl
      reports_is peer_is.Storage = refl

  -- all is lost
  pub sound_lost : outside_of new ≡ outside_of fleet → new.wire ≡ [] → new.waiting ≡ [] → IsSound kept new numbers
  sound_lost outside wire waiting = record {
    safe = subst (IsSafeWith kept) (sym outside) sound.safe;
    sent = subst (λ w. IsSent w new.waiting (outside_of new)) (sym wire) (subst (λ w. IsSent [] w (outside_of new)) (sym waiting) (sent_lost (outside_of new)));
    due = subst (λ o. HaveDue (back kept.entries) o numbers) (sym outside) sound.due;
  }

  -- all travels once more
  pub sound_repeated : outside_of new ≡ outside_of fleet → new.wire ≡ fleet.wire ++ fleet.sent → new.waiting ≡ fleet.waiting ++ fleet.reports → IsSound kept new numbers
  sound_repeated outside wire waiting = record {
    safe = subst (IsSafeWith kept) (sym outside) sound.safe;
    sent = subst (λ o. IsSent new.wire new.waiting o) (sym outside) (subst (λ w. IsSent w new.waiting (outside_of fleet)) (sym wire) (subst (λ w. IsSent (fleet.wire ++ fleet.sent) w (outside_of fleet)) (sym waiting) (sent_repeated fleet.wire fleet.waiting (outside_of fleet) sound.sent)));
    due = subst (λ o. HaveDue (back kept.entries) o numbers) (sym outside) sound.due;
  }

-- after a call of the executor
pub sound_entered : (P : Entry → Type 0) (old new : Recording) (fleet : FleetView) (numbers : List ℕ) → ((entry : Entry) → P entry → calls_made entry ≡ 0) → ((entry : Entry) → P entry → IsTrueReport (outside_of fleet) entry × (is_part entry ≡ false)) → IsSound old fleet numbers → Entered P old new → IsSound new fleet numbers
sound_entered P old new fleet numbers quiet tells sound entered = record {
  safe = safe_entered P old new (outside_of fleet) tells sound.safe entered;
  sent = sound.sent;
  due = have_entered P old new (outside_of fleet) numbers quiet sound.safe.safe.legal sound.due entered;
}

-- after one that calls nobody and reports nothing
pub sound_quiet : (old new : Recording) (fleet : FleetView) (numbers : List ℕ) → IsSound old fleet numbers → Entered IsQuiet old new → IsSound new fleet numbers
sound_quiet old new fleet numbers sound entered = sound_entered IsQuiet old new fleet numbers (λ entry quiet. quiet.0) (λ entry quiet. (quiet.1 (outside_of fleet), quiet.2)) sound entered

-- after a report that waited
pub sound_reported : (old new : Recording) (fleet : FleetView) (numbers : List ℕ) (report : ReportMsg) → IsIn report fleet.waiting → IsSound old fleet numbers → Entered (λ entry. entry ≡ report_entry report) old new → IsSound new fleet numbers
sound_reported old new fleet numbers report waits sound entered =
    sound_entered (λ entry. entry ≡ report_entry report) old new fleet numbers (λ entry is. ap calls_made is) (λ entry is. subst (λ e. IsTrueReport (outside_of fleet) e × (is_part e ≡ false)) (sym is) ((report, sound.sent.waiting_is report waits, refl, refl), refl)) sound entered

-- storages that keep the same are one
pub storage_is : (one other : Storage) → IsStorage one other → one ≡ other
storage_is one other same =
    ap (λ a. let s : Storage = record { answer = a; fenced = one.fenced; laid = one.laid; refusals = one.refusals } in s) (fun_ext same.answer)
    ∙ ap (λ f. let s : Storage = record { answer = other.answer; fenced = f; laid = one.laid; refusals = one.refusals } in s) (fun_ext same.fenced)
    ∙ ap (λ l. let s : Storage = record { answer = other.answer; fenced = other.fenced; laid = l; refusals = one.refusals } in s) (fun_ext same.laid)
    ∙ ap (λ r. let s : Storage = record { answer = other.answer; fenced = other.fenced; laid = other.laid; refusals = r } in s) same.refusals

-- nobody outside, and nothing under way
pub sound_opened : (kept : Recording) (fleet : FleetView) (numbers : List ℕ) (storage : Storage) → kept.halted ≡ None → kept.tail ≡ None → IsLegal (back kept.entries) → shown_storage (back kept.entries) ≡ storage → outside_of fleet ≡ nobody storage → fleet.wire ≡ [] → fleet.waiting ≡ []
    → HaveDue (back kept.entries) (outside_of fleet) numbers → IsSound kept fleet numbers
sound_opened kept fleet numbers storage going tailless legal shown outside wire waiting due = record {
  safe = record {
    safe = subst (Safe (back kept.entries)) (ap nobody shown ∙ sym outside) (safe_past (opened (back kept.entries)) (opened_kept (back kept.entries) legal));
    tailed = λ tail is. absurd (none-some tail (sym tailless ∙ is));
    tailless = λ on. tailless;
    other = λ tail is. absurd (none-some tail (sym tailless ∙ is));
  };
  sent = subst (λ w. IsSent w fleet.waiting (outside_of fleet)) (sym wire) (subst (λ w. IsSent [] w (outside_of fleet)) (sym waiting) (sent_lost (outside_of fleet)));
  due = due;
}

-- a server comes up and starts: it never came up, so that nobody called it
module _ (old new : Moment) (fleet started_fleet : FleetView) (numbers : List ℕ) (server : Server) (sound : IsSound old.kept fleet numbers) (added : IsAdded old (entry_is.Up server) new) where
  never : came_up (past_of old) server ≡ false
  never = not_up (past_of old) server added.1.1.0

  due_started : HaveDue (past_of old) (started (outside_of fleet) server) numbers
  due_started call due = elim (started_runs (outside_of fleet) server call.peer due.2) [
    | inr ran ↦ sound.due call (due.0, due.1, ran)
    | inl own ↦ (
        let parts = parts_of (past_of old) call due.0 in
        let node = node_called (past_of old) sound.safe.safe.legal call.id.0 call.verb parts.1 in
        let peer = same_Some (peer_in node.0.args) call.peer (sym node.3 ∙ parts.0) in
        absurd (false≢true (sym never ∙ called_up (past_of old) sound.safe.safe.legal call.id.0 node.0 server node.1 (peer_called node.0.args server (peer ∙ own))))
        )
  ]

  pub sound_started : outside_of started_fleet ≡ started (outside_of fleet) server → started_fleet.wire ≡ fleet.wire → started_fleet.waiting ≡ fleet.waiting → IsSound new.kept started_fleet numbers
  sound_started outside wire waiting = sound_quiet old.kept new.kept started_fleet numbers first (by_added IsQuiet old new (entry_is.Up server) (refl, (λ o. tt), refl) added)
    where
      first : IsSound old.kept started_fleet numbers
      first = record {
        safe = subst (IsSafeWith old.kept) (sym outside) (safe_going old.kept (outside_of fleet) (started (outside_of fleet) server) added.0 ((outside_keeps (past_of old) (outside_of fleet) sound.safe.safe).1 server never) sound.safe);
        sent = subst (λ o. IsSent started_fleet.wire started_fleet.waiting o) (sym outside) (subst (λ w. IsSent w started_fleet.waiting (started (outside_of fleet) server)) (sym wire) (subst (λ w. IsSent fleet.wire w (started (outside_of fleet) server)) (sym waiting) (sent_outside fleet.wire fleet.waiting (outside_of fleet) (started (outside_of fleet) server) refl refl sound.sent)));
        due = subst (λ o. HaveDue (past_of old) o numbers) (sym outside) due_started;
      }
