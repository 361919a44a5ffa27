-- There is less to carry after whatever is carried.
use Rattle.std.proofs.Common.{◌≡◌, ◌≢◌, ℕ, ◌+◌, ◌-◌, ◌≤◌, ◌∷◌, ◌++◌, [], List, is_some, length, Bool, true, false, not, ◌||◌, ◌==◌, drop, None, Some, Result, Ok, refl, sym, ap, ◌∙◌, inl, inr, subst, arith}
use Rattle.std.specs.List.{list_any}
use Rattle.std.specs.Option.{option_map}
use Rattle.std.proofs.lemmas.Bool.{and_from, cases_Bool, or_from, true≢false}
use Rattle.hm_data.specs.declared.call.Call.{Call}
use Rattle.hm_data.specs.declared.call.ReportMsg.{ReportMsg}
use Rattle.hm_hall.specs.Recording.{Recording}
use Rattle.hm_model.specs.Phase.{ended}
use Rattle.hm_model.specs.Rules.{FitsCall}
use Rattle.hm_model.specs.Journal.{Past, back}
use Rattle.hm_model.specs.Locks.{IsIn}
use Rattle.hm_model.specs.Reports.{call_of, is_reported, is_settled, peer_of, verb_of}
use Rattle.hm_model.proofs.Prefixes.{back-push}
use Rattle.hm_refusals.specs.Reports.{IsIgnored}
use Rattle.hm_refusals.specs.declared.reports.IgnoredWhy.{IgnoredWhy}
use Rattle.hm_refusals.specs.declared.reports.IgnoredWhy.TheVariants as ignored_is
use Rattle.hm_exec.specs.Hearing.{report_entry}
use Rattle.hm_exec.specs.Moment.{Moment, past_of}
use Rattle.hm_exec.specs.declared.answers.Heard.TheVariants as heard_is
use Rattle.hm_world_model.specs.Measure.{is_to_send, left_to_carry, runs_if, travels}
use Rattle.hm_world_model.specs.Outside.{Outside, delivered, report_to, with_report, with_sent}
use Rattle.hm_world_model.specs.Runs.{MayHear}
use Rattle.hm_world_model.specs.Safe.{IsKept}
use Rattle.hm_world_model.specs.World as model
use Rattle.hm_world_model.proofs.Facts.{parts_of}
use Rattle.hm_world_model.proofs.Measure.{carrying_goes_on}
use Rattle.hm_world_model.proofs.Progress.{reports_heard}
use Rattle.hm_hall.specs.declared.fault.HallFault.{HallFault}
use Rattle.hm_world.specs.Carrying.{Carries, CarriesBy, Delivers, Hears, IsNearer, Sends}
use Rattle.hm_world.specs.Due.{IsDue}
use Rattle.hm_world.specs.Scene.{GoesOn, Scene, halted_by, past_in, world_of}

-- how much is left by what counts
abbrev left_of : Past → Outside → List Call → List ReportMsg → ℕ
left_of J o wire waiting = left_to_carry (record { past = J; tail = None; durable = 0; taken = []; claimed = []; wire = wire; waiting = waiting; outside = o; halted = None; rolled = None })

module _ (old new : Scene) (kept : IsKept (world_of old)) where
  -- it goes on as the world that the laws speak of
  goes : GoesOn old → (world_of old).halted ≡ None
  goes going = ap (λ h. option_map halted_by h) going

  -- the oldest call is delivered
  pub delivers_nearer : (call : Call) (rest : List Call) → old.wire ≡ call ∷ rest → Delivers old call rest new → left_to_carry (world_of new) + 1 ≤ left_to_carry (world_of old)
  delivers_nearer call rest is done =
      let near = (carrying_goes_on (world_of old) kept).0 call (goes done.0, (rest, is)) in
      subst (λ (s : Scene). left_to_carry (world_of s) + 1 ≤ left_to_carry (world_of old)) (sym done.1)
      (subst (λ w. left_of (past_in old) (delivered old.outside call) w (with_report old.waiting (report_to old.outside call)) + 1 ≤ left_to_carry (world_of old)) (ap (drop 1) is) near)

  -- a call that is due is sent
  pub sends_nearer : old.waiting ≡ [] → old.wire ≡ [] → Sends old new → left_to_carry (world_of new) + 1 ≤ left_to_carry (world_of old)
  sends_nearer none empty (going, call, first, is) =
      let due = first.0 in
      let near = (carrying_goes_on (world_of old) kept).1 call (goes going, recorded due, due.2) (to_send due) in
      subst (λ (s : Scene). left_to_carry (world_of s) + 1 ≤ left_to_carry (world_of old)) (sym is)
      (subst (λ w. left_of (past_in old) (with_sent old.outside call) w old.waiting + 1 ≤ left_to_carry (world_of old)) (ap (λ w. w ++ call ∷ []) empty) near)
    where
      recorded : IsDue (past_in old) old.outside call → call_of (model.durable_part (world_of old)) call.id.0 ≡ Some call
      recorded due =
          let none : length (past_in old) - length (past_in old) ≡ 0 = omega arith in
          subst (λ n. call_of (drop n (past_in old)) call.id.0 ≡ Some call) (sym none) due.0

      stays : travels (world_of old) call.id.0 ≡ false
      stays = ap (λ w. list_any (λ (c : Call). c.id.0 == call.id.0) w || list_any (λ (r : ReportMsg). r.call.0 == call.id.0) old.waiting) empty ∙ ap (λ w. list_any (λ (r : ReportMsg). r.call.0 == call.id.0) w) none

      still : (b : Bool) → travels (world_of old) call.id.0 ≡ b → not b ≡ true
      still b is = ap not (sym is ∙ stays)

      to_send : IsDue (past_in old) old.outside call → is_to_send (world_of old) call.id.0 ≡ true
      to_send due =
          and_from (runs_if old.outside (peer_of (past_in old) call.id.0)) _ (ap (runs_if old.outside) (parts_of (past_in old) call due.0).0 ∙ due.2)
          (and_from (not (is_settled (past_in old) call.id.0)) _ (ap not due.1) (still (travels (world_of old) call.id.0) refl))

  -- a report of an unsettled call is never ignored
  ignored_settled : (report : ReportMsg) → IsIn report old.outside.reports → (why : IgnoredWhy) → IsIgnored (past_in old) report why → is_settled (past_in old) report.call.0 ≡ true
  ignored_settled report made why ignored = elim (cases_Bool (is_settled (past_in old) report.call.0)) [
    | inl settled ↦ settled
    | inr unsettled ↦ (let heard = reports_heard (world_of old) kept report made unsettled in absurd (never why ignored unsettled heard.0.0 heard.1 heard.2))
  ]
    where
      never : (why : IgnoredWhy) → IsIgnored (past_in old) report why → is_settled (past_in old) report.call.0 ≡ false → verb_of (past_in old) report.call.0 ≢ None → FitsCall (past_in old) report.call.0 report.told
          → peer_of (past_in old) report.call.0 ≡ Some report.from → ⊥
      never ignored_is.Unknown ignored unsettled called fits peer = called ignored
      never ignored_is.WrongPeer ignored unsettled called fits peer = ignored.1 peer
      never ignored_is.WrongTold ignored unsettled called fits peer = ignored.1 fits
      never ignored_is.Settled ignored unsettled called fits peer = true≢false (sym ignored.1 ∙ unsettled)

  -- nor may it be recorded where it is settled
  settled_not : (report : ReportMsg) → is_settled (past_in old) report.call.0 ≡ true → MayHear (world_of old) report → ⊥
  settled_not report settled may =
      let outstanding = may.0.1.1.0 in
      true≢false (sym settled ∙ or_from (is_reported (past_in old) report.call.0) (ended (past_in old) report.call.0) (ap is_some outstanding.1) outstanding.2)

  -- the report that waits longest is heard
  pub hears_nearer : (report : ReportMsg) (rest : List ReportMsg) → old.waiting ≡ report ∷ rest → IsIn report old.outside.reports → Hears old report rest new → left_to_carry (world_of new) + 1 ≤ left_to_carry (world_of old)
  hears_nearer report rest is made ((heard_is.Ignored why, answers), same) =
      let settled = ignored_settled report made why answers.1 in
      let near = (carrying_goes_on (world_of old) kept).3 report (goes answers.0, (rest, is), settled_not report settled) settled in
      subst (λ (s : Scene). left_to_carry (world_of s) + 1 ≤ left_to_carry (world_of old)) (sym same)
      (subst (λ (m : Moment). left_of (past_of m) old.outside old.wire rest + 1 ≤ left_to_carry (world_of old)) (sym answers.2)
      (subst (λ w. left_of (past_in old) old.outside old.wire w + 1 ≤ left_to_carry (world_of old)) (ap (drop 1) is) near))
  hears_nearer report rest is made ((heard_is.Accepted number, answers), same) =
      let near = (carrying_goes_on (world_of old) kept).2 report (((goes answers.1.0, answers.1.1), answers.0.0.0), (rest, is)) in
      let entries = (let exec = old.exec in (let kept = exec.kept in kept.entries)) in
      let more = ap (λ (k : Recording). back k.entries) answers.2.3 ∙ back-push entries (report_entry report) in
      subst (λ (s : Scene). left_to_carry (world_of s) + 1 ≤ left_to_carry (world_of old)) (sym same)
      (subst (λ J. left_of J old.outside old.wire rest + 1 ≤ left_to_carry (world_of old)) (sym more)
      (subst (λ w. left_of (report_entry report ∷ past_in old) old.outside old.wire w + 1 ≤ left_to_carry (world_of old)) (ap (drop 1) is) near))

-- whatever is carried
by_cases : (old new : Scene) (waiting : List ReportMsg) (wire : List Call) → IsKept (world_of old) → old.waiting ≡ waiting → old.wire ≡ wire → CarriesBy waiting wire old (Ok true) new → left_to_carry (world_of new) + 1 ≤ left_to_carry (world_of old)
by_cases old new (report ∷ rest) wire kept is on done = hears_nearer old new kept report rest is (kept.waiting_is report (subst (IsIn report) (sym is) (inl refl))) done
by_cases old new [] (call ∷ rest) kept none is done = delivers_nearer old new kept call rest is done
by_cases old new [] [] kept none empty done = sends_nearer old new kept none empty done

pub carries_nearer : (old new : Scene) (result : Result Bool HallFault) → IsKept (world_of old) → Carries old result new → result ≡ Ok true → IsNearer old new
carries_nearer old new result kept carries moved = by_cases old new old.waiting old.wire kept refl refl (subst (λ r. Carries old r new) moved carries)
