-- A world stays sound after an answer that is given back.
use Rattle.std.proofs.Common.{◌≡◌, ℕ, ◌∷◌, Bool, true, false, is_some, List, Ok, refl, sym, ap, ◌∙◌, inl, inr, subst, arith}
use Rattle.hm_data.specs.declared.entry.Entry.{Entry}
use Rattle.hm_data.specs.declared.step.StepIn.{StepIn}
use Rattle.hm_data.specs.declared.step.StepOut.{StepOut}
use Rattle.hm_data.specs.declared.step.Turn.{Turn}
use Rattle.hm_data.specs.declared.step.Turn.TheVariants as turn_is
use Rattle.hm_hall.specs.Recording.{Recording}
use Rattle.hm_hall.specs.declared.fault.HallFault.{HallFault}
use Rattle.hm_hall.specs.declared.fault.HallFault.TheVariants as fault_is
use Rattle.hm_hall.specs.declared.taken.Given.{Given}
use Rattle.hm_hall.specs.declared.taken.Given.TheVariants as given_is
use Rattle.hm_hall.specs.declared.taken.Taken.{Taken}
use Rattle.hm_model.specs.Counts.{one_if}
use Rattle.hm_model.specs.Journal.{back}
use Rattle.hm_model.specs.Laws.{is_part}
use Rattle.hm_model.specs.Locks.{IsIn}
use Rattle.hm_model.specs.Rules.{IsLegal}
use Rattle.hm_model.proofs.Prefixes.{back-push}
use Rattle.hm_exec.specs.Claiming.{AnswersCommit, RefusesCommit, entry_by, entry_of}
use Rattle.hm_exec.specs.Moment.{Moment, past_of}
use Rattle.hm_fleet.specs.Fleet.{FleetView, outside_of}
use Rattle.hm_world_model.specs.Measure.{calls_made}
use Rattle.hm_world_model.specs.Outside.{Outside}
use Rattle.hm_world_model.specs.Runs.{IsTrueReport}
use Rattle.hm_world_model.proofs.Raising.{stepper}
use Rattle.hm_world.specs.Sound.{HaveDue, IsSafeWith, IsSound}
use Rattle.hm_world.proofs.Dues.{due_before}
use Rattle.hm_world.proofs.Entered.{by_faults}
use Rattle.hm_world.proofs.Sounds.{safe_entered}

-- what answers are of is no report, and no part of a base
no_report : (o : Outside) (turn : Turn) (p : ℕ) (was : StepIn) (out : StepOut) → IsTrueReport o (entry_by turn p was out) × (is_part (entry_by turn p was out) ≡ false)
no_report o turn_is.Step p was out = (tt, refl)
no_report o (turn_is.Undo edits) p was out = (tt, refl)

not_one : (n : ℕ) → n ≡ 0 → n ≡ 1 → ⊥
not_one n none one = omega (arith, none, one)

-- a step that calls is by its procedure, and what undoes one calls nobody
its_call : (turn : Turn) (p : ℕ) (was : StepIn) (out : StepOut) → calls_made (entry_by turn p was out) ≡ 1 → (is_some out.call ≡ true) × (stepper (entry_by turn p was out) ≡ p)
its_call turn_is.Step p was out one = (by (is_some out.call) one, refl)
  where
    by : (b : Bool) → one_if b ≡ 1 → b ≡ true
    by true one = refl
    by false one = absurd (not_one (one_if false) refl one)
its_call (turn_is.Undo edits) p was out one = absurd (not_one (calls_made (entry_by (turn_is.Undo edits) p was out)) refl one)

-- the entries are as they were
same_safe : (old new : Recording) (fleet : FleetView) (numbers : List ℕ) → new.entries ≡ old.entries → IsSafeWith new (outside_of fleet) → IsSound old fleet numbers → IsSound new fleet numbers
same_safe old new fleet numbers same safe sound = record {
  safe = safe;
  sent = sound.sent;
  due = subst (λ l. HaveDue (back l) (outside_of fleet) numbers) (sym same) sound.due;
}

module _ (old new : Moment) (fleet : FleetView) (numbers : List ℕ) (taken : Taken) (out : StepOut) (sound : IsSound old.kept fleet numbers) where
  abbrev its : Entry
  its = entry_of taken out

  tells : (entry : Entry) → entry ≡ its → IsTrueReport (outside_of fleet) entry × (is_part entry ≡ false)
  tells entry is = subst (λ e. IsTrueReport (outside_of fleet) e × (is_part e ≡ false)) (sym is) (no_report (outside_of fleet) (let was = taken.was in was.turn) (let pid = taken.pid in pid.0) taken.was out)

  -- it is recorded, or the claim is given up
  module _ (more : List ℕ) (all : (q : ℕ) → IsIn q numbers → IsIn q more) (own : is_some out.call ≡ true → IsIn (let pid = taken.pid in pid.0) more) where
    due_now : IsLegal (its ∷ past_of old) → HaveDue (its ∷ past_of old) (outside_of fleet) more
    due_now legal call due = elim (due_before its (past_of old) (outside_of fleet) call legal due) [
      | inl was ↦ all call.id.0 (sound.due call was)
      | inr new_one ↦ (
          let mine = its_call (let was = taken.was in was.turn) (let pid = taken.pid in pid.0) taken.was out new_one.0 in
          subst (λ q. IsIn q more) (sym (new_one.1 ∙ mine.1)) (own mine.0)
          )
    ]

    pub sound_given : (given : Given) → AnswersCommit old taken out (Ok given) new → IsSound new.kept fleet more
    sound_given (given_is.Kept number) answers = record {
      safe = safe_entered (λ entry. entry ≡ its) old.kept new.kept (outside_of fleet) tells sound.safe (inr (its, refl, answers.2, Ok number, answers.3));
      sent = sound.sent;
      due = subst (λ (k : Recording). HaveDue (back k.entries) (outside_of fleet) more) (sym answers.3.3) (subst (λ J. HaveDue J (outside_of fleet) more) (sym (back-push (let kept = old.kept in kept.entries) its)) (due_now (sound.safe.safe.legal, answers.2)));
    }
    sound_given (given_is.Stale was now) answers =
        subst (λ (k : Recording). IsSound k fleet more) (sym answers.1.3) (record { safe = sound.safe; sent = sound.sent; due = λ call due. all call.id.0 (sound.due call due) })

  -- or refused
  pub sound_refused : (fault : HallFault) → RefusesCommit old taken out fault new → IsSound new.kept fleet numbers
  sound_refused (fault_is.Halted why) refuses = subst (λ (m : Moment). IsSound m.kept fleet numbers) (sym refuses.1) sound
  sound_refused fault_is.Memory refuses = subst (λ (m : Moment). IsSound m.kept fleet numbers) (sym refuses.1) sound
  sound_refused fault_is.LogFault refuses =
      same_safe old.kept new.kept fleet numbers (ap (λ (k : Recording). k.entries) refuses.1.2.0.2) (safe_entered (λ entry. entry ≡ its) old.kept new.kept (outside_of fleet) tells sound.safe (by_faults (λ entry. entry ≡ its) old new its fault_is.LogFault refl refuses.1)) sound
  sound_refused (fault_is.JournalFull bytes) refuses =
      same_safe old.kept new.kept fleet numbers (ap (λ (k : Recording). k.entries) refuses.1.2.0.3) (safe_entered (λ entry. entry ≡ its) old.kept new.kept (outside_of fleet) tells sound.safe (by_faults (λ entry. entry ≡ its) old new its (fault_is.JournalFull bytes) refl refuses.1)) sound
