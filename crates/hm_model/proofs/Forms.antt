-- What acts answer, by their forms.
use Rattle.hm_data.specs.declared.act.Act.{Act}
use Rattle.hm_data.specs.declared.act.Back.{Back}
use Rattle.hm_data.specs.declared.answer.Answer.{Answer}
use Rattle.hm_data.specs.declared.answer.Answer.TheVariants as answer_is
use Rattle.hm_data.specs.declared.answer.Cause.{Cause}
use Rattle.hm_data.specs.declared.answer.Cause.TheVariants as cause_is
use Rattle.hm_data.specs.declared.args.Args.{Args}
use Rattle.hm_data.specs.declared.args.Child.{Child}
use Rattle.hm_data.specs.declared.call.Told.{Told}
use Rattle.hm_data.specs.declared.call.Told.TheVariants as told_is
use Rattle.hm_data.specs.declared.call.Verb.{Verb}
use Rattle.hm_data.specs.declared.catalog.Edit.{Edit}
use Rattle.hm_data.specs.declared.place.Place.{Place}
use Rattle.hm_data.specs.declared.sheet.Row.{Row}
use Rattle.hm_data.specs.declared.step.StepIn.{StepIn}
use Rattle.hm_data.specs.declared.step.StepOut.{StepOut}
use Rattle.hm_model.specs.Answers.{no_row, row_after}
use Rattle.hm_model.specs.Acts.{act_answer}
use Rattle.hm_model.specs.Evaluation.{is_cut_off, row_answer}
use Rattle.hm_model.specs.Forms.{IsStepped, IsUndone}
use Rattle.hm_model.specs.Outs.{calls, ends_with, fails, gives, on_to, spawns}
use Rattle.hm_model.specs.Undoing.{undo_out}
use Rattle.hm_names.specs.declared.pid.Pid.{Pid}
use Rattle.std.proofs.Common.{Bool, List, None, Option, Some, [], false, if◌then◌else◌, inl, inr, not, refl, true, ℕ, ◌==◌, ◌∷◌, ◌≡◌, ◌≢◌, ◌⊎◌}
use Rattle.hm_model.specs.MadeOf.{IsMadeOf, LeadsNear}
use Rattle.hm_model.proofs.MadeOf.{made_of}

-- after an answer the next row, the first one, or none
abbrev pub Leads : ℕ → Answer → Type 0
Leads next answer =
    (row_after 0 (Some answer) ≡ next) ⊎ ((row_after 0 (Some answer) ≡ 0) ⊎ (row_after 0 (Some answer) ≡ no_row))

-- what an act that leads to a row answers
pub record IsFormed (next : ℕ) (out : StepOut) : Type 0 where
  pub stepped : IsStepped out
  pub leads : Leads next out.answer

on_to_leads : (next : ℕ) → Leads next (on_to next)
on_to_leads next = by (next == no_row)
  where
    by : (b : Bool) → Leads next (if b then answer_is.Done told_is.Nothing else answer_is.More next)
    by true = inr (inr refl)
    by false = inl refl

-- no children and no call
plainly : (next : ℕ) (answer : Answer) (edits : List Edit) (place : Option Place) → answer ≢ answer_is.Undone → Leads next answer → IsFormed next (record { answer = answer; edits = edits; children = []; call = None; place = place; followers = [] })
plainly next answer edits place not leads = record { stepped = record { children = inl refl; call = inl refl; followerless = refl; undoes_nothing = not }; leads = leads }

on_to_not : (next : ℕ) → on_to next ≢ answer_is.Undone
on_to_not next = by (next == 255)
  where
    by : (b : Bool) → (if b then answer_is.Done told_is.Nothing else answer_is.More next) ≢ answer_is.Undone
    by true e = cc
    by false e = cc

onwards : (next : ℕ) (edits : List Edit) → IsFormed next (gives (on_to next) edits)
onwards next edits = plainly next (on_to next) edits None (on_to_not next) (on_to_leads next)

ended : (next : ℕ) (told : Told) → IsFormed next (ends_with told)
ended next told = plainly next (answer_is.Done told) [] None (λ e. cc) (inr (inr refl))

failed : (next : ℕ) (cause : Cause) → IsFormed next (fails cause)
failed next cause = plainly next (answer_is.Fail cause) [] None (λ e. cc) (inr (inr refl))

spawned : (next : ℕ) (children : List Child) → IsFormed next (spawns next children)
spawned next [] = plainly next (answer_is.More next) [] None (λ e. cc) (inl refl)
spawned next (child ∷ more) = record { stepped = record { children = inr (next, refl); call = inl refl; followerless = refl; undoes_nothing = λ e. cc }; leads = inl refl }

called : (next : ℕ) (verb : Verb) → IsFormed next (calls next verb)
called next verb = record { stepped = record { children = inl refl; call = inr (next, refl); followerless = refl; undoes_nothing = λ e. cc }; leads = inl refl }

near_not : (next : ℕ) (answer : Answer) → LeadsNear next answer → answer ≢ answer_is.Undone
near_not next (answer_is.More n) near e = cc
near_not next (answer_is.Done told) near e = cc
near_not next answer near e = absurd near

near_leads : (next : ℕ) (answer : Answer) → LeadsNear next answer → Leads next answer
near_leads next (answer_is.More n) near = elim near [ inl same ↦ inl same | inr first ↦ inr (inl first) ]
near_leads next (answer_is.Done told) near = inr (inr refl)
near_leads next answer near = absurd near

made_formed : (act : Act) (next : ℕ) (at : StepIn) → {out : StepOut} → IsMadeOf act next at out → IsFormed next out
made_formed act next at (IsMadeOf.failed may cause) = failed next cause
made_formed act next at IsMadeOf.went_on = plainly next (answer_is.More next) [] None (λ e. cc) (inl refl)
made_formed act next at (IsMadeOf.ended told) = ended next told
made_formed act next at (IsMadeOf.edited e edits are) = onwards next edits
made_formed act next at (IsMadeOf.made children makes) = spawned next children
made_formed act next at (IsMadeOf.called off verb asks) = called next verb
made_formed act next at (IsMadeOf.placed off answer near place gives) = plainly next answer [] place (near_not next answer near) (near_leads next answer near)
made_formed act next at (IsMadeOf.shut off region own server there) = record {
  stepped = record { children = inr (next, refl); call = inl refl; followerless = refl; undoes_nothing = λ e. cc };
  leads = inl refl;
}

-- a row answers a step so
pub row_formed : (row : Row) (at : StepIn) → IsFormed row.next (row_answer row at)
row_formed row at = by (is_cut_off row at)
  where
    by : (b : Bool) → IsFormed row.next (if b then fails cause_is.Aborted else act_answer row.act row.next at)
    by true = failed row.next cause_is.Aborted
    by false = made_formed row.act row.next at (made_of row.act row.next at)

-- and what undoes one so
pub undo_formed : (undo : Back) (args : Args) (root : Pid) (edits : List Edit) → IsUndone (undo_out undo args root edits)
undo_formed undo args root edits = record { answer = refl; childless = refl; uncalled = refl; unplaced = refl }
