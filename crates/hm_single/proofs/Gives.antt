-- What places the acts of transits give.
use Rattle.std.proofs.Common.{◌≡◌, ℕ, zero, suc, ◌&&◌, [], ◌∷◌, Bool, true, false, cond, Option, Some, None, refl, ap, sym, ◌∙◌, slice_get}
use Rattle.std.proofs.lemmas.Bool.{false≢true, true≢false}
use Rattle.std.proofs.lemmas.Option.{none-some, same_Some}
use Rattle.hm_names.specs.Region.{Region}
use Rattle.hm_names.specs.Server.{Server}
use Rattle.hm_data.specs.declared.act.Act.{Act}
use Rattle.hm_data.specs.declared.act.Act.TheVariants as act_is
use Rattle.hm_data.specs.declared.answer.Answer.TheVariants as answer_is
use Rattle.hm_data.specs.declared.answer.Cause.{Cause}
use Rattle.hm_data.specs.declared.args.Args.TheVariants as args_are
use Rattle.hm_data.specs.declared.args.Child.TheVariants as child_is
use Rattle.hm_data.specs.declared.call.Told.TheVariants as told_is
use Rattle.hm_data.specs.declared.catalog.CatKey.TheVariants as key_is
use Rattle.hm_data.specs.declared.place.Place.{Place}
use Rattle.hm_data.specs.declared.place.RegionState.TheVariants as place_is
use Rattle.hm_data.specs.declared.sheet.Row.{Row}
use Rattle.hm_data.specs.declared.step.StepIn.{StepIn}
use Rattle.hm_data.specs.declared.step.StepOut.{StepOut}
use Rattle.hm_model.specs.Acts.{act_answer}
use Rattle.hm_model.specs.Catalog.{row_at}
use Rattle.hm_model.specs.Checks.{region_ready}
use Rattle.hm_model.specs.Lists.{exact_rows, fixed}
use Rattle.hm_model.specs.Outs.{checked, ends_with, given, places, spawns}
use Rattle.hm_model.specs.TransitActs.{candidate, close_at, close_or_go, closed_or_lost, is_open, is_placed, is_state, is_told, lost_if, may_open_in, nowhere, opened_or_not, told_place}
use Rattle.hm_model.specs.Views.{region_of}
use Rattle.hm_model.specs.Wanted.{goal_in}
use Rattle.hm_model.proofs.StepDoes.{is_moving}

-- what the acts of transits give: a place to open at only where the region may be opened, and a failure by taking it in
abbrev pub Gives : Act → ℕ → StepIn → Region → StepOut → Place → Type 0
Gives act next at region out here =
    (is_state place_is.Opening here ≡ true → may_open_in at.rows region ≡ true)
    × (is_state place_is.FailedOpen here ≡ true → (act ≡ act_is.ConfirmOpened) × (out.answer ≡ answer_is.More next))

module _ (act : Act) (next : ℕ) (at : StepIn) (region : Region) (out : StepOut) (here : Place) where
  gives_other : (place : Place) → Some place ≡ Some here → is_state place_is.Opening place ≡ false → is_state place_is.FailedOpen place ≡ false → Gives act next at region out here
  gives_other place e o f = (
    (λ h. absurd (true≢false (sym h ∙ ap (is_state place_is.Opening) (sym (same_Some place here e)) ∙ o))),
    (λ h. absurd (true≢false (sym h ∙ ap (is_state place_is.FailedOpen) (sym (same_Some place here e)) ∙ f))),
  )

  gives_lost : (b : Bool) → lost_if b ≡ Some here → Gives act next at region out here
  gives_lost false e = absurd (none-some here e)
  gives_lost true e = gives_other (nowhere place_is.AbnormallyClosed) e refl refl

  gives_closed : (b : Bool) → Some (nowhere (closed_or_lost b)) ≡ Some here → Gives act next at region out here
  gives_closed true e = gives_other (nowhere place_is.Closed) e refl refl
  gives_closed false e = gives_other (nowhere place_is.AbnormallyClosed) e refl refl

-- by row: picking a server
gives_candidate : (next : ℕ) (at : StepIn) (region : Region) (out : StepOut) (here : Place) (b : Bool) → may_open_in at.rows region ≡ b → (candidate next b (told_place at.place) at.fenced at.pick).place ≡ Some here → Gives act_is.GetAssignCandidate next at region out here
gives_candidate next at region out here false may e = gives_lost act_is.GetAssignCandidate next at region out here (is_placed (told_place at.place) && at.fenced) e
gives_candidate next at region out here true may e = ((λ o. may), (λ f. absurd (by (is_open (told_place at.place) at.fenced) e f)))
  where
    by : (b : Bool) → (cond b (ends_with told_is.Nothing) (places (answer_is.More next) (Some (record { state = place_is.Opening; server = at.pick })))).place ≡ Some here → is_state place_is.FailedOpen here ≡ true → ⊥
    by true e f = none-some here e
    by false e f = false≢true (ap (is_state place_is.FailedOpen) (same_Some (record { state = place_is.Opening; server = at.pick }) here e) ∙ f)

-- taking in whether it opened
gives_confirm : (next : ℕ) (at : StepIn) (region : Region) (here : Place) (b : Bool) → (opened_or_not next (told_place at.place).server b).place ≡ Some here → Gives act_is.ConfirmOpened next at region (opened_or_not next (told_place at.place).server b) here
gives_confirm next at region here true e = gives_other act_is.ConfirmOpened next at region (opened_or_not next (told_place at.place).server true) here (record { state = place_is.Opened; server = (told_place at.place).server }) e refl refl
gives_confirm next at region here false e = ((λ o. absurd (false≢true (ap (is_state place_is.Opening) (same_Some (record { state = place_is.FailedOpen; server = (told_place at.place).server }) here e) ∙ o))), (λ f. (refl, refl)))

-- closing
gives_close : (next : ℕ) (at : StepIn) (region own : Region) (out : StepOut) (here : Place) (b : Bool) → (close_or_go next (goal_in at.args) own (told_place at.place) b).place ≡ Some here → Gives act_is.Close next at region out here
gives_close next at region own out here false e = gives_lost act_is.Close next at region out here (is_state place_is.Opened (told_place at.place)) e
gives_close next at region own out here true e = by (told_place at.place).server e
  where
    by : (o : Option Server) → (given o next (close_at next own)).place ≡ Some here → Gives act_is.Close next at region out here
    by None e = absurd (none-some here e)
    by (Some server) e = gives_other act_is.Close next at region out here (record { state = place_is.Closing; server = Some server }) e refl refl

-- to make a call, or to check, gives no place
pub call_unplaced : (next : ℕ) (region : Region) (o : Option Server) (here : Place) → (given o next (λ server. spawns next (child_is.One (args_are.AssignCall region server) ∷ []))).place ≡ Some here → ⊥
call_unplaced next region None here e = none-some here e
call_unplaced next region (Some server) here e = none-some here e

pub check_unplaced : (next : ℕ) (c : Option Cause) (here : Place) → (checked next c).place ≡ Some here → ⊥
check_unplaced next None here e = none-some here e
check_unplaced next (Some cause) here e = none-some here e

-- each act of a transit
pub gives_by : (act : Act) → is_moving act ≡ true → (next : ℕ) (at : StepIn) (region : Region) → region_of at.args ≡ Some region → (here : Place) → (act_answer act next at).place ≡ Some here → Gives act next at region (act_answer act next at) here
gives_by act_is.GetAssignCandidate h next at region own here e = gives_candidate next at region (act_answer act_is.GetAssignCandidate next at) here (may_open_in at.rows region) refl
    (ap (λ o. (given o next (λ r. candidate next (may_open_in at.rows r) (told_place at.place) at.fenced at.pick)).place) (sym own) ∙ e)
gives_by act_is.Open h next at region own here e = absurd (call_unplaced next region (told_place at.place).server here (ap (λ o. (given o next (λ r. given (told_place at.place).server next (λ server. spawns next (child_is.One (args_are.AssignCall r server) ∷ [])))).place) (sym own) ∙ e))
gives_by act_is.ConfirmOpened h next at region own here e = gives_confirm next at region here (is_told told_is.Opened at.ends) e
gives_by act_is.Close h next at region own here e = gives_close next at region region (act_answer act_is.Close next at) here (is_open (told_place at.place) at.fenced)
    (ap (λ o. (given o next (λ r. close_or_go next (goal_in at.args) r (told_place at.place) (is_open (told_place at.place) at.fenced))).place) (sym own) ∙ e)
gives_by act_is.ConfirmClosed h next at region own here e = gives_closed act_is.ConfirmClosed next at region (act_answer act_is.ConfirmClosed next at) here (is_told told_is.Closed at.ends) e
gives_by act_is.CheckMove h next at region own here e = absurd (check_unplaced next (region_ready (row_at at.rows (key_is.Table region.table)) (row_at at.rows (key_is.Region region))) here (ap (λ o. (given o next (λ r. checked next (region_ready (row_at at.rows (key_is.Table r.table)) (row_at at.rows (key_is.Region r))))).place) (sym own) ∙ e))
gives_by act h next at region own here e = absurd (false≢true h)

-- the row at which a transit takes in whether its region opened
abbrev is_confirm : Act → Bool
is_confirm act_is.ConfirmOpened = true
is_confirm act = false

-- the row of another act isn't that one
off_row : (act : Act) (next : ℕ) (after : Bool) (row : Row) → Some (fixed act next after) ≡ Some row → row.act ≡ act_is.ConfirmOpened → is_confirm act ≡ false → ⊥
off_row act next after row is c off = true≢false (sym (ap is_confirm c) ∙ ap (λ (r : Row). is_confirm r.act) (sym (same_Some (fixed act next after) row is)) ∙ off)

-- that row is the third, and leads to the first
pub confirm_row : (n : ℕ) (row : Row) → slice_get (exact_rows 10) n ≡ Some row → row.act ≡ act_is.ConfirmOpened → (n ≡ 2) × (row.next ≡ 0)
confirm_row zero row is c = absurd (off_row act_is.GetAssignCandidate 1 true row is c refl)
confirm_row (suc zero) row is c = absurd (off_row act_is.Open 2 true row is c refl)
confirm_row (suc (suc zero)) row is c = (refl, ap (λ (r : Row). r.next) (sym (same_Some (fixed act_is.ConfirmOpened 0 true) row is)))
confirm_row (suc (suc (suc zero))) row is c = absurd (off_row act_is.Close 4 true row is c refl)
confirm_row (suc (suc (suc (suc zero)))) row is c = absurd (off_row act_is.ConfirmClosed 0 true row is c refl)
confirm_row (suc (suc (suc (suc (suc zero))))) row is c = absurd (off_row act_is.CheckMove 3 false row is c refl)
confirm_row (suc (suc (suc (suc (suc (suc n)))))) row is c = absurd (none-some row is)
