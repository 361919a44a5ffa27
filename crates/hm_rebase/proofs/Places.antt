-- A place without a region at it names no server, unless the region just failed to open.
use Rattle.std.proofs.Common.{◌≡◌, ℕ, [], ◌∷◌, Bool, true, false, ◌&&◌, cond, Option, Some, None, refl, ap, sym, ◌∙◌, subst, inl, inr}
use Rattle.std.proofs.lemmas.Bool.{false≢true}
use Rattle.std.proofs.lemmas.Option.{none-some, same_Some}
use Rattle.hm_names.specs.Region.{Region}
use Rattle.hm_names.specs.Server.{Server}
use Rattle.hm_names.specs.declared.pid.Pid.{Pid}
use Rattle.hm_data.specs.declared.act.Act.{Act}
use Rattle.hm_data.specs.declared.act.Act.TheVariants as act_is
use Rattle.hm_data.specs.declared.answer.Answer.TheVariants as answer_is
use Rattle.hm_data.specs.declared.args.Args.TheVariants as args_are
use Rattle.hm_data.specs.declared.args.Child.TheVariants as child_is
use Rattle.hm_data.specs.declared.call.Told.TheVariants as told_is
use Rattle.hm_data.specs.declared.catalog.CatKey.TheVariants as key_is
use Rattle.hm_data.specs.declared.catalog.Status.{Status}
use Rattle.hm_data.specs.declared.catalog.TableState.{TableState}
use Rattle.hm_data.specs.declared.entry.Entry.TheVariants as entry_is
use Rattle.hm_data.specs.declared.part.Part.{Part}
use Rattle.hm_data.specs.declared.part.Part.TheVariants as part_is
use Rattle.hm_data.specs.declared.place.Place.{Place}
use Rattle.hm_data.specs.declared.place.RegionState.{RegionState}
use Rattle.hm_data.specs.declared.place.RegionState.TheVariants as place_is
use Rattle.hm_data.specs.declared.step.StepIn.{StepIn}
use Rattle.hm_data.specs.declared.step.StepOut.{StepOut}
use Rattle.hm_model.specs.Acts.{act_answer}
use Rattle.hm_model.specs.Answers.{row_of}
use Rattle.hm_model.specs.Base.{MayStand, PartFits}
use Rattle.hm_model.specs.Catalog.{row_at}
use Rattle.hm_model.specs.Checks.{region_ready}
use Rattle.hm_model.specs.Inputs.{step_input}
use Rattle.hm_model.specs.Journal.{Past}
use Rattle.hm_model.specs.Keys.{same_region}
use Rattle.hm_model.specs.Lists.{exact_rows}
use Rattle.hm_model.specs.Outs.{checked, ends_with, given, places, spawns}
use Rattle.hm_model.specs.Places.{part_place, place_of, placed_by, region_if}
use Rattle.hm_model.specs.Reports.{is_the_region}
use Rattle.hm_model.specs.Rules.{IsLegal}
use Rattle.hm_model.specs.TransitActs.{candidate, close_at, close_or_go, closed_or_lost, is_open, is_placed, is_state, is_told, lost_if, may_open_in, nowhere, opened_or_not, told_place}
use Rattle.hm_model.specs.Tree.{node_of}
use Rattle.hm_model.specs.Views.{region_of}
use Rattle.hm_model.specs.Wanted.{goal_in}
use Rattle.hm_model.specs.Whereabouts.{moved_by}
use Rattle.hm_model.proofs.ExactRows.{row_passes}
use Rattle.hm_model.proofs.StepDoes.{is_moving}
use Rattle.hm_model.proofs.Trees.{grown_all}
use Rattle.hm_single.proofs.All.{kept_all}
use Rattle.hm_single.proofs.Own.{cut_or, does, step}
use Rattle.hm_single.proofs.Placing.{own_row}
use Rattle.hm_single.proofs.Stage.{moved_region}
use Rattle.hm_single.proofs.Gives.{call_unplaced, check_unplaced}

abbrev pub IsClean : RegionState → Option Server → Type 0
IsClean place_is.Offline server = server ≡ None
IsClean place_is.Closed server = server ≡ None
IsClean place_is.AbnormallyClosed server = server ≡ None
IsClean state server = Unit {0}

abbrev Clean : Place → Type 0
Clean place = IsClean place.state place.server

clean_as : (place here : Place) → Some place ≡ Some here → Clean place → Clean here
clean_as place here e clean = subst Clean (same_Some place here e) clean

lost_clean : (b : Bool) (here : Place) → lost_if b ≡ Some here → Clean here
lost_clean false here e = absurd (none-some here e)
lost_clean true here e = clean_as (nowhere place_is.AbnormallyClosed) here e refl

closed_clean : (b : Bool) (here : Place) → Some (nowhere (closed_or_lost b)) ≡ Some here → Clean here
closed_clean true here e = clean_as (nowhere place_is.Closed) here e refl
closed_clean false here e = clean_as (nowhere place_is.AbnormallyClosed) here e refl

candidate_clean : (next : ℕ) (b : Bool) (place : Place) (fenced : Bool) (pick : Option Server) (here : Place) → (candidate next b place fenced pick).place ≡ Some here → Clean here
candidate_clean next false place fenced pick here e = lost_clean (is_placed place && fenced) here e
candidate_clean next true place fenced pick here e = by (is_open place fenced) e
  where
    by : (b : Bool) → (cond b (ends_with told_is.Nothing) (places (answer_is.More next) (Some (record { state = place_is.Opening; server = pick })))).place ≡ Some here → Clean here
    by true e = absurd (none-some here e)
    by false e = clean_as (record { state = place_is.Opening; server = pick }) here e tt

confirm_clean : (next : ℕ) (server : Option Server) (b : Bool) (here : Place) → (opened_or_not next server b).place ≡ Some here → Clean here
confirm_clean next server true here e = clean_as (record { state = place_is.Opened; server = server }) here e tt
confirm_clean next server false here e = clean_as (record { state = place_is.FailedOpen; server = server }) here e tt

close_clean : (next : ℕ) (at : StepIn) (own : Region) (place : Place) (b : Bool) (here : Place) → (close_or_go next (goal_in at.args) own place b).place ≡ Some here → Clean here
close_clean next at own place false here e = lost_clean (is_state place_is.Opened place) here e
close_clean next at own place true here e = by place.server e
  where
    by : (o : Option Server) → (given o next (close_at next own)).place ≡ Some here → Clean here
    by None e = absurd (none-some here e)
    by (Some server) e = clean_as (record { state = place_is.Closing; server = Some server }) here e tt

-- each act of a transit
clean_by : (act : Act) → is_moving act ≡ true → (next : ℕ) (at : StepIn) (region : Region) → region_of at.args ≡ Some region → (here : Place) → (act_answer act next at).place ≡ Some here → Clean here
clean_by act_is.GetAssignCandidate h next at region own here e =
    candidate_clean next (may_open_in at.rows region) (told_place at.place) at.fenced at.pick here
    (ap (λ o. (given o next (λ r. candidate next (may_open_in at.rows r) (told_place at.place) at.fenced at.pick)).place) (sym own) ∙ e)
clean_by act_is.Open h next at region own here e = absurd (call_unplaced next region (told_place at.place).server here (ap (λ o. (given o next (λ r. given (told_place at.place).server next (λ server. spawns next (child_is.One (args_are.AssignCall r server) ∷ [])))).place) (sym own) ∙ e))
clean_by act_is.ConfirmOpened h next at region own here e = confirm_clean next (told_place at.place).server (is_told told_is.Opened at.ends) here e
clean_by act_is.Close h next at region own here e =
    close_clean next at region (told_place at.place) (is_open (told_place at.place) at.fenced) here
    (ap (λ o. (given o next (λ r. close_or_go next (goal_in at.args) r (told_place at.place) (is_open (told_place at.place) at.fenced))).place) (sym own) ∙ e)
clean_by act_is.ConfirmClosed h next at region own here e = closed_clean (is_told told_is.Closed at.ends) here e
clean_by act_is.CheckMove h next at region own here e = absurd (check_unplaced next (region_ready (row_at at.rows (key_is.Table region.table)) (row_at at.rows (key_is.Region region))) here (ap (λ o. (given o next (λ r. checked next (region_ready (row_at at.rows (key_is.Table r.table)) (row_at at.rows (key_is.Region r))))).place) (sym own) ∙ e))
clean_by act h next at region own here e = absurd (false≢true h)

out_clean : (pid : Pid) (pick : Option Server) (out : StepOut) (J : Past) → IsLegal (entry_is.Step pid pick out ∷ J) → (here : Place) → out.place ≡ Some here → Clean here
out_clean pid pick out J legal here e = by (moved_by (step pid pick out J legal).node.args) refl
  where
    by : (o : Option Region) → moved_by (step pid pick out J legal).node.args ≡ o → Clean here
    by None m = absurd (none-some here (sym ((does pid pick out J legal).unplaced m) ∙ e))
    by (Some region) m = elim (cut_or pid pick out J legal) [
      | inl cut ↦ absurd (none-some here (sym (ap (λ (o : StepOut). o.place) cut) ∙ e))
      | inr acts ↦
          let its = step pid pick out J legal in
          let row = own_row pid pick out J (grown_all J legal.0) (kept_all J legal.0) its (does pid pick out J legal) region m in
          let moving : is_moving its.row.act ≡ true = row_passes (λ row. is_moving row.act) (exact_rows 10) refl (row_of J pid.0 its.node) its.row row in
          clean_by its.row.act moving its.row.next (step_input J pid.0 its.node pick) region (moved_region its.node.args region m).0 here (sym (ap (λ (o : StepOut). o.place) acts) ∙ e)
    ]

free_clean : (state : RegionState) (server : Option Server) → server ≡ None → IsClean state server
free_clean place_is.Offline server none = none
free_clean place_is.Closed server none = none
free_clean place_is.AbnormallyClosed server none = none
free_clean state server none = tt

open_clean : (state : RegionState) (server : Option Server) → is_state place_is.Opened (record { state = state; server = server }) ≡ true → IsClean state server
open_clean place_is.Offline server on = absurd (false≢true on)
open_clean place_is.Closed server on = absurd (false≢true on)
open_clean place_is.AbnormallyClosed server on = absurd (false≢true on)
open_clean state server on = tt

stand_clean : (place : Place) (status : Status) (state : TableState) → MayStand place status state → Clean place
stand_clean place status state (inl free) = free_clean place.state place.server free.2
stand_clean place status state (inr held) = open_clean place.state place.server held.0

part_clean : (part : Part) (J : Past) → PartFits part J → (region : Region) → Clean (place_of J region) → Clean (part_place part region (place_of J region))
part_clean (part_is.Region own range status parents place) J fits region was = by (same_region region own)
  where
    by : (b : Bool) → Clean (cond b place (place_of J region))
    by true = stand_clean place status fits.4.0 fits.4.3
    by false = was
part_clean part J fits region was = was

pub clean_all : (J : Past) → IsLegal J → (region : Region) → IsClean (place_of J region).state (place_of J region).server
clean_all [] legal region = refl
clean_all (entry_is.Step pid pick out ∷ J) legal region = by out.place refl (clean_all J legal.0 region)
  where
    by : (o : Option Place) → out.place ≡ o → Clean (place_of J region) → Clean (placed_by region (region_if (node_of J pid.0)) o (place_of J region))
    by None e was = was
    by (Some here) e was = by_own (is_the_region region (region_if (node_of J pid.0)))
      where
        by_own : (b : Bool) → Clean (cond b here (place_of J region))
        by_own true = out_clean pid pick out J legal here e
        by_own false = was
clean_all (entry_is.Base part ∷ J) legal region = part_clean part J legal.1.0 region (clean_all J legal.0 region)
clean_all (entry ∷ J) legal region = clean_all J legal.0 region
