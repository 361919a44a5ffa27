-- Each act's answer is made of what an act may do.
use Rattle.std.proofs.Common.{◌≡◌, ◌&&◌, ℕ, List, [], ◌∷◌, ◌==◌, Bool, true, false, cond, Option, Some, None, refl, inl, inr}
use Rattle.hm_names.specs.declared.table.TableName.{TableName}
use Rattle.hm_names.specs.Region.{Region}
use Rattle.hm_data.specs.declared.act.Act.{Act}
use Rattle.hm_data.specs.declared.act.Act.TheVariants as act_is
use Rattle.hm_data.specs.declared.answer.Answer.TheVariants as answer_is
use Rattle.hm_data.specs.declared.answer.Cause.{Cause}
use Rattle.hm_data.specs.declared.answer.Cause.TheVariants as cause_is
use Rattle.hm_data.specs.declared.args.Child.{Child}
use Rattle.hm_data.specs.declared.call.Told.{Told}
use Rattle.hm_data.specs.declared.call.Told.TheVariants as told_is
use Rattle.hm_data.specs.declared.catalog.CatKey.TheVariants as key_is
use Rattle.hm_data.specs.declared.catalog.TableState.{TableState}
use Rattle.hm_data.specs.declared.catalog.TableState.TheVariants as state_is
use Rattle.hm_data.specs.declared.place.Goal.{Goal}
use Rattle.hm_data.specs.declared.place.Goal.TheVariants as goal_is
use Rattle.hm_data.specs.declared.place.RegionState.TheVariants as place_is
use Rattle.hm_data.specs.declared.step.StepIn.{StepIn}
use Rattle.hm_data.specs.declared.step.StepOut.{StepOut}
use Rattle.hm_model.specs.ActSorts.{editing_kinds, is_edit, is_plain}
use Rattle.hm_model.specs.Answers.{no_row}
use Rattle.hm_model.specs.CallActs.{ends_as_told, layout_told, settle_layout, unless_gone}
use Rattle.hm_model.specs.CrashActs.{reassign_all}
use Rattle.hm_model.specs.MadeOf.{AnswersAreMade, AreMoved, Asks, Becomes, Edits, Gives, IsMadeOf, IsOwnKey, LeadsNear, Makes, Making, Which, can_fail, key_kinds, making}
use Rattle.hm_model.specs.Outs.{checked, ends_with, given, gives, goes_on, places}
use Rattle.hm_model.specs.TransitActs.{behind_close, candidate, close_at, close_or_go, closed_or_lost, is_open, is_placed, is_state, is_told, lost_if, may_open_in, opened_or_not, told_place}
use Rattle.hm_model.specs.Undoing.{closed_by}
use Rattle.hm_model.specs.Views.{asked_of, bounds_of, namespace_of, region_of, table_of}
use Rattle.hm_model.specs.NamespaceActs.{set_state, version_of}
use Rattle.hm_model.specs.RegionActs.{close_parents, cut_of, open_new}
use Rattle.hm_model.specs.Wanted.{goal_in, layout_of, server_of}

module _ (act : Act) (next : ℕ) (at : StepIn) where
  made_on : IsMadeOf act next at (goes_on next)
  made_on = by (next == no_row)
    where
      by : (b : Bool) → IsMadeOf act next at (gives (cond b (answer_is.Done told_is.Nothing) (answer_is.More next)) [])
      by true = IsMadeOf.ended told_is.Nothing
      by false = IsMadeOf.went_on

  made_given : {A : Type 0} (part : Option A) (does : A → StepOut) → ((x : A) → part ≡ Some x → IsMadeOf act next at (does x)) → IsMadeOf act next at (given part next does)
  made_given None does each = made_on
  made_given (Some part) does each = each part refl

  made_checked : can_fail act ≡ true → (cause : Option Cause) → IsMadeOf act next at (checked next cause)
  made_checked may None = IsMadeOf.went_on
  made_checked may (Some cause) = IsMadeOf.failed may cause

  made_reassign : (children : List Child) → Makes act at children → IsMadeOf act next at (reassign_all next children)
  made_reassign [] makes = IsMadeOf.ended told_is.Nothing
  made_reassign (child ∷ more) makes = IsMadeOf.made (child ∷ more) makes

  made_unless : (gone : Bool) (out : StepOut) → IsMadeOf act next at out → IsMadeOf act next at (unless_gone gone out)
  made_unless true out is = IsMadeOf.ended told_is.Gone
  made_unless false out is = is

  made_report : (told : Option Told) → IsMadeOf act next at (ends_as_told told)
  made_report None = IsMadeOf.ended told_is.Nothing
  made_report (Some told) = IsMadeOf.ended told

  made_told : can_fail act ≡ true → (told : Told) → IsMadeOf act next at (layout_told told)
  made_told may told_is.Refused = IsMadeOf.failed may cause_is.LayoutRefused
  made_told may told = IsMadeOf.ended _

  made_layout : can_fail act ≡ true → (told : Option Told) → IsMadeOf act next at (settle_layout told)
  made_layout may None = IsMadeOf.ended told_is.Nothing
  made_layout may (Some told) = made_told may told

  -- acts of transits
  lost_gives : (b : Bool) → Gives at (lost_if b)
  lost_gives false = Gives.left
  lost_gives true = Gives.away place_is.AbnormallyClosed

  behind_near : (goal : Goal) (told : Told) → LeadsNear next (behind_close goal told)
  behind_near goal_is.Unassign told = tt
  behind_near goal told = inr refl

  made_candidate : is_plain act ≡ false → (may : Bool) → IsMadeOf act next at (candidate next may (told_place at.place) at.fenced at.pick)
  made_candidate off false = IsMadeOf.placed off (answer_is.Done told_is.Nothing) tt (lost_if (is_placed (told_place at.place) && at.fenced)) (lost_gives (is_placed (told_place at.place) && at.fenced))
  made_candidate off true = by (is_open (told_place at.place) at.fenced)
    where
      by : (b : Bool) → IsMadeOf act next at (cond b (ends_with told_is.Nothing) (places (answer_is.More next) (Some (record { state = place_is.Opening; server = at.pick }))))
      by true = IsMadeOf.ended told_is.Nothing
      by false = IsMadeOf.placed off (answer_is.More next) (inl refl) (Some (record { state = place_is.Opening; server = at.pick })) (Gives.picked place_is.Opening)

  made_opened : is_plain act ≡ false → (b : Bool) → IsMadeOf act next at (opened_or_not next (told_place at.place).server b)
  made_opened off true = IsMadeOf.placed off (answer_is.Done told_is.Opened) tt (Some (record { state = place_is.Opened; server = (told_place at.place).server })) (Gives.there place_is.Opened)
  made_opened off false = IsMadeOf.placed off (answer_is.More next) (inl refl) (Some (record { state = place_is.FailedOpen; server = (told_place at.place).server })) (Gives.there place_is.FailedOpen)

  made_shut : is_plain act ≡ false → (region : Region) → region_of at.args ≡ Some region → (b : Bool) → IsMadeOf act next at (close_or_go next (goal_in at.args) region (told_place at.place) b)
  made_shut off region own true = made_given (told_place at.place).server (close_at next region) (λ server is. IsMadeOf.shut off region own server is)
  made_shut off region own false = IsMadeOf.placed off (behind_close (goal_in at.args) told_is.Nothing) (behind_near (goal_in at.args) told_is.Nothing) (lost_if (is_state place_is.Opened (told_place at.place))) (lost_gives (is_state place_is.Opened (told_place at.place)))

  -- acts on tables
  made_state : is_edit act ≡ true → ((table : TableName) → editing_kinds act ≡ key_kinds (key_is.Table table)) → (state : TableState) → IsMadeOf act next at (set_state state next at.args at.rows)
  made_state edits kinds state = made_given (table_of at.args) _ (λ table is. IsMadeOf.edited edits _ (Edits.one_row (key_is.Table table) (IsOwnKey.of_name table is) (kinds table) _ (Becomes.state state)))

  made_new : (count : ℕ) → making act ≡ Making.moves goal_is.Assign (Which.drawn count) → IsMadeOf act next at (open_new count next at.args)
  made_new count is = made_given (table_of at.args) _ (λ table own. IsMadeOf.made _ (Makes.sends goal_is.Assign tt (Which.drawn count) is _ (AreMoved.of_drawn count table own)))

  made_parents : making act ≡ Making.moves goal_is.Unassign Which.closed → IsMadeOf act next at (close_parents next at.args)
  made_parents is = IsMadeOf.made _ (Makes.sends goal_is.Unassign tt Which.closed is (closed_by at.args) AreMoved.of_closed)

-- what each act's answer is made of
pub made_of : AnswersAreMade
made_of act_is.CheckNamespaceFree next at = made_given act_is.CheckNamespaceFree next at (namespace_of at.args) _ (λ ns is. made_checked act_is.CheckNamespaceFree next at refl _)
made_of act_is.AddNamespace next at = made_given act_is.AddNamespace next at (namespace_of at.args) _ (λ ns is. IsMadeOf.edited refl _ (Edits.one_row (key_is.Ns ns) (IsOwnKey.of_namespace ns is) refl _ Becomes.namespace))
made_of act_is.CheckNamespaceEmpty next at = made_given act_is.CheckNamespaceEmpty next at (namespace_of at.args) _ (λ ns is. made_checked act_is.CheckNamespaceEmpty next at refl _)
made_of act_is.DropNamespace next at = made_given act_is.DropNamespace next at (namespace_of at.args) _ (λ ns is. IsMadeOf.edited refl _ (Edits.one_row (key_is.Ns ns) (IsOwnKey.of_namespace ns is) refl _ Becomes.goes))
made_of act_is.CheckTableFree next at = made_given act_is.CheckTableFree next at (table_of at.args) _ (λ table is. made_checked act_is.CheckTableFree next at refl _)
made_of act_is.AddTable next at = made_given act_is.AddTable next at (table_of at.args) _ (λ table is. IsMadeOf.edited refl _ (Edits.one_row (key_is.Table table) (IsOwnKey.of_name table is) refl _ (Becomes.table state_is.Disabled)))
made_of act_is.Layout next at = IsMadeOf.made _ (Makes.lays refl)
made_of act_is.AddRegions next at = made_given act_is.AddRegions next at (table_of at.args) _ (λ table is. made_given act_is.AddRegions next at (bounds_of at.args) _ (λ bounds are. IsMadeOf.made _ (Makes.adds_all refl table is bounds are)))
made_of act_is.SetEnabling next at = made_state act_is.SetEnabling next at refl (λ table. refl) state_is.Enabling
made_of act_is.OpenRegions next at = made_given act_is.OpenRegions next at (table_of at.args) _ (λ table is. IsMadeOf.made _ (Makes.sends goal_is.Assign tt Which.own refl _ (AreMoved.of_table table is)))
made_of act_is.SetEnabled next at = made_state act_is.SetEnabled next at refl (λ table. refl) state_is.Enabled
made_of act_is.CheckTableDisabled next at = made_given act_is.CheckTableDisabled next at (table_of at.args) _ (λ table is. made_checked act_is.CheckTableDisabled next at refl _)
made_of act_is.DropRegions next at = made_given act_is.DropRegions next at (table_of at.args) _ (λ table is. IsMadeOf.made _ (Makes.drops_all refl table is))
made_of act_is.DropTable next at = made_given act_is.DropTable next at (table_of at.args) _ (λ table is. IsMadeOf.edited refl _ (Edits.one_row (key_is.Table table) (IsOwnKey.of_name table is) refl _ Becomes.goes))
made_of act_is.CheckTableEnabled next at = made_given act_is.CheckTableEnabled next at (table_of at.args) _ (λ table is. made_checked act_is.CheckTableEnabled next at refl _)
made_of act_is.SetDisabling next at = made_state act_is.SetDisabling next at refl (λ table. refl) state_is.Disabling
made_of act_is.CloseRegions next at = made_given act_is.CloseRegions next at (table_of at.args) _ (λ table is. IsMadeOf.made _ (Makes.sends goal_is.Unassign tt Which.own refl _ (AreMoved.of_table table is)))
made_of act_is.SetDisabled next at = made_state act_is.SetDisabled next at refl (λ table. refl) state_is.Disabled
made_of act_is.SetVersion next at = made_given act_is.SetVersion next at (table_of at.args) _ (λ table is. made_given act_is.SetVersion next at (version_of (asked_of at.args)) _ (λ version e. IsMadeOf.edited refl _ (Edits.one_row (key_is.Table table) (IsOwnKey.of_name table is) refl _ (Becomes.version version))))
made_of act_is.CheckSplit next at = made_given act_is.CheckSplit next at (region_of at.args) _ (λ region is. made_given act_is.CheckSplit next at (cut_of (asked_of at.args)) _ (λ key e. made_checked act_is.CheckSplit next at refl _))
made_of act_is.CloseParent next at = made_parents act_is.CloseParent next at refl
made_of act_is.UpdateSplitMeta next at = made_given act_is.UpdateSplitMeta next at (region_of at.args) _ (λ region is. made_given act_is.UpdateSplitMeta next at (cut_of (asked_of at.args)) _ (λ key cut. IsMadeOf.edited refl _ (Edits.splits refl region is key cut)))
made_of act_is.OpenDaughters next at = made_new act_is.OpenDaughters next at 2 refl
made_of act_is.Finish next at = IsMadeOf.ended told_is.Nothing
made_of act_is.CheckMerge next at = made_checked act_is.CheckMerge next at refl _
made_of act_is.CloseParents next at = made_parents act_is.CloseParents next at refl
made_of act_is.UpdateMergeMeta next at = IsMadeOf.edited refl _ (Edits.merges refl)
made_of act_is.OpenMerged next at = made_new act_is.OpenMerged next at 1 refl
made_of act_is.AddRegionRows next at = made_given act_is.AddRegionRows next at (table_of at.args) _ (λ table is. made_given act_is.AddRegionRows next at (bounds_of at.args) _ (λ bounds are. IsMadeOf.edited refl _ (Edits.adds_rows refl table is bounds are)))
made_of act_is.DropRegionRows next at = made_given act_is.DropRegionRows next at (table_of at.args) _ (λ table is. IsMadeOf.edited refl _ (Edits.removes_rows refl table is))
made_of act_is.GetAssignCandidate next at = made_given act_is.GetAssignCandidate next at (region_of at.args) _ (λ region is. made_candidate act_is.GetAssignCandidate next at refl (may_open_in at.rows region))
made_of act_is.Open next at = made_given act_is.Open next at (region_of at.args) _ (λ region is. made_given act_is.Open next at (told_place at.place).server _ (λ server there. IsMadeOf.made _ (Makes.opens refl region is server there)))
made_of act_is.ConfirmOpened next at = made_opened act_is.ConfirmOpened next at refl (is_told told_is.Opened at.ends)
made_of act_is.Close next at = made_given act_is.Close next at (region_of at.args) _ (λ region is. made_shut act_is.Close next at refl region is (is_open (told_place at.place) at.fenced))
made_of act_is.ConfirmClosed next at = IsMadeOf.placed refl _ (behind_near act_is.ConfirmClosed next at (goal_in at.args) told_is.Closed) _ (Gives.away (closed_or_lost (is_told told_is.Closed at.ends)))
made_of act_is.CheckMove next at = made_given act_is.CheckMove next at (region_of at.args) _ (λ region is. made_checked act_is.CheckMove next at refl _)
made_of act_is.Fence next at = made_given act_is.Fence next at (server_of at.args) _ (λ server is. IsMadeOf.made _ (Makes.fences refl server is))
made_of act_is.Reassign next at = made_reassign act_is.Reassign next at _ (Makes.sends goal_is.Assign tt Which.lost refl at.on_server AreMoved.of_lost)
made_of act_is.CallAssign next at = made_unless act_is.CallAssign next at at.fenced _ (made_given act_is.CallAssign next at (region_of at.args) _ (λ region is. IsMadeOf.called refl _ (Asks.opening region is)))
made_of act_is.CallClose next at = made_unless act_is.CallClose next at at.fenced _ (made_given act_is.CallClose next at (region_of at.args) _ (λ region is. IsMadeOf.called refl _ (Asks.closing region is)))
made_of act_is.Settle next at = made_unless act_is.Settle next at at.fenced _ (made_report act_is.Settle next at at.report)
made_of act_is.CallFence next at = made_given act_is.CallFence next at (server_of at.args) _ (λ server is. IsMadeOf.called refl _ (Asks.fencing_off server is))
made_of act_is.CallLayout next at = made_given act_is.CallLayout next at (layout_of at.args) _ (λ root is. IsMadeOf.called refl _ (Asks.laying root is))
made_of act_is.SettleLayout next at = made_layout act_is.SettleLayout next at refl at.report
made_of act_is.CallSweep next at = made_given act_is.CallSweep next at (layout_of at.args) _ (λ root is. IsMadeOf.called refl _ (Asks.sweeping root is))
