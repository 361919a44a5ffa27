-- What each act answers at an input.
use Rattle.std.specs.Prelude.{ℕ}
use Rattle.hm_data.specs.declared.act.Act.{Act}
use Rattle.hm_data.specs.declared.act.Act.TheVariants as act_is
use Rattle.hm_data.specs.declared.catalog.TableState.TheVariants as state_is
use Rattle.hm_data.specs.declared.step.StepIn.{StepIn}
use Rattle.hm_data.specs.declared.step.StepOut.{StepOut}
use Rattle.hm_model.specs.NamespaceActs.{check_free_namespace, add_namespace, check_namespace_empty, drop_namespace, check_table_free, add_table, lay_out, set_state, check_table_disabled, drop_table, check_table_enabled, set_version}
use Rattle.hm_model.specs.RegionActs.{add_regions, open_regions, drop_regions, close_regions, check_split, close_parents, update_split_meta, open_new, finish, check_merge, update_merge_meta, add_region_rows, drop_region_rows}
use Rattle.hm_model.specs.TransitActs.{get_assign_candidate, open_there, confirm_opened, close_there, confirm_closed, check_move}
use Rattle.hm_model.specs.CrashActs.{fence, reassign}
use Rattle.hm_model.specs.CallActs.{call_assign, call_close, settle_call, call_fence, call_layout, settle_layout, call_sweep}

-- what an act answers that leads to a row, by the parts of the input that it reads
abbrev pub act_answer : Act → ℕ → StepIn → StepOut
act_answer act_is.CheckNamespaceFree next at = check_free_namespace next at.args at.rows
act_answer act_is.AddNamespace next at = add_namespace next at.args at.rows
act_answer act_is.CheckNamespaceEmpty next at = check_namespace_empty next at.args at.rows
act_answer act_is.DropNamespace next at = drop_namespace next at.args at.rows
act_answer act_is.CheckTableFree next at = check_table_free next at.args at.rows
act_answer act_is.AddTable next at = add_table next at.args at.rows
act_answer act_is.Layout next at = lay_out next at.root
act_answer act_is.AddRegions next at = add_regions next at.args
act_answer act_is.SetEnabling next at = set_state state_is.Enabling next at.args at.rows
act_answer act_is.OpenRegions next at = open_regions next at.args at.rows
act_answer act_is.SetEnabled next at = set_state state_is.Enabled next at.args at.rows
act_answer act_is.CheckTableDisabled next at = check_table_disabled next at.args at.rows
act_answer act_is.DropRegions next at = drop_regions next at.args at.rows
act_answer act_is.DropTable next at = drop_table next at.args at.rows
act_answer act_is.CheckTableEnabled next at = check_table_enabled next at.args at.rows
act_answer act_is.SetDisabling next at = set_state state_is.Disabling next at.args at.rows
act_answer act_is.CloseRegions next at = close_regions next at.args at.rows
act_answer act_is.SetDisabled next at = set_state state_is.Disabled next at.args at.rows
act_answer act_is.SetVersion next at = set_version next at.args at.rows
act_answer act_is.CheckSplit next at = check_split next at.args at.rows
act_answer act_is.CloseParent next at = close_parents next at.args
act_answer act_is.UpdateSplitMeta next at = update_split_meta next at.args at.rows
act_answer act_is.OpenDaughters next at = open_new 2 next at.args
act_answer act_is.Finish next at = finish
act_answer act_is.CheckMerge next at = check_merge next at.args at.rows
act_answer act_is.CloseParents next at = close_parents next at.args
act_answer act_is.UpdateMergeMeta next at = update_merge_meta next at.args at.rows
act_answer act_is.OpenMerged next at = open_new 1 next at.args
act_answer act_is.AddRegionRows next at = add_region_rows next at.args at.rows
act_answer act_is.DropRegionRows next at = drop_region_rows next at.args at.rows
act_answer act_is.GetAssignCandidate next at = get_assign_candidate next at.args at.rows at.place at.fenced at.pick
act_answer act_is.Open next at = open_there next at.args at.place
act_answer act_is.ConfirmOpened next at = confirm_opened next at.ends at.place
act_answer act_is.Close next at = close_there next at.args at.place at.fenced
act_answer act_is.ConfirmClosed next at = confirm_closed at.args at.ends
act_answer act_is.CheckMove next at = check_move next at.args at.rows
act_answer act_is.Fence next at = fence next at.args
act_answer act_is.Reassign next at = reassign next at.on_server
act_answer act_is.CallAssign next at = call_assign next at.args at.fenced
act_answer act_is.CallClose next at = call_close next at.args at.fenced
act_answer act_is.Settle next at = settle_call at.fenced at.report
act_answer act_is.CallFence next at = call_fence next at.args
act_answer act_is.CallLayout next at = call_layout next at.args
act_answer act_is.SettleLayout next at = settle_layout at.report
act_answer act_is.CallSweep next at = call_sweep next at.args
