-- Sheets of all kinds, for journals that are worked by hand.
use Rattle.std.proofs.Common.{zero, suc, List, [], ◌∷◌, true, false, refl}
use Rattle.hm_names.specs.declared.range.KeyRange.{KeyRange}
use Rattle.hm_data.specs.declared.act.Act.TheVariants as act_is
use Rattle.hm_data.specs.declared.act.Back.TheVariants as back_is
use Rattle.hm_data.specs.declared.sheet.Sheet.{Sheet}
use Rattle.hm_model.specs.Validity.{AllValid, IsValid}
use Rattle.hm_model.proofs.ByHand.{row, sheet}

-- the range of all keys
abbrev pub whole : KeyRange
whole = record { start = []; end = [] }

abbrev create_namespace_sheet : Sheet
create_namespace_sheet = sheet 1 (row act_is.CheckNamespaceFree 1 false back_is.Nothing ∷ row act_is.AddNamespace 255 false back_is.Nothing ∷ [])

create_namespace_valid : IsValid create_namespace_sheet
create_namespace_valid zero = refl
create_namespace_valid (suc zero) = refl
create_namespace_valid (suc (suc k)) = refl

abbrev drop_namespace_sheet : Sheet
drop_namespace_sheet = sheet 2 (row act_is.CheckNamespaceEmpty 1 false back_is.Nothing ∷ row act_is.DropNamespace 255 false back_is.Nothing ∷ [])

drop_namespace_valid : IsValid drop_namespace_sheet
drop_namespace_valid zero = refl
drop_namespace_valid (suc zero) = refl
drop_namespace_valid (suc (suc k)) = refl

abbrev create_table_sheet : Sheet
create_table_sheet = sheet 3 (row act_is.CheckTableFree 1 false back_is.Nothing ∷ row act_is.AddTable 2 false back_is.Edits ∷ row act_is.Layout 3 false back_is.Sweep ∷ row act_is.AddRegions 4 false back_is.Nothing ∷ row act_is.SetEnabling 5 false back_is.Edits ∷ row act_is.OpenRegions 6 true back_is.Nothing ∷ row act_is.SetEnabled 255 true back_is.Nothing ∷ [])

create_table_valid : IsValid create_table_sheet
create_table_valid zero = refl
create_table_valid (suc zero) = refl
create_table_valid (suc (suc zero)) = refl
create_table_valid (suc (suc (suc zero))) = refl
create_table_valid (suc (suc (suc (suc zero)))) = refl
create_table_valid (suc (suc (suc (suc (suc zero))))) = refl
create_table_valid (suc (suc (suc (suc (suc (suc zero)))))) = refl
create_table_valid (suc (suc (suc (suc (suc (suc (suc k))))))) = refl

abbrev delete_table_sheet : Sheet
delete_table_sheet = sheet 4 (row act_is.CheckTableDisabled 1 false back_is.Nothing ∷ row act_is.DropRegions 2 true back_is.Nothing ∷ row act_is.DropTable 255 true back_is.Nothing ∷ [])

delete_table_valid : IsValid delete_table_sheet
delete_table_valid zero = refl
delete_table_valid (suc zero) = refl
delete_table_valid (suc (suc zero)) = refl
delete_table_valid (suc (suc (suc k))) = refl

abbrev enable_table_sheet : Sheet
enable_table_sheet = sheet 5 (row act_is.CheckTableDisabled 1 false back_is.Nothing ∷ row act_is.SetEnabling 2 false back_is.Edits ∷ row act_is.OpenRegions 3 true back_is.Nothing ∷ row act_is.SetEnabled 255 true back_is.Nothing ∷ [])

enable_table_valid : IsValid enable_table_sheet
enable_table_valid zero = refl
enable_table_valid (suc zero) = refl
enable_table_valid (suc (suc zero)) = refl
enable_table_valid (suc (suc (suc zero))) = refl
enable_table_valid (suc (suc (suc (suc k)))) = refl

abbrev disable_table_sheet : Sheet
disable_table_sheet = sheet 6 (row act_is.CheckTableEnabled 1 false back_is.Nothing ∷ row act_is.SetDisabling 2 false back_is.Edits ∷ row act_is.CloseRegions 3 true back_is.Nothing ∷ row act_is.SetDisabled 255 true back_is.Nothing ∷ [])

disable_table_valid : IsValid disable_table_sheet
disable_table_valid zero = refl
disable_table_valid (suc zero) = refl
disable_table_valid (suc (suc zero)) = refl
disable_table_valid (suc (suc (suc zero))) = refl
disable_table_valid (suc (suc (suc (suc k)))) = refl

abbrev modify_table_sheet : Sheet
modify_table_sheet = sheet 7 (row act_is.CheckTableDisabled 1 false back_is.Nothing ∷ row act_is.SetVersion 255 false back_is.Nothing ∷ [])

modify_table_valid : IsValid modify_table_sheet
modify_table_valid zero = refl
modify_table_valid (suc zero) = refl
modify_table_valid (suc (suc k)) = refl

abbrev split_region_sheet : Sheet
split_region_sheet = sheet 8 (row act_is.CheckSplit 1 false back_is.Nothing ∷ row act_is.CloseParent 2 false back_is.Reopen ∷ row act_is.Layout 3 false back_is.Sweep ∷ row act_is.UpdateSplitMeta 4 false back_is.Edits ∷ row act_is.OpenDaughters 5 true back_is.Nothing ∷ row act_is.Finish 255 true back_is.Nothing ∷ [])

split_region_valid : IsValid split_region_sheet
split_region_valid zero = refl
split_region_valid (suc zero) = refl
split_region_valid (suc (suc zero)) = refl
split_region_valid (suc (suc (suc zero))) = refl
split_region_valid (suc (suc (suc (suc zero)))) = refl
split_region_valid (suc (suc (suc (suc (suc zero))))) = refl
split_region_valid (suc (suc (suc (suc (suc (suc k)))))) = refl

abbrev merge_regions_sheet : Sheet
merge_regions_sheet = sheet 9 (row act_is.CheckMerge 1 false back_is.Nothing ∷ row act_is.CloseParents 2 false back_is.Reopen ∷ row act_is.Layout 3 false back_is.Sweep ∷ row act_is.UpdateMergeMeta 4 false back_is.Edits ∷ row act_is.OpenMerged 5 true back_is.Nothing ∷ row act_is.Finish 255 true back_is.Nothing ∷ [])

merge_regions_valid : IsValid merge_regions_sheet
merge_regions_valid zero = refl
merge_regions_valid (suc zero) = refl
merge_regions_valid (suc (suc zero)) = refl
merge_regions_valid (suc (suc (suc zero))) = refl
merge_regions_valid (suc (suc (suc (suc zero)))) = refl
merge_regions_valid (suc (suc (suc (suc (suc zero))))) = refl
merge_regions_valid (suc (suc (suc (suc (suc (suc k)))))) = refl

abbrev transit_sheet : Sheet
transit_sheet = sheet 10 (row act_is.GetAssignCandidate 1 true back_is.Nothing ∷ row act_is.Open 2 true back_is.Nothing ∷ row act_is.ConfirmOpened 0 true back_is.Nothing ∷ row act_is.Close 4 true back_is.Nothing ∷ row act_is.ConfirmClosed 0 true back_is.Nothing ∷ row act_is.CheckMove 3 false back_is.Nothing ∷ [])

transit_valid : IsValid transit_sheet
transit_valid zero = refl
transit_valid (suc zero) = refl
transit_valid (suc (suc zero)) = refl
transit_valid (suc (suc (suc zero))) = refl
transit_valid (suc (suc (suc (suc zero)))) = refl
transit_valid (suc (suc (suc (suc (suc zero))))) = refl
transit_valid (suc (suc (suc (suc (suc (suc k)))))) = refl

abbrev crash_sheet : Sheet
crash_sheet = sheet 11 (row act_is.Fence 1 true back_is.Nothing ∷ row act_is.Reassign 1 true back_is.Nothing ∷ [])

crash_valid : IsValid crash_sheet
crash_valid zero = refl
crash_valid (suc zero) = refl
crash_valid (suc (suc k)) = refl

abbrev add_regions_sheet : Sheet
add_regions_sheet = sheet 20 (row act_is.AddRegionRows 255 false back_is.Edits ∷ [])

add_regions_valid : IsValid add_regions_sheet
add_regions_valid zero = refl
add_regions_valid (suc k) = refl

abbrev drop_regions_sheet : Sheet
drop_regions_sheet = sheet 21 (row act_is.DropRegionRows 255 true back_is.Nothing ∷ [])

drop_regions_valid : IsValid drop_regions_sheet
drop_regions_valid zero = refl
drop_regions_valid (suc k) = refl

abbrev assign_call_sheet : Sheet
assign_call_sheet = sheet 23 (row act_is.CallAssign 1 true back_is.Nothing ∷ row act_is.Settle 255 true back_is.Nothing ∷ [])

assign_call_valid : IsValid assign_call_sheet
assign_call_valid zero = refl
assign_call_valid (suc zero) = refl
assign_call_valid (suc (suc k)) = refl

abbrev close_call_sheet : Sheet
close_call_sheet = sheet 24 (row act_is.CallClose 1 true back_is.Nothing ∷ row act_is.Settle 255 true back_is.Nothing ∷ [])

close_call_valid : IsValid close_call_sheet
close_call_valid zero = refl
close_call_valid (suc zero) = refl
close_call_valid (suc (suc k)) = refl

abbrev fence_call_sheet : Sheet
fence_call_sheet = sheet 25 (row act_is.CallFence 1 true back_is.Nothing ∷ row act_is.Settle 255 true back_is.Nothing ∷ [])

fence_call_valid : IsValid fence_call_sheet
fence_call_valid zero = refl
fence_call_valid (suc zero) = refl
fence_call_valid (suc (suc k)) = refl

abbrev layout_call_sheet : Sheet
layout_call_sheet = sheet 26 (row act_is.CallLayout 1 false back_is.Nothing ∷ row act_is.SettleLayout 255 false back_is.Nothing ∷ [])

layout_call_valid : IsValid layout_call_sheet
layout_call_valid zero = refl
layout_call_valid (suc zero) = refl
layout_call_valid (suc (suc k)) = refl

abbrev sweep_layout_sheet : Sheet
sweep_layout_sheet = sheet 27 (row act_is.CallSweep 1 true back_is.Nothing ∷ row act_is.Settle 255 true back_is.Nothing ∷ [])

sweep_layout_valid : IsValid sweep_layout_sheet
sweep_layout_valid zero = refl
sweep_layout_valid (suc zero) = refl
sweep_layout_valid (suc (suc k)) = refl

abbrev pub sheets : List Sheet
sheets = create_namespace_sheet ∷ drop_namespace_sheet ∷ create_table_sheet ∷ delete_table_sheet ∷ enable_table_sheet ∷ disable_table_sheet ∷ modify_table_sheet ∷ split_region_sheet ∷ merge_regions_sheet ∷ transit_sheet ∷ crash_sheet ∷ add_regions_sheet ∷ drop_regions_sheet ∷ assign_call_sheet ∷ close_call_sheet ∷ fence_call_sheet ∷ layout_call_sheet ∷ sweep_layout_sheet ∷ []

pub sheets_valid : AllValid sheets
sheets_valid = (create_namespace_valid, (drop_namespace_valid, (create_table_valid, (delete_table_valid, (enable_table_valid, (disable_table_valid, (modify_table_valid, (split_region_valid, (merge_regions_valid, (transit_valid, (crash_valid, (add_regions_valid, (drop_regions_valid, (assign_call_valid, (close_call_valid, (fence_call_valid, (layout_call_valid, (sweep_layout_valid, tt))))))))))))))))))
