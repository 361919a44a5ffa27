-- What has the number of an act is the act.
use Rattle.std.proofs.Common.{◌≡◌, Some, refl}
use Rattle.hm_data.specs.declared.act.Act.{Act}
use Rattle.hm_data.specs.declared.act.Act.TheVariants as act_is
use Rattle.hm_data.specs.Numbers.{act_number, act_of}

pub act_of-act_number : (act : Act) → act_of (act_number act) ≡ Some act
act_of-act_number act_is.CheckNamespaceFree = refl
act_of-act_number act_is.AddNamespace = refl
act_of-act_number act_is.CheckNamespaceEmpty = refl
act_of-act_number act_is.DropNamespace = refl
act_of-act_number act_is.CheckTableFree = refl
act_of-act_number act_is.AddTable = refl
act_of-act_number act_is.Layout = refl
act_of-act_number act_is.AddRegions = refl
act_of-act_number act_is.SetEnabling = refl
act_of-act_number act_is.OpenRegions = refl
act_of-act_number act_is.SetEnabled = refl
act_of-act_number act_is.CheckTableDisabled = refl
act_of-act_number act_is.DropRegions = refl
act_of-act_number act_is.DropTable = refl
act_of-act_number act_is.CheckTableEnabled = refl
act_of-act_number act_is.SetDisabling = refl
act_of-act_number act_is.CloseRegions = refl
act_of-act_number act_is.SetDisabled = refl
act_of-act_number act_is.SetVersion = refl
act_of-act_number act_is.CheckSplit = refl
act_of-act_number act_is.CloseParent = refl
act_of-act_number act_is.UpdateSplitMeta = refl
act_of-act_number act_is.OpenDaughters = refl
act_of-act_number act_is.Finish = refl
act_of-act_number act_is.CheckMerge = refl
act_of-act_number act_is.CloseParents = refl
act_of-act_number act_is.UpdateMergeMeta = refl
act_of-act_number act_is.OpenMerged = refl
act_of-act_number act_is.AddRegionRows = refl
act_of-act_number act_is.DropRegionRows = refl
act_of-act_number act_is.GetAssignCandidate = refl
act_of-act_number act_is.Open = refl
act_of-act_number act_is.ConfirmOpened = refl
act_of-act_number act_is.Close = refl
act_of-act_number act_is.ConfirmClosed = refl
act_of-act_number act_is.CheckMove = refl
act_of-act_number act_is.Fence = refl
act_of-act_number act_is.Reassign = refl
act_of-act_number act_is.CallAssign = refl
act_of-act_number act_is.CallClose = refl
act_of-act_number act_is.Settle = refl
act_of-act_number act_is.CallFence = refl
act_of-act_number act_is.CallLayout = refl
act_of-act_number act_is.SettleLayout = refl
act_of-act_number act_is.CallSweep = refl
