-- The numbers of what the log spells by one.
use Rattle.std.specs.Prelude.{ℕ, Option, Some, None, ◌==◌, if◌then◌else◌}
use Rattle.hm_data.specs.declared.catalog.TableState.{TableState}
use Rattle.hm_data.specs.declared.catalog.TableState.TheVariants as table_state_is
use Rattle.hm_data.specs.declared.catalog.Status.{Status}
use Rattle.hm_data.specs.declared.catalog.Status.TheVariants as status_is
use Rattle.hm_data.specs.declared.place.RegionState.{RegionState}
use Rattle.hm_data.specs.declared.place.RegionState.TheVariants as region_state_is
use Rattle.hm_data.specs.declared.place.Goal.{Goal}
use Rattle.hm_data.specs.declared.place.Goal.TheVariants as goal_is
use Rattle.hm_data.specs.declared.call.Told.{Told}
use Rattle.hm_data.specs.declared.call.Told.TheVariants as told_is
use Rattle.hm_data.specs.declared.act.Act.{Act}
use Rattle.hm_data.specs.declared.act.Act.TheVariants as act_is
use Rattle.hm_data.specs.declared.act.Back.{Back}
use Rattle.hm_data.specs.declared.act.Back.TheVariants as back_is
use Rattle.hm_data.specs.declared.answer.Cause.{Cause}
use Rattle.hm_data.specs.declared.answer.Cause.TheVariants as cause_is

-- the number of a state of a table
abbrev pub table_state_number : TableState → ℕ
table_state_number table_state_is.Enabling = 0
table_state_number table_state_is.Enabled = 1
table_state_number table_state_is.Disabling = 2
table_state_number table_state_is.Disabled = 3

-- and what has a number
abbrev pub table_state_of : ℕ → Option TableState
table_state_of n =
    if n == 0 then Some table_state_is.Enabling
    else (if n == 1 then Some table_state_is.Enabled
    else (if n == 2 then Some table_state_is.Disabling
    else (if n == 3 then Some table_state_is.Disabled
    else None)))

-- the number of a status of a region
abbrev pub status_number : Status → ℕ
status_number status_is.Live = 0
status_number status_is.Split = 1
status_number status_is.Merged = 2

-- and what has a number
abbrev pub status_of : ℕ → Option Status
status_of n =
    if n == 0 then Some status_is.Live
    else (if n == 1 then Some status_is.Split
    else (if n == 2 then Some status_is.Merged
    else None))

-- the number of a state of a region
abbrev pub region_state_number : RegionState → ℕ
region_state_number region_state_is.Offline = 0
region_state_number region_state_is.Opening = 1
region_state_number region_state_is.Opened = 2
region_state_number region_state_is.Closing = 3
region_state_number region_state_is.Closed = 4
region_state_number region_state_is.FailedOpen = 5
region_state_number region_state_is.AbnormallyClosed = 6

-- and what has a number
abbrev pub region_state_of : ℕ → Option RegionState
region_state_of n =
    if n == 0 then Some region_state_is.Offline
    else (if n == 1 then Some region_state_is.Opening
    else (if n == 2 then Some region_state_is.Opened
    else (if n == 3 then Some region_state_is.Closing
    else (if n == 4 then Some region_state_is.Closed
    else (if n == 5 then Some region_state_is.FailedOpen
    else (if n == 6 then Some region_state_is.AbnormallyClosed
    else None))))))

-- the number of a goal
abbrev pub goal_number : Goal → ℕ
goal_number goal_is.Assign = 0
goal_number goal_is.Unassign = 1
goal_number goal_is.Move = 2

-- and what has a number
abbrev pub goal_of : ℕ → Option Goal
goal_of n =
    if n == 0 then Some goal_is.Assign
    else (if n == 1 then Some goal_is.Unassign
    else (if n == 2 then Some goal_is.Move
    else None))

-- the number of an answer
abbrev pub told_number : Told → ℕ
told_number told_is.Nothing = 0
told_number told_is.Opened = 1
told_number told_is.FailedOpen = 2
told_number told_is.Closed = 3
told_number told_is.Gone = 4
told_number told_is.Fenced = 5
told_number told_is.LaidOut = 6
told_number told_is.Refused = 7
told_number told_is.Swept = 8

-- and what has a number
abbrev pub told_of : ℕ → Option Told
told_of n =
    if n == 0 then Some told_is.Nothing
    else (if n == 1 then Some told_is.Opened
    else (if n == 2 then Some told_is.FailedOpen
    else (if n == 3 then Some told_is.Closed
    else (if n == 4 then Some told_is.Gone
    else (if n == 5 then Some told_is.Fenced
    else (if n == 6 then Some told_is.LaidOut
    else (if n == 7 then Some told_is.Refused
    else (if n == 8 then Some told_is.Swept
    else None))))))))

-- the number of an act
abbrev pub act_number : Act → ℕ
act_number act_is.CheckNamespaceFree = 1
act_number act_is.AddNamespace = 2
act_number act_is.CheckNamespaceEmpty = 3
act_number act_is.DropNamespace = 4
act_number act_is.CheckTableFree = 5
act_number act_is.AddTable = 6
act_number act_is.Layout = 7
act_number act_is.AddRegions = 8
act_number act_is.SetEnabling = 9
act_number act_is.OpenRegions = 10
act_number act_is.SetEnabled = 11
act_number act_is.CheckTableDisabled = 12
act_number act_is.DropRegions = 13
act_number act_is.DropTable = 14
act_number act_is.CheckTableEnabled = 15
act_number act_is.SetDisabling = 16
act_number act_is.CloseRegions = 17
act_number act_is.SetDisabled = 18
act_number act_is.SetVersion = 19
act_number act_is.CheckSplit = 20
act_number act_is.CloseParent = 21
act_number act_is.UpdateSplitMeta = 22
act_number act_is.OpenDaughters = 23
act_number act_is.Finish = 24
act_number act_is.CheckMerge = 25
act_number act_is.CloseParents = 26
act_number act_is.UpdateMergeMeta = 27
act_number act_is.OpenMerged = 28
act_number act_is.AddRegionRows = 29
act_number act_is.DropRegionRows = 30
act_number act_is.GetAssignCandidate = 31
act_number act_is.Open = 32
act_number act_is.ConfirmOpened = 33
act_number act_is.Close = 34
act_number act_is.ConfirmClosed = 35
act_number act_is.CheckMove = 36
act_number act_is.Fence = 37
act_number act_is.Reassign = 38
act_number act_is.CallAssign = 39
act_number act_is.CallClose = 40
act_number act_is.Settle = 41
act_number act_is.CallFence = 42
act_number act_is.CallLayout = 43
act_number act_is.SettleLayout = 44
act_number act_is.CallSweep = 45

-- and what has a number
abbrev pub act_of : ℕ → Option Act
act_of n =
    if n == 1 then Some act_is.CheckNamespaceFree
    else (if n == 2 then Some act_is.AddNamespace
    else (if n == 3 then Some act_is.CheckNamespaceEmpty
    else (if n == 4 then Some act_is.DropNamespace
    else (if n == 5 then Some act_is.CheckTableFree
    else (if n == 6 then Some act_is.AddTable
    else (if n == 7 then Some act_is.Layout
    else (if n == 8 then Some act_is.AddRegions
    else (if n == 9 then Some act_is.SetEnabling
    else (if n == 10 then Some act_is.OpenRegions
    else (if n == 11 then Some act_is.SetEnabled
    else (if n == 12 then Some act_is.CheckTableDisabled
    else (if n == 13 then Some act_is.DropRegions
    else (if n == 14 then Some act_is.DropTable
    else (if n == 15 then Some act_is.CheckTableEnabled
    else (if n == 16 then Some act_is.SetDisabling
    else (if n == 17 then Some act_is.CloseRegions
    else (if n == 18 then Some act_is.SetDisabled
    else (if n == 19 then Some act_is.SetVersion
    else (if n == 20 then Some act_is.CheckSplit
    else (if n == 21 then Some act_is.CloseParent
    else (if n == 22 then Some act_is.UpdateSplitMeta
    else (if n == 23 then Some act_is.OpenDaughters
    else (if n == 24 then Some act_is.Finish
    else (if n == 25 then Some act_is.CheckMerge
    else (if n == 26 then Some act_is.CloseParents
    else (if n == 27 then Some act_is.UpdateMergeMeta
    else (if n == 28 then Some act_is.OpenMerged
    else (if n == 29 then Some act_is.AddRegionRows
    else (if n == 30 then Some act_is.DropRegionRows
    else (if n == 31 then Some act_is.GetAssignCandidate
    else (if n == 32 then Some act_is.Open
    else (if n == 33 then Some act_is.ConfirmOpened
    else (if n == 34 then Some act_is.Close
    else (if n == 35 then Some act_is.ConfirmClosed
    else (if n == 36 then Some act_is.CheckMove
    else (if n == 37 then Some act_is.Fence
    else (if n == 38 then Some act_is.Reassign
    else (if n == 39 then Some act_is.CallAssign
    else (if n == 40 then Some act_is.CallClose
    else (if n == 41 then Some act_is.Settle
    else (if n == 42 then Some act_is.CallFence
    else (if n == 43 then Some act_is.CallLayout
    else (if n == 44 then Some act_is.SettleLayout
    else (if n == 45 then Some act_is.CallSweep
    else None))))))))))))))))))))))))))))))))))))))))))))

-- the number of an undo
abbrev pub back_number : Back → ℕ
back_number back_is.Nothing = 0
back_number back_is.Edits = 1
back_number back_is.Sweep = 2
back_number back_is.Reopen = 3

-- and what has a number
abbrev pub back_of : ℕ → Option Back
back_of n =
    if n == 0 then Some back_is.Nothing
    else (if n == 1 then Some back_is.Edits
    else (if n == 2 then Some back_is.Sweep
    else (if n == 3 then Some back_is.Reopen
    else None)))

-- the number of a cause
abbrev pub cause_number : Cause → ℕ
cause_number cause_is.NsExists = 1
cause_number cause_is.NsMissing = 2
cause_number cause_is.NsNotEmpty = 3
cause_number cause_is.TableExists = 4
cause_number cause_is.TableMissing = 5
cause_number cause_is.NotDisabled = 6
cause_number cause_is.NotEnabled = 7
cause_number cause_is.RegionMissing = 8
cause_number cause_is.RegionNotLive = 9
cause_number cause_is.KeyOutside = 10
cause_number cause_is.NotAdjacent = 11
cause_number cause_is.LayoutRefused = 12
cause_number cause_is.Aborted = 13

-- and what has a number
abbrev pub cause_of : ℕ → Option Cause
cause_of n =
    if n == 1 then Some cause_is.NsExists
    else (if n == 2 then Some cause_is.NsMissing
    else (if n == 3 then Some cause_is.NsNotEmpty
    else (if n == 4 then Some cause_is.TableExists
    else (if n == 5 then Some cause_is.TableMissing
    else (if n == 6 then Some cause_is.NotDisabled
    else (if n == 7 then Some cause_is.NotEnabled
    else (if n == 8 then Some cause_is.RegionMissing
    else (if n == 9 then Some cause_is.RegionNotLive
    else (if n == 10 then Some cause_is.KeyOutside
    else (if n == 11 then Some cause_is.NotAdjacent
    else (if n == 12 then Some cause_is.LayoutRefused
    else (if n == 13 then Some cause_is.Aborted
    else None))))))))))))
