-- The names of rows of sheets.
use Rattle.std.specs.Prelude.{ℕ, List, [], codes, Option, Some, None}
use Rattle.std.specs.Option.{option_map}
use Rattle.hm_data.specs.declared.act.Act.{Act}
use Rattle.hm_data.specs.declared.act.Act.TheVariants as act_is
use Rattle.hm_data.specs.declared.sheet.Row.{Row}
use Rattle.hm_model.specs.Journal.{Past}
use Rattle.hm_model.specs.Kinds.{kind_of}
use Rattle.hm_model.specs.Sheets.{row_in, sheet_for, sheets_by}
use Rattle.hm_model.specs.Tree.{Node, node_of}

-- the name of a row that does this
abbrev pub row_text : Act → List ℕ
row_text act_is.CheckNamespaceFree = codes "PREPARE"
row_text act_is.AddNamespace = codes "ADD"
row_text act_is.CheckNamespaceEmpty = codes "PREPARE"
row_text act_is.DropNamespace = codes "DROP"
row_text act_is.CheckTableFree = codes "PREPARE"
row_text act_is.AddTable = codes "ADD_TABLE"
row_text act_is.Layout = codes "LAYOUT"
row_text act_is.AddRegions = codes "ADD_REGIONS"
row_text act_is.SetEnabling = codes "SET_ENABLING"
row_text act_is.OpenRegions = codes "OPEN_REGIONS"
row_text act_is.SetEnabled = codes "SET_ENABLED"
row_text act_is.CheckTableDisabled = codes "PREPARE"
row_text act_is.DropRegions = codes "DROP_REGIONS"
row_text act_is.DropTable = codes "DROP_TABLE"
row_text act_is.CheckTableEnabled = codes "PREPARE"
row_text act_is.SetDisabling = codes "SET_DISABLING"
row_text act_is.CloseRegions = codes "CLOSE_REGIONS"
row_text act_is.SetDisabled = codes "SET_DISABLED"
row_text act_is.SetVersion = codes "SET_VERSION"
row_text act_is.CheckSplit = codes "PREPARE"
row_text act_is.CloseParent = codes "CLOSE_PARENT"
row_text act_is.UpdateSplitMeta = codes "UPDATE_META"
row_text act_is.OpenDaughters = codes "OPEN_DAUGHTERS"
row_text act_is.Finish = codes "FINISH"
row_text act_is.CheckMerge = codes "PREPARE"
row_text act_is.CloseParents = codes "CLOSE_PARENTS"
row_text act_is.UpdateMergeMeta = codes "UPDATE_META"
row_text act_is.OpenMerged = codes "OPEN_MERGED"
row_text act_is.AddRegionRows = codes "ADD"
row_text act_is.DropRegionRows = codes "DROP"
row_text act_is.GetAssignCandidate = codes "GET_ASSIGN_CANDIDATE"
row_text act_is.Open = codes "OPEN"
row_text act_is.ConfirmOpened = codes "CONFIRM_OPENED"
row_text act_is.Close = codes "CLOSE"
row_text act_is.ConfirmClosed = codes "CONFIRM_CLOSED"
row_text act_is.CheckMove = codes "PREPARE"
row_text act_is.Fence = codes "FENCE"
row_text act_is.Reassign = codes "REASSIGN"
row_text act_is.CallAssign = codes "CALL"
row_text act_is.CallClose = codes "CALL"
row_text act_is.Settle = codes "SETTLE"
row_text act_is.CallFence = codes "CALL"
row_text act_is.CallLayout = codes "CALL"
row_text act_is.SettleLayout = codes "SETTLE"
row_text act_is.CallSweep = codes "CALL"

-- the name of what a row does, where it is there
abbrev pub row_text_if : Option Act → List ℕ
row_text_if None = []
row_text_if (Some act) = row_text act

-- what a row does
abbrev pub act_of_row : Option Row → Option Act
act_of_row row = option_map (λ it. it.act) row

-- what a row of a procedure does, by its root's sheets
abbrev pub act_by : Past → Option Node → ℕ → Option Act
act_by J None row = None
act_by J (Some node) row = act_of_row (row_in (sheet_for (sheets_by J node.root) (kind_of node.args)) row)

-- the same of a procedure by its number
abbrev pub act_at : Past → ℕ → ℕ → Option Act
act_at J p row = act_by J (node_of J p) row
