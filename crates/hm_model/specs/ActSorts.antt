-- What sorts of acts there are: those that test, that ask for a layout, that edit; those of transits and calls.
use Rattle.std.specs.Prelude.{ℕ, List, [], ◌∷◌, length, Bool, true, false, nat_lt}
use Rattle.hm_data.specs.declared.act.Act.{Act}
use Rattle.hm_data.specs.declared.act.Act.TheVariants as act_is

-- acts that only test
abbrev pub is_check : Act → Bool
is_check act_is.CheckNamespaceFree = true
is_check act_is.CheckNamespaceEmpty = true
is_check act_is.CheckTableFree = true
is_check act_is.CheckTableDisabled = true
is_check act_is.CheckTableEnabled = true
is_check act_is.CheckSplit = true
is_check act_is.CheckMerge = true
is_check act_is.CheckMove = true
is_check act = false

-- the act that asks for the layout of files
abbrev pub is_layout : Act → Bool
is_layout act_is.Layout = true
is_layout act = false

-- the kinds that list an act which edits, and others whose root asks exclusively for just that; none where it edits nothing
abbrev pub editing_kinds : Act → List ℕ
editing_kinds act_is.AddNamespace = 1 ∷ 2 ∷ []
editing_kinds act_is.DropNamespace = 1 ∷ 2 ∷ []
editing_kinds act_is.AddTable = 3 ∷ 4 ∷ 5 ∷ 6 ∷ 7 ∷ []
editing_kinds act_is.SetEnabling = 3 ∷ 4 ∷ 5 ∷ 6 ∷ 7 ∷ []
editing_kinds act_is.SetEnabled = 3 ∷ 4 ∷ 5 ∷ 6 ∷ 7 ∷ []
editing_kinds act_is.DropTable = 3 ∷ 4 ∷ 5 ∷ 6 ∷ 7 ∷ []
editing_kinds act_is.SetDisabling = 3 ∷ 4 ∷ 5 ∷ 6 ∷ 7 ∷ []
editing_kinds act_is.SetDisabled = 3 ∷ 4 ∷ 5 ∷ 6 ∷ 7 ∷ []
editing_kinds act_is.SetVersion = 3 ∷ 4 ∷ 5 ∷ 6 ∷ 7 ∷ []
editing_kinds act_is.UpdateSplitMeta = 8 ∷ []
editing_kinds act_is.UpdateMergeMeta = 9 ∷ []
editing_kinds act_is.AddRegionRows = 20 ∷ []
editing_kinds act_is.DropRegionRows = 21 ∷ []
editing_kinds act = []

-- acts that edit the catalog
abbrev pub is_edit : Act → Bool
is_edit act = nat_lt 0 (length (editing_kinds act))

-- the acts of tables, namespaces and regions' rows, and those of a crash
abbrev pub is_plain : Act → Bool
is_plain act_is.GetAssignCandidate = false
is_plain act_is.Open = false
is_plain act_is.ConfirmOpened = false
is_plain act_is.Close = false
is_plain act_is.ConfirmClosed = false
is_plain act_is.CheckMove = false
is_plain act_is.CallAssign = false
is_plain act_is.CallClose = false
is_plain act_is.Settle = false
is_plain act_is.CallFence = false
is_plain act_is.CallLayout = false
is_plain act_is.SettleLayout = false
is_plain act_is.CallSweep = false
is_plain act = true
