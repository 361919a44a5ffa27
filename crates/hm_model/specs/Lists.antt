-- The rows that the kinds of procedures list.
use Rattle.std.specs.Prelude.{ℕ, Bool, true, false, List, [], ◌∷◌, ◌==◌, if◌then◌else◌}
use Rattle.hm_data.specs.declared.act.Act.{Act}
use Rattle.hm_data.specs.declared.act.Act.TheVariants as act_is
use Rattle.hm_data.specs.declared.act.Back.{Back}
use Rattle.hm_data.specs.declared.act.Back.TheVariants as back_is
use Rattle.hm_data.specs.declared.sheet.Row.{Row}
use Rattle.hm_model.specs.Answers.{no_row}

-- a row as a kind lists it: its act, whether it is after the point, and the undo that it may have instead of none
pub record Line : Type 0 where
  pub act : Act
  pub after : Bool
  pub undo : Back

-- a row before the point without an undo
abbrev pub plain : Act → Line
plain act = record { act = act; after = false; undo = back_is.Nothing }

-- a row before the point that may be undone
abbrev pub undone : Act → Back → Line
undone act undo = record { act = act; after = false; undo = undo }

-- a row after the point
abbrev pub late : Act → Line
late act = record { act = act; after = true; undo = back_is.Nothing }

-- the end of a kind that opens a table's regions
abbrev pub opening : List Line
opening = late act_is.OpenRegions ∷ late act_is.SetEnabled ∷ []

-- the rows of the kinds whose handlers may number them as they like, in the order in which they are led through; of a split
-- the first of its two orders
abbrev pub lines_of : ℕ → List Line
lines_of kind =
    if kind == 1 then plain act_is.CheckNamespaceFree ∷ plain act_is.AddNamespace ∷ []
    else (if kind == 2 then plain act_is.CheckNamespaceEmpty ∷ plain act_is.DropNamespace ∷ []
    else (if kind == 3 then plain act_is.CheckTableFree ∷ undone act_is.AddTable back_is.Edits ∷ undone act_is.Layout back_is.Sweep ∷ plain act_is.AddRegions ∷ undone act_is.SetEnabling back_is.Edits ∷ opening
    else (if kind == 4 then plain act_is.CheckTableDisabled ∷ late act_is.DropRegions ∷ late act_is.DropTable ∷ []
    else (if kind == 5 then plain act_is.CheckTableDisabled ∷ undone act_is.SetEnabling back_is.Edits ∷ opening
    else (if kind == 6 then plain act_is.CheckTableEnabled ∷ undone act_is.SetDisabling back_is.Edits ∷ late act_is.CloseRegions ∷ late act_is.SetDisabled ∷ []
    else (if kind == 7 then plain act_is.CheckTableDisabled ∷ plain act_is.SetVersion ∷ []
    else (if kind == 8 then plain act_is.CheckSplit ∷ undone act_is.CloseParent back_is.Reopen ∷ undone act_is.Layout back_is.Sweep ∷ undone act_is.UpdateSplitMeta back_is.Edits ∷ late act_is.OpenDaughters ∷ late act_is.Finish ∷ []
    else (if kind == 9 then plain act_is.CheckMerge ∷ undone act_is.CloseParents back_is.Reopen ∷ undone act_is.Layout back_is.Sweep ∷ undone act_is.UpdateMergeMeta back_is.Edits ∷ late act_is.OpenMerged ∷ late act_is.Finish ∷ []
    else (if kind == 20 then undone act_is.AddRegionRows back_is.Edits ∷ []
    else (if kind == 21 then late act_is.DropRegionRows ∷ []
    else []))))))))))

-- the second order of a split: the layout comes before the parent is closed
abbrev pub layout_first : List Line
layout_first = plain act_is.CheckSplit ∷ undone act_is.Layout back_is.Sweep ∷ undone act_is.CloseParent back_is.Reopen ∷ undone act_is.UpdateSplitMeta back_is.Edits ∷ late act_is.OpenDaughters ∷ late act_is.Finish ∷ []

-- the orders of a kind's rows, of equally many lines
abbrev pub orders_of : ℕ → List (List Line)
orders_of kind = lines_of kind ∷ (if kind == 8 then layout_first ∷ [] else [])

-- a row as a kind of exact rows has it: its act, the row that follows, whether it is after the point; no undo
abbrev pub fixed : Act → ℕ → Bool → Row
fixed act next after = record { act = act; next = next; after = after; undo = back_is.Nothing }

-- a call, and what becomes of its answer
abbrev pub call_rows : Act → Act → Bool → List Row
call_rows call settle after = fixed call 1 after ∷ fixed settle no_row after ∷ []

-- the rows of the kinds that have just these
abbrev pub exact_rows : ℕ → List Row
exact_rows kind =
    if kind == 10 then fixed act_is.GetAssignCandidate 1 true ∷ fixed act_is.Open 2 true ∷ fixed act_is.ConfirmOpened 0 true ∷ fixed act_is.Close 4 true ∷ fixed act_is.ConfirmClosed 0 true ∷ fixed act_is.CheckMove 3 false ∷ []
    else (if kind == 11 then fixed act_is.Fence 1 true ∷ fixed act_is.Reassign 1 true ∷ []
    else (if kind == 23 then call_rows act_is.CallAssign act_is.Settle true
    else (if kind == 24 then call_rows act_is.CallClose act_is.Settle true
    else (if kind == 25 then call_rows act_is.CallFence act_is.Settle true
    else (if kind == 26 then call_rows act_is.CallLayout act_is.SettleLayout false
    else (if kind == 27 then call_rows act_is.CallSweep act_is.Settle true
    else []))))))
