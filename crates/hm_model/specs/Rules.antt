-- Which entries may follow one another.
use Rattle.std.specs.Prelude.{◌≡◌, ◌≢◌, ℕ, List, [], ◌∷◌, Some, None, true, false, ◌⊎◌}
use Rattle.hm_names.specs.declared.nonce.Nonce.{Nonce}
use Rattle.hm_data.specs.declared.call.Told.{Told}
use Rattle.hm_data.specs.declared.call.Verb.{Verb}
use Rattle.hm_data.specs.declared.entry.Entry.{Entry}
use Rattle.hm_data.specs.declared.entry.Entry.TheVariants as entry_is
use Rattle.hm_data.specs.declared.sheet.Row.{Row}
use Rattle.hm_data.specs.declared.sheet.Sheet.{Sheet}
use Rattle.hm_model.specs.Answers.{report_of, is_aborted}
use Rattle.hm_model.specs.Base.{AreSheets, IsBegun, PartFits}
use Rattle.hm_model.specs.Fleet.{is_live, has_newer, has_older_live}
use Rattle.hm_model.specs.Holding.{IsFree}
use Rattle.hm_model.specs.Inputs.{IsEvaluated, undoes}
use Rattle.hm_model.specs.Journal.{Past}
use Rattle.hm_model.specs.Nonces.{by_nonce}
use Rattle.hm_model.specs.Phase.{cause, ended}
use Rattle.hm_model.specs.Picks.{PicksRight}
use Rattle.hm_model.specs.Procedures.{latest, left_to_undo}
use Rattle.hm_model.specs.Reports.{verb_of, fits_verb}
use Rattle.hm_model.specs.Requests.{MaySubmit, StaysWithin}
use Rattle.hm_model.specs.Rest.{MayStep}
use Rattle.hm_model.specs.Sheets.{next_row, sheets_of}
use Rattle.hm_model.specs.Tree.{Node, node_of, root_of, is_root}
use Rattle.hm_model.specs.Undo.{Undoable}

-- the nonce is none, or nothing was submitted under it
abbrev pub IsFresh : Past → Nonce → Type 0
IsFresh before nonce = (nonce.number ≡ 0) ⊎ (by_nonce before nonce ≡ None)

-- a step is the latest that can be undone of a failed root whose descendants have ended
abbrev pub IsLatest : Past → ℕ → ℕ → Type 0
IsLatest before p row =
    (root : Node) × (node_of before (root_of before p) ≡ Some root) × (undoes before (root_of before p) root ≡ true)
    × (step : Undoable) × (latest (left_to_undo before (root_of before p)) ≡ Some step) × (step.pid ≡ p) × (step.row ≡ row)

-- a call is recorded, has no report, and its procedure hasn't ended
abbrev pub IsOutstanding : Past → ℕ → Type 0
IsOutstanding before p = (verb_of before p ≢ None) × (report_of before p ≡ None) × (ended before p ≡ false)

-- an answer fits the call
abbrev pub FitsCall : Past → ℕ → Told → Type 0
FitsCall before p told = (verb : Verb) → verb_of before p ≡ Some verb → fits_verb verb told ≡ true

-- an unfinished root that hasn't failed and isn't aborted
abbrev pub CanAbort : Past → ℕ → Type 0
CanAbort before p =
    (is_root before p ≡ true) × (ended before p ≡ false) × (cause before p ≡ None) × (is_aborted before p ≡ false)

-- the row that it runs next isn't after the point
abbrev pub IsBeforePoint : Past → ℕ → Type 0
IsBeforePoint before p =
    (node : Node) × (node_of before p ≡ Some node) × (row : Row) × (next_row before p node ≡ Some row) × (row.after ≡ false)

-- the rule that an entry breaks where nothing has begun: 1 at the very start, 18 after parts that are no whole base
abbrev pub unbegun : Past → ℕ
unbegun [] = 1
unbegun (entry ∷ before) = 18

-- the rules for an entry after others, by number
abbrev pub rules : Past → Entry → List (ℕ × Type 0)
rules before (entry_is.Start sheets) =
    (1, (before ≡ []) × AreSheets sheets)
    ∷ []
rules before (entry_is.Submit nonce request) =
    (unbegun before, IsBegun before)
    ∷ (2, MaySubmit request)
    ∷ (3, IsFresh before nonce)
    ∷ (4, StaysWithin before request)
    ∷ []
rules before (entry_is.Step pid pick out) =
    (unbegun before, IsBegun before)
    ∷ (5, MayStep before pid.0)
    ∷ (6, IsFree before [] pid.0)
    ∷ (7, PicksRight before pid.0 pick)
    ∷ (8, IsEvaluated before pid.0 pick out)
    ∷ []
rules before (entry_is.Undo pid row out) =
    (unbegun before, IsBegun before)
    ∷ (9, IsLatest before pid.0 row)
    ∷ (10, IsEvaluated before (root_of before pid.0) None out)
    ∷ []
rules before (entry_is.Report call told) =
    (unbegun before, IsBegun before)
    ∷ (11, IsOutstanding before call.0)
    ∷ (12, FitsCall before call.0 told)
    ∷ []
rules before (entry_is.Up server) =
    (unbegun before, IsBegun before)
    ∷ (13, has_newer before server ≡ false)
    ∷ (14, has_older_live before server ≡ false)
    ∷ []
rules before (entry_is.Down server) =
    (unbegun before, IsBegun before)
    ∷ (15, is_live before server ≡ true)
    ∷ []
rules before (entry_is.Abort pid) =
    (unbegun before, IsBegun before)
    ∷ (16, CanAbort before pid.0)
    ∷ (17, IsBeforePoint before pid.0)
    ∷ []
rules before (entry_is.Adopt sheets) =
    (unbegun before, IsBegun before)
    ∷ (19, AreSheets sheets × (sheets ≢ sheets_of before))
    ∷ []
rules before (entry_is.Base part) =
    (18, PartFits part before)
    ∷ []

-- all of numbered rules hold
abbrev pub AllHold : List (ℕ × Type 0) → Type 0
AllHold [] = Unit {0}
AllHold ((number, rule) ∷ more) = rule × AllHold more

-- a number is that of the first of numbered rules that fails
abbrev pub FirstFails : ℕ → List (ℕ × Type 0) → Type 0
FirstFails k [] = ⊥
FirstFails k ((number, rule) ∷ more) = ((k ≡ number) × (rule → ⊥)) ⊎ (rule × FirstFails k more)

-- an entry that may stand after these
abbrev pub Allowed : Past → Entry → Type 0
Allowed before entry = AllHold (rules before entry)

-- the lowest rule that an entry after these breaks
abbrev pub Breaks : Past → Entry → ℕ → Type 0
Breaks before entry k = FirstFails k (rules before entry)

-- each entry was allowed after those before it
abbrev pub IsLegal : Past → Type 0
IsLegal [] = Unit {0}
IsLegal (entry ∷ before) = IsLegal before × Allowed before entry
