-- The layouts of files that the reports of a journal show.
use Rattle.std.specs.Prelude.{ℕ, [], ◌∷◌, Option, Some, None, Bool, true, false, ◌==◌, if◌then◌else◌}
use Rattle.hm_data.specs.declared.call.Told.{Told}
use Rattle.hm_data.specs.declared.call.Told.TheVariants as told_is
use Rattle.hm_data.specs.declared.call.Verb.{Verb}
use Rattle.hm_data.specs.declared.call.Verb.TheVariants as verb_is
use Rattle.hm_data.specs.declared.entry.Entry.TheVariants as entry_is
use Rattle.hm_model.specs.Journal.{Past}
use Rattle.hm_model.specs.Reports.{verb_of}
use Rattle.hm_model.specs.Parts.{part_laid}

-- whether a report leaves the layout of a root there, if it is of one
abbrev pub laid_by : Told → Option Bool
laid_by told_is.LaidOut = Some true
laid_by told_is.Swept = Some false
laid_by told = None

-- whose layout a call is about
abbrev pub layout_called : Option Verb → Option ℕ
layout_called None = None
layout_called (Some (verb_is.AssignRegion region)) = None
layout_called (Some (verb_is.CloseRegion region)) = None
layout_called (Some (verb_is.Fence server)) = None
layout_called (Some (verb_is.Layout root)) = Some root.0
layout_called (Some (verb_is.Sweep root)) = Some root.0

-- what a report about a root's layout says, else what was before
abbrev pub laid_if : Option ℕ → Option Bool → ℕ → Bool → Bool
laid_if None now root before = before
laid_if (Some own) None root before = before
laid_if (Some own) (Some now) root before = if own == root then now else before

-- the layout of a root is there: the last report about it says so
abbrev pub is_laid : Past → ℕ → Bool
is_laid [] root = false
is_laid (entry_is.Report call told ∷ before) root =
    laid_if (layout_called (verb_of before call.0)) (laid_by told) root (is_laid before root)
is_laid (entry_is.Base part ∷ before) root = part_laid part root (is_laid before root)
is_laid (entry ∷ before) root = is_laid before root
