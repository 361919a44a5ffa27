-- The layouts that the reports of a journal show, in the order of their calls' numbers.
use Rattle.std.specs.Prelude.{◌≡◌, ℕ, zero, suc, ◌+◌, [], ◌∷◌, Option, Some, None, Bool, false}
use Rattle.hm_data.specs.declared.call.Told.{Told}
use Rattle.hm_model.specs.Answers.{report_of}
use Rattle.hm_data.specs.declared.entry.Entry.TheVariants as entry_is
use Rattle.hm_model.specs.Journal.{Past}
use Rattle.hm_model.specs.Layouts.{is_laid, laid_by, laid_if, layout_called}
use Rattle.hm_model.specs.Reports.{verb_of}
use Rattle.hm_model.specs.Rules.{IsLegal}
use Rattle.hm_model.specs.Tree.{made}

-- whether what a report tells, if there is one, leaves a layout there
abbrev pub laid_told : Option Told → Option Bool
laid_told None = None
laid_told (Some told) = laid_by told

-- the base that a journal begins with has the layout of a root
abbrev pub based_layout : Past → ℕ → Bool
based_layout [] root = false
based_layout (entry_is.Base part ∷ before) root = is_laid (entry_is.Base part ∷ before) root
based_layout (entry ∷ before) root = based_layout before root

-- the layout of a root is there, as the base shows and then the reports of the procedures with a number below n, one after another
abbrev pub laid_below : Past → ℕ → ℕ → Bool
laid_below J zero root = based_layout J root
laid_below J (suc n) root = laid_if (layout_called (verb_of J n)) (laid_told (report_of J n)) root (laid_below J n root)

-- in a legal journal that says the same as the reports in the order in which they came
abbrev pub LayoutsTell : Type 0
LayoutsTell = (J : Past) → IsLegal J → (root : ℕ) → laid_below J (made J + 1) root ≡ is_laid J root
