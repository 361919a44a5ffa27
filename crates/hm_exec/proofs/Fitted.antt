-- An answer that may follow can be recorded.
use Rattle.std.proofs.Common.{◌≡◌, ℕ, List, All, Option, subst, sym}
use Rattle.hm_names.specs.Server.{Server}
use Rattle.hm_names.specs.declared.pid.Pid.{Pid}
use Rattle.hm_data.specs.declared.entry.Entry.{Entry}
use Rattle.hm_data.specs.declared.entry.Entry.TheVariants as entry_is
use Rattle.hm_data.specs.declared.step.StepOut.{StepOut}
use Rattle.hm_entry.specs.Fits.{EntryFits}
use Rattle.hm_hall.specs.Recording.{AllFit, CanBeRecorded, Recording, entries_of, past_in}
use Rattle.hm_model.specs.Journal.{Past, back}
use Rattle.hm_model.specs.Rules.{Allowed, IsLegal}

module _ (kept : Recording) (past : Past) where
  -- a step
  pub step_fits : (pid : Pid) (pick : Option Server) (out : StepOut) → past_in kept ≡ past → IsLegal past → AllFit kept → Allowed past (entry_is.Step pid pick out)
      → ((journal : List Entry) (pid : Pid) (pick : Option Server) (out : StepOut) → IsLegal (back journal) → All EntryFits journal → Allowed (back journal) (entry_is.Step pid pick out)
      → CanBeRecorded (entry_is.Step pid pick out))
      → CanBeRecorded (entry_is.Step pid pick out)
  step_fits pid pick out same legal fits allowed all =
      all (entries_of kept) pid pick out (subst IsLegal (sym same) legal) fits (subst (λ (J : Past). Allowed J (entry_is.Step pid pick out)) (sym same) allowed)

  -- an undo
  pub undo_fits : (pid : Pid) (row : ℕ) (out : StepOut) → past_in kept ≡ past → IsLegal past → AllFit kept → Allowed past (entry_is.Undo pid row out)
      → ((journal : List Entry) (pid : Pid) (row : ℕ) (out : StepOut) → IsLegal (back journal) → All EntryFits journal → Allowed (back journal) (entry_is.Undo pid row out)
      → CanBeRecorded (entry_is.Undo pid row out))
      → CanBeRecorded (entry_is.Undo pid row out)
  undo_fits pid row out same legal fits allowed all =
      all (entries_of kept) pid row out (subst IsLegal (sym same) legal) fits (subst (λ (J : Past). Allowed J (entry_is.Undo pid row out)) (sym same) allowed)
