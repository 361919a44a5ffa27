-- What decides the answer of a recording.
use Rattle.std.proofs.Common.{◌≡◌, ◌⊎◌, ℕ, length, Result, Ok, Err, Some, None, refl, ap, sym, ◌∙◌, inl, inr}
use Rattle.std.proofs.lemmas.Option.{none-some}
use Rattle.hm_data.specs.declared.entry.Entry.{Entry}
use Rattle.hm_hall.specs.Recording.{Recording, Passes, Records, behind, bytes_of}
use Rattle.hm_hall.specs.declared.fault.Halt.{Halt}
use Rattle.hm_hall.specs.declared.fault.RecordFault.{RecordFault}
use Rattle.hm_hall.specs.declared.fault.RecordFault.TheVariants as fault_is

same_halt : (why other : Halt) → Some why ≡ Some other → why ≡ other
same_halt why other e = cc

-- a recorder that was halted says so
pub halted_first : (old : Recording) (entry : Entry) (answer : Result ℕ RecordFault) (new : Recording) (why : Halt) → Records old entry answer new → old.halted ≡ Some why
    → answer ≡ Err (fault_is.Halted why)
halted_first old entry (Ok number) new why is halted = absurd (none-some why (sym is.0 ∙ halted))
halted_first old entry (Err (fault_is.Halted other)) new why is halted = ap (λ (h : Halt). Err (fault_is.Halted h)) (same_halt other why (sym is.0 ∙ halted))
halted_first old entry (Err (fault_is.JournalFull bytes)) new why is halted = absurd (none-some why (sym is.0 ∙ halted))
halted_first old entry (Err fault_is.LogFault) new why is halted = absurd (none-some why (sym is.0 ∙ halted))

-- where it wasn't, an entry that passes the hard mark isn't recorded
pub full_next : (old : Recording) (entry : Entry) (answer : Result ℕ RecordFault) (new : Recording) → Records old entry answer new → old.halted ≡ None → Passes old.hard old.entries entry
    → answer ≡ Err (fault_is.JournalFull (bytes_of old.entries))
full_next old entry (Ok number) new is going passes = absurd (is.1 passes)
full_next old entry (Err (fault_is.Halted why)) new is going passes = absurd (none-some why (sym going ∙ is.0))
full_next old entry (Err (fault_is.JournalFull bytes)) new is going passes = ap (λ (b : ℕ). Err (fault_is.JournalFull b)) is.2
full_next old entry (Err fault_is.LogFault) new is going passes = absurd (is.1 passes)

-- else it is, or the log failed
pub recorded_else : (old : Recording) (entry : Entry) (answer : Result ℕ RecordFault) (new : Recording) → Records old entry answer new → old.halted ≡ None → (Passes old.hard old.entries entry → ⊥)
    → (answer ≡ Ok (length (behind old.entries))) ⊎ (answer ≡ Err fault_is.LogFault)
recorded_else old entry (Ok number) new is going within = inl (ap (λ (n : ℕ). Ok n) is.2)
recorded_else old entry (Err (fault_is.Halted why)) new is going within = absurd (none-some why (sym going ∙ is.0))
recorded_else old entry (Err (fault_is.JournalFull bytes)) new is going within = absurd (within is.1)
recorded_else old entry (Err fault_is.LogFault) new is going within = inr refl
