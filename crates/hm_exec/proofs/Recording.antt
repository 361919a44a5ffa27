-- What recording an entry that was made ready answers.
use Rattle.std.proofs.Common.{◌≡◌, ℕ, None, Some, Result, Ok, Err, ap, sym, subst, ◌∙◌}
use Rattle.std.specs.Result.{IsErrAnd}
use Rattle.std.proofs.lemmas.Option.{none-some}
use Rattle.hm_data.specs.declared.entry.Entry.{Entry}
use Rattle.hm_hall.specs.Faults.{fault_of}
use Rattle.hm_hall.specs.Recording.{Recording, Records, halt_of, next_of, with_next}
use Rattle.hm_hall.specs.declared.fault.HallFault.{HallFault}
use Rattle.hm_hall.specs.declared.fault.RecordFault.{RecordFault}
use Rattle.hm_hall.specs.declared.fault.RecordFault.TheVariants as fault_is
use Rattle.hm_exec.specs.Adding.{Adds}

-- a recorder that goes on answers no earlier fault
refused : (old new : Recording) (entry : Entry) (fault : RecordFault) → halt_of old ≡ None → Records (with_next old entry) entry (Err fault) new → Adds old entry (Err (fault_of fault)) new
refused old new entry fault_is.LogFault going records = records
refused old new entry (fault_is.JournalFull bytes) going records = records
refused old new entry (fault_is.Halted why) going records = absurd (none-some why (sym going ∙ records.0))

-- why an entry that was made ready isn't recorded
pub refuses : (old mid new : Recording) (entry : Entry) (fault : RecordFault) (result : Result ℕ HallFault) → halt_of old ≡ None → mid ≡ with_next old entry
    → ((e : Entry) → next_of mid ≡ Some e → Records mid e (Err fault) new) → IsErrAnd result (λ why. why ≡ fault_of fault) → Adds old entry result new
refuses old mid new entry fault (Ok number) going ready records told = absurd told
refuses old mid new entry fault (Err why) going ready records told =
    let recorded = records entry (ap next_of ready) in
    subst (λ r. Adds old entry (Err r) new) (sym told) (refused old new entry fault going (subst (λ k. Records k entry (Err fault) new) ready recorded))
