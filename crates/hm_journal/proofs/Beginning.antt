-- What recording the first entry does.
use Rattle.std.proofs.Common.{◌≡◌, ℕ, ◌≤◌, List, [], ◌∷◌, ◌++◌, length, None, Ok, Err, refl, ap, ◌∙◌, sym, subst, inr, arith}
use Rattle.std.proofs.lemmas.Option.{none-some}
use Rattle.hm_data.specs.declared.entry.Entry.{Entry}
use Rattle.hm_entry.specs.Spelling.{entry as spelling}
use Rattle.hm_hall.specs.Recording.{Recording, Records, bytes_of, with_next}
use Rattle.hm_journal.specs.Since.{IsUnbegun}
use Rattle.hm_hall.specs.declared.fault.RecordFault.{RecordFault}
use Rattle.hm_hall.specs.declared.fault.RecordFault.TheVariants as fault_is

-- what was ready is the one entry
pub first_recorded : (before old new : Recording) (entry : Entry) (number : ℕ) → old ≡ with_next before entry → before.entries ≡ [] → Records old entry (Ok number) new
    → new ≡ record before { entries = entry ∷ []; next = None }
first_recorded before old new entry number ready empty records =
    let made : new ≡ record old { entries = old.entries ++ entry ∷ []; next = None } = records.3 in
    made ∙ ap (λ (kept : Recording). record kept { entries = kept.entries ++ entry ∷ []; next = None }) ready ∙ ap (λ (es : List Entry). record before { entries = es ++ entry ∷ []; next = None }) empty

-- nothing but the log can stop it
pub only_fault : (before old new : Recording) (entry : Entry) (why : RecordFault) → old ≡ with_next before entry → before.entries ≡ [] → before.halted ≡ None → 65552 ≤ before.hard → length (spelling entry) ≤ 65536
    → Records old entry (Err why) new → why ≡ fault_is.LogFault
only_fault before old new entry (fault_is.Halted halt) ready empty going hard short records =
    absurd (none-some halt (sym going ∙ ap (λ (kept : Recording). kept.halted) (sym ready) ∙ records.0))
only_fault before old new entry (fault_is.JournalFull bytes) ready empty going hard short records =
    let marks : old.hard ≡ before.hard = ap (λ (kept : Recording). kept.hard) ready in
    let size : bytes_of old.entries ≡ 11 = ap (λ (kept : Recording). bytes_of kept.entries) ready ∙ ap bytes_of empty in
    absurd (omega (arith, records.1, marks, size))
only_fault before old new entry fault_is.LogFault ready empty going hard short records = refl

-- where the log failed at it nothing is recorded
pub first_failed : (before old new : Recording) (entry : Entry) (why : RecordFault) → old ≡ with_next before entry → before.entries ≡ [] → why ≡ fault_is.LogFault
    → Records old entry (Err why) new → IsUnbegun entry new
first_failed before old new entry why ready empty is records =
    let fault : Records old entry (Err fault_is.LogFault) new = subst (λ (w : RecordFault). Records old entry (Err w) new) is records in
    (ap (λ (kept : Recording). kept.entries) fault.2 ∙ ap (λ (kept : Recording). kept.entries) ready ∙ empty, inr (ap (λ (kept : Recording). kept.tail) fault.2))
