-- Which journal a disk holds.
use Rattle.std.specs.Prelude.{◌≡◌, ◌≢◌, ◌⊎◌, ◌<◌, ℕ, List, [], ◌∷◌, ◌++◌, map, Some, All}
use Rattle.hm_disk.specs.Disk.{Only}
use Rattle.hm_log.specs.Opening.{IsBlank, IsMaking}
use Rattle.hm_log.specs.Format.{Reads, HoldsFrames}
use Rattle.hm_data.specs.declared.entry.Entry.{Entry}
use Rattle.hm_data.specs.declared.entry.Entry.TheVariants as entry_is
use Rattle.hm_data.specs.declared.sheet.Sheet.{Sheet}
use Rattle.hm_entry.specs.Fits.{EntryFits}
use Rattle.hm_entry.specs.Spelling.{entry as spelling}
use Rattle.hm_model.specs.Base.{IsBegun}
use Rattle.hm_model.specs.Editions.{editions}
use Rattle.hm_model.specs.Journal.{back}
use Rattle.hm_model.specs.Rules.{IsLegal}
use Rattle.hm_model.specs.Sheets.{sheet_for, sheets_of}
use Rattle.hm_hall.specs.Recording.{Recording}

-- the frames of entries: their spellings
abbrev pub frames_of : List Entry → List (List ℕ)
frames_of entries = map spelling entries

-- a legal journal whose entries have spellings; where it has any it has begun, by a start or by a whole base, with these sheets, which
-- are in force: it adopted no others
pub record IsJournal (sheets : List Sheet) (journal : List Entry) : Type 0 where
  pub legal : IsLegal (back journal)
  pub begun : journal ≢ [] → IsBegun (back journal)
  pub fits : All EntryFits journal
  pub begins : journal ≢ [] → sheets_of (back journal) ≡ sheets
  pub keeps : editions (back journal) ≡ 0

-- the bytes are a log of this journal; no bytes are the journal without entries
pub record IsOnDisk (sheets : List Sheet) (bytes : List ℕ) (journal : List Entry) : Type 0 where
  pub opens : HoldsFrames bytes (frames_of journal)
  pub is : IsJournal sheets journal

-- each kind has the same sheet in both
abbrev pub SameSheets : List Sheet → List Sheet → Type 0
SameSheets one other = (kind : ℕ) → kind < 256 → sheet_for one kind ≡ sheet_for other kind

-- the same where the journal began with others that have the same sheet of each kind
abbrev pub IsJournalByKind : List Sheet → List Entry → Type 0
IsJournalByKind sheets journal = (own : List Sheet) × SameSheets sheets own × IsJournal own journal

-- bytes hold a journal of these sheets, compared kind by kind
abbrev pub IsOnDiskByKind : List Sheet → List ℕ → List Entry → Type 0
IsOnDiskByKind sheets bytes journal = HoldsFrames bytes (frames_of journal) × IsJournalByKind sheets journal

-- a journal opened: a new one gets its first entry
abbrev pub opened : List Sheet → List Entry → List Entry
opened sheets [] = entry_is.Start sheets ∷ []
opened sheets (entry ∷ journal) = entry ∷ journal

-- the bytes are a log of this journal, or, where it has no entry, of its first
abbrev pub HoldsJournal : List Sheet → List Entry → List ℕ → Type 0
HoldsJournal sheets journal bytes = Reads bytes (frames_of journal) ⊎ Reads bytes (frames_of (opened sheets journal))

-- A log that held a journal still reads as that journal, to which one without entries may have got its first, and where
-- it had no other image so do all. Nothing is said where nothing was there yet.
abbrev pub Spares : List Sheet → (seen : List ℕ) (before : List ℕ → Type 0) (now : List ℕ) (after : List ℕ → Type 0) → Type 0
Spares sheets seen before now after =
    (journal : List Entry) → (IsBlank seen → ⊥) → IsOnDisk sheets seen journal
    → HoldsJournal sheets journal now × (Only seen before → (bytes : List ℕ) → after bytes → HoldsJournal sheets journal bytes)

-- it reads as it did, or it was a log and each image is one with the same frames
abbrev pub SameFrames : (before after : List ℕ) (image : List ℕ → Type 0) → Type 0
SameFrames before after image =
    (after ≡ before) ⊎ ((frames : List (List ℕ)) × HoldsFrames before frames × ((bytes : List ℕ) → image bytes → Reads bytes frames))

-- there are no frames, and the bytes are a log of the first entry
abbrev pub GetsFirst : List Sheet → List (List ℕ) → List ℕ → Type 0
GetsFirst sheets frames bytes = (frames ≡ []) × Reads bytes (spelling (entry_is.Start sheets) ∷ [])

-- What a stop in the middle of an opening may leave: what it could before, a log in the making, the same frames, or the
-- first entry where there are none.
abbrev pub IsOpening : List Sheet → (seen : List ℕ) (before : List ℕ → Type 0) → List ℕ → Type 0
IsOpening sheets seen before bytes =
    before bytes ⊎ (IsMaking seen bytes ⊎ ((frames : List (List ℕ)) × HoldsFrames seen frames × (Reads bytes frames ⊎ GetsFirst sheets frames bytes)))

-- the bytes are a log of the recorded entries, or of these and the one whose recording failed
abbrev pub IsStored : Recording → List ℕ → Type 0
IsStored kept bytes =
    Reads bytes (frames_of kept.entries)
    ⊎ ((entry : Entry) × (kept.tail ≡ Some entry) × EntryFits entry × Reads bytes (frames_of (kept.entries ++ entry ∷ [])))

-- each of these images is such a log
abbrev pub AllStored : (List ℕ → Type 0) → Recording → Type 0
AllStored image kept = (bytes : List ℕ) → image bytes → IsStored kept bytes
