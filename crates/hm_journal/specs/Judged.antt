-- What the parts of judging and of opening answer.
use Rattle.std.specs.Prelude.{◌≡◌, ◌≢◌, ◌⊎◌, ℕ, max, List, [], ◌∷◌, length, map, take, slice_get, Some, All, true, false}
use Rattle.std.specs.Global.{Vec}
use Rattle.hm_log.specs.declared.why.OpenWhy.{OpenWhy}
use Rattle.hm_log.specs.declared.why.OpenWhy.TheVariants as log_why_is
use Rattle.hm_data.specs.declared.entry.Entry.{Entry}
use Rattle.hm_data.specs.declared.entry.Entry.TheVariants as entry_is
use Rattle.hm_data.specs.declared.part.Part.{Part}
use Rattle.hm_data.specs.declared.sheet.Sheet.{Sheet}
use Rattle.hm_entry.specs.Fits.{EntryFits}
use Rattle.hm_entry.specs.Reading.{all_of}
use Rattle.hm_entry.specs.Spelling.{entry as spelling}
use Rattle.hm_entry.specs.declared.fault.EntryFault.{EntryFault}
use Rattle.hm_entry.specs.declared.fault.EntryFault.TheVariants as entry_fault_is
use Rattle.hm_base.specs.Read.{IsNoBase}
use Rattle.hm_base.specs.declared.why.BaseWhy.TheVariants as base_why_is
use Rattle.hm_model.specs.Base.{IsBegun}
use Rattle.hm_model.specs.Editions.{editions}
use Rattle.hm_model.specs.Journal.{Past, back}
use Rattle.hm_model.specs.Laws.{is_part}
use Rattle.hm_model.specs.Parts.{part_sheets}
use Rattle.hm_model.specs.Rules.{Allowed, Breaks, IsLegal}
use Rattle.hm_model.specs.Sheets.{sheets_of}
use Rattle.hm_judge.specs.Judge.{IsUnrefused}
use Rattle.hm_journal.specs.Stored.{IsJournal, SameSheets, frames_of, opened}
use Rattle.hm_journal.specs.Verdict.{FailsAt, IsLowestDifference, IsNoEntry, IsNoJournal}
use Rattle.hm_journal.specs.View.{IsOrigin, entries_in}
use Rattle.hm_journal.specs.declared.why.JournalWhy.{JournalWhy}
use Rattle.hm_journal.specs.declared.why.JournalWhy.TheVariants as why_is

-- what is answered where the log isn't opened
abbrev pub of_log : OpenWhy → JournalWhy
of_log log_why_is.Fault = why_is.Fault
of_log (log_why_is.NotALog place) = why_is.NotALog place
of_log (log_why_is.BadFrame place) = why_is.BadFrame place
of_log log_why_is.Memory = why_is.Memory

-- what is answered where reading the frame of this number failed so
abbrev pub bad_entry : ℕ → EntryFault → JournalWhy
bad_entry number (entry_fault_is.Short place) = why_is.BadEntry number place
bad_entry number (entry_fault_is.Field place) = why_is.BadEntry number place
bad_entry number (entry_fault_is.Rest place) = why_is.BadEntry number place
bad_entry number entry_fault_is.Memory = why_is.Memory

-- parts of a base, as entries
abbrev pub parts_in : List Part → List Entry
parts_in parts = map (λ part. entry_is.Base part) parts

-- the sheets that the first part tells, if it is a head
abbrev pub head_sheets : List Part → List Sheet
head_sheets [] = []
head_sheets (part ∷ parts) = part_sheets part []

-- the frame of this number spells this entry
abbrev pub SpellsAt : List (List ℕ) → ℕ → Entry → Type 0
SpellsAt frames number entry = EntryFits entry × (slice_get frames number ≡ Some (spelling entry))

-- the frames spell these entries, one each
pub record Spells (frames : List (List ℕ)) (entries : List Entry) : Type 0 where
  pub are : frames_of entries ≡ frames
  pub fits : All EntryFits entries

-- a legal journal that has begun, with the same sheet of each kind as these, and adopted no others
pub record HasBegunWith (sheets : List Sheet) (past : Past) : Type 0 where
  pub legal : IsLegal past
  pub begun : IsBegun past
  pub begins : SameSheets sheets (sheets_of past)
  pub keeps : editions past ≡ 0

-- the newest entry is no part of a base
abbrev pub EndsInOther : Past → Type 0
EndsInOther [] = ⊥
EndsInOther (entry ∷ before) = is_part entry ≡ false

-- a part of a base that the frame of this number spells doesn't stand right behind another
abbrev pub PartsEnd : List (List ℕ) → ℕ → Past → Type 0
PartsEnd frames number past = (entry : Entry) → SpellsAt frames number entry → is_part entry ≡ true → EndsInOther past

-- the first frames spell these parts, and the next, if there is one, spells none
pub record AreLeading (frames : List (List ℕ)) (parts : List Part) : Type 0 where
  pub spell : Spells (take (length parts) frames) (parts_in parts)
  pub next : (entry : Entry) → SpellsAt frames (length parts) entry → is_part entry ≡ false

-- frames begin with these parts, which are no base from the one of this number on
pub record EndsAt (frames : List (List ℕ)) (parts : List Part) (number : ℕ) : Type 0 where
  pub some : parts ≢ []
  pub leading : AreLeading frames parts
  pub wrong : IsNoBase parts (base_why_is.Part number)

-- The first frames spell this journal: a start, or a whole base of so many parts, which stands for so many entries.
pub record IsBeginning (sheets : List Sheet) (frames : List (List ℕ)) (past : Past) (parts based : ℕ) : Type 0 where
  pub spells : Spells (take (max parts 1) frames) (back past)
  pub ends : PartsEnd frames (max parts 1) past
  pub begun : HasBegunWith sheets past
  pub origin : IsOrigin parts based (back past)

-- why no entry was read from the frame of this number: it spells none, or memory ran out
abbrev pub IsBadFrom : List (List ℕ) → ℕ → JournalWhy → Type 0
IsBadFrom frames number why_is.Fault = ⊥
IsBadFrom frames number (why_is.NotALog place) = ⊥
IsBadFrom frames number (why_is.BadFrame place) = ⊥
IsBadFrom frames number (why_is.BadEntry bad at) = (bad ≡ number) × ((frame : List ℕ) × (slice_get frames number ≡ Some frame) × FailsAt (all_of frame) at)
IsBadFrom frames number (why_is.Illegal bad rule) = ⊥
IsBadFrom frames number (why_is.SheetsDiffer kind) = ⊥
IsBadFrom frames number why_is.Memory = Unit {0}

-- Why an entry isn't added to a journal as that of this number. Memory ran out only where no rule but that of its evaluation refuses
-- it.
abbrev pub IsNotAdded : List Sheet → Past → ℕ → Entry → JournalWhy → Type 0
IsNotAdded sheets past number entry why_is.Fault = ⊥
IsNotAdded sheets past number entry (why_is.NotALog place) = ⊥
IsNotAdded sheets past number entry (why_is.BadFrame place) = ⊥
IsNotAdded sheets past number entry (why_is.BadEntry bad at) = ⊥
IsNotAdded sheets past number entry (why_is.Illegal bad rule) = (bad ≡ number) × Breaks past entry rule
IsNotAdded sheets past number entry (why_is.SheetsDiffer kind) =
    Allowed past entry × IsLowestDifference sheets (sheets_of (entry ∷ past)) kind
IsNotAdded sheets past number entry why_is.Memory = IsUnrefused past entry

-- why the entry of the frame of this number isn't added
abbrev pub IsNotAddedFrom : List Sheet → Past → List (List ℕ) → ℕ → JournalWhy → Type 0
IsNotAddedFrom sheets past frames number why =
    IsBadFrom frames number why ⊎ ((entry : Entry) × SpellsAt frames number entry × IsNotAdded sheets past number entry why)

-- why frames are no journal of these sheets
abbrev pub IsNoJournalIn : List Sheet → List (List ℕ) → JournalWhy → Type 0
IsNoJournalIn sheets frames why =
    IsNoEntry frames why ⊎ ((entries : List Entry) × (frames_of entries ≡ frames) × All EntryFits entries × IsNoJournal sheets entries why)

-- `own` are the frames, which spell a journal of these sheets, and `past` is that journal; of none, the one with its first entry.
pub record IsFound (sheets : List Sheet) (frames : List (List ℕ)) (own : List (Vec ℕ)) (past : Past) (parts based : ℕ) : Type 0 where
  pub is : IsJournal sheets (entries_in own)
  pub spelled : frames_of (entries_in own) ≡ frames
  pub count : length own ≡ length (entries_in own)
  pub past_is : past ≡ back (opened sheets (entries_in own))
  pub origin : IsOrigin parts based (entries_in own)
