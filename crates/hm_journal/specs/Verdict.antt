-- Why bytes hold no journal of some sheets.
use Rattle.std.specs.Prelude.{◌≡◌, ◌≢◌, ◌⊎◌, ◌<◌, ℕ, List, [], ◌∷◌, ◌++◌, length, take, slice_get, Some, Result, Ok, Err, All}
use Rattle.hm_log.specs.Format.{HoldsFrames, IsNotALog, IsBadFrame}
use Rattle.hm_data.specs.declared.entry.Entry.{Entry}
use Rattle.hm_data.specs.declared.sheet.Sheet.{Sheet}
use Rattle.hm_entry.specs.Fits.{EntryFits}
use Rattle.hm_entry.specs.Reading.{all_of}
use Rattle.hm_entry.specs.declared.fault.EntryFault.{EntryFault}
use Rattle.hm_entry.specs.declared.fault.EntryFault.TheVariants as entry_fault_is
use Rattle.hm_model.specs.Base.{IsBegun}
use Rattle.hm_model.specs.Editions.{editions}
use Rattle.hm_model.specs.Journal.{back}
use Rattle.hm_model.specs.Rules.{Breaks, IsLegal}
use Rattle.hm_model.specs.Sheets.{sheet_for, sheets_of}
use Rattle.hm_journal.specs.Stored.{SameSheets, frames_of}
use Rattle.hm_journal.specs.declared.why.JournalWhy.{JournalWhy}
use Rattle.hm_journal.specs.declared.why.JournalWhy.TheVariants as why_is

-- reading failed at this place
abbrev pub FailsAt : Result Entry EntryFault → ℕ → Type 0
FailsAt (Ok entry) at = ⊥
FailsAt (Err (entry_fault_is.Short place)) at = place ≡ at
FailsAt (Err (entry_fault_is.Field place)) at = place ≡ at
FailsAt (Err (entry_fault_is.Rest place)) at = place ≡ at
FailsAt (Err entry_fault_is.Memory) at = ⊥

-- the frame of this number spells no entry, from this byte of it on, and each before it spells one
pub record IsFirstBad (frames : List (List ℕ)) (number at : ℕ) : Type 0 where
  pub entries : List Entry
  pub fits : All EntryFits entries
  pub before : take number frames ≡ frames_of entries
  pub frame : List ℕ
  pub there : slice_get frames number ≡ Some frame
  pub fails : FailsAt (all_of frame) at

-- the bytes are a log whose frames spell these entries
pub record IsSpelledOn (bytes : List ℕ) (entries : List Entry) : Type 0 where
  pub opens : HoldsFrames bytes (frames_of entries)
  pub fits : All EntryFits entries

-- The entry of this number is the first that may not stand where it does, and this is the rule that refuses it: the lowest that it
-- breaks. Where it isn't the first entry, these sheets are in force before it, kind by kind, from the first entry on.
pub record IsFirstIllegal (sheets : List Sheet) (entries : List Entry) (number rule : ℕ) : Type 0 where
  pub entry : Entry
  pub there : slice_get entries number ≡ Some entry
  pub legal : IsLegal (back (take number entries))
  pub begins : number ≢ 0 → SameSheets sheets (sheets_of (back (take number entries)))
  pub keeps : editions (back (take number entries)) ≡ 0
  pub breaks : Breaks (back (take number entries)) entry rule

-- each entry is a part of a base of these sheets, kind by kind, and may stand where it does, but they are no whole base: rule 18, and
-- the number is that of all of them
pub record EndsInBase (sheets : List Sheet) (entries : List Entry) (number rule : ℕ) : Type 0 where
  pub number_is : number ≡ length entries
  pub rule_is : rule ≡ 18
  pub some : entries ≢ []
  pub legal : IsLegal (back entries)
  pub begins : SameSheets sheets (sheets_of (back entries))
  pub unfinished : IsBegun (back entries) → ⊥

-- the kind is the lowest whose sheets differ
pub record IsLowestDifference (sheets others : List Sheet) (kind : ℕ) : Type 0 where
  pub is_kind : kind < 256
  pub differs : sheet_for sheets kind ≢ sheet_for others kind
  pub lower : (other : ℕ) → other < kind → sheet_for sheets other ≡ sheet_for others other

-- Each entry before this one may stand where it does, and these sheets are in force there, kind by kind, from the first entry on. This
-- one, a start, the head of a base or an adoption, may stand there too, and its sheets differ from these, lowest in this kind.
pub record HasOthers (sheets : List Sheet) (entries : List Entry) (kind : ℕ) : Type 0 where
  pub front : List Entry
  pub entry : Entry
  pub more : List Entry
  pub splits : entries ≡ front ++ entry ∷ more
  pub legal : IsLegal (entry ∷ back front)
  pub begins : front ≢ [] → SameSheets sheets (sheets_of (back front))
  pub keeps : editions (back front) ≡ 0
  pub differs : IsLowestDifference sheets (sheets_of (entry ∷ back front)) kind

-- a rule refuses entries: one of them may not stand where it does, or they end in a base that isn't whole
abbrev pub AreIllegal : List Sheet → List Entry → (number rule : ℕ) → Type 0
AreIllegal sheets entries number rule = IsFirstIllegal sheets entries number rule ⊎ EndsInBase sheets entries number rule

-- Why the bytes hold no journal of these sheets. The frames are judged first, then each as the spelling of an entry, then the entries
-- in order, and behind one that may stand where it does the sheets that it brings. Memory may run out in reading a log, so only of
-- bytes that aren't refused before that.
abbrev pub Refuses : List Sheet → List ℕ → JournalWhy → Type 0
Refuses sheets bytes why_is.Fault = Unit {0}
Refuses sheets bytes (why_is.NotALog place) = IsNotALog bytes place
Refuses sheets bytes (why_is.BadFrame place) = IsBadFrame bytes place
Refuses sheets bytes (why_is.BadEntry number at) = (frames : List (List ℕ)) × HoldsFrames bytes frames × IsFirstBad frames number at
Refuses sheets bytes (why_is.Illegal number rule) = (entries : List Entry) × IsSpelledOn bytes entries × AreIllegal sheets entries number rule
Refuses sheets bytes (why_is.SheetsDiffer kind) = (entries : List Entry) × IsSpelledOn bytes entries × HasOthers sheets entries kind
Refuses sheets bytes why_is.Memory = (place : ℕ) → IsNotALog bytes place → ⊥

-- nothing was refused: the device failed, or memory ran out
abbrev pub IsUnjudged : JournalWhy → Type 0
IsUnjudged why = (why ≡ why_is.Fault) ⊎ (why ≡ why_is.Memory)

-- why not each frame was read as an entry: one spells none, or memory ran out
abbrev pub IsNoEntry : List (List ℕ) → JournalWhy → Type 0
IsNoEntry frames why_is.Fault = ⊥
IsNoEntry frames (why_is.NotALog place) = ⊥
IsNoEntry frames (why_is.BadFrame place) = ⊥
IsNoEntry frames (why_is.BadEntry number at) = IsFirstBad frames number at
IsNoEntry frames (why_is.Illegal number rule) = ⊥
IsNoEntry frames (why_is.SheetsDiffer kind) = ⊥
IsNoEntry frames why_is.Memory = Unit {0}

-- why entries weren't found to be a journal of these sheets: they are none, or memory ran out
abbrev pub IsNoJournal : List Sheet → List Entry → JournalWhy → Type 0
IsNoJournal sheets entries why_is.Fault = ⊥
IsNoJournal sheets entries (why_is.NotALog place) = ⊥
IsNoJournal sheets entries (why_is.BadFrame place) = ⊥
IsNoJournal sheets entries (why_is.BadEntry number at) = ⊥
IsNoJournal sheets entries (why_is.Illegal number rule) = AreIllegal sheets entries number rule
IsNoJournal sheets entries (why_is.SheetsDiffer kind) = HasOthers sheets entries kind
IsNoJournal sheets entries why_is.Memory = Unit {0}
