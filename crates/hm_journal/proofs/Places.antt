-- Why entries that frames spell are refused, by what was found at one frame.
use Rattle.std.proofs.Common.{◌≡◌, ℕ, zero, suc, ◌+◌, List, [], ◌∷◌, ◌++◌, drop, take, slice_get, Some, Result, All, sym, ap, ◌∙◌, subst, inl, inr, append_assoc}
use Rattle.std.proofs.lemmas.List.{reverse-reverse, take-append-drop, take-map}
use Rattle.std.proofs.lemmas.List.Elements.{All-head, All-tail, All-take}
use Rattle.std.proofs.lemmas.Option.{none-some, same_Some}
use Rattle.hm_data.specs.declared.entry.Entry.{Entry}
use Rattle.hm_data.specs.declared.sheet.Sheet.{Sheet}
use Rattle.hm_entry.specs.declared.fault.EntryFault.{EntryFault}
use Rattle.hm_entry.specs.Fits.{EntryFits}
use Rattle.hm_entry.specs.Spelling.{entry as spelling}
use Rattle.hm_entry.proofs.EntryCodec.{one_entry}
use Rattle.hm_model.specs.Editions.{editions}
use Rattle.hm_model.specs.Journal.{Past, back}
use Rattle.hm_model.specs.Rules.{Breaks, IsLegal}
use Rattle.hm_model.specs.Sheets.{sheets_of}
use Rattle.hm_journal.specs.Stored.{SameSheets, frames_of}
use Rattle.hm_journal.specs.Judged.{HasBegunWith, IsBadFrom, IsNotAdded, IsNotAddedFrom, Spells, SpellsAt}
use Rattle.hm_journal.specs.Verdict.{FailsAt, IsLowestDifference, IsNoJournal}
use Rattle.hm_journal.specs.declared.why.JournalWhy.{JournalWhy}
use Rattle.hm_journal.specs.declared.why.JournalWhy.TheVariants as why_is
use Rattle.hm_journal.proofs.Refusing.{frame_reads, same_entries}
use Rattle.hm_journal.proofs.Spelled.{take_item}

-- where the frames spell entries, only memory that runs out keeps one from being read
pub none_read : (sheets : List Sheet) (frames : List (List ℕ)) (entries : List Entry) (number : ℕ) (why : JournalWhy) → Spells frames entries → IsBadFrom frames number why → IsNoJournal sheets entries why
none_read sheets frames entries number why_is.Fault spells bad = absurd bad
none_read sheets frames entries number (why_is.NotALog place) spells bad = absurd bad
none_read sheets frames entries number (why_is.BadFrame place) spells bad = absurd bad
none_read sheets frames entries number (why_is.BadEntry n at) spells bad =
    let read = frame_reads entries number bad.1.0 spells.fits (ap (λ fs. slice_get fs number) spells.are ∙ bad.1.1) in
    let P : Result Entry EntryFault → Type 0 = λ r. FailsAt r at in
    subst P read.1 bad.1.2
none_read sheets frames entries number (why_is.Illegal n rule) spells bad = absurd bad
none_read sheets frames entries number (why_is.SheetsDiffer kind) spells bad = absurd bad
none_read sheets frames entries number why_is.Memory spells bad = tt

-- the entry that a frame spells stands at its place
entry_at : (entries : List Entry) (number : ℕ) (entry : Entry) → All EntryFits entries → EntryFits entry → slice_get (frames_of entries) number ≡ Some (spelling entry) → slice_get entries number ≡ Some entry
entry_at [] number entry fit fits here = absurd (none-some (spelling entry) here)
entry_at (first ∷ entries) zero entry fit fits here = ap Some (one_entry first entry (All-head EntryFits first entries fit) fits (same_Some (spelling first) (spelling entry) here))
entry_at (first ∷ entries) (suc number) entry fit fits here = entry_at entries number entry (All-tail EntryFits first entries fit) fits here

pub spelled_at : (frames : List (List ℕ)) (entries : List Entry) (number : ℕ) (entry : Entry) → Spells frames entries → SpellsAt frames number entry → slice_get entries number ≡ Some entry
spelled_at frames entries number entry spells here = entry_at entries number entry spells.fits here.0 (ap (λ fs. slice_get fs number) spells.are ∙ here.1)

-- the first frames spell the first entries
pub front_is : (frames : List (List ℕ)) (number : ℕ) (front entries : List Entry) → Spells (take number frames) front → Spells frames entries → take number entries ≡ front
front_is frames number front entries so_far spells =
    same_entries (take number entries) front (All-take EntryFits number entries spells.fits) so_far.fits
    (sym (take-map spelling number entries) ∙ ap (take number) spells.are ∙ sym so_far.are)

-- what stands before an entry, it, and what is behind it
pub split_at : (entries : List Entry) (number : ℕ) (entry : Entry) → slice_get entries number ≡ Some entry → entries ≡ take number entries ++ entry ∷ drop (number + 1) entries
split_at entries number entry here =
    let rest = drop (number + 1) entries in
    sym (take-append-drop (number + 1) entries) ∙ ap (λ (front : List Entry). front ++ rest) (take_item entries number entry here) ∙ append_assoc (take number entries) (entry ∷ []) rest

-- an entry that isn't added is the first that may not stand where it does, or the first that brings other sheets
module _ (sheets : List Sheet) (frames : List (List ℕ)) (number : ℕ) (past : Past) (entries : List Entry) (so_far : Spells (take number frames) (back past)) (begun : HasBegunWith sheets past) (spells : Spells frames entries) where
  before : back (take number entries) ≡ past
  before = ap back (front_is frames number (back past) entries so_far spells) ∙ reverse-reverse past

  not_added : (entry : Entry) (why : JournalWhy) → SpellsAt frames number entry → IsNotAdded sheets past number entry why → IsNoJournal sheets entries why
  not_added entry why_is.Fault here none = absurd none
  not_added entry (why_is.NotALog place) here none = absurd none
  not_added entry (why_is.BadFrame place) here none = absurd none
  not_added entry (why_is.BadEntry n at) here none = absurd none
  not_added entry (why_is.Illegal n rule) here none =
      let cut : back (take n entries) ≡ past = ap (λ (k : ℕ). back (take k entries)) none.0 ∙ before in
      inl (record {
        entry = entry;
        there = ap (slice_get entries) none.0 ∙ spelled_at frames entries number entry spells here;
        legal = subst IsLegal (sym cut) begun.legal;
        begins = λ some. subst (λ (J : Past). SameSheets sheets (sheets_of J)) (sym cut) begun.begins;
        keeps = ap editions cut ∙ begun.keeps;
        breaks = subst (λ (J : Past). Breaks J entry rule) (sym cut) none.1;
      })
  not_added entry (why_is.SheetsDiffer kind) here none = record {
    front = take number entries;
    entry = entry;
    more = drop (number + 1) entries;
    splits = split_at entries number entry (spelled_at frames entries number entry spells here);
    legal = subst (λ (J : Past). IsLegal (entry ∷ J)) (sym before) (begun.legal, none.0);
    begins = λ some. subst (λ (J : Past). SameSheets sheets (sheets_of J)) (sym before) begun.begins;
    keeps = ap editions before ∙ begun.keeps;
    differs = subst (λ (J : Past). IsLowestDifference sheets (sheets_of (entry ∷ J)) kind) (sym before) none.1;
  }
  not_added entry why_is.Memory here none = tt

  pub not_added_from : (why : JournalWhy) → IsNotAddedFrom sheets past frames number why → IsNoJournal sheets entries why
  not_added_from why (inl bad) = none_read sheets frames entries number why spells bad
  not_added_from why (inr none) = not_added none.0 why none.1 none.2

-- the entry of the first frame stands first
first_of : (entries : List Entry) (first : Entry) → slice_get entries 0 ≡ Some first → (more : List Entry) × (entries ≡ first ∷ more)
first_of [] first here = absurd (none-some first here)
first_of (entry ∷ more) first here = (more, ap (λ e. e ∷ more) (same_Some entry first here))

-- where its entry begins no journal
pub first_refused : (sheets : List Sheet) (frames : List (List ℕ)) (first : Entry) (why : JournalWhy) → SpellsAt frames 0 first → ((more : List Entry) → IsNoJournal sheets (first ∷ more) why)
    → (entries : List Entry) → Spells frames entries → IsNoJournal sheets entries why
first_refused sheets frames first why here none entries spells =
    let stands = first_of entries first (spelled_at frames entries 0 first spells here) in
    subst (λ (es : List Entry). IsNoJournal sheets es why) (sym stands.1) (none stands.0)
