-- No journal is refused.
use Rattle.std.proofs.Common.{◌≡◌, ◌≢◌, ◌⊎◌, ℕ, zero, suc, ◌+◌, List, [], ◌∷◌, ◌++◌, append_assoc, take, slice_get, Some, Result, Ok, Err, All, refl, sym, ap, ◌∙◌, subst, inl, inr, ⊎_elim}
use Rattle.std.proofs.lemmas.List.Elements.{All-head, All-tail}
use Rattle.std.proofs.lemmas.Option.{none-some, same_Some}
use Rattle.std.specs.Prelude.{IfOk, IfErr, MatchResult}
use Rattle.hm_log.specs.Format.{HoldsFrames, IsBadFrame, IsNotALog}
use Rattle.hm_log.proofs.Exact.{refused_once}
use Rattle.hm_log.specs.declared.why.OpenWhy.{OpenWhy}
use Rattle.hm_log.specs.declared.why.OpenWhy.TheVariants as log_why_is
use Rattle.hm_data.specs.declared.entry.Entry.{Entry}
use Rattle.hm_data.specs.declared.sheet.Sheet.{Sheet}
use Rattle.hm_entry.specs.declared.fault.EntryFault.{EntryFault}
use Rattle.hm_entry.specs.Fits.{EntryFits}
use Rattle.hm_entry.specs.Reading.{all_of}
use Rattle.hm_entry.specs.Spelling.{entry as spelling}
use Rattle.hm_entry.proofs.EntryCodec.{all_again, one_entry}
use Rattle.hm_model.specs.Journal.{Past, back}
use Rattle.hm_model.specs.Editions.{editions}
use Rattle.hm_model.specs.Image.{counted}
use Rattle.hm_model.specs.Rules.{AllHold, Allowed, FirstFails, IsLegal, rules}
use Rattle.hm_model.specs.Sheets.{sheet_for, sheets_of}
use Rattle.hm_model.proofs.Prefixes.{back-append, back-push, legal_cut}
use Rattle.hm_journal.specs.Stored.{IsJournal, IsJournalByKind, frames_of}
use Rattle.hm_journal.specs.Judged.{IsNoJournalIn, of_log}
use Rattle.hm_journal.specs.Verdict.{AreIllegal, FailsAt, HasOthers, IsFirstBad, IsNoEntry, IsNoJournal, IsUnjudged, Refuses}
use Rattle.hm_journal.specs.declared.why.JournalWhy.{JournalWhy}
use Rattle.hm_journal.specs.declared.why.JournalWhy.TheVariants as why_is
use Rattle.hm_journal.proofs.Bases.{not_empty, sheets_kept}
use Rattle.hm_journal.proofs.Spelled.{take_item}

-- frames spell at most one list of entries
pub same_entries : (entries others : List Entry) → All EntryFits entries → All EntryFits others → frames_of entries ≡ frames_of others → entries ≡ others
same_entries [] [] fit other_fit are = refl
same_entries [] (other ∷ others) fit other_fit are = absurd (cc)
same_entries (entry ∷ entries) [] fit other_fit are = absurd (cc)
same_entries (entry ∷ entries) (other ∷ others) fit other_fit are =
    let first : spelling entry ≡ spelling other = cc in
    let rest : frames_of entries ≡ frames_of others = cc in
    let head : entry ≡ other = one_entry entry other (All-head EntryFits entry entries fit) (All-head EntryFits other others other_fit) first in
    let tail : entries ≡ others = same_entries entries others (All-tail EntryFits entry entries fit) (All-tail EntryFits other others other_fit) rest in
    cc

-- each frame is read as an entry
pub frame_reads : (entries : List Entry) (number : ℕ) (frame : List ℕ) → All EntryFits entries → slice_get (frames_of entries) number ≡ Some frame → (entry : Entry) × (all_of frame ≡ Ok entry)
frame_reads [] number frame fit here = absurd (none-some frame here)
frame_reads (entry ∷ entries) zero frame fit here = (entry, ap (λ (f : List ℕ). all_of f) (sym (same_Some (spelling entry) frame here)) ∙ all_again entry (All-head EntryFits entry entries fit))
frame_reads (entry ∷ entries) (suc number) frame fit here = frame_reads entries number frame (All-tail EntryFits entry entries fit) here

none_bad : (entries : List Entry) (number at : ℕ) → All EntryFits entries → IsFirstBad (frames_of entries) number at → ⊥
none_bad entries number at fit bad =
    let read = frame_reads entries number bad.frame fit bad.there in
    let P : Result Entry EntryFault → Type 0 = λ r. FailsAt r at in
    subst P read.1 bad.fails

-- what is allowed breaks no rule
unbroken : (k : ℕ) (some : List (ℕ × Type 0)) → AllHold some → FirstFails k some → ⊥
unbroken k [] hold fails = fails
unbroken k (rule ∷ more) hold (inl fails) = fails.1 hold.0
unbroken k (rule ∷ more) hold (inr fails) = unbroken k more hold.1 fails.1

-- the entries up to a place end with the one there
with_item : (journal : List Entry) (number : ℕ) (entry : Entry) → slice_get journal number ≡ Some entry → back (take (number + 1) journal) ≡ entry ∷ back (take number journal)
with_item journal number entry here = ap back (take_item journal number entry here) ∙ back-push (take number journal) entry

-- the entry at a place of a legal journal is allowed there
allowed_at : (journal : List Entry) (number : ℕ) (entry : Entry) → IsLegal (back journal) → slice_get journal number ≡ Some entry → Allowed (back (take number journal)) entry
allowed_at journal number entry legal here =
    let both : IsLegal (entry ∷ back (take number journal)) = subst IsLegal (with_item journal number entry here) (legal_cut (number + 1) journal legal) in
    both.1

none_illegal : (sheets : List Sheet) (journal : List Entry) (number rule : ℕ) → IsJournalByKind sheets journal → AreIllegal sheets journal number rule → ⊥
none_illegal sheets journal number rule (given, same, is) (inl illegal) =
    unbroken rule (rules (back (take number journal)) illegal.entry) (allowed_at journal number illegal.entry is.legal illegal.there) illegal.breaks
none_illegal sheets journal number rule (given, same, is) (inr ends) = ends.unfinished (is.begun ends.some)

-- the sheets that a journal has are those that it brought, whichever of its entries did
none_others : (sheets : List Sheet) (journal : List Entry) (kind : ℕ) → IsJournalByKind sheets journal → HasOthers sheets journal kind → ⊥
none_others sheets journal kind (given, same, is) others =
    let older = others.entry ∷ back others.front in
    let cut : back journal ≡ back others.more ++ older = ap back (others.splits ∙ sym (append_assoc others.front (others.entry ∷ []) others.more))
    ∙ back-append (others.front ++ others.entry ∷ []) others.more ∙ ap (λ (J : Past). back others.more ++ J) (back-push others.front others.entry) in
    let some : journal ≢ [] = λ none. not_empty others.front (others.entry ∷ others.more) (λ e. cc) (sym others.splits ∙ none) in
    let kept : sheets_of (back journal) ≡ sheets_of older = ap sheets_of cut
    ∙ sheets_kept (back others.more) older (subst IsLegal cut is.legal) (λ e. cc) (sym (ap editions cut) ∙ is.keeps) in
    others.differs.differs (same kind others.differs.is_kind ∙ ap (λ (s : List Sheet). sheet_for s kind) (sym (is.begins some) ∙ kept))

-- where a journal was refused, memory had run out
none_of : (sheets : List Sheet) (journal : List Entry) (why : JournalWhy) → IsJournalByKind sheets journal → IsNoJournal sheets journal why → why ≡ why_is.Memory
none_of sheets journal why_is.Fault is none = absurd none
none_of sheets journal (why_is.NotALog place) is none = absurd none
none_of sheets journal (why_is.BadFrame place) is none = absurd none
none_of sheets journal (why_is.BadEntry number at) is none = absurd none
none_of sheets journal (why_is.Illegal number rule) is none = absurd (none_illegal sheets journal number rule is none)
none_of sheets journal (why_is.SheetsDiffer kind) is none = absurd (none_others sheets journal kind is none)
none_of sheets journal why_is.Memory is none = refl

none_in : (journal : List Entry) (why : JournalWhy) → All EntryFits journal → IsNoEntry (frames_of journal) why → why ≡ why_is.Memory
none_in journal why_is.Fault fits none = absurd none
none_in journal (why_is.NotALog place) fits none = absurd none
none_in journal (why_is.BadFrame place) fits none = absurd none
none_in journal (why_is.BadEntry number at) fits none = absurd (none_bad journal number at fits none)
none_in journal (why_is.Illegal number rule) fits none = absurd none
none_in journal (why_is.SheetsDiffer kind) fits none = absurd none
none_in journal why_is.Memory fits none = refl

pub not_refused : (sheets : List Sheet) (journal : List Entry) (frames : List (List ℕ)) (why : JournalWhy) → IsJournalByKind sheets journal → frames_of journal ≡ frames → IsNoJournalIn sheets frames why
    → why ≡ why_is.Memory
not_refused sheets journal frames why is are (inl none) = none_in journal why is.2.fits (subst (λ (fs : List (List ℕ)). IsNoEntry fs why) (sym are) none)
not_refused sheets journal frames why is are (inr none) =
    let same : none.0 ≡ journal = same_entries none.0 journal none.2 is.2.fits (none.1 ∙ sym are) in
    none_of sheets journal why is (subst (λ (es : List Entry). IsNoJournal sheets es why) same none.3)

-- a journal of these sheets has the same of each kind
pub of_kinds : (sheets : List Sheet) (journal : List Entry) → IsJournal sheets journal → IsJournalByKind sheets journal
of_kinds sheets journal is = (sheets, (λ kind small. refl), is)

-- where a log was not opened though it is one, nothing was refused
pub log_unjudged : (why : OpenWhy) → (why ≡ log_why_is.Fault) ⊎ (why ≡ log_why_is.Memory) → IsUnjudged (of_log why)
log_unjudged why (inl fault) = inl (ap of_log fault)
log_unjudged why (inr memory) = inr (ap of_log memory)

-- a journal is counted, unless memory runs out
pub counts_it : (sheets : List Sheet) (frames : List (List ℕ)) (r : Result ℕ JournalWhy) → IfOk r (λ n. (journal : List Entry) × IsJournalByKind sheets journal × (frames_of journal ≡ frames) × (n ≡ counted (back journal)))
    → IfErr r (IsNoJournalIn sheets frames) → (journal : List Entry) → IsJournalByKind sheets journal → frames_of journal ≡ frames → MatchResult r (λ n. n ≡ counted (back journal)) IsUnjudged
counts_it sheets frames (Ok n) read none journal is are =
    read.3 ∙ ap (λ (es : List Entry). counted (back es)) (same_entries read.0 journal read.1.2.fits is.2.fits (read.2 ∙ sym are))
counts_it sheets frames (Err why) read none journal is are = inr (not_refused sheets journal frames why is are none)

-- what is a log isn't refused as none
pub is_log : (bytes : List ℕ) (frames : List (List ℕ)) → HoldsFrames bytes frames → (place : ℕ) → IsNotALog bytes place → ⊥
is_log bytes frames holds place other =
    ⊎_elim (λ fault. absurd (cc)) (λ memory. absurd (cc))
    (refused_once (log_why_is.NotALog place) bytes frames holds (λ p is. subst (IsNotALog bytes) (let same : place ≡ p = cc in same) other) (λ p is. absurd (cc)))

-- why the frames of a log are no journal is why its bytes are none
pub refuses_by : (sheets : List Sheet) (bytes : List ℕ) (frames : List (List ℕ)) (why : JournalWhy) → HoldsFrames bytes frames → IsUnjudged why ⊎ IsNoJournalIn sheets frames why → Refuses sheets bytes why
refuses_by sheets bytes frames why_is.Fault holds none = tt
refuses_by sheets bytes frames (why_is.NotALog place) holds (inl (inl fault)) = absurd (cc)
refuses_by sheets bytes frames (why_is.NotALog place) holds (inl (inr memory)) = absurd (cc)
refuses_by sheets bytes frames (why_is.NotALog place) holds (inr (inl none)) = absurd none
refuses_by sheets bytes frames (why_is.NotALog place) holds (inr (inr none)) = absurd none.3
refuses_by sheets bytes frames (why_is.BadFrame place) holds (inl (inl fault)) = absurd (cc)
refuses_by sheets bytes frames (why_is.BadFrame place) holds (inl (inr memory)) = absurd (cc)
refuses_by sheets bytes frames (why_is.BadFrame place) holds (inr (inl none)) = absurd none
refuses_by sheets bytes frames (why_is.BadFrame place) holds (inr (inr none)) = absurd none.3
refuses_by sheets bytes frames (why_is.BadEntry number at) holds (inl (inl fault)) = absurd (cc)
refuses_by sheets bytes frames (why_is.BadEntry number at) holds (inl (inr memory)) = absurd (cc)
refuses_by sheets bytes frames (why_is.BadEntry number at) holds (inr (inl bad)) = (frames, holds, bad)
refuses_by sheets bytes frames (why_is.BadEntry number at) holds (inr (inr none)) = absurd none.3
refuses_by sheets bytes frames (why_is.Illegal number rule) holds (inl (inl fault)) = absurd (cc)
refuses_by sheets bytes frames (why_is.Illegal number rule) holds (inl (inr memory)) = absurd (cc)
refuses_by sheets bytes frames (why_is.Illegal number rule) holds (inr (inl none)) = absurd none
refuses_by sheets bytes frames (why_is.Illegal number rule) holds (inr (inr none)) = (none.0, record { opens = subst (HoldsFrames bytes) (sym none.1) holds; fits = none.2 }, none.3)
refuses_by sheets bytes frames (why_is.SheetsDiffer kind) holds (inl (inl fault)) = absurd (cc)
refuses_by sheets bytes frames (why_is.SheetsDiffer kind) holds (inl (inr memory)) = absurd (cc)
refuses_by sheets bytes frames (why_is.SheetsDiffer kind) holds (inr (inl none)) = absurd none
refuses_by sheets bytes frames (why_is.SheetsDiffer kind) holds (inr (inr none)) = (none.0, record { opens = subst (HoldsFrames bytes) (sym none.1) holds; fits = none.2 }, none.3)
refuses_by sheets bytes frames why_is.Memory holds none = is_log bytes frames holds

-- why a log isn't opened is why its bytes are no journal
pub log_refuses : (sheets : List Sheet) (bytes : List ℕ) (why : OpenWhy) → ((place : ℕ) → why ≡ log_why_is.NotALog place → IsNotALog bytes place)
    → ((place : ℕ) → why ≡ log_why_is.BadFrame place → IsBadFrame bytes place) → ((place : ℕ) → why ≡ log_why_is.Memory → IsNotALog bytes place → ⊥) → Refuses sheets bytes (of_log why)
log_refuses sheets bytes log_why_is.Fault other bad memory = tt
log_refuses sheets bytes (log_why_is.NotALog place) other bad memory = other place refl
log_refuses sheets bytes (log_why_is.BadFrame place) other bad memory = bad place refl
log_refuses sheets bytes log_why_is.Memory other bad memory = λ place is. memory place refl is
