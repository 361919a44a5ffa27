-- The journals of frames.
use Rattle.std.proofs.Common.{◌≡◌, ◌≢◌, ℕ, List, [], ◌∷◌, map, length, refl, sym, ap, ◌∙◌, subst, arith}
use Rattle.std.specs.Global.{Vec}
use Rattle.std.proofs.lemmas.List.{length-map, reverse-reverse}
use Rattle.hm_data.specs.declared.entry.Entry.{Entry}
use Rattle.hm_data.specs.declared.entry.Entry.TheVariants as entry_is
use Rattle.hm_data.specs.declared.sheet.Sheet.{Sheet}
use Rattle.hm_entry.specs.Spelling.{entry as spelling}
use Rattle.hm_model.specs.Journal.{Past, back}
use Rattle.hm_model.proofs.Grown.{begun_some}
use Rattle.hm_journal.specs.Stored.{IsJournal, frames_of, opened}
use Rattle.hm_journal.specs.Judged.{HasBegunWith, IsFound}
use Rattle.hm_journal.specs.View.{IsOrigin, entries_in}
use Rattle.hm_journal.proofs.Judging.{no_journal}
use Rattle.hm_journal.proofs.Keeping.{entries_are}

-- a journal that has entries is as it was opened
opened_some : (sheets : List Sheet) (entries : List Entry) → back entries ≢ [] → entries ≡ opened sheets entries
opened_some sheets [] some = absurd (some refl)
opened_some sheets (entry ∷ entries) some = refl

-- so is one that has begun
pub opened_past : (sheets : List Sheet) (past : Past) → HasBegunWith sheets past → past ≡ back (opened sheets (back past))
opened_past sheets past begun =
    let again : back (back past) ≡ past = reverse-reverse past in
    sym again ∙ ap back (opened_some sheets (back past) (λ none. begun_some past begun.begun (sym again ∙ none)))

-- no frames are none of entries
pub no_frames : (frames : List (List ℕ)) → length frames ≡ 0 → frames_of [] ≡ frames
no_frames [] none = refl
no_frames (frame ∷ frames) none = absurd (omega (arith, none))

-- no frames are those of the journal without entries, which gets its first
pub new_journal : (sheets : List Sheet) (frames : List (List ℕ)) (past : Past) → length frames ≡ 0 → past ≡ entry_is.Start sheets ∷ []
    → (journal : List Entry) × IsJournal sheets journal × (frames_of journal ≡ frames) × (past ≡ back (opened sheets journal)) × IsOrigin 0 0 journal
new_journal sheets frames past none are =
    ([], no_journal sheets, no_frames frames none, are, record { parts_are = refl; counted_is = refl; few = omega arith })

-- the frames of a journal
pub found_journal : (sheets : List Sheet) (frames : List (List ℕ)) (own : List (Vec ℕ)) (journal : List Entry) (past : Past) (parts based : ℕ) → IsJournal sheets journal → frames_of journal ≡ frames
    → past ≡ back (opened sheets journal) → IsOrigin parts based journal → map (λ (f : Vec ℕ). f.items) own ≡ frames → IsFound sheets frames own past parts based
found_journal sheets frames own journal past parts based is spelled past_is origin are =
    let same : journal ≡ entries_in own = sym (entries_are own journal is.fits (are ∙ sym spelled)) in
    record {
      is = subst (IsJournal sheets) same is;
      spelled = ap frames_of (sym same) ∙ spelled;
      count = sym (length-map own (λ (f : Vec ℕ). f.items)) ∙ ap length (are ∙ sym spelled) ∙ length-map journal spelling ∙ ap length same;
      past_is = past_is ∙ ap (λ (es : List Entry). back (opened sheets es)) same;
      origin = subst (IsOrigin parts based) same origin;
    }
