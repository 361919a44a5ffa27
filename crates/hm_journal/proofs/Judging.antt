-- What judges entries, one after another.
use Rattle.std.proofs.Common.{◌≡◌, ℕ, ◌+◌, List, [], ◌∷◌, ◌++◌, length, true, false, All, refl, sym, ap, ◌∙◌, subst, inl, arith, length-append}
use Rattle.std.proofs.lemmas.Bool.{true≢false}
use Rattle.std.proofs.lemmas.List.{reverse-append, reverse-reverse}
use Rattle.std.proofs.lemmas.List.Elements.{All-nil}
use Rattle.hm_data.specs.declared.entry.Entry.{Entry}
use Rattle.hm_data.specs.declared.entry.Entry.TheVariants as entry_is
use Rattle.hm_data.specs.declared.part.Part.{Part}
use Rattle.hm_data.specs.declared.sheet.Sheet.{Sheet}
use Rattle.hm_model.specs.Base.{AreSheets, IsBegun, PartFits}
use Rattle.hm_model.specs.Editions.{editions}
use Rattle.hm_model.specs.Image.{counted}
use Rattle.hm_model.specs.Journal.{Past, back}
use Rattle.hm_model.specs.Laws.{is_part}
use Rattle.hm_model.specs.Rules.{Allowed, Breaks, IsLegal}
use Rattle.hm_model.specs.Sheets.{sheets_of}
use Rattle.hm_model.proofs.Grown.{begun_some, sheets_are}
use Rattle.hm_model.proofs.Parted.{by_parts}
use Rattle.hm_model.proofs.Prefixes.{back-push}
use Rattle.hm_entry.specs.Fits.{EntryFits}
use Rattle.hm_hall.specs.Recording.{behind, parts_of}
use Rattle.hm_judge.specs.Judge.{IsRefusedBy}
use Rattle.hm_journal.specs.Judged.{EndsInOther, HasBegunWith}
use Rattle.hm_journal.specs.Stored.{IsJournal, IsJournalByKind, SameSheets}
use Rattle.hm_journal.specs.Verdict.{AreIllegal, HasOthers, IsLowestDifference}
use Rattle.hm_journal.specs.View.{IsOrigin}
use Rattle.hm_journal.proofs.SameSheets.{same_sheets}

-- one entry more stands last
pub back-cons : (entry : Entry) (past : Past) → back (entry ∷ past) ≡ back past ++ entry ∷ []
back-cons entry past = reverse-append (entry ∷ []) past

-- nothing but a start and a part of a base is a first entry
pub breaks_first : (first : Entry) → ((own : List Sheet) → first ≡ entry_is.Start own → ⊥) → is_part first ≡ false → Breaks [] first 1
breaks_first (entry_is.Start own) other no_part = absurd (other own refl)
breaks_first (entry_is.Base part) other no_part = absurd (true≢false no_part)
breaks_first first other no_part = inl (refl, λ begun. begun)

-- an entry that may not stand first is the first that may not
pub illegal_first : (sheets : List Sheet) (first : Entry) (more : List Entry) (rule : ℕ) → Breaks [] first rule → AreIllegal sheets (first ∷ more) 0 rule
illegal_first sheets first more rule breaks = inl (record {
  entry = first;
  there = refl;
  legal = tt;
  begins = λ some. absurd (some refl);
  keeps = refl;
  breaks = breaks;
})

-- a start with sheets that are the same of each kind
pub begun_start : (sheets own : List Sheet) → AreSheets own → SameSheets sheets own → HasBegunWith sheets (entry_is.Start own ∷ [])
begun_start sheets own are same = record { legal = (tt, ((refl, are), tt)); begun = tt; begins = same; keeps = refl }

pub wrong_start : (sheets own : List Sheet) (more : List Entry) → (AreSheets own → ⊥) → AreIllegal sheets (entry_is.Start own ∷ more) 0 1
wrong_start sheets own more wrong = illegal_first sheets (entry_is.Start own) more 1 (inl (refl, λ holds. wrong holds.1))

-- a start with other sheets
pub others_start : (sheets own : List Sheet) (more : List Entry) (kind : ℕ) → AreSheets own → IsLowestDifference sheets own kind → HasOthers sheets (entry_is.Start own ∷ more) kind
others_start sheets own more kind are differs = record {
  front = [];
  entry = entry_is.Start own;
  more = more;
  splits = refl;
  legal = (tt, ((refl, are), tt));
  begins = λ some. absurd (some refl);
  keeps = refl;
  differs = differs;
}

-- what is adopted differs from the sheets in force, and so from those that are the same as these
adopts_no_same : (sheets force own : List Sheet) → AreSheets force → AreSheets own → (own ≡ force → ⊥) → SameSheets sheets force → SameSheets sheets own → ⊥
adopts_no_same sheets force own are are' other same same' =
    other (same_sheets own force are' are (λ kind small. sym (same' kind small) ∙ same kind small))

-- one entry more that may stand after them
pub begun_more : (sheets : List Sheet) (past : Past) (entry : Entry) → HasBegunWith sheets past → Allowed past entry → is_part entry ≡ false
    → ((own : List Sheet) → entry ≡ entry_is.Adopt own → SameSheets sheets own) → HasBegunWith sheets (entry ∷ past)
begun_more sheets past (entry_is.Start own) was allowed other same = absurd (begun_some past was.begun allowed.0.0)
begun_more sheets past (entry_is.Adopt own) was allowed other same =
    absurd (adopts_no_same sheets (sheets_of past) own (sheets_are past was.legal (begun_some past was.begun)) allowed.1.0.0 allowed.1.0.1 was.begins (same own refl))
begun_more sheets past (entry_is.Base part) was allowed other same = absurd (true≢false other)
begun_more sheets past entry was allowed other same = record { legal = (was.legal, allowed); begun = tt; begins = was.begins; keeps = was.keeps }

-- where the newest entry is no part the rule that refuses an entry is the lowest that it breaks
pub breaks_by : (past : Past) (entry : Entry) (rule : ℕ) → (is_part entry ≡ true → EndsInOther past) → IsRefusedBy past entry rule → Breaks past entry rule
breaks_by past (entry_is.Base part) rule ends refused = inl (refused, λ fits. parted part past fits (ends refl))
  where
    parted : (part : Part) (before : Past) → PartFits part before → EndsInOther before → ⊥
    parted = by_parts (λ J. EndsInOther J → ⊥) (λ none. none) (λ own older other. true≢false other)
breaks_by past entry rule ends refused = refused

-- what has begun is a journal of the sheets in force
past_is : (sheets : List Sheet) (past : Past) → IsLegal past → IsBegun past → sheets_of past ≡ sheets → editions past ≡ 0 → All EntryFits (back past) → IsJournal sheets (back past)
past_is sheets past legal begun force keeps fits =
    let again : back (back past) ≡ past = reverse-reverse past in
    record {
      legal = subst IsLegal (sym again) legal;
      begun = λ some. subst IsBegun (sym again) begun;
      fits = fits;
      begins = λ some. ap sheets_of again ∙ force;
      keeps = ap editions again ∙ keeps;
    }

-- what has begun so is a journal that has the same sheet of each kind
pub by_kind : (sheets : List Sheet) (past : Past) → All EntryFits (back past) → HasBegunWith sheets past → IsJournalByKind sheets (back past)
by_kind sheets past fits begun = (sheets_of past, begun.begins, past_is (sheets_of past) past begun.legal begun.begun refl begun.keeps fits)

-- a journal without entries
pub no_journal : (sheets : List Sheet) → IsJournal sheets []
no_journal sheets = record { legal = tt; begun = λ some. absurd (some refl); fits = All-nil EntryFits; begins = λ some. absurd (some refl); keeps = refl }

-- it has the same sheet of each kind
pub none_by_kind : (sheets : List Sheet) → IsJournalByKind sheets []
none_by_kind sheets = (sheets, (λ kind small. refl), no_journal sheets)

-- of the sheets that a journal may begin with it is a journal
pub is_journal : (sheets : List Sheet) (past : Past) → AreSheets sheets → All EntryFits (back past) → HasBegunWith sheets past → IsJournal sheets (back past)
is_journal sheets past are fits begun =
    past_is sheets past begun.legal begun.begun
    (sym (same_sheets sheets (sheets_of past) are (sheets_are past begun.legal (begun_some past begun.begun)) begun.begins)) begun.keeps fits

-- an entry that is no part counts
counted_on : (entry : Entry) (past : Past) → is_part entry ≡ false → counted (entry ∷ past) ≡ counted past + 1
counted_on (entry_is.Base part) past other = absurd (true≢false other)
counted_on entry past other = refl

-- another entry behind a base leaves it alone
module _ (stay : (entries : List Entry) (entry : Entry) → is_part entry ≡ false → parts_of (entries ++ entry ∷ []) ≡ parts_of entries) (grow : (entries : List Entry) (entry : Entry) → is_part entry ≡ false → behind (entries ++ entry ∷ []) ≡ behind entries ++ entry ∷ []) where
  pub origin_on : (parts based : ℕ) (entries : List Entry) (entry : Entry) → is_part entry ≡ false → IsOrigin parts based entries → IsOrigin parts based (entries ++ entry ∷ [])
  origin_on parts based entries entry other was = record {
    parts_are = was.parts_are ∙ ap length (sym (stay entries entry other));
    counted_is =
        let more : counted (back (entries ++ entry ∷ [])) ≡ counted (back entries) + 1 = ap counted (back-push entries entry) ∙ counted_on entry (back entries) other in
        let longer : length (behind (entries ++ entry ∷ [])) ≡ length (behind entries) + 1 = ap length (grow entries entry other) ∙ length-append (behind entries) (entry ∷ []) in
        omega (arith, more, longer, was.counted_is);
    few = was.few;
  }

  pub origin_more : (parts based : ℕ) (past new : Past) (entry : Entry) → is_part entry ≡ false → new ≡ entry ∷ past → IsOrigin parts based (back past) → IsOrigin parts based (back new)
  origin_more parts based past new entry other is was =
      subst (IsOrigin parts based) (sym (ap back is ∙ back-cons entry past)) (origin_on parts based (back past) entry other was)

-- a journal that begins with another entry has no base
pub no_origin : (entry : Entry) → is_part entry ≡ false → IsOrigin 0 0 (entry ∷ [])
no_origin (entry_is.Base part) other = absurd (true≢false other)
no_origin entry other = record { parts_are = refl; counted_is = refl; few = omega arith }
