-- What parts of a base say that stand alone.
use Rattle.std.proofs.Common.{◌≡◌, ◌≢◌, ℕ, ◌<◌, ◌^◌, List, [], ◌∷◌, ◌++◌, length, refl, sym, ap, ◌∙◌, subst, arith}
use Rattle.std.proofs.lemmas.List.{length-map, reverse-append}
use Rattle.hm_data.specs.declared.entry.Entry.{Entry}
use Rattle.hm_data.specs.declared.entry.Entry.TheVariants as entry_is
use Rattle.hm_data.specs.declared.part.Part.{Part}
use Rattle.hm_data.specs.declared.part.Part.TheVariants as part_is
use Rattle.hm_model.specs.Base.{PartFits}
use Rattle.hm_model.specs.Editions.{editions}
use Rattle.hm_model.specs.Image.{counted}
use Rattle.hm_model.specs.Journal.{Past}
use Rattle.hm_model.specs.Rebase.{based}
use Rattle.hm_model.specs.Rules.{IsLegal}
use Rattle.hm_model.specs.Sheets.{sheets_of}
use Rattle.hm_model.proofs.Parted.{by_parts}
use Rattle.hm_model.proofs.Prefixes.{legal_before}
use Rattle.hm_hall.specs.Recording.{behind, parts_of}
use Rattle.hm_journal.specs.Judged.{head_sheets, parts_in}
use Rattle.hm_journal.specs.View.{IsOrigin}

-- what has something older is something
pub not_empty : (newer older : Past) → older ≢ [] → newer ++ older ≡ [] → ⊥
not_empty [] older some none = some none
not_empty (entry ∷ newer) older some none = cc

-- the first part stands behind the others
pub based_first : (part : Part) (parts : List Part) → based (part ∷ parts) ≡ based parts ++ entry_is.Base part ∷ []
based_first part parts = reverse-append (entry_is.Base part ∷ []) (parts_in parts)

-- there is no part, or the newest entry is one
by_newest : (P : Past → Type 0) → P [] → ((own : Part) (older : Past) → P (entry_is.Base own ∷ older)) → (parts : List Part) → P (based parts)
by_newest P nothing parted [] = nothing
by_newest P nothing parted (part ∷ parts) =
    subst P (sym (based_first part parts))
    (by_newest (λ J. P (J ++ entry_is.Base part ∷ [])) (parted part []) (λ own older. parted own (older ++ entry_is.Base part ∷ [])) parts)

-- no sheets were adopted among parts
pub none_adopted : (parts : List Part) → editions (based parts) ≡ 0
none_adopted = by_newest (λ J. editions J ≡ 0) refl (λ own older. refl)

-- nor before one that fits
adopted_before : (part : Part) (before : Past) → PartFits part before → editions before ≡ 0
adopted_before = by_parts (λ J. editions J ≡ 0) refl (λ own older. refl)

-- a part behind others has no sheets
part_keeps : (part : Part) (before : Past) → PartFits part before → before ≢ [] → sheets_of (entry_is.Base part ∷ before) ≡ sheets_of before
part_keeps (part_is.Head entries last parts sheets) before fits some = absurd (some fits.0)
part_keeps part before fits some = refl

-- where no sheets were adopted those stay in force with which the journal began
pub sheets_kept : (newer older : Past) → IsLegal (newer ++ older) → older ≢ [] → editions (newer ++ older) ≡ 0 → sheets_of (newer ++ older) ≡ sheets_of older
sheets_kept [] older legal some none = refl
sheets_kept (entry_is.Start sheets ∷ newer) older legal some none = absurd (not_empty newer older some legal.1.0.0)
sheets_kept (entry_is.Adopt sheets ∷ newer) older legal some none = absurd (omega (arith, none))
sheets_kept (entry_is.Base part ∷ newer) older legal some none =
    part_keeps part (newer ++ older) legal.1.0 (not_empty newer older some)
    ∙ sheets_kept newer older legal.0 some (adopted_before part (newer ++ older) legal.1.0)
sheets_kept (entry ∷ newer) older legal some none = sheets_kept newer older legal.0 some none

-- parts that are there are a journal that has an entry
pub some_based : (parts : List Part) → parts ≢ [] → based parts ≢ []
some_based [] some = absurd (some refl)
some_based (part ∷ parts) some = λ none. not_empty (based parts) (entry_is.Base part ∷ []) (λ e. cc) (sym (based_first part parts) ∙ none)

-- the first of legal parts is legal
pub head_legal : (part : Part) (parts : List Part) → IsLegal (based (part ∷ parts)) → IsLegal (entry_is.Base part ∷ [])
head_legal part parts legal = legal_before (based parts) (entry_is.Base part ∷ []) (subst IsLegal (based_first part parts) legal)

-- the head alone tells the sheets of legal parts
pub sheets_first : (parts : List Part) → IsLegal (based parts) → sheets_of (based parts) ≡ head_sheets parts
sheets_first [] legal = refl
sheets_first (part ∷ parts) legal =
    let cut = based_first part parts in
    ap sheets_of cut
    ∙ sheets_kept (based parts) (entry_is.Base part ∷ []) (subst IsLegal cut legal) (λ none. cc) (subst (λ (J : Past). editions J ≡ 0) cut (none_adopted (part ∷ parts)))

-- parts are all parts
all_parts : (parts : List Part) → parts_of (parts_in parts) ≡ parts_in parts
all_parts [] = refl
all_parts (part ∷ parts) = ap (λ (more : List Entry). entry_is.Base part ∷ more) (all_parts parts)

-- and nothing is behind them
none_behind : (parts : List Part) → behind (parts_in parts) ≡ []
none_behind [] = refl
none_behind (part ∷ parts) = none_behind parts

-- what parts stand for
pub origin_based : (parts : List Part) (count : ℕ) → count ≡ counted (based parts) → count < 2 ^ 63 → IsOrigin (length parts) count (parts_in parts)
origin_based parts count is small = record {
  parts_are = sym (ap length (all_parts parts) ∙ length-map parts (λ (part : Part). entry_is.Base part));
  counted_is = omega (arith, is, ap length (none_behind parts));
  few = small;
}
