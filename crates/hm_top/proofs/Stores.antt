-- What is recorded of a journal that was just opened.
use Rattle.std.proofs.Common.{◌≡◌, ℕ, List, [], ◌∷◌, Option, None, refl, ap, ◌∙◌}
use Rattle.hm_data.specs.declared.entry.Entry.{Entry}
use Rattle.hm_data.specs.declared.sheet.Sheet.{Sheet}
use Rattle.hm_hall.specs.Recording.{Recording}
use Rattle.hm_hall.specs.declared.fault.Halt.{Halt}
use Rattle.hm_journal.specs.Stored.{IsJournal, opened}
use Rattle.hm_journal.specs.declared.limits.Limits.{Limits}
use Rattle.hm_model.specs.Editions.{editions}
use Rattle.hm_model.specs.Journal.{back}
use Rattle.hm_model.specs.Sheets.{sheets_of}
use Rattle.hm_top.specs.Standing.{fresh}

abbrev keep : List Entry → Option Entry → Option Entry → Option Halt → ℕ → ℕ → Recording
keep entries next tail halted soft hard = record { entries = entries; next = next; tail = tail; halted = halted; soft = soft; hard = hard }

-- it is told by its parts
pub opened_kept : (entries : List Entry) (kept : Recording) (limits : Limits) → kept.entries ≡ entries → kept.next ≡ None → kept.tail ≡ None → kept.halted ≡ None → kept.soft ≡ limits.soft → kept.hard ≡ limits.hard
    → kept ≡ fresh limits entries
opened_kept entries kept limits same next tail halted soft hard =
    ap (λ (l : List Entry). keep l kept.next kept.tail kept.halted kept.soft kept.hard) same
    ∙ ap (λ (o : Option Entry). keep entries o kept.tail kept.halted kept.soft kept.hard) next
    ∙ ap (λ (o : Option Entry). keep entries None o kept.halted kept.soft kept.hard) tail
    ∙ ap (λ (o : Option Halt). keep entries None None o kept.soft kept.hard) halted
    ∙ ap (λ (n : ℕ). keep entries None None None n kept.hard) soft
    ∙ ap (λ (n : ℕ). keep entries None None None limits.soft n) hard

-- it begins with its sheets
pub opened_sheets : (sheets : List Sheet) (old entries : List Entry) → IsJournal sheets old → entries ≡ opened sheets old → sheets_of (back entries) ≡ sheets
opened_sheets sheets old entries is are = ap (λ (es : List Entry). sheets_of (back es)) are ∙ by old is
  where
    by : (old : List Entry) → IsJournal sheets old → sheets_of (back (opened sheets old)) ≡ sheets
    by [] is = refl
    by (entry ∷ more) is = is.begins (λ none. cc)

-- and adopted none
pub opened_editions : (sheets : List Sheet) (old entries : List Entry) → IsJournal sheets old → entries ≡ opened sheets old → editions (back entries) ≡ 0
opened_editions sheets old entries is are = ap (λ (es : List Entry). editions (back es)) are ∙ by old is
  where
    by : (old : List Entry) → IsJournal sheets old → editions (back (opened sheets old)) ≡ 0
    by [] is = refl
    by (entry ∷ more) is = is.keeps
