-- How many bytes sheets have as they are spelled.
use Rattle.std.proofs.Common.{◌≡◌, ◌*◌, ◌≤◌, Bool, true, false, List, [], ◌∷◌, length, refl, inl, inr, arith, length-append}
use Rattle.std.specs.List.{flat_map}
use Rattle.std.proofs.lemmas.Option.{slice_get_cases}
use Rattle.hm_data.specs.Numbers.{back_number}
use Rattle.hm_data.specs.declared.sheet.Row.{Row}
use Rattle.hm_data.specs.declared.sheet.Sheet.{Sheet}
use Rattle.hm_entry.specs.Spelling.{byte, flag, row, sheet}
use Rattle.hm_model.specs.Validity.{IsValid, AllValid}
use Rattle.hm_model.proofs.ValidSheets.{valid_row}

pub flag_long : (b : Bool) → length (flag b) ≡ 1
flag_long true = refl
flag_long false = refl

row_long : (r : Row) → length (row r) ≡ 4
unfolding row
row_long r = omega (arith, flag_long r.after, length-append (flag r.after) (byte (back_number r.undo)))

rows_long : (rows : List Row) → length (flat_map row rows) ≡ 4 * length rows
rows_long [] = refl
rows_long (r ∷ rows) = omega (arith, row_long r, rows_long rows, length-append (row r) (flat_map row rows))

-- a valid sheet has at most 32 rows
few_rows : (s : Sheet) → IsValid s → length s.rows ≤ 32
few_rows s valid = elim ((slice_get_cases s.rows 32).1) [
  | inl there ↦ let low = (valid_row s valid 32 there.0 there.2).1 in absurd (omega (arith, low))
  | inr none ↦ none.0
]

sheet_short : (s : Sheet) → IsValid s → length (sheet s) ≤ 131
unfolding sheet
sheet_short s valid = omega (arith, few_rows s valid, rows_long s.rows)

pub sheets_short : (sheets : List Sheet) → AllValid sheets → length (flat_map sheet sheets) ≤ 131 * length sheets
sheets_short [] valid = omega arith
sheets_short (s ∷ sheets) valid = omega (arith, sheet_short s valid.0, sheets_short sheets valid.1, length-append (sheet s) (flat_map sheet sheets))
