-- The first rule that fails, of rules after others; and where a sheet can break one.
use Rattle.std.proofs.Common.{◌≡◌, ℕ, ◌+◌, ◌<◌, ◌≤◌, List, [], ◌∷◌, ◌++◌, length, Option, Some, None, Bool, true, false, refl, arith, if◌then◌else◌, slice_get, inl, inr, zero, suc, ◌⊎◌, drop, nat_lt, ◌||◌, ◌==◌, ◌&&◌, not}
use Rattle.std.proofs.lemmas.Bool.Decides.{nat_tests}
use Rattle.std.proofs.lemmas.Bool.{cases_lt}
use Rattle.hm_model.specs.Answers.{no_row}
use Rattle.hm_sheet.proofs.Walks.{gone}
use Rattle.hm_data.specs.declared.sheet.Row.{Row}
use Rattle.hm_data.specs.declared.sheet.Sheet.{Sheet}
use Rattle.hm_model.specs.Lists.{Line, orders_of, exact_rows}
use Rattle.hm_model.specs.Validity.{first_broken, rules_of_row, row_rules, sheet_rules, is_not, difference, same_row, astray, longest_kept, misfit_in, misfit, IsValid, fits}

pub rest_broken : (rules more : List (ℕ × Bool)) → first_broken rules ≡ None → first_broken (rules ++ more) ≡ first_broken more
rest_broken [] more none = refl
rest_broken ((number, true) ∷ rules) more none = rest_broken rules more none
rest_broken ((number, false) ∷ rules) more none = cc

pub front_broken : (rules more : List (ℕ × Bool)) (k : ℕ) → first_broken rules ≡ Some k → first_broken (rules ++ more) ≡ Some k
front_broken [] more k some = cc
front_broken ((number, true) ∷ rules) more k some = front_broken rules more k some
front_broken ((number, false) ∷ rules) more k some = some

chosen : (b : Bool) (other : Option ℕ) (place found : ℕ) → (if b then other else Some place) ≡ Some found → (other ≡ Some found) ⊎ (found ≡ place)
chosen true other place found is = inl is
chosen false other place found is = inr (cc)

difference_within : (rows others : List Row) (place found : ℕ) → difference rows others place ≡ Some found → found ≤ place + length others
difference_within [] [] place found is = absurd (cc)
difference_within [] (other ∷ others) place found is = let same : place ≡ found = cc in omega arith
difference_within (row ∷ rows) [] place found is = let same : place ≡ found = cc in omega arith
difference_within (row ∷ rows) (other ∷ others) place found is =
    elim (chosen (same_row row other) (difference rows others (place + 1)) place found is) [
      | inl later ↦ (let within : found ≤ (place + 1) + length others = difference_within rows others (place + 1) found later in omega arith)
      | inr here ↦ omega arith
    ]

row_there : (rows : List Row) (place : ℕ) (row : Row) → slice_get rows place ≡ Some row → place < length rows
row_there [] place row is = absurd (cc)
row_there (first ∷ rows) zero row is = omega arith
row_there (first ∷ rows) (suc place) row is = let lt : place < length rows = row_there rows place row is in omega arith

astray_end : (rows : List Row) (line : Line) (place found : ℕ) (there : Option Row) → slice_get rows place ≡ there → astray rows line [] place ≡ Some found → found < length rows
astray_end rows line place found None none is = absurd (cc (gone rows line [] place none))
astray_end rows line place found (Some row) there is =
    elim (chosen (fits line row && (row.next == no_row)) None place found (rw (there, astray) at is)) [
      | inl none ↦ absurd (cc)
      | inr here ↦ (let lt : place < length rows = row_there rows place row there in omega arith)
    ]

astray_on : (rows : List Row) (line following : Line) (lines : List Line) (place found : ℕ) (there : Option Row) → ((next later : ℕ) → astray rows following lines next ≡ Some later → later < length rows) → slice_get rows place ≡ there → astray rows line (following ∷ lines) place ≡ Some found → found < length rows
astray_on rows line following lines place found None behind none is = absurd (cc (gone rows line (following ∷ lines) place none))
astray_on rows line following lines place found (Some row) behind there is =
    elim (chosen (fits line row && not (row.next == no_row)) (astray rows following lines row.next) place found (rw (there, astray) at is)) [
      | inl later ↦ behind row.next found later
      | inr here ↦ (let lt : place < length rows = row_there rows place row there in omega arith)
    ]

astray_within : (rows : List Row) (line : Line) (lines : List Line) (place found : ℕ) → astray rows line lines place ≡ Some found → found < length rows
astray_within rows line [] place found is = astray_end rows line place found (slice_get rows place) refl is
astray_within rows line (following ∷ lines) place found is =
    astray_on rows line following lines place found (slice_get rows place) (astray_within rows following lines) refl is

misfit_in_within : (exact : List Row) (lines : List Line) (rows : List Row) (found : ℕ) → misfit_in exact lines rows ≡ Some found → found ≤ length rows
misfit_in_within exact lines [] found is = let first : 0 ≡ found = cc in omega arith
misfit_in_within (first ∷ exact) lines (row ∷ rows) found is =
    let within : found ≤ 0 + length (row ∷ rows) = difference_within (first ∷ exact) (row ∷ rows) 0 found is in omega arith
misfit_in_within [] [] (row ∷ rows) found is = let first : 0 ≡ found = cc in omega arith
misfit_in_within [] (line ∷ lines) (row ∷ rows) found is =
    let within : found < length (row ∷ rows) = astray_within (row ∷ rows) line lines 0 found is in omega arith

none_behind : (rows : List Row) (place : ℕ) → length rows ≤ place → slice_get rows place ≡ None
none_behind [] place behind = refl
none_behind (row ∷ rows) zero behind = absurd (omega arith)
none_behind (row ∷ rows) (suc place) behind = none_behind rows place (omega arith)

-- a place beyond all rows is not where the rows are not those of their kind
fits_beyond : (sheet : Sheet) (place : ℕ) (found : Option ℕ) → misfit sheet ≡ found → length sheet.rows < place → is_not place found ≡ true
fits_beyond sheet place None none beyond = refl
fits_beyond sheet place (Some found) some beyond =
    let within : found ≤ length sheet.rows = misfit_in_within (exact_rows sheet.kind) (longest_kept sheet.rows (orders_of sheet.kind)) sheet.rows found some in
    grind (arith, nat_tests)

-- a sheet breaks no rule beyond all its rows
pub unbroken_beyond : (sheet : Sheet) (place : ℕ) → length sheet.rows < place → first_broken (sheet_rules sheet place) ≡ None
unbroken_beyond sheet place beyond =
    rw (sheet_rules, none_behind sheet.rows place (omega arith), fits_beyond sheet place (misfit sheet) refl beyond) refl

second_broken : (first : Bool) (more : List (ℕ × Bool)) → first_broken ((1, first) ∷ (2, false) ∷ more) ≡ None → ⊥
second_broken true more none = cc
second_broken false more none = cc

none_there : (rows : List Row) (place : ℕ) → slice_get rows place ≡ None → length rows ≤ place
none_there [] place none = omega arith
none_there (row ∷ rows) zero none = absurd (cc)
none_there (row ∷ rows) (suc place) none = let le : length rows ≤ place = none_there rows place none in omega arith

few : (kind : ℕ) (rows : List Row) (there : Option Row) (last : Bool) → slice_get rows 32 ≡ there → first_broken (rules_of_row kind rows 32 there ++ (8, last) ∷ []) ≡ None → length rows ≤ 32
few kind rows None last gone none = none_there rows 32 gone
few kind rows (Some row) last there none = absurd (second_broken ((row.next == no_row) || nat_lt row.next (length rows)) (drop 2 (row_rules kind rows 32 row ++ (8, last) ∷ [])) none)

-- a sheet that breaks no rule up to place 32 is valid
pub valid_by : (sheet : Sheet) → ((place : ℕ) → place < 33 → first_broken (sheet_rules sheet place) ≡ None) → IsValid sheet
valid_by sheet none place = elim (cases_lt place 33) [
  | inl low ↦ none place low
  | inr high ↦ (let few : length sheet.rows ≤ 32 = few sheet.kind sheet.rows (slice_get sheet.rows 32) (is_not 32 (misfit sheet)) refl (none 32 (omega arith)) in unbroken_beyond sheet place (omega arith))
]
