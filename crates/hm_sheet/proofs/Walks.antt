-- Where two lists of rows differ.
use Rattle.std.proofs.Common.{◌≡◌, ℕ, ◌<◌, ◌≤◌, List, [], ◌∷◌, length, drop, Some, None, slice_get, refl, arith, length-drop}
use Rattle.hm_data.specs.declared.sheet.Row.{Row}
use Rattle.hm_model.specs.Lists.{Line}
use Rattle.hm_model.specs.Validity.{difference, astray}

left_over : (rows others : List Row) (place : ℕ) → 0 < length rows → length others ≡ 0 → difference rows others place ≡ Some place
left_over [] others place some none = absurd (omega arith)
left_over (row ∷ rows) [] place some none = refl
left_over (row ∷ rows) (other ∷ others) place some none = absurd (omega arith)

right_over : (rows others : List Row) (place : ℕ) → length rows ≡ 0 → 0 < length others → difference rows others place ≡ Some place
right_over [] [] place none some = absurd (omega arith)
right_over [] (other ∷ others) place none some = refl
right_over (row ∷ rows) others place none some = absurd (omega arith)

-- the first list goes on where the second has ended
pub too_few : (rows others : List Row) (place : ℕ) → place < length rows → length others ≤ place → difference (drop place rows) (drop place others) place ≡ Some place
too_few rows others place on over =
    left_over (drop place rows) (drop place others) place (rw length-drop (omega arith)) (rw length-drop (omega arith))

-- and the other way round
pub too_many : (rows others : List Row) (place : ℕ) → length rows ≤ place → place < length others → difference (drop place rows) (drop place others) place ≡ Some place
too_many rows others place over on =
    right_over (drop place rows) (drop place others) place (rw length-drop (omega arith)) (rw length-drop (omega arith))

-- a row that isn't there leads nowhere
pub gone : (rows : List Row) (line : Line) (lines : List Line) (place : ℕ) → slice_get rows place ≡ None → astray rows line lines place ≡ None
gone rows line [] place none = rw (none, astray)
gone rows line (following ∷ lines) place none = rw (none, astray)
