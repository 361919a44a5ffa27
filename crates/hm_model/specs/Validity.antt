-- Which sheets are valid.
use Rattle.std.specs.Prelude.{◌≡◌, ℕ, ◌+◌, ◌<◌, List, [], ◌∷◌, ◌++◌, length, Option, Some, None, Bool, true, false, not, ◌==◌, ◌&&◌, ◌||◌, nat_lt, nat_le, if◌then◌else◌, slice_get}
use Rattle.std.specs.List.{list_any}
use Rattle.hm_data.specs.Numbers.{act_number, back_number}
use Rattle.hm_data.specs.declared.sheet.Row.{Row}
use Rattle.hm_data.specs.declared.sheet.Sheet.{Sheet}
use Rattle.hm_model.specs.ActSorts.{is_check, is_layout, is_edit, editing_kinds}
use Rattle.hm_model.specs.Answers.{no_row}
use Rattle.hm_model.specs.Lists.{Line, orders_of, exact_rows}

-- a number is among these
abbrev pub is_among : List ℕ → ℕ → Bool
is_among numbers n = list_any (λ m. m == n) numbers

-- two flags are equal
abbrev pub same_flag : Bool → Bool → Bool
same_flag a b = if a then b else not b

-- the row at a place, if there is one, is after the point or not, as asked
abbrev pub is_none_or_marked : Bool → Option Row → Bool
is_none_or_marked after None = true
is_none_or_marked after (Some row) = same_flag row.after after

-- the row that follows: none where the procedure ends, also where so many rows are there that one has that number
abbrev pub follower : List Row → ℕ → Option Row
follower rows next = if next == no_row then None else slice_get rows next

-- the row ends the procedure, and that is a root
abbrev pub ends_root : ℕ → Row → Bool
ends_root kind row = (row.next == no_row) && (nat_le 1 kind && nat_le kind 11)

-- the rules of one row, by number
abbrev pub row_rules : ℕ → List Row → ℕ → Row → List (ℕ × Bool)
row_rules kind rows place row =
    (1, (row.next == no_row) || nat_lt row.next (length rows))
    ∷ (2, nat_lt place 32)
    ∷ (3, not row.after || is_none_or_marked true (follower rows row.next))
    ∷ (4, not (row.after && (is_check row.act || is_layout row.act)))
    ∷ (5, not (is_layout row.act) || is_none_or_marked false (follower rows row.next))
    ∷ (6, not (is_edit row.act) || (row.after || (ends_root kind row || (back_number row.undo == 1))))
    ∷ (7, not (is_edit row.act) || is_among (editing_kinds row.act) kind)
    ∷ []

-- the rules of the row at a place, if there is one
abbrev pub rules_of_row : ℕ → List Row → ℕ → Option Row → List (ℕ × Bool)
rules_of_row kind rows place None = []
rules_of_row kind rows place (Some row) = row_rules kind rows place row

-- a row is as a line lists it, with its undo or none
abbrev pub fits : Line → Row → Bool
fits line row =
    (act_number row.act == act_number line.act)
    && (same_flag row.after line.after && ((back_number row.undo == back_number line.undo) || (back_number row.undo == 0)))

-- the place of the first row, led through from a place, that isn't as listed, or that ends too early or goes on too
-- far; a row that isn't there is no such row
abbrev pub astray : List Row → Line → List Line → ℕ → Option ℕ
astray rows line [] place =
    elim (slice_get rows place) as (λ r. Option ℕ) [ None ↦ None | Some row ↦ if fits line row && (row.next == no_row) then None else Some place ]
astray rows line (following ∷ lines) place =
    elim (slice_get rows place) as (λ r. Option ℕ) [ None ↦ None | Some row ↦ if fits line row && not (row.next == no_row) then astray rows following lines row.next else Some place ]

-- how many rows, led through from a place, are as listed before the first that isn't
abbrev pub kept : List Row → List Line → ℕ → ℕ
kept rows [] place = 0
kept rows (line ∷ lines) place =
    elim (slice_get rows place) as (λ r. ℕ) [ None ↦ 0 | Some row ↦ if fits line row then kept rows lines row.next + 1 else 0 ]

-- of two orders the one that rows keep to longer
abbrev pub longer_kept : List Row → List Line → List Line → List Line
longer_kept rows one other = if nat_lt (kept rows one 0) (kept rows other 0) then other else one

-- of several orders the one that rows keep to longest
abbrev pub longest_kept : List Row → List (List Line) → List Line
longest_kept rows [] = []
longest_kept rows (order ∷ []) = order
longest_kept rows (order ∷ other ∷ others) = longer_kept rows order (longest_kept rows (other ∷ others))

-- two rows are equal
abbrev pub same_row : Row → Row → Bool
same_row a b =
    (act_number a.act == act_number b.act)
    && ((a.next == b.next) && (same_flag a.after b.after && (back_number a.undo == back_number b.undo)))

-- the first place, counted from one on, at which two lists of rows differ
abbrev pub difference : List Row → List Row → ℕ → Option ℕ
difference [] [] place = None
difference [] (row ∷ rows) place = Some place
difference (row ∷ rows) [] place = Some place
difference (row ∷ rows) (other ∷ others) place =
    if same_row row other then difference rows others (place + 1) else Some place

-- the place at which rows are not those of a kind, by what it lists
abbrev pub misfit_in : List Row → List Line → List Row → Option ℕ
misfit_in exact lines [] = Some 0
misfit_in (first ∷ exact) lines (row ∷ rows) = difference (first ∷ exact) (row ∷ rows) 0
misfit_in [] [] (row ∷ rows) = Some 0
misfit_in [] (line ∷ lines) (row ∷ rows) = astray (row ∷ rows) line lines 0

-- the place at which the rows of a sheet are not those of its kind: of its orders the one counts that they keep to longest
abbrev pub misfit : Sheet → Option ℕ
misfit sheet = misfit_in (exact_rows sheet.kind) (longest_kept sheet.rows (orders_of sheet.kind)) sheet.rows

-- a number is not the one that is there
abbrev pub is_not : ℕ → Option ℕ → Bool
is_not n None = true
is_not n (Some m) = not (m == n)

-- the rules of a sheet at a place, by number
abbrev pub sheet_rules : Sheet → ℕ → List (ℕ × Bool)
sheet_rules sheet place =
    rules_of_row sheet.kind sheet.rows place (slice_get sheet.rows place) ++ (8, is_not place (misfit sheet)) ∷ []

-- the first of numbered rules that fails
abbrev pub first_broken : List (ℕ × Bool) → Option ℕ
first_broken [] = None
first_broken ((number, rule) ∷ more) = if rule then first_broken more else Some number

-- a sheet that breaks no rule at any place
abbrev pub IsValid : Sheet → Type 0
IsValid sheet = (place : ℕ) → first_broken (sheet_rules sheet place) ≡ None

-- the lowest place at which a sheet breaks a rule, and the lowest rule that it breaks there
abbrev pub IsFirstFault : Sheet → ℕ → ℕ → Type 0
IsFirstFault sheet place rule =
    (first_broken (sheet_rules sheet place) ≡ Some rule)
    × ((lower : ℕ) → lower < place → first_broken (sheet_rules sheet lower) ≡ None)

-- each sheet is valid
abbrev pub AllValid : List Sheet → Type 0
AllValid [] = Unit {0}
AllValid (sheet ∷ sheets) = IsValid sheet × AllValid sheets
