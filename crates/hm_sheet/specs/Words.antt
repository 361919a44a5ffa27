-- Counts, and why sheets make no registry.
use Rattle.std.specs.Prelude.{ℕ, zero, suc, Bool, true, false, is_some, ◌+◌, ◌-◌, ◌^◌, ◌≤◌, ◌<◌, min, List, [], ◌∷◌, Some, None, map, sum, ◌⊎◌, Any, IsTrue, IsSome, ◌≡◌, ◌==◌, if◌then◌else◌}
use Rattle.hm_data.specs.declared.sheet.Sheet.{Sheet}
use Rattle.hm_model.specs.Kinds.{all_kinds}
use Rattle.hm_model.specs.Sheets.{sheet_for}
use Rattle.hm_model.specs.Validity.{AllValid}
use Rattle.hm_sheet.specs.Own.{is_kind}
use Rattle.hm_sheet.specs.declared.fault.RegistryFault.{RegistryFault}
use Rattle.hm_sheet.specs.declared.fault.RegistryFault.TheVariants as fault_is

-- a count, risen by one, or at its end
abbrev pub risen : ℕ → ℕ
risen count = min (count + 1) (2 ^ 64 - 1)

-- the same where it is to rise
abbrev pub risen_if : Bool → ℕ → ℕ
risen_if true count = risen count
risen_if false count = count

-- of some counts, the one at a place risen
abbrev pub risen_at : ℕ → List ℕ → List ℕ
risen_at place [] = []
risen_at zero (count ∷ counts) = risen count ∷ counts
risen_at (suc place) (count ∷ counts) = count ∷ risen_at place counts

-- the same where it is to rise
abbrev pub risen_at_if : Bool → ℕ → List ℕ → List ℕ
risen_at_if true place counts = risen_at place counts
risen_at_if false place counts = counts

-- the place of the first of several lists of sheets that has a kind
abbrev pub place_for : ℕ → List (List Sheet) → ℕ
place_for kind [] = 0
place_for kind (sheets ∷ more) = if is_some (sheet_for sheets kind) then 0 else place_for kind more + 1

-- a count rose, or stands at its end
abbrev pub CountRises : ℕ → ℕ → Type 0
CountRises before now = risen before ≤ now

-- the sum of counts rose, or one of them stood at its end
abbrev pub CountsRise : List ℕ → List ℕ → Type 0
CountsRise before now = (sum before < sum now) ⊎ Any (λ n. 2 ^ 64 - 1 ≤ n) before

-- how many sheets have the kind
abbrev pub count_of : List Sheet → ℕ → ℕ
count_of [] kind = 0
count_of (sheet ∷ sheets) kind = (if sheet.kind == kind then 1 else 0) + count_of sheets kind

-- two sheets have the kind, and no lower kind has two
abbrev pub IsLowestTwice : List Sheet → ℕ → Type 0
IsLowestTwice sheets kind = (1 < count_of sheets kind) × ((lower : ℕ) → lower < kind → count_of sheets lower ≤ 1)

-- no kind has two sheets
abbrev pub NoneTwice : List Sheet → Type 0
NoneTwice sheets = (kind : ℕ) → kind < 256 → count_of sheets kind ≤ 1

-- no sheet has the kind of procedures, and every lower one has a sheet
abbrev pub IsLowestMissing : List Sheet → ℕ → Type 0
IsLowestMissing sheets kind =
    IsTrue (is_kind kind) × (sheet_for sheets kind ≡ None) × ((lower : ℕ) → lower < kind → IsTrue (is_kind lower) → IsSome (sheet_for sheets lower))

-- each kind of procedures has a sheet
abbrev pub HasAll : List Sheet → Type 0
HasAll sheets = (kind : ℕ) → IsTrue (is_kind kind) → IsSome (sheet_for sheets kind)

-- the list has the sheet that all have of each of these kinds, in their order
pub record AreSheetsOf (kinds : List ℕ) (all list : List Sheet) : Type 0 where
  pub found : map Some list ≡ map (λ kind. sheet_for all kind) kinds
  pub valid : (map (λ sheet. sheet.kind) list ≡ kinds) × AllValid list

-- the list has the sheet of each kind of procedures: a journal begins with it
abbrev pub AreWhole : List Sheet → List Sheet → Type 0
AreWhole = AreSheetsOf all_kinds

-- why sheets make no registry. Memory runs out last.
abbrev pub IsNoRegistry : List Sheet → RegistryFault → Type 0
IsNoRegistry sheets (fault_is.Twice kind) = IsLowestTwice sheets kind
IsNoRegistry sheets (fault_is.Missing kind) = NoneTwice sheets × IsLowestMissing sheets kind
IsNoRegistry sheets fault_is.Memory = NoneTwice sheets × HasAll sheets
