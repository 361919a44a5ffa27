-- Two regions that are held and have a row in common.
use Rattle.std.specs.Prelude.{◌≡◌, List, [], ◌∷◌, ◌++◌, Option, Some, None, Bool, true, false, ◌&&◌, ◌||◌, if◌then◌else◌}
use Rattle.std.specs.List.{AllByRecursion, flat_map}
use Rattle.std.specs.Option.{option_cmp, option_map}
use Rattle.std.specs.Ordering.{ordering_then}
use Rattle.std.specs.declared.cmp.Ordering.{Ordering}
use Rattle.std.specs.declared.cmp.Ordering.TheVariants.{Less, Equal, Greater}
use Rattle.hm_names.specs.Order.{bytes_cmp, region_cmp, server_cmp, table_cmp}
use Rattle.hm_names.specs.Ranges.{ends_behind}
use Rattle.hm_names.specs.declared.range.KeyRange.{KeyRange}
use Rattle.hm_model.specs.Keys.{same_region, same_table}
use Rattle.hm_model.specs.Locks.{IsIn}
use Rattle.hm_model.specs.RowsSaid.{range_in}
use Rattle.hm_model.specs.Single.{overlap_if}
use Rattle.hm_hbck.specs.Found.{Hold}
use Rattle.hm_hbck.specs.declared.finding.Finding.{Finding}
use Rattle.hm_hbck.specs.declared.finding.Finding.TheVariants as finding_is

-- one region, or two of one table whose rows' ranges overlap
abbrev pub meet : Hold → Hold → Bool
meet one other =
    same_region one.region other.region
    || (same_table one.region.table other.region.table && overlap_if (range_in one.row) (range_in other.row))

-- by region, and then by server
abbrev pub name_cmp : Hold → Hold → Ordering
name_cmp one other = ordering_then (region_cmp one.region other.region) (server_cmp one.server other.server)

-- the finding of two, in name order
abbrev pub twice : Hold → Hold → Finding
twice one other = finding_is.Twice one.region one.server other.region other.server

-- the finding of two in the order of their names, if they are two
abbrev pub by_name : Ordering → Hold → Hold → List Finding
by_name Less one other = twice one other ∷ []
by_name Equal one other = []
by_name Greater one other = twice other one ∷ []

-- what is found of two
abbrev pub of_pair : Hold → Hold → List Finding
of_pair one other = if meet one other then by_name (name_cmp one other) one other else []

-- what is found of any two
abbrev pub of_pairs : List Hold → List Finding
of_pairs [] = []
of_pairs (one ∷ more) = flat_map (of_pair one) more ++ of_pairs more

-- a range ends after another starts
abbrev pub reaches : Option KeyRange → Option KeyRange → Bool
reaches None other = false
reaches (Some one) None = false
reaches (Some one) (Some other) = ends_behind one other.start

-- one that starts no earlier may meet it
abbrev pub may_meet : Hold → Hold → Bool
may_meet one other =
    same_region one.region other.region
    || (same_table one.region.table other.region.table && reaches (range_in one.row) (range_in other.row))

-- by table, then by where the ranges start, then by region
abbrev pub start_cmp : Hold → Hold → Ordering
start_cmp one other =
    ordering_then (table_cmp one.region.table other.region.table)
    (ordering_then (option_cmp bytes_cmp (option_map (λ range. range.start) (range_in one.row)) (option_map (λ range. range.start) (range_in other.row)))
    (region_cmp one.region other.region))

-- where one can't be met, none after it can be
abbrev pub NoneMayMeet : Hold → List Hold → Type 0
NoneMayMeet one list = AllByRecursion (λ other. may_meet one other ≡ false) list

abbrev pub EndsOnce : Hold → List Hold → Type 0
EndsOnce one [] = Unit {0}
EndsOnce one (other ∷ more) = (may_meet one other ≡ false → NoneMayMeet one more) × EndsOnce one more

-- the same of each and those after it
abbrev pub EachEndsOnce : List Hold → Type 0
EachEndsOnce [] = Unit {0}
EachEndsOnce (one ∷ more) = EndsOnce one more × EachEndsOnce more

-- the rows of one region are one
abbrev pub RowsAgree : List Hold → Type 0
RowsAgree list = (one other : Hold) → IsIn one list → IsIn other list → one.region ≡ other.region → one.row ≡ other.row

-- two of some that meet, in name order
abbrev pub IsPairOf : List Hold → Finding → Type 0
IsPairOf list finding =
    (one other : Hold) × IsIn one list × IsIn other list × (name_cmp one other ≡ Less) × (meet one other ≡ true) × (finding ≡ twice one other)
