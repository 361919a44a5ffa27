-- What a procedure asks for, and whose asks stand in whose way.
use Rattle.std.specs.Prelude.{◌≡◌, ◌≢◌, ℕ, ◌+◌, List, [], ◌∷◌, ◌++◌, map, Option, Some, None, true, false, ◌==◌, ◌&&◌, ◌||◌, ◌⊎◌}
use Rattle.std.specs.declared.cmp.Ordering.{Ordering}
use Rattle.std.specs.declared.cmp.Ordering.TheVariants.{Less, Equal, Greater}
use Rattle.hm_names.specs.Order.{region_cmp}
use Rattle.hm_names.specs.Region.{Region}
use Rattle.hm_names.specs.declared.table.TableName.{TableName}
use Rattle.hm_data.specs.declared.args.Args.{Args}
use Rattle.hm_data.specs.declared.args.Args.TheVariants as args_are
use Rattle.hm_data.specs.declared.request.Request.{Request}
use Rattle.hm_data.specs.declared.request.Request.TheVariants as request_is
use Rattle.hm_model.specs.declared.lock.Ask.{Ask}
use Rattle.hm_model.specs.declared.lock.Resource.{Resource}
use Rattle.hm_model.specs.declared.lock.Resource.TheVariants as resource_is
use Rattle.hm_model.specs.Journal.{Past}
use Rattle.hm_model.specs.Tree.{Node, node_of}
use Rattle.hm_model.specs.Answers.{last_answer}
use Rattle.hm_model.specs.Phase.{ended}

-- an ask with others
abbrev pub shared : Resource → Ask
shared resource = record { resource = resource; exclusive = false }

-- an ask alone
abbrev pub exclusive : Resource → Ask
exclusive resource = record { resource = resource; exclusive = true }

-- a region beside the first of some regions in name order
abbrev pub with_region_at : Ordering → Region → Region → List Region → List Region → List Region
with_region_at Less region first more rest = region ∷ first ∷ more
with_region_at Equal region first more rest = region ∷ first ∷ more
with_region_at Greater region first more rest = first ∷ rest

-- regions in name order, with one more
abbrev pub with_region : Region → List Region → List Region
with_region region [] = region ∷ []
with_region region (first ∷ more) = with_region_at (region_cmp region first) region first more (with_region region more)

-- regions in name order
abbrev pub in_name_order : List Region → List Region
in_name_order [] = []
in_name_order (region ∷ more) = with_region region (in_name_order more)

-- a table exclusively, its namespace shared
abbrev pub table_alone : TableName → List Ask
table_alone table = shared (resource_is.Ns table.ns) ∷ exclusive (resource_is.Table table) ∷ []

-- a table and its namespace, both shared
abbrev pub table_shared : TableName → List Ask
table_shared table = shared (resource_is.Ns table.ns) ∷ shared (resource_is.Table table) ∷ []

-- a region alone
abbrev pub region_alone : TableName → ℕ → Ask
region_alone table id = exclusive (resource_is.Region (record { table = table; id = id }))

-- the regions of a merge, in name order, and the merged one, in the table of the first
abbrev pub merge_asks : List Region → ℕ → List Ask
merge_asks [] first = []
merge_asks (region ∷ more) first =
    table_shared region.table ++ map (λ r. exclusive (resource_is.Region r)) (in_name_order (region ∷ more)) ++ region_alone region.table first ∷ []

-- what a request asks for, in the order in which it is listed
abbrev pub request_asks : Request → ℕ → List Ask
request_asks (request_is.CreateNamespace ns) first = exclusive (resource_is.Ns ns) ∷ []
request_asks (request_is.DropNamespace ns) first = exclusive (resource_is.Ns ns) ∷ []
request_asks (request_is.CreateTable table keys) first = table_alone table
request_asks (request_is.DeleteTable table) first = table_alone table
request_asks (request_is.EnableTable table) first = table_alone table
request_asks (request_is.DisableTable table) first = table_alone table
request_asks (request_is.ModifyTable table version) first = table_alone table
request_asks (request_is.SplitRegion region key) first =
    table_shared region.table ++ exclusive (resource_is.Region region) ∷ region_alone region.table first ∷ region_alone region.table (first + 1) ∷ []
request_asks (request_is.MergeRegions regions) first = merge_asks regions first
request_asks (request_is.Move region to) first = table_shared region.table ++ exclusive (resource_is.Region region) ∷ []

-- what a procedure asks for
abbrev pub asks : Args → List Ask
asks (args_are.Root request first) = request_asks request first
asks (args_are.Transit region goal to) = table_shared region.table ++ exclusive (resource_is.Region region) ∷ []
asks (args_are.Crash server) = exclusive (resource_is.Server server) ∷ []
asks args = []

-- it is one of the list
abbrev pub IsIn : {A : Type 0} → A → List A → Type 0
IsIn x [] = ⊥
IsIn x (y ∷ ys) = (x ≡ y) ⊎ IsIn x ys

-- both ask for one resource, one of them exclusively
abbrev pub Clash : List Ask → List Ask → Type 0
Clash one other =
    (a b : Ask) × IsIn a one × IsIn b other × (a.resource ≡ b.resource) × ((a.exclusive || b.exclusive) ≡ true)

-- two procedures that are there ask for what clashes
abbrev pub AsksClash : Option Node → Option Node → Type 0
AsksClash None other = ⊥
AsksClash (Some one) None = ⊥
AsksClash (Some one) (Some other) = Clash (asks one.args) (asks other.args)

-- it is an ancestor of the procedure
abbrev pub IsAbove : ℕ → Option Node → Type 0
IsAbove p None = ⊥
IsAbove p (Some node) = IsIn p node.above

-- neither is an ancestor of the other, and their asks clash
abbrev pub Conflict : Past → ℕ → ℕ → Type 0
Conflict before p q =
    (IsAbove p (node_of before q) → ⊥) × (IsAbove q (node_of before p) → ⊥) × AsksClash (node_of before p) (node_of before q)

-- it has a step and hasn't ended, so it holds what it asks for
abbrev pub Holds : Past → ℕ → Type 0
Holds before p = (last_answer before p ≢ None) × (ended before p ≡ false)

-- no two procedures that hold what they ask for conflict
abbrev pub NoneConflict : Past → Type 0
NoneConflict before = (p q : ℕ) → p ≢ q → Holds before p → Holds before q → Conflict before p q → ⊥
