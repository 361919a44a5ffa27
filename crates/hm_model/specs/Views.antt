-- What a procedure works on, by its args: each is there only in the kinds that have it.
use Rattle.std.specs.Prelude.{ℕ, List, [], ◌∷◌, ◌++◌, Option, Some, None}
use Rattle.hm_names.specs.Region.{Region}
use Rattle.hm_names.specs.declared.table.TableName.{TableName}
use Rattle.hm_data.specs.declared.args.Args.{Args}
use Rattle.hm_data.specs.declared.args.Args.TheVariants as args_are
use Rattle.hm_data.specs.declared.request.Request.{Request}
use Rattle.hm_data.specs.declared.request.Request.TheVariants as request_is
use Rattle.hm_model.specs.Kinds.{table_of_request}

-- what a root was asked for, and the first id that it drew
pub record Asked : Type 0 where
  pub request : Request
  pub first : ℕ

-- what was asked for, where anybody asked
abbrev pub asked_of : Args → Option Asked
asked_of (args_are.Root request first) = Some (record { request = request; first = first })
asked_of args = None

-- the namespace that a request is about, where it reads that namespace's row
abbrev pub namespace_of_request : Request → Option (List ℕ)
namespace_of_request (request_is.CreateNamespace ns) = Some ns
namespace_of_request (request_is.DropNamespace ns) = Some ns
namespace_of_request (request_is.CreateTable table keys) = Some table.ns
namespace_of_request request = None

-- the same of a procedure
abbrev pub namespace_of : Args → Option (List ℕ)
namespace_of (args_are.Root request first) = namespace_of_request request
namespace_of args = None

-- the regions of one table, by their ids
abbrev pub regions_in : TableName → List ℕ → List Region
regions_in table [] = []
regions_in table (id ∷ ids) = record { table = table; id = id } ∷ regions_in table ids

-- the table of what a procedure works on
abbrev pub table_of : Args → Option TableName
table_of (args_are.Root request first) = table_of_request request
table_of (args_are.Transit region goal to) = Some region.table
table_of (args_are.AddRegions table first bounds) = Some table
table_of (args_are.DropRegions table ids) = Some table
table_of (args_are.AssignCall region server) = Some region.table
table_of (args_are.CloseCall region server) = Some region.table
table_of args = None

-- the region that a request splits or moves
abbrev pub region_of_request : Request → Option Region
region_of_request (request_is.SplitRegion region key) = Some region
region_of_request (request_is.Move region to) = Some region
region_of_request request = None

-- the one region that a procedure works on
abbrev pub region_of : Args → Option Region
region_of (args_are.Root request first) = region_of_request request
region_of (args_are.Transit region goal to) = Some region
region_of (args_are.AssignCall region server) = Some region
region_of (args_are.CloseCall region server) = Some region
region_of args = None

-- the bounds of a new table's regions: one more than there are regions, the first and the last empty
abbrev pub bounds_of_request : Request → Option (List (List ℕ))
bounds_of_request (request_is.CreateTable table keys) = Some ([] ∷ keys ++ [] ∷ [])
bounds_of_request request = None

-- the bounds of the regions that a procedure adds
abbrev pub bounds_of : Args → Option (List (List ℕ))
bounds_of (args_are.Root request first) = bounds_of_request request
bounds_of (args_are.AddRegions table first bounds) = Some bounds
bounds_of args = None

-- the first id of the regions that a procedure adds
abbrev pub first_id_of : Args → ℕ
first_id_of (args_are.Root request first) = first
first_id_of (args_are.AddRegions table first bounds) = first
first_id_of args = 0
