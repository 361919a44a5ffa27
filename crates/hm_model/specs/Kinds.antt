-- The kinds of procedures.
use Rattle.std.specs.Prelude.{ℕ, List, [], ◌∷◌, Option, Some, None}
use Rattle.hm_names.specs.Region.{Region}
use Rattle.hm_names.specs.declared.table.TableName.{TableName}
use Rattle.hm_data.specs.declared.args.Args.{Args}
use Rattle.hm_data.specs.declared.args.Args.TheVariants as args_are
use Rattle.hm_data.specs.declared.request.Request.{Request}
use Rattle.hm_data.specs.declared.request.Request.TheVariants as request_is
use Rattle.hm_data.specs.declared.place.Goal.{Goal}
use Rattle.hm_data.specs.declared.place.Goal.TheVariants as goal_is

-- the kind that a request asks for
abbrev pub request_kind : Request → ℕ
request_kind (request_is.CreateNamespace ns) = 1
request_kind (request_is.DropNamespace ns) = 2
request_kind (request_is.CreateTable table keys) = 3
request_kind (request_is.DeleteTable table) = 4
request_kind (request_is.EnableTable table) = 5
request_kind (request_is.DisableTable table) = 6
request_kind (request_is.ModifyTable table version) = 7
request_kind (request_is.SplitRegion region key) = 8
request_kind (request_is.MergeRegions regions) = 9
request_kind (request_is.Move region to) = 10

-- the kind of a procedure
abbrev pub kind_of : Args → ℕ
kind_of (args_are.Root request first) = request_kind request
kind_of (args_are.Transit region goal to) = 10
kind_of (args_are.Crash server) = 11
kind_of (args_are.AddRegions table first bounds) = 20
kind_of (args_are.DropRegions table ids) = 21
kind_of (args_are.AssignCall region server) = 23
kind_of (args_are.CloseCall region server) = 24
kind_of (args_are.FenceCall server) = 25
kind_of (args_are.LayoutCall root) = 26
kind_of (args_are.SweepLayout root) = 27

-- the kinds of procedures, in their order
abbrev pub all_kinds : List ℕ
all_kinds = 1 ∷ 2 ∷ 3 ∷ 4 ∷ 5 ∷ 6 ∷ 7 ∷ 8 ∷ 9 ∷ 10 ∷ 11 ∷ 20 ∷ 21 ∷ 23 ∷ 24 ∷ 25 ∷ 26 ∷ 27 ∷ []

-- the table of the first of some regions
abbrev pub table_of_first : List Region → Option TableName
table_of_first [] = None
table_of_first (region ∷ more) = Some region.table

-- the table of a request: its own, or its region's
abbrev pub table_of_request : Request → Option TableName
table_of_request (request_is.CreateTable table keys) = Some table
table_of_request (request_is.DeleteTable table) = Some table
table_of_request (request_is.EnableTable table) = Some table
table_of_request (request_is.DisableTable table) = Some table
table_of_request (request_is.ModifyTable table version) = Some table
table_of_request (request_is.SplitRegion region key) = Some region.table
table_of_request (request_is.MergeRegions regions) = table_of_first regions
table_of_request (request_is.Move region to) = Some region.table
table_of_request request = None

-- the row at which a transit begins
abbrev pub goal_row : Goal → ℕ
goal_row goal_is.Assign = 0
goal_row goal_is.Unassign = 3
goal_row goal_is.Move = 5

-- the row at which a request begins
abbrev pub request_row : Request → ℕ
request_row (request_is.Move region to) = 5
request_row request = 0

-- the row at which a procedure begins
abbrev pub first_row_of : Args → ℕ
first_row_of (args_are.Root request first) = request_row request
first_row_of (args_are.Transit region goal to) = goal_row goal
first_row_of args = 0
