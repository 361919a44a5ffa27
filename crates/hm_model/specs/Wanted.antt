-- What a procedure is to bring about, by its args.
use Rattle.std.specs.Prelude.{ℕ, List, [], Option, Some, None}
use Rattle.hm_names.specs.Server.{Server}
use Rattle.hm_names.specs.declared.pid.Pid.{Pid}
use Rattle.hm_data.specs.declared.args.Args.{Args}
use Rattle.hm_data.specs.declared.args.Args.TheVariants as args_are
use Rattle.hm_data.specs.declared.place.Goal.{Goal}
use Rattle.hm_data.specs.declared.place.Goal.TheVariants as goal_is
use Rattle.hm_data.specs.declared.request.Request.{Request}
use Rattle.hm_data.specs.declared.request.Request.TheVariants as request_is

-- the key at which a request splits a region
abbrev pub cut_of_request : Request → Option (List ℕ)
cut_of_request (request_is.SplitRegion region key) = Some key
cut_of_request request = None

-- the version that a request gives a table
abbrev pub version_of_request : Request → Option ℕ
version_of_request (request_is.ModifyTable table version) = Some version
version_of_request request = None

-- the server that a request moves a region to, where it names one
abbrev pub wanted_by_request : Request → Option Server
wanted_by_request (request_is.Move region to) = to
wanted_by_request request = None

-- the server that a transit is to bring its region to, where one is named
abbrev pub wanted_of : Args → Option Server
wanted_of (args_are.Root request first) = wanted_by_request request
wanted_of (args_are.Transit region goal to) = to
wanted_of args = None

-- the goal of a transit; a root's is a move
abbrev pub goal_in : Args → Goal
goal_in (args_are.Root request first) = goal_is.Move
goal_in (args_are.Transit region goal to) = goal
goal_in (args_are.Crash server) = goal_is.Move
goal_in (args_are.AddRegions table first bounds) = goal_is.Move
goal_in (args_are.DropRegions table ids) = goal_is.Move
goal_in (args_are.AssignCall region server) = goal_is.Move
goal_in (args_are.CloseCall region server) = goal_is.Move
goal_in (args_are.FenceCall server) = goal_is.Move
goal_in (args_are.LayoutCall root) = goal_is.Move
goal_in (args_are.SweepLayout root) = goal_is.Move

-- the ids of the regions that a procedure removes
abbrev pub ids_of : Args → List ℕ
ids_of (args_are.DropRegions table ids) = ids
ids_of args = []

-- the server that a procedure calls or fences
abbrev pub server_of : Args → Option Server
server_of (args_are.Crash server) = Some server
server_of (args_are.AssignCall region server) = Some server
server_of (args_are.CloseCall region server) = Some server
server_of (args_are.FenceCall server) = Some server
server_of args = None

-- the root whose files a call is about
abbrev pub layout_of : Args → Option Pid
layout_of (args_are.LayoutCall root) = Some root
layout_of (args_are.SweepLayout root) = Some root
layout_of args = None
