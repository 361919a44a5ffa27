-- Which region and which server a procedure has to do with.
use Rattle.std.specs.Prelude.{Option, Some, None}
use Rattle.hm_names.specs.Region.{Region}
use Rattle.hm_names.specs.Server.{Server}
use Rattle.hm_data.specs.declared.args.Args.{Args}
use Rattle.hm_data.specs.declared.args.Args.TheVariants as args_are
use Rattle.hm_data.specs.declared.request.Request.{Request}
use Rattle.hm_data.specs.declared.request.Request.TheVariants as request_is

-- the region that a request moves
abbrev pub moved_by_request : Request → Option Region
moved_by_request (request_is.Move region to) = Some region
moved_by_request request = None

-- the region whose place a procedure sees: that of a transit
abbrev pub moved_by : Args → Option Region
moved_by (args_are.Root request first) = moved_by_request request
moved_by (args_are.Transit region goal to) = Some region
moved_by args = None

-- the server that a call about a region goes to
abbrev pub called_by : Args → Option Server
called_by (args_are.AssignCall region server) = Some server
called_by (args_are.CloseCall region server) = Some server
called_by args = None

-- the server that a crash is of
abbrev pub crashed_in : Args → Option Server
crashed_in (args_are.Crash server) = Some server
crashed_in args = None
