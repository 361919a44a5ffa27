-- Whether a step needs a server to be picked and which fits, by what works on it.
use Rattle.std.specs.Prelude.{Option, Some, None, Bool, false, not, ◌&&◌}
use Rattle.hm_names.specs.Region.{Region}
use Rattle.hm_names.specs.Server.{Server}
use Rattle.hm_data.specs.declared.args.Args.{Args}
use Rattle.hm_data.specs.declared.args.Args.TheVariants as args_are
use Rattle.hm_data.specs.declared.catalog.CatKey.TheVariants as key_is
use Rattle.hm_data.specs.declared.record.Record.{Record}
use Rattle.hm_data.specs.declared.request.Request.{Request}
use Rattle.hm_data.specs.declared.request.Request.TheVariants as request_is
use Rattle.hm_model.specs.Catalog.{cat}
use Rattle.hm_model.specs.Choice.{place_told}
use Rattle.hm_model.specs.Fleet.{is_live}
use Rattle.hm_model.specs.Inputs.{sees_fenced}
use Rattle.hm_model.specs.Journal.{Past}
use Rattle.hm_model.specs.Picks.{is_as_wanted, is_another}
use Rattle.hm_model.specs.TransitActs.{is_open, may_open}
use Rattle.hm_model.specs.Wanted.{wanted_of}

-- the region of a request whose steps read the region's row and its table's
abbrev pub read_by_request : Request → Option Region
read_by_request (request_is.CreateNamespace ns) = None
read_by_request (request_is.DropNamespace ns) = None
read_by_request (request_is.CreateTable table keys) = None
read_by_request (request_is.DeleteTable table) = None
read_by_request (request_is.EnableTable table) = None
read_by_request (request_is.DisableTable table) = None
read_by_request (request_is.ModifyTable table version) = None
read_by_request (request_is.SplitRegion region key) = Some region
read_by_request (request_is.MergeRegions regions) = None
read_by_request (request_is.Move region to) = Some region

-- the same of a procedure
abbrev pub read_by : Args → Option Region
read_by (args_are.Root request first) = read_by_request request
read_by (args_are.Transit region goal to) = Some region
read_by (args_are.Crash server) = None
read_by (args_are.AddRegions table first bounds) = None
read_by (args_are.DropRegions table ids) = None
read_by (args_are.AssignCall region server) = None
read_by (args_are.CloseCall region server) = None
read_by (args_are.FenceCall server) = None
read_by (args_are.LayoutCall root) = None
read_by (args_are.SweepLayout root) = None

-- a region may be opened, by its row and its table's
abbrev pub can_open : Past → Region → Bool
can_open J region = may_open (cat J (key_is.Table region.table)) (cat J (key_is.Region region))

-- a region may be opened, and isn't open as a step sees it
abbrev pub wants_if : Past → Args → Option Region → Bool
wants_if J args None = false
wants_if J args (Some region) = can_open J region && not (is_open (place_told J args) (sees_fenced J args))

-- a procedure's region is to be placed at a server
abbrev pub wants : Past → Args → Bool
wants J args = wants_if J args (read_by args)

-- a pick fits a procedure: it is live, the one that is wanted, and not the one that failed
abbrev pub fits_record : Past → Record → Server → Bool
fits_record J its server =
    is_live J server && (is_as_wanted J (wanted_of its.args) its.tries server && is_another J (place_told J its.args) server)
