-- The words of the printed tables.
use Rattle.std.specs.Prelude.{List, ℕ, [], ◌∷◌, Bool, true, false, codes, Option, Some, None}
use Rattle.std.specs.Fmt.{decimal}
use Rattle.hm_names.specs.Region.{Region}
use Rattle.hm_names.specs.Regions.{region_text}
use Rattle.hm_names.specs.Server.{Server}
use Rattle.hm_names.specs.Servers.{server_text}
use Rattle.hm_names.specs.Tables.{table_text}
use Rattle.hm_data.specs.declared.answer.Cause.{Cause}
use Rattle.hm_data.specs.declared.answer.Cause.TheVariants as cause_is
use Rattle.hm_data.specs.declared.args.Args.{Args}
use Rattle.hm_data.specs.declared.args.Args.TheVariants as args_are
use Rattle.hm_data.specs.declared.catalog.Status.{Status}
use Rattle.hm_data.specs.declared.catalog.Status.TheVariants as status_is
use Rattle.hm_data.specs.declared.place.RegionState.{RegionState}
use Rattle.hm_data.specs.declared.place.RegionState.TheVariants as place_is
use Rattle.hm_data.specs.declared.record.Phase.{Phase}
use Rattle.hm_data.specs.declared.record.Phase.TheVariants as phase_is
use Rattle.hm_data.specs.declared.request.Request.{Request}
use Rattle.hm_data.specs.declared.request.Request.TheVariants as request_is
use Rattle.hm_model.specs.declared.lock.Resource.{Resource}
use Rattle.hm_model.specs.declared.lock.Resource.TheVariants as resource_is

-- why a procedure failed
abbrev pub cause_text : Cause → List ℕ
cause_text cause_is.NsExists = codes "NsExists"
cause_text cause_is.NsMissing = codes "NsMissing"
cause_text cause_is.NsNotEmpty = codes "NsNotEmpty"
cause_text cause_is.TableExists = codes "TableExists"
cause_text cause_is.TableMissing = codes "TableMissing"
cause_text cause_is.NotDisabled = codes "NotDisabled"
cause_text cause_is.NotEnabled = codes "NotEnabled"
cause_text cause_is.RegionMissing = codes "RegionMissing"
cause_text cause_is.RegionNotLive = codes "RegionNotLive"
cause_text cause_is.KeyOutside = codes "KeyOutside"
cause_text cause_is.NotAdjacent = codes "NotAdjacent"
cause_text cause_is.LayoutRefused = codes "LayoutRefused"
cause_text cause_is.Aborted = codes "Aborted"

-- the state of a procedure
abbrev pub state_text : Phase → List ℕ
state_text phase_is.Runnable = codes "RUNNABLE"
state_text phase_is.Waiting = codes "WAITING"
state_text phase_is.Awaiting = codes "WAITING"
state_text (phase_is.Failed cause) = codes "FAILED"
state_text (phase_is.RolledBack cause) = codes "ROLLEDBACK"
state_text phase_is.Success = codes "SUCCESS"

-- the cause that a state tells
abbrev pub cause_in : Phase → Option Cause
cause_in phase_is.Runnable = None
cause_in phase_is.Waiting = None
cause_in phase_is.Awaiting = None
cause_in (phase_is.Failed cause) = Some cause
cause_in (phase_is.RolledBack cause) = Some cause
cause_in phase_is.Success = None

-- the kind of a request's procedure
abbrev pub request_kind_text : Request → List ℕ
request_kind_text (request_is.CreateNamespace ns) = codes "CreateNamespace"
request_kind_text (request_is.DropNamespace ns) = codes "DropNamespace"
request_kind_text (request_is.CreateTable table keys) = codes "CreateTable"
request_kind_text (request_is.DeleteTable table) = codes "DeleteTable"
request_kind_text (request_is.EnableTable table) = codes "EnableTable"
request_kind_text (request_is.DisableTable table) = codes "DisableTable"
request_kind_text (request_is.ModifyTable table version) = codes "ModifyTable"
request_kind_text (request_is.SplitRegion region key) = codes "SplitRegion"
request_kind_text (request_is.MergeRegions regions) = codes "MergeRegions"
request_kind_text (request_is.Move region to) = codes "Transit"

-- the kind of a procedure
abbrev pub kind_text : Args → List ℕ
kind_text (args_are.Root request first) = request_kind_text request
kind_text (args_are.Transit region goal to) = codes "Transit"
kind_text (args_are.Crash server) = codes "ServerCrash"
kind_text (args_are.AddRegions table first bounds) = codes "AddRegions"
kind_text (args_are.DropRegions table ids) = codes "DropRegions"
kind_text (args_are.AssignCall region server) = codes "AssignCall"
kind_text (args_are.CloseCall region server) = codes "CloseCall"
kind_text (args_are.FenceCall server) = codes "FenceCall"
kind_text (args_are.LayoutCall root) = codes "LayoutCall"
kind_text (args_are.SweepLayout root) = codes "SweepLayout"

-- the first of some regions
abbrev pub first_text : List Region → List ℕ
first_text [] = []
first_text (region ∷ more) = region_text region

-- what a request is about
abbrev pub request_subject_text : Request → List ℕ
request_subject_text (request_is.CreateNamespace ns) = ns
request_subject_text (request_is.DropNamespace ns) = ns
request_subject_text (request_is.CreateTable table keys) = table_text table
request_subject_text (request_is.DeleteTable table) = table_text table
request_subject_text (request_is.EnableTable table) = table_text table
request_subject_text (request_is.DisableTable table) = table_text table
request_subject_text (request_is.ModifyTable table version) = table_text table
request_subject_text (request_is.SplitRegion region key) = region_text region
request_subject_text (request_is.MergeRegions regions) = first_text regions
request_subject_text (request_is.Move region to) = region_text region

-- what a procedure is about: a namespace, table, region or server, or the root of a layout
abbrev pub subject_text : Args → List ℕ
subject_text (args_are.Root request first) = request_subject_text request
subject_text (args_are.Transit region goal to) = region_text region
subject_text (args_are.Crash server) = server_text server
subject_text (args_are.AddRegions table first bounds) = table_text table
subject_text (args_are.DropRegions table ids) = table_text table
subject_text (args_are.AssignCall region server) = region_text region
subject_text (args_are.CloseCall region server) = region_text region
subject_text (args_are.FenceCall server) = server_text server
subject_text (args_are.LayoutCall root) = decimal root.0
subject_text (args_are.SweepLayout root) = decimal root.0

-- what became of a region
abbrev pub status_text : Status → List ℕ
status_text status_is.Live = codes "Live"
status_text status_is.Split = codes "Split"
status_text status_is.Merged = codes "Merged"

-- how far a region is open
abbrev pub place_text : RegionState → List ℕ
place_text place_is.Offline = codes "OFFLINE"
place_text place_is.Opening = codes "OPENING"
place_text place_is.Opened = codes "OPEN"
place_text place_is.Closing = codes "CLOSING"
place_text place_is.Closed = codes "CLOSED"
place_text place_is.FailedOpen = codes "FAILED_OPEN"
place_text place_is.AbnormallyClosed = codes "ABNORMALLY_CLOSED"

-- a server, or `-` for none
abbrev pub holder_text : Option Server → List ℕ
holder_text None = codes "-"
holder_text (Some server) = server_text server

-- how a server stands that is live or not, and fenced or not
abbrev pub standing_text : Bool → Bool → List ℕ
standing_text live true = codes "fenced"
standing_text true false = codes "live"
standing_text false false = codes "down"

-- what is locked: its sort and its name
abbrev pub resource_words : Resource → List (List ℕ)
resource_words (resource_is.Ns ns) = codes "ns" ∷ ns ∷ []
resource_words (resource_is.Table table) = codes "table" ∷ table_text table ∷ []
resource_words (resource_is.Region region) = codes "region" ∷ region_text region ∷ []
resource_words (resource_is.Server server) = codes "server" ∷ server_text server ∷ []

-- shared or exclusive
abbrev pub mode_text : Bool → List ℕ
mode_text false = codes "S"
mode_text true = codes "X"
