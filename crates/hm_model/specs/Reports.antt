-- The calls of a journal, and what became of them.
use Rattle.std.specs.Prelude.{ℕ, List, [], ◌∷◌, Option, Some, None, Bool, false, ◌==◌, ◌||◌, if◌then◌else◌, is_some}
use Rattle.std.specs.List.{list_any}
use Rattle.std.specs.Option.{option_or}
use Rattle.hm_names.specs.Region.{Region}
use Rattle.hm_data.specs.Numbers.{told_number}
use Rattle.hm_data.specs.declared.args.Args.{Args}
use Rattle.hm_data.specs.declared.args.Args.TheVariants as args_are
use Rattle.hm_data.specs.declared.call.Call.{Call}
use Rattle.hm_data.specs.declared.call.Peer.{Peer}
use Rattle.hm_data.specs.declared.call.Peer.TheVariants as peer_is
use Rattle.hm_data.specs.declared.call.Told.{Told}
use Rattle.hm_data.specs.declared.call.Told.TheVariants as told_is
use Rattle.hm_data.specs.declared.call.Verb.{Verb}
use Rattle.hm_data.specs.declared.call.Verb.TheVariants as verb_is
use Rattle.hm_data.specs.declared.entry.Entry.TheVariants as entry_is
use Rattle.hm_model.specs.Journal.{Past}
use Rattle.hm_model.specs.Keys.{same_region}
use Rattle.hm_model.specs.Tree.{Node, pid_of, node_of}
use Rattle.hm_model.specs.Answers.{report_of}
use Rattle.hm_model.specs.Phase.{ended}

-- the call of a procedure: the latest that a step of it recorded. Its id is the procedure's number.
abbrev pub verb_of : Past → ℕ → Option Verb
verb_of [] p = None
verb_of (entry_is.Step pid pick out ∷ before) p =
    if p == pid.0 then option_or out.call (verb_of before p) else verb_of before p
verb_of (entry_is.Base part ∷ before) p = None
verb_of (entry ∷ before) p = verb_of before p

-- who is called: the server of a call about a region, and the storage for all others
abbrev pub peer_in : Args → Peer
peer_in (args_are.Root request first) = peer_is.Storage
peer_in (args_are.Transit region goal to) = peer_is.Storage
peer_in (args_are.Crash server) = peer_is.Storage
peer_in (args_are.AddRegions table first bounds) = peer_is.Storage
peer_in (args_are.DropRegions table ids) = peer_is.Storage
peer_in (args_are.AssignCall region server) = peer_is.Server server
peer_in (args_are.CloseCall region server) = peer_is.Server server
peer_in (args_are.FenceCall server) = peer_is.Storage
peer_in (args_are.LayoutCall root) = peer_is.Storage
peer_in (args_are.SweepLayout root) = peer_is.Storage

-- whom a procedure, if there is one, calls
abbrev pub peer_if : Option Node → Option Verb → Option Peer
peer_if None verb = None
peer_if (Some node) None = None
peer_if (Some node) (Some verb) = Some (peer_in node.args)

-- whom a procedure called
abbrev pub peer_of : Past → ℕ → Option Peer
peer_of before p = peer_if (node_of before p) (verb_of before p)

-- the call of a procedure with its id and its peer
abbrev pub call_if : ℕ → Option Peer → Option Verb → Option Call
call_if p None verb = None
call_if p (Some peer) None = None
call_if p (Some peer) (Some verb) = Some (record { id = pid_of p; peer = peer; verb = verb })

-- the recorded call with a procedure's number as its id
abbrev pub call_of : Past → ℕ → Option Call
call_of before p = call_if p (peer_of before p) (verb_of before p)

-- a call has a report
abbrev pub is_reported : Past → ℕ → Bool
is_reported before p = is_some (report_of before p)

-- a call is settled: it has a report, or its procedure has ended
abbrev pub is_settled : Past → ℕ → Bool
is_settled before p = is_reported before p || ended before p

-- the region that a call is about
abbrev pub region_called : Verb → Option Region
region_called (verb_is.AssignRegion region) = Some region
region_called (verb_is.CloseRegion region) = Some region
region_called verb = None

-- it is the region
abbrev pub is_the_region : Region → Option Region → Bool
is_the_region region None = false
is_the_region region (Some other) = same_region region other

-- the call is about the region
abbrev pub is_about : Region → Option Verb → Bool
is_about region None = false
is_about region (Some verb) = is_the_region region (region_called verb)

-- the last call about a region, by its id
abbrev pub last_call : Past → Region → Option ℕ
last_call [] region = None
last_call (entry_is.Step pid pick out ∷ before) region = if is_about region out.call then Some pid.0 else last_call before region
last_call (entry_is.Base part ∷ before) region = None
last_call (entry ∷ before) region = last_call before region

-- an answer is one of some
abbrev pub is_one_of : Told → List Told → Bool
is_one_of told some = list_any (λ one. told_number one == told_number told) some

-- an answer fits what was asked
abbrev pub fits_verb : Verb → Told → Bool
fits_verb (verb_is.AssignRegion region) told = is_one_of told (told_is.Opened ∷ told_is.FailedOpen ∷ [])
fits_verb (verb_is.CloseRegion region) told = is_one_of told (told_is.Closed ∷ [])
fits_verb (verb_is.Fence server) told = is_one_of told (told_is.Fenced ∷ [])
fits_verb (verb_is.Layout root) told = is_one_of told (told_is.LaidOut ∷ told_is.Refused ∷ [])
fits_verb (verb_is.Sweep root) told = is_one_of told (told_is.Swept ∷ [])
