-- That no region is assigned twice at a time.
use Rattle.std.specs.Prelude.{◌≡◌, ℕ, ◌<◌, List, [], ◌∷◌, length, Option, Some, None, Bool, true, false, ◌==◌, ◌&&◌, ◌||◌, if◌then◌else◌, is_some, ◌⊎◌}
use Rattle.hm_names.specs.Ranges.{overlaps}
use Rattle.hm_names.specs.Region.{Region}
use Rattle.hm_names.specs.Server.{Server}
use Rattle.hm_names.specs.declared.range.KeyRange.{KeyRange}
use Rattle.hm_data.specs.declared.call.Peer.TheVariants as peer_is
use Rattle.hm_data.specs.declared.call.Told.TheVariants as told_is
use Rattle.hm_data.specs.declared.call.Verb.{Verb}
use Rattle.hm_data.specs.declared.call.Verb.TheVariants as verb_is
use Rattle.hm_data.specs.declared.catalog.CatKey.TheVariants as key_is
use Rattle.hm_data.specs.declared.catalog.Edit.{Edit}
use Rattle.hm_data.specs.declared.entry.Entry.TheVariants as entry_is
use Rattle.hm_data.specs.declared.place.Place.{Place}
use Rattle.hm_data.specs.declared.place.RegionState.TheVariants as place_is
use Rattle.hm_model.specs.Answers.{report_of}
use Rattle.hm_model.specs.Fleet.{is_fenced}
use Rattle.hm_model.specs.Journal.{Past}
use Rattle.hm_model.specs.Keys.{same_table, same_region, same_key}
use Rattle.hm_model.specs.Reports.{verb_of, peer_of}
use Rattle.hm_model.specs.RowsSaid.{range_in}
use Rattle.hm_model.specs.Parts.{part_range}
use Rattle.hm_model.specs.Places.{place_of}
use Rattle.hm_model.specs.TransitActs.{nowhere}

-- the range that an edit gives a region, else the one before
abbrev pub ranged_by : Edit → Region → Option KeyRange → Option KeyRange
ranged_by edit region range =
    if same_key edit.key (key_is.Region region) && is_some (range_in edit.after) then range_in edit.after else range

-- the range that the last of some edits gives a region, else the one before
abbrev pub ranged : List Edit → Region → Option KeyRange → Option KeyRange
ranged [] region range = range
ranged (edit ∷ edits) region range = ranged edits region (ranged_by edit region range)

-- the range of a region: that of the last row that the journal gave it
abbrev pub range_of : Past → Region → Option KeyRange
range_of [] region = None
range_of (entry_is.Step pid pick out ∷ before) region = ranged out.edits region (range_of before region)
range_of (entry_is.Undo pid row out ∷ before) region = ranged out.edits region (range_of before region)
range_of (entry_is.Base part ∷ before) region = part_range part region (range_of before region)
range_of (entry ∷ before) region = range_of before region

-- two ranges that are known overlap
abbrev pub overlap_if : Option KeyRange → Option KeyRange → Bool
overlap_if None other = false
overlap_if (Some one) None = false
overlap_if (Some one) (Some other) = overlaps one other

-- two regions are one, or are of one table and have ranges that overlap
abbrev pub touches : Past → Region → Region → Bool
touches J a b = same_region a b || (same_table a.table b.table && overlap_if (range_of J a) (range_of J b))

-- how many entries stood before the one that recorded a procedure's call
abbrev pub called_at : Past → ℕ → ℕ
called_at [] p = 0
called_at (entry_is.Step pid pick out ∷ before) p =
    if (p == pid.0) && is_some out.call then length before else called_at before p
called_at (entry_is.Base part ∷ before) p = 0
called_at (entry ∷ before) p = called_at before p

-- a later call to the same server to close the region was answered so
abbrev pub IsClosedSince : Past → ℕ → Region → Type 0
IsClosedSince J p region =
    (q : ℕ) × (verb_of J q ≡ Some (verb_is.CloseRegion region)) × (called_at J p < called_at J q)
    × (peer_of J q ≡ peer_of J p) × (report_of J q ≡ Some told_is.Closed)

-- the server that a procedure called is fenced
abbrev pub IsGone : Past → ℕ → Type 0
IsGone J p = (server : Server) × (peer_of J p ≡ Some (peer_is.Server server)) × (is_fenced J server ≡ true)

-- a call to open a region can't leave it open: it failed, the region was closed since, or the server is fenced
abbrev pub IsOver : Past → ℕ → Region → Type 0
IsOver J p region = (report_of J p ≡ Some told_is.FailedOpen) ⊎ (IsClosedSince J p region ⊎ IsGone J p)

-- the place that the base gives a region
abbrev pub based_place : Past → Region → Place
based_place [] region = nowhere place_is.Offline
based_place (entry_is.Base part ∷ before) region = place_of (entry_is.Base part ∷ before) region
based_place (entry ∷ before) region = based_place before region

-- the base has a region open at a server
abbrev pub IsBasedAt : Past → Region → Server → Type 0
IsBasedAt J region server = based_place J region ≡ record { state = place_is.Opened; server = Some server }

-- a region that the base has open at a server can't be open there any more: it was closed since, or the server is fenced
abbrev pub IsLeft : Past → Region → Server → Type 0
IsLeft J region server =
    ((q : ℕ) × (verb_of J q ≡ Some (verb_is.CloseRegion region)) × (peer_of J q ≡ Some (peer_is.Server server)) × (report_of J q ≡ Some told_is.Closed))
    ⊎ (is_fenced J server ≡ true)

-- each call to open a region that touches one is over, and each such region that the base has open was left
abbrev pub AllOver : Past → Region → Type 0
AllOver J region =
    ((p : ℕ) (other : Region) → verb_of J p ≡ Some (verb_is.AssignRegion other) → touches J region other ≡ true → IsOver J p other)
    × ((other : Region) (server : Server) → IsBasedAt J other server → touches J region other ≡ true → IsLeft J other server)

-- what must hold of the entries before a call: before a region is opened each other opening that touches it is over, one of
-- the base too
abbrev pub MayCall : Past → Option Verb → Type 0
MayCall before None = Unit {0}
MayCall before (Some (verb_is.AssignRegion region)) = AllOver before region
MayCall before (Some (verb_is.CloseRegion region)) = Unit {0}
MayCall before (Some (verb_is.Fence server)) = Unit {0}
MayCall before (Some (verb_is.Layout root)) = Unit {0}
MayCall before (Some (verb_is.Sweep root)) = Unit {0}

-- no region is assigned while another opening of it, or of one that touches it, may still stand
abbrev pub Single : Past → Type 0
Single [] = Unit {0}
Single (entry_is.Step pid pick out ∷ before) = Single before × MayCall before out.call
Single (entry_is.Base part ∷ before) = Unit {0}
Single (entry ∷ before) = Single before
