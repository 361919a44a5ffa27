-- Where the regions of a journal are.
use Rattle.std.specs.Prelude.{ℕ, ◌+◌, ◌-◌, ◌^◌, List, [], ◌∷◌, length, take, Option, Some, None, Bool, false, ◌==◌, ◌&&◌, if◌then◌else◌, nat_lt}
use Rattle.std.specs.List.{filter}
use Rattle.std.specs.declared.cmp.Ordering.{Ordering}
use Rattle.std.specs.declared.cmp.Ordering.TheVariants.{Less, Equal, Greater}
use Rattle.hm_names.specs.Order.{region_cmp}
use Rattle.hm_names.specs.Region.{Region}
use Rattle.hm_names.specs.Server.{Server}
use Rattle.hm_data.specs.declared.entry.Entry.TheVariants as entry_is
use Rattle.hm_data.specs.declared.place.Place.{Place}
use Rattle.hm_data.specs.declared.place.RegionState.TheVariants as place_is
use Rattle.hm_model.specs.Fleet.{same_server}
use Rattle.hm_model.specs.Journal.{Past}
use Rattle.hm_model.specs.Keys.{same_region}
use Rattle.hm_data.specs.declared.part.Part.{Part}
use Rattle.hm_data.specs.declared.part.Part.TheVariants as part_is
use Rattle.hm_model.specs.Reports.{is_the_region}
use Rattle.hm_model.specs.TransitActs.{nowhere, is_placed, is_state}
use Rattle.hm_model.specs.Tree.{Node, node_of}
use Rattle.hm_model.specs.Views.{region_of}

-- the region of a procedure, if there is one
abbrev pub region_if : Option Node → Option Region
region_if None = None
region_if (Some node) = region_of node.args

-- a place that a step gave the region of its procedure, and else the place before
abbrev pub placed_by : Region → Option Region → Option Place → Place → Place
placed_by region own None place = place
placed_by region own (Some given) place = if is_the_region region own then given else place

-- the place of a region, with a part
abbrev pub part_place : Part → Region → Place → Place
part_place (part_is.Region own range status parents given) region place = if same_region region own then given else place
part_place part region place = place

-- the place of a region: what the last step that gave it one said, and Offline before any
abbrev pub place_of : Past → Region → Place
place_of [] region = nowhere place_is.Offline
place_of (entry_is.Step pid pick out ∷ before) region =
    placed_by region (region_if (node_of before pid.0)) out.place (place_of before region)
place_of (entry_is.Base part ∷ before) region = part_place part region (place_of before region)
place_of (entry ∷ before) region = place_of before region

-- a region beside the first of some in name order, by how they compare, and what the rest of them is with it
abbrev pub joined_at : Ordering → Region → Region → List Region → List Region → List Region
joined_at Less region first more rest = region ∷ first ∷ more
joined_at Equal region first more rest = first ∷ more
joined_at Greater region first more rest = first ∷ rest

-- regions in name order, each once, with one more
abbrev pub joined_by : Region → List Region → List Region
joined_by region [] = region ∷ []
joined_by region (first ∷ more) = joined_at (region_cmp region first) region first more (joined_by region more)

-- regions with one more, where a step gave it a place
abbrev pub joined_if : Option Region → Option Place → List Region → List Region
joined_if own None regions = regions
joined_if None (Some place) regions = regions
joined_if (Some region) (Some place) regions = joined_by region regions

-- regions in name order, with that of a part
abbrev pub part_placed : Part → List Region → List Region
part_placed (part_is.Region own range status parents given) regions = joined_by own regions
part_placed part regions = regions

-- the regions that were ever given a place, in name order
abbrev pub placed : Past → List Region
placed [] = []
placed (entry_is.Step pid pick out ∷ before) = joined_if (region_if (node_of before pid.0)) out.place (placed before)
placed (entry_is.Base part ∷ before) = part_placed part (placed before)
placed (entry ∷ before) = placed before

-- it is the server
abbrev pub is_the_server : Server → Option Server → Bool
is_the_server server None = false
is_the_server server (Some other) = same_server server other

-- a place at a server: the region is being opened or closed there, or is open
abbrev pub is_at : Server → Place → Bool
is_at server place = is_placed place && is_the_server server place.server

-- the regions at a server, in name order
abbrev pub at_server : Past → Server → List Region
at_server before server = filter (λ region. is_at server (place_of before region)) (placed before)

-- the first 64 of them
abbrev pub on_server : Past → Server → List Region
on_server before server = take 64 (at_server before server)

-- how many regions are at a server
abbrev pub load : Past → Server → ℕ
load before server = length (at_server before server)

-- a step left its region unopened
abbrev pub has_failed : Option Place → Bool
has_failed None = false
has_failed (Some place) = is_state place_is.FailedOpen place

-- one more, up to the greatest number of 32 bits, where it stays
abbrev pub one_more : ℕ → ℕ
one_more n = if nat_lt n (2 ^ 32 - 1) then (n + 1) else n

-- how often a transit failed to open its region
abbrev pub tries_of : Past → ℕ → ℕ
tries_of [] p = 0
tries_of (entry_is.Step pid pick out ∷ before) p =
    if (p == pid.0) && has_failed out.place then one_more (tries_of before p) else tries_of before p
tries_of (entry_is.Base part ∷ before) p = 0
tries_of (entry ∷ before) p = tries_of before p
