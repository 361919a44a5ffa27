-- The ranges of the live regions of the table whose regions are being read.
use Rattle.std.specs.Prelude.{◌≡◌, List, Bool, false}
use Rattle.hm_names.specs.declared.range.KeyRange.{KeyRange}
use Rattle.hm_data.specs.declared.catalog.Status.{Status}
use Rattle.hm_data.specs.declared.catalog.Status.TheVariants as status_is
use Rattle.hm_data.specs.declared.part.Part.{Part}
use Rattle.hm_data.specs.declared.part.Part.TheVariants as part_is
use Rattle.hm_model.specs.Catalog.{cat}
use Rattle.hm_model.specs.Journal.{Past}
use Rattle.hm_model.specs.Keys.{same_table}
use Rattle.hm_ranges.specs.Laws.{AreLiveOf}
use Rattle.hm_ranges.specs.Ranges.{FitsAmong, TakesIn}

-- two parts are of regions of one table
abbrev pub are_siblings : Part → Part → Bool
are_siblings (part_is.Region one range status parents place) (part_is.Region region other state ids at) = same_table one.table region.table
are_siblings one part = false

-- where a part is of a region, the ranges are those of the live regions of its table
abbrev pub AreLiveBy : Past → Part → List KeyRange → Type 0
AreLiveBy past (part_is.Region region range status parents place) ranges = AreLiveOf (cat past) region.table ranges
AreLiveBy past part ranges = Unit {0}

-- the range of a live region fits among those of the others of its table
abbrev pub FitsLive : List KeyRange → KeyRange → Status → Type 0
FitsLive ranges range status = status ≡ status_is.Live → FitsAmong ranges range

-- where a part is of a live region, its range fits among some
abbrev pub PartAmong : List KeyRange → Part → Type 0
PartAmong ranges (part_is.Region region range status parents place) = FitsLive ranges range status
PartAmong ranges part = Unit {0}

-- with a range, if it is that of a live region
abbrev pub TakesLive : KeyRange → Status → List KeyRange → List KeyRange → Type 0
TakesLive range status_is.Live old new = TakesIn range old new
TakesLive range status old new = new ≡ old

-- with that of a part, if it is of a live region
abbrev pub TakesPart : Part → List KeyRange → List KeyRange → Type 0
TakesPart (part_is.Region region range status parents place) old new = TakesLive range status old new
TakesPart part old new = new ≡ old
