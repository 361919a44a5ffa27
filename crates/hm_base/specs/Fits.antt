-- What a part needs of those before it, one clause after another.
use Rattle.std.specs.Prelude.{◌≡◌, ◌≢◌, ℕ, ◌≤◌, List, length, Option, Some, None, false, ◌⊎◌}
use Rattle.hm_names.specs.Region.{Region}
use Rattle.hm_names.specs.declared.nonce.Nonce.{Nonce}
use Rattle.hm_names.specs.declared.pid.Pid.{Pid}
use Rattle.hm_names.specs.declared.table.TableName.{TableName}
use Rattle.hm_data.specs.declared.args.Args.{Args}
use Rattle.hm_data.specs.declared.catalog.CatKey.TheVariants as key_is
use Rattle.hm_data.specs.declared.catalog.CatRow.TheVariants as row_is
use Rattle.hm_data.specs.declared.catalog.Status.{Status}
use Rattle.hm_data.specs.declared.catalog.TableState.{TableState}
use Rattle.hm_data.specs.declared.catalog.TableState.TheVariants as state_is
use Rattle.hm_data.specs.declared.part.Part.{Part}
use Rattle.hm_data.specs.declared.part.Part.TheVariants as part_is
use Rattle.hm_data.specs.declared.place.Place.{Place}
use Rattle.hm_model.specs.Base.{MayRoot, MayStand, RangeFits}
use Rattle.hm_model.specs.Catalog.{Catalog, cat}
use Rattle.hm_model.specs.Fleet.{has_newer, has_older_live}
use Rattle.hm_model.specs.Journal.{Past}
use Rattle.hm_model.specs.Nonces.{by_nonce}
use Rattle.hm_model.specs.Tree.{drawn, made}

-- a table has no row, or one in a namespace that is there, enabled or disabled
abbrev pub RowFits : Catalog → TableName → Option (TableState × ℕ) → Type 0
RowFits there table row =
    (both : TableState × ℕ) → row ≡ Some both → (there (key_is.Ns table.ns) ≢ None) × ((both.0 ≡ state_is.Enabled) ⊎ (both.0 ≡ state_is.Disabled))

-- the table of a region is there, in a state in which the region may have its place
abbrev pub HomeFits : Catalog → Region → Status → Place → Type 0
HomeFits there region status place =
    (state : TableState) × (version : ℕ) × (there (key_is.Table region.table) ≡ Some (row_is.Table state version)) × MayStand place status state

-- a region's id was drawn, and its parents are few
abbrev pub NumbersFit : Past → Region → List ℕ → Type 0
NumbersFit before region parents = (1 ≤ region.id) × (region.id ≤ drawn before region.table) × (length parents ≤ 10)

-- the number of a root was given before
abbrev pub PidFits : Past → Pid → Type 0
PidFits before pid = (1 ≤ pid.0) × (pid.0 ≤ made before)

-- what a region needs but its range
abbrev pub RegionFits : Past → Region → Status → List ℕ → Place → Type 0
RegionFits before region status parents place = NumbersFit before region parents × HomeFits (cat before) region status place

-- what a root needs
abbrev pub RootFits : Past → Pid → Nonce → Args → Type 0
RootFits before pid nonce args = PidFits before pid × (by_nonce before nonce ≡ None) × MayRoot args

-- what a part needs of those before it but to come after them; a head never follows
abbrev pub Suits : Past → Part → Type 0
Suits before (part_is.Head entries last parts sheets) = ⊥
Suits before (part_is.Namespace ns) = Unit {0}
Suits before (part_is.Table table own row) = (own ≤ 4096) × RowFits (cat before) table row
Suits before (part_is.Region region range status parents place) = RegionFits before region status parents place × RangeFits before region range status
Suits before (part_is.Server server fenced) = (has_newer before server ≡ false) × (has_older_live before server ≡ false)
Suits before (part_is.Root pid nonce args cause) = RootFits before pid nonce args
Suits before (part_is.Layout pid) = PidFits before pid
