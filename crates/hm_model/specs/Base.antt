-- Which parts may follow one another as a base, and when a journal has begun.
use Rattle.std.specs.Prelude.{◌≡◌, ◌≢◌, ℕ, ◌+◌, ◌<◌, ◌≤◌, ◌^◌, List, [], ◌∷◌, codes, length, map, Option, Some, None, Bool, true, false, nat_lt, ◌⊎◌}
use Rattle.std.specs.Ordering.{is_lt}
use Rattle.hm_names.specs.Order.{bytes_cmp, region_cmp, server_cmp, table_cmp}
use Rattle.hm_names.specs.Region.{Region}
use Rattle.hm_names.specs.Server.{Server}
use Rattle.hm_names.specs.Ranges.{holds, overlaps}
use Rattle.hm_names.specs.declared.pid.Pid.{Pid}
use Rattle.hm_names.specs.declared.nonce.Nonce.{Nonce}
use Rattle.hm_names.specs.declared.range.KeyRange.{KeyRange}
use Rattle.hm_names.specs.declared.table.TableName.{TableName}
use Rattle.hm_data.specs.declared.args.Args.{Args}
use Rattle.hm_data.specs.declared.args.Args.TheVariants as args_are
use Rattle.hm_data.specs.declared.catalog.CatKey.TheVariants as key_is
use Rattle.hm_data.specs.declared.catalog.CatRow.TheVariants as row_is
use Rattle.hm_data.specs.declared.catalog.Status.{Status}
use Rattle.hm_data.specs.declared.catalog.Status.TheVariants as status_is
use Rattle.hm_data.specs.declared.catalog.TableState.{TableState}
use Rattle.hm_data.specs.declared.catalog.TableState.TheVariants as state_is
use Rattle.hm_data.specs.declared.place.Place.{Place}
use Rattle.hm_data.specs.declared.place.RegionState.{RegionState}
use Rattle.hm_data.specs.declared.place.RegionState.TheVariants as place_is
use Rattle.hm_data.specs.declared.sheet.Sheet.{Sheet}
use Rattle.hm_model.specs.Catalog.{cat}
use Rattle.hm_data.specs.declared.entry.Entry.{Entry}
use Rattle.hm_data.specs.declared.entry.Entry.TheVariants as entry_is
use Rattle.hm_model.specs.Fleet.{has_newer, has_older_live, is_live}
use Rattle.hm_model.specs.Journal.{Past}
use Rattle.hm_model.specs.Kinds.{all_kinds}
use Rattle.hm_model.specs.Nonces.{by_nonce}
use Rattle.hm_data.specs.declared.part.Part.{Part}
use Rattle.hm_data.specs.declared.part.Part.TheVariants as part_is
use Rattle.hm_model.specs.Places.{place_of}
use Rattle.hm_model.specs.Ranges.{IsCovered, IsLiveWith}
use Rattle.hm_model.specs.Requests.{MaySubmit}
use Rattle.hm_model.specs.TransitActs.{is_placed, is_state}
use Rattle.hm_model.specs.Tree.{drawn, made}
use Rattle.hm_model.specs.Validity.{AllValid}

-- valid sheets, one for each kind, in the order of the kinds
abbrev pub AreSheets : List Sheet → Type 0
AreSheets sheets = (map (λ sheet. sheet.kind) sheets ≡ all_kinds) × AllValid sheets

-- how many parts the head announces, itself among them; 0 where there is no head
abbrev pub part_count : Part → ℕ → ℕ
part_count (part_is.Head entries last parts sheets) n = parts + 1
part_count part n = n

-- how many parts a base announces
abbrev pub announced : Past → ℕ
announced [] = 0
announced (entry_is.Base part ∷ before) = part_count part (announced before)
announced (entry ∷ before) = 0

-- the place of a part's sort among the sorts of parts
abbrev pub part_rank : Part → ℕ
part_rank (part_is.Head entries last parts sheets) = 0
part_rank (part_is.Namespace ns) = 1
part_rank (part_is.Table table drawn own) = 2
part_rank (part_is.Region region range status parents place) = 3
part_rank (part_is.Server server fenced) = 4
part_rank (part_is.Root pid nonce args cause) = 5
part_rank (part_is.Layout pid) = 6

-- a part comes before another: by their sorts, and within a sort by key
abbrev pub rises : Part → Part → Bool
rises (part_is.Namespace one) (part_is.Namespace ns) = is_lt (bytes_cmp one ns)
rises (part_is.Table one drawn own) (part_is.Table table more row) = is_lt (table_cmp one table)
rises (part_is.Region one range status parents place) (part_is.Region region other state ids at) = is_lt (region_cmp one region)
rises (part_is.Server one fenced) (part_is.Server server down) = is_lt (server_cmp one server)
rises (part_is.Root one nonce args cause) (part_is.Root pid used work why) = nat_lt one.0 pid.0
rises (part_is.Layout one) (part_is.Layout pid) = nat_lt one.0 pid.0
rises one part = nat_lt (part_rank one) (part_rank part)

-- a part stands right after one that comes before it
abbrev pub Rises : Past → Part → Type 0
Rises (entry_is.Base own ∷ before) part = rises own part ≡ true
Rises before part = ⊥

-- a place of a region of this status, whose table is there in this state, that a base may have
abbrev pub MayStand : Place → Status → TableState → Type 0
MayStand place status state =
    ((is_placed place ≡ false) × (is_state place_is.FailedOpen place ≡ false) × (place.server ≡ None))
    ⊎ ((is_state place_is.Opened place ≡ true) × (status ≡ status_is.Live) × (state ≡ state_is.Enabled) × (server : Server) × (place.server ≡ Some server))

-- a live range has a key, and overlaps no other of its table
abbrev pub RangeFits : Past → Region → KeyRange → Status → Type 0
RangeFits before region range status =
    status ≡ status_is.Live → (holds range range.start ≡ true)
    × ((other : Region) (own : KeyRange) → other.table ≡ region.table → IsLiveWith (cat before) other own → (overlaps range own ≡ false) × (overlaps own range ≡ false))

-- what a root of a base may do: a request with which nothing is wrong, a transit, a crash or a sweep
abbrev pub MayRoot : Args → Type 0
MayRoot (args_are.Root request first) = MaySubmit request
MayRoot (args_are.Transit region goal to) = Unit {0}
MayRoot (args_are.Crash server) = Unit {0}
MayRoot (args_are.SweepLayout root) = Unit {0}
MayRoot args = ⊥

-- a part may follow these
abbrev pub PartFits : Part → Past → Type 0
PartFits (part_is.Head entries last parts sheets) before =
    (before ≡ []) × AreSheets sheets × (last.0 ≤ 2 ^ 48) × (entries ≤ 2 ^ 48)
PartFits (part_is.Namespace ns) before = Rises before (part_is.Namespace ns)
PartFits (part_is.Table table own row) before =
    Rises before (part_is.Table table own row) × (own ≤ 4096)
    × ((both : TableState × ℕ) → row ≡ Some both → (cat before (key_is.Ns table.ns) ≢ None) × ((both.0 ≡ state_is.Enabled) ⊎ (both.0 ≡ state_is.Disabled)))
PartFits (part_is.Region region range status parents place) before =
    Rises before (part_is.Region region range status parents place)
    × (1 ≤ region.id) × (region.id ≤ drawn before region.table) × (length parents ≤ 10)
    × ((state : TableState) × (version : ℕ) × (cat before (key_is.Table region.table) ≡ Some (row_is.Table state version)) × MayStand place status state)
    × RangeFits before region range status
PartFits (part_is.Server server fenced) before =
    Rises before (part_is.Server server fenced) × (has_newer before server ≡ false) × (has_older_live before server ≡ false)
PartFits (part_is.Root pid nonce args cause) before =
    Rises before (part_is.Root pid nonce args cause) × (1 ≤ pid.0) × (pid.0 ≤ made before) × (by_nonce before nonce ≡ None) × MayRoot args
PartFits (part_is.Layout pid) before = Rises before (part_is.Layout pid) × (1 ≤ pid.0) × (pid.0 ≤ made before)

-- all announced parts are there, with the two namespaces; each table that is there is covered; and who has a region open is live
pub record IsWhole (J : Past) : Type 0 where
  pub count : length J ≡ announced J
  pub spaces : (cat J (key_is.Ns (codes "default")) ≢ None) × (cat J (key_is.Ns (codes "hbase")) ≢ None)
  pub covered : (table : TableName) → cat J (key_is.Table table) ≢ None → IsCovered (cat J) table
  pub opened : (region : Region) → is_placed (place_of J region) ≡ true
      → (server : Server) × (place_of J region ≡ record { state = place_is.Opened; server = Some server }) × (is_live J server ≡ true)

-- a journal has begun: by a start, or by a whole base
abbrev pub IsBegun : Past → Type 0
IsBegun [] = ⊥
IsBegun (entry_is.Base part ∷ before) = IsWhole (entry_is.Base part ∷ before)
IsBegun (entry ∷ before) = Unit {0}

-- no base stands unfinished: nothing is there, or the journal has begun
abbrev pub HasNoHalfBase : Past → Type 0
HasNoHalfBase [] = Unit {0}
HasNoHalfBase (entry ∷ before) = IsBegun (entry ∷ before)
