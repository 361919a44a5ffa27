-- Images of journals with nothing unfinished, and journals whose first entries are replaced by one.
use Rattle.std.specs.Prelude.{◌≡◌, ◌≢◌, ℕ, ◌≤◌, List, Some, None, length, true, false, ◌⊎◌, ◌↔◌}
use Rattle.hm_names.specs.Region.{Region}
use Rattle.hm_names.specs.Server.{Server}
use Rattle.hm_names.specs.declared.range.KeyRange.{KeyRange}
use Rattle.hm_names.specs.declared.table.TableName.{TableName}
use Rattle.hm_data.specs.declared.catalog.CatKey.TheVariants as key_is
use Rattle.hm_data.specs.declared.catalog.CatRow.TheVariants as row_is
use Rattle.hm_data.specs.declared.catalog.Status.{Status}
use Rattle.hm_data.specs.declared.catalog.TableState.{TableState}
use Rattle.hm_data.specs.declared.catalog.TableState.TheVariants as state_is
use Rattle.hm_model.specs.Base.{IsBegun}
use Rattle.hm_model.specs.Catalog.{cat}
use Rattle.hm_model.specs.Fleet.{came_up, is_fenced, is_live}
use Rattle.hm_model.specs.Image.{image}
use Rattle.hm_model.specs.Journal.{Past}
use Rattle.hm_model.specs.Places.{is_at, place_of}
use Rattle.hm_model.specs.Rebase.{MayRoll, based, rebase, under_way, up_to}
use Rattle.hm_model.specs.Rules.{IsLegal}
use Rattle.hm_rebase.specs.Alike.{Alike}

-- where nothing is unfinished a server that went down is fenced
abbrev pub DownAreFenced : Type 0
DownAreFenced =
    (J : Past) → IsLegal J → under_way J ≡ 0 → (server : Server) → came_up J server ≡ true → is_live J server ≡ false → is_fenced J server ≡ true

-- a region that is open is so at a live server
abbrev pub OpenAreServed : Type 0
OpenAreServed =
    (J : Past) → IsLegal J → IsBegun J → under_way J ≡ 0 → (server : Server) (region : Region) → is_at server (place_of J region) ≡ true → is_live J server ≡ true

-- a table is enabled or disabled, and its namespace is there
abbrev pub TablesAreSteady : Type 0
TablesAreSteady =
    (J : Past) → IsLegal J → under_way J ≡ 0 → (table : TableName) (state : TableState) (version : ℕ) → cat J (key_is.Table table) ≡ Some (row_is.Table state version)
    → ((state ≡ state_is.Enabled) ⊎ (state ≡ state_is.Disabled)) × (cat J (key_is.Ns table.ns) ≢ None)

-- a region has ten parents at most
abbrev pub ParentsAreFew : Type 0
ParentsAreFew =
    (J : Past) → IsLegal J → under_way J ≡ 0 → (region : Region) (range : KeyRange) (status : Status) (parents : List ℕ) → cat J (key_is.Region region) ≡ Some (row_is.Region range status parents)
    → length parents ≤ 10

-- an image that isn't refused is a whole base, which reads as the journal
abbrev pub ImagesAreBases : Type 0
ImagesAreBases =
    (J : Past) → IsLegal J → IsBegun J → MayRoll J → IsLegal (based (image J)) × IsBegun (based (image J)) × Alike J (based (image J))

-- a journal whose first r entries are replaced by their image is legal, and reads as it did
abbrev pub RebasedAreAlike : Type 0
RebasedAreAlike =
    (J : Past) (r : ℕ) → IsLegal J → IsBegun (up_to J r) → MayRoll (up_to J r) → IsLegal (rebase J r) × IsBegun (rebase J r) × Alike J (rebase J r)

-- in journals that read alike as many procedures are unfinished
abbrev pub AlikeUnderWay : Type 0
AlikeUnderWay = (J K : Past) → IsLegal J → IsLegal K → Alike J K → under_way J ≡ under_way K

-- journals that read alike may take each other's place in a roll: both may roll or neither, and they have the same image
abbrev pub AlikeImages : Type 0
AlikeImages = (J K : Past) → IsLegal J → IsLegal K → Alike J K → (MayRoll J ↔ MayRoll K) × (image J ≡ image K)
