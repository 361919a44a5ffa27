-- Journals that read alike from here on: one may have forgotten procedures that the other has, where they ended.
use Rattle.std.specs.Prelude.{◌≡◌, ◌≢◌, ℕ, ◌<◌, ◌≤◌, [], ◌∷◌, None, Some, true, false, ◌⊎◌, ◌↔◌}
use Rattle.hm_names.specs.Region.{Region}
use Rattle.hm_names.specs.Server.{Server}
use Rattle.hm_names.specs.declared.nonce.Nonce.{Nonce}
use Rattle.hm_names.specs.declared.table.TableName.{TableName}
use Rattle.hm_data.specs.declared.catalog.CatKey.{CatKey}
use Rattle.hm_data.specs.declared.catalog.CatKey.TheVariants as key_is
use Rattle.hm_data.specs.declared.entry.Entry.{Entry}
use Rattle.hm_data.specs.declared.entry.Entry.TheVariants as entry_is
use Rattle.hm_data.specs.declared.place.Place.{Place}
use Rattle.hm_data.specs.declared.place.RegionState.TheVariants as place_is
use Rattle.hm_model.specs.Answers.{is_aborted, last_answer, report_of}
use Rattle.hm_model.specs.Base.{IsBegun}
use Rattle.hm_model.specs.Catalog.{cat}
use Rattle.hm_model.specs.Fleet.{is_fenced, is_live, servers_of}
use Rattle.hm_model.specs.Image.{counted, nonce_of, root_parts}
use Rattle.hm_model.specs.Inputs.{made_at_step}
use Rattle.hm_model.specs.Journal.{Past}
use Rattle.hm_model.specs.Laws.{is_part}
use Rattle.hm_model.specs.Layouts.{is_laid}
use Rattle.hm_model.specs.Nonces.{by_nonce}
use Rattle.hm_model.specs.Phase.{cause, ended}
use Rattle.hm_model.specs.Places.{place_of, tries_of}
use Rattle.hm_model.specs.Procedures.{offset}
use Rattle.hm_model.specs.Reports.{verb_of}
use Rattle.hm_model.specs.Rules.{Allowed, IsLegal}
use Rattle.hm_model.specs.Sheets.{sheets_by, sheets_of}
use Rattle.hm_model.specs.TransitActs.{is_placed, is_state}
use Rattle.hm_model.specs.Tree.{Node, drawn, made, node_of}
use Rattle.hm_model.specs.Undo.{stack}

-- the place of a region that nobody has, opens or closes, and that didn't just fail to open
pub record IsIdle (place : Place) : Type 0 where
  pub unplaced : is_placed place ≡ false
  pub untried : is_state place_is.FailedOpen place ≡ false
  pub nowhere : place.server ≡ None

-- the base of a journal: the parts that it begins with
abbrev pub base_of : Past → Past
base_of [] = []
base_of (entry_is.Base part ∷ before) = entry_is.Base part ∷ before
base_of (entry ∷ before) = base_of before

-- A region of which the second journal's base has no row, though its id was drawn before: it has none, and its place is idle in both.
pub record IsForgotten (J K : Past) (region : Region) : Type 0 where
  pub old : region.id ≤ drawn (base_of K) region.table
  pub unbased : cat (base_of K) (key_is.Region region) ≡ None
  pub rowless : cat K (key_is.Region region) ≡ None
  pub one : IsIdle (place_of J region)
  pub other : IsIdle (place_of K region)

-- a procedure is the same in both, and a root has the same nonce and the same sheets
pub record IsSame (J K : Past) (p : ℕ) : Type 0 where
  pub node : node_of J p ≡ node_of K p
  pub nonce : nonce_of J p ≡ nonce_of K p
  pub answer : last_answer J p ≡ last_answer K p
  pub verb : verb_of J p ≡ verb_of K p
  pub report : report_of J p ≡ report_of K p
  pub aborted : is_aborted J p ≡ is_aborted K p
  pub tries : tries_of J p ≡ tries_of K p
  pub stepped : made_at_step J p ≡ made_at_step K p
  pub sheets : (node : Node) → node_of J p ≡ Some node → node.above ≡ [] → sheets_by J p ≡ sheets_by K p
  pub failure : cause J p ≡ cause K p
  pub left : stack J p ≡ stack K p

-- The second journal reads as the first: both tell the same roots; procedures above those that its base stands for are the same, and
-- those up to there have ended in the first.
pub record Alike (J K : Past) : Type 0 where
  pub counts : counted J ≡ counted K
  pub last : made J ≡ made K
  pub same : (p : ℕ) → offset K < p → IsSame J K p
  pub over : (p : ℕ) (node : Node) → p ≤ offset K → node_of J p ≡ Some node → ended J p ≡ true
  pub roots : root_parts J ≡ root_parts K
  pub sheets : sheets_of J ≡ sheets_of K
  pub rows : (key : CatKey) → cat J key ≡ cat K key
  pub places : (region : Region) → (place_of J region ≡ place_of K region) ⊎ IsForgotten J K region
  pub servers : servers_of J ≡ servers_of K
  pub live : (server : Server) → is_live J server ≡ is_live K server
  pub fenced : (server : Server) → is_fenced J server ≡ is_fenced K server
  pub nonces : (nonce : Nonce) → by_nonce J nonce ≡ by_nonce K nonce
  pub ids : (table : TableName) → drawn J table ≡ drawn K table
  pub laid : (root : ℕ) → is_laid J root ≡ is_laid K root

-- journals that read alike allow the same next entries, parts of a base aside
abbrev pub AlikeAllow : Type 0
AlikeAllow =
    (J K : Past) → IsLegal J → IsLegal K → IsBegun J → IsBegun K → Alike J K
    → (entry : Entry) → is_part entry ≡ false → Allowed J entry ↔ Allowed K entry

-- and read alike behind each
abbrev pub AlikeStay : Type 0
AlikeStay =
    (J K : Past) → IsLegal J → IsLegal K → IsBegun J → IsBegun K → Alike J K
    → (entry : Entry) → is_part entry ≡ false → Allowed J entry → Alike (entry ∷ J) (entry ∷ K)

-- a region with a row has the same place in both
abbrev pub AlikePlaces : Type 0
AlikePlaces =
    (J K : Past) → Alike J K → (region : Region) → cat J (key_is.Region region) ≢ None → place_of J region ≡ place_of K region

-- no entry gives a row to a region that the base has none of, though its id was drawn before
abbrev pub ForgottenAreRowless : Type 0
ForgottenAreRowless =
    (J : Past) → IsLegal J → (region : Region) → region.id ≤ drawn (base_of J) region.table
    → cat (base_of J) (key_is.Region region) ≡ None → cat J (key_is.Region region) ≡ None
