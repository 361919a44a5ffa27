-- What legal journals keep.
use Rattle.std.specs.List.{list_any}
use Rattle.std.specs.Prelude.{Bool, Decides, List, None, Option, Some, [], drop, false, take, true, ℕ, ◌++◌, ◌+◌, ◌<◌, ◌↔◌, ◌∷◌, ◌≡◌, ◌≢◌, ◌≤◌, ◌&&◌, ◌⊎◌}
use Rattle.std.specs.declared.cmp.Ordering.TheVariants.{Equal}
use Rattle.hm_data.specs.Keys.{key_cmp}
use Rattle.hm_data.specs.declared.catalog.CatKey.{CatKey}
use Rattle.hm_data.specs.declared.entry.Entry.{Entry}
use Rattle.hm_data.specs.declared.request.Request.{Request}
use Rattle.hm_data.specs.declared.step.StepOut.{StepOut}
use Rattle.hm_names.specs.Region.{Region}
use Rattle.hm_names.specs.Server.{Server}
use Rattle.hm_names.specs.declared.nonce.Nonce.{Nonce}
use Rattle.hm_names.specs.declared.pid.Pid.{Pid}
use Rattle.hm_names.specs.declared.table.TableName.{TableName}
use Rattle.hm_model.specs.Answers.{is_aborted, last_answer, report_of}
use Rattle.hm_model.specs.Editions.{sheets_in}
use Rattle.hm_model.specs.Journal.{Past, back}
use Rattle.hm_model.specs.Keys.{same_key, same_region, same_table}
use Rattle.hm_model.specs.Nonces.{NoncesActOnce, by_nonce, is_same}
use Rattle.hm_model.specs.Phase.{ended}
use Rattle.hm_model.specs.Procedures.{offset}
use Rattle.hm_model.specs.Records.{unfinished}
use Rattle.hm_model.specs.Reports.{verb_of}
use Rattle.hm_model.specs.Rules.{IsLegal}
use Rattle.hm_model.specs.Base.{AreSheets, IsBegun}
use Rattle.hm_data.specs.declared.part.Part.{Part}
use Rattle.hm_model.specs.Parts.{part_root}
use Rattle.hm_model.specs.Sheets.{sheets_of}
use Rattle.hm_model.specs.Tree.{Node, drawn, is_root, made, node_of, submitted}
use Rattle.hm_data.specs.declared.entry.Entry.TheVariants as entry_is

-- what a journal made: procedures numbered one after another, from 1 or from behind the last number of its base; no steps,
-- calls, reports or aborts but theirs
pub record IsGrown (J : Past) : Type 0 where
  pub none : node_of J 0 ≡ None
  pub low : offset J ≤ made J
  pub numbered : (p : ℕ) → made J < p → node_of J p ≡ None
  pub there : (p : ℕ) → offset J < p → p ≤ made J → (node : Node) × (node_of J p ≡ Some node)
  pub unmade : (p : ℕ) → node_of J p ≡ None → last_answer J p ≡ None
  pub uncalled : (p : ℕ) → node_of J p ≡ None → verb_of J p ≡ None
  pub unreported : (p : ℕ) → node_of J p ≡ None → report_of J p ≡ None
  pub unaborted : (p : ℕ) → node_of J p ≡ None → is_aborted J p ≡ false

-- an entry is a start
abbrev pub is_start : Entry → Bool
is_start (entry_is.Start sheets) = true
is_start entry = false

-- the start is the oldest entry, and no other is one; its sheets are those of edition 0
abbrev pub StartIsOldest : Past → Type 0
StartIsOldest J =
    (newer : Past) × (J ≡ newer ++ entry_is.Start (sheets_in J 0) ∷ []) × (list_any is_start newer ≡ false)

-- an entry is a part of a base
abbrev pub is_part : Entry → Bool
is_part (entry_is.Base part) = true
is_part entry = false

-- all entries are parts
abbrev pub are_parts : Past → Bool
are_parts [] = true
are_parts (entry ∷ before) = is_part entry && are_parts before

-- a whole base is the oldest, and no part stands behind it
abbrev pub BaseIsOldest : Past → Type 0
BaseIsOldest J =
    (newer : Past) × (base : Past) × (J ≡ newer ++ base) × (list_any is_part newer ≡ false) × (are_parts base ≡ true) × IsLegal base × IsBegun base

-- a journal begins with its only start, or with a whole base
abbrev pub OriginIsOldest : Past → Type 0
OriginIsOldest J = StartIsOldest J ⊎ BaseIsOldest J

-- the root that stands under a nonce was made by a submission under it, and has its request
pub record IsUnder (J : Past) (nonce : Nonce) (p : ℕ) : Type 0 where
  pub newer : Past
  pub used : Nonce
  pub request : Request
  pub older : Past
  pub splits : J ≡ newer ++ entry_is.Submit used request ∷ older
  pub same : is_same used nonce ≡ true
  pub place : p ≡ made older + 1
  pub node_is : node_of J p ≡ Some (submitted older request p)

-- a root of the base, under a nonce
pub record IsOld (J : Past) (nonce : Nonce) (p : ℕ) : Type 0 where
  pub part : Part
  pub newer : Past
  pub older : Past
  pub splits : J ≡ newer ++ entry_is.Base part ∷ older
  pub used : Nonce
  pub root : part_root part ≡ Some (used, p)
  pub same : is_same used nonce ≡ true
  pub above : 1 ≤ p
  pub within : p ≤ offset J

-- the test of tables tells what is equal
abbrev pub TablesDecided : Type 0
TablesDecided = (a b : TableName) → Decides (same_table a b) (a ≡ b)

-- so do those of regions
abbrev pub RegionsDecided : Type 0
RegionsDecided = (a b : Region) → Decides (same_region a b) (a ≡ b)

-- and those of keys
abbrev pub KeysDecided : Type 0
KeysDecided = (a b : CatKey) → Decides (same_key a b) (a ≡ b)

-- keys compare as equal only where they are
abbrev pub KeysTied : Type 0
KeysTied = (a b : CatKey) → (key_cmp a b ≡ Equal) ↔ (a ≡ b)

-- what stands before some entries of a legal journal is legal
abbrev pub OlderIsLegal : Type 0
OlderIsLegal = (newer older : Past) → IsLegal (newer ++ older) → IsLegal older

-- so are the first entries of one
abbrev pub FrontIsLegal : Type 0
FrontIsLegal = (k : ℕ) (journal : List Entry) → IsLegal (back journal) → IsLegal (back (take k journal))

-- the entries after the first few are newer
abbrev pub BackIsCut : Type 0
BackIsCut = (k : ℕ) (journal : List Entry) → back journal ≡ back (drop k journal) ++ back (take k journal)

-- one more entry is the newest
abbrev pub PushIsNewest : Type 0
PushIsNewest = (journal : List Entry) (entry : Entry) → back (journal ++ entry ∷ []) ≡ entry ∷ back journal

-- each legal journal made procedures so
abbrev pub AllGrown : Type 0
AllGrown = (J : Past) → IsLegal J → IsGrown J

-- who makes a step was made
abbrev pub SteppersAreMade : Type 0
SteppersAreMade =
    (pid : Pid) (pick : Option Server) (out : StepOut) (before : Past) → IsLegal (entry_is.Step pid pick out ∷ before)
    → (1 ≤ pid.0) × (pid.0 ≤ made before)

-- a journal that has begun has a start or a base as its oldest, and the sheets in force are those of the kinds that the
-- master runs
abbrev pub AllBegin : Type 0
AllBegin = (J : Past) → IsLegal J → IsBegun J → OriginIsOldest J × AreSheets (sheets_of J)

-- what stands under a nonce is a procedure, made by a submission under it
abbrev pub NoncesFind : Type 0
NoncesFind =
    (J : Past) → IsLegal J → (nonce : Nonce) (p : ℕ) → by_nonce J nonce ≡ Some p
    → (IsUnder J nonce p ⊎ IsOld J nonce p) × (1 ≤ p) × (p ≤ made J)

-- no nonce is used twice in a legal journal
abbrev pub NoncesActOnceInAll : Type 0
NoncesActOnceInAll = (J : Past) → IsLegal J → NoncesActOnce J

-- none is unfinished exactly where each root has ended
abbrev pub UnfinishedTells : Type 0
UnfinishedTells = (J : Past) → IsLegal J → (unfinished J ≡ 0) ↔ ((p : ℕ) → is_root J p ≡ true → ended J p ≡ true)

-- no more than 4096 region ids are ever drawn for a table
abbrev pub IdsStayWithin : Type 0
IdsStayWithin = (J : Past) → IsLegal J → (table : TableName) → drawn J table ≤ 4096
