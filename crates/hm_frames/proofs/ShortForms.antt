-- What is short enough for a frame: names, rows, edits, procedures, and what a step answers.
use Rattle.std.proofs.Common.{◌≡◌, ℕ, ◌+◌, ◌≤◌, List, [], ◌∷◌, length, Option, Some, None, Bool}
use Rattle.hm_names.specs.Names.{IsNs}
use Rattle.hm_names.specs.Region.{Region}
use Rattle.hm_names.specs.Servers.{IsServer}
use Rattle.hm_names.specs.Tables.{IsTable}
use Rattle.hm_names.specs.declared.range.KeyRange.{KeyRange}
use Rattle.hm_data.specs.declared.args.Args.{Args}
use Rattle.hm_data.specs.declared.args.Args.TheVariants as args_are
use Rattle.hm_data.specs.declared.args.Child.{Child}
use Rattle.hm_data.specs.declared.args.Child.TheVariants as child_is
use Rattle.hm_data.specs.declared.call.Verb.{Verb}
use Rattle.hm_data.specs.declared.call.Verb.TheVariants as verb_is
use Rattle.hm_data.specs.declared.catalog.CatKey.{CatKey}
use Rattle.hm_data.specs.declared.catalog.CatKey.TheVariants as key_is
use Rattle.hm_data.specs.declared.catalog.CatRow.{CatRow}
use Rattle.hm_data.specs.declared.catalog.CatRow.TheVariants as row_is
use Rattle.hm_data.specs.declared.catalog.Edit.{Edit}
use Rattle.hm_data.specs.declared.place.Place.{Place}
use Rattle.hm_data.specs.declared.request.Request.{Request}
use Rattle.hm_data.specs.declared.step.StepIn.{StepIn}
use Rattle.hm_data.specs.declared.step.StepOut.{StepOut}
use Rattle.hm_data.specs.declared.step.Turn.{Turn}
use Rattle.hm_data.specs.declared.step.Turn.TheVariants as turn_is
use Rattle.hm_entry.specs.Fits.{RequestFits, IsSpelled}
use Rattle.hm_entry.specs.Spelling.{child, edit, list}
use Rattle.hm_model.specs.Catalog.{row_at}
use Rattle.hm_model.specs.Requests.{wrong_in}
use Rattle.hm_model.specs.RowsSaid.{regions_among}
use Rattle.hm_model.specs.TransitActs.{told_place}
use Rattle.hm_names.specs.declared.table.TableName.{TableName}

-- each item has the property
abbrev pub Each : {A : Type 0} → (A → Type 0) → List A → Type 0
Each P [] = Unit {0}
Each P (x ∷ xs) = P x × Each P xs

-- what is there has the property
abbrev pub If : {A : Type 0} → (A → Type 0) → Option A → Type 0
If P None = Unit {0}
If P (Some x) = P x

abbrev pub IsShortKey : List ℕ → Type 0
IsShortKey key = length key ≤ 128

abbrev pub IsShortRange : KeyRange → Type 0
IsShortRange range = IsShortKey range.start × IsShortKey range.end

-- a region has ten parents at most
abbrev pub IsShortRow : CatRow → Type 0
IsShortRow row_is.Ns = Unit {0}
IsShortRow (row_is.Table state version) = Unit {0}
IsShortRow (row_is.Region range status parents) = IsShortRange range × (length parents ≤ 10)

-- a region of a table with a right name
abbrev pub IsOfTable : Region → Type 0
IsOfTable region = IsTable region.table

abbrev pub IsShortCatKey : CatKey → Type 0
IsShortCatKey (key_is.Ns ns) = IsNs ns
IsShortCatKey (key_is.Table table) = IsTable table
IsShortCatKey (key_is.Region region) = IsOfTable region

pub record IsShortEdit (e : Edit) : Type 0 where
  pub key : IsShortCatKey e.key
  pub before : If IsShortRow e.before
  pub after : If IsShortRow e.after

-- a request that nothing is wrong with
abbrev pub IsShortRequest : Request → Type 0
IsShortRequest asked = (wrong_in asked ≡ None) × RequestFits asked

-- 64 regions at most are added or removed at once
abbrev pub IsShortArgs : Args → Type 0
IsShortArgs (args_are.Root asked first) = IsShortRequest asked
IsShortArgs (args_are.Transit region goal to) = IsOfTable region
IsShortArgs (args_are.Crash server) = IsServer server
IsShortArgs (args_are.AddRegions table first bounds) = IsTable table × Each IsShortKey bounds × (length bounds ≤ 65)
IsShortArgs (args_are.DropRegions table ids) = IsTable table × (length ids ≤ 64)
IsShortArgs (args_are.AssignCall region server) = IsOfTable region × IsServer server
IsShortArgs (args_are.CloseCall region server) = IsOfTable region × IsServer server
IsShortArgs (args_are.FenceCall server) = IsServer server
IsShortArgs (args_are.LayoutCall root) = Unit {0}
IsShortArgs (args_are.SweepLayout root) = Unit {0}

abbrev pub IsShortChild : Child → Type 0
IsShortChild (child_is.Transits table ids goal) = IsTable table
IsShortChild (child_is.One args) = IsSpelled args × IsShortArgs args

abbrev pub IsShortVerb : Verb → Type 0
IsShortVerb (verb_is.AssignRegion region) = IsOfTable region
IsShortVerb (verb_is.CloseRegion region) = IsOfTable region
IsShortVerb (verb_is.Fence server) = IsServer server
IsShortVerb (verb_is.Layout root) = Unit {0}
IsShortVerb (verb_is.Sweep root) = Unit {0}

abbrev pub IsShortPlace : Place → Type 0
IsShortPlace place = If IsServer place.server

-- 64 edits at most
abbrev pub AreShortEdits : List Edit → Type 0
AreShortEdits edits = Each IsShortEdit edits × (length edits ≤ 64)

-- what a step answers, without its names, is short
pub record IsShortOut (o : StepOut) : Type 0 where
  pub edits : AreShortEdits o.edits
  pub children : Each IsShortChild o.children
  pub followers : Each IsShortChild o.followers
  pub call : If IsShortVerb o.call
  pub place : If IsShortPlace o.place
  pub small : length (list edit o.edits) + length (list child o.children) + length (list child o.followers) ≤ 60000

abbrev pub IsShortTurn : Turn → Type 0
IsShortTurn turn_is.Step = Unit {0}
IsShortTurn (turn_is.Undo edits) = AreShortEdits edits

-- the same of what a step sees: a table has 4096 regions at most, and a server 64 that are told
pub record SeesShort (at : StepIn) : Type 0 where
  pub args : IsShortArgs at.args
  pub rows : (key : CatKey) → If IsShortRow (row_at at.rows key)
  pub few : (table : TableName) (test : CatRow → Bool) → length (regions_among table test at.rows) ≤ 4096
  pub place : If IsServer (let place = told_place at.place in place.server)
  pub pick : If IsServer at.pick
  pub on_server : Each IsOfTable at.on_server × (length at.on_server ≤ 64)
  pub turn : IsShortTurn at.turn
