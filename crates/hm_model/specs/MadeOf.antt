-- What an act's answer is made of.
use Rattle.std.specs.Prelude.{◌≡◌, ℕ, List, [], ◌∷◌, length, map, Option, Some, None, Bool, true, false, ◌⊎◌}
use Rattle.std.specs.Option.{option_map}
use Rattle.hm_names.specs.Region.{Region}
use Rattle.hm_names.specs.Server.{Server}
use Rattle.hm_names.specs.declared.pid.Pid.{Pid}
use Rattle.hm_names.specs.declared.table.TableName.{TableName}
use Rattle.hm_data.specs.declared.act.Act.{Act}
use Rattle.hm_data.specs.declared.act.Act.TheVariants as act_is
use Rattle.hm_data.specs.declared.answer.Answer.{Answer}
use Rattle.hm_data.specs.declared.answer.Answer.TheVariants as answer_is
use Rattle.hm_data.specs.declared.answer.Cause.{Cause}
use Rattle.hm_data.specs.declared.args.Args.{Args}
use Rattle.hm_data.specs.declared.args.Args.TheVariants as args_are
use Rattle.hm_data.specs.declared.args.Child.{Child}
use Rattle.hm_data.specs.declared.args.Child.TheVariants as child_is
use Rattle.hm_data.specs.declared.call.Told.{Told}
use Rattle.hm_data.specs.declared.call.Verb.{Verb}
use Rattle.hm_data.specs.declared.call.Verb.TheVariants as verb_is
use Rattle.hm_data.specs.declared.catalog.CatKey.{CatKey}
use Rattle.hm_data.specs.declared.catalog.CatKey.TheVariants as key_is
use Rattle.hm_data.specs.declared.catalog.CatRow.{CatRow}
use Rattle.hm_data.specs.declared.catalog.CatRow.TheVariants as row_is
use Rattle.hm_data.specs.declared.catalog.Edit.{Edit}
use Rattle.hm_data.specs.declared.catalog.TableState.{TableState}
use Rattle.hm_data.specs.declared.place.Goal.{Goal}
use Rattle.hm_data.specs.declared.place.Goal.TheVariants as goal_is
use Rattle.hm_data.specs.declared.place.Place.{Place}
use Rattle.hm_data.specs.declared.place.RegionState.{RegionState}
use Rattle.hm_data.specs.declared.step.StepIn.{StepIn}
use Rattle.hm_data.specs.declared.step.StepOut.{StepOut}
use Rattle.hm_model.specs.ActSorts.{editing_kinds, is_check, is_edit, is_plain}
use Rattle.hm_model.specs.Acts.{act_answer}
use Rattle.hm_model.specs.Catalog.{row_at, set_to}
use Rattle.hm_model.specs.Changes.{add_ranges, merge_edits, remove_regions, split_edits}
use Rattle.hm_model.specs.Outs.{calls, edits_rows, ends_with, fails, gives, places, spawns}
use Rattle.hm_model.specs.Pieces.{adding, dropping, numbers_from, ranges_between, transits}
use Rattle.hm_model.specs.RegionActs.{cut_of, regions_for}
use Rattle.hm_model.specs.RowsSaid.{all_among, in_state, in_version}
use Rattle.hm_model.specs.TransitActs.{close_at, nowhere, told_place}
use Rattle.hm_model.specs.Undoing.{closed_by}
use Rattle.hm_model.specs.Views.{asked_of, bounds_of, first_id_of, namespace_of, region_of, regions_in, table_of}
use Rattle.hm_model.specs.Wanted.{ids_of, layout_of, server_of}

-- which regions an act has opened or closed: those of the table, those that the procedure closes, so many that were drawn, or
-- those of a server
pub data Which : Type 0 where
  own : Which
  closed : Which
  drawn : ℕ → Which
  lost : Which

-- what procedures an act makes
pub data Making : Type 0 where
  nobody : Making
  layout : Making
  fencing : Making
  adds : Making
  drops : Making
  moves : Goal → Which → Making

-- what procedures each act makes
abbrev pub making : Act → Making
making act_is.Layout = layout
making act_is.AddRegions = adds
making act_is.OpenRegions = moves goal_is.Assign own
making act_is.DropRegions = drops
making act_is.CloseRegions = moves goal_is.Unassign own
making act_is.CloseParent = moves goal_is.Unassign closed
making act_is.OpenDaughters = moves goal_is.Assign (drawn 2)
making act_is.CloseParents = moves goal_is.Unassign closed
making act_is.OpenMerged = moves goal_is.Assign (drawn 1)
making act_is.Fence = fencing
making act_is.Reassign = moves goal_is.Assign lost
making act = nobody

-- the regions that are meant, at an input
pub data AreMoved (at : StepIn) : Which → List Region → Type 0 where
  of_table : (table : TableName) → table_of at.args ≡ Some table → AreMoved at own (regions_for table (first_id_of at.args) (bounds_of at.args) at.rows)
  of_closed : AreMoved at closed (closed_by at.args)
  of_drawn : (count : ℕ) (table : TableName) → table_of at.args ≡ Some table → AreMoved at (drawn count) (regions_in table (numbers_from (first_id_of at.args) count))
  of_lost : AreMoved at lost at.on_server

-- the goal is not a move, as are those of the transits that acts make
abbrev pub IsSent : Goal → Type 0
IsSent goal_is.Move = ⊥
IsSent goal = Unit {0}

-- the procedures that an act makes at an input
pub data Makes (act : Act) (at : StepIn) : List Child → Type 0 where
  lays : making act ≡ layout → Makes act at (child_is.One (args_are.LayoutCall at.root) ∷ [])
  fences : making act ≡ fencing → (server : Server) → server_of at.args ≡ Some server → Makes act at (child_is.One (args_are.FenceCall server) ∷ [])
  adds_all : making act ≡ adds → (table : TableName) → table_of at.args ≡ Some table → (bounds : List (List ℕ)) → bounds_of at.args ≡ Some bounds
      → Makes act at (adding (length bounds) table (first_id_of at.args) bounds)
  drops_all : making act ≡ drops → (table : TableName) → table_of at.args ≡ Some table → Makes act at (dropping table (map (λ (region : Region). region.id) (all_among table at.rows)))
  sends : (goal : Goal) → IsSent goal → (which : Which) → making act ≡ moves goal which → (regions : List Region) → AreMoved at which regions → Makes act at (transits goal regions)
  opens : is_plain act ≡ false → (region : Region) → region_of at.args ≡ Some region → (server : Server) → (told_place at.place).server ≡ Some server
      → Makes act at (child_is.One (args_are.AssignCall region server) ∷ [])

-- the key is of the procedure's namespace or table
pub data IsOwnKey (args : Args) : CatKey → Type 0 where
  of_namespace : (ns : List ℕ) → namespace_of args ≡ Some ns → IsOwnKey args (key_is.Ns ns)
  of_name : (table : TableName) → table_of args ≡ Some table → IsOwnKey args (key_is.Table table)

-- what becomes of such a row: it goes, comes, or gets another state or version
pub data Becomes (before : Option CatRow) : Option CatRow → Type 0 where
  goes : Becomes before None
  namespace : Becomes before (Some row_is.Ns)
  table : (state : TableState) → Becomes before (Some (row_is.Table state 1))
  state : (state : TableState) → Becomes before (option_map (in_state state) before)
  version : (version : ℕ) → Becomes before (option_map (in_version version) before)

-- the kinds that list acts which edit such a key's row
abbrev pub key_kinds : CatKey → List ℕ
key_kinds (key_is.Ns ns) = 1 ∷ 2 ∷ []
key_kinds (key_is.Table name) = 3 ∷ 4 ∷ 5 ∷ 6 ∷ 7 ∷ []
key_kinds (key_is.Region region) = []

-- what an act edits at an input: the one row of its namespace or table, or rows of regions
pub data Edits (act : Act) (at : StepIn) : List Edit → Type 0 where
  one_row : (key : CatKey) → IsOwnKey at.args key → editing_kinds act ≡ key_kinds key → (after : Option CatRow) → Becomes (row_at at.rows key) after → Edits act at (set_to (row_at at.rows) key after ∷ [])
  adds_rows : act ≡ act_is.AddRegionRows → (table : TableName) → table_of at.args ≡ Some table → (bounds : List (List ℕ)) → bounds_of at.args ≡ Some bounds
      → Edits act at (add_ranges (row_at at.rows) table (first_id_of at.args) (ranges_between bounds))
  removes_rows : act ≡ act_is.DropRegionRows → (table : TableName) → table_of at.args ≡ Some table → Edits act at (remove_regions (row_at at.rows) (regions_in table (ids_of at.args)))
  splits : act ≡ act_is.UpdateSplitMeta → (region : Region) → region_of at.args ≡ Some region → (key : List ℕ) → cut_of (asked_of at.args) ≡ Some key
      → Edits act at (split_edits (row_at at.rows) region key (first_id_of at.args))
  merges : act ≡ act_is.UpdateMergeMeta → Edits act at (merge_edits (row_at at.rows) (closed_by at.args) (first_id_of at.args))

-- what a procedure may call for
pub data Asks (args : Args) : Verb → Type 0 where
  opening : (region : Region) → region_of args ≡ Some region → Asks args (verb_is.AssignRegion region)
  closing : (region : Region) → region_of args ≡ Some region → Asks args (verb_is.CloseRegion region)
  fencing_off : (server : Server) → server_of args ≡ Some server → Asks args (verb_is.Fence server)
  laying : (root : Pid) → layout_of args ≡ Some root → Asks args (verb_is.Layout root)
  sweeping : (root : Pid) → layout_of args ≡ Some root → Asks args (verb_is.Sweep root)

-- the place that an act of a transit gives: its own is left, or nowhere, or at the server that was picked, or where it is
pub data Gives (at : StepIn) : Option Place → Type 0 where
  left : Gives at None
  away : (state : RegionState) → Gives at (Some (nowhere state))
  picked : (state : RegionState) → Gives at (Some (record { state = state; server = at.pick }))
  there : (state : RegionState) → Gives at (Some (record { state = state; server = (told_place at.place).server }))

-- an act of a transit that makes nobody leads to the next row, or the first one, or ends
abbrev pub LeadsNear : ℕ → Answer → Type 0
LeadsNear next (answer_is.More n) = (n ≡ next) ⊎ (n ≡ 0)
LeadsNear next (answer_is.Done told) = Unit {0}
LeadsNear next answer = ⊥

-- an act that may fail though nobody aborts
abbrev pub can_fail : Act → Bool
can_fail act_is.SettleLayout = true
can_fail act = is_check act

-- what an act's answer is made of that leads to a row: it fails, goes on or ends with nothing; or it edits alone, or makes
-- procedures alone, or calls alone, or gives a place, or has a region closed
pub data IsMadeOf (act : Act) (next : ℕ) (at : StepIn) : StepOut → Type 0 where
  failed : can_fail act ≡ true → (cause : Cause) → IsMadeOf act next at (fails cause)
  went_on : IsMadeOf act next at (gives (answer_is.More next) [])
  ended : (told : Told) → IsMadeOf act next at (ends_with told)
  edited : is_edit act ≡ true → (edits : List Edit) → Edits act at edits → IsMadeOf act next at (edits_rows next edits)
  made : (children : List Child) → Makes act at children → IsMadeOf act next at (spawns next children)
  called : is_plain act ≡ false → (verb : Verb) → Asks at.args verb → IsMadeOf act next at (calls next verb)
  placed : is_plain act ≡ false → (answer : Answer) → LeadsNear next answer → (place : Option Place) → Gives at place → IsMadeOf act next at (places answer place)
  shut : is_plain act ≡ false → (region : Region) → region_of at.args ≡ Some region → (server : Server) → (told_place at.place).server ≡ Some server
      → IsMadeOf act next at (close_at next region server)

-- each act's answer is made so: a law
abbrev pub AnswersAreMade : Type 0
AnswersAreMade = (act : Act) (next : ℕ) (at : StepIn) → IsMadeOf act next at (act_answer act next at)
