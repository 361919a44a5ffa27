-- What the lines are at which roots open and close regions. No journal.
use Rattle.std.proofs.Common.{◌≡◌, ℕ, List, [], ◌∷◌, Bool, true, false, not, ◌&&◌, cond, Option, Some, None, refl, ap, sym, ◌∙◌, subst, inl, inr, ◌⊎◌, slice_get, arith, ◌++◌, option_map}
use Rattle.std.specs.List.{list_any}
use Rattle.std.proofs.lemmas.Bool.{cond-false, cond-true, false≢true, true≢false}
use Rattle.std.proofs.lemmas.Option.{none-some, same_Some}
use Rattle.hm_names.specs.Region.{Region}
use Rattle.hm_names.specs.declared.table.TableName.{TableName}
use Rattle.hm_names.specs.declared.range.KeyRange.{KeyRange}
use Rattle.hm_data.specs.declared.act.Act.{Act}
use Rattle.hm_data.specs.declared.act.Act.TheVariants as act_is
use Rattle.hm_data.specs.declared.answer.Cause.TheVariants as cause_is
use Rattle.hm_data.specs.declared.args.Args.{Args}
use Rattle.hm_data.specs.declared.args.Args.TheVariants as args_are
use Rattle.hm_data.specs.declared.catalog.CatKey.{CatKey}
use Rattle.hm_data.specs.declared.catalog.CatKey.TheVariants as key_is
use Rattle.hm_data.specs.declared.catalog.CatRow.{CatRow}
use Rattle.hm_data.specs.declared.catalog.CatRow.TheVariants as row_is
use Rattle.hm_data.specs.declared.catalog.Edit.{Edit}
use Rattle.hm_data.specs.declared.catalog.Status.TheVariants as status_is
use Rattle.hm_data.specs.declared.catalog.TableState.{TableState}
use Rattle.hm_data.specs.declared.catalog.TableState.TheVariants as state_is
use Rattle.hm_data.specs.declared.place.Goal.TheVariants as goal_is
use Rattle.hm_data.specs.declared.request.Request.{Request}
use Rattle.hm_data.specs.declared.request.Request.TheVariants as request_is
use Rattle.hm_model.specs.Catalog.{Catalog, edited, keep, rows_at}
use Rattle.hm_model.specs.Checks.{table_disabled, table_enabled}
use Rattle.hm_model.specs.Keys.{same_key, same_table}
use Rattle.hm_model.specs.Kinds.{kind_of, request_kind, table_of_request}
use Rattle.hm_model.specs.Lists.{Line, lines_of, orders_of}
use Rattle.hm_model.specs.ActSorts.{is_edit}
use Rattle.hm_model.specs.Changes.{add_merged, mark_merged, merge_edits, merged_of, split_edits, split_range}
use Rattle.hm_model.specs.Checks.{by_start, parts_of}
use Rattle.hm_model.specs.declared.merged.Merged.{Merged}
use Rattle.hm_model.specs.Locks.{IsIn, in_name_order}
use Rattle.hm_data.specs.declared.args.Child.{Child}
use Rattle.hm_data.specs.declared.step.StepIn.{StepIn}
use Rattle.hm_model.specs.Acts.{act_answer}
use Rattle.hm_model.specs.Outs.{spawns}
use Rattle.hm_model.specs.Pieces.{transits}
use Rattle.hm_model.specs.RegionActs.{close_regions}
use Rattle.hm_model.specs.Tree.{args_in}
use Rattle.hm_model.specs.Undoing.{closed_by, closed_by_request}
use Rattle.hm_model.specs.RowsSaid.{Rows, in_state, is_live_status, range_in, live_among, status_in, table_state_in}
use Rattle.hm_model.proofs.ExactRows.{first_act, is_listed}
use Rattle.hm_model.proofs.KeyTests.{cases_key, same_table-refl}
use Rattle.hm_model.proofs.ValidSheets.{acts_of}
use Rattle.hm_kinds.proofs.CreateTable.{Creating}
use Rattle.hm_kinds.proofs.DeleteTable.{Deleting}
use Rattle.hm_kinds.proofs.DisableTable.{Disabling}
use Rattle.hm_kinds.proofs.EnableTable.{Enabling}
use Rattle.hm_kinds.proofs.MergeRegions.{Merging}
use Rattle.hm_kinds.proofs.ModifyTable.{Modifying}
use Rattle.hm_kinds.proofs.Roots.{StageOf}
use Rattle.hm_kinds.proofs.SplitRegion.{Splitting}
use Rattle.hm_model.proofs.Listed.{transit_made}
use Rattle.hm_model.proofs.Distinct.{out_ordered}
use Rattle.hm_single.proofs.Makes.{makes}

-- requests that close regions, those that find none with a place, and those of them that open none
abbrev pub shuts : Request → Bool
shuts (request_is.DisableTable table) = true
shuts (request_is.SplitRegion region key) = true
shuts (request_is.MergeRegions regions) = true
shuts request = false

abbrev pub fills : Request → Bool
fills (request_is.CreateTable table keys) = true
fills (request_is.DeleteTable table) = true
fills (request_is.EnableTable table) = true
fills (request_is.ModifyTable table version) = true
fills request = false

abbrev pub rests : Request → Bool
rests (request_is.DeleteTable table) = true
rests (request_is.ModifyTable table version) = true
rests request = false

abbrev pub is_finish : Act → Bool
is_finish act_is.Finish = true
is_finish act = false

-- the acts that change regions that are closed
abbrev pub is_changing : Act → Bool
is_changing act_is.UpdateSplitMeta = true
is_changing act_is.UpdateMergeMeta = true
is_changing act_is.SetDisabled = true
is_changing act = false

-- the acts that close regions
abbrev pub is_shutting : Act → Bool
is_shutting act_is.CloseParent = true
is_shutting act_is.CloseParents = true
is_shutting act_is.CloseRegions = true
is_shutting act = false

-- what is left closes no regions any more, and changes them
abbrev pub is_shut : List Act → Bool
is_shut acts = list_any is_changing acts && not (list_any is_shutting acts)

-- the act by which a request closes regions
abbrev pub closer : Request → Act
closer (request_is.DisableTable table) = act_is.CloseRegions
closer (request_is.SplitRegion region key) = act_is.CloseParent
closer (request_is.MergeRegions regions) = act_is.CloseParents
closer request = act_is.Finish

-- an act that makes no transits, or only such as unassign
abbrev pub OnlyShuts : Act → Type 0
OnlyShuts act = (is_finish act ≡ false) × ((makes act ≡ None) ⊎ (makes act ≡ Some goal_is.Unassign))

pub shut_next : (request : Request) (first : ℕ) (base : Catalog) (line next : Line) (more : List Line) (then : List Edit) → shuts request ≡ true → StageOf request first base (line ∷ next ∷ more) then → is_finish next.act ≡ false → OnlyShuts line.act
shut_next (request_is.SplitRegion region key) first base line next more then h Splitting.begins ne = (refl, inl refl)
shut_next (request_is.SplitRegion region key) first base line next more then h (Splitting.found can) ne = (refl, inr refl)
shut_next (request_is.SplitRegion region key) first base line next more then h (Splitting.closed can) ne = (refl, inl refl)
shut_next (request_is.SplitRegion region key) first base line next more then h Splitting.starts ne = (refl, inl refl)
shut_next (request_is.SplitRegion region key) first base line next more then h (Splitting.tested can) ne = (refl, inl refl)
shut_next (request_is.SplitRegion region key) first base line next more then h (Splitting.ahead can) ne = (refl, inr refl)
shut_next (request_is.SplitRegion region key) first base line next more then h (Splitting.laid can) ne = (refl, inl refl)
shut_next (request_is.SplitRegion region key) first base line next more then h (Splitting.told can) ne = absurd (true≢false ne)
shut_next (request_is.MergeRegions regions) first base line next more then h Merging.begins ne = (refl, inl refl)
shut_next (request_is.MergeRegions regions) first base line next more then h (Merging.found can) ne = (refl, inr refl)
shut_next (request_is.MergeRegions regions) first base line next more then h (Merging.closed can) ne = (refl, inl refl)
shut_next (request_is.MergeRegions regions) first base line next more then h (Merging.laid can) ne = (refl, inl refl)
shut_next (request_is.MergeRegions regions) first base line next more then h (Merging.told can) ne = absurd (true≢false ne)
shut_next (request_is.DisableTable table) first base line next more then h Disabling.begins ne = (refl, inl refl)
shut_next (request_is.DisableTable table) first base line next more then h (Disabling.found none) ne = (refl, inl refl)
shut_next (request_is.DisableTable table) first base line next more then h (Disabling.told none) ne = (refl, inr refl)
shut_next request first base line next more then h stage ne = absurd (false≢true h)

-- what stands before such acts is one more, or what closes the regions
pub shut_before : (request : Request) (first : ℕ) (base : Catalog) (line next : Line) (more : List Line) (then : List Edit) → shuts request ≡ true → StageOf request first base (line ∷ next ∷ more) then → is_shut (acts_of (next ∷ more)) ≡ true → (is_shut (acts_of (line ∷ next ∷ more)) ≡ true) ⊎ (line.act ≡ closer request)
shut_before (request_is.SplitRegion region key) first base line next more then h Splitting.begins is = absurd (false≢true is)
shut_before (request_is.SplitRegion region key) first base line next more then h (Splitting.found can) is = inr refl
shut_before (request_is.SplitRegion region key) first base line next more then h (Splitting.closed can) is = inl refl
shut_before (request_is.SplitRegion region key) first base line next more then h Splitting.starts is = absurd (false≢true is)
shut_before (request_is.SplitRegion region key) first base line next more then h (Splitting.tested can) is = absurd (false≢true is)
shut_before (request_is.SplitRegion region key) first base line next more then h (Splitting.ahead can) is = inr refl
shut_before (request_is.SplitRegion region key) first base line next more then h (Splitting.laid can) is = absurd (false≢true is)
shut_before (request_is.SplitRegion region key) first base line next more then h (Splitting.told can) is = absurd (false≢true is)
shut_before (request_is.MergeRegions regions) first base line next more then h Merging.begins is = absurd (false≢true is)
shut_before (request_is.MergeRegions regions) first base line next more then h (Merging.found can) is = inr refl
shut_before (request_is.MergeRegions regions) first base line next more then h (Merging.closed can) is = inl refl
shut_before (request_is.MergeRegions regions) first base line next more then h (Merging.laid can) is = absurd (false≢true is)
shut_before (request_is.MergeRegions regions) first base line next more then h (Merging.told can) is = absurd (false≢true is)
shut_before (request_is.DisableTable table) first base line next more then h Disabling.begins is = absurd (false≢true is)
shut_before (request_is.DisableTable table) first base line next more then h (Disabling.found none) is = absurd (false≢true is)
shut_before (request_is.DisableTable table) first base line next more then h (Disabling.told none) is = inr refl
shut_before request first base line next more then h stage is = absurd (false≢true h)

-- where a request changes the regions that it closed, no act that closes some follows
pub shut_now : (request : Request) (first : ℕ) (base : Catalog) (line : Line) (behind : List Line) (then : List Edit) → shuts request ≡ true → StageOf request first base (line ∷ behind) then → is_changing line.act ≡ true → is_shut (acts_of (line ∷ behind)) ≡ true
shut_now (request_is.SplitRegion region key) first base line behind then h Splitting.begins is = absurd (false≢true is)
shut_now (request_is.SplitRegion region key) first base line behind then h (Splitting.found can) is = absurd (false≢true is)
shut_now (request_is.SplitRegion region key) first base line behind then h (Splitting.closed can) is = absurd (false≢true is)
shut_now (request_is.SplitRegion region key) first base line behind then h Splitting.starts is = absurd (false≢true is)
shut_now (request_is.SplitRegion region key) first base line behind then h (Splitting.tested can) is = absurd (false≢true is)
shut_now (request_is.SplitRegion region key) first base line behind then h (Splitting.ahead can) is = absurd (false≢true is)
shut_now (request_is.SplitRegion region key) first base line behind then h (Splitting.laid can) is = refl
shut_now (request_is.SplitRegion region key) first base line behind then h (Splitting.told can) is = absurd (false≢true is)
shut_now (request_is.SplitRegion region key) first base line behind then h (Splitting.opened can) is = absurd (false≢true is)
shut_now (request_is.MergeRegions regions) first base line behind then h Merging.begins is = absurd (false≢true is)
shut_now (request_is.MergeRegions regions) first base line behind then h (Merging.found can) is = absurd (false≢true is)
shut_now (request_is.MergeRegions regions) first base line behind then h (Merging.closed can) is = absurd (false≢true is)
shut_now (request_is.MergeRegions regions) first base line behind then h (Merging.laid can) is = refl
shut_now (request_is.MergeRegions regions) first base line behind then h (Merging.told can) is = absurd (false≢true is)
shut_now (request_is.MergeRegions regions) first base line behind then h (Merging.opened can) is = absurd (false≢true is)
shut_now (request_is.DisableTable table) first base line behind then h Disabling.begins is = absurd (false≢true is)
shut_now (request_is.DisableTable table) first base line behind then h (Disabling.found none) is = absurd (false≢true is)
shut_now (request_is.DisableTable table) first base line behind then h (Disabling.told none) is = absurd (false≢true is)
shut_now (request_is.DisableTable table) first base line behind then h (Disabling.moved none) is = refl
shut_now request first base line behind then h stage is = absurd (false≢true h)

-- where such a request opens regions it is past the point
pub fill_makes : (request : Request) (first : ℕ) (base : Catalog) (line : Line) (behind : List Line) (then : List Edit) → fills request ≡ true → StageOf request first base (line ∷ behind) then → (makes line.act ≡ None) ⊎ ((line.after ≡ true) × (rests request ≡ false))
fill_makes (request_is.CreateTable table keys) first base line behind then h Creating.begins = inl refl
fill_makes (request_is.CreateTable table keys) first base line behind then h (Creating.free none) = inl refl
fill_makes (request_is.CreateTable table keys) first base line behind then h (Creating.added none) = inl refl
fill_makes (request_is.CreateTable table keys) first base line behind then h (Creating.laid none) = inl refl
fill_makes (request_is.CreateTable table keys) first base line behind then h (Creating.filled none) = inl refl
fill_makes (request_is.CreateTable table keys) first base line behind then h (Creating.enabled none) = inr (refl, refl)
fill_makes (request_is.CreateTable table keys) first base line behind then h (Creating.opened none) = inl refl
fill_makes (request_is.DeleteTable table) first base line behind then h Deleting.begins = inl refl
fill_makes (request_is.DeleteTable table) first base line behind then h (Deleting.disabled none) = inl refl
fill_makes (request_is.DeleteTable table) first base line behind then h (Deleting.emptied none ids has) = inl refl
fill_makes (request_is.EnableTable table) first base line behind then h Enabling.begins = inl refl
fill_makes (request_is.EnableTable table) first base line behind then h (Enabling.found none) = inl refl
fill_makes (request_is.EnableTable table) first base line behind then h (Enabling.told none) = inr (refl, refl)
fill_makes (request_is.EnableTable table) first base line behind then h (Enabling.moved none) = inl refl
fill_makes (request_is.ModifyTable table version) first base line behind then h Modifying.begins = inl refl
fill_makes (request_is.ModifyTable table version) first base line behind then h (Modifying.found none) = inl refl
fill_makes request first base line behind then h stage = absurd (false≢true h)

-- who has regions added, and who has them dropped
abbrev pub is_creating : Args → Bool
is_creating (args_are.Root (request_is.CreateTable table keys) first) = true
is_creating args = false

abbrev pub is_deleting : Args → Bool
is_deleting (args_are.Root (request_is.DeleteTable table) first) = true
is_deleting args = false

pub adds_kind : (args : Args) → is_listed (kind_of args) act_is.AddRegions ≡ true → is_creating args ≡ true
adds_kind (args_are.Root (request_is.CreateTable table keys) first) h = refl
adds_kind (args_are.Root (request_is.CreateNamespace ns) first) h = absurd (false≢true h)
adds_kind (args_are.Root (request_is.DropNamespace ns) first) h = absurd (false≢true h)
adds_kind (args_are.Root (request_is.DeleteTable table) first) h = absurd (false≢true h)
adds_kind (args_are.Root (request_is.EnableTable table) first) h = absurd (false≢true h)
adds_kind (args_are.Root (request_is.DisableTable table) first) h = absurd (false≢true h)
adds_kind (args_are.Root (request_is.ModifyTable table version) first) h = absurd (false≢true h)
adds_kind (args_are.Root (request_is.SplitRegion region key) first) h = absurd (false≢true h)
adds_kind (args_are.Root (request_is.MergeRegions regions) first) h = absurd (false≢true h)
adds_kind (args_are.Root (request_is.Move region to) first) h = absurd (false≢true h)
adds_kind args h = absurd (false≢true h)

pub drops_kind : (args : Args) → is_listed (kind_of args) act_is.DropRegions ≡ true → is_deleting args ≡ true
drops_kind (args_are.Root (request_is.DeleteTable table) first) h = refl
drops_kind (args_are.Root (request_is.CreateNamespace ns) first) h = absurd (false≢true h)
drops_kind (args_are.Root (request_is.DropNamespace ns) first) h = absurd (false≢true h)
drops_kind (args_are.Root (request_is.CreateTable table keys) first) h = absurd (false≢true h)
drops_kind (args_are.Root (request_is.EnableTable table) first) h = absurd (false≢true h)
drops_kind (args_are.Root (request_is.DisableTable table) first) h = absurd (false≢true h)
drops_kind (args_are.Root (request_is.ModifyTable table version) first) h = absurd (false≢true h)
drops_kind (args_are.Root (request_is.SplitRegion region key) first) h = absurd (false≢true h)
drops_kind (args_are.Root (request_is.MergeRegions regions) first) h = absurd (false≢true h)
drops_kind (args_are.Root (request_is.Move region to) first) h = absurd (false≢true h)
drops_kind args h = absurd (false≢true h)

-- a table is there, and not disabled
abbrev pub on_state : Option TableState → Bool
on_state None = false
on_state (Some state_is.Disabled) = false
on_state (Some state) = true

abbrev pub is_on : Option CatRow → Bool
is_on row = on_state (table_state_in row)

pub enabled_on : (row : Option CatRow) → table_enabled row ≡ None → is_on row ≡ true
enabled_on row h = by (table_state_in row) h
  where
    by : (o : Option TableState) → Rattle.hm_model.specs.Checks.table_in state_is.Enabled cause_is.NotEnabled o ≡ None → on_state o ≡ true
    by None e = absurd (none-some cause_is.TableMissing (sym e))
    by (Some state_is.Enabled) e = refl
    by (Some state_is.Enabling) e = refl
    by (Some state_is.Disabling) e = refl
    by (Some state_is.Disabled) e = absurd (none-some cause_is.NotEnabled (sym e))

pub disabled_off : (row : Option CatRow) → table_disabled row ≡ None → is_on row ≡ false
disabled_off row h = by (table_state_in row) h
  where
    by : (o : Option TableState) → Rattle.hm_model.specs.Checks.table_in state_is.Disabled cause_is.NotDisabled o ≡ None → on_state o ≡ false
    by None e = refl
    by (Some state_is.Disabled) e = refl
    by (Some state_is.Enabled) e = absurd (none-some cause_is.NotDisabled (sym e))
    by (Some state_is.Enabling) e = absurd (none-some cause_is.NotDisabled (sym e))
    by (Some state_is.Disabling) e = absurd (none-some cause_is.NotDisabled (sym e))

pub disable_keeps : (table : TableName) (base : Catalog) (lines : List Line) (then : List Edit) (region : Region) → Disabling table base lines then → edited then (key_is.Region region) (base (key_is.Region region)) ≡ base (key_is.Region region)
disable_keeps table base lines then region Disabling.begins = refl
disable_keeps table base lines then region (Disabling.found none) = refl
disable_keeps table base lines then region (Disabling.told none) = refl
disable_keeps table base lines then region (Disabling.moved none) = refl

-- a live region's row is read as one
module _ (u : TableName) (asked : CatKey → Bool) where
  live_here : (r : Region) (range : KeyRange) (parents : List ℕ) (rows : Rows) → r.table ≡ u → IsIn r (live_among u ((key_is.Region r, row_is.Region range status_is.Live parents) ∷ rows))
  live_here r range parents rows own = subst (λ b. IsIn r (cond (b && true) (r ∷ live_among u rows) (live_among u rows))) (sym (ap (same_table u) own ∙ same_table-refl u)) (inl refl)

  live_later : (key : CatKey) (row : CatRow) (rows : Rows) (r : Region) → IsIn r (live_among u rows) → IsIn r (live_among u ((key, row) ∷ rows))
  live_later (key_is.Region first) row rows r at = by (same_table u first.table && is_live_status (status_in (Some row)))
    where
      by : (b : Bool) → IsIn r (cond b (first ∷ live_among u rows) (live_among u rows))
      by true = inr at
      by false = at
  live_later key row rows r at = at

  live_kept : (b : Bool) (key : CatKey) (o : Option CatRow) (rows : Rows) (r : Region) → IsIn r (live_among u rows) → IsIn r (live_among u (keep b key o rows))
  live_kept false key o rows r at = at
  live_kept true key None rows r at = at
  live_kept true key (Some row) rows r at = live_later key row rows r at

  pub live_listed : (there : Catalog) (keys : List CatKey) (r : Region) (range : KeyRange) (parents : List ℕ) → r.table ≡ u → asked (key_is.Region r) ≡ true → IsIn (key_is.Region r) keys → there (key_is.Region r) ≡ Some (row_is.Region range status_is.Live parents) → IsIn r (live_among u (rows_at asked there keys))
  live_listed there [] r range parents own on at is = absurd at
  live_listed there (first ∷ keys) r range parents own on (inl here) is =
      subst (λ k. IsIn r (live_among u (keep (asked k) k (there k) (rows_at asked there keys)))) here
      (subst (λ b. IsIn r (live_among u (keep b (key_is.Region r) (there (key_is.Region r)) (rows_at asked there keys)))) (sym on)
      (subst (λ o. IsIn r (live_among u (keep true (key_is.Region r) o (rows_at asked there keys)))) (sym is) (live_here r range parents (rows_at asked there keys) own)))
  live_listed there (first ∷ keys) r range parents own on (inr later) is = live_kept (asked first) first (there first) (rows_at asked there keys) r (live_listed there keys r range parents own on later is)

-- a request begins before it has closed its regions
pub first_open : (request : Request) → shuts request ≡ true → (lines : List Line) → IsIn lines (orders_of (request_kind request)) → is_shut (acts_of lines) ≡ false
first_open (request_is.DisableTable table) h lines (inl same) = ap (λ l. is_shut (acts_of l)) same
first_open (request_is.DisableTable table) h lines (inr never) = absurd never
first_open (request_is.MergeRegions regions) h lines (inl same) = ap (λ l. is_shut (acts_of l)) same
first_open (request_is.MergeRegions regions) h lines (inr never) = absurd never
first_open (request_is.SplitRegion region key) h lines (inl same) = ap (λ l. is_shut (acts_of l)) same
first_open (request_is.SplitRegion region key) h lines (inr (inl same)) = ap (λ l. is_shut (acts_of l)) same
first_open (request_is.SplitRegion region key) h lines (inr (inr never)) = absurd never
first_open request h lines among = absurd (false≢true h)

spawned : (next : ℕ) (children : List Child) → (spawns next children).children ≡ children
spawned next [] = refl
spawned next (child ∷ more) = refl

-- whom the act that closes regions makes
abbrev pub Sent : Request → StepIn → Region → Type 0
Sent request at region = IsIn region (closed_by_request request) ⊎ ((table : TableName) × (request ≡ request_is.DisableTable table) × IsIn region (live_among table at.rows))

pub closer_sends : (request : Request) (first next : ℕ) (at : StepIn) → at.args ≡ args_are.Root request first → shuts request ≡ true → (region : Region) → Sent request at region
    → (i : ℕ) × (slice_get (args_in (act_answer (closer request) next at).children) i ≡ Some (args_are.Transit region goal_is.Unassign None))
closer_sends (request_is.SplitRegion own key) first next at e h region (inl among) =
    let sent = transit_made goal_is.Unassign region (closed_by at.args) (subst (λ a. IsIn region (closed_by a)) (sym e) among) in
    (sent.0, ap (λ c. slice_get (args_in c) sent.0) (spawned next (transits goal_is.Unassign (closed_by at.args))) ∙ sent.1)
closer_sends (request_is.SplitRegion own key) first next at e h region (inr other) = (let k = ap request_kind other.1 in absurd (omega (arith, k)))
closer_sends (request_is.MergeRegions regions) first next at e h region (inl among) =
    let sent = transit_made goal_is.Unassign region (closed_by at.args) (subst (λ a. IsIn region (closed_by a)) (sym e) among) in
    (sent.0, ap (λ c. slice_get (args_in c) sent.0) (spawned next (transits goal_is.Unassign (closed_by at.args))) ∙ sent.1)
closer_sends (request_is.MergeRegions regions) first next at e h region (inr other) = (let k = ap request_kind other.1 in absurd (omega (arith, k)))
closer_sends (request_is.DisableTable u) first next at e h region (inl among) = absurd among
closer_sends (request_is.DisableTable u) first next at e h region (inr live) =
    let same : live.0 ≡ u = sym (same_Some u live.0 (ap table_of_request live.1)) in
    let sent = transit_made goal_is.Unassign region (live_among u at.rows) (subst (λ t. IsIn region (live_among t at.rows)) same live.2) in
    (sent.0, ap (λ a. slice_get (args_in (close_regions next a at.rows).children) sent.0) e ∙ ap (λ c. slice_get (args_in c) sent.0) (spawned next (transits goal_is.Unassign (live_among u at.rows))) ∙ sent.1)
closer_sends request first next at e h region c = absurd (false≢true h)

-- past the point the only edit of a request that opens its table's regions is that which enables the table
pub fill_late : (request : Request) (first : ℕ) (base : Catalog) (line : Line) (behind : List Line) (then : List Edit) → fills request ≡ true → rests request ≡ false → StageOf request first base (line ∷ behind) then → line.after ≡ true → is_edit line.act ≡ true → line.act ≡ act_is.SetEnabled
fill_late (request_is.CreateTable table keys) first base line behind then h r Creating.begins late e = absurd (false≢true late)
fill_late (request_is.CreateTable table keys) first base line behind then h r (Creating.free none) late e = absurd (false≢true late)
fill_late (request_is.CreateTable table keys) first base line behind then h r (Creating.added none) late e = absurd (false≢true late)
fill_late (request_is.CreateTable table keys) first base line behind then h r (Creating.laid none) late e = absurd (false≢true late)
fill_late (request_is.CreateTable table keys) first base line behind then h r (Creating.filled none) late e = absurd (false≢true late)
fill_late (request_is.CreateTable table keys) first base line behind then h r (Creating.enabled none) late e = absurd (false≢true e)
fill_late (request_is.CreateTable table keys) first base line behind then h r (Creating.opened none) late e = refl
fill_late (request_is.EnableTable table) first base line behind then h r Enabling.begins late e = absurd (false≢true late)
fill_late (request_is.EnableTable table) first base line behind then h r (Enabling.found none) late e = absurd (false≢true late)
fill_late (request_is.EnableTable table) first base line behind then h r (Enabling.told none) late e = absurd (false≢true e)
fill_late (request_is.EnableTable table) first base line behind then h r (Enabling.moved none) late e = refl
fill_late (request_is.DeleteTable table) first base line behind then h r stage late e = absurd (true≢false r)
fill_late (request_is.ModifyTable table version) first base line behind then h r stage late e = absurd (true≢false r)
fill_late request first base line behind then h r stage late e = absurd (false≢true h)

-- the first act of a request only tests
pub first_tests : (request : Request) (act : Act) → Some act ≡ first_act (lines_of (request_kind request)) → is_edit act ≡ false
first_tests (request_is.Move region to) act is = absurd (none-some act (sym is))
first_tests request act is = ap is_edit (same_Some act _ is)

pub disable_edit : (table : TableName) (base : Catalog) (line : Line) (behind : List Line) (then : List Edit) → Disabling table base (line ∷ behind) then → is_edit line.act ≡ true → (line.act ≡ act_is.SetDisabling) ⊎ (line.act ≡ act_is.SetDisabled)
disable_edit table base line behind then Disabling.begins e = absurd (false≢true e)
disable_edit table base line behind then (Disabling.found none) e = inl refl
disable_edit table base line behind then (Disabling.told none) e = absurd (false≢true e)
disable_edit table base line behind then (Disabling.moved none) e = inr refl

pub split_edit_act : (region : Region) (key : List ℕ) (first : ℕ) (base : Catalog) (line : Line) (behind : List Line) (then : List Edit) → Splitting region key first base (line ∷ behind) then → is_edit line.act ≡ true → line.act ≡ act_is.UpdateSplitMeta
split_edit_act region key first base line behind then Splitting.begins e = absurd (false≢true e)
split_edit_act region key first base line behind then (Splitting.found can) e = absurd (false≢true e)
split_edit_act region key first base line behind then (Splitting.closed can) e = absurd (false≢true e)
split_edit_act region key first base line behind then Splitting.starts e = absurd (false≢true e)
split_edit_act region key first base line behind then (Splitting.tested can) e = absurd (false≢true e)
split_edit_act region key first base line behind then (Splitting.ahead can) e = absurd (false≢true e)
split_edit_act region key first base line behind then (Splitting.laid can) e = refl
split_edit_act region key first base line behind then (Splitting.told can) e = absurd (false≢true e)
split_edit_act region key first base line behind then (Splitting.opened can) e = absurd (false≢true e)

pub merge_edit_act : (regions : List Region) (first : ℕ) (base : Catalog) (line : Line) (behind : List Line) (then : List Edit) → Merging regions first base (line ∷ behind) then → is_edit line.act ≡ true → line.act ≡ act_is.UpdateMergeMeta
merge_edit_act regions first base line behind then Merging.begins e = absurd (false≢true e)
merge_edit_act regions first base line behind then (Merging.found can) e = absurd (false≢true e)
merge_edit_act regions first base line behind then (Merging.closed can) e = absurd (false≢true e)
merge_edit_act regions first base line behind then (Merging.laid can) e = refl
merge_edit_act regions first base line behind then (Merging.told can) e = absurd (false≢true e)
merge_edit_act regions first base line behind then (Merging.opened can) e = absurd (false≢true e)

-- a row of a live region
abbrev pub IsLiveRow : Option CatRow → Type 0
IsLiveRow row = (range : KeyRange) × (parents : List ℕ) × (row ≡ Some (row_is.Region range status_is.Live parents))

-- edits that make no row of the region but a live one
abbrev pub AllGood : Region → List Edit → Type 0
AllGood region [] = Unit {0}
AllGood region (edit ∷ edits) = ((key_is.Region region ≡ edit.key → ⊥) ⊎ IsLiveRow edit.after) × AllGood region edits

pub good_live : (region : Region) (edits : List Edit) → AllGood region edits → (row : Option CatRow) → IsLiveRow row → IsLiveRow (edited edits (key_is.Region region) row)
good_live region [] good row live = live
good_live region (edit ∷ edits) good row live = elim (cases_key (key_is.Region region) edit.key) [
  | inl same ↦ good_live region edits good.1 _ (subst IsLiveRow (sym (cond-true (same_key (key_is.Region region) edit.key) edit.after row same.0)) (elim good.0 [ inl differs ↦ absurd (differs same.1) | inr new ↦ new ]))
  | inr differs ↦ good_live region edits good.1 _ (subst IsLiveRow (sym (cond-false (same_key (key_is.Region region) edit.key) edit.after row differs.0)) live)
]

good_both : (region : Region) (one other : List Edit) → AllGood region one → AllGood region other → AllGood region (one ++ other)
good_both region [] other g h = h
good_both region (edit ∷ edits) other g h = (g.0, good_both region edits other g.1 h)

region_in : CatKey → Option Region
region_in (key_is.Region region) = Some region
region_in key = None

pub split_good : (there : Catalog) (own : Region) (key : List ℕ) (first : ℕ) (region : Region) → (region ≡ own → ⊥) → AllGood region (split_edits there own key first)
unfolding region_in
split_good there own key first region differs = by (range_in (there (key_is.Region own)))
  where
    by : (o : Option KeyRange) → AllGood region (split_range there own key first o)
    by None = tt
    by (Some range) = (inl (λ same. differs (same_Some region own (ap region_in same))), (inr (_, _, refl), (inr (_, _, refl), tt)))

pub merge_good : (there : Catalog) (regions : List Region) (first : ℕ) (region : Region) → (IsIn region regions → ⊥) → AllGood region (merge_edits there regions first)
unfolding region_in
merge_good there regions first region out_of = good_both region (mark_merged there (in_name_order regions)) (add_merged there first regions regions) (marks (in_name_order regions) (λ among. out_of (out_ordered region regions among))) (adds regions)
  where
    marks : (list : List Region) → (IsIn region list → ⊥) → AllGood region (mark_merged there list)
    marks [] off = tt
    marks (one ∷ more) off = (inl (λ same. off (inl (same_Some region one (ap region_in same)))), marks more (λ later. off (inr later)))

    parts : (table : TableName) (list : List Merged) → AllGood region (merged_of there table first list)
    parts table [] = tt
    parts table (part ∷ more) = (inr (_, _, refl), tt)

    adds : (list : List Region) → AllGood region (add_merged there first list regions)
    adds [] = tt
    adds (one ∷ more) = parts one.table (by_start (parts_of there regions))

-- a table in another state than disabled
pub on_changed : (state : TableState) (row : Option CatRow) → on_state (Some state) ≡ true → is_on row ≡ true → is_on (option_map (in_state state) row) ≡ true
on_changed state (Some (row_is.Table was version)) h on = h
on_changed state (Some row_is.Ns) h on = absurd (false≢true on)
on_changed state (Some (row_is.Region range status parents)) h on = absurd (false≢true on)
on_changed state None h on = absurd (false≢true on)
