-- Each region with a place is live, and its table is there and not disabled.
use Rattle.std.proofs.Common.{if◌then◌else◌}
use Rattle.hm_model.specs.Base.{MayStand, PartFits}
use Rattle.hm_data.specs.declared.part.Part.{Part}
use Rattle.hm_data.specs.declared.part.Part.TheVariants as part_is
use Rattle.hm_model.proofs.Grown.{ends_parted}
use Rattle.hm_model.proofs.Parted.{by_parts}
use Rattle.hm_model.proofs.Rising.{table_new}
use Rattle.std.proofs.Common.{◌≡◌, ◌≢◌, ℕ, ◌||◌, ◌&&◌, List, [], ◌∷◌, Bool, true, false, Option, Some, None, option_map, refl, ap, sym, ◌∙◌, subst, inl, inr, ◌⊎◌}
use Rattle.std.proofs.lemmas.Bool.{and_parts, cases_Bool, cond-false, cond-true, false≢true, true≢false}
use Rattle.std.proofs.lemmas.Option.{none-some, same_Some}
use Rattle.hm_names.specs.Region.{Region}
use Rattle.hm_names.specs.Server.{Server}
use Rattle.hm_names.specs.declared.pid.Pid.{Pid}
use Rattle.hm_names.specs.declared.table.TableName.{TableName}
use Rattle.hm_data.specs.declared.act.Act.{Act}
use Rattle.hm_data.specs.declared.act.Act.TheVariants as act_is
use Rattle.hm_data.specs.declared.args.Args.{Args}
use Rattle.hm_data.specs.declared.args.Args.TheVariants as args_are
use Rattle.hm_data.specs.declared.catalog.CatKey.{CatKey}
use Rattle.hm_data.specs.declared.catalog.CatKey.TheVariants as key_is
use Rattle.hm_data.specs.declared.catalog.CatRow.{CatRow}
use Rattle.hm_data.specs.declared.catalog.CatRow.TheVariants as row_is
use Rattle.hm_data.specs.declared.catalog.Status.TheVariants as status_is
use Rattle.hm_data.specs.declared.catalog.TableState.{TableState}
use Rattle.hm_data.specs.declared.catalog.TableState.TheVariants as state_is
use Rattle.hm_data.specs.declared.entry.Entry.TheVariants as entry_is
use Rattle.hm_data.specs.declared.request.Request.{Request}
use Rattle.hm_data.specs.declared.request.Request.TheVariants as request_is
use Rattle.hm_data.specs.declared.step.StepIn.{StepIn}
use Rattle.hm_data.specs.declared.step.StepOut.{StepOut}
use Rattle.hm_model.specs.ActSorts.{is_edit}
use Rattle.hm_model.specs.Acts.{act_answer}
use Rattle.hm_model.specs.Answers.{last_answer, row_of}
use Rattle.hm_model.specs.Catalog.{cat, edited, row_at, was}
use Rattle.hm_model.specs.Changes.{changed, merge_edits, split_edits}
use Rattle.hm_model.specs.Inputs.{step_input}
use Rattle.hm_model.specs.Journal.{Past}
use Rattle.hm_model.specs.Keys.{same_region, same_table}
use Rattle.hm_model.specs.Kinds.{kind_of, request_kind}
use Rattle.hm_model.specs.Lists.{exact_rows, lines_of}
use Rattle.hm_model.specs.Locks.{IsIn, asks, exclusive}
use Rattle.hm_model.specs.NamespaceActs.{set_state}
use Rattle.hm_model.specs.Phase.{root_ended}
use Rattle.hm_model.specs.Places.{place_of}
use Rattle.hm_model.specs.Reads.{covers, is_over, reads}
use Rattle.hm_model.specs.RegionActs.{update_merge_meta, update_split_meta}
use Rattle.hm_model.specs.RowsSaid.{in_state, is_in_state, is_live_status, status_in, table_state_in}
use Rattle.hm_model.specs.Rules.{IsLegal}
use Rattle.hm_model.specs.Sheets.{row_in}
use Rattle.hm_model.specs.TransitActs.{is_placed, may_open}
use Rattle.hm_model.specs.Tree.{Node, node_of, root_of}
use Rattle.hm_model.specs.Undoing.{undo_edits}
use Rattle.hm_model.specs.Whereabouts.{moved_by}
use Rattle.hm_model.specs.declared.lock.Ask.{Ask}
use Rattle.hm_model.specs.declared.lock.Resource.TheVariants as resource_is
use Rattle.hm_model.proofs.ExactRows.{begin_alike, first_act}
use Rattle.hm_model.proofs.KeyTests.{same_region-is, same_region-refl, same_table-is, same_table-refl}
use Rattle.hm_model.proofs.LegalSteps.{ready_stops}
use Rattle.hm_model.proofs.Rows.{row_read}
use Rattle.hm_model.proofs.Trees.{Grown, down_rooted, grown_all, sheets_stay, start_none, submit_rooted}
use Rattle.hm_kinds.proofs.Covering.{covers_from, merge_own, rows_table}
use Rattle.hm_kinds.proofs.Roots.{Stage, StageOf}
use Rattle.hm_serial.proofs.Apart.{Aside}
use Rattle.hm_kinds.proofs.Editless.{none_act}
use Rattle.hm_serial.proofs.FallAll.{All, held_before, edits_are, falls_all, sick, step_aside, u, undo_back, undo_holds, undo_within}
use Rattle.hm_serial.proofs.Fallen.{MayFall, may_on, root_of_node}
use Rattle.hm_serial.proofs.FallStep.{kid_or_root, other_last, own_begun, own_root, within_now}
use Rattle.hm_serial.proofs.Local.{Within, within_others}
use Rattle.hm_model.proofs.Tops.{TopHolds, TopIs}
use Rattle.hm_model.proofs.Small.{cons_nil}
use Rattle.hm_serial.proofs.Standing.{quiet_tree, step_open}
use Rattle.hm_cover.proofs.Local.{local_free}
use Rattle.hm_cover.proofs.Spared.{Spares, spared_all}
use Rattle.hm_single.specs.Calls.{MovesIn}
use Rattle.hm_single.specs.Theorem.{PlacedLive, PlacedWhereOn}
use Rattle.hm_single.proofs.Calm.{AllCalm, AllOn, fills_regions, place_still, step_calm}
use Rattle.hm_single.proofs.Lines.{IsLiveRow, disable_edit, disable_keeps, fill_late, fills, first_tests, good_live, is_changing, is_creating, is_deleting, is_finish, is_on, merge_edit_act, merge_good, on_changed, on_state, rests, shut_now, shuts, split_edit_act, split_good}
use Rattle.hm_single.proofs.Own.{Own, RunsNext, cut_or, does, led_now, own, root_is, step}
use Rattle.hm_single.proofs.Placing.{placed_live}
use Rattle.hm_single.proofs.Tidies.{edits_or, kid_editless, lined_unmoved, tidy_all}
use Rattle.hm_single.proofs.Tidy.{Closes, Mild, Tidy, own_is}
use Rattle.hm_single.proofs.Vacated.{unassigned}
use Rattle.std.proofs.Math.Bool.{or-false}

-- a region's row is live, and its table's on
abbrev pub IsFine : Past → Region → Type 0
IsFine J region = IsLiveRow (cat J (key_is.Region region)) × (is_on (cat J (key_is.Table region.table)) ≡ true)

abbrev pub AllFine : Past → Type 0
AllFine J = (region : Region) → is_placed (place_of J region) ≡ true → IsFine J region

opens_live : (row : Option CatRow) → is_live_status (status_in row) ≡ true → IsLiveRow row
opens_live None h = absurd (false≢true h)
opens_live (Some row_is.Ns) h = absurd (false≢true h)
opens_live (Some (row_is.Table state version)) h = absurd (false≢true h)
opens_live (Some (row_is.Region range status_is.Live parents)) h = (range, parents, refl)
opens_live (Some (row_is.Region range status_is.Split parents)) h = absurd (false≢true h)
opens_live (Some (row_is.Region range status_is.Merged parents)) h = absurd (false≢true h)

opens_on : (o : Option TableState) → (is_in_state state_is.Enabled o || is_in_state state_is.Enabling o) ≡ true → on_state o ≡ true
opens_on None h = absurd (false≢true h)
opens_on (Some state_is.Enabled) h = refl
opens_on (Some state_is.Enabling) h = refl
opens_on (Some state_is.Disabling) h = refl
opens_on (Some state_is.Disabled) h = absurd (false≢true h)

among_or : (region : Region) (list : List Region) → IsIn region list ⊎ (IsIn region list → ⊥)
among_or region [] = inr (λ h. h)
among_or region (one ∷ more) = elim (cases_Bool (same_region region one)) [
  | inl same ↦ inl (inl (same_region-is region one same))
  | inr off ↦ elim (among_or region more) [
    | inl later ↦ inl (inr later)
    | inr none ↦ inr (λ h. elim h [ inl same ↦ true≢false (sym (same_region-refl region) ∙ ap (same_region region) same ∙ off) | inr later ↦ none later ])
  ]
]

-- what asks for a table alone covers its row
alone_over : (t : TableName) (ask : Ask) → exclusive (resource_is.Table t) ≡ ask → (ask.exclusive && is_over ask.resource (key_is.Table t)) ≡ true
alone_over t ask same = ap (λ (a : Ask). a.exclusive && is_over a.resource (key_is.Table t)) (sym same) ∙ same_table-refl t

-- who has regions added or dropped asks for their table alone
pub top_asks : (args : Args) (t : TableName) → IsIn (exclusive (resource_is.Table t)) (asks args) → (request : Request) × (first : ℕ) × (args ≡ args_are.Root request first) × (exact_rows (request_kind request) ≡ [])
top_asks (args_are.Root (request_is.CreateNamespace ns) first) t among = (_, _, refl, refl)
top_asks (args_are.Root (request_is.DropNamespace ns) first) t among = (_, _, refl, refl)
top_asks (args_are.Root (request_is.CreateTable table keys) first) t among = (_, _, refl, refl)
top_asks (args_are.Root (request_is.DeleteTable table) first) t among = (_, _, refl, refl)
top_asks (args_are.Root (request_is.EnableTable table) first) t among = (_, _, refl, refl)
top_asks (args_are.Root (request_is.DisableTable table) first) t among = (_, _, refl, refl)
top_asks (args_are.Root (request_is.ModifyTable table version) first) t among = (_, _, refl, refl)
top_asks (args_are.Root (request_is.SplitRegion region key) first) t among = (_, _, refl, refl)
top_asks (args_are.Root (request_is.MergeRegions regions) first) t among = (_, _, refl, refl)
top_asks (args_are.Root (request_is.Move region to) first) t (inl same) = absurd (false≢true (alone_over t _ same))
top_asks (args_are.Root (request_is.Move region to) first) t (inr (inl same)) = absurd (false≢true (alone_over t _ same))
top_asks (args_are.Root (request_is.Move region to) first) t (inr (inr (inl same))) = absurd (false≢true (alone_over t _ same))
top_asks (args_are.Root (request_is.Move region to) first) t (inr (inr (inr never))) = absurd never
top_asks (args_are.Transit region goal to) t (inl same) = absurd (false≢true (alone_over t _ same))
top_asks (args_are.Transit region goal to) t (inr (inl same)) = absurd (false≢true (alone_over t _ same))
top_asks (args_are.Transit region goal to) t (inr (inr (inl same))) = absurd (false≢true (alone_over t _ same))
top_asks (args_are.Transit region goal to) t (inr (inr (inr never))) = absurd never
top_asks (args_are.Crash server) t (inl same) = absurd (false≢true (alone_over t _ same))
top_asks (args_are.Crash server) t (inr never) = absurd never
top_asks args t among = absurd among

pub creating_fills : (request : Request) (first : ℕ) → is_creating (args_are.Root request first) ≡ true → fills request ≡ true
creating_fills (request_is.CreateTable table keys) first h = refl
creating_fills request first h = absurd (false≢true h)

pub deleting_rests : (request : Request) (first : ℕ) → is_deleting (args_are.Root request first) ≡ true → (fills request ≡ true) × (rests request ≡ true)
deleting_rests (request_is.DeleteTable table) first h = (refl, refl)
deleting_rests request first h = absurd (false≢true h)

module _ (pid : Pid) (pick : Option Server) (out : StepOut) (J : Past) (legal : IsLegal (entry_is.Step pid pick out ∷ J)) (live : AllFine J) (calm : AllCalm J) where
  abbrev J' : Past
  J' = entry_is.Step pid pick out ∷ J

  abbrev its : Rattle.hm_model.proofs.LegalSteps.StepFacts J pid.0 pick out
  its = step pid pick out J legal

  abbrev grown : Grown J
  grown = grown_all J legal.0

  abbrev all : All J
  all = falls_all J legal.0

  abbrev aside : Aside J its.node.root (root_of_node J grown pid.0 its.node its.node_is).0
  aside = step_aside pid pick out J legal all

  abbrev at_now : StepIn
  at_now = step_input J pid.0 its.node pick

  fine_if : (region : Region) → cat J' (key_is.Region region) ≡ cat J (key_is.Region region) → cat J' (key_is.Table region.table) ≡ cat J (key_is.Table region.table) → IsFine J region → IsFine J' region
  fine_if region rows tables fine = (subst IsLiveRow (sym rows) fine.0, ap is_on tables ∙ fine.1)

  fine_none : (region : Region) → out.edits ≡ [] → IsFine J region → IsFine J' region
  fine_none region none fine = fine_if region (ap (λ l. edited l (key_is.Region region) (cat J (key_is.Region region))) none) (ap (λ l. edited l (key_is.Table region.table) (cat J (key_is.Table region.table))) none) fine

  -- a region gets a place where it is live
  opens : (region : Region) → is_placed (place_of J region) ≡ false → is_placed (place_of J' region) ≡ true → IsFine J' region
  opens region unplaced placed = by (moved_by its.node.args) refl
    where
      may : may_open (cat J (key_is.Table region.table)) (cat J (key_is.Region region)) ≡ true
      may = placed_live pid pick out J legal region unplaced placed

      by : (o : Option Region) → moved_by its.node.args ≡ o → IsFine J' region
      by None none = absurd (true≢false (sym placed ∙ ap is_placed (place_still pid pick out J legal region none) ∙ unplaced))
      by (Some moved) m =
          let parts = and_parts (is_live_status (status_in (cat J (key_is.Region region)))) _ may in
          fine_none region ((does pid pick out J legal).editless moved m) (opens_live (cat J (key_is.Region region)) parts.0, opens_on (table_state_in (cat J (key_is.Table region.table))) parts.1)

  -- rows that the root of the tree doesn't ask for alone
  module _ (node : Node) (top : TopIs J its.node.root node) where
    same_row : (key : CatKey) → covers node.args key ≡ false → cat J' key ≡ cat J key
    same_row key off = within_others node.args out.edits (subst (λ (n : Node). Within n.args out.edits) (own_is pid pick out J legal node top) (within_now pid pick out J grown all.falls its (does pid pick out J legal) aside)) key off (cat J key)

    uncovered : (region : Region) → covers node.args (key_is.Region region) ≡ false → covers node.args (key_is.Table region.table) ≡ false → IsFine J region → IsFine J' region
    uncovered region rows tables fine = fine_if region (same_row (key_is.Region region) rows) (same_row (key_is.Table region.table) tables) fine

    -- a descendant that adds or drops regions
    kid_rows_fine : (kid : its.node.above ≢ []) (region : Region) → is_placed (place_of J region) ≡ true → (t : TableName) → rows_table its.node.args ≡ Some t → IsFine J' region
    kid_rows_fine kid region placed t rows = by its.node.args refl
      where
        asked : (request : Request) × (first : ℕ) × (node.args ≡ args_are.Root request first) × (exact_rows (request_kind request) ≡ [])
        asked = top_asks node.args t (all.falls.belongs pid.0 its.node its.node_is t rows node top.0)

        tidy : Tidy J its.node.root node asked.0
        tidy = tidy_all J legal.0 its.node.root node asked.0 asked.1 top asked.2 asked.3

        holds : TopHolds J its.node.root node
        holds = (top, (λ none. own_begun pid pick out J grown all.falls its (does pid pick out J legal) aside (other_last pid pick out J grown all.falls its (does pid pick out J legal) aside kid ∙ none)), step_open pid pick out J grown its (does pid pick out J legal))

        unless : (h : fills asked.0 ≡ true) → MayFall J its.node.root node ⊎ (rests asked.0 ≡ true) → IsFine J' region
        unless h falls = elim (cases_Bool (covers node.args (key_is.Table region.table))) [
          | inl on ↦ absurd (true≢false (sym placed ∙ calm its.node.root node asked.0 asked.1 holds asked.2 h falls region on))
          | inr off ↦ uncovered region (ap (λ a. covers a (key_is.Region region)) asked.2 ∙ fills_regions asked.0 asked.1 h region ∙ ap (λ a. covers a (key_is.Table region.table)) (sym asked.2) ∙ off) off (live region placed)
        ]

        by : (a : Args) → its.node.args ≡ a → IsFine J' region
        by (args_are.AddRegions table from bounds) e = unless (creating_fills asked.0 asked.1 (ap is_creating (sym asked.2) ∙ tidy.adds pid.0 its.node its.node_is refl table from bounds e))
            (inl (all.falls.safe pid.0 its.node its.node_is kid (ready_stops J pid.0 its.node (last_answer J pid.0) its.ready) (ap Rattle.hm_serial.proofs.Kinship.may_fail e) node top.0))
        by (args_are.DropRegions table ids) e = (let d = deleting_rests asked.0 asked.1 (ap is_deleting (sym asked.2) ∙ tidy.drops pid.0 its.node its.node_is refl table ids e) in unless d.0 (inr d.1))
        by args e = absurd (none-some t (sym (ap rows_table e) ∙ rows))

  -- a root's own edits
  module _ (e : its.node.above ≡ []) (request : Request) (first : ℕ) (args_is : its.node.args ≡ args_are.Root request first) (listed : exact_rows (request_kind request) ≡ []) (edit : is_edit its.row.act ≡ true) (acts : out ≡ act_answer its.row.act its.row.next (step_input J pid.0 its.node pick)) (region : Region) (placed : is_placed (place_of J region) ≡ true) where
    abbrev exact : exact_rows (kind_of its.node.args) ≡ []
    exact = ap (λ a. exact_rows (kind_of a)) args_is ∙ listed

    abbrev mine : Own pid pick out J legal e exact
    mine = own pid pick out J legal e exact

    stage : StageOf request first mine.base (mine.line ∷ mine.behind) mine.then
    stage = subst (λ a. Stage a mine.base (mine.line ∷ mine.behind) mine.then) args_is mine.stage

    me : its.node.root ≡ pid.0
    me = root_is pid pick out J legal e exact

    top_here : TopIs J its.node.root its.node
    top_here = (ap (node_of J) me ∙ its.node_is, e)

    begun : last_answer J pid.0 ≢ None
    begun none = true≢false (sym (ap is_edit (sym mine.act_is) ∙ edit) ∙ first_tests request mine.line.act (begin_alike (kind_of its.node.args) (mine.line ∷ mine.behind) (mine.fresh none).1 ∙ ap (λ a. first_act (lines_of (kind_of a))) args_is))

    running : root_ended J pid.0 ≡ false
    running = subst (λ r. root_ended J r ≡ false) me (step_open pid pick out J grown its (does pid pick out J legal))

    holds : TopHolds J pid.0 its.node
    holds = ((its.node_is, e), begun, running)

    abbrev runs_it : RunsNext J pid.0 its.node its.row.act
    runs_it = (its.row, ap (λ s. row_in s (row_of J pid.0 its.node)) its.sheet_is ∙ its.row_is, refl)

    line_edit : is_edit mine.line.act ≡ true
    line_edit = ap is_edit (sym mine.act_is) ∙ edit

    -- the regions that the root closes have no place
    closed_none : shuts request ≡ true → is_changing its.row.act ≡ true → is_finish its.row.act ≡ false → Closes J pid.0 request region → covers its.node.args (key_is.Region region) ≡ true → ⊥
    closed_none h changing unfinished c cov =
        let t = tidy_all J legal.0 pid.0 its.node request first (its.node_is, e) args_is listed in
        let shut = shut_now request first mine.base mine.line mine.behind mine.then h stage (ap is_changing (sym mine.act_is) ∙ changing) in
        let closed = t.closed h begun (mine.line ∷ mine.behind) mine.led shut region c in
        true≢false (sym placed ∙ unassigned J legal.0 pid.0 its.node its.node_is e running region cov (
          (closed.0, closed.1, closed.2, quiet_tree J grown pid.0 its.node its.ready closed.0 closed.1 closed.2.0 closed.2.1 (below closed.0 closed.1 closed.2)),
          λ p x m. t.unassigns h its.row.act runs_it unfinished p x region m,
        ))
      where
        below : (p : ℕ) (x : Node) → MovesIn J pid.0 region p x → x.above ≢ []
        below p x m nil =
            let same : p ≡ pid.0 = sym (grown.tops p x m.0 nil) ∙ m.1 in
            let one : x ≡ its.node = same_Some x its.node (sym m.0 ∙ ap (node_of J) same ∙ its.node_is) in
            none-some region (sym (ap moved_by args_is ∙ lined_unmoved request listed) ∙ ap (λ (n : Node). moved_by n.args) (sym one) ∙ m.2)

    -- a table's state is set to another than disabled
    sets : (state : TableState) → on_state (Some state) ≡ true → (table : TableName) → reads its.node.args (key_is.Table table) ≡ true → out.edits ≡ changed (row_at at_now.rows) (key_is.Table table) (in_state state) ∷ [] → IsFine J' region
    sets state h table reading is =
        let fine = live region placed in (
          subst IsLiveRow (sym (ap (λ l. edited l (key_is.Region region) (cat J (key_is.Region region))) is)) fine.0,
          ap (λ l. is_on (edited l (key_is.Table region.table) (cat J (key_is.Table region.table)))) is ∙ elim (cases_Bool (same_table region.table table)) [
            | inr off ↦ ap is_on (cond-false (same_table region.table table) _ (cat J (key_is.Table region.table)) off) ∙ fine.1
            | inl same ↦
                let one : region.table ≡ table = same_table-is region.table table same in
                ap is_on (cond-true (same_table region.table table) _ (cat J (key_is.Table region.table)) same)
                ∙ ap (λ o. is_on (option_map (in_state state) o)) (row_read J its.node.args (key_is.Table table) reading)
                ∙ on_changed state (cat J (key_is.Table table)) h (ap (λ x. is_on (cat J (key_is.Table x))) (sym one) ∙ fine.1)
          ],
        )

    act_out : (act : Act) → its.row.act ≡ act → out.edits ≡ (act_answer act its.row.next (step_input J pid.0 its.node pick)).edits
    act_out act is = ap (λ (o : StepOut). o.edits) acts ∙ ap (λ a. (act_answer a its.row.next (step_input J pid.0 its.node pick)).edits) is

    reads_table : (q : Request) (table : TableName) → request ≡ q → reads (args_are.Root q first) (key_is.Table table) ≡ true → reads its.node.args (key_is.Table table) ≡ true
    reads_table q table is h = ap (λ a. reads a (key_is.Table table)) (args_is ∙ ap (λ x. args_are.Root x first) is) ∙ h

    enabled_by : fills request ≡ true → rests request ≡ false → its.row.act ≡ act_is.SetEnabled → IsFine J' region
    enabled_by h r act = by request refl h r
      where
        by : (q : Request) → request ≡ q → fills q ≡ true → rests q ≡ false → IsFine J' region
        by (request_is.CreateTable table keys) is hq rq = sets state_is.Enabled refl table (reads_table (request_is.CreateTable table keys) table is (same_table-refl table))
            (act_out act_is.SetEnabled act ∙ ap (λ a. (set_state state_is.Enabled its.row.next a at_now.rows).edits) (args_is ∙ ap (λ x. args_are.Root x first) is))
        by (request_is.EnableTable table) is hq rq = sets state_is.Enabled refl table (reads_table (request_is.EnableTable table) table is (same_table-refl table))
            (act_out act_is.SetEnabled act ∙ ap (λ a. (set_state state_is.Enabled its.row.next a at_now.rows).edits) (args_is ∙ ap (λ x. args_are.Root x first) is))
        by (request_is.DeleteTable table) is hq rq = absurd (true≢false rq)
        by (request_is.ModifyTable table version) is hq rq = absurd (true≢false rq)
        by q is hq rq = absurd (false≢true hq)

    fills_fine : fills request ≡ true → IsFine J' region
    fills_fine h = elim (cases_Bool (covers its.node.args (key_is.Table region.table))) [
      | inr off ↦ uncovered its.node top_here region (ap (λ a. covers a (key_is.Region region)) args_is ∙ fills_regions request first h region ∙ ap (λ a. covers a (key_is.Table region.table)) (sym args_is) ∙ off) off (live region placed)
      | inl on ↦ elim (cases_Bool (rests request)) [
        | inl rest ↦ absurd (true≢false (sym placed ∙ calm pid.0 its.node request first holds args_is h (inr rest) region on))
        | inr r ↦ elim (cases_Bool its.row.after) [
          | inr early ↦ absurd (true≢false (sym placed ∙ calm pid.0 its.node request first holds args_is h (inl (inr (inr (ready_stops J pid.0 its.node (last_answer J pid.0) its.ready, its.row, runs_it.1, early)))) region on))
          | inl late ↦ enabled_by h r (mine.act_is ∙ fill_late request first mine.base mine.line mine.behind mine.then h r stage (sym mine.after_is ∙ late) line_edit)
        ]
      ]
    ]

    by_request : (q : Request) → request ≡ q → IsFine J' region
    by_request (request_is.CreateNamespace ns) is =
        let args = args_is ∙ ap (λ x. args_are.Root x first) is in
        uncovered its.node top_here region (ap (λ a. covers a (key_is.Region region)) args) (ap (λ a. covers a (key_is.Table region.table)) args) (live region placed)
    by_request (request_is.DropNamespace ns) is =
        let args = args_is ∙ ap (λ x. args_are.Root x first) is in
        uncovered its.node top_here region (ap (λ a. covers a (key_is.Region region)) args) (ap (λ a. covers a (key_is.Table region.table)) args) (live region placed)
    by_request (request_is.Move moved to) is = absurd (cons_nil _ _ (ap (λ q. exact_rows (request_kind q)) (sym is) ∙ listed))
    by_request (request_is.DisableTable table) is =
        let args = args_is ∙ ap (λ x. args_are.Root x first) is in
        let disabling = subst (λ q. StageOf q first mine.base (mine.line ∷ mine.behind) mine.then) is stage in
        let fine = live region placed in
        elim (disable_edit table mine.base mine.line mine.behind mine.then disabling line_edit) [
          | inl sets_it ↦ sets state_is.Disabling refl table (reads_table (request_is.DisableTable table) table is (same_table-refl table))
              (act_out act_is.SetDisabling (mine.act_is ∙ sets_it) ∙ ap (λ a. (set_state state_is.Disabling its.row.next a at_now.rows).edits) args)
          | inr ends ↦ elim (cases_Bool (same_table table region.table)) [
            | inr off ↦ uncovered its.node top_here region (ap (λ a. covers a (key_is.Region region)) args ∙ ap (λ b. b || false) off) (ap (λ a. covers a (key_is.Table region.table)) args ∙ ap (λ b. b || false) off) fine
            | inl same ↦
                let act : its.row.act ≡ act_is.SetDisabled = mine.act_is ∙ ends in
                let one : region.table ≡ table = sym (same_table-is table region.table same) in
                let reading : reads its.node.args (key_is.Region region) ≡ true = ap (λ a. reads a (key_is.Region region)) args ∙ same in
                let now = mine.now (key_is.Region region) (Rattle.std.proofs.lemmas.Bool.or_right (covers its.node.args (key_is.Region region)) (reads its.node.args (key_is.Region region)) reading)
                ∙ disable_keeps table mine.base (mine.line ∷ mine.behind) mine.then region disabling ∙ ap (λ (c : Rattle.hm_model.specs.Catalog.Catalog). c (key_is.Region region)) (mine.begun begun) in
                absurd (closed_none (ap shuts is) (ap is_changing act) (ap is_finish act) (inr (table, is, one, fine.0.0, (fine.0.1, sym now ∙ fine.0.2))) (ap (λ a. covers a (key_is.Region region)) args ∙ ap (λ b. b || false) same))
          ]
        ]
    by_request (request_is.SplitRegion parent key) is =
        let args = args_is ∙ ap (λ x. args_are.Root x first) is in
        let act : its.row.act ≡ act_is.UpdateSplitMeta = mine.act_is ∙ split_edit_act parent key first mine.base mine.line mine.behind mine.then (subst (λ q. StageOf q first mine.base (mine.line ∷ mine.behind) mine.then) is stage) line_edit in
        let fine = live region placed in
        let edits : out.edits ≡ split_edits (row_at at_now.rows) parent key first = act_out act_is.UpdateSplitMeta act ∙ ap (λ a. (update_split_meta its.row.next a at_now.rows).edits) args in
        elim (among_or region (parent ∷ [])) [
          | inl own_it ↦ absurd (closed_none (ap shuts is) (ap is_changing act) (ap is_finish act) (inl (subst (λ q. IsIn region (Rattle.hm_model.specs.Undoing.closed_by_request q)) (sym is) own_it))
              (ap (λ a. covers a (key_is.Region region)) args ∙ covers_from (args_are.Root (request_is.SplitRegion parent key) first) (resource_is.Region parent) (key_is.Region region) (inr (inr (inl refl))) (elim own_it [ inl same ↦ ap (same_region parent) same ∙ same_region-refl parent | inr never ↦ absurd never ])))
          | inr out_of ↦ (
            subst (λ l. IsLiveRow (edited l (key_is.Region region) (cat J (key_is.Region region)))) (sym edits) (good_live region (split_edits (row_at at_now.rows) parent key first) (split_good (row_at at_now.rows) parent key first region (λ same. out_of (inl same))) (cat J (key_is.Region region)) fine.0),
            ap is_on (same_row its.node top_here (key_is.Table region.table) (ap (λ a. covers a (key_is.Table region.table)) args ∙ local_free (args_are.Root (request_is.SplitRegion parent key) first) refl region.table)) ∙ fine.1,
          )
        ]
    by_request (request_is.MergeRegions regions) is =
        let args = args_is ∙ ap (λ x. args_are.Root x first) is in
        let act : its.row.act ≡ act_is.UpdateMergeMeta = mine.act_is ∙ merge_edit_act regions first mine.base mine.line mine.behind mine.then (subst (λ q. StageOf q first mine.base (mine.line ∷ mine.behind) mine.then) is stage) line_edit in
        let fine = live region placed in
        let edits : out.edits ≡ merge_edits (row_at at_now.rows) regions first = act_out act_is.UpdateMergeMeta act ∙ ap (λ a. (update_merge_meta its.row.next a at_now.rows).edits) args in
        elim (among_or region regions) [
          | inl own_it ↦ absurd (closed_none (ap shuts is) (ap is_changing act) (ap is_finish act) (inl (subst (λ q. IsIn region (Rattle.hm_model.specs.Undoing.closed_by_request q)) (sym is) own_it))
              (ap (λ a. covers a (key_is.Region region)) args ∙ covers_from (args_are.Root (request_is.MergeRegions regions) first) (resource_is.Region region) (key_is.Region region) (merge_own regions first region own_it) (same_region-refl region)))
          | inr out_of ↦ (
            subst (λ l. IsLiveRow (edited l (key_is.Region region) (cat J (key_is.Region region)))) (sym edits) (good_live region (merge_edits (row_at at_now.rows) regions first) (merge_good (row_at at_now.rows) regions first region out_of) (cat J (key_is.Region region)) fine.0),
            ap is_on (same_row its.node top_here (key_is.Table region.table) (ap (λ a. covers a (key_is.Table region.table)) args ∙ local_free (args_are.Root (request_is.MergeRegions regions) first) refl region.table)) ∙ fine.1,
          )
        ]
    by_request request is = fills_fine (ap fills is)

  -- a root's step
  own_fine : its.node.above ≡ [] → (region : Region) → is_placed (place_of J region) ≡ true → IsFine J' region
  own_fine e region placed = elim (edits_or pid pick out J legal) [
    | inr none ↦ fine_none region none (live region placed)
    | inl exact ↦ by its.node.args refl exact
  ]
    where
      listed_fine : (request : Request) (first : ℕ) → its.node.args ≡ args_are.Root request first → exact_rows (request_kind request) ≡ [] → IsFine J' region
      listed_fine request first is listed = elim (cut_or pid pick out J legal) [
        | inl cut ↦ fine_none region (ap (λ (o : StepOut). o.edits) cut) (live region placed)
        | inr acts ↦ elim (cases_Bool (is_edit its.row.act)) [
          | inl edit ↦ by_request e request first is listed edit acts region placed request refl
          | inr off ↦ fine_none region (ap (λ (o : StepOut). o.edits) acts ∙ none_act its.row.act (led_now pid pick out J legal (ap (λ a. exact_rows (kind_of a)) is ∙ listed)).plain off its.row.next (step_input J pid.0 its.node pick)) (live region placed)
        ]
      ]

      by : (a : Args) → its.node.args ≡ a → exact_rows (kind_of its.node.args) ≡ [] → IsFine J' region
      by (args_are.Root request first) is lined = listed_fine request first is (ap (λ a. exact_rows (kind_of a)) (sym is) ∙ lined)
      by (args_are.AddRegions table from bounds) is lined = absurd (none-some table (sym (all.falls.tops pid.0 its.node (its.node_is, e)) ∙ ap rows_table is))
      by (args_are.DropRegions table ids) is lined = absurd (none-some table (sym (all.falls.tops pid.0 its.node (its.node_is, e)) ∙ ap rows_table is))
      by args is lined = absurd (cons_nil _ _ (ap (λ a. exact_rows (kind_of a)) (sym is) ∙ lined))

  step_fine : AllFine J'
  step_fine region placed = elim (cases_Bool (is_placed (place_of J region))) [
    | inr was ↦ opens region was placed
    | inl was ↦ elim (kid_or_root pid pick out J grown all.falls its (does pid pick out J legal) aside) [
      | inl e ↦ own_fine e region was
      | inr kid ↦ by kid was (rows_table its.node.args) refl
    ]
  ]
    where
      by : its.node.above ≢ [] → is_placed (place_of J region) ≡ true → (o : Option TableName) → rows_table its.node.args ≡ o → IsFine J' region
      by kid was None none = fine_none region (kid_editless pid pick out J legal kid none) (live region was)
      by kid was (Some t) some = (let mine = own_root pid pick out J grown all.falls its (does pid pick out J legal) aside in kid_rows_fine mine.0 mine.1 kid region was t some)

-- an undo
module _ (pid : Pid) (row : ℕ) (out : StepOut) (J : Past) (legal : IsLegal (entry_is.Undo pid row out ∷ J)) (live : AllFine J) (calm : AllCalm J) where
  abbrev K : Past
  K = entry_is.Undo pid row out ∷ J

  abbrev its_grown : Grown J
  its_grown = grown_all J legal.0

  abbrev its_all : All J
  its_all = falls_all J legal.0

  abbrev root : Node
  root = Rattle.hm_serial.proofs.FallAll.top pid row out J legal its_grown its_all.falls

  holds_it : TopHolds J (root_of J pid.0) root
  holds_it = undo_holds pid row out J legal its_grown its_all.falls

  may : MayFall J (root_of J pid.0) root
  may = inr (inl (sick pid row out J legal its_grown its_all.falls))

  undone : out.edits ≡ undo_edits (u pid row out J legal its_grown its_all.falls).latest.undo (u pid row out J legal its_grown its_all.falls).latest.edits
  undone = edits_are pid row out J legal its_grown its_all.falls

  module _ (region : Region) (placed : is_placed (place_of J region) ≡ true) where
    off_fine : covers root.args (key_is.Table region.table) ≡ false → IsFine K region
    off_fine off =
        let its_undo = u pid row out J legal its_grown its_all.falls in
        let spares : Spares root.args (its_undo.latest ∷ its_undo.below) = subst (Spares root.args) its_undo.stack_is (spared_all J legal.0 (root_of J pid.0) root holds_it may) in
        let fine = live region placed in
        let rows : cat K (key_is.Region region) ≡ cat J (key_is.Region region) =
        ap (λ l. edited l (key_is.Region region) (cat J (key_is.Region region))) undone ∙ spares.0 region.table region.id off (cat J (key_is.Region region)) in (
          subst IsLiveRow (sym rows) fine.0,
          ap is_on (within_others root.args out.edits (undo_within pid row out J legal its_grown its_all.falls) (key_is.Table region.table) off (cat J (key_is.Table region.table))) ∙ fine.1,
        )

    calm_fine : (request : Request) (first : ℕ) → root.args ≡ args_are.Root request first → fills request ≡ true → covers root.args (key_is.Table region.table) ≡ true → IsFine K region
    calm_fine request first is h on = absurd (true≢false (sym placed ∙ calm (root_of J pid.0) root request first holds_it is h (inl may) region on))

    mild_fine : (table : TableName) (first : ℕ) → root.args ≡ args_are.Root (request_is.DisableTable table) first → covers root.args (key_is.Table region.table) ≡ true → IsFine K region
    mild_fine table first is on =
        let its_undo = u pid row out J legal its_grown its_all.falls in
        let mild : Mild table (its_undo.latest ∷ its_undo.below) = subst (Mild table) its_undo.stack_is ((tidy_all J legal.0 (root_of J pid.0) root (request_is.DisableTable table) first holds_it.0 is refl).mild table refl) in
        let one : table ≡ region.table = same_table-is table region.table (sym (or-false (same_table table region.table)) ∙ ap (λ a. covers a (key_is.Table region.table)) (sym is) ∙ on) in
        let fine = live region placed in
        let rows : cat K (key_is.Region region) ≡ cat J (key_is.Region region) = ap (λ l. edited l (key_is.Region region) (cat J (key_is.Region region))) undone ∙ mild.0.0 region (cat J (key_is.Region region)) in (
          subst IsLiveRow (sym rows) fine.0,
          ap (λ l. is_on (edited l (key_is.Table region.table) (cat J (key_is.Table region.table)))) undone
              ∙ subst (λ t. is_on (edited (undo_edits its_undo.latest.undo its_undo.latest.edits) (key_is.Table t) (cat J (key_is.Table t))) ≡ true) one (mild.0.1 (cat J (key_is.Table table)) (ap (λ t. is_on (cat J (key_is.Table t))) one ∙ fine.1)),
        )

    local_fine : (a : Args) → root.args ≡ a → Rattle.hm_cover.proofs.Local.asks_regions a ≡ true → IsFine K region
    local_fine a is h = off_fine (ap (λ x. covers x (key_is.Table region.table)) is ∙ local_free a h region.table)

    undo_at : covers root.args (key_is.Table region.table) ≡ true → (a : Args) → root.args ≡ a → IsFine K region
    undo_at on (args_are.Root (request_is.CreateTable table keys) first) is = calm_fine (request_is.CreateTable table keys) first is refl on
    undo_at on (args_are.Root (request_is.DeleteTable table) first) is = calm_fine (request_is.DeleteTable table) first is refl on
    undo_at on (args_are.Root (request_is.EnableTable table) first) is = calm_fine (request_is.EnableTable table) first is refl on
    undo_at on (args_are.Root (request_is.ModifyTable table version) first) is = calm_fine (request_is.ModifyTable table version) first is refl on
    undo_at on (args_are.Root (request_is.DisableTable table) first) is = mild_fine table first is on
    undo_at on (args_are.Root (request_is.CreateNamespace ns) first) is = off_fine (ap (λ x. covers x (key_is.Table region.table)) is)
    undo_at on (args_are.Root (request_is.DropNamespace ns) first) is = off_fine (ap (λ x. covers x (key_is.Table region.table)) is)
    undo_at on (args_are.Root (request_is.SplitRegion parent key) first) is = local_fine _ is refl
    undo_at on (args_are.Root (request_is.MergeRegions regions) first) is = local_fine _ is refl
    undo_at on (args_are.Root (request_is.Move moved to) first) is = local_fine _ is refl
    undo_at on args is = local_fine _ is refl

  undo_fine : AllFine K
  undo_fine region placed = elim (cases_Bool (covers root.args (key_is.Table region.table))) [
    | inr off ↦ off_fine region placed off
    | inl on ↦ undo_at region placed on root.args refl
  ]

  undo_calm : AllCalm K
  undo_calm r node request first holds own_args h falls region c =
      let held = undo_back pid row out J legal its_grown its_all.falls r node holds in
      calm r node request first held own_args h (elim falls [ inl f ↦ inl (may_on K J r node refl refl (sym (sheets_stay (entry_is.Undo pid row out) J legal r node held.0.0)) f) | inr rest ↦ inr rest ]) region c

-- in every legal journal
abbrev pub BothFine : Past → Type 0
BothFine J = AllFine J × AllCalm J

on_all : (J : Past) → AllFine J → AllOn J
on_all J live region placed = (live region placed).1

part_fine : (part : Part) (J : Past) → IsLegal J → PartFits part J → AllFine J → AllFine (entry_is.Base part ∷ J)
part_fine (part_is.Head entries last parts sheets) J legal fits was region placed = absurd (false≢true (ap (λ j. is_placed (place_of j region)) (sym fits.0) ∙ placed))
part_fine (part_is.Table own ids row) J legal fits was region placed = by (same_table region.table own) refl (was region placed)
  where
    by : (b : Bool) → same_table region.table own ≡ b → IsFine J region → IsFine (entry_is.Base (part_is.Table own ids row) ∷ J) region
    by false e fine = rw e fine
    by true e fine = absurd (gone (cat J (key_is.Table region.table)) (ap (λ t. cat J (key_is.Table t)) (same_table-is region.table own e) ∙ (table_new own ids row J legal fits).0) fine.1)
      where
        gone : (o : Option CatRow) → o ≡ None → is_on o ≡ true → ⊥
        gone None n on = false≢true on
        gone (Some r) n on = none-some r (sym n)
part_fine (part_is.Region own range status parents given) J legal fits was region placed = by (same_region region own) refl placed
  where
    opens : MayStand given status fits.4.0 → is_placed given ≡ true → (status ≡ status_is.Live) × (fits.4.0 ≡ state_is.Enabled)
    opens (inl off) on = absurd (true≢false (sym on ∙ off.0))
    opens (inr up) on = (up.1, up.2)

    by : (b : Bool) → same_region region own ≡ b → is_placed (if same_region region own then given else place_of J region) ≡ true → IsFine (entry_is.Base (part_is.Region own range status parents given) ∷ J) region
    by false e on = rw e (was region (sym (ap (λ b. is_placed (if b then given else place_of J region)) e) ∙ on))
    by true e on =
        let is = opens fits.4.3 (sym (ap (λ b. is_placed (if b then given else place_of J region)) e) ∙ on) in
        let table : cat J (key_is.Table region.table) ≡ Some (row_is.Table fits.4.0 fits.4.1) = ap (λ (r : Region). cat J (key_is.Table r.table)) (same_region-is region own e) ∙ fits.4.2 in
        rw e ((range, parents, ap (λ s. Some (row_is.Region range s parents)) is.0), ap is_on table ∙ ap (λ s. is_on (Some (row_is.Table s fits.4.1))) is.1)
part_fine part J legal fits was region placed = was region placed

parts_fine : (J : Past) → IsLegal J → ends_parted J ≡ true → AllFine J
parts_fine [] legal is = λ region placed. absurd (false≢true placed)
parts_fine (entry_is.Base part ∷ J) legal is = part_fine part J legal.0 legal.1.0 (parts_fine J legal.0 (by_parts (λ j. ends_parted j ≡ true) refl (λ own older. refl) part J legal.1.0))
parts_fine (entry ∷ J) legal is = absurd (false≢true is)

pub fine_all : (J : Past) → IsLegal J → BothFine J
fine_all [] legal = ((λ region placed. absurd (false≢true placed)), (λ r node request first holds. absurd (none-some node holds.0.0)))
fine_all (entry_is.Start sheets ∷ J) legal = (let b = fine_all J legal.0 in (b.0, (λ r node request first holds. absurd (none-some node (sym (start_none J legal.1.0.0 r) ∙ holds.0.0)))))
fine_all (entry_is.Submit nonce asked ∷ J) legal =
    let b = fine_all J legal.0 in
    let g = grown_all J legal.0 in (
      b.0,
      (λ r node request first holds own_args h falls region c.
          let held = held_before J (entry_is.Submit nonce asked ∷ J) (submit_rooted nonce asked J g) g r node refl refl refl holds in
          b.1 r node request first held own_args h (elim falls [ inl f ↦ inl (may_on (entry_is.Submit nonce asked ∷ J) J r node refl refl (sym (sheets_stay (entry_is.Submit nonce asked) J legal r node held.0.0)) f) | inr rest ↦ inr rest ]) region c),
    )
fine_all (entry_is.Step pid pick out ∷ J) legal = (let b = fine_all J legal.0 in (step_fine pid pick out J legal b.0 b.1, step_calm pid pick out J legal (on_all J b.0) b.1))
fine_all (entry_is.Undo pid row out ∷ J) legal = (let b = fine_all J legal.0 in (undo_fine pid row out J legal b.0 b.1, undo_calm pid row out J legal b.0 b.1))
fine_all (entry_is.Down server ∷ J) legal =
    let b = fine_all J legal.0 in
    let g = grown_all J legal.0 in (
      b.0,
      (λ r node request first holds own_args h falls region c.
          let held = held_before J (entry_is.Down server ∷ J) (down_rooted server J g) g r node refl refl refl holds in
          b.1 r node request first held own_args h (elim falls [ inl f ↦ inl (may_on (entry_is.Down server ∷ J) J r node refl refl (sym (sheets_stay (entry_is.Down server) J legal r node held.0.0)) f) | inr rest ↦ inr rest ]) region c),
    )
fine_all (entry_is.Base part ∷ J) legal = (parts_fine (entry_is.Base part ∷ J) legal refl, (λ r node request first holds. absurd (none-some node holds.0.0)))
fine_all (entry ∷ J) legal = (let b = fine_all J legal.0 in (b.0, (λ r node request first holds own_args h falls region c. b.1 r node request first holds own_args h falls region c)))

-- each region with a place is live, and its table there and not disabled
pub all_live : PlacedLive
all_live J legal region placed = (let l = ((fine_all J legal).0 region placed).0 in (l.0, (l.1, l.2)))

on_row : (row : Option CatRow) → is_on row ≡ true → (state : TableState) × (version : ℕ) × (row ≡ Some (row_is.Table state version)) × (state ≢ state_is.Disabled)
on_row None h = absurd (false≢true h)
on_row (Some row_is.Ns) h = absurd (false≢true h)
on_row (Some (row_is.Region range status parents)) h = absurd (false≢true h)
on_row (Some (row_is.Table state version)) h = (state, version, refl, λ e. true≢false (sym h ∙ ap (λ s. on_state (Some s)) e))

pub all_on : PlacedWhereOn
all_on J legal region placed = on_row (cat J (key_is.Table region.table)) ((fine_all J legal).0 region placed).1
