-- What the transits are in the trees of roots that ask for tables or regions alone: a root that changes regions closes them
-- all before, by Unassigns alone, and one that finds its table without open regions opens none while its tree may still fall.
use Rattle.std.proofs.Common.{◌≡◌, ◌≢◌, ℕ, ◌+◌, ◌-◌, List, [], ◌∷◌, Bool, true, false, Option, Some, None, option_map, is_some, refl, ap, sym, ◌∙◌, subst, inl, inr, ◌⊎◌, slice_get, arith}
use Rattle.std.proofs.lemmas.Bool.{cases_eq, cond-false, false≢true, or_right, true≢false}
use Rattle.std.proofs.lemmas.Option.{none-some, same_Some}
use Rattle.hm_names.specs.Region.{Region}
use Rattle.hm_names.specs.Server.{Server}
use Rattle.hm_names.specs.declared.pid.Pid.{Pid}
use Rattle.hm_names.specs.declared.range.KeyRange.{KeyRange}
use Rattle.hm_names.specs.declared.table.TableName.{TableName}
use Rattle.hm_data.specs.declared.act.Act.{Act}
use Rattle.hm_data.specs.declared.act.Act.TheVariants as act_is
use Rattle.hm_data.specs.declared.act.Back.{Back}
use Rattle.hm_data.specs.declared.act.Back.TheVariants as back_is
use Rattle.hm_data.specs.declared.args.Args.{Args}
use Rattle.hm_data.specs.declared.args.Args.TheVariants as args_are
use Rattle.hm_data.specs.declared.catalog.CatKey.TheVariants as key_is
use Rattle.hm_data.specs.declared.catalog.CatRow.{CatRow}
use Rattle.hm_data.specs.declared.catalog.CatRow.TheVariants as row_is
use Rattle.hm_data.specs.declared.catalog.Edit.{Edit}
use Rattle.hm_data.specs.declared.catalog.Status.TheVariants as status_is
use Rattle.hm_data.specs.declared.catalog.TableState.TheVariants as state_is
use Rattle.hm_data.specs.declared.entry.Entry.TheVariants as entry_is
use Rattle.hm_data.specs.declared.place.Goal.{Goal}
use Rattle.hm_data.specs.declared.place.Goal.TheVariants as goal_is
use Rattle.hm_data.specs.declared.request.Request.{Request}
use Rattle.hm_data.specs.declared.request.Request.TheVariants as request_is
use Rattle.hm_data.specs.declared.step.StepOut.{StepOut}
use Rattle.hm_model.specs.Acts.{act_answer}
use Rattle.hm_model.specs.Answers.{failing, last_answer, row_after, row_of}
use Rattle.hm_model.specs.Catalog.{Catalog, cat, edited, keys_of, was}
use Rattle.hm_model.specs.Inputs.{step_input}
use Rattle.hm_model.specs.Journal.{Past}
use Rattle.hm_model.specs.Kinds.{first_row_of, kind_of, request_kind}
use Rattle.hm_model.specs.Lists.{Line, exact_rows, orders_of}
use Rattle.hm_model.specs.Locks.{IsIn}
use Rattle.hm_model.specs.NamespaceActs.{set_state}
use Rattle.hm_model.specs.Ranges.{IsLiveWith}
use Rattle.hm_model.specs.Reads.{covers, reads}
use Rattle.hm_model.specs.Rules.{IsLegal}
use Rattle.hm_model.specs.Sheets.{row_in, sheet_for, sheets_by}
use Rattle.hm_model.specs.Tree.{Node, args_in, child_of, made, node_of}
use Rattle.hm_model.specs.Undo.{Undoable, pushed, row_if_there, stack}
use Rattle.hm_model.specs.Undoing.{closed_by_request, undo_edits}
use Rattle.hm_model.specs.Whereabouts.{moved_by}
use Rattle.hm_model.proofs.ExactRows.{is_listed}
use Rattle.hm_model.proofs.KeyTests.{same_table-refl}
use Rattle.hm_model.proofs.Rows.{has_key, row_read}
use Rattle.hm_model.proofs.Trees.{Grown, grown_all, le_or_lt, new_child, node_new, node_same, still_there}
use Rattle.hm_kinds.proofs.DisableTable.{Disabling}
use Rattle.hm_kinds.proofs.Roots.{Stage, StageOf}
use Rattle.hm_model.proofs.ValidSheets.{Leads, acts_of, same_acts}
use Rattle.hm_serial.proofs.Apart.{Aside}
use Rattle.hm_serial.proofs.FallAll.{All, falls_all, step_aside}
use Rattle.hm_serial.proofs.Fallen.{MayFall, root_of_node}
use Rattle.hm_serial.proofs.FallStep.{own_root}
use Rattle.hm_model.proofs.Tops.{TopIs}
use Rattle.hm_serial.proofs.Stands.{LedBy}
use Rattle.hm_cover.proofs.Spared.{could_fall, late_stands, stack_is}
use Rattle.hm_single.specs.Calls.{MovesIn}
use Rattle.hm_single.proofs.Lines.{OnlyShuts, Sent, adds_kind, closer, closer_sends, disable_keeps, drops_kind, enabled_on, fill_makes, fills, first_open, is_creating, is_deleting, is_finish, is_on, is_shut, rests, shut_before, shut_next, shuts}
use Rattle.hm_single.proofs.Makes.{GoalIs, makes}
use Rattle.hm_single.proofs.Own.{Follows, Own, RunsNext, cut_or, does, follows, goals, led_now, own, root_is, step}

-- the regions that a request closes: those of a split or a merge, and the live ones of a table that is disabled
abbrev pub Closes : Past → ℕ → Request → Region → Type 0
Closes J r request region =
    IsIn region (closed_by_request request)
    ⊎ ((table : TableName) × (request ≡ request_is.DisableTable table) × (region.table ≡ table) × (range : KeyRange) × IsLiveWith (was J r) region range)

-- undoing a step leaves the rows of regions, and a table that isn't disabled so
abbrev pub MildOne : TableName → List Edit → Type 0
MildOne table edits =
    ((region : Region) (row : Option CatRow) → edited edits (key_is.Region region) row ≡ row)
    × ((row : Option CatRow) → is_on row ≡ true → is_on (edited edits (key_is.Table table) row) ≡ true)

abbrev pub Mild : TableName → List Undoable → Type 0
Mild table [] = Unit {0}
Mild table (latest ∷ below) = MildOne table (undo_edits latest.undo latest.edits) × Mild table below

-- the tree of a root
pub record Tidy (J : Past) (r : ℕ) (node : Node) (request : Request) : Type 0 where
  pub unassigns : shuts request ≡ true → (act : Act) → RunsNext J r node act → is_finish act ≡ false → (q : ℕ) (x : Node) (region : Region) → MovesIn J r region q x → (to : Option Server) × (x.args ≡ args_are.Transit region goal_is.Unassign to)
  pub closed : shuts request ≡ true → last_answer J r ≢ None → (lines : List Line) → LedBy J r node lines → is_shut (acts_of lines) ≡ true → (region : Region) → Closes J r request region → (q : ℕ) × (x : Node) × MovesIn J r region q x
  pub still : fills request ≡ true → MayFall J r node ⊎ (rests request ≡ true) → (q : ℕ) (x : Node) (region : Region) → MovesIn J r region q x → ⊥
  pub adds : (q : ℕ) (x : Node) → node_of J q ≡ Some x → x.root ≡ r → (table : TableName) (first : ℕ) (bounds : List (List ℕ)) → x.args ≡ args_are.AddRegions table first bounds → is_creating node.args ≡ true
  pub drops : (q : ℕ) (x : Node) → node_of J q ≡ Some x → x.root ≡ r → (table : TableName) (ids : List ℕ) → x.args ≡ args_are.DropRegions table ids → is_deleting node.args ≡ true
  pub mild : (table : TableName) → request ≡ request_is.DisableTable table → Mild table (stack J r)

-- each root that lists its rows has such a tree
abbrev pub AllTidy : Past → Type 0
AllTidy J = (r : ℕ) (node : Node) (request : Request) (first : ℕ) → TopIs J r node → node.args ≡ args_are.Root request first → exact_rows (request_kind request) ≡ [] → Tidy J r node request

-- who is no transit, and neither adds nor drops regions
abbrev pub is_quiet : Args → Bool
is_quiet (args_are.AssignCall region server) = true
is_quiet (args_are.CloseCall region server) = true
is_quiet (args_are.FenceCall server) = true
is_quiet (args_are.LayoutCall root) = true
is_quiet (args_are.SweepLayout root) = true
is_quiet args = false

quiet_unmoved : (args : Args) (region : Region) → is_quiet args ≡ true → moved_by args ≡ Some region → ⊥
quiet_unmoved (args_are.AssignCall moved server) region h m = none-some region m
quiet_unmoved (args_are.CloseCall moved server) region h m = none-some region m
quiet_unmoved (args_are.FenceCall server) region h m = none-some region m
quiet_unmoved (args_are.LayoutCall root) region h m = none-some region m
quiet_unmoved (args_are.SweepLayout root) region h m = none-some region m
quiet_unmoved args region h m = false≢true h

pub moved_goal : (act : Act) (args : Args) (region : Region) → GoalIs act args → moved_by args ≡ Some region → (goal : Goal) × (to : Option Server) × (args ≡ args_are.Transit region goal to) × (makes act ≡ Some goal)
moved_goal act (args_are.Transit moved goal to) region g m = (goal, to, ap (λ r. args_are.Transit r goal to) (same_Some moved region m), g.0)
moved_goal act (args_are.Root request first) region g m = absurd g
moved_goal act (args_are.Crash server) region g m = absurd g
moved_goal act args region g m = absurd (none-some region m)

-- a tree of which the same is told, but for new calls
module _ (J J' : Past) (r : ℕ) (node : Node) (request : Request) (last_is : last_answer J' r ≡ last_answer J r) (sheets : sheets_by J' node.root ≡ sheets_by J node.root) (was_is : was J' r ≡ was J r) (may : MayFall J' r node → MayFall J r node)
    (members : (q : ℕ) (x : Node) → node_of J' q ≡ Some x → x.root ≡ r → (node_of J q ≡ Some x) ⊎ (is_quiet x.args ≡ true)) (stay : (q : ℕ) (x : Node) → node_of J q ≡ Some x → node_of J' q ≡ Some x)
    (milds : (table : TableName) → request ≡ request_is.DisableTable table → Mild table (stack J r) → Mild table (stack J' r)) (t : Tidy J r node request) where
  runs_back : (act : Act) → RunsNext J' r node act → RunsNext J r node act
  runs_back act runs = (
    runs.0,
    ap (λ l. row_in (sheet_for l (kind_of node.args)) (row_after (first_row_of node.args) (last_answer J r))) (sym sheets) ∙ ap (λ o. row_in (sheet_for (sheets_by J' node.root) (kind_of node.args)) (row_after (first_row_of node.args) o)) (sym last_is) ∙ runs.1,
    runs.2,
  )

  led_back : (lines : List Line) → LedBy J' r node lines → LedBy J r node lines
  led_back lines led sheet found = subst (λ o. Leads sheet.rows (row_after (first_row_of node.args) o) lines) last_is (led sheet (ap (λ l. sheet_for l (kind_of node.args)) sheets ∙ found))

  closes_back : (region : Region) → Closes J' r request region → Closes J r request region
  closes_back region (inl among) = inl among
  closes_back region (inr live) = inr (live.0, live.1, live.2, live.3, subst (λ (c : Catalog). IsLiveWith c region live.3) was_is live.4)

  old_move : (q : ℕ) (x : Node) (region : Region) → MovesIn J' r region q x → MovesIn J r region q x
  old_move q x region m = elim (members q x m.0 m.1) [ inl old ↦ (old, m.1, m.2) | inr quiet ↦ absurd (quiet_unmoved x.args region quiet m.2) ]

  pub tidy_like : Tidy J' r node request
  tidy_like = record {
    unassigns = λ h act runs ne q x region m. t.unassigns h act (runs_back act runs) ne q x region (old_move q x region m);
    closed = λ h begun lines led is region c.
        let m = t.closed h (λ none. begun (last_is ∙ none)) lines (led_back lines led) is region (closes_back region c) in
        (m.0, m.1, (stay m.0 m.1 m.2.0, m.2.1, m.2.2));
    still = λ h falls q x region m. t.still h (elim falls [ inl f ↦ inl (may f) | inr rest ↦ inr rest ]) q x region (old_move q x region m);
    adds = λ q x is of table first bounds e. elim (members q x is of) [ inl old ↦ t.adds q x old of table first bounds e | inr quiet ↦ absurd (true≢false (sym quiet ∙ ap is_quiet e)) ];
    drops = λ q x is of table ids e. elim (members q x is of) [ inl old ↦ t.drops q x old of table ids e | inr quiet ↦ absurd (true≢false (sym quiet ∙ ap is_quiet e)) ];
    mild = λ table e. milds table e (t.mild table e);
  }

pub push_mild : (table : TableName) (undo : Back) (failed : Bool) (p row : ℕ) (edits : List Edit) (below : List Undoable) → (undo ≡ back_is.Edits → MildOne table (undo_edits back_is.Edits edits)) → Mild table below → Mild table (pushed undo failed p row edits below)
push_mild table back_is.Nothing failed p row edits below one all = all
push_mild table back_is.Edits true p row edits below one all = all
push_mild table back_is.Edits false p row edits below one all = (one refl, all)
push_mild table back_is.Sweep true p row edits below one all = all
push_mild table back_is.Sweep false p row edits below one all = (((λ region o. refl), (λ o on. on)), all)
push_mild table back_is.Reopen true p row edits below one all = all
push_mild table back_is.Reopen false p row edits below one all = (((λ region o. refl), (λ o on. on)), all)

abbrev is_edits : Back → Bool
is_edits back_is.Edits = true
is_edits back = false

-- a step
module _ (pid : Pid) (pick : Option Server) (out : StepOut) (J : Past) (legal : IsLegal (entry_is.Step pid pick out ∷ J)) where
  abbrev J' : Past
  J' = entry_is.Step pid pick out ∷ J

  abbrev its : Rattle.hm_model.proofs.LegalSteps.StepFacts J pid.0 pick out
  its = step pid pick out J legal

  abbrev grown : Grown J
  grown = grown_all J legal.0

  abbrev all : All J
  all = falls_all J legal.0

  abbrev aside : Aside J its.node.root (root_of_node J grown pid.0 its.node its.node_is).0
  aside = step_aside pid pick out J legal all

  pub members : (q : ℕ) (x : Node) → node_of J' q ≡ Some x → (node_of J q ≡ Some x) ⊎ ((args : Args) × (slice_get (args_in out.children) (q - made J - 1) ≡ Some args) × (x ≡ child_of pid.0 its.node args))
  members q x is = elim (le_or_lt q (made J)) [
    | inl le ↦ inl (sym (node_same pid pick out J q le) ∙ is)
    | inr lt ↦ inr (new_child pid pick out J its.node its.node_is q lt x is)
  ]

  pub stays : (q : ℕ) (x : Node) → node_of J q ≡ Some x → node_of J' q ≡ Some x
  stays q x is = still_there pid pick out J grown its (does pid pick out J legal) q x is

  -- the root of the tree
  module _ (node : Node) (top : TopIs J its.node.root node) where
    pub own_is : (own_root pid pick out J grown all.falls its (does pid pick out J legal) aside).0 ≡ node
    own_is = let mine = own_root pid pick out J grown all.falls its (does pid pick out J legal) aside in same_Some mine.0 node (sym mine.1.0 ∙ top.0)

    pub may_back : MayFall J' its.node.root node → MayFall J its.node.root node
    may_back may = subst (λ n. MayFall J its.node.root n) own_is (could_fall pid pick out J grown all.falls its (does pid pick out J legal) aside (subst (λ n. MayFall J' its.node.root n) (sym own_is) may))

  pub stack_now : stack J' its.node.root ≡ pushed its.row.undo (is_some (failing out.answer)) pid.0 (row_if_there J pid.0 (node_of J pid.0)) out.edits (stack J its.node.root)
  stack_now = stack_is pid pick out J grown all.falls its (does pid pick out J legal) aside

  -- a root's own step
  module _ (top : its.node.above ≡ []) (request : Request) (first : ℕ) (args_is : its.node.args ≡ args_are.Root request first) (listed : exact_rows (request_kind request) ≡ []) (t : Tidy J pid.0 its.node request) where
    abbrev exact : exact_rows (kind_of its.node.args) ≡ []
    exact = ap (λ a. exact_rows (kind_of a)) args_is ∙ listed

    abbrev mine : Own pid pick out J legal top exact
    mine = own pid pick out J legal top exact

    stage : StageOf request first mine.base (mine.line ∷ mine.behind) mine.then
    stage = subst (λ a. Stage a mine.base (mine.line ∷ mine.behind) mine.then) args_is mine.stage

    follow_stage : (act : Act) (f : Follows pid pick out J legal top exact act) → StageOf request first mine.base (mine.line ∷ f.next ∷ f.more) mine.then
    follow_stage act f = subst (λ a. Stage a mine.base (mine.line ∷ f.next ∷ f.more) mine.then) args_is f.stage

    runs_it : RunsNext J pid.0 its.node its.row.act
    runs_it = (its.row, ap (λ s. row_in s (row_of J pid.0 its.node)) its.sheet_is ∙ its.row_is, refl)

    goal_new : (q : ℕ) (x : Node) (region : Region) → moved_by x.args ≡ Some region → (args : Args) → slice_get (args_in out.children) (q - made J - 1) ≡ Some args → x ≡ child_of pid.0 its.node args → (goal : Goal) × (to : Option Server) × (x.args ≡ args_are.Transit region goal to) × (makes mine.line.act ≡ Some goal)
    goal_new q x region m args at is =
        let e : x.args ≡ args = ap (λ (n : Node). n.args) is in
        let g = moved_goal its.row.act args region (goals pid pick out J legal exact (q - made J - 1) args at) (ap moved_by (sym e) ∙ m) in
        (g.0, g.1, e ∙ g.2, ap makes (sym mine.act_is) ∙ g.3)

    unassigns_now : shuts request ≡ true → (act : Act) → RunsNext J' pid.0 its.node act → is_finish act ≡ false → (q : ℕ) (x : Node) (region : Region) → MovesIn J' pid.0 region q x → (to : Option Server) × (x.args ≡ args_are.Transit region goal_is.Unassign to)
    unassigns_now h act runs ne q x region m =
        let f = follows pid pick out J legal top exact act runs in
        let only = shut_next request first mine.base mine.line f.next f.more mine.then h (follow_stage act f) (ap is_finish f.act_is ∙ ne) in
        elim (members q x m.0) [
          | inl old ↦ t.unassigns h its.row.act runs_it (ap is_finish mine.act_is ∙ only.0) q x region (old, m.1, m.2)
          | inr new ↦
              let g = goal_new q x region m.2 new.0 new.1 new.2 in
              elim only.1 [
                | inl none ↦ absurd (none-some g.0 (sym none ∙ g.3))
                | inr un ↦ (g.1, g.2 ∙ ap (λ goal. args_are.Transit region goal g.1) (same_Some g.0 goal_is.Unassign (sym g.3 ∙ un)))
              ]
        ]

    shut_begun : shuts request ≡ true → is_shut (acts_of (mine.line ∷ mine.behind)) ≡ true → last_answer J pid.0 ≢ None
    shut_begun h is none =
        let among = subst (λ a. IsIn (mine.line ∷ mine.behind) (orders_of (kind_of a))) args_is (mine.fresh none).1 in
        true≢false (sym is ∙ first_open request h (mine.line ∷ mine.behind) among)

    sent_now : (region : Region) → Closes J' pid.0 request region → Sent request (step_input J pid.0 its.node pick) region
    sent_now region (inl among) = inl among
    sent_now region (inr live) =
        let args : its.node.args ≡ args_are.Root (request_is.DisableTable live.0) first = args_is ∙ ap (λ q. args_are.Root q first) live.1 in
        let reading : reads its.node.args (key_is.Region region) ≡ true = ap (λ a. reads a (key_is.Region region)) args ∙ ap (λ u. Rattle.hm_model.specs.Keys.same_table live.0 u) live.2 ∙ same_table-refl live.0 in
        let is : cat J (key_is.Region region) ≡ Some (row_is.Region live.3 status_is.Live live.4.0) =
        mine.now (key_is.Region region) (or_right (covers its.node.args (key_is.Region region)) (reads its.node.args (key_is.Region region)) reading)
        ∙ disable_keeps live.0 mine.base (mine.line ∷ mine.behind) mine.then region (subst (λ q. StageOf q first mine.base (mine.line ∷ mine.behind) mine.then) live.1 stage)
        ∙ sym (ap (λ (c : Catalog). c (key_is.Region region)) mine.was_is) ∙ live.4.1 in
        inr (live.0, live.1, Rattle.hm_single.proofs.Lines.live_listed live.0 (reads its.node.args) (cat J) (keys_of J) region live.3 live.4.0 live.2 reading (has_key J (key_is.Region region) (λ none. none-some (row_is.Region live.3 status_is.Live live.4.0) (sym none ∙ is))) is)

    closes_old : last_answer J pid.0 ≢ None → (region : Region) → Closes J' pid.0 request region → Closes J pid.0 request region
    closes_old begun region (inl among) = inl among
    closes_old begun region (inr live) = inr (live.0, live.1, live.2, live.3, subst (λ (c : Catalog). IsLiveWith c region live.3) (mine.was_is ∙ mine.begun begun) live.4)

    closed_now : shuts request ≡ true → (lines : List Line) → LedBy J' pid.0 its.node lines → is_shut (acts_of lines) ≡ true → (region : Region) → Closes J' pid.0 request region → (q : ℕ) × (x : Node) × MovesIn J' pid.0 region q x
    closed_now h [] led is region c = absurd (false≢true is)
    closed_now h (now ∷ later) led is region c =
        let leads : Leads its.sheet.rows (row_of J' pid.0 its.node) (now ∷ later) = led its.sheet its.sheet_is in
        let f = follows pid pick out J legal top exact leads.0.act (leads.0, ap (λ s. row_in s (row_of J' pid.0 its.node)) its.sheet_is ∙ leads.1, refl) in
        let shuts_on = ap is_shut (same_acts its.sheet its.valid (row_of J' pid.0 its.node) (f.next ∷ f.more) (now ∷ later) f.leads leads) ∙ is in
        elim (shut_before request first mine.base mine.line f.next f.more mine.then h (follow_stage leads.0.act f) shuts_on) [
          | inl shut ↦
              let on : is_shut (acts_of (mine.line ∷ mine.behind)) ≡ true = ap (λ l. is_shut (acts_of (mine.line ∷ l))) f.behind_is ∙ shut in
              let begun = shut_begun h on in
              let m = t.closed h begun (mine.line ∷ mine.behind) mine.led on region (closes_old begun region c) in
              (m.0, m.1, (stays m.0 m.1 m.2.0, m.2.1, m.2.2))
          | inr closes ↦
              let sent = closer_sends request first its.row.next (step_input J pid.0 its.node pick) args_is h region (sent_now region c) in
              let made_it : slice_get (args_in out.children) sent.0 ≡ Some (args_are.Transit region goal_is.Unassign None) =
              ap (λ (o : StepOut). slice_get (args_in o.children) sent.0) (f.acts ∙ ap (λ a. act_answer a its.row.next (step_input J pid.0 its.node pick)) (mine.act_is ∙ closes)) ∙ sent.1 in
              let place : made J + 1 + sent.0 - made J - 1 ≡ sent.0 = omega arith in (
                made J + 1 + sent.0,
                child_of pid.0 its.node (args_are.Transit region goal_is.Unassign None),
                (
                  node_new pid pick out J its.node its.node_is (made J + 1 + sent.0) (omega arith) ∙ ap (λ i. option_map (child_of pid.0 its.node) (slice_get (args_in out.children) i)) place ∙ ap (option_map (child_of pid.0 its.node)) made_it,
                  root_is pid pick out J legal top exact,
                  refl,
                ),
              )
        ]

    may_own : MayFall J' pid.0 its.node → MayFall J pid.0 its.node
    may_own may =
        let root = root_is pid pick out J legal top exact in
        subst (λ r. MayFall J r its.node) root (may_back its.node (ap (node_of J) root ∙ its.node_is, top) (subst (λ r. MayFall J' r its.node) (sym root) may))

    late_own : its.row.after ≡ true → MayFall J' pid.0 its.node → ⊥
    late_own late may =
        let root = root_is pid pick out J legal top exact in
        late_stands pid pick out J grown all.falls its (does pid pick out J legal) aside exact top late
        (subst (λ n. MayFall J' its.node.root n) (sym (own_is its.node (ap (node_of J) root ∙ its.node_is, top))) (subst (λ r. MayFall J' r its.node) (sym root) may))

    still_now : fills request ≡ true → MayFall J' pid.0 its.node ⊎ (rests request ≡ true) → (q : ℕ) (x : Node) (region : Region) → MovesIn J' pid.0 region q x → ⊥
    still_now h falls q x region m = elim (members q x m.0) [
      | inl old ↦ t.still h (elim falls [ inl may ↦ inl (may_own may) | inr rest ↦ inr rest ]) q x region (old, m.1, m.2)
      | inr new ↦
          let g = goal_new q x region m.2 new.0 new.1 new.2 in
          elim (fill_makes request first mine.base mine.line mine.behind mine.then h stage) [
            | inl none ↦ none-some g.0 (sym none ∙ g.3)
            | inr late ↦ elim falls [ inl may ↦ late_own (mine.after_is ∙ late.0) may | inr rest ↦ true≢false (sym rest ∙ late.1) ]
          ]
    ]

    adds_now : (q : ℕ) (x : Node) → node_of J' q ≡ Some x → x.root ≡ pid.0 → (table : TableName) (from : ℕ) (bounds : List (List ℕ)) → x.args ≡ args_are.AddRegions table from bounds → is_creating its.node.args ≡ true
    adds_now q x is of table from bounds e = elim (members q x is) [
      | inl old ↦ t.adds q x old of table from bounds e
      | inr new ↦
          let act : its.row.act ≡ act_is.AddRegions = subst (GoalIs its.row.act) (sym (ap (λ (n : Node). n.args) new.2) ∙ e) (goals pid pick out J legal exact (q - made J - 1) new.0 new.1) in
          adds_kind its.node.args (ap (is_listed (kind_of its.node.args)) (sym act) ∙ (led_now pid pick out J legal exact).listed)
    ]

    drops_now : (q : ℕ) (x : Node) → node_of J' q ≡ Some x → x.root ≡ pid.0 → (table : TableName) (ids : List ℕ) → x.args ≡ args_are.DropRegions table ids → is_deleting its.node.args ≡ true
    drops_now q x is of table ids e = elim (members q x is) [
      | inl old ↦ t.drops q x old of table ids e
      | inr new ↦
          let act : its.row.act ≡ act_is.DropRegions = subst (GoalIs its.row.act) (sym (ap (λ (n : Node). n.args) new.2) ∙ e) (goals pid pick out J legal exact (q - made J - 1) new.0 new.1) in
          drops_kind its.node.args (ap (is_listed (kind_of its.node.args)) (sym act) ∙ (led_now pid pick out J legal exact).listed)
    ]

    -- disabling a table undoes nothing but its own mark
    module _ (table : TableName) (e : request ≡ request_is.DisableTable table) where
      disables : Disabling table mine.base (mine.line ∷ mine.behind) mine.then
      disables = subst (λ q. StageOf q first mine.base (mine.line ∷ mine.behind) mine.then) e stage

      args_now : its.node.args ≡ args_are.Root (request_is.DisableTable table) first
      args_now = args_is ∙ ap (λ q. args_are.Root q first) e

      reads_it : reads its.node.args (key_is.Table table) ≡ true
      reads_it = ap (λ a. reads a (key_is.Table table)) args_now ∙ same_table-refl table

      here : cat J (key_is.Table table) ≡ edited mine.then (key_is.Table table) (mine.base (key_is.Table table))
      here = mine.now (key_is.Table table) (or_right (covers its.node.args (key_is.Table table)) (reads its.node.args (key_is.Table table)) reads_it)

      turned_on : is_on (cat J (key_is.Table table)) ≡ true → (edits : List Edit) → edits ≡ (set_state state_is.Disabling its.row.next its.node.args (step_input J pid.0 its.node pick).rows).edits → MildOne table (undo_edits back_is.Edits edits)
      turned_on on edits is = subst (λ l. MildOne table (undo_edits back_is.Edits l)) (sym (is ∙ ap (λ a. (set_state state_is.Disabling its.row.next a (step_input J pid.0 its.node pick).rows).edits) args_now))
          ((λ region row. refl), (λ row was_on. ap is_on (Rattle.std.proofs.lemmas.Bool.cond-true (Rattle.hm_model.specs.Keys.same_table table table) _ row (same_table-refl table) ∙ row_read J its.node.args (key_is.Table table) reads_it) ∙ on))

      nothing_is : its.row.undo ≡ back_is.Edits → mine.line.undo ≡ back_is.Nothing → ⊥
      nothing_is edits line = elim mine.undo_is [
        | inl same ↦ true≢false (ap is_edits (sym edits ∙ same ∙ line))
        | inr none ↦ true≢false (ap is_edits (sym edits ∙ none))
      ]

      mild_by : (line : Line) (behind : List Line) (then : List Edit) → mine.line ≡ line → mine.then ≡ then → Disabling table mine.base (line ∷ behind) then → its.row.undo ≡ back_is.Edits → MildOne table (undo_edits back_is.Edits out.edits)
      mild_by line behind then l n Disabling.begins edits = absurd (nothing_is edits (ap (λ (x : Line). x.undo) l))
      mild_by line behind then l n (Disabling.found none) edits = elim (cut_or pid pick out J legal) [
        | inl cut ↦ subst (λ (o : StepOut). MildOne table (undo_edits back_is.Edits o.edits)) (sym cut) ((λ region row. refl), (λ row on. on))
        | inr acts ↦ turned_on (ap is_on (here ∙ ap (λ k. edited k (key_is.Table table) (mine.base (key_is.Table table))) n) ∙ enabled_on (mine.base (key_is.Table table)) none) out.edits
            (ap (λ (o : StepOut). o.edits) acts ∙ ap (λ a. (act_answer a its.row.next (step_input J pid.0 its.node pick)).edits) (mine.act_is ∙ ap (λ (x : Line). x.act) l))
      ]
      mild_by line behind then l n (Disabling.told none) edits = absurd (nothing_is edits (ap (λ (x : Line). x.undo) l))
      mild_by line behind then l n (Disabling.moved none) edits = absurd (nothing_is edits (ap (λ (x : Line). x.undo) l))

      mild_now : Mild table (stack J' pid.0)
      mild_now =
          let root = root_is pid pick out J legal top exact in
          subst (λ r. Mild table (stack J' r)) root (subst (Mild table) (sym stack_now)
          (push_mild table its.row.undo (is_some (failing out.answer)) pid.0 (row_if_there J pid.0 (node_of J pid.0)) out.edits (stack J its.node.root) (mild_by mine.line mine.behind mine.then refl refl disables) (subst (λ r. Mild table (stack J r)) (sym root) (t.mild table e))))

    pub own_tidy : Tidy J' pid.0 its.node request
    own_tidy = record {
      unassigns = unassigns_now;
      closed = λ h begun. closed_now h;
      still = still_now;
      adds = adds_now;
      drops = drops_now;
      mild = mild_now;
    }
