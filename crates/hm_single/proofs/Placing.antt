-- Who gives a region its place, and what stands then.
use Rattle.std.proofs.Common.{◌≡◌, ◌≢◌, ℕ, ◌∷◌, Bool, true, false, ◌&&◌, ◌||◌, not, cond, Option, Some, None, refl, ap, sym, ◌∙◌, subst, inl, inr, ◌⊎◌, slice_get}
use Rattle.std.proofs.lemmas.Bool.{and_parts, cond-false, cond-true, false≢true, or_left, or_right, true≢false}
use Rattle.std.proofs.lemmas.Option.{none-some, same_Some}
use Rattle.hm_names.specs.Region.{Region}
use Rattle.hm_names.specs.Server.{Server}
use Rattle.hm_names.specs.declared.pid.Pid.{Pid}
use Rattle.hm_data.specs.declared.act.Act.{Act}
use Rattle.hm_data.specs.declared.act.Act.TheVariants as act_is
use Rattle.hm_data.specs.declared.answer.Answer.{Answer}
use Rattle.hm_data.specs.declared.answer.Answer.TheVariants as answer_is
use Rattle.hm_data.specs.declared.answer.Cause.TheVariants as cause_is
use Rattle.hm_data.specs.declared.args.Args.{Args}
use Rattle.hm_data.specs.declared.args.Args.TheVariants as args_are
use Rattle.hm_data.specs.declared.catalog.CatKey.TheVariants as key_is
use Rattle.hm_data.specs.declared.entry.Entry.TheVariants as entry_is
use Rattle.hm_data.specs.declared.place.Goal.{Goal}
use Rattle.hm_data.specs.declared.place.Place.{Place}
use Rattle.hm_data.specs.declared.place.RegionState.TheVariants as place_is
use Rattle.hm_data.specs.declared.request.Request.TheVariants as request_is
use Rattle.hm_data.specs.declared.sheet.Row.{Row}
use Rattle.hm_data.specs.declared.step.StepIn.{StepIn}
use Rattle.hm_data.specs.declared.step.StepOut.{StepOut}
use Rattle.hm_model.specs.Acts.{act_answer}
use Rattle.hm_model.specs.Answers.{is_stopped, last_answer, row_after, row_of}
use Rattle.hm_model.specs.Catalog.{cat, row_at}
use Rattle.hm_model.specs.Checks.{region_ready}
use Rattle.hm_model.specs.Evaluation.{is_cut_off}
use Rattle.hm_model.specs.Inputs.{rows_read, step_input}
use Rattle.hm_model.specs.Journal.{Past}
use Rattle.hm_model.specs.Kinds.{first_row_of, kind_of}
use Rattle.hm_model.specs.Lists.{exact_rows, fixed}
use Rattle.hm_model.specs.Outs.{checked, fails, given}
use Rattle.hm_model.specs.Places.{place_of, placed_by, region_if}
use Rattle.hm_model.specs.Reads.{is_region, is_table, reads}
use Rattle.hm_model.specs.Reports.{is_the_region, last_call}
use Rattle.hm_model.specs.RowsSaid.{Rows}
use Rattle.hm_model.specs.Tree.{Node, node_of}
use Rattle.hm_model.specs.TransitActs.{candidate, close_or_go, closed_or_lost, is_open, is_placed, is_state, lost_if, may_open, may_open_in, nowhere, told_place}
use Rattle.hm_model.specs.Views.{region_of}
use Rattle.hm_model.specs.Wanted.{goal_in}
use Rattle.hm_model.specs.Whereabouts.{moved_by}
use Rattle.hm_model.proofs.KeyTests.{same_region-refl, same_table-refl}
use Rattle.hm_model.proofs.LegalSteps.{StepFacts, ready_stops}
use Rattle.hm_model.proofs.Rows.{row_read}
use Rattle.hm_model.proofs.StepDoes.{Does, calls, crash, lined, move_row, moves, part_of}
use Rattle.hm_model.proofs.Trees.{Grown, does_of, grown_all, step_of}
use Rattle.hm_single.specs.Theorem.{PlacedWhereLive}
use Rattle.hm_single.proofs.All.{kept_all}
use Rattle.hm_single.proofs.Kept.{Lasting}
use Rattle.hm_single.proofs.Rows.{first_free}
use Rattle.hm_single.proofs.Stage.{StageFor, child_of_step, moved_region, the_region}
use Rattle.hm_single.proofs.Transit.{AtRow, IsFreeRow}

abbrev IsUnplaced : Place → Type 0
IsUnplaced place = is_placed place ≡ true → ⊥

-- what an act gives: a place only where the region may be opened, or has one, or by taking in whether it opened
abbrev PlacesSo : Act → Args → Rows → Option Place → StepOut → Type 0
PlacesSo act args rows place out =
    (here : Place) → out.place ≡ Some here → is_placed here ≡ true
    → ((region : Region) → region_of args ≡ Some region → may_open_in rows region ≡ true) ⊎ ((act ≡ act_is.ConfirmOpened) ⊎ (is_placed (told_place place) ≡ true))

open_placed : (place : Place) (fenced : Bool) → is_open place fenced ≡ true → is_placed place ≡ true
open_placed place fenced h =
    let opened = (and_parts (is_state place_is.Opened place) (not fenced) h).0 in
    or_right (is_state place_is.Opening place) (is_state place_is.Opened place || is_state place_is.Closing place) (or_left (is_state place_is.Opened place) (is_state place_is.Closing place) opened)

lost_unplaced : (b : Bool) (here : Place) → lost_if b ≡ Some here → IsUnplaced here
lost_unplaced false here e placed = none-some here e
lost_unplaced true here e placed = false≢true (ap is_placed (same_Some (nowhere place_is.AbnormallyClosed) here e) ∙ placed)

closed_unplaced : (b : Bool) (here : Place) → Some (nowhere (closed_or_lost b)) ≡ Some here → IsUnplaced here
closed_unplaced true here e placed = false≢true (ap is_placed (same_Some (nowhere place_is.Closed) here e) ∙ placed)
closed_unplaced false here e placed = false≢true (ap is_placed (same_Some (nowhere place_is.AbnormallyClosed) here e) ∙ placed)

module _ (args : Args) (rows : Rows) (place : Option Place) where
  candidate_so : (o : Option Region) → region_of args ≡ o → (next : ℕ) (fenced : Bool) (pick : Option Server) → PlacesSo act_is.GetAssignCandidate args rows place (given o next (λ region. candidate next (may_open_in rows region) (told_place place) fenced pick))
  candidate_so None e next fenced pick here given_is placed = absurd (none-some here given_is)
  candidate_so (Some region) e next fenced pick here given_is placed = by (may_open_in rows region) refl given_is
    where
      by : (b : Bool) → may_open_in rows region ≡ b → (candidate next b (told_place place) fenced pick).place ≡ Some here → ((r : Region) → region_of args ≡ Some r → may_open_in rows r ≡ true) ⊎ ((act_is.GetAssignCandidate ≡ act_is.ConfirmOpened) ⊎ (is_placed (told_place place) ≡ true))
      by true may h = inl (λ r is. ap (may_open_in rows) (same_Some r region (sym is ∙ e)) ∙ may)
      by false may h = absurd (lost_unplaced (is_placed (told_place place) && fenced) here h placed)

  close_so : (o : Option Region) (next : ℕ) (goal : Goal) (fenced : Bool) → PlacesSo act_is.Close args rows place (given o next (λ region. close_or_go next goal region (told_place place) (is_open (told_place place) fenced)))
  close_so None next goal fenced here given_is placed = absurd (none-some here given_is)
  close_so (Some region) next goal fenced here given_is placed = by (is_open (told_place place) fenced) refl given_is
    where
      by : (b : Bool) → is_open (told_place place) fenced ≡ b → (close_or_go next goal region (told_place place) b).place ≡ Some here → ((r : Region) → region_of args ≡ Some r → may_open_in rows r ≡ true) ⊎ ((act_is.Close ≡ act_is.ConfirmOpened) ⊎ (is_placed (told_place place) ≡ true))
      by true opened h = inr (inr (open_placed (told_place place) fenced opened))
      by false shut h = absurd (lost_unplaced (is_state place_is.Opened (told_place place)) here h placed)

check_none : (o : Option Region) (next : ℕ) (rows : Rows) (here : Place) → (given o next (λ region. checked next (region_ready (row_at rows (key_is.Table region.table)) (row_at rows (key_is.Region region))))).place ≡ Some here → ⊥
check_none None next rows here h = none-some here h
check_none (Some region) next rows here h = by (region_ready (row_at rows (key_is.Table region.table)) (row_at rows (key_is.Region region))) h
  where
    by : (c : Option Rattle.hm_data.specs.declared.answer.Cause.Cause) → (checked next c).place ≡ Some here → ⊥
    by None e = none-some here e
    by (Some cause) e = none-some here e

-- the acts of the rows at which a transit looks at its place
abbrev IsFreeAct : Act → Type 0
IsFreeAct act = (act ≡ act_is.GetAssignCandidate) ⊎ ((act ≡ act_is.Close) ⊎ (act ≡ act_is.CheckMove))

free_act : (n : ℕ) (row : Row) → IsFreeRow n → slice_get (exact_rows 10) n ≡ Some row → IsFreeAct row.act
free_act n row (inl e) is = inl (ap (λ (r : Row). r.act) (same_Some row (fixed act_is.GetAssignCandidate 1 true) (sym is ∙ ap (slice_get (exact_rows 10)) e)))
free_act n row (inr (inl e)) is = inr (inl (ap (λ (r : Row). r.act) (same_Some row (fixed act_is.Close 4 true) (sym is ∙ ap (slice_get (exact_rows 10)) e))))
free_act n row (inr (inr e)) is = inr (inr (ap (λ (r : Row). r.act) (same_Some row (fixed act_is.CheckMove 3 false) (sym is ∙ ap (slice_get (exact_rows 10)) e))))

-- such an act gives a place only where the region may be opened
free_places : (act : Act) (next : ℕ) (at : StepIn) → IsFreeAct act → is_placed (told_place at.place) ≡ false → (here : Place) → (act_answer act next at).place ≡ Some here → is_placed here ≡ true → (region : Region) → region_of at.args ≡ Some region → may_open_in at.rows region ≡ true
free_places act next at free was here h placed region is = by free
  where
    none : (a : Act) → a ≢ act_is.ConfirmOpened → ((r : Region) → region_of at.args ≡ Some r → may_open_in at.rows r ≡ true) ⊎ ((a ≡ act_is.ConfirmOpened) ⊎ (is_placed (told_place at.place) ≡ true)) → may_open_in at.rows region ≡ true
    none a differs (inl may) = may region is
    none a differs (inr (inl same)) = absurd (differs same)
    none a differs (inr (inr there)) = absurd (true≢false (sym there ∙ was))

    by : IsFreeAct act → may_open_in at.rows region ≡ true
    by (inl e) = none act_is.GetAssignCandidate (λ c. cc) (candidate_so at.args at.rows at.place (region_of at.args) refl next at.fenced at.pick here (ap (λ a. (act_answer a next at).place) (sym e) ∙ h) placed)
    by (inr (inl e)) = none act_is.Close (λ c. cc) (close_so at.args at.rows at.place (region_of at.args) next (goal_in at.args) at.fenced here (ap (λ a. (act_answer a next at).place) (sym e) ∙ h) placed)
    by (inr (inr e)) = absurd (check_none (region_of at.args) next at.rows here (ap (λ a. (act_answer a next at).place) (sym e) ∙ h))

-- what a transit reads
pub reads_own : (args : Args) (region : Region) → moved_by args ≡ Some region → (reads args (key_is.Table region.table) ≡ true) × (reads args (key_is.Region region) ≡ true)
reads_own (args_are.Transit own goal to) region m =
    let e = same_Some own region m in (
      or_left (is_table own.table (key_is.Table region.table)) (is_region own (key_is.Table region.table)) (ap (λ (r : Region). is_table r.table (key_is.Table region.table)) e ∙ same_table-refl region.table),
      or_right (is_table own.table (key_is.Region region)) (is_region own (key_is.Region region)) (ap (λ r. is_region r (key_is.Region region)) e ∙ same_region-refl region),
    )
reads_own (args_are.Root (request_is.Move own to) first) region m =
    let e = same_Some own region m in (
      or_left (is_table own.table (key_is.Table region.table)) (is_region own (key_is.Table region.table)) (ap (λ (r : Region). is_table r.table (key_is.Table region.table)) e ∙ same_table-refl region.table),
      or_right (is_table own.table (key_is.Region region)) (is_region own (key_is.Region region)) (ap (λ r. is_region r (key_is.Region region)) e ∙ same_region-refl region),
    )
reads_own (args_are.Root (request_is.CreateNamespace ns) f) region m = absurd (none-some region m)
reads_own (args_are.Root (request_is.DropNamespace ns) f) region m = absurd (none-some region m)
reads_own (args_are.Root (request_is.CreateTable table keys) f) region m = absurd (none-some region m)
reads_own (args_are.Root (request_is.DeleteTable table) f) region m = absurd (none-some region m)
reads_own (args_are.Root (request_is.EnableTable table) f) region m = absurd (none-some region m)
reads_own (args_are.Root (request_is.DisableTable table) f) region m = absurd (none-some region m)
reads_own (args_are.Root (request_is.ModifyTable table version) f) region m = absurd (none-some region m)
reads_own (args_are.Root (request_is.SplitRegion own key) f) region m = absurd (none-some region m)
reads_own (args_are.Root (request_is.MergeRegions regions) f) region m = absurd (none-some region m)
reads_own args region m = absurd (none-some region m)

-- what it sees of them is what is there
pub may_read : (J : Past) (args : Args) (region : Region) → moved_by args ≡ Some region → may_open_in (rows_read J args) region ≡ may_open (cat J (key_is.Table region.table)) (cat J (key_is.Region region))
may_read J args region m =
    let on = reads_own args region m in
    ap (λ o. may_open o (row_at (rows_read J args) (key_is.Region region))) (row_read J args (key_is.Table region.table) on.0)
    ∙ ap (may_open (cat J (key_is.Table region.table))) (row_read J args (key_is.Region region) on.1)

-- a region without a place is at a row that looks at it
module _ (J : Past) (region : Region) (kept : Lasting J) (unplaced : is_placed (place_of J region) ≡ false) where
  free_by : (p : ℕ) (args : Args) (o : Option Answer) (q : ℕ) (made : Option Node) (answer : Option Answer) → moved_by args ≡ Some region → is_stopped o ≡ false → AtRow J p region (place_of J region) (last_call J region) o q made answer → IsFreeRow (row_after (first_row_of args) o)
  free_by p args None q made answer m runs h = first_free args region m
  free_by p args (Some (answer_is.More n)) q made answer m runs (inl h) = h.0
  free_by p args (Some (answer_is.More n)) q made answer m runs (inr h) = absurd (true≢false (ap is_placed (sym h.2) ∙ unplaced))
  free_by p args (Some (answer_is.Wait n)) q made answer m runs (inl h) = absurd (true≢false (ap is_placed (sym h.2) ∙ unplaced))
  free_by p args (Some (answer_is.Wait n)) q made answer m runs (inr h) = absurd (true≢false (ap is_placed (sym h.2) ∙ unplaced))
  free_by p args (Some (answer_is.Await n)) q made answer m runs h = absurd h
  free_by p args (Some (answer_is.Done told)) q made answer m runs h = absurd (true≢false runs)
  free_by p args (Some (answer_is.Fail cause)) q made answer m runs h = absurd (true≢false runs)
  free_by p args (Some answer_is.Undone) q made answer m runs h = absurd (true≢false runs)

  pub free_at : (p : ℕ) (node : Node) → node_of J p ≡ Some node → moved_by node.args ≡ Some region → is_stopped (last_answer J p) ≡ false → IsFreeRow (row_of J p node)
  free_at p node is m runs = by (last_answer J p) refl runs
    where
      at : (going : Rattle.hm_single.proofs.Kept.IsGoing (last_answer J p)) → AtRow J p region (place_of J region) (last_call J region) (last_answer J p) (child_of_step J p) (node_of J (child_of_step J p)) (last_answer J (child_of_step J p))
      at going = subst (StageFor J region) (kept.works p region (node, is, m) going) (kept.stage region)

      on : (o : Option Answer) → last_answer J p ≡ o → is_stopped o ≡ false → Rattle.hm_single.proofs.Kept.IsGoing o → IsFreeRow (row_of J p node)
      on o l go going = free_by p node.args (last_answer J p) (child_of_step J p) (node_of J (child_of_step J p)) (last_answer J (child_of_step J p)) m runs (at (subst Rattle.hm_single.proofs.Kept.IsGoing (sym l) going))

      by : (o : Option Answer) → last_answer J p ≡ o → is_stopped o ≡ false → IsFreeRow (row_of J p node)
      by None l go = subst (λ o. IsFreeRow (row_after (first_row_of node.args) o)) (sym l) (first_free node.args region m)
      by (Some (answer_is.More n)) l go = on (Some (answer_is.More n)) l go tt
      by (Some (answer_is.Wait n)) l go = on (Some (answer_is.Wait n)) l go tt
      by (Some (answer_is.Await n)) l go = on (Some (answer_is.Await n)) l go tt
      by (Some (answer_is.Done told)) l go = absurd (true≢false go)
      by (Some (answer_is.Fail cause)) l go = absurd (true≢false go)
      by (Some answer_is.Undone) l go = absurd (true≢false go)

pub moved_kind : (args : Args) (region : Region) → moved_by args ≡ Some region → kind_of args ≡ 10
moved_kind args region m = by (part_of args)
  where
    by : Rattle.hm_model.proofs.StepDoes.Part args → kind_of args ≡ 10
    by (moves r is kind uncalled) = kind
    by (lined exact unmoved uncalled) = absurd (none-some region (sym unmoved ∙ m))
    by (crash kind unmoved uncalled) = absurd (none-some region (sym unmoved ∙ m))
    by (calls verb v unmoved exact) = absurd (none-some region (sym unmoved ∙ m))

-- a step
module _ (pid : Pid) (pick : Option Server) (out : StepOut) (J : Past) (grown : Grown J) (kept : Lasting J) (step : StepFacts J pid.0 pick out) (d : Does J pid.0 step.node.args (last_answer J pid.0) step.sheet.rows out) where
  runs_now : is_stopped (last_answer J pid.0) ≡ false
  runs_now = ready_stops J pid.0 step.node (last_answer J pid.0) step.ready

  pub own_row : (region : Region) → moved_by step.node.args ≡ Some region → slice_get (exact_rows 10) (row_of J pid.0 step.node) ≡ Some step.row
  own_row region m = move_row J pid.0 pick out step (λ lined. grown.led pid.0 step.node step.node_is lined step.sheet step.sheet_is runs_now) (λ verb v. grown.calls pid.0 step.node step.node_is verb v) (moved_kind step.node.args region m)

  -- who gives a region a place moves it
  pub giver : (region : Region) (here : Place) → out.place ≡ Some here → region_of step.node.args ≡ Some region → moved_by step.node.args ≡ Some region
  giver region here h own = by (moved_by step.node.args) refl
    where
      by : (o : Option Region) → moved_by step.node.args ≡ o → moved_by step.node.args ≡ Some region
      by None e = absurd (none-some here (sym (d.unplaced e) ∙ h))
      by (Some r) e = e ∙ ap Some (same_Some r region (sym (moved_region step.node.args r e).0 ∙ own))

  -- what is given
  pub placed_now : (region : Region) → is_placed (place_of J region) ≡ false → is_placed (place_of (entry_is.Step pid pick out ∷ J) region) ≡ true
      → (here : Place) × (out.place ≡ Some here) × (is_placed here ≡ true) × (region_of step.node.args ≡ Some region)
  placed_now region was now = by out.place refl (sym (ap is_placed (ap (λ n. placed_by region (region_if n) out.place (place_of J region)) step.node_is)) ∙ now)
    where
      by : (o : Option Place) → out.place ≡ o → is_placed (placed_by region (region_of step.node.args) o (place_of J region)) ≡ true → (here : Place) × (out.place ≡ Some here) × (is_placed here ≡ true) × (region_of step.node.args ≡ Some region)
      by None e h = absurd (true≢false (sym h ∙ was))
      by (Some here) e h = elim (the_region region (region_of step.node.args)) [
        | inl own ↦ (here, e, sym (ap is_placed (cond-true (is_the_region region (region_of step.node.args)) here (place_of J region) (ap (is_the_region region) own ∙ same_region-refl region))) ∙ h, own)
        | inr off ↦ absurd (true≢false (sym h ∙ ap is_placed (cond-false (is_the_region region (region_of step.node.args)) here (place_of J region) off) ∙ was))
      ]

  places_live : (region : Region) → is_placed (place_of J region) ≡ false → is_placed (place_of (entry_is.Step pid pick out ∷ J) region) ≡ true → may_open (cat J (key_is.Table region.table)) (cat J (key_is.Region region)) ≡ true
  places_live region was now =
      let g = placed_now region was now in
      let m = giver region g.0 g.1 g.3 in
      let free = free_at J region kept was pid.0 step.node step.node_is m runs_now in
      let act = free_act (row_of J pid.0 step.node) step.row free (own_row region m) in
      let unplaced : is_placed (told_place (step_input J pid.0 step.node pick).place) ≡ false = ap (λ o. is_placed (told_place (Rattle.hm_model.specs.Inputs.place_if J o))) m ∙ was in
      sym (may_read J step.node.args region m) ∙ (by (is_cut_off step.row (step_input J pid.0 step.node pick)) act unplaced g.0 (sym (ap (λ (o : StepOut). o.place) step.out_is) ∙ g.1) g.2 g.3)
    where
      by : (b : Bool) → IsFreeAct step.row.act → is_placed (told_place (step_input J pid.0 step.node pick).place) ≡ false → (here : Place) → (cond b (fails cause_is.Aborted) (act_answer step.row.act step.row.next (step_input J pid.0 step.node pick))).place ≡ Some here → is_placed here ≡ true → region_of step.node.args ≡ Some region → may_open_in (rows_read J step.node.args) region ≡ true
      by true act unplaced here h placed own = absurd (none-some here h)
      by false act unplaced here h placed own = free_places step.row.act step.row.next (step_input J pid.0 step.node pick) act unplaced here h placed region own

pub placed_live : PlacedWhereLive
placed_live pid pick out J legal region was now =
    let grown = grown_all J legal.0 in
    let step = step_of pid pick out J grown legal in
    places_live pid pick out J grown (kept_all J legal.0) step (does_of pid pick out J grown step) region was now
