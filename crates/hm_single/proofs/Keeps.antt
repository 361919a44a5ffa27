-- A step that conflicts with none who hold keeps what every legal journal keeps of its regions.
use Rattle.std.proofs.Common.{◌≡◌, ◌≢◌, ℕ, zero, suc, ◌+◌, ◌-◌, ◌<◌, ◌≤◌, List, [], ◌∷◌, length, Bool, true, false, ◌&&◌, ◌==◌, nat_lt, cond, Option, Some, None, is_some, refl, ap, sym, ◌∙◌, subst, inl, inr, ◌⊎◌, slice_get, arith}
use Rattle.std.specs.Option.{option_or}
use Rattle.std.proofs.lemmas.Bool.{and_from, and_right, cases_Bool, cases_eq, cond-false, cond-true, eq-eqb, eqb-true, false≢true, lt-ltb, ne_eqb, true≢false}
use Rattle.std.proofs.lemmas.Option.{none-some, same_Some}
use Rattle.hm_names.specs.Region.{Region}
use Rattle.hm_names.specs.Server.{Server}
use Rattle.hm_names.specs.declared.pid.Pid.{Pid}
use Rattle.hm_data.specs.declared.act.Back.{Back}
use Rattle.hm_data.specs.declared.act.Back.TheVariants as back_is
use Rattle.hm_data.specs.declared.answer.Answer.{Answer}
use Rattle.hm_data.specs.declared.answer.Answer.TheVariants as answer_is
use Rattle.hm_data.specs.declared.answer.Cause.{Cause}
use Rattle.hm_data.specs.declared.args.Args.{Args}
use Rattle.hm_data.specs.declared.args.Args.TheVariants as args_are
use Rattle.hm_data.specs.declared.args.Child.TheVariants as child_is
use Rattle.hm_data.specs.declared.call.Peer.{Peer}
use Rattle.hm_data.specs.declared.call.Peer.TheVariants as peer_is
use Rattle.hm_data.specs.declared.call.Told.{Told}
use Rattle.hm_data.specs.declared.call.Told.TheVariants as told_is
use Rattle.hm_data.specs.declared.call.Verb.{Verb}
use Rattle.hm_data.specs.declared.call.Verb.TheVariants as verb_is
use Rattle.hm_data.specs.declared.entry.Entry.TheVariants as entry_is
use Rattle.hm_data.specs.declared.place.Place.{Place}
use Rattle.hm_data.specs.declared.sheet.Row.{Row}
use Rattle.hm_data.specs.declared.step.StepOut.{StepOut}
use Rattle.hm_model.specs.Answers.{done_with, failing, is_stopped, last_answer, report_of, row_of}
use Rattle.hm_model.specs.Fleet.{is_fenced}
use Rattle.hm_model.specs.Holding.{IsFree}
use Rattle.hm_model.specs.Journal.{Past}
use Rattle.hm_model.specs.Kinds.{kind_of}
use Rattle.hm_model.specs.Lists.{exact_rows}
use Rattle.hm_model.specs.Phase.{cause, child_in, children_ended, is_parent, or_else}
use Rattle.hm_model.specs.Places.{place_of, placed_by, region_if}
use Rattle.hm_model.specs.Reports.{fits_verb, is_about, is_the_region, last_call, peer_if, peer_in, peer_of, verb_of}
use Rattle.hm_model.specs.Sheets.{row_in, undo_by, undo_of_next}
use Rattle.hm_model.specs.Inputs.{is_new_child, made_at_step}
use Rattle.hm_model.specs.Single.{IsBasedAt, IsLeft, IsOver, called_at}
use Rattle.hm_model.specs.Tree.{Node, args_in, child_of, is_top, made, node_of, root_in, root_of}
use Rattle.hm_model.specs.Undo.{pushed, row_if_there, stack}
use Rattle.hm_model.specs.Views.{region_of}
use Rattle.hm_model.specs.Whereabouts.{called_by, moved_by}
use Rattle.hm_single.specs.Calls.{IsLater, IsOpenedBy, IsVoid, Moves}
use Rattle.hm_model.specs.Verbs.{verb_in}
use Rattle.hm_model.proofs.CallSteps.{laying_not_caller}
use Rattle.hm_model.proofs.StepDoes.{Does, lined, crash, moves, calls, move_row, part_of}
use Rattle.hm_model.proofs.ExactRows.{all_rows, exact_is, row_passes}
use Rattle.hm_model.proofs.Trees.{Grown, IsWaiting, answer_now, call_mine, child_stopped, is_there, le_or_lt, new_child, node_new, node_same, other_answer, other_steps, pid_there, ran_before, runs, steps_now, still_there, verb_now, verb_stays, verb_was}
use Rattle.hm_single.proofs.Kept.{CallsLater, IsBaseSettled, IsGoing, IsMove, IsSettled, IsSoundLast, Lasting, based_later, fail_in, goes_from, going_some, left_later, over_later, settled_later}
use Rattle.hm_single.proofs.Kin.{goes_holds, kin_of, root_there, transits_conflict}
use Rattle.hm_model.proofs.LegalSteps.{ReadyBy, StepFacts}
use Rattle.hm_model.proofs.PlainActs.{is_caller}
use Rattle.hm_model.proofs.Transits.{caller_facts}
use Rattle.hm_model.proofs.Small.{cons_nil}
use Rattle.hm_model.proofs.Calls.{open_close}
use Rattle.hm_single.proofs.Rows.{transit_step}
use Rattle.hm_single.proofs.Stage.{Later, StageFor, called_region, caller_region, calls_step, child_of_step, is_itself, moved_if, moved_region, opened_later, region_caller, row_next, stage_later, the_region, void_later, work_of, worked}
use Rattle.hm_single.proofs.Told.{fits_close, fits_open, not_told_by, told_by, told_opened}
use Rattle.hm_single.proofs.Transit.{AtRow, CallIs, Calls, IsRest, Leaves, Next, based_one, set_place}

-- the region of a step: none of its procedure's, the one that it moves, or the one whose server it calls
pub data Where (args : Args) (r : Region) : Type 0 where
  apart : is_the_region r (moved_by args) ≡ false → is_the_region r (caller_region args) ≡ false → Where args r
  here : moved_by args ≡ Some r → Where args r
  asks : caller_region args ≡ Some r → Where args r

pub where_is : (args : Args) (r : Region) → Where args r
where_is args r = elim (the_region r (moved_by args)) [
  | inl moved ↦ here moved
  | inr unmoved ↦ elim (the_region r (caller_region args)) [ inl called ↦ asks called | inr uncalled ↦ apart unmoved uncalled ]
]

abbrev pub is_undoless : Row → Bool
is_undoless row = Rattle.hm_data.specs.Numbers.back_number row.undo == 0

no_undo : (undo : Back) → (Rattle.hm_data.specs.Numbers.back_number undo == 0) ≡ true → undo ≡ back_is.Nothing
no_undo back_is.Nothing h = refl
no_undo undo h = absurd (false≢true h)

unpushed : (undo : Back) (failed : Bool) (p row : ℕ) (edits : List Rattle.hm_data.specs.declared.catalog.Edit.Edit) (below : List Rattle.hm_model.specs.Undo.Undoable) → undo ≡ back_is.Nothing → pushed undo failed p row edits below ≡ below
unpushed undo failed p row edits below e = ap (λ u. pushed u failed p row edits below) e

placed_apart : (r : Region) (own : Option Region) (place : Option Place) (old : Place) → is_the_region r own ≡ false → placed_by r own place old ≡ old
placed_apart r own None old off = refl
placed_apart r own (Some new) old off = cond-false (is_the_region r own) new old off

placed_here : (r : Region) (own : Option Region) (place : Option Place) (old : Place) → own ≡ Some r → placed_by r own place old ≡ set_place place old
placed_here r own None old is = refl
placed_here r own (Some new) old is = cond-true (is_the_region r own) new old (is_itself r own is)

module _ (pid : Pid) (pick : Option Server) (out : StepOut) (J : Past) (grown : Grown J) (kept : Lasting J) (step : StepFacts J pid.0 pick out) (d : Does J pid.0 step.node.args (last_answer J pid.0) step.sheet.rows out) (free : IsFree J [] pid.0) where
  J' : Past
  J' = entry_is.Step pid pick out ∷ J

  my_moves : (r : Region) → moved_by step.node.args ≡ Some r → Moves J pid.0 r
  my_moves r m = (step.node, step.node_is, m)

  -- another procedure that holds this region, where a transit of it steps
  alone : (p : ℕ) (r : Region) → moved_by step.node.args ≡ Some r → p ≢ pid.0 → IsGoing (last_answer J p) → Moves J p r → ⊥
  alone p r m differs going other = free p (goes_holds J grown kept p r other going) (transits_conflict J grown pid.0 p r (λ e. differs (sym e)) (my_moves r m) other)

  waits_going : (o : Option Answer) → IsWaiting o → IsGoing o
  waits_going (Some (answer_is.Wait n)) h = tt
  waits_going None h = absurd h
  waits_going (Some (answer_is.More n)) h = absurd h
  waits_going (Some (answer_is.Await n)) h = absurd h
  waits_going (Some (answer_is.Done told)) h = absurd h
  waits_going (Some (answer_is.Fail cause)) h = absurd h
  waits_going (Some answer_is.Undone) h = absurd h

  runs_now : is_stopped (last_answer J pid.0) ≡ false
  runs_now = runs pid pick out J grown step d

  -- a region whose transit doesn't go on is at rest
  rests : (p : ℕ) (r : Region) (o : Option Answer) (q : ℕ) (made : Option Node) (answer : Option Answer) → (IsGoing o → ⊥) → AtRow J p r (place_of J r) (last_call J r) o q made answer → IsRest J r (last_call J r) (place_of J r)
  rests p r None q made answer idle h = h
  rests p r (Some (answer_is.More n)) q made answer idle h = absurd (idle tt)
  rests p r (Some (answer_is.Wait n)) q made answer idle h = absurd (idle tt)
  rests p r (Some (answer_is.Await n)) q made answer idle h = absurd (idle tt)
  rests p r (Some (answer_is.Done told)) q made answer idle h = h
  rests p r (Some (answer_is.Fail cause)) q made answer idle h = h
  rests p r (Some answer_is.Undone) q made answer idle h = absurd h

  -- where a transit stands before its step
  at_start : (r : Region) → moved_by step.node.args ≡ Some r → (o : Option Answer) → last_answer J pid.0 ≡ o → AtRow J pid.0 r (place_of J r) (last_call J r) o (child_of_step J pid.0) (node_of J (child_of_step J pid.0)) (last_answer J (child_of_step J pid.0))
  at_start r m None l = by (work_of J r) refl (kept.stage r)
    where
      by : (w : Option ℕ) → work_of J r ≡ w → StageFor J r w → IsRest J r (last_call J r) (place_of J r)
      by None e h = h
      by (Some p) e h =
          let w = kept.worker p r e in
          rests p r (last_answer J p) (child_of_step J p) (node_of J (child_of_step J p)) (last_answer J (child_of_step J p)) (λ going. alone p r m (λ same. w.1 (ap (last_answer J) same ∙ l)) going w.0) h
  at_start r m (Some a) l =
      let work = kept.works pid.0 r (my_moves r m) (goes_from (last_answer J pid.0) runs_now (λ none. none-some a (sym none ∙ l))) in
      subst (λ o. AtRow J pid.0 r (place_of J r) (last_call J r) o (child_of_step J pid.0) (node_of J (child_of_step J pid.0)) (last_answer J (child_of_step J pid.0))) l (subst (StageFor J r) work (kept.stage r))

  -- the child for which it waits
  waits_child : (r : Region) (n : ℕ) → AtRow J pid.0 r (place_of J r) (last_call J r) (Some (answer_is.Wait n)) (child_of_step J pid.0) (node_of J (child_of_step J pid.0)) (last_answer J (child_of_step J pid.0)) → (node : Node) × (node_of J (child_of_step J pid.0) ≡ Some node) × (rest : List ℕ) × (node.above ≡ pid.0 ∷ rest)
  waits_child r n (inl h) = (h.3.0, h.3.1, h.3.3.0, h.3.3.1)
  waits_child r n (inr h) = (h.3.0, h.3.1, h.3.3.0, h.3.3.1)

  ready_ended : (n : ℕ) → last_answer J pid.0 ≡ Some (answer_is.Wait n) → children_ended J pid.0 ≡ true
  ready_ended n l = subst (ReadyBy J pid.0 step.node) l step.ready

  -- a new child of a procedure, by its parent
  parent_of : (q : ℕ) (o : Option Node) → node_of J q ≡ o → child_in pid.0 o ≡ true → (node : Node) × (node_of J q ≡ Some node) × (rest : List ℕ) × (node.above ≡ pid.0 ∷ rest)
  parent_of q None e h = absurd (false≢true h)
  parent_of q (Some node) e h = by node.above refl h
    where
      by : (above : List ℕ) → node.above ≡ above → is_parent pid.0 above ≡ true → (n : Node) × (node_of J q ≡ Some n) × (rest : List ℕ) × (n.above ≡ pid.0 ∷ rest)
      by [] a h = absurd (false≢true h)
      by (u ∷ rest) a h = (node, e, rest, a ∙ ap (λ x. x ∷ rest) (eqb-true u pid.0 h))

  is_new : (q : ℕ) → is_new_child J pid.0 q ≡ true → (made_at_step J pid.0 < q) × (child_in pid.0 (node_of J q) ≡ true)
  is_new q h = let p = Rattle.std.proofs.lemmas.Bool.and_parts (nat_lt (made_at_step J pid.0) q) (child_in pid.0 (node_of J q)) h in (Rattle.std.proofs.lemmas.Bool.ltb-true (made_at_step J pid.0) q p.0, p.1)

  child_facts : (r : Region) → moved_by step.node.args ≡ Some r → (n : ℕ) → last_answer J pid.0 ≡ Some (answer_is.Wait n) → Rattle.hm_single.proofs.Rows.Child J pid.0 (child_of_step J pid.0) (node_of J (child_of_step J pid.0)) (last_answer J (child_of_step J pid.0))
  child_facts r m n l =
      let c = waits_child r n (at_start r m (Some (answer_is.Wait n)) l) in
      let q = child_of_step J pid.0 in
      record {
        stopped = child_stopped J grown pid.0 (ready_ended n l) q c.0 c.1 c.2 c.3;
        on = λ told e is.
            let t = told_by J pid.0 told_is.Opened (made J + 1) is in
            let new = is_new t.0 t.1 in
            let up = parent_of t.0 (node_of J t.0) refl new.1 in
            let one : t.0 ≡ q = kept.only pid.0 r (my_moves r m) t.0 up.0 up.1 up.2 up.3 new.0 in
            let same : told ≡ t.2 = same_Some told t.2 (ap done_with (sym e) ∙ ap (λ x. done_with (last_answer J x)) (sym one) ∙ t.3) in
            same ∙ told_opened t.2 t.4;
        off = λ told e is opened.
            let lt : q < made J + 1 = (let le = is_there J grown q c.0 c.1 in omega (arith, le)) in
            let new : is_new_child J pid.0 q ≡ true = and_from (nat_lt (made_at_step J pid.0) q) (child_in pid.0 (node_of J q)) (lt-ltb (made_at_step J pid.0) q (omega arith)) (ap (child_in pid.0) c.1 ∙ ap (is_parent pid.0) c.3 ∙ eq-eqb pid.0 pid.0 refl) in
            let n = not_told_by J pid.0 told_is.Opened (made J + 1) is q lt new told (ap done_with e) in
            true≢false (sym (ap (λ x. Rattle.hm_data.specs.Numbers.told_number x == Rattle.hm_data.specs.Numbers.told_number told_is.Opened) opened) ∙ n);
        opens = λ s server call t told.
            let f = grown.fits q t told in
            let v = grown.verbs q f.0 f.1 in
            let one : v.0 ≡ call.0 = same_Some v.0 call.0 (sym v.1 ∙ call.1) in
            let verb : f.0 ≡ verb_is.AssignRegion s = same_Some f.0 (verb_is.AssignRegion s) (sym v.2 ∙ ap (λ (x : Node). verb_in x.args) one ∙ ap verb_in call.2) in
            fits_open s t (ap (λ x. fits_verb x t) (sym verb) ∙ f.2);
        closes = λ s server call t told.
            let f = grown.fits q t told in
            let v = grown.verbs q f.0 f.1 in
            let one : v.0 ≡ call.0 = same_Some v.0 call.0 (sym v.1 ∙ call.1) in
            let verb : f.0 ≡ verb_is.CloseRegion s = same_Some f.0 (verb_is.CloseRegion s) (sym v.2 ∙ ap (λ (x : Node). verb_in x.args) one ∙ ap verb_in call.2) in
            fits_close s t (ap (λ x. fits_verb x t) (sym verb) ∙ f.2);
      }

  move_kind : (r : Region) → moved_by step.node.args ≡ Some r → kind_of step.node.args ≡ 10
  move_kind r m = elim (part_of step.node.args) [
    | lined exact unmoved uncalled ↦ absurd (none-some r (sym unmoved ∙ m))
    | crash kind unmoved uncalled ↦ absurd (none-some r (sym unmoved ∙ m))
    | moves s moved kind uncalled ↦ kind
    | calls verb v unmoved exact ↦ absurd (none-some r (sym unmoved ∙ m))
  ]

  -- what a transit's step leaves
  leaves : (r : Region) → moved_by step.node.args ≡ Some r → Leaves J r (last_call J r) (place_of J r) out
  leaves r m =
      let kind = move_kind r m in
      transit_step J pid.0 pick out step.row step.node.above step.node.root step.node.first r (last_call J r) (last_answer J pid.0) refl runs_now (child_of_step J pid.0) (node_of J (child_of_step J pid.0)) (last_answer J (child_of_step J pid.0)) (λ n l. child_facts r m n l) (at_start r m (last_answer J pid.0) refl) step.node.args m (ap (λ k. slice_get (exact_rows k) (row_of J pid.0 step.node)) kind ∙ move_row J pid.0 pick out step (λ lined. grown.led pid.0 step.node step.node_is lined step.sheet step.sheet_is runs_now) (λ verb v. grown.calls pid.0 step.node step.node_is verb v) kind) step.out_is step.right

  later_step : Later J J'
  unfolding J'
  later_step = record {
    reports = λ p t h. h;
    fences = λ s h. h;
    based = λ r. refl;
    peers = λ p peer h. by_node p (node_of J p) refl (verb_of J p) refl peer h;
  }
    where
      by_node : (p : ℕ) (n : Option Node) → node_of J p ≡ n → (v : Option Verb) → verb_of J p ≡ v → (peer : Peer) → peer_if n v ≡ Some peer → peer_of (entry_is.Step pid pick out ∷ J) p ≡ Some peer
      by_node p None e v f peer h = absurd (none-some peer h)
      by_node p (Some node) e None f peer h = absurd (none-some peer h)
      by_node p (Some node) e (Some verb) f peer h = rw (still_there pid pick out J grown step d p node e, verb_stays pid pick out J grown step d p verb f) h

  place_is : (r : Region) → place_of J' r ≡ placed_by r (region_of step.node.args) out.place (place_of J r)
  unfolding J'
  place_is r = ap (λ n. placed_by r (region_if n) out.place (place_of J r)) step.node_is

  work_is : (r : Region) → work_of J' r ≡ worked r (moved_by step.node.args) pid.0 (work_of J r)
  unfolding J'
  work_is r = ap (λ n. worked r (moved_if n) pid.0 (work_of J r)) step.node_is

  work_same : (r : Region) → is_the_region r (moved_by step.node.args) ≡ false → work_of J' r ≡ work_of J r
  work_same r off = work_is r ∙ cond-false (is_the_region r (moved_by step.node.args)) (Some pid.0) (work_of J r) off

  work_here : (r : Region) → moved_by step.node.args ≡ Some r → work_of J' r ≡ Some pid.0
  work_here r m = work_is r ∙ cond-true (is_the_region r (moved_by step.node.args)) (Some pid.0) (work_of J r) (is_itself r (moved_by step.node.args) m)

  -- who calls a region server moves no region
  unmoved_by : (r : Region) → caller_region step.node.args ≡ Some r → moved_by step.node.args ≡ None
  unmoved_by r c = (caller_facts step.node.args (region_caller step.node.args r c)).0

  work_asks : (r : Region) → caller_region step.node.args ≡ Some r → work_of J' r ≡ work_of J r
  work_asks r c = work_same r (ap (is_the_region r) (unmoved_by r c))

  place_asks : (r : Region) → caller_region step.node.args ≡ Some r → place_of J' r ≡ place_of J r
  place_asks r c = place_is r ∙ ap (λ o. placed_by r (region_of step.node.args) o (place_of J r)) (d.unplaced (unmoved_by r c))

  place_here : (r : Region) → moved_by step.node.args ≡ Some r → place_of J' r ≡ set_place out.place (place_of J r)
  place_here r m = place_is r ∙ placed_here r (region_of step.node.args) out.place (place_of J r) (moved_region step.node.args r m).0

  place_apart : (r : Region) → is_the_region r (moved_by step.node.args) ≡ false → place_of J' r ≡ place_of J r
  place_apart r off = place_is r ∙ by (moved_by step.node.args) refl
    where
      by : (o : Option Region) → moved_by step.node.args ≡ o → placed_by r (region_of step.node.args) out.place (place_of J r) ≡ place_of J r
      by None e = ap (λ x. placed_by r (region_of step.node.args) x (place_of J r)) (d.unplaced e)
      by (Some s) e = placed_apart r (region_of step.node.args) out.place (place_of J r) (ap (is_the_region r) ((moved_region step.node.args s e).0 ∙ sym e) ∙ off)

  -- a call that is made is about the region of its procedure
  about_is : (r : Region) → is_about r out.call ≡ true → caller_region step.node.args ≡ Some r
  about_is r about = by out.call refl about
    where
      by : (o : Option Verb) → out.call ≡ o → is_about r o ≡ true → caller_region step.node.args ≡ Some r
      by None e h = absurd (false≢true h)
      by (Some verb) e h = elim (the_region r (caller_region step.node.args)) [
        | inl same ↦ same
        | inr other ↦ absurd (true≢false (sym h ∙ ap (is_the_region r) (called_region step.node.args verb (call_mine pid pick out J grown step d verb e).0) ∙ other))
      ]

  last_apart : (r : Region) → is_the_region r (caller_region step.node.args) ≡ false → last_call J' r ≡ last_call J r
  unfolding J'
  last_apart r off = elim (cases_Bool (is_about r out.call)) [
    | inl on ↦ absurd (true≢false (sym (is_itself r (caller_region step.node.args) (about_is r on)) ∙ off))
    | inr not_about ↦ cond-false (is_about r out.call) (Some pid.0) (last_call J r) not_about
  ]

  last_silent : (r : Region) → out.call ≡ None → last_call J' r ≡ last_call J r
  unfolding J'
  last_silent r e = ap (λ o. cond (is_about r o) (Some pid.0) (last_call J r)) e

  last_here : (r : Region) → is_about r out.call ≡ true → last_call J' r ≡ Some pid.0
  unfolding J'
  last_here r on = cond-true (is_about r out.call) (Some pid.0) (last_call J r) on

  -- a transit of another region, or a call of one, isn't the one that steps
  mover_not_me : (p : ℕ) (r : Region) → is_the_region r (moved_by step.node.args) ≡ false → Moves J p r → p ≢ pid.0
  mover_not_me p r off m e =
      let one : m.0 ≡ step.node = same_Some m.0 step.node (sym m.1 ∙ ap (node_of J) e ∙ step.node_is) in
      true≢false (sym (is_itself r (moved_by step.node.args) (ap (λ (n : Node). moved_by n.args) (sym one) ∙ m.2)) ∙ off)

  caller_not_me : (q : ℕ) (r : Region) (node : Node) → is_the_region r (caller_region step.node.args) ≡ false → node_of J q ≡ Some node → caller_region node.args ≡ Some r → q ≢ pid.0
  caller_not_me q r node off is on e =
      let one : node ≡ step.node = same_Some node step.node (sym is ∙ ap (node_of J) e ∙ step.node_is) in
      true≢false (sym (is_itself r (caller_region step.node.args) (ap (λ (n : Node). caller_region n.args) (sym one) ∙ on)) ∙ off)

  stage_apart : (r : Region) → is_the_region r (moved_by step.node.args) ≡ false → is_the_region r (caller_region step.node.args) ≡ false → StageFor J' r (work_of J' r)
  unfolding J'
  stage_apart r unmoved uncalled = stage_later J J' later_step r (place_apart r unmoved) (last_apart r uncalled) (work_same r unmoved)
      (λ p w. let ne = mover_not_me p r unmoved (kept.worker p r w).0 in (other_answer pid pick out J p ne, other_steps pid pick out J p ne))
      (λ q node is on. (node_same pid pick out J q (is_there J grown q node is), other_answer pid pick out J q (caller_not_me q r node uncalled is on))) (kept.stage r)

  -- calls that were made have numbers of procedures that were made
  below : (q : ℕ) (r : Region) → made J < q → IsLater q (last_call J r)
  below q r lt = by (last_call J r) refl
    where
      by : (o : Option ℕ) → last_call J r ≡ o → IsLater q o
      by None e = tt
      by (Some p) e = by_verb (verb_of J p) refl (grown.last_is r p e)
        where
          by_verb : (v : Option Verb) → verb_of J p ≡ v → is_about r v ≡ true → p < q
          by_verb None f h = absurd (false≢true h)
          by_verb (Some verb) f h = let v = grown.verbs p verb f in let le = is_there J grown p v.0 v.1 in omega (arith, le, lt)

  stage_here : (r : Region) → moved_by step.node.args ≡ Some r → StageFor J' r (work_of J' r)
  unfolding J'
  stage_here r m =
      let left = leaves r m in
      rw (work_here r m, place_here r m, last_silent r left.silent, answer_now pid pick out J, steps_now pid pick out J)
      (row_next J J' later_step pid.0 r (set_place out.place (place_of J r)) (last_call J r) out.answer out.children (made J + 1) (node_of J' (made J + 1)) (last_answer J' (made J + 1)) fresh (below (made J + 1) r (omega arith)) left.next)
    where
      fresh : (a : Args) → out.children ≡ child_is.One a ∷ [] → CallIs pid.0 (node_of (entry_is.Step pid pick out ∷ J) (made J + 1)) a × (last_answer (entry_is.Step pid pick out ∷ J) (made J + 1) ≡ None)
      fresh a one =
          let zero_is : made J + 1 - made J - 1 ≡ 0 = omega arith in (
            (child_of pid.0 step.node a, node_new pid pick out J step.node step.node_is (made J + 1) (omega arith) ∙ rw (zero_is, one) refl, refl, (step.node.above, refl)),
            other_answer pid pick out J (made J + 1) (λ e. let le = pid_there pid pick out J grown step d in omega (arith, le, e)) ∙ grown.unmade (made J + 1) (grown.numbered (made J + 1) (omega arith)),
          )

  -- a call that steps, seen from its transit
  call_row : (p : ℕ) (r : Region) (n : ℕ) → caller_region step.node.args ≡ Some r → AtRow J p r (place_of J r) (last_call J r) (Some (answer_is.Wait n)) pid.0 (node_of J pid.0) (last_answer J pid.0) → AtRow J' p r (place_of J r) (last_call J' r) (Some (answer_is.Wait n)) pid.0 (node_of J' pid.0) (Some out.answer)
  unfolding J'
  call_row p r n c (inl h) =
      let one : h.3.0 ≡ step.node = same_Some h.3.0 step.node (sym h.3.1 ∙ step.node_is) in
      let args : step.node.args ≡ args_are.AssignCall r h.1 = ap (λ (x : Node). x.args) (sym one) ∙ h.3.2 in
      inl (
        h.0,
        h.1,
        h.2,
        (step.node, still_there pid pick out J grown step d pid.0 step.node step.node_is, args, (h.3.3.0, ap (λ (x : Node). x.above) (sym one) ∙ h.3.3.1)),
        calls_step J J' later_step pid.0 step.node.args h.1 (verb_is.AssignRegion r) out (ap is_caller args) (ap called_by args) (last_call J r) (last_call J' r) (IsVoid J r (last_call J r)) (IsVoid J' r (last_call J' r)) (last_silent r)
            (λ asks. (last_here r (ap (is_about r) asks ∙ is_itself r (Some r) refl), ap (λ x. peer_if x (verb_of J' pid.0)) (still_there pid pick out J grown step d pid.0 step.node step.node_is) ∙ ap (peer_if (Some step.node)) (verb_now pid pick out J ∙ ap (λ o. option_or o (verb_of J pid.0)) asks) ∙ ap (λ a. Some (peer_in a)) args))
            (last_answer J pid.0) (d.calls (verb_is.AssignRegion r) (ap verb_in args)) runs_now h.4
            (λ same void. subst (IsVoid J' r) (sym same) (void_later J J' later_step r (last_call J r) void)),
      )
  call_row p r n c (inr h) =
      let one : h.3.0 ≡ step.node = same_Some h.3.0 step.node (sym h.3.1 ∙ step.node_is) in
      let args : step.node.args ≡ args_are.CloseCall r h.1 = ap (λ (x : Node). x.args) (sym one) ∙ h.3.2 in
      inr (
        h.0,
        h.1,
        h.2,
        (step.node, still_there pid pick out J grown step d pid.0 step.node step.node_is, args, (h.3.3.0, ap (λ (x : Node). x.above) (sym one) ∙ h.3.3.1)),
        calls_step J J' later_step pid.0 step.node.args h.1 (verb_is.CloseRegion r) out (ap is_caller args) (ap called_by args) (last_call J r) (last_call J' r) (IsOpenedBy J r (last_call J r) h.1) (IsOpenedBy J' r (last_call J' r) h.1) (last_silent r)
            (λ asks. (last_here r (ap (is_about r) asks ∙ is_itself r (Some r) refl), ap (λ x. peer_if x (verb_of J' pid.0)) (still_there pid pick out J grown step d pid.0 step.node step.node_is) ∙ ap (peer_if (Some step.node)) (verb_now pid pick out J ∙ ap (λ o. option_or o (verb_of J pid.0)) asks) ∙ ap (λ a. Some (peer_in a)) args))
            (last_answer J pid.0) (d.calls (verb_is.CloseRegion r) (ap verb_in args)) runs_now h.4
            (λ same opened. subst (λ l. IsOpenedBy J' r l h.1) (sym same) (opened_later J J' later_step r (last_call J r) h.1 opened)),
      )

  -- the transit for which a call is made, and where it stands
  calling_row : (r : Region) → caller_region step.node.args ≡ Some r → (p : ℕ) × (work_of J r ≡ Some p) × (child_of_step J p ≡ pid.0) × (n : ℕ) × (last_answer J p ≡ Some (answer_is.Wait n)) × AtRow J p r (place_of J r) (last_call J r) (Some (answer_is.Wait n)) pid.0 (node_of J pid.0) (last_answer J pid.0)
  calling_row r c =
      let k = kept.calling pid.0 step.node r step.node_is c runs_now in
      by k.0 k.1 k.2 (last_answer J k.0) refl k.3 (subst (λ q. AtRow J k.0 r (place_of J r) (last_call J r) (last_answer J k.0) q (node_of J q) (last_answer J q)) k.2 (subst (StageFor J r) k.1 (kept.stage r)))
    where
      by : (p : ℕ) → work_of J r ≡ Some p → child_of_step J p ≡ pid.0 → (o : Option Answer) → last_answer J p ≡ o → IsWaiting o → AtRow J p r (place_of J r) (last_call J r) o pid.0 (node_of J pid.0) (last_answer J pid.0)
          → (p : ℕ) × (work_of J r ≡ Some p) × (child_of_step J p ≡ pid.0) × (n : ℕ) × (last_answer J p ≡ Some (answer_is.Wait n)) × AtRow J p r (place_of J r) (last_call J r) (Some (answer_is.Wait n)) pid.0 (node_of J pid.0) (last_answer J pid.0)
      by p w c (Some (answer_is.Wait n)) e waits h = (p, w, c, n, e, h)
      by p w c None e waits h = absurd waits
      by p w c (Some (answer_is.More n)) e waits h = absurd waits
      by p w c (Some (answer_is.Await n)) e waits h = absurd waits
      by p w c (Some (answer_is.Done told)) e waits h = absurd waits
      by p w c (Some (answer_is.Fail cause)) e waits h = absurd waits
      by p w c (Some answer_is.Undone) e waits h = absurd waits

  worker_not_me : (p : ℕ) (r : Region) → caller_region step.node.args ≡ Some r → work_of J r ≡ Some p → p ≢ pid.0
  worker_not_me p r c w = mover_not_me p r (ap (is_the_region r) (unmoved_by r c)) (kept.worker p r w).0

  stage_asks : (r : Region) → caller_region step.node.args ≡ Some r → StageFor J' r (work_of J' r)
  unfolding J'
  stage_asks r c =
      let k = calling_row r c in
      let ne = worker_not_me k.0 r c k.1 in
      subst (StageFor J' r) (sym (work_asks r c ∙ k.1))
      (subst (λ q. AtRow J' k.0 r (place_of J' r) (last_call J' r) (last_answer J' k.0) q (node_of J' q) (last_answer J' q)) (sym (ap (λ n. n + 1) (other_steps pid pick out J k.0 ne) ∙ k.2))
      (rw (other_answer pid pick out J k.0 ne ∙ k.4, place_asks r c, answer_now pid pick out J) (call_row k.0 r k.3 c k.5)))

  stage_now : (r : Region) → StageFor J' r (work_of J' r)
  stage_now r = elim (where_is step.node.args r) [
    | apart unmoved uncalled ↦ stage_apart r unmoved uncalled
    | here m ↦ stage_here r m
    | asks c ↦ stage_asks r c
  ]

  -- a transit with a step was there before
  moves_old : (p : ℕ) (r : Region) → Moves J' p r → p ≤ made J → Moves J p r
  unfolding J'
  moves_old p r m le = (m.0, sym (node_same pid pick out J p le) ∙ m.1, m.2)

  moves_still : (p : ℕ) (r : Region) → Moves J p r → Moves J' p r
  unfolding J'
  moves_still p r m = (m.0, still_there pid pick out J grown step d p m.0 m.1, m.2)

  new_silent : (q : ℕ) → made J < q → last_answer J' q ≡ None
  unfolding J'
  new_silent q lt = other_answer pid pick out J q (λ e. let le = pid_there pid pick out J grown step d in omega (arith, le, lt, e)) ∙ grown.unmade q (grown.numbered q lt)

  stepped_old : (p : ℕ) → last_answer J' p ≢ None → p ≤ made J
  stepped_old p some = elim (le_or_lt p (made J)) [ inl le ↦ le | inr lt ↦ absurd (some (new_silent p lt)) ]

  mine : (p : ℕ) (node : Node) → p ≡ pid.0 → node_of J' p ≡ Some node → node ≡ step.node
  unfolding J'
  mine p node same is = same_Some node step.node (sym is ∙ ap (node_of (entry_is.Step pid pick out ∷ J)) same ∙ still_there pid pick out J grown step d pid.0 step.node step.node_is)

  works_now : (p : ℕ) (r : Region) → Moves J' p r → IsGoing (last_answer J' p) → work_of J' r ≡ Some p
  unfolding J'
  works_now p r m going = elim (cases_eq p pid.0) [
    | inl same ↦ work_here r (ap (λ (n : Node). moved_by n.args) (sym (mine p m.0 same m.1)) ∙ m.2) ∙ ap Some (sym same)
    | inr differs ↦
        let was = subst IsGoing (other_answer pid pick out J p differs) going in
        let old = moves_old p r m (stepped_old p (going_some (last_answer J' p) going)) in
        elim (where_is step.node.args r) [
          | apart unmoved uncalled ↦ work_same r unmoved ∙ kept.works p r old was
          | asks c ↦ work_asks r c ∙ kept.works p r old was
          | here moved ↦ absurd (alone p r moved differs was old)
        ]
  ]

  answered : (p : ℕ) → last_answer J p ≢ None → last_answer J' p ≢ None
  unfolding J'
  answered p some none = elim (cases_eq p pid.0) [
    | inl same ↦ none-some out.answer (sym none ∙ ap (last_answer (entry_is.Step pid pick out ∷ J)) same ∙ answer_now pid pick out J)
    | inr differs ↦ some (sym (other_answer pid pick out J p differs) ∙ none)
  ]

  old_worker : (p : ℕ) (r : Region) → work_of J r ≡ Some p → Moves J' p r × (last_answer J' p ≢ None)
  old_worker p r w = let k = kept.worker p r w in (moves_still p r k.0, answered p k.1)

  worker_now : (p : ℕ) (r : Region) → work_of J' r ≡ Some p → Moves J' p r × (last_answer J' p ≢ None)
  unfolding J'
  worker_now p r w = elim (where_is step.node.args r) [
    | apart unmoved uncalled ↦ old_worker p r (sym (work_same r unmoved) ∙ w)
    | asks c ↦ old_worker p r (sym (work_asks r c) ∙ w)
    | here m ↦
        let same : pid.0 ≡ p = same_Some pid.0 p (sym (work_here r m) ∙ w) in
        subst (λ x. Moves J' x r × (last_answer J' x ≢ None)) same (moves_still pid.0 r (my_moves r m), λ none. none-some out.answer (sym none ∙ answer_now pid pick out J))
  ]

  Calling : ℕ → Region → Type 0
  Calling q r = (p : ℕ) × (work_of J' r ≡ Some p) × (child_of_step J' p ≡ q) × IsWaiting (last_answer J' p)

  -- the transit that waits for a call doesn't step now
  waiter_not_me : (p q : ℕ) (r : Region) (node : Node) → node_of J q ≡ Some node → work_of J r ≡ Some p → child_of_step J p ≡ q → IsWaiting (last_answer J p) → is_stopped (last_answer J q) ≡ false → p ≢ pid.0
  waiter_not_me p q r node is w c waits open_still same = by (last_answer J pid.0) refl (subst (λ x. IsWaiting (last_answer J x)) same waits)
    where
      by : (o : Option Answer) → last_answer J pid.0 ≡ o → IsWaiting o → ⊥
      by (Some (answer_is.Wait n)) e wait =
          let moved = subst (λ x. Moves J x r) same (kept.worker p r w).0 in
          let one : moved.0 ≡ step.node = same_Some moved.0 step.node (sym moved.1 ∙ step.node_is) in
          let at = waits_child r n (at_start r (ap (λ (x : Node). moved_by x.args) (sym one) ∙ moved.2) (Some (answer_is.Wait n)) e) in
          let child : child_of_step J pid.0 ≡ q = ap (child_of_step J) (sym same) ∙ c in
          true≢false (sym (ap (λ x. is_stopped (last_answer J x)) (sym child) ∙ child_stopped J grown pid.0 (ready_ended n e) (child_of_step J pid.0) at.0 at.1 at.2 at.3) ∙ open_still)
      by None e wait = wait
      by (Some (answer_is.More n)) e wait = wait
      by (Some (answer_is.Await n)) e wait = wait
      by (Some (answer_is.Done told)) e wait = wait
      by (Some (answer_is.Fail cause)) e wait = wait
      by (Some answer_is.Undone) e wait = wait

  calling_old : (q : ℕ) (r : Region) (node : Node) → node_of J q ≡ Some node → caller_region node.args ≡ Some r → is_stopped (last_answer J q) ≡ false → Calling q r
  unfolding J' Calling
  calling_old q r node is on open_still =
      let k = kept.calling q node r is on open_still in
      let ne = waiter_not_me k.0 q r node is k.1 k.2 k.3 open_still in
      let work : work_of J' r ≡ work_of J r = elim (where_is step.node.args r) [
        | apart unmoved uncalled ↦ work_same r unmoved
        | asks c ↦ work_asks r c
        | here m ↦ absurd (alone k.0 r m ne (waits_going (last_answer J k.0) k.3) (kept.worker k.0 r k.1).0)
      ] in
      (k.0, work ∙ k.1, ap (λ n. n + 1) (other_steps pid pick out J k.0 ne) ∙ k.2, subst IsWaiting (sym (other_answer pid pick out J k.0 ne)) k.3)

  -- whose child calls a region server is a transit of the region
  born : (q : ℕ) (r : Region) (node : Node) → made J < q → node_of J' q ≡ Some node → caller_region node.args ≡ Some r → Calling q r
  unfolding J' Calling
  born q r node lt is on =
      let c = new_child pid pick out J step.node step.node_is q lt node is in
      let caller : is_caller c.0 ≡ true = ap (λ (n : Node). is_caller n.args) (sym c.2) ∙ region_caller node.args r on in
      by_part c.0 caller c.1 (ap caller_region (ap (λ (n : Node). n.args) (sym c.2)) ∙ on) (moved_by step.node.args) refl
    where
      index_zero : q - made J - 1 ≡ 0 → made J + 1 ≡ q
      index_zero e = omega (arith, lt, e)

      by_part : (a : Args) → is_caller a ≡ true → slice_get (args_in out.children) (q - made J - 1) ≡ Some a → caller_region a ≡ Some r → (o : Option Region) → moved_by step.node.args ≡ o → (p : ℕ) × (work_of (entry_is.Step pid pick out ∷ J) r ≡ Some p) × (child_of_step (entry_is.Step pid pick out ∷ J) p ≡ q) × IsWaiting (last_answer (entry_is.Step pid pick out ∷ J) p)
      by_part a caller get region None e = absurd (Rattle.hm_single.proofs.Kin.bears_unmoved step.node.args a e caller (d.bearing (q - made J - 1) a get))
      by_part a caller get region (Some s) e =
          let left = leaves s e in
          let zero_is = d.single s e (q - made J - 1) a get in
          let one : s ≡ r = by_next a get region out.answer left.next in
          (pid.0, work_here r (e ∙ ap Some one), ap (λ n. n + 1) (steps_now pid pick out J) ∙ index_zero zero_is, subst IsWaiting (sym (answer_now pid pick out J)) (by_wait a get out.answer left.next))
        where
          no_child : (a : Args) → slice_get (args_in out.children) (q - made J - 1) ≡ Some a → out.children ≡ [] → ⊥
          no_child a get none = none-some a (ap (λ c. slice_get (args_in c) (q - made J - 1)) (sym none) ∙ get)

          by_wait : (a : Args) → slice_get (args_in out.children) (q - made J - 1) ≡ Some a → (answer : Answer) → Next J s (last_call J s) (set_place out.place (place_of J s)) out.children answer → IsWaiting (Some answer)
          by_wait a get (answer_is.Wait n) h = tt
          by_wait a get (answer_is.Await n) h = h
          by_wait a get answer_is.Undone h = h
          by_wait a get answer h = no_child a get h.1

          the_child : (a own : Args) → slice_get (args_in out.children) (q - made J - 1) ≡ Some a → out.children ≡ child_is.One own ∷ [] → own ≡ a
          the_child a own get one = by_index (q - made J - 1) (ap (λ c. slice_get (args_in c) (q - made J - 1)) (sym one) ∙ get)
            where
              by_index : (i : ℕ) → slice_get (own ∷ []) i ≡ Some a → own ≡ a
              by_index zero g = same_Some own a g
              by_index (suc i) g = absurd (none-some a g)

          by_next : (a : Args) → slice_get (args_in out.children) (q - made J - 1) ≡ Some a → caller_region a ≡ Some r → (answer : Answer) → Next J s (last_call J s) (set_place out.place (place_of J s)) out.children answer → s ≡ r
          by_next a get region (answer_is.Wait n) (inl h) = same_Some s r (ap caller_region (the_child a (args_are.AssignCall s h.1) get h.4) ∙ region)
          by_next a get region (answer_is.Wait n) (inr h) = same_Some s r (ap caller_region (the_child a (args_are.CloseCall s h.1) get h.4) ∙ region)
          by_next a get region (answer_is.Await n) h = absurd h
          by_next a get region answer_is.Undone h = absurd h
          by_next a get region answer h = absurd (no_child a get h.1)

  ran : (q : ℕ) → is_stopped (last_answer J' q) ≡ false → is_stopped (last_answer J q) ≡ false
  unfolding J'
  ran q now = ran_before pid pick out J runs_now q now

  calling_now : (q : ℕ) (node : Node) (r : Region) → node_of J' q ≡ Some node → caller_region node.args ≡ Some r → is_stopped (last_answer J' q) ≡ false → (p : ℕ) × (work_of J' r ≡ Some p) × (child_of_step J' p ≡ q) × IsWaiting (last_answer J' p)
  unfolding J' Calling
  calling_now q node r is on now = elim (le_or_lt q (made J)) [
    | inl le ↦ calling_old q r node (sym (node_same pid pick out J q le) ∙ is) on (ran q now)
    | inr lt ↦ born q r node lt is on
  ]

  only_now : (p : ℕ) (r : Region) → Moves J' p r → (q : ℕ) (node : Node) → node_of J' q ≡ Some node → (rest : List ℕ) → node.above ≡ p ∷ rest → made_at_step J' p < q → q ≡ child_of_step J' p
  unfolding J'
  only_now p r m q node is rest above lt = elim (le_or_lt q (made J)) [
    | inl le ↦
        let was = sym (node_same pid pick out J q le) ∙ is in
        let up = grown.ups q node was p rest above in
        let same : m.0 ≡ up.0 = same_Some m.0 up.0 (sym m.1 ∙ still_there pid pick out J grown step d p up.0 up.1) in
        elim (cases_eq p pid.0) [
          | inl mine ↦ (let e = ap (made_at_step (entry_is.Step pid pick out ∷ J)) mine ∙ steps_now pid pick out J in absurd (omega (arith, lt, le, e)))
          | inr differs ↦ kept.only p r (m.0, up.1 ∙ ap Some (sym same), m.2) q node was rest above (subst (λ n. n < q) (other_steps pid pick out J p differs) lt) ∙ ap (λ n. n + 1) (sym (other_steps pid pick out J p differs))
        ]
    | inr new ↦
        let c = new_child pid pick out J step.node step.node_is q new node is in
        let me : pid.0 ≡ p = heads (ap (λ (n : Node). n.above) (sym c.2) ∙ above) in
        let one : m.0 ≡ step.node = mine p m.0 (sym me) m.1 in
        let zero_is = d.single r (ap (λ (n : Node). moved_by n.args) (sym one) ∙ m.2) (q - made J - 1) c.0 c.1 in
        let at : q ≡ made J + 1 = omega (arith, new, zero_is) in
        at ∙ ap (λ n. n + 1) (sym (steps_now pid pick out J)) ∙ ap (child_of_step (entry_is.Step pid pick out ∷ J)) me
  ]
    where
      heads : {rest : List ℕ} {p : ℕ} → pid.0 ∷ step.node.above ≡ p ∷ rest → pid.0 ≡ p
      heads e = cc

  root_is : root_of J pid.0 ≡ step.node.root
  root_is = ap root_in step.node_is

  fresh_now : (p : ℕ) → node_of J' p ≡ None → (cause J' p ≡ None) × (stack J' p ≡ [])
  unfolding J'
  fresh_now p none =
      let was : node_of J p ≡ None = elim (le_or_lt p (made J)) [ inl le ↦ sym (node_same pid pick out J p le) ∙ none | inr lt ↦ grown.numbered p lt ] in
      let f = kept.fresh p was in
      let top = root_there J grown pid.0 step.node step.node_is in
      let off : (root_of J pid.0 == p) ≡ false = ne_eqb (root_of J pid.0) p (λ e. none-some top.0 (sym was ∙ ap (node_of J) (sym e ∙ root_is) ∙ top.1)) in
      (cond-false (root_of J pid.0 == p) (or_else (cause J p) (failing out.answer)) (cause J p) off ∙ f.0, cond-false (root_of J pid.0 == p) _ (stack J p) off ∙ f.1)

  -- a root that is a transit was there
  move_old : (p : ℕ) → IsMove J' p → IsMove J p
  unfolding J'
  move_old p m = elim (le_or_lt p (made J)) [
    | inl le ↦ record { node = m.node; node_is = sym (node_same pid pick out J p le) ∙ m.node_is; region = m.region; moved = m.moved; top = m.top }
    | inr lt ↦ let c = new_child pid pick out J step.node step.node_is p lt m.node m.node_is in absurd (cons_nil pid.0 step.node.above (ap (λ (n : Node). n.above) (sym c.2) ∙ m.top))
  ]

  -- in its tree none but itself fails
  kin_unfailing : (p : ℕ) → IsMove J p → step.node.root ≡ p → p ≢ pid.0 → failing out.answer ≡ None
  kin_unfailing p m root differs =
      let k = kin_of J grown p m pid.0 step.node step.node_is root (λ e. differs (sym e)) in
      by k.0 (verb_in step.node.args) refl (caller_facts step.node.args k.0).1
    where
      by : is_caller step.node.args ≡ true → (o : Option Verb) → verb_in step.node.args ≡ o → is_some o ≡ true → failing out.answer ≡ None
      by caller None e h = absurd (false≢true h)
      by caller (Some verb) e h = elim (d.calls verb e).does [
        | inl called ↦ ap failing called.2
        | inr ends ↦ elim ends.1 [
          | inl gone ↦ ap failing gone.0
          | inr other ↦ elim other [ inl told ↦ ap failing told.1 | inr failed ↦ absurd (true≢false (sym caller ∙ laying_not_caller _ failed.2)) ]
        ]
      ]

  or_none : (c e : Option Cause) → e ≡ None → or_else c e ≡ c
  or_none None e is = is
  or_none (Some c) e is = refl

  caused_now : (p : ℕ) → IsMove J' p → cause J' p ≡ fail_in (last_answer J' p)
  unfolding J'
  caused_now p m =
      let old = move_old p m in
      elim (cases_eq p pid.0) [
        | inl same ↦
            let one : m.node ≡ step.node = mine p m.node same m.node_is in
            let top : step.node.above ≡ [] = ap (λ (n : Node). n.above) (sym one) ∙ m.top in
            let root : root_of J pid.0 ≡ p = root_is ∙ grown.tops pid.0 step.node step.node_is top ∙ sym same in
            cond-true (root_of J pid.0 == p) (or_else (cause J p) (failing out.answer)) (cause J p) (eq-eqb (root_of J pid.0) p root)
            ∙ ap (λ c. or_else c (failing out.answer)) (ap (cause J) same ∙ step.uncaused (ap is_top top))
            ∙ ap fail_in (sym (ap (last_answer (entry_is.Step pid pick out ∷ J)) same ∙ answer_now pid pick out J))
        | inr differs ↦ by p old differs (cases_Bool (root_of J pid.0 == p)) ∙ kept.caused p old ∙ ap fail_in (sym (other_answer pid pick out J p differs))
      ]
    where
      by : (p : ℕ) → IsMove J p → p ≢ pid.0 → ((root_of J pid.0 == p) ≡ true) ⊎ ((root_of J pid.0 == p) ≡ false) → cause (entry_is.Step pid pick out ∷ J) p ≡ cause J p
      by p old differs (inl on) = cond-true (root_of J pid.0 == p) (or_else (cause J p) (failing out.answer)) (cause J p) on ∙ or_none (cause J p) (failing out.answer) (kin_unfailing p old (sym root_is ∙ eqb-true (root_of J pid.0) p on) differs)
      by p old differs (inr off) = cond-false (root_of J pid.0 == p) (or_else (cause J p) (failing out.answer)) (cause J p) off

  -- no row of a transit or of its calls has an undo
  undo_none : (p : ℕ) → IsMove J p → step.node.root ≡ p → step.row.undo ≡ back_is.Nothing
  undo_none p m root = elim (cases_eq p pid.0) [
    | inl same ↦
        let one : m.node ≡ step.node = same_Some m.node step.node (sym m.node_is ∙ ap (node_of J) same ∙ step.node_is) in
        by_kind 10 (move_kind m.region (ap (λ (n : Node). moved_by n.args) (sym one) ∙ m.moved)) _ _ refl refl
    | inr differs ↦
        let k = kin_of J grown p m pid.0 step.node step.node_is root (λ e. differs (sym e)) in
        by_caller step.node.args refl k.0
  ]
    where
      by_kind : (kind : ℕ) → kind_of step.node.args ≡ kind → (first : Row) (more : List Row) → exact_rows kind ≡ first ∷ more → all_rows is_undoless (exact_rows kind) ≡ true → step.row.undo ≡ back_is.Nothing
      by_kind kind e first more is all = no_undo step.row.undo (row_passes is_undoless (exact_rows kind) all (row_of J pid.0 step.node) step.row (ap (λ l. slice_get l (row_of J pid.0 step.node)) (is ∙ sym (exact_is step.sheet step.valid kind (step.of_kind ∙ e) first more is)) ∙ step.row_is))

      by_caller : (args : Args) → step.node.args ≡ args → is_caller args ≡ true → step.row.undo ≡ back_is.Nothing
      by_caller (args_are.AssignCall region server) e h = by_kind 23 (ap kind_of e) _ _ refl refl
      by_caller (args_are.CloseCall region server) e h = by_kind 24 (ap kind_of e) _ _ refl refl
      by_caller args e h = absurd (false≢true h)

  next_undo : undo_of_next J pid.0 (node_of J pid.0) ≡ step.row.undo
  next_undo = ap (undo_of_next J pid.0) step.node_is ∙ ap (λ s. undo_by (row_in s (row_of J pid.0 step.node))) step.sheet_is ∙ ap undo_by step.row_is

  stacks_now : (p : ℕ) → IsMove J' p → stack J' p ≡ []
  unfolding J'
  stacks_now p m = let old = move_old p m in by p old (cases_Bool (root_of J pid.0 == p)) ∙ kept.stacks p old
    where
      by : (p : ℕ) → IsMove J p → ((root_of J pid.0 == p) ≡ true) ⊎ ((root_of J pid.0 == p) ≡ false) → stack (entry_is.Step pid pick out ∷ J) p ≡ stack J p
      by p old (inl on) =
          cond-true (root_of J pid.0 == p) _ (stack J p) on
          ∙ unpushed (undo_of_next J pid.0 (node_of J pid.0)) (is_some (failing out.answer)) pid.0 (row_if_there J pid.0 (node_of J pid.0)) out.edits (stack J p) (next_undo ∙ undo_none p old (sym root_is ∙ eqb-true (root_of J pid.0) p on))
      by p old (inr off) = cond-false (root_of J pid.0 == p) _ (stack J p) off

  sound_now : (p : ℕ) (r : Region) → Moves J' p r → IsSoundLast (last_answer J' p)
  unfolding J'
  sound_now p r m = elim (cases_eq p pid.0) [
    | inl same ↦ subst IsSoundLast (sym (ap (last_answer (entry_is.Step pid pick out ∷ J)) same ∙ answer_now pid pick out J)) d.sound
    | inr differs ↦ elim (le_or_lt p (made J)) [
      | inl le ↦ subst IsSoundLast (sym (other_answer pid pick out J p differs)) (kept.sound p r (moves_old p r m le))
      | inr lt ↦ subst IsSoundLast (sym (new_silent p lt)) tt
    ]
  ]

  called_same : (p : ℕ) → ((p ≡ pid.0) → out.call ≡ None) → called_at J' p ≡ called_at J p
  unfolding J'
  called_same p silent = elim (cases_eq p pid.0) [
    | inl same ↦ cond-false ((p == pid.0) && is_some out.call) (length J) (called_at J p) (and_right (p == pid.0) (is_some out.call) (ap is_some (silent same)))
    | inr differs ↦ cond-false ((p == pid.0) && is_some out.call) (length J) (called_at J p) (Rattle.std.proofs.lemmas.Bool.and_left (p == pid.0) (is_some out.call) (ne_eqb p pid.0 differs))
  ]

  called_here : (verb : Verb) → out.call ≡ Some verb → called_at J' pid.0 ≡ length J
  unfolding J'
  called_here verb e = cond-true ((pid.0 == pid.0) && is_some out.call) (length J) (called_at J pid.0) (and_from (pid.0 == pid.0) (is_some out.call) (eq-eqb pid.0 pid.0 refl) (ap is_some e))

  -- who made a call makes no other
  silent_old : (p : ℕ) (verb : Verb) → verb_of J p ≡ Some verb → p ≡ pid.0 → out.call ≡ None
  silent_old p verb is same = by out.call refl
    where
      by : (o : Option Verb) → out.call ≡ o → o ≡ None
      by None e = refl
      by (Some v) e = absurd (none-some verb (sym (call_mine pid pick out J grown step d v e).3 ∙ ap (verb_of J) (sym same) ∙ is))

  calls_later_now : CallsLater J J'
  unfolding J'
  calls_later_now p verb is = (verb_stays pid pick out J grown step d p verb is, called_same p (silent_old p verb is))

  called_now : (p : ℕ) (verb : Verb) → verb_of J' p ≡ Some verb → called_at J' p < length J + 1
  unfolding J'
  called_now p verb is = elim (verb_was pid pick out J p verb is) [
    | inl was ↦ (let lt = kept.called p verb was in let e = (calls_later_now p verb was).1 in omega (arith, lt, e))
    | inr new ↦ (let e = ap (called_at (entry_is.Step pid pick out ∷ J)) new.0 ∙ called_here verb new.1 in omega (arith, e))
  ]

  -- a child that hasn't called finds what its transit found
  unmade_call : (server : Server) (r : Region) (Before : Type 0) → last_answer J pid.0 ≡ None → Calls J pid.0 server (last_call J r) Before (last_answer J pid.0) → Before × IsLater pid.0 (last_call J r)
  unmade_call server r Before none h = subst (Calls J pid.0 server (last_call J r) Before) none h

  pub finds_open : (r : Region) → out.call ≡ Some (verb_is.AssignRegion r) → IsVoid J r (last_call J r) × IsLater pid.0 (last_call J r)
  finds_open r e =
      let me = call_mine pid pick out J grown step d (verb_is.AssignRegion r) e in
      let c = about_is r (ap (is_about r) e ∙ is_itself r (Some r) refl) in
      let k = calling_row r c in
      by k.0 k.3 me.0 me.1 k.5
    where
      by : (p n : ℕ) → verb_in step.node.args ≡ Some (verb_is.AssignRegion r) → last_answer J pid.0 ≡ None → AtRow J p r (place_of J r) (last_call J r) (Some (answer_is.Wait n)) pid.0 (node_of J pid.0) (last_answer J pid.0) → IsVoid J r (last_call J r) × IsLater pid.0 (last_call J r)
      by p n v none (inl h) = unmade_call h.1 r (IsVoid J r (last_call J r)) none h.4
      by p n v none (inr h) =
          let one : h.3.0 ≡ step.node = same_Some h.3.0 step.node (sym h.3.1 ∙ step.node_is) in
          absurd (open_close r (same_Some _ _ (sym v ∙ ap (λ (x : Node). verb_in x.args) (sym one) ∙ ap verb_in h.3.2)))

  pub finds_close : (r : Region) → out.call ≡ Some (verb_is.CloseRegion r) → (server : Server) × (step.node.args ≡ args_are.CloseCall r server) × IsOpenedBy J r (last_call J r) server × IsLater pid.0 (last_call J r)
  finds_close r e =
      let me = call_mine pid pick out J grown step d (verb_is.CloseRegion r) e in
      let c = about_is r (ap (is_about r) e ∙ is_itself r (Some r) refl) in
      let k = calling_row r c in
      by k.0 k.3 me.0 me.1 k.5
    where
      by : (p n : ℕ) → verb_in step.node.args ≡ Some (verb_is.CloseRegion r) → last_answer J pid.0 ≡ None → AtRow J p r (place_of J r) (last_call J r) (Some (answer_is.Wait n)) pid.0 (node_of J pid.0) (last_answer J pid.0) → (server : Server) × (step.node.args ≡ args_are.CloseCall r server) × IsOpenedBy J r (last_call J r) server × IsLater pid.0 (last_call J r)
      by p n v none (inr h) =
          let one : h.3.0 ≡ step.node = same_Some h.3.0 step.node (sym h.3.1 ∙ step.node_is) in
          let f = unmade_call h.1 r (IsOpenedBy J r (last_call J r) h.1) none h.4 in
          (h.1, ap (λ (x : Node). x.args) (sym one) ∙ h.3.2, f.0, f.1)
      by p n v none (inl h) =
          let one : h.3.0 ≡ step.node = same_Some h.3.0 step.node (sym h.3.1 ∙ step.node_is) in
          absurd (open_close r (sym (same_Some _ _ (sym v ∙ ap (λ (x : Node). verb_in x.args) (sym one) ∙ ap verb_in h.3.2))))

  -- a report of an opening isn't that of a close
  told_verb : (p : ℕ) (verb : Verb) (t : Told) → verb_of J p ≡ Some verb → report_of J p ≡ Some t → fits_verb verb t ≡ true
  told_verb p verb t v is = let f = grown.fits p t is in ap (λ x. fits_verb x t) (same_Some verb f.0 (sym v ∙ f.1)) ∙ f.2

  not_closed : (r : Region) (p : ℕ) → verb_of J p ≡ Some (verb_is.AssignRegion r) → report_of J p ≡ Some told_is.Closed → ⊥
  not_closed r p v is = false≢true (told_verb p (verb_is.AssignRegion r) told_is.Closed v is)

  not_failed : (r : Region) (p : ℕ) → verb_of J p ≡ Some (verb_is.CloseRegion r) → report_of J p ≡ Some told_is.FailedOpen → ⊥
  not_failed r p v is = false≢true (told_verb p (verb_is.CloseRegion r) told_is.FailedOpen v is)

  not_opened : (r : Region) (p : ℕ) → verb_of J p ≡ Some (verb_is.CloseRegion r) → report_of J p ≡ Some told_is.Opened → ⊥
  not_opened r p v is = false≢true (told_verb p (verb_is.CloseRegion r) told_is.Opened v is)

  -- where the last call is void, each opening is over
  pub void_over : (r : Region) (p : ℕ) → verb_of J p ≡ Some (verb_is.AssignRegion r) → IsSettled J r p → IsVoid J r (last_call J r) → IsOver J p r
  void_over r p v (inl over) void = over
  void_over r p v (inr (inl last)) void = elim (subst (IsVoid J r) last void) [
    | inl failed ↦ inl failed
    | inr other ↦ elim other [ inl closed ↦ absurd (not_closed r p v closed) | inr gone ↦ inr (inr gone) ]
  ]
  void_over r p v (inr (inr c)) void = elim (subst (IsVoid J r) c.1 void) [
    | inl failed ↦ absurd (not_failed r c.0 c.2 failed)
    | inr other ↦ elim other [
      | inl closed ↦ inr (inl (c.0, c.2, c.3, c.4, closed))
      | inr gone ↦ inr (inr (gone.0, sym c.4 ∙ gone.1, gone.2))
    ]
  ]

  -- where the last call is void, a region that the base has open was left
  pub void_left : (r : Region) (server : Server) → IsBasedAt J r server → IsBaseSettled J r server → IsVoid J r (last_call J r) → IsLeft J r server
  void_left r server based (inl left) void = left
  void_left r server based (inr (inl none)) void = inr (subst (IsVoid J r) none void server based)
  void_left r server based (inr (inr c)) void = elim (subst (IsVoid J r) c.1 void) [
    | inl failed ↦ absurd (not_failed r c.0 c.2 failed)
    | inr other ↦ elim other [
      | inl closed ↦ inl (c.0, c.2, c.3, closed)
      | inr gone ↦ inr (subst (λ s. is_fenced J s ≡ true) (same_peer gone.0 server (sym gone.1 ∙ c.3)) gone.2)
    ]
  ]
    where
      same_peer : (s t : Server) → Some (peer_is.Server s) ≡ Some (peer_is.Server t) → s ≡ t
      same_peer s t e = cc

  over_now : (r : Region) (p : ℕ) → verb_of J p ≡ Some (verb_is.AssignRegion r) → IsOver J p r → IsOver J' p r
  over_now r p v over = over_later J J' later_step grown calls_later_now r p v over

  -- a close that is recorded now, and its server
  verb_called : (r : Region) → out.call ≡ Some (verb_is.CloseRegion r) → verb_of J' pid.0 ≡ Some (verb_is.CloseRegion r)
  unfolding J'
  verb_called r e = verb_now pid pick out J ∙ ap (λ o. option_or o (verb_of J pid.0)) e

  peer_called : (r : Region) (server : Server) → verb_of J' pid.0 ≡ Some (verb_is.CloseRegion r) → step.node.args ≡ args_are.CloseCall r server → peer_of J' pid.0 ≡ Some (peer_is.Server server)
  unfolding J'
  peer_called r server v args = ap (λ n. peer_if n (verb_of (entry_is.Step pid pick out ∷ J) pid.0)) (still_there pid pick out J grown step d pid.0 step.node step.node_is) ∙ ap (peer_if (Some step.node)) v ∙ ap (λ a. Some (peer_in a)) args

  -- where a close is recorded, each opening is over or that is its close
  close_settles : (r : Region) (p : ℕ) → out.call ≡ Some (verb_is.CloseRegion r) → verb_of J p ≡ Some (verb_is.AssignRegion r) → IsSettled J r p → IsSettled J' r p
  unfolding J'
  close_settles r p e v (inl over) = inl (over_now r p v over)
  close_settles r p e v (inr (inr c)) =
      let f = finds_close r e in
      elim f.2 [
        | inl o ↦ let same : o.0 ≡ c.0 = same_Some o.0 c.0 (sym o.1 ∙ c.1) in absurd (not_opened r c.0 c.2 (ap (report_of J) (sym same) ∙ o.3))
        | inr based ↦ absurd (none-some c.0 (sym based.0 ∙ c.1))
      ]
  close_settles r p e v (inr (inl last)) =
      let f = finds_close r e in
      elim f.2 [
        | inr based ↦ absurd (none-some p (sym based.0 ∙ last))
        | inl o ↦
            let same : o.0 ≡ p = same_Some o.0 p (sym o.1 ∙ last) in
            let on = ap (is_about r) e ∙ is_itself r (Some r) refl in
            let verb = verb_called r e in
            let mine = peer_called r f.0 verb f.1 in
            let other : peer_of J' p ≡ Some (peer_is.Server f.0) = later_step.peers p (peer_is.Server f.0) (ap (peer_of J) (sym same) ∙ o.2) in
            inr (inr (pid.0, last_here r on, verb, earlier (kept.called p (verb_is.AssignRegion r) v) (calls_later_now p (verb_is.AssignRegion r) v).1 (called_here (verb_is.CloseRegion r) e), mine ∙ sym other))
      ]
    where
      earlier : {a b c : ℕ} → c < length J → a ≡ c → b ≡ length J → a < b
      earlier lt e f = omega (arith, lt, e, f)

  settled_now : (r : Region) (p : ℕ) → verb_of J' p ≡ Some (verb_is.AssignRegion r) → IsSettled J' r p
  unfolding J'
  settled_now r p is = elim (verb_was pid pick out J p (verb_is.AssignRegion r) is) [
    | inr new ↦ inr (inl (last_here r (ap (is_about r) new.1 ∙ is_itself r (Some r) refl) ∙ ap Some (sym new.0)))
    | inl was ↦ by out.call refl was
  ]
    where
      by : (o : Option Verb) → out.call ≡ o → verb_of J p ≡ Some (verb_is.AssignRegion r) → IsSettled (entry_is.Step pid pick out ∷ J) r p
      by None e was = settled_later J (entry_is.Step pid pick out ∷ J) later_step grown calls_later_now r p (last_silent r e) was (kept.settled r p was)
      by (Some verb) e was = elim (cases_Bool (is_about r (Some verb))) [
        | inr off ↦ settled_later J (entry_is.Step pid pick out ∷ J) later_step grown calls_later_now r p (cond-false (is_about r out.call) (Some pid.0) (last_call J r) (ap (is_about r) e ∙ off)) was (kept.settled r p was)
        | inl on ↦ by_verb verb e on was
      ]
        where
          by_verb : (verb : Verb) → out.call ≡ Some verb → is_about r (Some verb) ≡ true → verb_of J p ≡ Some (verb_is.AssignRegion r) → IsSettled (entry_is.Step pid pick out ∷ J) r p
          by_verb (verb_is.AssignRegion s) e on was =
              let same : s ≡ r = sym ((Rattle.hm_model.proofs.KeyTests.same_region-Decides r s).0 on) in
              let f = finds_open r (e ∙ ap (λ x. Some (verb_is.AssignRegion x)) same) in
              inl (over_now r p was (void_over r p was (kept.settled r p was) f.0))
          by_verb (verb_is.CloseRegion s) e on was =
              let same : s ≡ r = sym ((Rattle.hm_model.proofs.KeyTests.same_region-Decides r s).0 on) in
              close_settles r p (e ∙ ap (λ x. Some (verb_is.CloseRegion x)) same) was (kept.settled r p was)
          by_verb verb e on was = absurd (false≢true on)

  verbs_later : (p : ℕ) (verb : Verb) → verb_of J p ≡ Some verb → verb_of J' p ≡ Some verb
  verbs_later p verb is = (calls_later_now p verb is).0

  -- where a close is recorded of a region that the base has open, it was left, or that is its close
  close_based : (r : Region) (server : Server) → out.call ≡ Some (verb_is.CloseRegion r) → IsBasedAt J r server → IsBaseSettled J r server → IsBaseSettled J' r server
  unfolding J'
  close_based r server e based (inl left) = inl (left_later J J' later_step verbs_later r server left)
  close_based r server e based (inr (inr c)) = elim (finds_close r e).2 [
    | inl o ↦ let same : o.0 ≡ c.0 = same_Some o.0 c.0 (sym o.1 ∙ c.1) in absurd (not_opened r c.0 c.2 (ap (report_of J) (sym same) ∙ o.3))
    | inr still ↦ absurd (none-some c.0 (sym still.0 ∙ c.1))
  ]
  close_based r server e based (inr (inl none)) =
      let f = finds_close r e in
      elim f.2 [
        | inl o ↦ absurd (none-some o.0 (sym none ∙ o.1))
        | inr still ↦
            let verb = verb_called r e in
            inr (inr (pid.0, last_here r (ap (is_about r) e ∙ is_itself r (Some r) refl), verb, peer_called r f.0 verb f.1 ∙ ap (λ s. Some (peer_is.Server s)) (based_one J r f.0 server still.1 based)))
      ]

  based_now : (r : Region) (server : Server) → IsBasedAt J' r server → IsBaseSettled J' r server
  unfolding J'
  based_now r server based = by out.call refl
    where
      was : IsBaseSettled J r server
      was = kept.based r server based

      by : (o : Option Verb) → out.call ≡ o → IsBaseSettled (entry_is.Step pid pick out ∷ J) r server
      by None e = based_later J (entry_is.Step pid pick out ∷ J) later_step verbs_later r server (last_silent r e) was
      by (Some verb) e = elim (cases_Bool (is_about r (Some verb))) [
        | inr off ↦ based_later J (entry_is.Step pid pick out ∷ J) later_step verbs_later r server (cond-false (is_about r out.call) (Some pid.0) (last_call J r) (ap (is_about r) e ∙ off)) was
        | inl on ↦ by_verb verb e on
      ]
        where
          by_verb : (verb : Verb) → out.call ≡ Some verb → is_about r (Some verb) ≡ true → IsBaseSettled (entry_is.Step pid pick out ∷ J) r server
          by_verb (verb_is.AssignRegion s) e on =
              let same : s ≡ r = sym ((Rattle.hm_model.proofs.KeyTests.same_region-Decides r s).0 on) in
              inl (left_later J (entry_is.Step pid pick out ∷ J) later_step verbs_later r server (void_left r server based was (finds_open r (e ∙ ap (λ x. Some (verb_is.AssignRegion x)) same)).0))
          by_verb (verb_is.CloseRegion s) e on =
              let same : s ≡ r = sym ((Rattle.hm_model.proofs.KeyTests.same_region-Decides r s).0 on) in
              close_based r server (e ∙ ap (λ x. Some (verb_is.CloseRegion x)) same) based was
          by_verb verb e on = absurd (false≢true on)

  pub kept_step : Lasting (entry_is.Step pid pick out ∷ J)
  unfolding J'
  kept_step = record {
    works = works_now;
    worker = worker_now;
    calling = calling_now;
    only = only_now;
    stage = stage_now;
    fresh = fresh_now;
    caused = caused_now;
    stacks = stacks_now;
    sound = sound_now;
    called = λ p verb is. let lt = called_now p verb is in omega (arith, lt);
    settled = settled_now;
    based = based_now;
  }
