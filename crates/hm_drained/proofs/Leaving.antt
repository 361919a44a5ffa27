-- A region that was to be moved since picks avoid a server, by a root that has ended, isn't at it.
use Rattle.std.proofs.Common.{◌≡◌, ◌≢◌, ℕ, zero, suc, ◌<◌, ◌==◌, List, [], ◌∷◌, ◌++◌, Bool, true, false, ◌||◌, cond, Option, Some, None, refl, ap, sym, ◌∙◌, subst, arith, inl, inr, ◌⊎◌}
use Rattle.std.proofs.lemmas.Bool.{and_left, and_right, cases_Bool, cases_eq, false≢true, or_right, true≢false}
use Rattle.std.proofs.lemmas.Option.{none-some, same_Some}
use Rattle.hm_names.specs.Region.{Region}
use Rattle.hm_names.specs.Server.{Server}
use Rattle.hm_names.specs.declared.pid.Pid.{Pid}
use Rattle.hm_data.specs.declared.answer.Answer.{Answer}
use Rattle.hm_data.specs.declared.answer.Answer.TheVariants as answer_is
use Rattle.hm_data.specs.declared.answer.Cause.{Cause}
use Rattle.hm_data.specs.declared.answer.Cause.TheVariants as cause_is
use Rattle.hm_data.specs.declared.args.Args.TheVariants as args_are
use Rattle.hm_data.specs.declared.catalog.CatKey.TheVariants as key_is
use Rattle.hm_data.specs.declared.catalog.CatRow.{CatRow}
use Rattle.hm_data.specs.declared.catalog.CatRow.TheVariants as row_is
use Rattle.hm_data.specs.declared.catalog.Status.TheVariants as status_is
use Rattle.hm_data.specs.declared.catalog.TableState.TheVariants as state_is
use Rattle.hm_data.specs.declared.entry.Entry.{Entry}
use Rattle.hm_data.specs.declared.entry.Entry.TheVariants as entry_is
use Rattle.hm_data.specs.declared.place.Place.{Place}
use Rattle.hm_data.specs.declared.place.RegionState.TheVariants as place_is
use Rattle.hm_data.specs.declared.request.Request.TheVariants as request_is
use Rattle.hm_data.specs.declared.step.StepOut.{StepOut}
use Rattle.hm_model.specs.Answers.{done_with, is_aborted, is_stopped, last_answer, row_after, row_of}
use Rattle.hm_model.specs.Catalog.{cat, row_at}
use Rattle.hm_model.specs.Checks.{region_ready}
use Rattle.hm_model.specs.Inputs.{rows_read}
use Rattle.hm_model.specs.Journal.{Past}
use Rattle.hm_model.specs.Kinds.{first_row_of}
use Rattle.hm_model.specs.Outs.{checked, fails, given}
use Rattle.hm_model.specs.Phase.{cause, rolled_back, root_ended, root_over}
use Rattle.hm_model.specs.Places.{is_at, is_the_server, place_of}
use Rattle.hm_model.specs.Reads.{covers, guards, reads}
use Rattle.hm_model.specs.Rules.{IsLegal}
use Rattle.hm_model.specs.Serial.{serial}
use Rattle.hm_model.specs.TransitActs.{close_at, close_or_go, closed_or_lost, is_open, is_placed, is_state, is_told, lost_if, nowhere}
use Rattle.hm_model.specs.Tree.{Node, made, node_of}
use Rattle.hm_model.specs.Wanted.{goal_in}
use Rattle.hm_model.specs.Whereabouts.{moved_by}
use Rattle.hm_model.proofs.Grown.{nodes_stay}
use Rattle.hm_model.proofs.LegalSteps.{StepFacts, ready_stops}
use Rattle.hm_model.proofs.Rows.{row_read}
use Rattle.hm_model.proofs.Tops.{TopHolds}
use Rattle.hm_model.proofs.Trees.{answer_now, grown_all, other_answer, step_of}
use Rattle.hm_model.proofs.Answered.{done_stops}
use Rattle.hm_serial.proofs.FallAll.{falls_all, step_aside}
use Rattle.hm_serial.proofs.Fallen.{root_of_node}
use Rattle.hm_serial.proofs.StandAll.{stands_all}
use Rattle.hm_single.specs.Calls.{NextIs}
use Rattle.hm_single.proofs.All.{kept_all, one_transit_is, place_by_row}
use Rattle.hm_single.proofs.Kin.{goes_holds}
use Rattle.hm_single.proofs.Live.{all_live, all_on}
use Rattle.hm_single.proofs.Placing.{reads_own}
use Rattle.hm_single.proofs.Kept.{goes_from}
use Rattle.hm_costs.proofs.CrashFine.{checks_all}
use Rattle.hm_costs.proofs.Moves.{Says, against, answers, place_now, place_still, row_now, seen}
use Rattle.hm_costs.proofs.Opening.{fails_all}
use Rattle.hm_drained.specs.Drained.{AllAvoid, Avoids, MovedAreElsewhere}
use Rattle.hm_drained.proofs.Coming.{comes_by}
use Rattle.hm_drained.proofs.States.{IsSettled, IsSettledRow, settled_all}

-- a root that moves its region has closed it, or has stopped
abbrev IsPast : Past → ℕ → Node → Type 0
IsPast J p node = (row_of J p node < 3) ⊎ (is_stopped (last_answer J p) ≡ true)

-- a live region of an enabled table is ready
ready_live : (rows row : Option CatRow) (version : ℕ) (range : Rattle.hm_names.specs.declared.range.KeyRange.KeyRange) (parents : List ℕ) → rows ≡ Some (row_is.Table state_is.Enabled version) → row ≡ Some (row_is.Region range status_is.Live parents) → region_ready rows row ≡ None
ready_live rows row version range parents one other = ap (λ o. region_ready o row) one ∙ ap (region_ready (Some (row_is.Table state_is.Enabled version))) other

-- a step of such a root
module _ (server : Server) (pid : Pid) (pick : Option Server) (out : StepOut) (J : Past) (legal : IsLegal (entry_is.Step pid pick out ∷ J)) (avoids : Avoids server (entry_is.Step pid pick out))
    (node : Node) (node_is : node_of J pid.0 ≡ Some node) (top : node.above ≡ []) (region : Region) (to : Option Server) (first : ℕ) (args : node.args ≡ args_are.Root (request_is.Move region to) first)
    (unaborted : is_aborted J pid.0 ≡ false) where
  abbrev J' : Past
  J' = entry_is.Step pid pick out ∷ J

  Off : Past → Type 0
  Off K = is_at server (place_of K region) ≡ false

  moved : moved_by node.args ≡ Some region
  moved = ap moved_by args

  abbrev step : StepFacts J pid.0 pick out
  step = step_of pid pick out J (grown_all J legal.0) legal

  me : step.node ≡ node
  me = same_Some step.node node (sym step.node_is ∙ node_is)

  gone_stays : is_at server (place_of J region) ≡ false → is_at server (place_of J' region) ≡ false
  gone_stays off = elim (cases_Bool (is_at server (place_of J' region))) [
    | inr gone ↦ gone
    | inl on ↦ absurd (true≢false (sym (comes_by (entry_is.Step pid pick out) J legal server avoids region on) ∙ off))
  ]

  unplaced_off : (place : Place) → is_placed place ≡ false → is_at server place ≡ false
  unplaced_off place off = and_left (is_placed place) (is_the_server server place.server) off

  now_off : (place : Place) → out.place ≡ Some place → is_at server place ≡ false → is_at server (place_of J' region) ≡ false
  now_off place given_is off = ap (is_at server) (place_now pid pick out J legal node node_is region moved place given_is) ∙ off

  still_off : out.place ≡ None → is_placed (place_of J region) ≡ false → is_at server (place_of J' region) ≡ false
  still_off none off = ap (is_at server) (place_still pid pick out J legal node node_is region moved none) ∙ unplaced_off (place_of J region) off

  -- it goes on at a row from the third on
  not_past : (answer : Answer) (row : ℕ) → out.answer ≡ answer → row_after (first_row_of node.args) (Some answer) ≡ row → (row < 3 → ⊥) → is_stopped (Some answer) ≡ false → IsPast J' pid.0 node → ⊥
  not_past answer row e at far runs (inl low) = far (subst (λ n. n < 3) (row_now pid pick out J legal node node_is region moved answer e ∙ at) low)
  not_past answer row e at far runs (inr stops) = true≢false (sym stops ∙ ap is_stopped (answer_now pid pick out J ∙ ap Some e) ∙ runs)

  three_far : 3 < 3 → ⊥
  three_far h = omega (arith, h)

  four_far : 4 < 3 → ⊥
  four_far h = omega (arith, h)

  runs : is_stopped (last_answer J pid.0) ≡ false
  runs = ready_stops J pid.0 step.node (last_answer J pid.0) step.ready

  -- at the row that closes the region, no transit is at another one
  module _ (here : row_of J pid.0 node ≡ 3) where
    begun : last_answer J pid.0 ≢ None
    begun none = let five : row_of J pid.0 node ≡ 5 = ap (row_after (first_row_of node.args)) none ∙ ap (λ a. row_after (first_row_of a) None) args in omega (arith, here, five)

    only_three : (row : ℕ) → NextIs J region row → row ≡ 3
    only_three row n =
        let grown = grown_all J legal.0 in
        let holds = goes_holds J grown (kept_all J legal.0) pid.0 region (node, node_is, moved) (goes_from (last_answer J pid.0) runs begun) in
        let same : n.0 ≡ pid.0 = one_transit_is J legal.0 region n.0 pid.0 (n.1, n.2, n.3) n.4 (node, node_is, moved) holds in
        let one : n.1 ≡ node = same_Some n.1 node (sym n.2 ∙ ap (node_of J) same ∙ node_is) in
        sym n.5 ∙ ap (λ x. row_of J n.0 x) one ∙ ap (λ q. row_of J q node) same ∙ here

    unopened : is_state place_is.Opened (place_of J region) ≡ false → is_placed (place_of J region) ≡ false
    unopened shut = by (is_state place_is.Opening (place_of J region)) refl (is_state place_is.Closing (place_of J region)) refl
      where
        rows : ((is_state place_is.Opening (place_of J region) ≡ true) → NextIs J region 1 ⊎ NextIs J region 2) × ((is_state place_is.Closing (place_of J region) ≡ true) → NextIs J region 4)
        rows = let p = place_by_row J legal.0 region in (p.0.0, p.1.0)

        by : (a : Bool) → is_state place_is.Opening (place_of J region) ≡ a → (b : Bool) → is_state place_is.Closing (place_of J region) ≡ b → is_placed (place_of J region) ≡ false
        by true e b f = elim (rows.0 e) [ inl one ↦ (let x = only_three 1 one in absurd (omega (arith, x))) | inr two ↦ (let x = only_three 2 two in absurd (omega (arith, x))) ]
        by false e true f = (let x = only_three 4 (rows.1 f) in absurd (omega (arith, x)))
        by false e false f = ap (λ x. x || (is_state place_is.Opened (place_of J region) || is_state place_is.Closing (place_of J region))) e ∙ ap (λ x. x || is_state place_is.Closing (place_of J region)) shut ∙ f

    by_close : (b : Bool) → out ≡ close_or_go 4 (goal_in node.args) region (place_of J region) b → IsPast J' pid.0 node → is_at server (place_of J' region) ≡ false
    by_close true is past = absurd (at (place_of J region).server is)
      where
        at : (o : Option Server) → out ≡ given o 4 (close_at 4 region) → ⊥
        at None is = not_past (answer_is.More 4) 4 (ap (λ (o : StepOut). o.answer) is) refl four_far refl past
        at (Some own) is = not_past (answer_is.Wait 4) 4 (ap (λ (o : StepOut). o.answer) is) refl four_far refl past
    by_close false is past = by (is_state place_is.Opened (place_of J region)) refl (ap (λ (o : StepOut). o.place) is)
      where
        by : (b : Bool) → is_state place_is.Opened (place_of J region) ≡ b → out.place ≡ lost_if b → is_at server (place_of J' region) ≡ false
        by true e lost = now_off (nowhere place_is.AbnormallyClosed) lost refl
        by false e lost = still_off lost (unopened e)

  -- at its first step, which finds a cause against it, the region is nowhere
  module _ (here : row_of J pid.0 node ≡ 5) where
    unbegun : last_answer J pid.0 ≡ None
    unbegun = checks_all J legal.0 pid.0 node region node_is moved here

    own_root : step.node.root ≡ pid.0
    own_root = ap (λ (n : Node). n.root) me ∙ (grown_all J legal.0).tops pid.0 node node_is top

    guarded : (x : Node) → x ≡ node → guards x.args (key_is.Table region.table) ≡ true
    guarded x same = or_right (covers x.args (key_is.Table region.table)) (reads x.args (key_is.Table region.table)) (reads_own x.args region (ap (λ (n : Node). moved_by n.args) same ∙ moved)).0

    free : (r : ℕ) (x : Node) → TopHolds J r x → covers x.args (key_is.Table region.table) ≡ false
    free r x h = elim (cases_eq r step.node.root) [
      | inl same ↦ absurd (h.1 (ap (last_answer J) (same ∙ own_root) ∙ unbegun))
      | inr differs ↦
          let aside = step_aside pid pick out J legal (falls_all J legal.0) in
          let root = root_of_node J (grown_all J legal.0) pid.0 step.node step.node_is in
          let one : root.0 ≡ node = same_Some root.0 node (sym root.1.0 ∙ ap (node_of J) own_root ∙ node_is) in
          (aside r x h differs (key_is.Table region.table)).1 (guarded root.0 one)
    ]

    refused : (c : Cause) → against pid pick out J legal node node_is region moved ≡ Some c → is_placed (place_of J region) ≡ true → ⊥
    refused c e placed =
        let live = all_live J legal.0 region placed in
        let on = all_on J legal.0 region placed in
        let rest : cat J (key_is.Table region.table) ≡ serial J (key_is.Table region.table) = (stands_all J legal.0).settled (key_is.Table region.table) free in
        let settled : IsSettled on.0 = subst IsSettledRow (sym rest ∙ on.2) (settled_all J legal.0 (key_is.Table region.table)) in
        elim settled [
          | inr disabled ↦ on.3 disabled
          | inl enabled ↦
              let read = reads_own node.args region moved in
              none-some c (sym (ready_live (row_at (rows_read J node.args) (key_is.Table region.table)) (row_at (rows_read J node.args) (key_is.Region region)) on.1 live.0 live.1.0
              (row_read J node.args (key_is.Table region.table) read.0 ∙ on.2 ∙ ap (λ s. Some (row_is.Table s on.1)) enabled)
              (row_read J node.args (key_is.Region region) read.1 ∙ live.1.1)) ∙ e)
        ]

    by_check : (o : Option Cause) → against pid pick out J legal node node_is region moved ≡ o → out ≡ checked 3 o → IsPast J' pid.0 node → is_at server (place_of J' region) ≡ false
    by_check None e is past = absurd (not_past (answer_is.More 3) 3 (ap (λ (o : StepOut). o.answer) is) refl three_far refl past)
    by_check (Some c) e is past = still_off (ap (λ (o : StepOut). o.place) is) (elim (cases_Bool (is_placed (place_of J region))) [
      | inr off ↦ off
      | inl placed ↦ absurd (refused c e placed)
    ])

  moved_step : (IsPast J pid.0 node → is_at server (place_of J region) ≡ false) → IsPast J' pid.0 node → is_at server (place_of J' region) ≡ false
  moved_step before past = by (row_of J pid.0 node) refl (answers pid pick out J legal node node_is region moved (row_of J pid.0 node) refl)
    where
      low : (n : ℕ) → row_of J pid.0 node ≡ n → n < 3 → is_at server (place_of J' region) ≡ false
      low n here lt = gone_stays (before (inl (subst (λ k. k < 3) (sym here) lt)))

      by : (n : ℕ) → row_of J pid.0 node ≡ n → ((out ≡ fails cause_is.Aborted) × (is_aborted J pid.0 ≡ true)) ⊎ Says pid pick out J legal node node_is region moved n → is_at server (place_of J' region) ≡ false
      by n here (inl cut) = absurd (true≢false (sym cut.1 ∙ unaborted))
      by zero here (inr is) = low 0 here (omega arith)
      by (suc zero) here (inr is) = low 1 here (omega arith)
      by (suc (suc zero)) here (inr is) = low 2 here (omega arith)
      by (suc (suc (suc zero))) here (inr is) = by_close here (is_open (place_of J region) (seen pid pick out J legal node node_is region moved).fenced) is past
      by (suc (suc (suc (suc zero)))) here (inr is) = now_off (nowhere (closed_or_lost (is_told Rattle.hm_data.specs.declared.call.Told.TheVariants.Closed (seen pid pick out J legal node node_is region moved).ends))) (ap (λ (o : StepOut). o.place) is) (and_right (is_placed (nowhere (closed_or_lost (is_told Rattle.hm_data.specs.declared.call.Told.TheVariants.Closed (seen pid pick out J legal node node_is region moved).ends)))) false refl)
      by (suc (suc (suc (suc (suc zero))))) here (inr is) = by_check here (against pid pick out J legal node node_is region moved) refl is past
      by (suc (suc (suc (suc (suc (suc n)))))) here (inr is) = absurd is

-- an entry
module _ (server : Server) (region : Region) (to : Option Server) (first : ℕ) where
  unaborted_before : (entry : Entry) (J : Past) → Avoids server entry → (p : ℕ) → is_aborted (entry ∷ J) p ≡ false → is_aborted J p ≡ false
  unaborted_before (entry_is.Abort pid) J avoids p h = by (p == pid.0) h
    where
      by : (b : Bool) → cond b true (is_aborted J p) ≡ false → is_aborted J p ≡ false
      by true h = absurd (true≢false h)
      by false h = h
  unaborted_before (entry_is.Base part) J avoids p h = absurd avoids
  unaborted_before entry J avoids p h = h

  still_gone : (entry : Entry) (J : Past) → IsLegal (entry ∷ J) → Avoids server entry → (p : ℕ) (node : Node) → last_answer (entry ∷ J) p ≡ last_answer J p → (IsPast J p node → is_at server (place_of J region) ≡ false) → IsPast (entry ∷ J) p node → is_at server (place_of (entry ∷ J) region) ≡ false
  still_gone entry J legal avoids p node same before past = elim (cases_Bool (is_at server (place_of (entry ∷ J) region))) [
    | inr off ↦ off
    | inl on ↦ absurd (true≢false (sym (comes_by entry J legal server avoids region on) ∙ before was))
  ]
    where
      was : IsPast J p node
      was = elim past [ inl low ↦ inl (subst (λ n. n < 3) (ap (row_after (first_row_of node.args)) same) low) | inr stops ↦ inr (ap is_stopped (sym same) ∙ stops) ]

  one_more : (entry : Entry) (J : Past) → IsLegal (entry ∷ J) → Avoids server entry → (p : ℕ) (node : Node) → node_of J p ≡ Some node → node.above ≡ [] → node.args ≡ args_are.Root (request_is.Move region to) first → is_aborted J p ≡ false
      → (IsPast J p node → is_at server (place_of J region) ≡ false) → IsPast (entry ∷ J) p node → is_at server (place_of (entry ∷ J) region) ≡ false
  one_more (entry_is.Step pid pick out) J legal avoids p node is top args unaborted before past = elim (cases_eq p pid.0) [
    | inr other ↦ still_gone (entry_is.Step pid pick out) J legal avoids p node (other_answer pid pick out J p other) before past
    | inl mine ↦
        moved_step server pid pick out J legal avoids node (ap (node_of J) (sym mine) ∙ is) top region to first args (ap (is_aborted J) (sym mine) ∙ unaborted)
        (λ was. before (subst (λ q. IsPast J q node) (sym mine) was)) (subst (λ q. IsPast (entry_is.Step pid pick out ∷ J) q node) mine past)
  ]
  one_more (entry_is.Base part) J legal avoids p node is top args unaborted before past = absurd avoids
  one_more entry J legal avoids p node is top args unaborted before past = still_gone entry J legal avoids p node refl before past

  -- who wasn't there has made no step
  unstepped : (entry : Entry) (J : Past) → IsLegal (entry ∷ J) → (p : ℕ) → node_of J p ≡ None → last_answer (entry ∷ J) p ≡ None
  unstepped (entry_is.Step pid pick out) J legal p none =
      let step = step_of pid pick out J (grown_all J legal.0) legal in
      other_answer pid pick out J p (λ mine. none-some step.node (sym none ∙ ap (node_of J) mine ∙ step.node_is)) ∙ (grown_all J legal.0).unmade p none
  unstepped (entry_is.Base part) J legal p none = refl
  unstepped entry J legal p none = (grown_all J legal.0).unmade p none

  fresh_not_past : (J : Past) (p : ℕ) (node : Node) → node.args ≡ args_are.Root (request_is.Move region to) first → last_answer J p ≡ None → IsPast J p node → ⊥
  fresh_not_past J p node args none (inl low) = (let five : row_of J p node ≡ 5 = ap (row_after (first_row_of node.args)) none ∙ ap (λ a. row_after (first_row_of a) None) args in omega (arith, low, five))
  fresh_not_past J p node args none (inr stops) = false≢true (ap is_stopped (sym none) ∙ stops)

  moved_on : (later : List Entry) (J : Past) → IsLegal (later ++ J) → AllAvoid server later → (p : ℕ) (node : Node) → made J < p → node_of (later ++ J) p ≡ Some node → node.above ≡ [] → node.args ≡ args_are.Root (request_is.Move region to) first
      → is_aborted (later ++ J) p ≡ false → IsPast (later ++ J) p node → is_at server (place_of (later ++ J) region) ≡ false
  moved_on [] J legal avoid p node lt is top args unaborted past = absurd (none-some node (sym ((grown_all J legal).numbered p lt) ∙ is))
  moved_on (entry ∷ later) J legal avoid p node lt is top args unaborted past = by (node_of (later ++ J) p) refl (λ was before own. moved_on later J legal.0 avoid.1 p node lt was top args before own)
    where
      by : (o : Option Node) → node_of (later ++ J) p ≡ o → (node_of (later ++ J) p ≡ Some node → is_aborted (later ++ J) p ≡ false → IsPast (later ++ J) p node → is_at server (place_of (later ++ J) region) ≡ false)
          → is_at server (place_of (entry ∷ later ++ J) region) ≡ false
      by None e on = absurd (fresh_not_past (entry ∷ later ++ J) p node args (unstepped entry (later ++ J) legal p e) past)
      by (Some y) e on =
          let one : y ≡ node = same_Some y node (sym (nodes_stay entry (later ++ J) legal p y e) ∙ is) in
          let was : node_of (later ++ J) p ≡ Some node = e ∙ ap Some one in
          let before = unaborted_before entry (later ++ J) avoid.0 p unaborted in
          one_more entry (later ++ J) legal avoid.0 p node was top args before (on was before) past

-- a root that moves a region has stopped where it has ended
move_stops : (J : Past) → IsLegal J → (p : ℕ) (node : Node) (region : Region) → node_of J p ≡ Some node → moved_by node.args ≡ Some region → node.above ≡ [] → root_ended J p ≡ true → is_stopped (last_answer J p) ≡ true
move_stops J legal p node region is moved top ended = by (cause J p) refl
  where
    by : (o : Option Cause) → cause J p ≡ o → is_stopped (last_answer J p) ≡ true
    by None e = done_stops (last_answer J p) (sym (ap (λ c. root_over c (rolled_back J p) (done_with (last_answer J p))) e) ∙ ended)
    by (Some c) e = fails_all J legal p node region is moved top c e

pub moved_elsewhere : MovedAreElsewhere
moved_elsewhere server later J legal avoid region p m ended =
    moved_on server region m.1 m.2 later J legal avoid p m.0 m.3 m.4 m.5 m.6 m.7
    (inr (move_stops (later ++ J) legal p m.0 region m.4 (ap moved_by m.6) m.5 ended))
