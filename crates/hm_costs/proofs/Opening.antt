-- At the rows that open it a transit's region is being opened, and no region comes to a server that went down.
use Rattle.std.proofs.Common.{◌≡◌, ◌≢◌, ℕ, ◌==◌, List, [], ◌∷◌, Bool, true, false, cond, Option, Some, None, is_some, refl, ap, sym, ◌∙◌, subst, arith, inl, inr, ◌⊎◌}
use Rattle.std.proofs.lemmas.Bool.{cases_Bool, cases_eq, cond-false, eqb-true, false≢true, true≢false}
use Rattle.std.proofs.lemmas.Option.{none-some, same_Some}
use Rattle.hm_names.specs.Region.{Region}
use Rattle.hm_names.specs.Server.{Server}
use Rattle.hm_names.specs.declared.pid.Pid.{Pid}
use Rattle.hm_data.specs.declared.answer.Answer.{Answer}
use Rattle.hm_data.specs.declared.answer.Answer.TheVariants as answer_is
use Rattle.hm_data.specs.declared.answer.Cause.{Cause}
use Rattle.hm_data.specs.declared.args.Args.{Args}
use Rattle.hm_data.specs.declared.args.Args.TheVariants as args_are
use Rattle.hm_data.specs.declared.entry.Entry.{Entry}
use Rattle.hm_data.specs.declared.entry.Entry.TheVariants as entry_is
use Rattle.hm_data.specs.declared.place.Goal.TheVariants as goal_is
use Rattle.hm_data.specs.declared.place.Place.{Place}
use Rattle.hm_data.specs.declared.place.RegionState.TheVariants as place_is
use Rattle.hm_data.specs.declared.request.Request.TheVariants as request_is
use Rattle.hm_data.specs.declared.sheet.Row.{Row}
use Rattle.hm_data.specs.declared.step.StepOut.{StepOut}
use Rattle.hm_model.specs.Answers.{done_with, failing, is_stopped, last_answer, row_after, row_of}
use Rattle.hm_model.specs.Fleet.{is_live, same_server}
use Rattle.hm_model.specs.Holding.{HoldsWith}
use Rattle.hm_model.specs.Journal.{Past}
use Rattle.hm_model.specs.Keys.{same_region}
use Rattle.hm_model.specs.Kinds.{first_row_of}
use Rattle.hm_model.specs.Locks.{IsIn}
use Rattle.hm_model.specs.Phase.{cause, ended, ended_node, or_else, root_ended}
use Rattle.hm_model.specs.Places.{is_at, place_of, placed_by, region_if}
use Rattle.hm_model.specs.Reports.{is_the_region}
use Rattle.hm_model.specs.Rules.{IsLegal}
use Rattle.hm_model.specs.Tree.{Node, is_top, made, node_of, root_in, root_of}
use Rattle.hm_model.specs.Whereabouts.{moved_by}
use Rattle.hm_model.proofs.CallSteps.{laying_not_caller}
use Rattle.hm_model.proofs.Grown.{nodes_stay}
use Rattle.hm_model.proofs.KeyTests.{same_region-is, same_region-refl}
use Rattle.hm_model.proofs.LegalSteps.{StepFacts, ready_stops}
use Rattle.hm_model.proofs.NameTies.{same_server-is}
use Rattle.hm_model.proofs.PlainActs.{is_caller}
use Rattle.hm_model.proofs.StepDoes.{Does}
use Rattle.hm_model.proofs.Parted.{no_node}
use Rattle.hm_model.proofs.Trees.{Grown, answer_now, does_of, grown_all, le_or_lt, new_child, node_same, other_answer, step_of}
use Rattle.hm_model.proofs.Tops.{ended_top}
use Rattle.hm_model.proofs.Free.{step_free}
use Rattle.hm_model.proofs.Transits.{above_caller, caller_facts, root_above, transits_conflict}
use Rattle.hm_costs.proofs.Live.{IsDead}
use Rattle.hm_costs.proofs.Moves.{comes_not, is_moving, opening_now}
use Rattle.hm_costs.proofs.Prices.{Spares}
use Rattle.hm_model.proofs.RootTrees.{absent_all, ended_by}
use Rattle.hm_model.proofs.Small.{cons_nil}
use Rattle.hm_model.proofs.Answered.{stopped_row}

-- what calls a region server never fails
caller_fine : (J : Past) (p : ℕ) (x : Node) (rows : List Row) (out : StepOut) → Does J p x.args (last_answer J p) rows out → is_caller x.args ≡ true → failing out.answer ≡ None
caller_fine J p x rows out does caller =
    let verb = some_if _ (caller_facts x.args caller).1 in
    elim (does.calls verb.0 verb.1).does [
      | inl asks ↦ ap failing asks.2
      | inr ends ↦ elim ends.1 [
        | inl gone ↦ ap failing gone.0
        | inr other ↦ elim other [
          | inl told ↦ ap failing told.1
          | inr failed ↦ absurd (true≢false (sym caller ∙ laying_not_caller x.args failed.2))
        ]
      ]
    ]
  where
    some_if : {A : Type 0} (o : Option A) → is_some o ≡ true → (y : A) × (o ≡ Some y)
    some_if None h = absurd (false≢true h)
    some_if (Some y) h = (y, refl)

-- the tree of a transit that is a root fails only with its root
abbrev FailsItself : Past → ℕ → Type 0
FailsItself J p = (x : Node) (r : Region) → node_of J p ≡ Some x → moved_by x.args ≡ Some r → x.above ≡ [] → (c : Cause) → cause J p ≡ Some c → is_stopped (last_answer J p) ≡ true

fails_calm : (entry : Entry) (J : Past) → IsLegal (entry ∷ J) → (p : ℕ) → cause (entry ∷ J) p ≡ cause J p → last_answer (entry ∷ J) p ≡ last_answer J p → FailsItself J p → FailsItself (entry ∷ J) p
fails_calm entry J legal p causes last before x r is m top c failed = by (node_of J p) refl
  where
    by : (o : Option Node) → node_of J p ≡ o → is_stopped (last_answer (entry ∷ J) p) ≡ true
    by None e = absurd (none-some c (sym (absent_all J legal.0 p e).caused ∙ sym causes ∙ failed))
    by (Some y) e =
        let one : y ≡ x = same_Some y x (sym (nodes_stay entry J legal p y e) ∙ is) in
        ap is_stopped last ∙ before x r (e ∙ ap Some one) m top c (sym causes ∙ failed)

fails_step : (pid : Pid) (pick : Option Server) (out : StepOut) (J : Past) → IsLegal (entry_is.Step pid pick out ∷ J) → (p : ℕ) → FailsItself J p → FailsItself (entry_is.Step pid pick out ∷ J) p
fails_step pid pick out J legal p before x r is m top c failed = elim (le_or_lt p (made J)) [
  | inr lt ↦ let n = new_child pid pick out J step.node step.node_is p lt x is in absurd (cons_nil pid.0 step.node.above (ap (λ (n : Node). n.above) (sym n.2) ∙ top))
  | inl le ↦ by (sym (node_same pid pick out J p le) ∙ is) (root_of J pid.0 == p) refl failed
]
  where
    grown : Grown J
    grown = grown_all J legal.0

    step : StepFacts J pid.0 pick out
    step = step_of pid pick out J grown legal

    runs : is_stopped (last_answer J pid.0) ≡ false
    runs = ready_stops J pid.0 step.node (last_answer J pid.0) step.ready

    -- whose tree had failed makes no step
    old : node_of J p ≡ Some x → cause J p ≡ Some c → is_stopped (last_answer (entry_is.Step pid pick out ∷ J) p) ≡ true
    old was e = elim (cases_eq p pid.0) [
      | inl mine ↦ absurd (true≢false (sym (before x r was m top c e) ∙ ap (λ k. is_stopped (last_answer J k)) mine ∙ runs))
      | inr other ↦ ap is_stopped (other_answer pid pick out J p other) ∙ before x r was m top c e
    ]

    fail_stops : (a : Answer) → failing a ≡ Some c → is_stopped (Some a) ≡ true
    fail_stops (answer_is.Fail k) e = refl
    fail_stops answer e = absurd (none-some c e)

    by_cause : node_of J p ≡ Some x → root_of J pid.0 ≡ p → (o : Option Cause) → cause J p ≡ o → or_else o (failing out.answer) ≡ Some c → is_stopped (last_answer (entry_is.Step pid pick out ∷ J) p) ≡ true
    by_cause was root (Some k) e now = old was (e ∙ now)
    by_cause was root None e now = elim (cases_eq p pid.0) [
      | inl mine ↦ ap (λ k. is_stopped (last_answer (entry_is.Step pid pick out ∷ J) k)) mine ∙ ap is_stopped (answer_now pid pick out J) ∙ fail_stops out.answer now
      | inr below ↦
          let own : step.node.root ≡ p = ap root_in (sym step.node_is) ∙ root in
          let among = root_above J grown step.node.above pid.0 step.node step.node_is refl (λ none. below (sym (sym (grown.tops pid.0 step.node step.node_is none) ∙ own))) in
          let caller = above_caller J grown p x r was m step.node.above pid.0 step.node step.node_is refl (subst (λ k. IsIn k step.node.above) own among) in
          absurd (none-some c (sym (caller_fine J pid.0 step.node step.sheet.rows out (does_of pid pick out J grown step) caller) ∙ now))
    ]

    by : node_of J p ≡ Some x → (b : Bool) → (root_of J pid.0 == p) ≡ b → cond b (or_else (cause J p) (failing out.answer)) (cause J p) ≡ Some c → is_stopped (last_answer (entry_is.Step pid pick out ∷ J) p) ≡ true
    by was false e now = old was now
    by was true e now = by_cause was (eqb-true (root_of J pid.0) p e) (cause J p) refl now

pub fails_all : (J : Past) → IsLegal J → (p : ℕ) → FailsItself J p
fails_all [] legal p = λ x r is. absurd (none-some x is)
fails_all (entry_is.Step pid pick out ∷ J) legal p = fails_step pid pick out J legal p (fails_all J legal.0 p)
fails_all (entry_is.Base part ∷ J) legal p = λ x r is. absurd (none-some x is)
fails_all (entry ∷ J) legal p = fails_calm entry J legal p refl refl (fails_all J legal.0 p)

-- the row at which a transit begins
first_row : (args : Args) (region : Region) → moved_by args ≡ Some region → (first_row_of args ≡ 0) ⊎ ((first_row_of args ≡ 3) ⊎ (first_row_of args ≡ 5))
first_row (args_are.Transit region goal_is.Assign to) r m = inl refl
first_row (args_are.Transit region goal_is.Unassign to) r m = inr (inl refl)
first_row (args_are.Transit region goal_is.Move to) r m = inr (inr refl)
first_row (args_are.Root (request_is.Move region to) first) r m = inr (inr refl)
first_row (args_are.Root request first) r m = absurd (none-some r m)
first_row args r m = absurd (none-some r m)

-- at the rows that open it
abbrev Opens : Past → ℕ → Node → Type 0
Opens J p x = (row_of J p x ≡ 1) ⊎ (row_of J p x ≡ 2)

-- there it has a step that didn't end it
opens_runs : (J : Past) (p : ℕ) (x : Node) → Opens J p x → is_stopped (last_answer J p) ≡ false
opens_runs J p x at = elim (cases_Bool (is_stopped (last_answer J p))) [
  | inr off ↦ off
  | inl on ↦ let row = stopped_row (first_row_of x.args) (last_answer J p) on in elim at [ inl one ↦ absurd (omega (arith, row, one)) | inr two ↦ absurd (omega (arith, row, two)) ]
]

opens_begun : (J : Past) (p : ℕ) (x : Node) (region : Region) → moved_by x.args ≡ Some region → Opens J p x → last_answer J p ≢ None
opens_begun J p x region m at none =
    let row : row_of J p x ≡ first_row_of x.args = ap (row_after (first_row_of x.args)) none in
    elim (first_row x.args region m) [
      | inl zero ↦ elim at [ inl one ↦ omega (arith, row, zero, one) | inr two ↦ omega (arith, row, zero, two) ]
      | inr more ↦ elim more [
        | inl three ↦ elim at [ inl one ↦ omega (arith, row, three, one) | inr two ↦ omega (arith, row, three, two) ]
        | inr five ↦ elim at [ inl one ↦ omega (arith, row, five, one) | inr two ↦ omega (arith, row, five, two) ]
      ]
    ]

-- so it holds its region
pub opens_holds : (J : Past) → IsLegal J → (p : ℕ) (x : Node) (region : Region) → node_of J p ≡ Some x → moved_by x.args ≡ Some region → Opens J p x → HoldsWith J [] p
opens_holds J legal p x region is m at = ((λ none. none-some x (sym none ∙ is)), by x.above refl, inl (opens_begun J p x region m at))
  where
    runs : is_stopped (last_answer J p) ≡ false
    runs = opens_runs J p x at

    undone : (o : Option Answer) → is_stopped o ≡ false → is_some (done_with o) ≡ false
    undone None h = refl
    undone (Some (answer_is.Done told)) h = absurd (true≢false h)
    undone (Some answer) h = refl

    root_open : x.above ≡ [] → (o : Option Cause) → cause J p ≡ o → root_ended J p ≡ false
    root_open top None e = ended_by J p e ∙ undone (last_answer J p) runs
    root_open top (Some c) e = absurd (true≢false (sym (fails_all J legal p x region is m top c e) ∙ runs))

    by : (above : List ℕ) → x.above ≡ above → ended J p ≡ false
    by [] e = ended_top J p x is e ∙ root_open e (cause J p) refl
    by (u ∷ rest) e = ap (ended_node J p) is ∙ ap (λ a. cond (is_top a) (root_ended J p) (is_stopped (last_answer J p))) e ∙ runs

-- a step places only the region of its procedure
placed_other : (pid : Pid) (pick : Option Server) (out : StepOut) (J : Past) → IsLegal (entry_is.Step pid pick out ∷ J) → (region : Region) → ((x : Node) → node_of J pid.0 ≡ Some x → moved_by x.args ≡ Some region → ⊥) → place_of (entry_is.Step pid pick out ∷ J) region ≡ place_of J region
placed_other pid pick out J legal region none =
    let g = grown_all J legal.0 in
    let step = step_of pid pick out J g legal in
    by step (does_of pid pick out J g step) (moved_by step.node.args) refl
  where
    other : (o : Option Place) → is_the_region region (region_if (node_of J pid.0)) ≡ false → placed_by region (region_if (node_of J pid.0)) o (place_of J region) ≡ place_of J region
    other None off = refl
    other (Some place) off = cond-false (is_the_region region (region_if (node_of J pid.0))) place (place_of J region) off

    by : (step : StepFacts J pid.0 pick out) → Does J pid.0 step.node.args (last_answer J pid.0) step.sheet.rows out → (o : Option Region) → moved_by step.node.args ≡ o → place_of (entry_is.Step pid pick out ∷ J) region ≡ place_of J region
    by step does None e = ap (λ p. placed_by region (region_if (node_of J pid.0)) p (place_of J region)) (does.unplaced e)
    by step does (Some own) e =
        let region_is : region_if (node_of J pid.0) ≡ Some own = ap region_if step.node_is ∙ (is_moving step.node.args own e).region_is in
        elim (cases_Bool (same_region region own)) [
          | inr off ↦ other out.place (ap (is_the_region region) region_is ∙ off)
          | inl on ↦ absurd (none step.node step.node_is (e ∙ ap Some (sym (same_region-is region own on))))
        ]

-- the place of a region stays where a transit of it holds, and doesn't step
pub place_stays : (entry : Entry) (J : Past) → IsLegal (entry ∷ J) → (q : ℕ) (x : Node) (region : Region) → node_of J q ≡ Some x → moved_by x.args ≡ Some region → HoldsWith J [] q → Spares entry q → place_of (entry ∷ J) region ≡ place_of J region
place_stays (entry_is.Step pid pick out) J legal q x region is m holds spares =
    placed_other pid pick out J legal region (λ own there n. step_free pid pick out J legal q holds (transits_conflict J (grown_all J legal.0) pid.0 q own x region (λ here. spares (sym here)) there n is m))
place_stays (entry_is.Base part) J legal q x region is m holds spares = absurd spares
place_stays entry J legal q x region is m holds spares = refl

-- at the rows that open it a region is being opened
abbrev IsOpening : Past → Type 0
IsOpening J = (p : ℕ) (x : Node) (region : Region) → node_of J p ≡ Some x → moved_by x.args ≡ Some region → Opens J p x → (place_of J region).state ≡ place_is.Opening

opening_calm : (entry : Entry) (J : Past) → IsLegal (entry ∷ J) → ((p : ℕ) → last_answer (entry ∷ J) p ≡ last_answer J p) → ((region : Region) → place_of (entry ∷ J) region ≡ place_of J region) → IsOpening J → IsOpening (entry ∷ J)
opening_calm entry J legal last place before p x region is m at = by (node_of J p) refl
  where
    by : (o : Option Node) → node_of J p ≡ o → (place_of (entry ∷ J) region).state ≡ place_is.Opening
    by None e = absurd (opens_begun (entry ∷ J) p x region m at (last p ∙ (grown_all J legal.0).unmade p e))
    by (Some y) e =
        let one : y ≡ x = same_Some y x (sym (nodes_stay entry J legal p y e) ∙ is) in
        let row : row_of (entry ∷ J) p x ≡ row_of J p x = ap (row_after (first_row_of x.args)) (last p) in
        ap (λ (k : Place). k.state) (place region) ∙ before p x region (e ∙ ap Some one) m (elim at [ inl first ↦ inl (sym row ∙ first) | inr two ↦ inr (sym row ∙ two) ])

opening_step : (pid : Pid) (pick : Option Server) (out : StepOut) (J : Past) → IsLegal (entry_is.Step pid pick out ∷ J) → IsOpening J → IsOpening (entry_is.Step pid pick out ∷ J)
opening_step pid pick out J legal before p x region is m at = elim (cases_eq p pid.0) [
  | inl mine ↦
      let step = step_of pid pick out J (grown_all J legal.0) legal in
      let one : step.node ≡ x = same_Some step.node x (sym (nodes_stay (entry_is.Step pid pick out) J legal pid.0 step.node step.node_is) ∙ ap (node_of (entry_is.Step pid pick out ∷ J)) (sym mine) ∙ is) in
      let there : node_of J pid.0 ≡ Some x = step.node_is ∙ ap Some one in
      opening_now pid pick out J legal x there region m (before pid.0 x region there m) (subst (λ k. Opens (entry_is.Step pid pick out ∷ J) k x) mine at)
  | inr other ↦ by (other_answer pid pick out J p other) other (node_of J p) refl
]
  where
    by : last_answer (entry_is.Step pid pick out ∷ J) p ≡ last_answer J p → p ≢ pid.0 → (o : Option Node) → node_of J p ≡ o → (place_of (entry_is.Step pid pick out ∷ J) region).state ≡ place_is.Opening
    by last other None e = absurd (opens_begun (entry_is.Step pid pick out ∷ J) p x region m at (last ∙ (grown_all J legal.0).unmade p e))
    by last other (Some y) e =
        let one : y ≡ x = same_Some y x (sym (nodes_stay (entry_is.Step pid pick out) J legal p y e) ∙ is) in
        let there : node_of J p ≡ Some x = e ∙ ap Some one in
        let row : row_of (entry_is.Step pid pick out ∷ J) p x ≡ row_of J p x = ap (row_after (first_row_of x.args)) last in
        let was : Opens J p x = elim at [ inl first ↦ inl (sym row ∙ first) | inr two ↦ inr (sym row ∙ two) ] in
        ap (λ (k : Place). k.state) (place_stays (entry_is.Step pid pick out) J legal p x region there m (opens_holds J legal.0 p x region there m was) other) ∙ before p x region there m was

-- so it is in every legal journal
pub opening_all : (J : Past) → IsLegal J → IsOpening J
opening_all [] legal = λ p x region is. absurd (none-some x is)
opening_all (entry_is.Step pid pick out ∷ J) legal = opening_step pid pick out J legal (opening_all J legal.0)
opening_all (entry_is.Base part ∷ J) legal = λ p x region is. absurd (none-some x is)
opening_all (entry ∷ J) legal = opening_calm entry J legal (λ p. refl) (λ region. refl) (opening_all J legal.0)

-- an entry is no part of a base, and picks no such server
abbrev pub PicksOther : Past → Server → Entry → Type 0
PicksOther J server (entry_is.Step pid pick out) = (picked : Server) → pick ≡ Some picked → is_live J picked ≡ true → same_server server picked ≡ false
PicksOther J server (entry_is.Base part) = ⊥
PicksOther J server entry = Unit {0}

-- no region comes to a server that isn't picked
pub none_comes_other : (entry : Entry) (J : Past) → IsLegal (entry ∷ J) → (server : Server) → PicksOther J server entry → (region : Region) → is_at server (place_of (entry ∷ J) region) ≡ true → is_at server (place_of J region) ≡ true
none_comes_other (entry_is.Step pid pick out) J legal server other region at = by (moved_by step.node.args) refl
  where
    step : StepFacts J pid.0 pick out
    step = step_of pid pick out J (grown_all J legal.0) legal

    stays : (moved_by step.node.args ≡ Some region → ⊥) → is_at server (place_of J region) ≡ true
    stays none = ap (is_at server) (sym (placed_other pid pick out J legal region (λ x is m. none (ap (λ (n : Node). moved_by n.args) (same_Some step.node x (sym step.node_is ∙ is)) ∙ m)))) ∙ at

    by : (o : Option Region) → moved_by step.node.args ≡ o → is_at server (place_of J region) ≡ true
    by None e = stays (λ m. none-some region (sym e ∙ m))
    by (Some own) e = elim (cases_Bool (same_region region own)) [
      | inr off ↦ stays (λ m. true≢false (sym (same_region-refl region) ∙ ap (same_region region) (same_Some region own (sym m ∙ e)) ∙ off))
      | inl on ↦
          let m : moved_by step.node.args ≡ Some region = e ∙ ap Some (sym (same_region-is region own on)) in
          comes_not pid pick out J legal step.node step.node_is region m (opening_all J legal.0 pid.0 step.node region step.node_is m) server other at
    ]
none_comes_other (entry_is.Base part) J legal server other region at = absurd other
none_comes_other entry J legal server other region at = at

-- nor to one that went down
pub none_comes : (entry : Entry) (J : Past) → IsLegal (entry ∷ J) → (p : ℕ) (x : Node) → node_of J p ≡ Some x → (server : Server) → IsDead J server → (region : Region) → is_at server (place_of (entry ∷ J) region) ≡ true → is_at server (place_of J region) ≡ true
none_comes entry J legal p x is server dead region at = none_comes_other entry J legal server (other entry legal) region at
  where
    apart : (picked : Server) → is_live J picked ≡ true → same_server server picked ≡ false
    apart picked live = elim (cases_Bool (same_server server picked)) [
      | inr off ↦ off
      | inl on ↦ absurd (true≢false (sym live ∙ ap (is_live J) (sym (same_server-is server picked on)) ∙ dead.1))
    ]

    other : (entry : Entry) → IsLegal (entry ∷ J) → PicksOther J server entry
    other (entry_is.Step pid pick out) legal = λ picked e live. apart picked live
    other (entry_is.Base part) legal = absurd (none-some x (sym (no_node part J legal.1.0 p) ∙ is))
    other entry legal = tt
