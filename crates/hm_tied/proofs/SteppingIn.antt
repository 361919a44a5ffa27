-- What a step leaves to do.
use Rattle.std.proofs.Common.{Bool, List, None, Option, Some, [], ap, false, inl, inr, is_none, refl, subst, sym, true, ℕ, ◌==◌, ◌&&◌, ◌||◌, ◌∙◌, ◌∷◌, ◌≡◌, ◌≢◌, ◌⊎◌}
use Rattle.std.proofs.lemmas.Bool.{and_left, cases_Bool, cases_eq, cond-false, eq-eqb, eqb-true, ne_eqb, or_cases, or_left, or_right, true≢false}
use Rattle.std.proofs.lemmas.Option.{none-some, same_Some}
use Rattle.hm_names.specs.Server.{Server}
use Rattle.hm_names.specs.declared.pid.Pid.{Pid}
use Rattle.hm_data.specs.declared.entry.Entry.TheVariants as entry_is
use Rattle.hm_data.specs.declared.step.StepOut.{StepOut}
use Rattle.hm_model.specs.Answers.{is_stopped, last_answer}
use Rattle.hm_model.specs.Apart.{tree_of}
use Rattle.hm_model.specs.Claims.{Unclaims}
use Rattle.hm_model.specs.Inputs.{undoes}
use Rattle.hm_model.specs.Journal.{Past}
use Rattle.hm_model.specs.Locks.{IsIn}
use Rattle.hm_model.specs.Phase.{ended_node, is_parent, phase, root_ended}
use Rattle.hm_model.specs.Rest.{MayStep}
use Rattle.hm_model.specs.Rules.{IsLegal}
use Rattle.hm_model.specs.Touched.{IsTouched}
use Rattle.hm_model.specs.Tree.{Node, is_root, is_root_in, is_top, node_of, root_in}
use Rattle.hm_model.proofs.Forest.{forest_all, rooted_all, top_is_own}
use Rattle.hm_model.proofs.Grown.{nodes_stay, not_stepped, stepped}
use Rattle.hm_model.proofs.Touched.{ends_by, let_go}
use Rattle.hm_model.proofs.Trees.{grown_all, some_of}
use Rattle.hm_tied.specs.Tied.{CanGo, IsCalm, IsOpen}
use Rattle.hm_tied.specs.TiedIn.{LacksPick}
use Rattle.hm_tied.specs.Entries.{is_new, touched}
use Rattle.hm_tied.specs.Unread.{are_read_by}
use Rattle.hm_tied.proofs.Unread.{unread_stay}
use Rattle.hm_tied.specs.EntriesIn.{StepOwes, step_debts}
use Rattle.hm_tied.proofs.EnteringIn.{Changes, changed}
use Rattle.hm_model.proofs.Running.{Runs, calm_stopped, ready_runs, run_last, run_open, run_root, top_or_below, unstepped_open}
use Rattle.hm_model.proofs.Small.{top_is}
use Rattle.hm_tied.specs.Bounds.{Bounds, PickAllowed}
use Rattle.hm_model.specs.Places.{has_failed, one_more, tries_of}
use Rattle.hm_model.specs.Inputs.{place_if}
use Rattle.hm_model.specs.TransitActs.{told_place}
use Rattle.hm_model.specs.Wanted.{wanted_of}
use Rattle.hm_model.specs.Whereabouts.{moved_by}
use Rattle.hm_single.proofs.Own.{step}
use Rattle.hm_tied.proofs.Fitting.{none_fits}
use Rattle.hm_tied.proofs.PickingIn.{SeesSame, fits_back, fits_by, fits_moved}
use Rattle.hm_tied.proofs.OpeningsIn.{Stays, place_stays}
use Rattle.hm_tied.proofs.Staying.{below_none, same_calm, same_undoes}
use Rattle.hm_tied.proofs.StayingIn.{lacks_after}

module _ (pid : Pid) (pick : Option Server) (out : StepOut) (J : Past) (legal : IsLegal (entry_is.Step pid pick out ∷ J)) (me : Node) (is_me : node_of J pid.0 ≡ Some me) where
  abbrev after : Past
  after = entry_is.Step pid pick out ∷ J

  runs : Runs (phase J pid.0 me)
  runs =
      let may : MayStep J pid.0 = legal.1.1.0 in
      subst (λ x. Runs (phase J pid.0 x)) (same_Some may.0 me (sym may.1 ∙ is_me)) (ready_runs J pid.0 may.0 may.2)

  ran : is_stopped (last_answer J pid.0) ≡ false
  ran = (run_last J legal.0 pid.0 me is_me runs).0

  own_tree : tree_of J (entry_is.Step pid pick out) ≡ me.root
  own_tree = ap root_in is_me

  root_is : (top : Node) × (node_of J me.root ≡ Some top) × (top.above ≡ [])
  root_is = let root = rooted_all J legal.0 pid.0 me is_me in (root.root, root.there, root.at_top)

  root_top : is_root J me.root ≡ true
  root_top = ap is_root_in root_is.1 ∙ ap is_top root_is.2

  root_open : IsOpen J me.root
  root_open = (
    (λ none. none-some root_is.0 (sym none ∙ root_is.1)),
    ap (ended_node J me.root) root_is.1 ∙ ap (λ above. Rattle.std.proofs.Common.cond (is_top above) (root_ended J me.root) (is_stopped (last_answer J me.root))) root_is.2 ∙ run_root J legal.0 pid.0 me is_me runs,
  )

  abbrev over : ℕ → Bool
  over q = (q == pid.0) || (q == me.root)

  over_is : (q : ℕ) → over q ≡ true → (q ≡ pid.0) ⊎ (q ≡ me.root)
  over_is q e = elim (or_cases (q == pid.0) (q == me.root) e) [ inl own ↦ inl (eqb-true q pid.0 own) | inr root ↦ inr (eqb-true q me.root root) ]

  is_over : (q : ℕ) → (q ≡ pid.0) ⊎ (q ≡ me.root) → over q ≡ true
  is_over q (inl own) = or_left (q == pid.0) (q == me.root) (eq-eqb q pid.0 own)
  is_over q (inr root) = or_right (q == pid.0) (q == me.root) (eq-eqb q me.root root)

  touch : (q : ℕ) → IsTouched pid.0 me q → touched pid.0 me q ≡ true
  touch q (inl own) = or_left (q == pid.0) (is_parent q me.above || (q == me.root)) (eq-eqb q pid.0 own)
  touch q (inr (inl parent)) = or_right (q == pid.0) (is_parent q me.above || (q == me.root)) (or_left (is_parent q me.above) (q == me.root) parent)
  touch q (inr (inr root)) = or_right (q == pid.0) (is_parent q me.above || (q == me.root)) (or_right (is_parent q me.above) (q == me.root) (eq-eqb q me.root root))

  -- no root but its own is calm while it goes on
  not_calm : (q : ℕ) → q ≢ pid.0 → q ≡ me.root → IsCalm J q → ⊥
  not_calm q differs same calm =
      true≢false (sym (calm_stopped J legal.0 q pid.0 me is_me (sym same) (λ own. differs (sym own)) (calm (ap (is_root J) same ∙ root_top))) ∙ ran)

  -- so a calm root is of another tree
  pub other_tree : (q : ℕ) (x : Node) → node_of J q ≡ Some x → q ≢ pid.0 → IsCalm J q → is_top x.above ≡ true → x.root ≢ tree_of J (entry_is.Step pid pick out)
  other_tree q x is differs calm top same =
      not_calm q differs (sym (top_is_own J (forest_all J legal.0) q x is (top_is x.above top)) ∙ same ∙ own_tree) calm

  calm_on : (q : ℕ) (x : Node) → node_of J q ≡ Some x → q ≢ pid.0 → IsCalm J q → IsCalm after q
  calm_on q x is differs calm root =
      let top : is_top x.above ≡ true = ap is_root_in (sym (nodes_stay (entry_is.Step pid pick out) J legal q x is)) ∙ root in
      same_calm (entry_is.Step pid pick out) J legal q x is (other_tree q x is differs calm top) calm root

  none_on : (q : ℕ) (x : Node) → node_of J q ≡ Some x → q ≢ pid.0 → IsCalm J q → undoes J q x ≡ false → undoes after q x ≡ false
  none_on q x is differs calm none = elim (top_or_below x.above) [
    | inr below ↦ below_none after q x below.0
    | inl top ↦ same_undoes (entry_is.Step pid pick out) J legal q x is (other_tree q x is differs calm top) ∙ none
  ]

  -- where the pick is allowed, the place that one sees who lacks a server stays, or becomes one that isn't open
  stands : (bounds : Bounds) → PickAllowed bounds me pick → (q : ℕ) → q ≢ pid.0 → (lack : LacksPick bounds J q) → (let x = lack.0 in Stays pid pick out J legal (moved_by x.args))
  stands bounds allowed q differs lack =
      let x = lack.0 in
      let own = (let facts = step pid pick out J legal in subst (λ n. PickAllowed bounds n pick) (same_Some me facts.node (sym is_me ∙ facts.node_is)) allowed) in
      place_stays pid pick out J legal x.args lack.5 (λ region m moves chosen. none_fits pid pick out J legal bounds q differs lack own region m moves chosen)

  tried_same : (q : ℕ) → q ≢ pid.0 → tries_of after q ≡ tries_of J q
  tried_same q differs = cond-false ((q == pid.0) && has_failed out.place) (one_more (tries_of J q)) (tries_of J q) (and_left (q == pid.0) (has_failed out.place) (ne_eqb q pid.0 differs))

  back : (bounds : Bounds) → PickAllowed bounds me pick → (q : ℕ) → q ≢ pid.0 → (lack : LacksPick bounds J q) → (let x = lack.0 in (s : Server) → fits_by after (wanted_of x.args) (tries_of after q) (told_place (place_if after (moved_by x.args))) s ≡ true
      → fits_by J (wanted_of x.args) (tries_of J q) (told_place (place_if J (moved_by x.args))) s ≡ true)
  back bounds allowed q differs lack s fits = elim (stands bounds allowed q differs lack).0 [
    | inl same ↦ fits_back J after (λ z. refl) (λ z. refl) q lack.0 (tried_same q differs) same s fits
    | inr both ↦ fits_moved J after (λ z. refl) q lack.0 (tried_same q differs) both.1 s fits
  ]

  sees : (bounds : Bounds) → PickAllowed bounds me pick → (q : ℕ) → q ≢ pid.0 → (lack : LacksPick bounds J q) → are_read_by out.edits (node_of J q) ≡ false → (let x = lack.0 in SeesSame J after q x.args)
  sees bounds allowed q differs lack unread =
      let x = lack.0 in
      let stays = stands bounds allowed q differs lack in
      record {
        last = not_stepped pid pick out J q differs;
        aborted = refl;
        rows = unread_stay J out.edits x.args (sym (ap (are_read_by out.edits) lack.1) ∙ unread);
        place = elim stays.0 [ inl same ↦ inl same | inr both ↦ inr both.0 ];
        opening = λ off. stays.1;
        fenced = λ s e. e;
      }

  lacks_still : (bounds : Bounds) → PickAllowed bounds me pick → (q : ℕ) → q ≢ pid.0 → (lack : LacksPick bounds J q) → IsCalm J q → (LacksPick bounds after q × IsCalm after q) ⊎ (are_read_by out.edits (node_of J q) ≡ true)
  lacks_still bounds allowed q differs lack calm = elim (cases_Bool (are_read_by out.edits (node_of J q))) [
    | inl on ↦ inr on
    | inr off ↦ inl (
      lacks_after bounds (entry_is.Step pid pick out) J legal q lack (none_on q lack.0 lack.1 differs calm lack.2, sees bounds allowed q differs lack off) (λ s may fits. back bounds allowed q differs lack s fits),
      calm_on q lack.0 lack.1 differs calm,
    )
  ]

  pub step_changes : (bounds : Bounds) → PickAllowed bounds me pick → (claimed left_claimed : List ℕ) → IsIn pid.0 claimed → Unclaims pid.0 claimed left_claimed → ((q : ℕ) → IsIn q claimed → IsCalm J q) → Changes bounds J after claimed left_claimed (step_debts J pid.0 me out)
  step_changes bounds allowed claimed left_claimed mine less calms = record {
    stays = nodes_stay (entry_is.Step pid pick out) J legal;
    fresh = λ q none.
        let differs : q ≢ pid.0 = λ same. none-some me (sym none ∙ ap (node_of J) same ∙ is_me) in
        let fresh = not_stepped pid pick out J q differs ∙ (grown_all J legal.0).unmade q none in
        (fresh, unstepped_open after legal q fresh);
    made = λ q none some. or_left (is_new J q) (touched pid.0 me q) (ap (λ o. is_none o) none);
    ends = λ q some. elim (ends_by pid pick out J legal me is_me q some) [ inl same ↦ inl same | inr which ↦ inr (is_over q which) ];
    were = λ q e. elim (over_is q e) [
      | inl own ↦ subst (IsOpen J) (sym own) ((λ none. none-some me (sym none ∙ is_me)), run_open J legal.0 pid.0 me is_me runs)
      | inr root ↦ subst (IsOpen J) (sym root) root_open
    ];
    fewer = λ q among. ((less q).0 among).0;
    free = λ q apart. elim (cases_eq q pid.0) [
      | inl own ↦ inr (or_right (is_new J q) (touched pid.0 me q) (touch q (inl own)))
      | inr differs ↦ inl (λ among. apart ((less q).1 (among, differs)))
    ];
    lasting = λ q among e. elim (over_is q e) [
      | inl own ↦ ((less q).0 among).1 own
      | inr root ↦ not_calm q ((less q).0 among).1 root (calms q ((less q).0 among).0)
    ];
    calm = λ q some among. (let x = some_of (node_of J q) some in calm_on q x.0 x.1 ((less q).0 among).1);
    held = λ q h. elim (cases_eq q pid.0) [
      | inl own ↦ inl (λ none. none-some out.answer (sym none ∙ ap (last_answer after) own ∙ stepped pid pick out J))
      | inr differs ↦ elim h [ inl some ↦ inl (λ none. some (sym (not_stepped pid pick out J q differs) ∙ none)) | inr among ↦ inr ((less q).1 (among, differs)) ]
    ];
    holds = λ q some h. elim (cases_eq q pid.0) [
      | inl own ↦ inr (subst (λ n. IsIn n claimed) (sym own) mine)
      | inr differs ↦ elim h [ inl step ↦ inl (λ none. step (not_stepped pid pick out J q differs ∙ none)) | inr among ↦ inr ((less q).0 among).0 ]
    ];
    lasts = λ q apart. not_stepped pid pick out J q (λ own. apart (subst (λ n. IsIn n claimed) (sym own) mine));
    goes = goes;
    owes = λ q some go. elim (goes q some go) [ inl was ↦ inl (inl was) | inr on ↦ inr (or_right (is_new J q) (touched pid.0 me q) on) ];
    picks = λ q apart lack calm. lacks_still bounds allowed q (λ own. apart (subst (λ n. IsIn n claimed) (sym own) mine)) lack calm;
  }
    where
      goes : (q : ℕ) → node_of J q ≢ None → CanGo after q → CanGo J q ⊎ (touched pid.0 me q ≡ true)
      goes q some (inl may) = elim ((let_go pid pick out J legal me is_me q some).0 may) [ inl was ↦ inl (inl was) | inr is ↦ inr (touch q is) ]
      goes q some (inr undo) = elim ((let_go pid pick out J legal me is_me q some).1 undo) [ inl was ↦ inl (inr was) | inr is ↦ inr (touch q is) ]

pub step_owes : StepOwes
step_owes pid pick out J number_of roster claimed rows node legal tied mine is allowed less enlists =
    changed J (entry_is.Step pid pick out ∷ J) legal number_of roster claimed rows (step_debts J pid.0 node out) tied
    (step_changes pid pick out J legal node is roster.bounds allowed roster.claimed claimed mine less (λ q among. (tied.claims q among).1)) enlists
