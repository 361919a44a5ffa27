-- What a step leaves to do.
use Rattle.std.proofs.Common.{Bool, List, None, Option, Some, [], ap, false, inl, inr, is_none, not, refl, subst, sym, true, ℕ, ◌==◌, ◌||◌, ◌∙◌, ◌∷◌, ◌≡◌, ◌≢◌, ◌⊎◌}
use Rattle.std.proofs.lemmas.Bool.{cases_Bool, cases_eq, eq-eqb, eqb-true, or_cases, or_left, or_parts, or_right, true≢false}
use Rattle.std.proofs.lemmas.Option.{none-some, same_Some}
use Rattle.hm_names.specs.Server.{Server}
use Rattle.hm_names.specs.declared.pid.Pid.{Pid}
use Rattle.hm_data.specs.declared.args.Args.{Args}
use Rattle.hm_data.specs.declared.catalog.Edit.{Edit}
use Rattle.hm_data.specs.declared.entry.Entry.TheVariants as entry_is
use Rattle.hm_data.specs.declared.step.StepOut.{StepOut}
use Rattle.hm_model.specs.Answers.{is_stopped, last_answer}
use Rattle.hm_model.specs.Apart.{tree_of}
use Rattle.hm_model.specs.Catalog.{cat, edited, keys_of, rows_at, with_keys}
use Rattle.hm_model.specs.Claims.{Unclaims}
use Rattle.hm_model.specs.Fleet.{has_live}
use Rattle.hm_model.specs.Inputs.{rows_read, undoes}
use Rattle.hm_model.specs.Journal.{Past}
use Rattle.hm_model.specs.Locks.{IsIn}
use Rattle.hm_model.specs.Phase.{ended_node, is_parent, phase, root_ended}
use Rattle.hm_model.specs.Picks.{needs_server}
use Rattle.hm_model.specs.Reads.{reads}
use Rattle.hm_model.specs.Rest.{MayStep}
use Rattle.hm_model.specs.Rules.{IsLegal}
use Rattle.hm_model.specs.Touched.{IsTouched}
use Rattle.hm_model.specs.Tree.{Node, is_root, is_root_in, is_top, node_of, root_in}
use Rattle.hm_model.proofs.Forest.{forest_all, rooted_all, top_is_own}
use Rattle.hm_model.proofs.Grown.{nodes_stay, not_stepped, stepped}
use Rattle.hm_model.proofs.Touched.{ends_by, let_go}
use Rattle.hm_model.proofs.Trees.{grown_all, some_of}
use Rattle.hm_tied.specs.Tied.{CanGo, IsCalm, IsOpen, LacksPick}
use Rattle.hm_tied.specs.Entries.{StepOwes, alters, has_edits, is_new, step_debts, touched}
use Rattle.hm_tied.proofs.Entering.{Changes, changed}
use Rattle.hm_model.proofs.Running.{Runs, calm_stopped, ready_runs, run_last, run_open, run_root, top_or_below, unstepped_open}
use Rattle.hm_model.proofs.Small.{top_is}
use Rattle.hm_tied.proofs.Picking.{SeesSame}
use Rattle.hm_tied.proofs.Openings.{place_stays}
use Rattle.hm_tied.proofs.Staying.{below_none, lacks_after, same_calm, same_undoes}

-- rows are read as before where nothing was edited
pub rows_same : (J : Past) (edits : List Edit) (args : Args) → has_edits edits ≡ false → rows_at (reads args) (λ key. edited edits key (cat J key)) (with_keys edits (keys_of J)) ≡ rows_read J args
rows_same J [] args none = refl
rows_same J (edit ∷ edits) args none = absurd (true≢false none)

module _ (pid : Pid) (pick : Option Server) (out : StepOut) (J : Past) (legal : IsLegal (entry_is.Step pid pick out ∷ J)) (me : Node) (is_me : node_of J pid.0 ≡ Some me) where
  abbrev after : Past
  after = entry_is.Step pid pick out ∷ J

  runs : Runs (phase J pid.0 me)
  runs =
      let may : MayStep J pid.0 = legal.1.1.0 in
      subst (λ x. Runs (phase J pid.0 x)) (same_Some may.0 me (sym may.1 ∙ is_me)) (ready_runs J pid.0 may.0 may.2)

  ran : is_stopped (last_answer J pid.0) ≡ false
  ran = (run_last J legal.0 pid.0 me is_me runs).0

  own_tree : tree_of J (entry_is.Step pid pick out) ≡ me.root
  own_tree = ap root_in is_me

  root_is : (top : Node) × (node_of J me.root ≡ Some top) × (top.above ≡ [])
  root_is = let root = rooted_all J legal.0 pid.0 me is_me in (root.root, root.there, root.at_top)

  root_top : is_root J me.root ≡ true
  root_top = ap is_root_in root_is.1 ∙ ap is_top root_is.2

  root_open : IsOpen J me.root
  root_open = (
    (λ none. none-some root_is.0 (sym none ∙ root_is.1)),
    ap (ended_node J me.root) root_is.1 ∙ ap (λ above. Rattle.std.proofs.Common.cond (is_top above) (root_ended J me.root) (is_stopped (last_answer J me.root))) root_is.2 ∙ run_root J legal.0 pid.0 me is_me runs,
  )

  abbrev over : ℕ → Bool
  over q = (q == pid.0) || (q == me.root)

  over_is : (q : ℕ) → over q ≡ true → (q ≡ pid.0) ⊎ (q ≡ me.root)
  over_is q e = elim (or_cases (q == pid.0) (q == me.root) e) [ inl own ↦ inl (eqb-true q pid.0 own) | inr root ↦ inr (eqb-true q me.root root) ]

  is_over : (q : ℕ) → (q ≡ pid.0) ⊎ (q ≡ me.root) → over q ≡ true
  is_over q (inl own) = or_left (q == pid.0) (q == me.root) (eq-eqb q pid.0 own)
  is_over q (inr root) = or_right (q == pid.0) (q == me.root) (eq-eqb q me.root root)

  touch : (q : ℕ) → IsTouched pid.0 me q → touched pid.0 me q ≡ true
  touch q (inl own) = or_left (q == pid.0) (is_parent q me.above || (q == me.root)) (eq-eqb q pid.0 own)
  touch q (inr (inl parent)) = or_right (q == pid.0) (is_parent q me.above || (q == me.root)) (or_left (is_parent q me.above) (q == me.root) parent)
  touch q (inr (inr root)) = or_right (q == pid.0) (is_parent q me.above || (q == me.root)) (or_right (is_parent q me.above) (q == me.root) (eq-eqb q me.root root))

  -- no root but its own is calm while it goes on
  not_calm : (q : ℕ) → q ≢ pid.0 → q ≡ me.root → IsCalm J q → ⊥
  not_calm q differs same calm =
      true≢false (sym (calm_stopped J legal.0 q pid.0 me is_me (sym same) (λ own. differs (sym own)) (calm (ap (is_root J) same ∙ root_top))) ∙ ran)

  -- so a calm root is of another tree
  pub other_tree : (q : ℕ) (x : Node) → node_of J q ≡ Some x → q ≢ pid.0 → IsCalm J q → is_top x.above ≡ true → x.root ≢ tree_of J (entry_is.Step pid pick out)
  other_tree q x is differs calm top same =
      not_calm q differs (sym (top_is_own J (forest_all J legal.0) q x is (top_is x.above top)) ∙ same ∙ own_tree) calm

  calm_on : (q : ℕ) (x : Node) → node_of J q ≡ Some x → q ≢ pid.0 → IsCalm J q → IsCalm after q
  calm_on q x is differs calm root =
      let top : is_top x.above ≡ true = ap is_root_in (sym (nodes_stay (entry_is.Step pid pick out) J legal q x is)) ∙ root in
      same_calm (entry_is.Step pid pick out) J legal q x is (other_tree q x is differs calm top) calm root

  none_on : (q : ℕ) (x : Node) → node_of J q ≡ Some x → q ≢ pid.0 → IsCalm J q → undoes J q x ≡ false → undoes after q x ≡ false
  none_on q x is differs calm none = elim (top_or_below x.above) [
    | inr below ↦ below_none after q x below.0
    | inl top ↦ same_undoes (entry_is.Step pid pick out) J legal q x is (other_tree q x is differs calm top) ∙ none
  ]

  sees : (q : ℕ) → q ≢ pid.0 → (lack : LacksPick J q) → has_edits out.edits ≡ false → (let x = lack.0 in SeesSame J after q x.args)
  sees q differs lack editless =
      let x = lack.0 in
      let stays = place_stays pid pick out J legal x.args lack.4 (or_parts (not (needs_server J q x)) (has_live J) lack.3).1 in
      record {
        last = not_stepped pid pick out J q differs;
        aborted = refl;
        rows = rows_same J out.edits x.args editless;
        place = stays.0;
        opening = λ off. stays.1;
        fenced = λ s e. e;
        live = refl;
      }

  lacks_still : (q : ℕ) → q ≢ pid.0 → (lack : LacksPick J q) → IsCalm J q → (LacksPick after q × IsCalm after q) ⊎ (alters out ≡ true)
  lacks_still q differs lack calm = elim (cases_Bool (alters out)) [
    | inl on ↦ inr on
    | inr off ↦ inl (
      lacks_after (entry_is.Step pid pick out) J legal q lack (none_on q lack.0 lack.1 differs calm lack.2, sees q differs lack off),
      calm_on q lack.0 lack.1 differs calm,
    )
  ]

  pub step_changes : (claimed left_claimed : List ℕ) → IsIn pid.0 claimed → Unclaims pid.0 claimed left_claimed → ((q : ℕ) → IsIn q claimed → IsCalm J q) → Changes J after claimed left_claimed (step_debts J pid.0 me out)
  step_changes claimed left_claimed mine less calms = record {
    stays = nodes_stay (entry_is.Step pid pick out) J legal;
    fresh = λ q none.
        let differs : q ≢ pid.0 = λ same. none-some me (sym none ∙ ap (node_of J) same ∙ is_me) in
        let fresh = not_stepped pid pick out J q differs ∙ (grown_all J legal.0).unmade q none in
        (fresh, unstepped_open after legal q fresh);
    made = λ q none some. or_left (is_new J q) (touched pid.0 me q) (ap (λ o. is_none o) none);
    ends = λ q some. elim (ends_by pid pick out J legal me is_me q some) [ inl same ↦ inl same | inr which ↦ inr (is_over q which) ];
    were = λ q e. elim (over_is q e) [
      | inl own ↦ subst (IsOpen J) (sym own) ((λ none. none-some me (sym none ∙ is_me)), run_open J legal.0 pid.0 me is_me runs)
      | inr root ↦ subst (IsOpen J) (sym root) root_open
    ];
    fewer = λ q among. ((less q).0 among).0;
    free = λ q apart. elim (cases_eq q pid.0) [
      | inl own ↦ inr (or_right (is_new J q) (touched pid.0 me q) (touch q (inl own)))
      | inr differs ↦ inl (λ among. apart ((less q).1 (among, differs)))
    ];
    lasting = λ q among e. elim (over_is q e) [
      | inl own ↦ ((less q).0 among).1 own
      | inr root ↦ not_calm q ((less q).0 among).1 root (calms q ((less q).0 among).0)
    ];
    calm = λ q some among. (let x = some_of (node_of J q) some in calm_on q x.0 x.1 ((less q).0 among).1);
    held = λ q h. elim (cases_eq q pid.0) [
      | inl own ↦ inl (λ none. none-some out.answer (sym none ∙ ap (last_answer after) own ∙ stepped pid pick out J))
      | inr differs ↦ elim h [ inl some ↦ inl (λ none. some (sym (not_stepped pid pick out J q differs) ∙ none)) | inr among ↦ inr ((less q).1 (among, differs)) ]
    ];
    holds = λ q some h. elim (cases_eq q pid.0) [
      | inl own ↦ inr (subst (λ n. IsIn n claimed) (sym own) mine)
      | inr differs ↦ elim h [ inl step ↦ inl (λ none. step (not_stepped pid pick out J q differs ∙ none)) | inr among ↦ inr ((less q).0 among).0 ]
    ];
    lasts = λ q apart. not_stepped pid pick out J q (λ own. apart (subst (λ n. IsIn n claimed) (sym own) mine));
    goes = goes;
    owes = λ q some go. elim (goes q some go) [ inl was ↦ inl (inl was) | inr on ↦ inr (or_right (is_new J q) (touched pid.0 me q) on) ];
    picks = λ q apart lack calm. lacks_still q (λ own. apart (subst (λ n. IsIn n claimed) (sym own) mine)) lack calm;
  }
    where
      goes : (q : ℕ) → node_of J q ≢ None → CanGo after q → CanGo J q ⊎ (touched pid.0 me q ≡ true)
      goes q some (inl may) = elim ((let_go pid pick out J legal me is_me q some).0 may) [ inl was ↦ inl (inl was) | inr is ↦ inr (touch q is) ]
      goes q some (inr undo) = elim ((let_go pid pick out J legal me is_me q some).1 undo) [ inl was ↦ inl (inr was) | inr is ↦ inr (touch q is) ]

pub step_owes : StepOwes
step_owes pid pick out J number_of roster claimed rows node legal tied mine is less enlists =
    changed J (entry_is.Step pid pick out ∷ J) legal number_of roster claimed rows (step_debts J pid.0 node out) tied
    (step_changes pid pick out J legal node is roster.claimed claimed mine less (λ q among. (tied.claims q among).1)) enlists
