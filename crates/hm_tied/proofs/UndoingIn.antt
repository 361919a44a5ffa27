-- What an undo leaves to do.
use Rattle.std.proofs.Common.{List, None, Some, ap, cond, false, inl, inr, is_none, is_some, refl, subst, sym, true, ℕ, ◌==◌, ◌∙◌, ◌∷◌, ◌≡◌, ◌≢◌, ◌⊎◌}
use Rattle.std.proofs.lemmas.Bool.{cases_Bool, cases_eq, eq-eqb, eqb-true, false≢true, or_left, or_right, true≢false}
use Rattle.std.proofs.lemmas.Option.{none-some, same_Some}
use Rattle.hm_names.specs.declared.pid.Pid.{Pid}
use Rattle.hm_data.specs.declared.args.Args.{Args}
use Rattle.hm_data.specs.declared.entry.Entry.TheVariants as entry_is
use Rattle.hm_data.specs.declared.place.RegionState.TheVariants as place_is
use Rattle.hm_data.specs.declared.step.StepOut.{StepOut}
use Rattle.hm_model.specs.Answers.{is_stopped, last_answer}
use Rattle.hm_model.specs.Apart.{tree_of}
use Rattle.hm_model.specs.Claims.{Unclaims}
use Rattle.hm_model.specs.Inputs.{undoes}
use Rattle.hm_model.specs.Journal.{Past}
use Rattle.hm_model.specs.Locks.{IsIn}
use Rattle.hm_model.specs.Phase.{all_stopped, cause, ended, ended_node, root_ended}
use Rattle.hm_model.specs.Rules.{IsLegal, IsLatest}
use Rattle.hm_model.specs.TransitActs.{is_state, told_place}
use Rattle.hm_model.specs.Tree.{Node, is_root_in, is_top, node_of, root_of}
use Rattle.hm_model.specs.Undo.{is_empty, stack}
use Rattle.hm_model.specs.Whereabouts.{moved_by}
use Rattle.hm_model.proofs.Forest.{forest_all, top_is_own}
use Rattle.hm_model.proofs.Grown.{nodes_stay}
use Rattle.hm_model.proofs.Trees.{grown_all, some_of}
use Rattle.hm_tied.specs.Bounds.{Bounds}
use Rattle.hm_tied.specs.Tied.{CanGo, IsCalm, IsOpen}
use Rattle.hm_tied.specs.TiedIn.{LacksPick}
use Rattle.hm_tied.specs.Entries.{is_new}
use Rattle.hm_tied.specs.Unread.{are_read, are_read_by}
use Rattle.hm_tied.proofs.Unread.{unread_stay}
use Rattle.hm_tied.specs.EntriesIn.{UndoOwes, undo_debts}
use Rattle.hm_tied.proofs.EnteringIn.{Changes, changed}
use Rattle.hm_model.proofs.Running.{calm_stopped, ready_runs, run_last, top_or_below, undo_facts, undo_open, unfailed, unstepped_open}
use Rattle.hm_model.proofs.Small.{top_is}
use Rattle.hm_tied.proofs.Picking.{place_same}
use Rattle.hm_tied.proofs.PickingIn.{fits_back, SeesSame}
use Rattle.hm_tied.proofs.Staying.{SameCalls, below_none, same_calm, same_go, same_tree, same_undoes}
use Rattle.hm_tied.proofs.StayingIn.{lacks_after}

module _ (pid : Pid) (row : ℕ) (out : StepOut) (J : Past) (legal : IsLegal (entry_is.Undo pid row out ∷ J)) where
  abbrev after : Past
  after = entry_is.Undo pid row out ∷ J

  abbrev root : ℕ
  root = root_of J pid.0

  latest : IsLatest J pid.0 row
  latest = legal.1.1.0

  facts : (is_top ((latest.0).above) ≡ true) × (is_some (cause J root) ≡ true) × (all_stopped J root ≡ true) × (is_empty (stack J root) ≡ false)
  facts = undo_facts J root latest.0 latest.2

  root_open : IsOpen J root
  root_open = (
    (λ none. none-some latest.0 (sym none ∙ latest.1)),
    ap (ended_node J root) latest.1 ∙ ap (λ b. cond b (root_ended J root) (is_stopped (last_answer J root))) facts.0 ∙ undo_open J root latest.0 latest.2,
  )

  begun : last_answer J root ≢ None
  begun none = false≢true (ap is_some (sym (unfailed J legal.0 root none)) ∙ facts.1)

  calls : SameCalls J after
  calls = record { reports = λ q. refl; fenced = λ s e. e }

  stay : (q : ℕ) (x : Node) → node_of J q ≡ Some x → node_of after q ≡ Some x
  stay = nodes_stay (entry_is.Undo pid row out) J legal

  -- a root of another number is of another tree
  other_root : (q : ℕ) (x : Node) → node_of J q ≡ Some x → q ≢ root → is_top x.above ≡ true → x.root ≢ tree_of J (entry_is.Undo pid row out)
  other_root q x is differs top same = differs (sym (top_is_own J (forest_all J legal.0) q x is (top_is x.above top)) ∙ same)

  -- whoever is below the root has stopped
  pub below_is : (q : ℕ) (x : Node) → node_of J q ≡ Some x → x.root ≡ root → q ≢ root → (is_top x.above ≡ false) × (is_stopped (last_answer J q) ≡ true)
  below_is q x is of differs = (
    elim (top_or_below x.above) [ inl top ↦ absurd (other_root q x is differs top of) | inr below ↦ below.0 ],
    calm_stopped J legal.0 root q x is of differs facts.2,
  )

  ends : (q : ℕ) (x : Node) → node_of J q ≡ Some x → (ended after q ≡ ended J q) ⊎ ((q == root) ≡ true)
  ends q x is = elim (cases_eq q root) [
    | inl own ↦ inr (eq-eqb q root own)
    | inr differs ↦ elim (cases_eq x.root root) [
      | inr other ↦ (let tree = same_tree (entry_is.Undo pid row out) J legal q x is other in inl (tree.ends q x is refl))
      | inl of ↦ inl (
          ap (ended_node after q) (stay q x is) ∙ ap (λ b. cond b (root_ended after q) (is_stopped (last_answer J q))) (below_is q x is of differs).0
          ∙ sym (ap (ended_node J q) is ∙ ap (λ b. cond b (root_ended J q) (is_stopped (last_answer J q))) (below_is q x is of differs).0)
          )
    ]
  ]

  stopped_stays : (q : ℕ) (x : Node) → node_of J q ≡ Some x → x.root ≡ root → q ≢ root → CanGo after q → ⊥
  stopped_stays q x is of differs (inl may) =
      true≢false (sym (below_is q x is of differs).1 ∙ (run_last after legal q may.0 may.1 (ready_runs after q may.0 may.2)).0)
  stopped_stays q x is of differs (inr undo) =
      let same : undo.0 ≡ x = same_Some undo.0 x (sym undo.1 ∙ stay q x is) in
      true≢false (sym (ap (λ (n : Node). is_top n.above) (sym same) ∙ (undo_facts after q undo.0 undo.2).0) ∙ (below_is q x is of differs).0)

  goes : (q : ℕ) (x : Node) → node_of J q ≡ Some x → CanGo after q → CanGo J q ⊎ ((q == root) ≡ true)
  goes q x is go = elim (cases_eq q root) [
    | inl own ↦ inr (eq-eqb q root own)
    | inr differs ↦ elim (cases_eq x.root root) [
      | inr other ↦ inl (same_go (entry_is.Undo pid row out) J legal q x is other calls go)
      | inl of ↦ absurd (stopped_stays q x is of differs go)
    ]
  ]

  calm_on : (q : ℕ) (x : Node) → node_of J q ≡ Some x → q ≢ root → IsCalm J q → IsCalm after q
  calm_on q x is differs calm top =
      let at_top : is_top x.above ≡ true = ap is_root_in (sym (stay q x is)) ∙ top in
      same_calm (entry_is.Undo pid row out) J legal q x is (other_root q x is differs at_top) calm top

  none_on : (q : ℕ) (x : Node) → node_of J q ≡ Some x → q ≢ root → undoes J q x ≡ false → undoes after q x ≡ false
  none_on q x is differs none = elim (top_or_below x.above) [
    | inr below ↦ below_none after q x below.0
    | inl top ↦ same_undoes (entry_is.Undo pid row out) J legal q x is (other_root q x is differs top) ∙ none
  ]

  sees : (q : ℕ) (args : Args) → are_read out.edits args ≡ false → SeesSame J after q args
  sees q args unread = record {
    last = refl;
    aborted = refl;
    rows = unread_stay J out.edits args unread;
    place = inl (place_same J after (λ region. refl) (moved_by args));
    opening = λ off. ap (λ p. is_state place_is.Opening (told_place p)) (place_same J after (λ region. refl) (moved_by args)) ∙ off;
    fenced = λ s e. e;
  }

  lacks_still : (bounds : Bounds) (q : ℕ) → q ≢ root → (lack : LacksPick bounds J q) → IsCalm J q → (LacksPick bounds after q × IsCalm after q) ⊎ (are_read_by out.edits (node_of J q) ≡ true)
  lacks_still bounds q differs lack calm = elim (cases_Bool (are_read_by out.edits (node_of J q))) [
    | inl on ↦ inr on
    | inr off ↦ inl (
      lacks_after bounds (entry_is.Undo pid row out) J legal q lack (none_on q lack.0 lack.1 differs lack.2, sees q (let x = lack.0 in x.args) (sym (ap (are_read_by out.edits) lack.1) ∙ off)) (λ s allowed fits. fits_back J after (λ z. refl) (λ z. refl) q lack.0 refl (place_same J after (λ region. refl) (let x = lack.0 in moved_by x.args)) s fits),
      calm_on q lack.0 lack.1 differs calm,
    )
  ]

  pub undo_changes : (bounds : Bounds) (claimed left_claimed : List ℕ) → IsIn root claimed → Unclaims root claimed left_claimed → Changes bounds J after claimed left_claimed (undo_debts J root out)
  undo_changes bounds claimed left_claimed mine less = record {
    stays = stay;
    fresh = λ q none. let fresh = (grown_all J legal.0).unmade q none in (fresh, unstepped_open after legal q fresh);
    made = λ q none some. or_left (is_new J q) (q == root) (ap (λ o. is_none o) none);
    ends = λ q some. let x = some_of (node_of J q) some in ends q x.0 x.1;
    were = λ q e. subst (IsOpen J) (sym (eqb-true q root e)) root_open;
    fewer = λ q among. ((less q).0 among).0;
    free = λ q apart. elim (cases_eq q root) [
      | inl own ↦ inr (or_right (is_new J q) (q == root) (eq-eqb q root own))
      | inr differs ↦ inl (λ among. apart ((less q).1 (among, differs)))
    ];
    lasting = λ q among e. ((less q).0 among).1 (eqb-true q root e);
    calm = λ q some among. (let x = some_of (node_of J q) some in calm_on q x.0 x.1 ((less q).0 among).1);
    held = λ q h. elim h [
      | inl some ↦ inl some
      | inr among ↦ elim (cases_eq q root) [ inl own ↦ inl (subst (λ n. last_answer J n ≢ None) (sym own) begun) | inr differs ↦ inr ((less q).1 (among, differs)) ]
    ];
    holds = λ q some h. elim h [ inl step ↦ inl step | inr among ↦ inr ((less q).0 among).0 ];
    lasts = λ q apart. refl;
    goes = λ q some go. let x = some_of (node_of J q) some in goes q x.0 x.1 go;
    owes = λ q some go. (let x = some_of (node_of J q) some in elim (goes q x.0 x.1 go) [ inl was ↦ inl (inl was) | inr on ↦ inr (or_right (is_new J q) (q == root) on) ]);
    picks = λ q apart lack calm. lacks_still bounds q (λ own. apart (subst (λ n. IsIn n claimed) (sym own) mine)) lack calm;
  }

pub undo_owes : UndoOwes
undo_owes pid row out J number_of roster claimed rows legal tied mine less enlists =
    changed J (entry_is.Undo pid row out ∷ J) legal number_of roster claimed rows (undo_debts J (root_of J pid.0) out) tied
    (undo_changes pid row out J legal roster.bounds roster.claimed claimed mine less) enlists
