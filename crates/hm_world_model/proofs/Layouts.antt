-- A layout is swept only once each call to make it has ended, and by a call with a greater number.
use Rattle.std.proofs.Common.{◌≡◌, ◌≢◌, ℕ, zero, suc, ◌+◌, ◌-◌, ◌<◌, ◌≤◌, List, [], ◌∷◌, ◌==◌, ◌&&◌, ◌||◌, not, Bool, true, false, slice_get, map, option_map, Option, Some, None, is_some, refl, ap, sym, ◌∙◌, subst, inl, inr, ◌⊎◌, arith}
use Rattle.std.proofs.lemmas.Bool.{and_parts, cases_eq, cond-false, cond-true, eq-eqb, eqb-true, false≢true, ne_eqb, not_from_true, or_cases, true≢false}
use Rattle.std.proofs.lemmas.Option.{none-some, same_Some}
use Rattle.hm_names.specs.Server.{Server}
use Rattle.hm_names.specs.declared.pid.Pid.{Pid}
use Rattle.hm_data.specs.declared.act.Back.{Back}
use Rattle.hm_data.specs.declared.act.Back.TheVariants as back_is
use Rattle.hm_data.specs.declared.args.Args.{Args}
use Rattle.hm_data.specs.declared.args.Args.TheVariants as args_are
use Rattle.hm_data.specs.declared.args.Child.TheVariants as child_is
use Rattle.hm_data.specs.declared.call.Told.{Told}
use Rattle.hm_data.specs.declared.call.Told.TheVariants as told_is
use Rattle.hm_data.specs.declared.call.Verb.{Verb}
use Rattle.hm_data.specs.declared.call.Verb.TheVariants as verb_is
use Rattle.hm_data.specs.declared.entry.Entry.TheVariants as entry_is
use Rattle.hm_data.specs.declared.place.Goal.{Goal}
use Rattle.hm_data.specs.declared.place.Goal.TheVariants as goal_is
use Rattle.hm_data.specs.declared.sheet.Row.{Row}
use Rattle.hm_data.specs.declared.step.StepIn.{StepIn}
use Rattle.hm_data.specs.declared.step.StepOut.{StepOut}
use Rattle.hm_data.specs.declared.step.Turn.{Turn}
use Rattle.hm_data.specs.declared.step.Turn.TheVariants as turn_is
use Rattle.hm_model.specs.Answers.{is_stopped, last_answer, report_of}
use Rattle.hm_model.specs.Evaluation.{turn_answer}
use Rattle.hm_model.specs.Inputs.{input, step_input, turn_input, undo_input, undoes}
use Rattle.hm_model.specs.Journal.{Past}
use Rattle.hm_data.specs.declared.part.Part.{Part}
use Rattle.hm_model.specs.Layouts.{is_laid, laid_by, laid_if, layout_called}
use Rattle.hm_model.specs.Locks.{in_name_order}
use Rattle.hm_model.specs.Phase.{all_stopped, cause, ended, ended_node, in_tree, root_ended, stopped_in}
use Rattle.hm_model.specs.Pieces.{Batch, batches}
use Rattle.hm_model.specs.Reports.{fits_verb, verb_of}
use Rattle.hm_model.specs.Rules.{IsLegal}
use Rattle.hm_model.specs.Sheets.{sheet_for, sheets_by}
use Rattle.hm_model.specs.Tree.{Node, args_in, is_top, made, node_of, root_in, root_node, root_of, submitted}
use Rattle.hm_model.specs.Undo.{Undoable, is_empty, stack}
use Rattle.hm_model.specs.Undoing.{closed_by, undo_followers}
use Rattle.hm_model.specs.Verbs.{verb_in}
use Rattle.hm_model.proofs.Calls.{calls_stay}
use Rattle.hm_model.proofs.Forms.{row_formed}
use Rattle.hm_model.proofs.Grown.{down_new, submit_new, undo_new}
use Rattle.hm_model.proofs.LegalSteps.{StepFacts, ready_stops}
use Rattle.hm_model.proofs.Said.{said_by}
use Rattle.hm_model.proofs.StepDoes.{Does}
use Rattle.hm_model.proofs.Trees.{Grown, IsRooted, all_below_at, at_top, does_of, down_rooted, grown_all, is_there, le_or_lt, new_child, node_same, old_or_new, other_answer, some_of, step_of, submit_rooted, undo_rooted}
use Rattle.hm_model.proofs.Small.{cons_nil, top_is, top_not}
use Rattle.hm_kinds.proofs.Kids.{AllMade, made_at}
use Rattle.hm_kinds.proofs.Laying.{Lays, LaysBy, child_lays}
use Rattle.hm_world_model.specs.Layouts.{LayoutsTell, based_layout, laid_below, laid_told}

-- a root failed, and none of its descendants goes on
abbrev IsFallen : Past → ℕ → Type 0
IsFallen J r = (cause J r ≢ None) × ((q : ℕ) (x : Node) → node_of J q ≡ Some x → x.root ≡ r → x.above ≢ [] → is_stopped (last_answer J q) ≡ true)

-- calls to make a layout are descendants of its root, which has fallen where there is one to sweep it, and come before that
abbrev Own : Past → Type 0
Own J = (q : ℕ) (x : Node) (root : Pid) → node_of J q ≡ Some x → verb_in x.args ≡ Some (verb_is.Layout root) → (x.root ≡ root.0) × (x.above ≢ [])

abbrev Swept : Past → Type 0
Swept J = (s : ℕ) (y : Node) (root : Pid) → node_of J s ≡ Some y → verb_in y.args ≡ Some (verb_is.Sweep root) → IsFallen J root.0

abbrev Sooner : Past → Type 0
Sooner J = (q s : ℕ) (x y : Node) (root swept : Pid) → node_of J q ≡ Some x → verb_in x.args ≡ Some (verb_is.Layout root) → node_of J s ≡ Some y → verb_in y.args ≡ Some (verb_is.Sweep swept) → root.0 ≡ swept.0 → q < s

abbrev Laying : Past → Type 0
Laying J = Own J × Swept J × Sooner J

module _ (pid : Pid) (pick : Option Server) (out : StepOut) (J : Past) (grown : Grown J) (step : StepFacts J pid.0 pick out) (d : Does J pid.0 step.node.args (last_answer J pid.0) step.sheet.rows out) where
  -- nobody of a tree that has fallen makes a step
  not_fallen : IsFallen J step.node.root → ⊥
  not_fallen fallen = by step.node.above refl
    where
      by : (above : List ℕ) → step.node.above ≡ above → ⊥
      by [] e = fallen.0 (ap (cause J) (grown.tops pid.0 step.node step.node_is e) ∙ step.uncaused (ap is_top e))
      by (u ∷ rest) e = true≢false (sym (fallen.1 pid.0 step.node step.node_is refl (λ h. cons_nil u rest (sym e ∙ h))) ∙ ready_stops J pid.0 step.node (last_answer J pid.0) step.ready)

-- a step keeps it
module _ (pid : Pid) (pick : Option Server) (out : StepOut) (J : Past) (legal : IsLegal (entry_is.Step pid pick out ∷ J)) (l : Laying J) where
  abbrev J' : Past
  J' = entry_is.Step pid pick out ∷ J

  abbrev g : Grown J
  g = grown_all J legal.0

  abbrev s : StepFacts J pid.0 pick out
  s = step_of pid pick out J (grown_all J legal.0) legal

  -- a procedure is an old one, or a new child
  abbrev IsChild : ℕ → Node → Type 0
  IsChild q x = (made J < q) × (x.root ≡ (step_of pid pick out J (grown_all J legal.0) legal).node.root) × (x.above ≢ []) × Lays (step_of pid pick out J (grown_all J legal.0) legal).node.root x.args

  old_or_child : (q : ℕ) (x : Node) → node_of J' q ≡ Some x → ((q ≤ made J) × (node_of J q ≡ Some x)) ⊎ IsChild q x
  old_or_child q x is = elim (le_or_lt q (made J)) [
    | inl le ↦ inl (le, sym (node_same pid pick out J q le) ∙ is)
    | inr lt ↦
        let c = new_child pid pick out J s.node s.node_is q lt x is in
        inr (lt, ap (λ (n : Node). n.root) c.2, (λ h. cons_nil pid.0 s.node.above (ap (λ (n : Node). n.above) (sym c.2) ∙ h)), subst (λ (n : Node). Lays s.node.root n.args) (sym c.2) (child_lays pid pick out J g s (does_of pid pick out J g s) (q - made J - 1) c.0 c.1))
  ]

  fallen_other : (r : ℕ) → IsFallen J r → s.node.root ≢ r
  fallen_other r fallen same = not_fallen pid pick out J g s (does_of pid pick out J g s) (subst (IsFallen J) (sym same) fallen)

  fallen_stays : (r : ℕ) → IsFallen J r → IsFallen J' r
  fallen_stays r fallen = (
    (λ none. fallen.0 (sym (cond-false (root_of J pid.0 == r) _ (cause J r) (ne_eqb (root_of J pid.0) r (λ e. fallen_other r fallen (sym (ap root_in s.node_is) ∙ e)))) ∙ none)),
    (λ q x is root some. elim (old_or_child q x is) [
      | inl old ↦ ap is_stopped (other_answer pid pick out J q (λ e. fallen_other r fallen (ap (λ (n : Node). n.root) (same_Some s.node x (sym s.node_is ∙ ap (node_of J) (sym e) ∙ old.1)) ∙ root))) ∙ fallen.1 q x old.1 root some
      | inr new ↦ absurd (fallen_other r fallen (sym new.1 ∙ root))
    ]),
  )

  laying_step : Laying J'
  laying_step = (own_now, swept_now, sooner_now)
    where
      own_now : Own J'
      own_now q x root is lays = elim (old_or_child q x is) [
        | inl old ↦ l.0 q x root old.1 lays
        | inr new ↦ (new.1 ∙ sym (subst (LaysBy s.node.root) lays new.3), new.2)
      ]

      swept_now : Swept J'
      swept_now q y root is sweeps = elim (old_or_child q y is) [
        | inl old ↦ fallen_stays root.0 (l.1 q y root old.1 sweeps)
        | inr new ↦ absurd (subst (LaysBy s.node.root) sweeps new.3)
      ]

      sooner_now : Sooner J'
      sooner_now q p x y root swept is lays there sweeps same = elim (old_or_child p y there) [
        | inr new ↦ absurd (subst (LaysBy s.node.root) sweeps new.3)
        | inl was ↦ elim (old_or_child q x is) [
          | inl old ↦ l.2 q p x y root swept old.1 lays was.1 sweeps same
          | inr new ↦ absurd (fallen_other swept.0 (l.1 p y swept was.1 sweeps) (sym (subst (LaysBy s.node.root) lays new.3) ∙ same))
        ]
      ]

-- entries that make roots
module _ (J J' : Past) (rooted : IsRooted J J') (grown : Grown J) (l : Laying J) (causes : (r : ℕ) → cause J' r ≡ cause J r)
    (new : (p : ℕ) → made J < p → (x : Node) → node_of J' p ≡ Some x → (root : Pid) → (verb_in x.args ≡ Some (verb_is.Layout root) → ⊥) × (verb_in x.args ≡ Some (verb_is.Sweep root) → IsFallen J root.0)) where
  fallen_rooted : (r : ℕ) → IsFallen J r → IsFallen J' r
  fallen_rooted r fallen = (
    (λ none. fallen.0 (sym (causes r) ∙ none)),
    (λ q x is root some. elim (old_or_new J J' rooted grown q x is) [
      | inl old ↦ ap is_stopped (rooted.last q) ∙ fallen.1 q x old root some
      | inr top ↦ absurd (some (ap (λ (n : Node). n.above) top.2))
    ]),
  )

  laying_rooted : Laying J'
  laying_rooted = (own_now, swept_now, sooner_now)
    where
      own_now : Own J'
      own_now q x root is lays = elim (old_or_new J J' rooted grown q x is) [
        | inl old ↦ l.0 q x root old lays
        | inr top ↦ absurd ((new q top.4 x is root).0 lays)
      ]

      swept_now : Swept J'
      swept_now q y root is sweeps = elim (old_or_new J J' rooted grown q y is) [
        | inl old ↦ fallen_rooted root.0 (l.1 q y root old sweeps)
        | inr top ↦ fallen_rooted root.0 ((new q top.4 y is root).1 sweeps)
      ]

      sooner_now : Sooner J'
      sooner_now q p x y root swept is lays there sweeps same = elim (old_or_new J J' rooted grown q x is) [
        | inr top ↦ absurd ((new q top.4 x is root).0 lays)
        | inl old ↦ elim (old_or_new J J' rooted grown p y there) [
          | inl was ↦ l.2 q p x y root swept old lays was sweeps same
          | inr top ↦ (let le = is_there J grown q x old in let lt = top.4 in omega (arith, le, lt))
        ]
      ]

-- what undoes a step of a tree sweeps the layout of its root alone
abbrev FollowsBy : ℕ → Option Verb → Type 0
FollowsBy r None = Unit {0}
FollowsBy r (Some (verb_is.AssignRegion region)) = Unit {0}
FollowsBy r (Some (verb_is.CloseRegion region)) = Unit {0}
FollowsBy r (Some (verb_is.Fence server)) = Unit {0}
FollowsBy r (Some (verb_is.Layout root)) = ⊥
FollowsBy r (Some (verb_is.Sweep root)) = root.0 ≡ r

abbrev Follows : ℕ → Args → Type 0
Follows r made = FollowsBy r (verb_in made)

transits_follow : (r : ℕ) (goal : Goal) (list : List Batch) → AllMade (Follows r) (map (λ batch. child_is.Transits batch.table batch.ids goal) list)
transits_follow r goal [] = tt
transits_follow r goal (batch ∷ more) = ((λ id. tt), transits_follow r goal more)

followers_follow : (undo : Back) (args : Args) (root : Pid) → AllMade (Follows root.0) (undo_followers undo args root)
followers_follow back_is.Sweep args root = (refl, tt)
followers_follow back_is.Reopen args root = transits_follow root.0 goal_is.Assign (batches (in_name_order (closed_by args)))
followers_follow undo args root = tt

turn_follows : (row : Row) (at : StepIn) (turn : Turn) → AllMade (Follows (let root = at.root in root.0)) (turn_answer row at turn).followers
turn_follows row at turn_is.Step = subst (AllMade (Follows (let root = at.root in root.0))) (sym (row_formed row at).stepped.followerless) tt
turn_follows row at (turn_is.Undo edits) = followers_follow row.undo at.args at.root

-- the root of what is seen
root_seen : (J : Past) (b : Bool) (steps : List Undoable) (own : StepIn) → (let seen = turn_input J b steps own in seen.root) ≡ own.root
root_seen J false steps own = refl
root_seen J true [] own = refl
root_seen J true (latest ∷ below) own = by (node_of J latest.pid)
  where
    by : (n : Option Node) → (let seen = elim n as (λ x. StepIn) [ None ↦ own | Some its ↦ undo_input latest its own ] in seen.root) ≡ own.root
    by None = refl
    by (Some its) = refl

-- what undoes a step
module _ (pid : Pid) (row : ℕ) (out : StepOut) (J : Past) (legal : IsLegal (entry_is.Undo pid row out ∷ J)) (grown : Grown J) where
  abbrev R : ℕ
  R = root_of J pid.0

  all_follow : AllMade (Follows (root_of J pid.0)) out.followers
  all_follow =
      let latest = legal.1.1.0 in
      let answer = legal.1.1.1.0 in
      let node = answer.0 in
      let seen = input J R node None in
      let said = said_by (sheet_for (sheets_by J node.root) seen.kind) seen out answer.2 in
      let same : node ≡ latest.0 = same_Some node latest.0 (sym answer.1 ∙ latest.1) in
      let root : (let r = seen.root in r.0) ≡ R = ap (λ (p : Pid). p.0) (root_seen J (undoes J R node) (stack J R) (step_input J R node None)) ∙ at_top J grown R node answer.1 (ap (λ (n : Node). is_top n.above) same ∙ (and_parts (is_top latest.0.above) _ latest.2).0) in
      subst (λ r. AllMade (Follows r) out.followers) root (subst (λ (o : StepOut). AllMade (Follows (let r = seen.root in r.0)) o.followers) (sym said.4) (turn_follows said.2 seen seen.turn))

  fallen_undone : IsFallen J (root_of J pid.0)
  fallen_undone =
      let latest = legal.1.1.0 in
      let parts = and_parts (is_top latest.0.above) (is_some (cause J R) && (all_stopped J R && not (is_empty (stack J R)))) latest.2 in
      let more = and_parts (is_some (cause J R)) (all_stopped J R && not (is_empty (stack J R))) parts.1 in
      let all = (and_parts (all_stopped J R) (not (is_empty (stack J R))) more.1).0 in (
        (λ none. false≢true (sym (ap is_some none) ∙ more.0)),
        (λ q x is root some.
            elim (or_cases (not (in_tree R (node_of J q))) ((q == R) || is_stopped (last_answer J q)) (all_below_at (made J + 1) (stopped_in J R) q all (let le = is_there J grown q x is in omega (arith, le)))) [
              | inl out_of ↦ absurd (true≢false (sym out_of ∙ not_from_true (in_tree R (node_of J q)) (ap (in_tree R) is ∙ eq-eqb x.root R root)))
              | inr inside ↦ elim (or_cases (q == R) (is_stopped (last_answer J q)) inside) [
                | inl same ↦ absurd (some (ap (λ (n : Node). n.above) (same_Some x latest.0 (sym is ∙ ap (node_of J) (eqb-true q R same) ∙ latest.1)) ∙ top_is latest.0.above parts.0))
                | inr stopped ↦ stopped
              ]
            ]),
      )

  undo_new_follows : (p : ℕ) → made J < p → (x : Node) → node_of (entry_is.Undo pid row out ∷ J) p ≡ Some x → Follows (root_of J pid.0) x.args
  undo_new_follows p lt x is = by (slice_get (args_in out.followers) (p - made J - 1)) refl (sym (undo_new pid row out J p lt) ∙ is)
    where
      by : (o : Option Args) → slice_get (args_in out.followers) (p - made J - 1) ≡ o → option_map (λ args. root_node p args 1) o ≡ Some x → Follows (root_of J pid.0) x.args
      by None e h = absurd (none-some x h)
      by (Some args) e h = subst (λ (n : Node). Follows (root_of J pid.0) n.args) (same_Some (root_node p args 1) x h) (made_at (Follows (root_of J pid.0)) out.followers all_follow (p - made J - 1) args e)

-- every legal journal keeps it
laying_all : (J : Past) → IsLegal J → Laying J
laying_all [] legal = ((λ q x root is. absurd (none-some x is)), (λ q x root is. absurd (none-some x is)), (λ q s x y root swept is. absurd (none-some x is)))
laying_all (entry_is.Submit nonce request ∷ J) legal =
    let grown = grown_all J legal.0 in
    laying_rooted J (entry_is.Submit nonce request ∷ J) (submit_rooted nonce request J grown) grown (laying_all J legal.0) (λ r. refl)
    (λ p lt x is root. elim (cases_eq p (made J + 1)) [
      | inl same ↦ (
          let none : verb_in x.args ≡ None = ap (λ (n : Node). verb_in n.args) (same_Some x (submitted J request p) (sym is ∙ submit_new nonce request J p same)) in
          ((λ e. none-some (verb_is.Layout root) (sym none ∙ e)), (λ e. absurd (none-some (verb_is.Sweep root) (sym none ∙ e))))
          )
      | inr differs ↦ absurd (none-some x (sym (grown.numbered p lt) ∙ sym (cond-false (p == made J + 1) (Some (submitted J request p)) (node_of J p) (ne_eqb p (made J + 1) differs)) ∙ is))
    ])
laying_all (entry_is.Step pid pick out ∷ J) legal = laying_step pid pick out J legal (laying_all J legal.0)
laying_all (entry_is.Undo pid row out ∷ J) legal =
    let grown = grown_all J legal.0 in
    laying_rooted J (entry_is.Undo pid row out ∷ J) (undo_rooted pid row out J grown) grown (laying_all J legal.0) (λ r. refl)
    (λ p lt x is root.
    let follows = undo_new_follows pid row out J legal grown p lt x is in
    ((λ e. subst (FollowsBy (root_of J pid.0)) e follows), (λ e. subst (IsFallen J) (sym (subst (FollowsBy (root_of J pid.0)) e follows)) (fallen_undone pid row out J legal grown))))
laying_all (entry_is.Down server ∷ J) legal =
    let grown = grown_all J legal.0 in
    laying_rooted J (entry_is.Down server ∷ J) (down_rooted server J grown) grown (laying_all J legal.0) (λ r. refl)
    (λ p lt x is root. elim (cases_eq p (made J + 1)) [
      | inl same ↦ (
          let none : verb_in x.args ≡ None = ap (λ (n : Node). verb_in n.args) (same_Some x (root_node p (args_are.Crash server) 1) (sym is ∙ down_new server J p same)) in
          ((λ e. none-some (verb_is.Layout root) (sym none ∙ e)), (λ e. absurd (none-some (verb_is.Sweep root) (sym none ∙ e))))
          )
      | inr differs ↦ absurd (none-some x (sym (grown.numbered p lt) ∙ sym (cond-false (p == made J + 1) (Some (root_node p (args_are.Crash server) 1)) (node_of J p) (ne_eqb p (made J + 1) differs)) ∙ is))
    ])
laying_all (entry_is.Base part ∷ J) legal = ((λ q x root is. absurd (none-some x is)), (λ s y root is. absurd (none-some y is)), (λ q s x y root swept is. absurd (none-some x is)))
laying_all (entry ∷ J) legal = laying_all J legal.0

-- where a layout is swept, a call to make it has ended, and has a lower number
swept_late : (J : Past) → IsLegal J → (q s : ℕ) (root swept : Pid) → verb_of J q ≡ Some (verb_is.Layout root) → verb_of J s ≡ Some (verb_is.Sweep swept) → root.0 ≡ swept.0 → (ended J q ≡ true) × (q < s)
swept_late J legal q s root swept lays sweeps same =
    let grown = grown_all J legal in
    let l = laying_all J legal in
    let x = grown.verbs q (verb_is.Layout root) lays in
    let y = grown.verbs s (verb_is.Sweep swept) sweeps in
    let own = l.0 q x.0 root x.1 x.2 in (
      ap (ended_node J q) x.1 ∙ cond-false (is_top x.0.above) (root_ended J q) (is_stopped (last_answer J q)) (top_not x.0.above own.1) ∙ (l.1 s y.0 swept y.1 y.2).1 q x.0 x.1 (own.0 ∙ same) own.1,
      l.2 q s x.0 y.0 root swept x.1 x.2 y.1 y.2 same,
    )

-- which verb a report of a layout is of
abbrev laying_verb : Bool → Pid → Verb
laying_verb true root = verb_is.Layout root
laying_verb false root = verb_is.Sweep root

told_verb : (verb : Verb) (told : Told) (root : ℕ) (there : Bool) → fits_verb verb told ≡ true → layout_called (Some verb) ≡ Some root → laid_by told ≡ Some there → (p : Pid) × (p.0 ≡ root) × (verb ≡ laying_verb there p)
told_verb (verb_is.Layout p) told_is.LaidOut root there fit about is = (p, same_Some p.0 root about, ap (λ b. laying_verb b p) (same_Some true there is))
told_verb (verb_is.Layout p) told_is.Swept root there fit about is = absurd (false≢true fit)
told_verb (verb_is.Layout p) told root there fit about is = absurd (none-some there is)
told_verb (verb_is.Sweep p) told_is.Swept root there fit about is = (p, same_Some p.0 root about, ap (λ b. laying_verb b p) (same_Some false there is))
told_verb (verb_is.Sweep p) told_is.LaidOut root there fit about is = absurd (false≢true fit)
told_verb (verb_is.Sweep p) told root there fit about is = absurd (none-some there is)
told_verb verb told root there fit about is = absurd (none-some root about)

-- what a report says of a root's layout, if it is about it
pub none_if : (c : Option ℕ) (root : ℕ) (b : Bool) → laid_if c None root b ≡ b
none_if None root b = refl
none_if (Some own) root b = refl

told_if : (c : Option ℕ) (t : Option Bool) (root : ℕ) (there b : Bool) → c ≡ Some root → t ≡ Some there → laid_if c t root b ≡ there
told_if c t root there b about is = ap (λ o. laid_if o t root b) about ∙ ap (λ o. laid_if (Some root) o root b) is ∙ cond-true (root == root) there b (eq-eqb root root refl)

about_or_not : (c : Option ℕ) (t : Option Bool) (root : ℕ) → ((there : Bool) × (c ≡ Some root) × (t ≡ Some there)) ⊎ ((b : Bool) → laid_if c t root b ≡ b)
about_or_not None t root = inr (λ b. refl)
about_or_not (Some own) None root = inr (λ b. refl)
about_or_not (Some own) (Some there) root = elim (cases_eq own root) [
  | inl same ↦ inl (there, ap Some same, refl)
  | inr differs ↦ inr (λ b. cond-false (own == root) there b (ne_eqb own root differs))
]

-- reports that say the same
same_below : (J after : Past) (root : ℕ) → based_layout after root ≡ based_layout J root → ((p : ℕ) (b : Bool) → laid_if (layout_called (verb_of after p)) (laid_told (report_of after p)) root b ≡ laid_if (layout_called (verb_of J p)) (laid_told (report_of J p)) root b) → (n : ℕ) → laid_below after n root ≡ laid_below J n root
same_below J after root base each zero = base
same_below J after root base each (suc n) = each n (laid_below after n root) ∙ ap (laid_if (layout_called (verb_of J n)) (laid_told (report_of J n)) root) (same_below J after root base each n)

-- a report about a layout decides, where none of a later call says otherwise
decided_below : (J : Past) (root s : ℕ) (there : Bool) → layout_called (verb_of J s) ≡ Some root → laid_told (report_of J s) ≡ Some there
    → ((q : ℕ) (b : Bool) → s < q → layout_called (verb_of J q) ≡ Some root → laid_told (report_of J q) ≡ Some b → b ≡ there) → (n : ℕ) → s < n → laid_below J n root ≡ there
decided_below J root s there about is all zero lt = absurd (omega (arith, lt))
decided_below J root s there about is all (suc n) lt = elim (cases_eq n s) [
  | inl same ↦ told_if (layout_called (verb_of J n)) (laid_told (report_of J n)) root there (laid_below J n root) (ap (λ k. layout_called (verb_of J k)) same ∙ about) (ap (λ k. laid_told (report_of J k)) same ∙ is)
  | inr differs ↦ elim (about_or_not (layout_called (verb_of J n)) (laid_told (report_of J n)) root) [
    | inl other ↦ told_if (layout_called (verb_of J n)) (laid_told (report_of J n)) root other.0 (laid_below J n root) other.1 other.2 ∙ all n other.0 (omega (arith, lt, differs)) other.1 other.2
    | inr quiet ↦ quiet (laid_below J n root) ∙ decided_below J root s there about is all n (omega (arith, lt, differs))
  ]
]

nothing_below : (n root : ℕ) → laid_below [] n root ≡ false
nothing_below zero root = refl
nothing_below (suc n) root = nothing_below n root

-- after a base no report tells of a layout
based_below : (part : Part) (J : Past) (n root : ℕ) → laid_below (entry_is.Base part ∷ J) n root ≡ is_laid (entry_is.Base part ∷ J) root
based_below part J zero root = refl
based_below part J (suc n) root = based_below part J n root

-- a report of a call that has none
module _ (call : Pid) (told : Told) (J : Past) (legal : IsLegal (entry_is.Report call told ∷ J)) (root : ℕ) where
  abbrev K : Past
  K = entry_is.Report call told ∷ J

  verb : (verb : Verb) × (verb_of J call.0 ≡ Some verb)
  verb = some_of (verb_of J call.0) legal.1.1.0.0

  report_now : report_of K call.0 ≡ Some told
  report_now = cond-true (call.0 == call.0) (Some told) (report_of J call.0) (eq-eqb call.0 call.0 refl)

  report_was : (q : ℕ) → q ≢ call.0 → report_of K q ≡ report_of J q
  report_was q differs = cond-false (q == call.0) (Some told) (report_of J q) (ne_eqb q call.0 differs)

  -- a report of a later call about the layout says the same
  later_same : (there : Bool) → layout_called (verb_of J call.0) ≡ Some root → laid_by told ≡ Some there → (q : ℕ) (b : Bool) → call.0 < q → layout_called (verb_of J q) ≡ Some root → laid_told (report_of K q) ≡ Some b → b ≡ there
  later_same there about is q b lt other says = by_report (report_of J q) refl (ap laid_told (sym (report_was q (λ e. omega (arith, lt, e)))) ∙ says)
    where
      own : (p : Pid) × (p.0 ≡ root) × (verb.0 ≡ laying_verb there p)
      own = told_verb verb.0 told root there (legal.1.1.1.0 verb.0 verb.1) (ap layout_called (sym verb.1) ∙ about) is

      by : (b there : Bool) (p k : Pid) → p.0 ≡ root → k.0 ≡ root → verb_of J call.0 ≡ Some (laying_verb there p) → verb_of J q ≡ Some (laying_verb b k) → b ≡ there
      by true true p k pr kr pv kv = refl
      by false false p k pr kr pv kv = refl
      by false true p k pr kr pv kv = absurd (true≢false (sym (swept_late J legal.0 call.0 q p k pv kv (pr ∙ sym kr)).0 ∙ legal.1.1.0.2))
      by true false p k pr kr pv kv = (let sooner = (swept_late J legal.0 q call.0 k p kv pv (kr ∙ sym pr)).1 in absurd (omega (arith, lt, sooner)))

      by_report : (o : Option Told) → report_of J q ≡ o → laid_told o ≡ Some b → b ≡ there
      by_report None e h = absurd (none-some b h)
      by_report (Some t) e h =
          let fits = (grown_all J legal.0).fits q t e in
          let its = told_verb fits.0 t root b fits.2 (ap layout_called (sym fits.1) ∙ other) h in
          by b there own.0 its.0 own.1 its.1 (verb.1 ∙ ap Some own.2) (fits.1 ∙ ap Some its.2)

  report_tells : (n : ℕ) → made J < n → laid_below J n root ≡ is_laid J root → laid_below K n root ≡ is_laid K root
  report_tells n lt before = elim (about_or_not (layout_called (verb_of J call.0)) (laid_by told) root) [
    | inl decides ↦
        let x = (grown_all J legal.0).verbs call.0 verb.0 verb.1 in
        let le = is_there J (grown_all J legal.0) call.0 x.0 x.1 in
        decided_below K root call.0 decides.0 decides.1 (ap laid_told report_now ∙ decides.2) (later_same decides.0 decides.1 decides.2) n (omega (arith, le, lt))
        ∙ sym (told_if (layout_called (verb_of J call.0)) (laid_by told) root decides.0 (is_laid J root) decides.1 decides.2)
    | inr quiet ↦ same_below J K root refl (λ p b. elim (cases_eq p call.0) [
      | inl same ↦ ap (λ k. laid_if (layout_called (verb_of J k)) (laid_told (report_of K k)) root b) same ∙ ap (λ o. laid_if (layout_called (verb_of J call.0)) (laid_told o) root b) report_now ∙ quiet b
          ∙ sym (none_if (layout_called (verb_of J call.0)) root b) ∙ ap (λ o. laid_if (layout_called (verb_of J call.0)) (laid_told o) root b) (sym legal.1.1.0.1) ∙ ap (λ k. laid_if (layout_called (verb_of J k)) (laid_told (report_of J k)) root b) (sym same)
      | inr differs ↦ ap (λ o. laid_if (layout_called (verb_of J p)) (laid_told o) root b) (report_was p differs)
    ]) n ∙ before ∙ sym (quiet (is_laid J root))
  ]

-- a call that is recorded was not reported before
step_same : (pid : Pid) (pick : Option Server) (out : StepOut) (J : Past) → IsLegal (entry_is.Step pid pick out ∷ J) → (root p : ℕ) (b : Bool)
    → laid_if (layout_called (verb_of (entry_is.Step pid pick out ∷ J) p)) (laid_told (report_of J p)) root b ≡ laid_if (layout_called (verb_of J p)) (laid_told (report_of J p)) root b
step_same pid pick out J legal root p b = by (report_of J p) refl
  where
    by : (o : Option Told) → report_of J p ≡ o → laid_if (layout_called (verb_of (entry_is.Step pid pick out ∷ J) p)) (laid_told o) root b ≡ laid_if (layout_called (verb_of J p)) (laid_told o) root b
    by None e = none_if (layout_called (verb_of (entry_is.Step pid pick out ∷ J) p)) root b ∙ sym (none_if (layout_called (verb_of J p)) root b)
    by (Some told) e =
        let fits = (grown_all J legal.0).fits p told e in
        ap (λ v. laid_if (layout_called v) (laid_by told) root b) (calls_stay (entry_is.Step pid pick out) J legal p fits.0 fits.1 ∙ sym fits.1)

tells : (J : Past) → IsLegal J → (root n : ℕ) → made J < n → laid_below J n root ≡ is_laid J root
tells [] legal root n lt = nothing_below n root
tells (entry_is.Submit nonce request ∷ J) legal root n lt = same_below J (entry_is.Submit nonce request ∷ J) root refl (λ p b. refl) n ∙ tells J legal.0 root n (omega (arith, lt))
tells (entry_is.Step pid pick out ∷ J) legal root n lt = same_below J (entry_is.Step pid pick out ∷ J) root refl (step_same pid pick out J legal root) n ∙ tells J legal.0 root n (omega (arith, lt))
tells (entry_is.Undo pid row out ∷ J) legal root n lt = same_below J (entry_is.Undo pid row out ∷ J) root refl (λ p b. refl) n ∙ tells J legal.0 root n (omega (arith, lt))
tells (entry_is.Report call told ∷ J) legal root n lt = report_tells call told J legal root n lt (tells J legal.0 root n lt)
tells (entry_is.Down server ∷ J) legal root n lt = same_below J (entry_is.Down server ∷ J) root refl (λ p b. refl) n ∙ tells J legal.0 root n (omega (arith, lt))
tells (entry_is.Base part ∷ J) legal root n lt = based_below part J n root
tells (entry ∷ J) legal root n lt = same_below J (entry ∷ J) root refl (λ p b. refl) n ∙ tells J legal.0 root n lt

pub layouts_tell : LayoutsTell
layouts_tell J legal root = tells J legal root (made J + 1) (omega arith)
