-- Nothing that a crash makes fails, so it ends well.
use Rattle.std.proofs.Common.{◌≡◌, ◌≢◌, ℕ, ◌-◌, ◌==◌, List, [], ◌∷◌, Bool, true, false, not, Option, Some, None, is_some, refl, ap, sym, ◌∙◌, subst, arith, inl, inr, slice_get}
use Rattle.std.proofs.lemmas.Bool.{cases_eq, cond-false, cond-true, eq-eqb, eqb-true, false≢true}
use Rattle.std.proofs.lemmas.Option.{none-some, same_Some}
use Rattle.hm_names.specs.Region.{Region}
use Rattle.hm_names.specs.Server.{Server}
use Rattle.hm_names.specs.declared.pid.Pid.{Pid}
use Rattle.hm_data.specs.declared.act.Act.{Act}
use Rattle.hm_data.specs.declared.act.Act.TheVariants as act_is
use Rattle.hm_data.specs.declared.answer.Answer.{Answer}
use Rattle.hm_data.specs.declared.answer.Answer.TheVariants as answer_is
use Rattle.hm_data.specs.declared.args.Args.{Args}
use Rattle.hm_data.specs.declared.args.Args.TheVariants as args_are
use Rattle.hm_data.specs.declared.args.Child.{Child}
use Rattle.hm_data.specs.declared.args.Child.TheVariants as child_is
use Rattle.hm_data.specs.declared.call.Verb.{Verb}
use Rattle.hm_data.specs.declared.entry.Entry.{Entry}
use Rattle.hm_data.specs.declared.entry.Entry.TheVariants as entry_is
use Rattle.hm_data.specs.declared.place.Goal.TheVariants as goal_is
use Rattle.hm_data.specs.declared.sheet.Row.{Row}
use Rattle.hm_data.specs.declared.step.StepIn.{StepIn}
use Rattle.hm_data.specs.declared.step.StepOut.{StepOut}
use Rattle.hm_model.specs.Acts.{act_answer}
use Rattle.hm_model.specs.Answers.{failing, last_answer, row_after, row_of}
use Rattle.hm_model.specs.CrashActs.{reassign_all}
use Rattle.hm_model.specs.Inputs.{step_input}
use Rattle.hm_model.specs.Journal.{Past}
use Rattle.hm_model.specs.Kinds.{first_row_of, kind_of}
use Rattle.hm_model.specs.Lists.{exact_rows}
use Rattle.hm_model.specs.Locks.{in_name_order}
use Rattle.hm_model.specs.Outs.{given, spawns}
use Rattle.hm_model.specs.Phase.{cause, or_else}
use Rattle.hm_model.specs.Pieces.{batches, transits}
use Rattle.hm_model.specs.Rules.{IsLegal}
use Rattle.hm_model.specs.Tree.{Node, args_in, made, node_of, root_in, root_of}
use Rattle.hm_model.specs.Verbs.{verb_in}
use Rattle.hm_model.specs.Wanted.{server_of}
use Rattle.hm_model.specs.Whereabouts.{moved_by}
use Rattle.hm_model.proofs.CallSteps.{is_laying, uncut}
use Rattle.hm_model.proofs.ExactRows.{row_passes}
use Rattle.hm_model.proofs.Grown.{nodes_stay}
use Rattle.hm_model.proofs.LegalSteps.{StepFacts}
use Rattle.hm_model.proofs.PlainActs.{fine_on, is_caller}
use Rattle.hm_model.proofs.RootTrees.{absent_all, tree_root}
use Rattle.hm_model.proofs.StepDoes.{Does, GoesNear, IsMoveOut, bears_by, calls as calls_part, crash as crash_part, exact_row_is, is_moving as is_moving_act, lined as lined_part, move_act, move_fails, moves as moves_part, part_of, row_by}
use Rattle.hm_model.proofs.Trees.{IsRooted, answer_now, does_of, down_rooted, grown_all, le_or_lt, new_child, node_same, old_or_new, other_answer, step_of, submit_rooted, undo_rooted}
use Rattle.hm_model.proofs.FineMoves.{fine_move, late_move}
use Rattle.hm_costs.proofs.Moves.{is_moving}
use Rattle.hm_costs.proofs.Spend.{IsChildGoal}
use Rattle.hm_costs.proofs.Each.{Each, each_at, each_opened}

-- what stands in the tree of a crash: itself, the call to fence, transits that assign or unassign, and their calls
abbrev IsOfCrash : Args → Type 0
IsOfCrash (args_are.Crash server) = Unit {0}
IsOfCrash (args_are.FenceCall server) = Unit {0}
IsOfCrash (args_are.Transit region goal to) = IsChildGoal goal
IsOfCrash (args_are.AssignCall region server) = Unit {0}
IsOfCrash (args_are.CloseCall region server) = Unit {0}
IsOfCrash args = ⊥

of_caller : (args : Args) → is_caller args ≡ true → IsOfCrash args
of_caller (args_are.AssignCall region server) h = tt
of_caller (args_are.CloseCall region server) h = tt
of_caller args h = absurd (false≢true h)

of_exact : (args : Args) → IsOfCrash args → exact_rows (kind_of args) ≡ [] → ⊥
of_exact (args_are.Crash server) of e = cc
of_exact (args_are.FenceCall server) of e = cc
of_exact (args_are.Transit region goal to) of e = cc
of_exact (args_are.AssignCall region server) of e = cc
of_exact (args_are.CloseCall region server) of e = cc
of_exact args of e = of

-- the acts of crashes
abbrev is_crashing : Act → Bool
is_crashing act_is.Fence = true
is_crashing act_is.Reassign = true
is_crashing act = false

record Fine (out : StepOut) : Type 0 where
  pub fails : failing out.answer ≡ None
  pub children : Each IsOfCrash (args_in out.children)

crash_fine : (act : Act) → is_crashing act ≡ true → (next : ℕ) (at : StepIn) → Fine (act_answer act next at)
crash_fine act_is.Fence h next at = by (server_of at.args)
  where
    by : (o : Option Server) → Fine (given o next (λ server. spawns next (child_is.One (args_are.FenceCall server) ∷ [])))
    by None = record { fails = fine_on next []; children = tt }
    by (Some server) = record { fails = refl; children = (tt, tt) }
crash_fine act_is.Reassign h next at = by (transits goal_is.Assign at.on_server) (each_opened IsOfCrash (λ region. tt) (batches (in_name_order at.on_server)))
  where
    by : (children : List Child) → Each IsOfCrash (args_in children) → Fine (reassign_all next children)
    by [] all = record { fails = refl; children = tt }
    by (child ∷ more) all = record { fails = refl; children = all }
crash_fine act h next at = absurd (false≢true h)

-- a transit is at its check only before its first step
abbrev pub ChecksFirst : Past → Type 0
ChecksFirst J = (p : ℕ) (x : Node) (region : Region) → node_of J p ≡ Some x → moved_by x.args ≡ Some region → row_of J p x ≡ 5 → last_answer J p ≡ None

far_from_check : (next first : ℕ) (answer : Answer) → GoesNear next answer → next ≢ 5 → row_after first (Some answer) ≡ 5 → ⊥
far_from_check next first (answer_is.More n) (inl near) differs is = differs (sym near ∙ is)
far_from_check next first (answer_is.More n) (inr zero_is) differs is = omega (arith, zero_is, is)
far_from_check next first (answer_is.Wait n) near differs is = differs (sym near ∙ is)
far_from_check next first (answer_is.Done told) near differs is = omega (arith, is)
far_from_check next first (answer_is.Fail cause) near differs is = omega (arith, is)
far_from_check next first answer near differs is = near

checks_calm : (entry : Entry) (J : Past) → IsLegal (entry ∷ J) → (p : ℕ) → last_answer (entry ∷ J) p ≡ last_answer J p → ChecksFirst J → (x : Node) (region : Region) → node_of (entry ∷ J) p ≡ Some x → moved_by x.args ≡ Some region → row_of (entry ∷ J) p x ≡ 5 → last_answer (entry ∷ J) p ≡ None
checks_calm entry J legal p last before x region is m at = by (node_of J p) refl
  where
    by : (o : Option Node) → node_of J p ≡ o → last_answer (entry ∷ J) p ≡ None
    by None e = last ∙ (grown_all J legal.0).unmade p e
    by (Some y) e =
        let one : y ≡ x = same_Some y x (sym (nodes_stay entry J legal p y e) ∙ is) in
        last ∙ before p x region (e ∙ ap Some one) m (ap (row_after (first_row_of x.args)) (sym last) ∙ at)

module _ (pid : Pid) (pick : Option Server) (out : StepOut) (J : Past) (legal : IsLegal (entry_is.Step pid pick out ∷ J)) where
  step : StepFacts J pid.0 pick out
  step = step_of pid pick out J (grown_all J legal.0) legal

  row_at : (kind : ℕ) → kind_of step.node.args ≡ kind → (first : Row) (more : List Row) → exact_rows kind ≡ first ∷ more → slice_get (exact_rows kind) (row_of J pid.0 step.node) ≡ Some step.row
  row_at kind e first more is = exact_row_is J pid.0 pick out step kind e first more is

  abbrev seen : StepIn
  seen = step_input J pid.0 step.node pick

  -- a transit's step leads to no check
  leads : kind_of step.node.args ≡ 10 → row_after (first_row_of step.node.args) (Some out.answer) ≡ 5 → ⊥
  leads kind =
      let found = row_at 10 kind _ _ refl in
      let moving = row_passes (λ row. is_moving_act row.act) (exact_rows 10) refl (row_of J pid.0 step.node) step.row found in
      let next = row_passes (λ row. not (row.next == 5)) (exact_rows 10) refl (row_of J pid.0 step.node) step.row found in
      let near : IsMoveOut step.row.next out = subst (IsMoveOut step.row.next) (sym step.out_is) (row_by (IsMoveOut step.row.next) step.row seen (λ c. move_fails step.row.next c) (move_act step.row.act moving step.row.next seen)) in
      far_from_check step.row.next (first_row_of step.node.args) out.answer near.near (λ e. false≢true (sym (ap not (eq-eqb step.row.next 5 e)) ∙ next))

  checks_step : ChecksFirst J → ChecksFirst (entry_is.Step pid pick out ∷ J)
  checks_step before p x region is m at = elim (cases_eq p pid.0) [
    | inr other ↦ checks_calm (entry_is.Step pid pick out) J legal p (other_answer pid pick out J p other) before x region is m at
    | inl mine ↦
        let one : step.node ≡ x = same_Some step.node x (sym (nodes_stay (entry_is.Step pid pick out) J legal pid.0 step.node step.node_is) ∙ ap (node_of (entry_is.Step pid pick out ∷ J)) (sym mine) ∙ is) in
        let now : last_answer (entry_is.Step pid pick out ∷ J) p ≡ Some out.answer = ap (last_answer (entry_is.Step pid pick out ∷ J)) mine ∙ answer_now pid pick out J in
        absurd (leads (ap (λ (n : Node). kind_of n.args) one ∙ (is_moving x.args region m).kind)
        (ap (λ (n : Node). row_after (first_row_of n.args) (Some out.answer)) one ∙ ap (row_after (first_row_of x.args)) (sym now) ∙ at))
  ]

pub checks_all : (J : Past) → IsLegal J → ChecksFirst J
checks_all [] legal = λ p x region is. absurd (none-some x is)
checks_all (entry_is.Step pid pick out ∷ J) legal = checks_step pid pick out J legal (checks_all J legal.0)
checks_all (entry_is.Base part ∷ J) legal = λ p x region is. absurd (none-some x is)
checks_all (entry ∷ J) legal = λ p. checks_calm entry J legal p refl (checks_all J legal.0)

-- so it is in every tree
abbrev OfCrash : Past → Type 0
OfCrash J =
    (p : ℕ) (x top : Node) → node_of J p ≡ Some x → node_of J x.root ≡ Some top → (server : Server) → top.args ≡ args_are.Crash server
    → IsOfCrash x.args

-- what was there keeps its root
of_old : (entry : Entry) (J : Past) → IsLegal (entry ∷ J) → OfCrash J → (p : ℕ) (x top : Node) → node_of J p ≡ Some x → node_of (entry ∷ J) x.root ≡ Some top → (server : Server) → top.args ≡ args_are.Crash server → IsOfCrash x.args
of_old entry J legal before p x top was root server is =
    let t = tree_root J legal.0 p x was in
    let one : t.0 ≡ top = same_Some t.0 top (sym (nodes_stay entry J legal x.root t.0 t.1) ∙ root) in
    before p x t.0 was t.1 server (ap (λ (n : Node). n.args) one ∙ is)

of_rooted : (entry : Entry) (J : Past) → IsLegal (entry ∷ J) → IsRooted J (entry ∷ J) → OfCrash J → OfCrash (entry ∷ J)
of_rooted entry J legal rooted before p x top is root server crash = elim (old_or_new J (entry ∷ J) rooted (grown_all J legal.0) p x is) [
  | inl was ↦ of_old entry J legal before p x top was root server crash
  | inr new ↦
      let own : x.root ≡ p = ap (λ (n : Node). n.root) new.2 in
      let one : top ≡ x = same_Some top x (sym root ∙ ap (node_of (entry ∷ J)) own ∙ is) in
      subst IsOfCrash (sym crash ∙ ap (λ (n : Node). n.args) one) tt
]

of_step : (pid : Pid) (pick : Option Server) (out : StepOut) (J : Past) → IsLegal (entry_is.Step pid pick out ∷ J) → OfCrash J → OfCrash (entry_is.Step pid pick out ∷ J)
of_step pid pick out J legal before p x top is root server crash = elim (le_or_lt p (made J)) [
  | inl le ↦ of_old (entry_is.Step pid pick out) J legal before p x top (sym (node_same pid pick out J p le) ∙ is) root server crash
  | inr lt ↦
      let c = new_child pid pick out J me.node me.node_is p lt x is in
      let own : x.root ≡ me.node.root = ap (λ (n : Node). n.root) c.2 in
      let up = of_old (entry_is.Step pid pick out) J legal before pid.0 me.node top me.node_is (ap (node_of (entry_is.Step pid pick out ∷ J)) (sym own) ∙ root) server crash in
      subst IsOfCrash (ap (λ (n : Node). n.args) (sym c.2)) (by up (p - made J - 1) c.0 c.1)
]
  where
    me : StepFacts J pid.0 pick out
    me = step pid pick out J legal

    does : Does J pid.0 me.node.args (last_answer J pid.0) me.sheet.rows out
    does = does_of pid pick out J (grown_all J legal.0) me

    by : IsOfCrash me.node.args → (i : ℕ) (args : Args) → slice_get (args_in out.children) i ≡ Some args → IsOfCrash args
    by up i args at = elim (part_of me.node.args) [
      | lined_part exact unmoved uncalled ↦ absurd (of_exact me.node.args up exact)
      | crash_part kind unmoved uncalled ↦
          let crashing = row_passes (λ row. is_crashing row.act) (exact_rows 11) refl (row_of J pid.0 me.node) me.row (row_at pid pick out J legal 11 kind _ _ refl) in
          each_at IsOfCrash (args_in out.children) (subst (λ (o : StepOut). Each IsOfCrash (args_in o.children)) (sym me.out_is) (row_by (λ o. Each IsOfCrash (args_in o.children)) me.row (seen pid pick out J legal) (λ c. tt) (crash_fine me.row.act crashing me.row.next (seen pid pick out J legal)).children)) i args at
      | moves_part r m kind uncalled ↦ of_caller args (sym (ap (λ o. bears_by (is_some o) (is_some (verb_in me.node.args)) (is_caller args)) m) ∙ does.bearing i args at)
      | calls_part verb v unmoved exact ↦ absurd (none-some args (ap (λ c. slice_get (args_in c) i) (sym (does.calls verb v).childless) ∙ at))
    ]

of_all : (J : Past) → IsLegal J → OfCrash J
of_all [] legal = λ p x top is. absurd (none-some x is)
of_all (entry_is.Submit nonce request ∷ J) legal = of_rooted (entry_is.Submit nonce request) J legal (submit_rooted nonce request J (grown_all J legal.0)) (of_all J legal.0)
of_all (entry_is.Step pid pick out ∷ J) legal = of_step pid pick out J legal (of_all J legal.0)
of_all (entry_is.Undo pid row out ∷ J) legal = of_rooted (entry_is.Undo pid row out) J legal (undo_rooted pid row out J (grown_all J legal.0)) (of_all J legal.0)
of_all (entry_is.Down server ∷ J) legal = of_rooted (entry_is.Down server) J legal (down_rooted server J (grown_all J legal.0)) (of_all J legal.0)
of_all (entry_is.Base part ∷ J) legal = λ p x top is. absurd (none-some x is)
of_all (entry ∷ J) legal = λ p x top is root. of_all J legal.0 p x top is root

-- no step of such a tree fails
module _ (pid : Pid) (pick : Option Server) (out : StepOut) (J : Past) (legal : IsLegal (entry_is.Step pid pick out ∷ J)) where
  abbrev its : StepFacts J pid.0 pick out
  its = step pid pick out J legal

  out_late : its.row.after ≡ true → failing (act_answer its.row.act its.row.next (seen pid pick out J legal)).answer ≡ None → failing out.answer ≡ None
  out_late late fine = ap (λ (o : StepOut). failing o.answer) (its.out_is ∙ uncut its.row (seen pid pick out J legal) late) ∙ fine

  call_fine : (verb : Verb) → verb_in its.node.args ≡ Some verb → IsOfCrash its.node.args → failing out.answer ≡ None
  call_fine verb v of = elim ((does_of pid pick out J (grown_all J legal.0) its).calls verb v).does [
    | inl asks ↦ ap failing asks.2
    | inr ends ↦ elim ends.1 [
      | inl gone ↦ ap failing gone.0
      | inr other ↦ elim other [ inl told ↦ ap failing told.1 | inr failed ↦ absurd (by its.node.args of failed.2) ]
    ]
  ]
    where
      by : (args : Args) → IsOfCrash args → is_laying args ≡ true → ⊥
      by (args_are.LayoutCall root) of h = of
      by args of h = false≢true h

  -- a transit of the tree that isn't there to move isn't at its check
  unchecked : (region : Region) → moved_by its.node.args ≡ Some region → IsOfCrash its.node.args → row_of J pid.0 its.node ≢ 5
  unchecked region m of at = by its.node.args of m (ap (row_after (first_row_of its.node.args)) (sym (checks_all J legal.0 pid.0 its.node region its.node_is m at)) ∙ at)
    where
      by : (args : Args) → IsOfCrash args → moved_by args ≡ Some region → row_after (first_row_of args) None ≡ 5 → ⊥
      by (args_are.Transit own goal_is.Move to) of m e = of
      by (args_are.Transit own goal to) of m e = omega (arith, e)
      by (args_are.Crash server) of m e = none-some region m
      by (args_are.FenceCall server) of m e = none-some region m
      by (args_are.AssignCall own server) of m e = none-some region m
      by (args_are.CloseCall own server) of m e = none-some region m
      by args of m e = absurd of

  never_fails : IsOfCrash its.node.args → failing out.answer ≡ None
  never_fails of = elim (part_of its.node.args) [
    | lined_part exact unmoved uncalled ↦ absurd (of_exact its.node.args of exact)
    | crash_part kind unmoved uncalled ↦
        let found = row_at pid pick out J legal 11 kind _ _ refl in
        let crashing = row_passes (λ row. is_crashing row.act) (exact_rows 11) refl (row_of J pid.0 its.node) its.row found in
        out_late (row_passes (λ row. row.after) (exact_rows 11) refl (row_of J pid.0 its.node) its.row found) (crash_fine its.row.act crashing its.row.next (seen pid pick out J legal)).fails
    | moves_part region m kind uncalled ↦
        let own = row_at pid pick out J legal 10 kind _ _ refl in
        let late = late_move (row_of J pid.0 its.node) its.row own (unchecked region m of) in
        out_late late.0 (fine_move its.row.act (row_passes (λ row. is_moving_act row.act) (exact_rows 10) refl (row_of J pid.0 its.node) its.row own) late.1 its.row.next (seen pid pick out J legal))
    | calls_part verb v unmoved exact ↦ call_fine verb v of
  ]

-- so a crash has no cause
abbrev IsUncaused : Past → Type 0
IsUncaused J = (r : ℕ) (top : Node) → node_of J r ≡ Some top → (server : Server) → top.args ≡ args_are.Crash server → cause J r ≡ None

uncaused_calm : (entry : Entry) (J : Past) → IsLegal (entry ∷ J) → (r : ℕ) → cause (entry ∷ J) r ≡ cause J r → IsUncaused J → (top : Node) → node_of (entry ∷ J) r ≡ Some top → (server : Server) → top.args ≡ args_are.Crash server → cause (entry ∷ J) r ≡ None
uncaused_calm entry J legal r same before top is server crash = by (node_of J r) refl
  where
    by : (o : Option Node) → node_of J r ≡ o → cause (entry ∷ J) r ≡ None
    by None e = same ∙ (absent_all J legal.0 r e).caused
    by (Some y) e =
        let one : y ≡ top = same_Some y top (sym (nodes_stay entry J legal r y e) ∙ is) in
        same ∙ before r top (e ∙ ap Some one) server crash

uncaused_step : (pid : Pid) (pick : Option Server) (out : StepOut) (J : Past) → IsLegal (entry_is.Step pid pick out ∷ J) → IsUncaused J → IsUncaused (entry_is.Step pid pick out ∷ J)
uncaused_step pid pick out J legal before r top is server crash = by (root_of J pid.0 == r) refl
  where
    me : StepFacts J pid.0 pick out
    me = step pid pick out J legal

    by : (b : Bool) → (root_of J pid.0 == r) ≡ b → cause (entry_is.Step pid pick out ∷ J) r ≡ None
    by false e = uncaused_calm (entry_is.Step pid pick out) J legal r (cond-false (root_of J pid.0 == r) (or_else (cause J r) (failing out.answer)) (cause J r) e) before top is server crash
    by true e =
        let root : me.node.root ≡ r = ap root_in (sym me.node_is) ∙ eqb-true (root_of J pid.0) r e in
        let t = tree_root J legal.0 pid.0 me.node me.node_is in
        let there : node_of J r ≡ Some t.0 = ap (node_of J) (sym root) ∙ t.1 in
        let one : t.0 ≡ top = same_Some t.0 top (sym (nodes_stay (entry_is.Step pid pick out) J legal r t.0 there) ∙ is) in
        let own : t.0.args ≡ args_are.Crash server = ap (λ (n : Node). n.args) one ∙ crash in
        cond-true (root_of J pid.0 == r) (or_else (cause J r) (failing out.answer)) (cause J r) e
        ∙ ap (λ c. or_else c (failing out.answer)) (before r t.0 there server own)
        ∙ never_fails pid pick out J legal (of_all J legal.0 pid.0 me.node t.0 me.node_is t.1 server own)

pub uncaused_all : (J : Past) → IsLegal J → IsUncaused J
uncaused_all [] legal = λ r top is. absurd (none-some top is)
uncaused_all (entry_is.Step pid pick out ∷ J) legal = uncaused_step pid pick out J legal (uncaused_all J legal.0)
uncaused_all (entry_is.Base part ∷ J) legal = λ r top is. absurd (none-some top is)
uncaused_all (entry ∷ J) legal = λ r. uncaused_calm entry J legal r refl (uncaused_all J legal.0)
