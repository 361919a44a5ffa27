-- Each server that is fenced, or is to be, is dead.
use Rattle.std.proofs.Common.{◌≡◌, ℕ, ◌+◌, ◌-◌, ◌==◌, [], ◌∷◌, Bool, true, false, Option, Some, None, refl, ap, sym, ◌∙◌, subst, inl, inr, ◌⊎◌, slice_get, option_map, is_some, nat_lt}
use Rattle.std.proofs.lemmas.Bool.{cases_eq, cond-false, cond-true, eq-eqb, false≢true, ne_eqb, true≢false, lt-ltb}
use Rattle.std.proofs.lemmas.Option.{none-some, same_Some}
use Rattle.hm_names.specs.Server.{Server}
use Rattle.hm_names.specs.declared.pid.Pid.{Pid}
use Rattle.hm_data.specs.declared.act.Back.{Back}
use Rattle.hm_data.specs.declared.act.Back.TheVariants as back_is
use Rattle.hm_data.specs.declared.args.Args.{Args}
use Rattle.hm_data.specs.declared.args.Args.TheVariants as args_are
use Rattle.hm_data.specs.declared.entry.Entry.{Entry}
use Rattle.hm_data.specs.declared.entry.Entry.TheVariants as entry_is
use Rattle.hm_data.specs.declared.step.StepOut.{StepOut}
use Rattle.hm_model.specs.Answers.{last_answer, row_of}
use Rattle.hm_model.specs.Evaluation.{row_answer}
use Rattle.hm_model.specs.Fleet.{is_fenced, is_live}
use Rattle.hm_model.specs.Inputs.{step_input}
use Rattle.hm_model.specs.Journal.{Past}
use Rattle.hm_model.specs.Kinds.{kind_of}
use Rattle.hm_model.specs.Lists.{exact_rows}
use Rattle.hm_model.specs.Pieces.{batches}
use Rattle.hm_model.specs.Locks.{in_name_order}
use Rattle.hm_model.specs.Rules.{IsLegal}
use Rattle.hm_model.specs.Tree.{Node, args_in, made, node_of, root_node, submitted}
use Rattle.hm_model.specs.Undoing.{closed_by, undo_followers}
use Rattle.hm_model.specs.Verbs.{verb_in}
use Rattle.hm_model.specs.Wanted.{server_of}
use Rattle.hm_model.proofs.ExactRows.{led_row, row_passes}
use Rattle.hm_model.proofs.LegalSteps.{StepFacts, ready_stops}
use Rattle.hm_model.proofs.PlainActs.{is_caller, is_plain}
use Rattle.hm_model.proofs.StepDoes.{Does, calls as calls_part, crash as crash_part, lined as lined_part, moves as moves_part, part_of, row_by, exact_row_is, bears_by}
use Rattle.hm_model.proofs.Trees.{does_of, grown_all, le_or_lt, new_child, node_same, step_of, undo_rooted}
use Rattle.hm_model.proofs.UndoMakes.{undo_of}
use Rattle.hm_costs.proofs.At.{IsFreshArgs}
use Rattle.hm_costs.proofs.Live.{FencedDead, FencersDead, IsDead, dead_stays, down_dead, fence_in, fenced_step}
use Rattle.hm_costs.proofs.Spend.{AreChildren, IsChild, IsChildGoal, act_spent}
use Rattle.hm_data.specs.declared.sheet.Row.{Row}
use Rattle.hm_data.specs.declared.step.StepIn.{StepIn}
use Rattle.hm_costs.proofs.Each.{Each, each_at, each_opened}

-- what undos make: transits that assign, and sweeps
abbrev pub IsFollower : Args → Type 0
IsFollower (args_are.Transit region goal to) = IsChildGoal goal
IsFollower (args_are.SweepLayout root) = Unit {0}
IsFollower args = ⊥

-- so are some of the roots that are made
pub follows_fresh : (args : Args) → IsFollower args → IsFreshArgs args
follows_fresh (args_are.Transit region goal to) is = is
follows_fresh (args_are.SweepLayout root) is = tt
follows_fresh args is = absurd is

fresh_followers : (undo : Back) (args : Args) (root : Pid) → Each IsFollower (args_in (undo_followers undo args root))
fresh_followers back_is.Sweep args root = (tt, tt)
fresh_followers back_is.Reopen args root = each_opened IsFollower (λ region. tt) (batches (in_name_order (closed_by args)))
fresh_followers undo args root = tt

-- a follower of an undo
pub follower_is : (pid : Pid) (row : ℕ) (out : StepOut) (J : Past) → IsLegal (entry_is.Undo pid row out ∷ J) → (q : ℕ) (x : Node) → node_of J q ≡ None → node_of (entry_is.Undo pid row out ∷ J) q ≡ Some x → IsFollower x.args
follower_is pid row out J legal q x none is =
    let u = undo_of pid row out J legal in
    let rooted = undo_rooted pid row out J (grown_all J legal.0) in
    elim (le_or_lt q (made J)) [
      | inl le ↦ absurd (none-some x (sym none ∙ sym (rooted.old q le) ∙ is))
      | inr lt ↦ by (slice_get (args_in out.followers) (q - made J - 1)) refl (sym (cond-true (nat_lt (made J) q) (option_map (λ args. root_node q args 1) (slice_get (args_in out.followers) (q - made J - 1))) (node_of J q) (lt-ltb (made J) q lt)) ∙ is) (subst (λ (o : StepOut). Each IsFollower (args_in o.followers)) (sym u.out_is) (fresh_followers u.undo u.args u.root))
    ]
  where
    by : (o : Option Args) → slice_get (args_in out.followers) (q - made J - 1) ≡ o → option_map (λ args. root_node q args 1) o ≡ Some x → Each IsFollower (args_in out.followers) → IsFollower x.args
    by None e m all = absurd (none-some x m)
    by (Some args) e m all = subst (λ (n : Node). IsFollower n.args) (same_Some (root_node q args 1) x m) (each_at IsFollower (args_in out.followers) all (q - made J - 1) args e)

-- so it is one of the roots that are made
pub follower_fresh : (pid : Pid) (row : ℕ) (out : StepOut) (J : Past) → IsLegal (entry_is.Undo pid row out ∷ J) → (q : ℕ) (x : Node) → node_of J q ≡ None → node_of (entry_is.Undo pid row out ∷ J) q ≡ Some x → IsFreshArgs x.args
follower_fresh pid row out J legal q x none is = follows_fresh x.args (follower_is pid row out J legal q x none is)

fresh_unfenced : (args : Args) (server : Server) → IsFreshArgs args → fence_in args ≡ Some server → ⊥
fresh_unfenced (args_are.Root request first) server fresh f = none-some server f
fresh_unfenced (args_are.Transit region goal to) server fresh f = none-some server f
fresh_unfenced (args_are.SweepLayout root) server fresh f = none-some server f
fresh_unfenced args server fresh f = absurd fresh

-- a step makes only calls to fence the server that it is about itself
child_fences : (up args : Args) (server : Server) → verb_in up ≡ None → IsChild up args → fence_in args ≡ Some server → fence_in up ≡ Some server
child_fences up (args_are.FenceCall own) server uncalled is f = by up uncalled (is ∙ f)
  where
    by : (up : Args) → verb_in up ≡ None → server_of up ≡ Some server → fence_in up ≡ Some server
    by (args_are.Crash own) uncalled s = s
    by (args_are.AssignCall region own) uncalled s = absurd (none-some _ (sym uncalled))
    by (args_are.CloseCall region own) uncalled s = absurd (none-some _ (sym uncalled))
    by (args_are.FenceCall own) uncalled s = absurd (none-some _ (sym uncalled))
    by up uncalled s = absurd (none-some server s)
child_fences up (args_are.Root request first) server uncalled is f = absurd is
child_fences up (args_are.Crash own) server uncalled is f = absurd is
child_fences up args server uncalled is f = absurd (none-some server f)

caller_unfenced : (args : Args) (server : Server) → is_caller args ≡ true → fence_in args ≡ Some server → ⊥
caller_unfenced (args_are.AssignCall region own) server h f = none-some server f
caller_unfenced (args_are.CloseCall region own) server h f = none-some server f
caller_unfenced args server h f = absurd (false≢true h)

pub plain_children : (row : Row) (at : StepIn) → is_plain row.act ≡ true → AreChildren at.args (args_in (row_answer row at).children)
plain_children row at plain = row_by (λ o. AreChildren at.args (args_in o.children)) row at (λ c. tt) (act_spent row.act plain row.next at).children

made_fences : (pid : Pid) (pick : Option Server) (out : StepOut) (J : Past) (legal : IsLegal (entry_is.Step pid pick out ∷ J)) (step : StepFacts J pid.0 pick out) → Does J pid.0 step.node.args (last_answer J pid.0) step.sheet.rows out → (i : ℕ) (args : Args) → slice_get (args_in out.children) i ≡ Some args → (server : Server) → fence_in args ≡ Some server → fence_in step.node.args ≡ Some server
made_fences pid pick out J legal step does i args is server f = elim (part_of step.node.args) [
  | lined_part exact unmoved uncalled ↦
      let g = grown_all J legal.0 in
      let runs = ready_stops J pid.0 step.node (last_answer J pid.0) step.ready in
      let on = led_row (kind_of step.node.args) step.sheet step.valid (row_of J pid.0 step.node) (g.led pid.0 step.node step.node_is exact step.sheet step.sheet_is runs) step.row step.row_is in
      plain on.plain uncalled
  | crash_part kind unmoved uncalled ↦ plain (row_passes (λ row. is_plain row.act) (exact_rows 11) refl (row_of J pid.0 step.node) step.row (exact_row_is J pid.0 pick out step 11 kind _ _ refl)) uncalled
  | moves_part r m kind uncalled ↦
      let bears = does.bearing i args is in
      absurd (caller_unfenced args server (sym (ap (λ o. bears_by (is_some o) (is_some (verb_in step.node.args)) (is_caller args)) m) ∙ bears) f)
  | calls_part verb v unmoved exact ↦ absurd (none-some args (ap (λ c. slice_get (args_in c) i) (sym (does.calls verb v).childless) ∙ is))
]
  where
    plain : is_plain step.row.act ≡ true → verb_in step.node.args ≡ None → fence_in step.node.args ≡ Some server
    plain on uncalled = child_fences step.node.args args server uncalled (each_at (IsChild step.node.args) (args_in out.children) (subst (λ (o : StepOut). AreChildren step.node.args (args_in o.children)) (sym step.out_is) (plain_children step.row (step_input J pid.0 step.node pick) on)) i args is) f

fencers_rooted : (entry : Entry) (J : Past) (legal : IsLegal (entry ∷ J)) → FencersDead J → ((q : ℕ) (x : Node) → node_of (entry ∷ J) q ≡ Some x → (node_of J q ≡ Some x) ⊎ ((server : Server) → fence_in x.args ≡ Some server → IsDead (entry ∷ J) server)) → FencersDead (entry ∷ J)
fencers_rooted entry J legal old new q x is server f = elim (new q x is) [
  | inl was ↦ dead_stays entry J legal server (old q x was server f)
  | inr dead ↦ dead server f
]

pub fencers_all : (J : Past) → IsLegal J → FencersDead J
fencers_all [] legal = λ p node is. absurd (none-some node is)
fencers_all (entry_is.Submit nonce request ∷ J) legal = fencers_rooted (entry_is.Submit nonce request) J legal (fencers_all J legal.0) (λ q x is. elim (cases_eq q (made J + 1)) [
  | inl new ↦ inr (λ server f. absurd (none-some server (ap (λ (n : Node). fence_in n.args) (same_Some (submitted J request q) x (sym (cond-true (q == made J + 1) (Some (submitted J request q)) (node_of J q) (eq-eqb q (made J + 1) new)) ∙ is)) ∙ f)))
  | inr old ↦ inl (sym (cond-false (q == made J + 1) (Some (submitted J request q)) (node_of J q) (ne_eqb q (made J + 1) old)) ∙ is)
])
fencers_all (entry_is.Step pid pick out ∷ J) legal =
    let g = grown_all J legal.0 in
    let step = step_of pid pick out J g legal in
    let does = does_of pid pick out J g step in
    let before = fencers_all J legal.0 in
    fencers_rooted (entry_is.Step pid pick out) J legal before (λ q x is. elim (le_or_lt q (made J)) [
      | inl le ↦ inl (sym (node_same pid pick out J q le) ∙ is)
      | inr lt ↦
          let c = new_child pid pick out J step.node step.node_is q lt x is in
          inr (λ server f. before pid.0 step.node step.node_is server (made_fences pid pick out J legal step does (q - made J - 1) c.0 c.1 server (ap (λ (n : Node). fence_in n.args) (sym c.2) ∙ f)))
    ])
fencers_all (entry_is.Undo pid row out ∷ J) legal =
    let rooted = undo_rooted pid row out J (grown_all J legal.0) in
    fencers_rooted (entry_is.Undo pid row out) J legal (fencers_all J legal.0) (λ q x is. elim (le_or_lt q (made J)) [
      | inl le ↦ inl (sym (rooted.old q le) ∙ is)
      | inr lt ↦ inr (λ server f. absurd (fresh_unfenced x.args server (follower_fresh pid row out J legal q x ((grown_all J legal.0).numbered q lt) is) f))
    ])
fencers_all (entry_is.Down server ∷ J) legal = fencers_rooted (entry_is.Down server) J legal (fencers_all J legal.0) (λ q x is. elim (cases_eq q (made J + 1)) [
  | inl new ↦ inr (λ other f. subst (IsDead (entry_is.Down server ∷ J)) (same_Some server other (ap (λ (n : Node). fence_in n.args) (same_Some (root_node q (args_are.Crash server) 1) x (sym (cond-true (q == made J + 1) (Some (root_node q (args_are.Crash server) 1)) (node_of J q) (eq-eqb q (made J + 1) new)) ∙ is)) ∙ f)) (down_dead server J legal))
  | inr old ↦ inl (sym (cond-false (q == made J + 1) (Some (root_node q (args_are.Crash server) 1)) (node_of J q) (ne_eqb q (made J + 1) old)) ∙ is)
])
fencers_all (entry_is.Base part ∷ J) legal = λ p node is. absurd (none-some node is)
fencers_all (entry ∷ J) legal = fencers_rooted entry J legal (fencers_all J legal.0) (λ q x is. inl is)

fenced_all : (J : Past) → IsLegal J → FencedDead J
fenced_all [] legal = λ server fenced. absurd (false≢true fenced)
fenced_all (entry ∷ J) legal = fenced_step entry J legal (fencers_all J legal.0) (fenced_all J legal.0)

-- a live server isn't fenced
pub live_unfenced : (J : Past) → IsLegal J → (server : Server) → is_live J server ≡ true → is_fenced J server ≡ false
live_unfenced J legal server live = by (is_fenced J server) refl
  where
    by : (b : Bool) → is_fenced J server ≡ b → b ≡ false
    by false e = refl
    by true e = absurd (true≢false (sym live ∙ (fenced_all J legal server e).1))
