-- Transits that procedures make name no server to go to: only a request to move a region does.
use Rattle.std.proofs.Common.{◌≡◌, ℕ, ◌+◌, ◌-◌, nat_lt, cond, ◌==◌, [], ◌∷◌, true, Option, Some, None, is_some, option_map, refl, ap, sym, ◌∙◌, subst, inl, inr, slice_get}
use Rattle.std.proofs.lemmas.Bool.{cases_eq, cond-false, cond-true, eq-eqb, false≢true, le-ltb, lt-ltb, ne_eqb}
use Rattle.std.proofs.lemmas.Option.{none-some, same_Some}
use Rattle.hm_names.specs.Server.{Server}
use Rattle.hm_names.specs.declared.pid.Pid.{Pid}
use Rattle.hm_data.specs.declared.act.Act.{Act}
use Rattle.hm_data.specs.declared.act.Back.{Back}
use Rattle.hm_data.specs.declared.act.Back.TheVariants as back_is
use Rattle.hm_data.specs.declared.args.Args.{Args}
use Rattle.hm_data.specs.declared.args.Args.TheVariants as args_are
use Rattle.hm_data.specs.declared.entry.Entry.TheVariants as entry_is
use Rattle.hm_data.specs.declared.place.Goal.TheVariants as goal_is
use Rattle.hm_data.specs.declared.step.StepOut.{StepOut}
use Rattle.hm_model.specs.Answers.{row_of}
use Rattle.hm_model.specs.Journal.{Past}
use Rattle.hm_model.specs.Lists.{exact_rows}
use Rattle.hm_model.specs.Locks.{in_name_order}
use Rattle.hm_model.specs.Pieces.{batches}
use Rattle.hm_model.specs.Rules.{IsLegal}
use Rattle.hm_model.specs.Tree.{Node, args_in, made, node_of, root_node, root_of, submitted}
use Rattle.hm_model.specs.Undoing.{closed_by, undo_followers}
use Rattle.hm_model.specs.Verbs.{verb_in}
use Rattle.hm_model.proofs.ExactRows.{row_passes}
use Rattle.hm_model.proofs.LegalSteps.{StepFacts}
use Rattle.hm_model.proofs.PlainActs.{is_caller, is_plain}
use Rattle.hm_model.proofs.StepDoes.{bears_by, calls, crash, exact_row_is, lined, moves, part_of}
use Rattle.hm_model.proofs.Trees.{le_or_lt, new_child, node_same}
use Rattle.hm_model.proofs.UndoMakes.{IsUndoOf, undo_of}
use Rattle.hm_kinds.proofs.Kids.{AllMade, made_at}
use Rattle.hm_single.proofs.Makes.{GoalIs, sent_all}
use Rattle.hm_single.proofs.Own.{does, goals, goals_plain, step}

-- a transit names no server
abbrev pub NamesNone : Args → Type 0
NamesNone (args_are.Transit region goal to) = to ≡ None
NamesNone args = Unit {0}

-- whom an act makes names none
goal_none : (act : Act) (args : Args) → GoalIs act args → NamesNone args
goal_none act (args_are.Transit region goal to) g = g.1
goal_none act args g = tt

-- nor does who calls a region server
caller_none : (args : Args) → is_caller args ≡ true → NamesNone args
caller_none (args_are.Transit region goal to) h = absurd (false≢true h)
caller_none args h = tt

-- no transit of a journal does
abbrev pub AllAimless : Past → Type 0
AllAimless J = (p : ℕ) (x : Node) → node_of J p ≡ Some x → NamesNone x.args

-- a step
module _ (pid : Pid) (pick : Option Server) (out : StepOut) (J : Past) (legal : IsLegal (entry_is.Step pid pick out ∷ J)) where
  abbrev its : StepFacts J pid.0 pick out
  its = step pid pick out J legal

  made_none : (i : ℕ) (it : Args) → slice_get (args_in out.children) i ≡ Some it → NamesNone it
  made_none i it is = elim (part_of its.node.args) [
    | lined exact unmoved uncalled ↦ goal_none its.row.act it (goals pid pick out J legal exact i it is)
    | crash kind unmoved uncalled ↦
        let plain : is_plain its.row.act ≡ true = row_passes (λ row. is_plain row.act) (exact_rows 11) refl (row_of J pid.0 its.node) its.row (exact_row_is J pid.0 pick out its 11 kind _ _ refl) in
        goal_none its.row.act it (goals_plain pid pick out J legal plain i it is)
    | moves r m kind uncalled ↦ caller_none it (sym (ap (λ o. bears_by (is_some o) (is_some (verb_in its.node.args)) (is_caller it)) m) ∙ (does pid pick out J legal).bearing i it is)
    | calls verb v unmoved exact ↦ absurd (none-some it (ap (λ c. slice_get (args_in c) i) (sym ((does pid pick out J legal).calls verb v).childless) ∙ is))
  ]

  step_aimless : AllAimless J → AllAimless (entry_is.Step pid pick out ∷ J)
  step_aimless before p x is = elim (le_or_lt p (made J)) [
    | inl le ↦ before p x (sym (node_same pid pick out J p le) ∙ is)
    | inr lt ↦
        let kid = new_child pid pick out J its.node its.node_is p lt x is in
        subst (λ (n : Node). NamesNone n.args) (sym kid.2) (made_none (p - made J - 1) kid.0 kid.1)
  ]

-- an undo
followers_none : (undo : Back) (args : Args) (root : Pid) → AllMade NamesNone (undo_followers undo args root)
followers_none back_is.Sweep args root = (tt, tt)
followers_none back_is.Reopen args root = sent_all NamesNone goal_is.Assign (λ region. refl) (batches (in_name_order (closed_by args)))
followers_none undo args root = tt

undo_aimless : (pid : Pid) (row : ℕ) (out : StepOut) (J : Past) → IsLegal (entry_is.Undo pid row out ∷ J) → AllAimless J → AllAimless (entry_is.Undo pid row out ∷ J)
undo_aimless pid row out J legal before p x is = elim (le_or_lt p (made J)) [
  | inl le ↦ before p x (sym (cond-false (nat_lt (made J) p) (option_map (λ args. root_node p args 1) (slice_get (args_in out.followers) (p - made J - 1))) (node_of J p) (le-ltb (made J) p le)) ∙ is)
  | inr lt ↦ by (slice_get (args_in out.followers) (p - made J - 1)) refl (sym (cond-true (nat_lt (made J) p) (option_map (λ args. root_node p args 1) (slice_get (args_in out.followers) (p - made J - 1))) (node_of J p) (lt-ltb (made J) p lt)) ∙ is)
]
  where
    undone : IsUndoOf J (root_of J pid.0) out
    undone = undo_of pid row out J legal

    all_none : AllMade NamesNone out.followers
    all_none = subst (λ (o : StepOut). AllMade NamesNone o.followers) (sym undone.out_is) (followers_none undone.undo undone.args undone.root)

    by : (o : Option Args) → slice_get (args_in out.followers) (p - made J - 1) ≡ o → option_map (λ args. root_node p args 1) o ≡ Some x → NamesNone x.args
    by None e m = absurd (none-some x m)
    by (Some args) e m = subst (λ (n : Node). NamesNone n.args) (same_Some (root_node p args 1) x m) (made_at NamesNone out.followers all_none (p - made J - 1) args e)

-- a root of its own
root_aimless : (J : Past) (root : Node) → NamesNone root.args → AllAimless J → (p : ℕ) (x : Node) → cond (p == made J + 1) (Some root) (node_of J p) ≡ Some x → NamesNone x.args
root_aimless J root none before p x is = elim (cases_eq p (made J + 1)) [
  | inl same ↦ subst (λ (n : Node). NamesNone n.args) (same_Some root x (sym (cond-true (p == made J + 1) (Some root) (node_of J p) (eq-eqb p (made J + 1) same)) ∙ is)) none
  | inr differs ↦ before p x (sym (cond-false (p == made J + 1) (Some root) (node_of J p) (ne_eqb p (made J + 1) differs)) ∙ is)
]

-- so it is in every legal journal
pub aimless_all : (J : Past) → IsLegal J → AllAimless J
aimless_all [] legal p x is = absurd (none-some x is)
aimless_all (entry_is.Submit nonce request ∷ J) legal p x is = root_aimless J (submitted J request p) tt (aimless_all J legal.0) p x is
aimless_all (entry_is.Step pid pick out ∷ J) legal p x is = step_aimless pid pick out J legal (aimless_all J legal.0) p x is
aimless_all (entry_is.Undo pid row out ∷ J) legal p x is = undo_aimless pid row out J legal (aimless_all J legal.0) p x is
aimless_all (entry_is.Down server ∷ J) legal p x is = root_aimless J (root_node p (args_are.Crash server) 1) tt (aimless_all J legal.0) p x is
aimless_all (entry_is.Base part ∷ J) legal p x is = absurd (none-some x is)
aimless_all (entry ∷ J) legal p x is = aimless_all J legal.0 p x is
