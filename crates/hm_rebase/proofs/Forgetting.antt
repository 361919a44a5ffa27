-- No entry gives a row to a region that the base has no row of, though its id was drawn before.
use Rattle.std.proofs.Common.{◌≡◌, ◌≢◌, ℕ, ◌+◌, ◌-◌, ◌<◌, ◌≤◌, ◌==◌, [], ◌∷◌, false, cond, nat_lt, Option, Some, None, option_map, slice_get, refl, ap, sym, ◌∙◌, subst, inl, inr, ◌⊎◌, arith}
use Rattle.std.proofs.lemmas.Bool.{cases_eq, cond-false, cond-true, eq-eqb, le-ltb, lt-ltb, ne_eqb, true≢false}
use Rattle.std.proofs.lemmas.Option.{none-some, same_Some}
use Rattle.hm_names.specs.Server.{Server}
use Rattle.hm_names.specs.declared.pid.Pid.{Pid}
use Rattle.hm_names.specs.declared.table.TableName.{TableName}
use Rattle.hm_data.specs.declared.args.Args.{Args}
use Rattle.hm_data.specs.declared.args.Args.TheVariants as args_are
use Rattle.hm_data.specs.declared.catalog.CatKey.TheVariants as key_is
use Rattle.hm_data.specs.declared.catalog.CatRow.{CatRow}
use Rattle.hm_data.specs.declared.entry.Entry.{Entry}
use Rattle.hm_data.specs.declared.entry.Entry.TheVariants as entry_is
use Rattle.hm_data.specs.declared.request.Request.{Request}
use Rattle.hm_data.specs.declared.step.StepOut.{StepOut}
use Rattle.hm_model.specs.Catalog.{cat, keys_of}
use Rattle.hm_model.specs.Changes.{region_key}
use Rattle.hm_model.specs.Inputs.{step_input}
use Rattle.hm_model.specs.Journal.{Past}
use Rattle.hm_model.specs.Laws.{is_part}
use Rattle.hm_model.specs.Reads.{reads}
use Rattle.hm_model.specs.Rules.{IsLegal}
use Rattle.hm_model.specs.Tree.{Node, args_in, drawn, first_of, made, node_of, root_node, root_of, submitted}
use Rattle.hm_model.specs.Undo.{rest_of, stack}
use Rattle.hm_model.proofs.Trees.{grown_all, le_or_lt, new_child, node_same, step_of}
use Rattle.hm_model.proofs.UndoMakes.{undo_of}
use Rattle.hm_kinds.proofs.Kids.{AllMade, made_at}
use Rattle.hm_ids.proofs.Drawn.{AllDrawn, ArgsDrawn, IsFine, SeenDrawn, fine_row, followers_fine, undo_drawn}
use Rattle.hm_ids.proofs.DrawnAll.{StackDrawn, edited_drawn, either_drawn, pushed_drawn, read_drawn, rest_drawn}
use Rattle.hm_rebase.specs.Alike.{ForgottenAreRowless, base_of}

-- entries leave the base
pub base_on : (entry : Entry) (J : Past) → is_part entry ≡ false → base_of (entry ∷ J) ≡ base_of J
base_on (entry_is.Base part) J other = absurd (true≢false other)
base_on entry J other = refl

drawn_base : (J : Past) (t : TableName) → drawn (base_of J) t ≤ drawn J t
drawn_base [] t = omega arith
drawn_base (entry_is.Submit nonce request ∷ J) t = (let le = drawn_base J t in omega (arith, le))
drawn_base (entry_is.Base part ∷ J) t = omega arith
drawn_base (entry ∷ J) t = drawn_base J t

-- an id is drawn behind a base, or the base has a row of it
abbrev IsNew : Past → TableName → ℕ → Type 0
IsNew base t i = (drawn base t < i) ⊎ (cat base (region_key t i) ≢ None)

-- rows, what procedures work on, and what can be undone are of new ids
record AreNew (base J : Past) : Type 0 where
  rows : SeenDrawn (IsNew base) (cat J)
  args : (p : ℕ) (node : Node) → node_of J p ≡ Some node → ArgsDrawn (IsNew base) node.args
  stacks : (r : ℕ) → StackDrawn (IsNew base) (stack J r)

module _ (base J : Past) (kept : AreNew base J) where
  submit_args : (request : Request) → ((t : TableName) → drawn base t ≤ drawn J t) → (p : ℕ) (node : Node) → cond (p == made J + 1) (Some (submitted J request p)) (node_of J p) ≡ Some node → ArgsDrawn (IsNew base) node.args
  submit_args request more p node is = elim (cases_eq p (made J + 1)) [
    | inl same ↦
        let one : submitted J request p ≡ node = same_Some (submitted J request p) node (sym (cond-true (p == made J + 1) (Some (submitted J request p)) (node_of J p) (eq-eqb p (made J + 1) same)) ∙ is) in
        subst (λ (n : Node). ArgsDrawn (IsNew base) n.args) one (λ t e i low high. inl (let first = ap (first_of J) e in let le = more t in omega (arith, low, first, le)))
    | inr differs ↦ kept.args p node (sym (cond-false (p == made J + 1) (Some (submitted J request p)) (node_of J p) (ne_eqb p (made J + 1) differs)) ∙ is)
  ]

  down_args : (server : Server) (p : ℕ) (node : Node) → cond (p == made J + 1) (Some (root_node p (args_are.Crash server) 1)) (node_of J p) ≡ Some node → ArgsDrawn (IsNew base) node.args
  down_args server p node is = elim (cases_eq p (made J + 1)) [
    | inl same ↦ subst (λ (n : Node). ArgsDrawn (IsNew base) n.args) (same_Some (root_node p (args_are.Crash server) 1) node (sym (cond-true (p == made J + 1) (Some (root_node p (args_are.Crash server) 1)) (node_of J p) (eq-eqb p (made J + 1) same)) ∙ is)) tt
    | inr differs ↦ kept.args p node (sym (cond-false (p == made J + 1) (Some (root_node p (args_are.Crash server) 1)) (node_of J p) (ne_eqb p (made J + 1) differs)) ∙ is)
  ]

  module _ (pid : Pid) (pick : Option Server) (out : StepOut) (legal : IsLegal (entry_is.Step pid pick out ∷ J)) where
    step_fine : IsFine (IsNew base) out
    step_fine =
        let step = step_of pid pick out J (grown_all J legal.0) legal in
        subst (IsFine (IsNew base)) (sym step.out_is) (fine_row (IsNew base) step.row (step_input J pid.0 step.node pick) (kept.args pid.0 step.node step.node_is) (read_drawn (IsNew base) (reads step.node.args) (cat J) (keys_of J) kept.rows))

    step_args : (p : ℕ) (node : Node) → node_of (entry_is.Step pid pick out ∷ J) p ≡ Some node → ArgsDrawn (IsNew base) node.args
    step_args p node is = elim (le_or_lt p (made J)) [
      | inl le ↦ kept.args p node (sym (node_same pid pick out J p le) ∙ is)
      | inr lt ↦
          let step = step_of pid pick out J (grown_all J legal.0) legal in
          let kid = new_child pid pick out J step.node step.node_is p lt node is in
          subst (λ (n : Node). ArgsDrawn (IsNew base) n.args) (sym kid.2) (made_at (ArgsDrawn (IsNew base)) out.children step_fine.kids (p - made J - 1) kid.0 kid.1)
    ]

    on_step : AreNew base (entry_is.Step pid pick out ∷ J)
    on_step = record {
      rows = λ key. edited_drawn (IsNew base) out.edits key (cat J key) step_fine.edits (kept.rows key);
      args = step_args;
      stacks = λ r. either_drawn (IsNew base) (root_of J pid.0 == r) _ (stack J r) (pushed_drawn (IsNew base) _ _ pid.0 _ out.edits (stack J r) step_fine.edits (kept.stacks r)) (kept.stacks r);
    }

  module _ (pid : Pid) (row : ℕ) (out : StepOut) (legal : IsLegal (entry_is.Undo pid row out ∷ J)) where
    undo_edits_new : AllDrawn (IsNew base) out.edits
    undo_edits_new =
        let u = undo_of pid row out J legal in
        subst (λ (o : StepOut). AllDrawn (IsNew base) o.edits) (sym u.out_is) (undo_drawn (IsNew base) u.undo u.latest.edits (subst (StackDrawn (IsNew base)) u.stack_is (kept.stacks (root_of J pid.0))).0)

    undo_kids : AllMade (ArgsDrawn (IsNew base)) out.followers
    undo_kids =
        let u = undo_of pid row out J legal in
        subst (λ (o : StepOut). AllMade (ArgsDrawn (IsNew base)) o.followers) (sym u.out_is) (followers_fine (IsNew base) u.undo u.args u.root)

    undo_args : (p : ℕ) (node : Node) → node_of (entry_is.Undo pid row out ∷ J) p ≡ Some node → ArgsDrawn (IsNew base) node.args
    undo_args p node is = elim (le_or_lt p (made J)) [
      | inl le ↦ kept.args p node (sym (cond-false (nat_lt (made J) p) (option_map (λ args. root_node p args 1) (slice_get (args_in out.followers) (p - made J - 1))) (node_of J p) (le-ltb (made J) p le)) ∙ is)
      | inr lt ↦ by (slice_get (args_in out.followers) (p - made J - 1)) refl (sym (cond-true (nat_lt (made J) p) (option_map (λ args. root_node p args 1) (slice_get (args_in out.followers) (p - made J - 1))) (node_of J p) (lt-ltb (made J) p lt)) ∙ is)
    ]
      where
        by : (o : Option Args) → slice_get (args_in out.followers) (p - made J - 1) ≡ o → option_map (λ args. root_node p args 1) o ≡ Some node → ArgsDrawn (IsNew base) node.args
        by None e m = absurd (none-some node m)
        by (Some args) e m = subst (λ (n : Node). ArgsDrawn (IsNew base) n.args) (same_Some (root_node p args 1) node m) (made_at (ArgsDrawn (IsNew base)) out.followers undo_kids (p - made J - 1) args e)

    on_undo : AreNew base (entry_is.Undo pid row out ∷ J)
    on_undo = record {
      rows = λ key. edited_drawn (IsNew base) out.edits key (cat J key) undo_edits_new (kept.rows key);
      args = undo_args;
      stacks = λ r. either_drawn (IsNew base) (root_of J pid.0 == r) (rest_of (stack J r)) (stack J r) (rest_drawn (IsNew base) (stack J r) (kept.stacks r)) (kept.stacks r);
    }

rows_new : (base : Past) → SeenDrawn (IsNew base) (cat base)
rows_new base (key_is.Region region) = λ some. inr some
rows_new base key = tt

new_all : (J : Past) → IsLegal J → AreNew (base_of J) J
new_all [] legal = record { rows = rows_new []; args = λ p node is. absurd (none-some node is); stacks = λ r. tt }
new_all (entry_is.Submit nonce request ∷ J) legal = let k = new_all J legal.0 in record { rows = k.rows; args = submit_args (base_of J) J k request (drawn_base J); stacks = k.stacks }
new_all (entry_is.Step pid pick out ∷ J) legal = on_step (base_of J) J (new_all J legal.0) pid pick out legal
new_all (entry_is.Undo pid row out ∷ J) legal = on_undo (base_of J) J (new_all J legal.0) pid row out legal
new_all (entry_is.Down server ∷ J) legal = let k = new_all J legal.0 in record { rows = k.rows; args = down_args (base_of J) J k server; stacks = k.stacks }
new_all (entry_is.Base part ∷ J) legal = record { rows = rows_new (entry_is.Base part ∷ J); args = λ p node is. absurd (none-some node is); stacks = λ r. tt }
new_all (entry ∷ J) legal = let k = new_all J legal.0 in record { rows = k.rows; args = k.args; stacks = k.stacks }

pub forgotten_rowless : ForgottenAreRowless
forgotten_rowless J legal region old unbased = by (cat J (key_is.Region region)) refl
  where
    by : (o : Option CatRow) → cat J (key_is.Region region) ≡ o → cat J (key_is.Region region) ≡ None
    by None e = e
    by (Some row) e = elim ((new_all J legal).rows (key_is.Region region) (λ gone. none-some row (sym gone ∙ e))) [
      | inl new ↦ absurd (omega (arith, new, old))
      | inr some ↦ absurd (some unbased)
    ]
