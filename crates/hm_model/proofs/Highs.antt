-- Requests and crashes are roots, and no procedure closes a region twice.
use Rattle.std.proofs.Common.{◌≡◌, ℕ, ◌+◌, ◌-◌, ◌<◌, ◌==◌, [], ◌∷◌, true, false, cond, nat_lt, option_map, slice_get, Option, Some, None, refl, ap, sym, ◌∙◌, subst, inl, inr, ◌⊎◌, arith}
use Rattle.std.proofs.lemmas.Bool.{cases_eq, cond-false, cond-true, eq-eqb, lt-ltb, ne_eqb, true≢false}
use Rattle.std.proofs.lemmas.Option.{none-some, same_Some}
use Rattle.hm_names.specs.Server.{Server}
use Rattle.hm_names.specs.declared.pid.Pid.{Pid}
use Rattle.hm_data.specs.declared.args.Args.{Args}
use Rattle.hm_data.specs.declared.args.Args.TheVariants as args_are
use Rattle.hm_data.specs.declared.entry.Entry.TheVariants as entry_is
use Rattle.hm_data.specs.declared.step.StepOut.{StepOut}
use Rattle.hm_model.specs.Journal.{Past}
use Rattle.hm_model.specs.Kinds.{table_of_request}
use Rattle.hm_model.specs.Rules.{IsLegal}
use Rattle.hm_model.specs.Tree.{Node, args_in, first_of, made, node_of, root_node}
use Rattle.hm_model.specs.Undoing.{closed_by}
use Rattle.hm_model.proofs.Distinct.{AreDistinct, asked_distinct}
use Rattle.hm_model.proofs.PlainActs.{is_high, quiet_low}
use Rattle.hm_model.proofs.Trees.{Grown, does_of, grown_all, le_or_lt, new_child, node_same, step_of, undo_rooted}
use Rattle.hm_model.proofs.UndoMakes.{undo_quiet}

-- what a procedure says of itself
pub record IsOwn (x : Node) : Type 0 where
  pub apart : AreDistinct (closed_by x.args)
  pub high : is_high x.args ≡ true → x.above ≡ []

low_apart : (args : Args) → is_high args ≡ false → AreDistinct (closed_by args)
low_apart (args_are.Root request first) low = absurd (true≢false low)
low_apart args low = tt

low_own : (x : Node) → is_high x.args ≡ false → IsOwn x
low_own x low = record { apart = low_apart x.args low; high = λ high. absurd (true≢false (sym high ∙ low)) }

-- a submission and a server that goes down make one root
one_root : (J : Past) (args : Args) (first : ℕ) → AreDistinct (closed_by args) → (q : ℕ) (x : Node) → cond (q == made J + 1) (Some (root_node q args first)) (node_of J q) ≡ Some x → (node_of J q ≡ Some x) ⊎ IsOwn x
one_root J args first apart q x is = elim (cases_eq q (made J + 1)) [
  | inl new ↦
      let one : root_node q args first ≡ x = same_Some (root_node q args first) x (sym (cond-true (q == made J + 1) (Some (root_node q args first)) (node_of J q) (eq-eqb q (made J + 1) new)) ∙ is) in
      inr (subst IsOwn one (record { apart = apart; high = λ h. refl }))
  | inr old ↦ inl (sym (cond-false (q == made J + 1) (Some (root_node q args first)) (node_of J q) (ne_eqb q (made J + 1) old)) ∙ is)
]

-- a follower of an undo is neither
follower_low : (pid : Pid) (row : ℕ) (out : StepOut) (J : Past) → IsLegal (entry_is.Undo pid row out ∷ J) → (q : ℕ) (x : Node) → made J < q → node_of (entry_is.Undo pid row out ∷ J) q ≡ Some x → is_high x.args ≡ false
follower_low pid row out J legal q x lt is = by (slice_get (args_in out.followers) (q - made J - 1)) refl (sym (cond-true (nat_lt (made J) q) (option_map (λ args. root_node q args 1) (slice_get (args_in out.followers) (q - made J - 1))) (node_of J q) (lt-ltb (made J) q lt)) ∙ is)
  where
    by : (o : Option Args) → slice_get (args_in out.followers) (q - made J - 1) ≡ o → option_map (λ args. root_node q args 1) o ≡ Some x → is_high x.args ≡ false
    by None e m = absurd (none-some x m)
    by (Some args) e m = ap (λ (n : Node). is_high n.args) (sym (same_Some (root_node q args 1) x m)) ∙ quiet_low out.followers (undo_quiet pid row out J legal) (q - made J - 1) args e

pub own_all : (J : Past) → IsLegal J → (q : ℕ) (x : Node) → node_of J q ≡ Some x → IsOwn x
own_all [] legal q x is = absurd (none-some x is)
own_all (entry_is.Submit nonce request ∷ J) legal q x is = elim (one_root J (args_are.Root request (first_of J (table_of_request request))) (first_of J (table_of_request request)) (asked_distinct request (first_of J (table_of_request request)) legal.1.1.0) q x is) [
  | inl was ↦ own_all J legal.0 q x was
  | inr own ↦ own
]
own_all (entry_is.Step pid pick out ∷ J) legal q x is = elim (le_or_lt q (made J)) [
  | inl le ↦ own_all J legal.0 q x (sym (node_same pid pick out J q le) ∙ is)
  | inr lt ↦
      let grown = grown_all J legal.0 in
      let step = step_of pid pick out J grown legal in
      let new = new_child pid pick out J step.node step.node_is q lt x is in
      low_own x (ap (λ (n : Node). is_high n.args) new.2 ∙ (does_of pid pick out J grown step).low (q - made J - 1) new.0 new.1)
]
own_all (entry_is.Undo pid row out ∷ J) legal q x is = elim (le_or_lt q (made J)) [
  | inl le ↦ own_all J legal.0 q x (sym ((undo_rooted pid row out J (grown_all J legal.0)).old q le) ∙ is)
  | inr lt ↦ low_own x (follower_low pid row out J legal q x lt is)
]
own_all (entry_is.Down server ∷ J) legal q x is = elim (one_root J (args_are.Crash server) 1 tt q x is) [
  | inl was ↦ own_all J legal.0 q x was
  | inr own ↦ own
]
own_all (entry_is.Base part ∷ J) legal q x is = absurd (none-some x is)
own_all (entry ∷ J) legal q x is = own_all J legal.0 q x is
