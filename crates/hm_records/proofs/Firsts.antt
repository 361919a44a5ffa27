-- A root's first region id can be drawn, so that what it asks for can be told.
use Rattle.std.proofs.Common.{◌≡◌, ℕ, ◌+◌, ◌-◌, [], ◌∷◌, Option, Some, None, slice_get, refl, inl, inr, sym, ◌∙◌, subst}
use Rattle.std.specs.Option.{option_map}
use Rattle.std.proofs.lemmas.Bool.{cases_eq}
use Rattle.std.proofs.lemmas.Option.{none-some, same_Some}
use Rattle.hm_names.specs.declared.pid.Pid.{Pid}
use Rattle.hm_data.specs.declared.args.Args.{Args}
use Rattle.hm_data.specs.declared.args.Args.TheVariants as args_are
use Rattle.hm_data.specs.declared.entry.Entry.{Entry}
use Rattle.hm_data.specs.declared.entry.Entry.TheVariants as entry_is
use Rattle.hm_data.specs.declared.step.StepOut.{StepOut}
use Rattle.hm_locks.specs.Needs.{HasFirst}
use Rattle.hm_model.specs.Journal.{Past}
use Rattle.hm_model.specs.Kinds.{table_of_request}
use Rattle.hm_model.specs.Rules.{IsLegal}
use Rattle.hm_model.specs.Tree.{Node, args_in, first_of, made, node_of, root_node}
use Rattle.hm_model.proofs.Grown.{down_new, down_old, submit_new, submit_old, undo_new, undo_old}
use Rattle.hm_model.proofs.Trees.{grown_all, le_or_lt, new_child, node_same, step_of}
use Rattle.hm_procedures.specs.Kept.{args_made}
use Rattle.hm_records.specs.Book.{enlisted}
use Rattle.hm_records.proofs.BookBehind.{first_fits, made_fits}
use Rattle.hm_records.proofs.BookTold.{first_told}

-- of each procedure that an entry makes
pub made_first : (entry : Entry) (J : Past) → IsLegal (entry ∷ J) → (i : ℕ) (args : Args) → slice_get (enlisted entry (args_made J entry)) i ≡ Some args → HasFirst args
made_first entry J legal i args is = first_told args (made_fits entry J legal i args is)

-- of what an undo makes, by the node that it is
follower_first : (pid : Pid) (row : ℕ) (out : StepOut) (J : Past) → IsLegal (entry_is.Undo pid row out ∷ J) → (p i : ℕ) (x : Node) (o : Option Args) → slice_get (args_in out.followers) i ≡ o → option_map (λ args. root_node p args 1) o ≡ Some x → HasFirst x.args
follower_first pid row out J legal p i x None is e = absurd (none-some x e)
follower_first pid row out J legal p i x (Some args) is e = subst (λ (n : Node). HasFirst n.args) (same_Some (root_node p args 1) x e) (made_first (entry_is.Undo pid row out) J legal i args is)

-- of each procedure
pub node_first : (J : Past) → IsLegal J → (p : ℕ) (x : Node) → node_of J p ≡ Some x → HasFirst x.args
node_first [] legal p x is = absurd (none-some x is)
node_first (entry_is.Submit nonce request ∷ J) legal p x is = elim (cases_eq p (made J + 1)) [
  | inl new ↦ subst (λ (n : Node). HasFirst n.args) (same_Some _ x (sym (submit_new nonce request J p new) ∙ is)) (first_told (args_are.Root request (first_of J (table_of_request request))) (first_fits J legal.0 (table_of_request request)))
  | inr old ↦ node_first J legal.0 p x (sym (submit_old nonce request J p old) ∙ is)
]
node_first (entry_is.Step pid pick out ∷ J) legal p x is = elim (le_or_lt p (made J)) [
  | inl le ↦ node_first J legal.0 p x (sym (node_same pid pick out J p le) ∙ is)
  | inr lt ↦
      let step = step_of pid pick out J (grown_all J legal.0) legal in
      let c = new_child pid pick out J step.node step.node_is p lt x is in
      subst (λ (n : Node). HasFirst n.args) (sym c.2) (made_first (entry_is.Step pid pick out) J legal (p - made J - 1) c.0 c.1)
]
node_first (entry_is.Undo pid row out ∷ J) legal p x is = elim (le_or_lt p (made J)) [
  | inl le ↦ node_first J legal.0 p x (sym (undo_old pid row out J p le) ∙ is)
  | inr lt ↦ follower_first pid row out J legal p (p - made J - 1) x (slice_get (args_in out.followers) (p - made J - 1)) refl (sym (undo_new pid row out J p lt) ∙ is)
]
node_first (entry_is.Down server ∷ J) legal p x is = elim (cases_eq p (made J + 1)) [
  | inl new ↦ subst (λ (n : Node). HasFirst n.args) (same_Some (root_node p (args_are.Crash server) 1) x (sym (down_new server J p new) ∙ is)) tt
  | inr old ↦ node_first J legal.0 p x (sym (down_old server J p old) ∙ is)
]
node_first (entry_is.Base part ∷ J) legal p x is = absurd (none-some x is)
node_first (entry ∷ J) legal p x is = node_first J legal.0 p x is
