-- The entries of a tree, and its quiet, over an entry that isn't of it; and that a step makes no root.
use Rattle.std.proofs.Common.{◌≡◌, ◌≢◌, ℕ, ◌+◌, [], ◌∷◌, length, Bool, true, false, ◌||◌, ◌==◌, nat_lt, nat_le, Option, Some, None, inl, inr, refl, ap, sym, ◌∙◌}
use Rattle.std.proofs.lemmas.Bool.{cond-false, le-ltb, ne_eqb, or_from, and_left}
use Rattle.std.proofs.lemmas.Option.{none-some}
use Rattle.hm_names.specs.Server.{Server}
use Rattle.hm_names.specs.declared.pid.Pid.{Pid}
use Rattle.hm_data.specs.declared.entry.Entry.{Entry}
use Rattle.hm_data.specs.declared.entry.Entry.TheVariants as entry_is
use Rattle.hm_data.specs.declared.step.StepOut.{StepOut}
use Rattle.hm_model.specs.Answers.{is_aborted}
use Rattle.hm_model.specs.Apart.{tree_of}
use Rattle.hm_model.specs.Counts.{one_if}
use Rattle.hm_model.specs.Entries.{IsQuiet, entries_of, makes}
use Rattle.hm_model.specs.Journal.{Past}
use Rattle.hm_model.specs.Rules.{IsLegal}
use Rattle.hm_model.specs.Tree.{Node, args_in, made, node_of, root_of}
use Rattle.hm_model.proofs.RootTrees.{step_root, zero_if_false}
use Rattle.hm_model.proofs.Parted.{by_parts, no_node}
use Rattle.hm_model.proofs.Trees.{grown_all, is_there, le_or_lt, new_child, node_same}
use Rattle.hm_model.proofs.Small.{cons_nil}

pub one_if_true : (b : Bool) (n : ℕ) → b ≡ true → n + one_if b ≡ n + 1
one_if_true b n on = ap (λ x. n + one_if x) on

-- an entry that isn't of the tree of a root that is there adds nothing to it
pub entries_other : (entry : Entry) (J : Past) → IsLegal (entry ∷ J) → (r : ℕ) (top : Node) → node_of J r ≡ Some top → r ≢ tree_of J entry → entries_of (entry ∷ J) r ≡ entries_of J r
entries_other (entry_is.Submit nonce request) J legal r top is other = zero_if_false (r == made J + 1) (entries_of J r) (ne_eqb r (made J + 1) other)
entries_other (entry_is.Step pid pick out) J legal r top is other = zero_if_false (root_of J pid.0 == r) (entries_of J r) (ne_eqb (root_of J pid.0) r (λ e. other (sym e)))
entries_other (entry_is.Undo pid row out) J legal r top is other =
    zero_if_false ((root_of J pid.0 == r) || makes J out.followers r) (entries_of J r)
    (or_from (root_of J pid.0 == r) (makes J out.followers r) (ne_eqb (root_of J pid.0) r (λ e. other (sym e))) (and_left (nat_lt (made J) r) (nat_le r (made J + length (args_in out.followers))) (le-ltb (made J) r (is_there J (grown_all J legal.0) r top is))))
entries_other (entry_is.Report call told) J legal r top is other = zero_if_false (root_of J call.0 == r) (entries_of J r) (ne_eqb (root_of J call.0) r (λ e. other (sym e)))
entries_other (entry_is.Down server) J legal r top is other = zero_if_false (r == made J + 1) (entries_of J r) (ne_eqb r (made J + 1) other)
entries_other (entry_is.Base part) J legal r top is other = absurd (none-some top (sym (no_node part J legal.1.0 r) ∙ is))
entries_other entry J legal r top is other = refl

-- the quiet of a journal is that of the entries before
pub quiet_before : (entry : Entry) (J : Past) → IsLegal (entry ∷ J) → (r : ℕ) → IsQuiet (entry ∷ J) r → IsQuiet J r
quiet_before (entry_is.Report call told) J legal r quiet = quiet.0
quiet_before (entry_is.Down server) J legal r quiet = quiet.0
quiet_before (entry_is.Abort pid) J legal r quiet = quiet.0
quiet_before (entry_is.Base part) J legal r quiet = by_parts (λ j. IsQuiet j r) tt (λ own older. tt) part J legal.1.0
quiet_before entry J legal r quiet = quiet

-- so nobody aborted the root
pub quiet_unaborted : (J : Past) (r : ℕ) → IsQuiet J r → is_aborted J r ≡ false
quiet_unaborted [] r quiet = refl
quiet_unaborted (entry_is.Report call told ∷ J) r quiet = quiet_unaborted J r quiet.0
quiet_unaborted (entry_is.Down server ∷ J) r quiet = quiet_unaborted J r quiet.0
quiet_unaborted (entry_is.Abort pid ∷ J) r quiet = cond-false (r == pid.0) true (is_aborted J r) (ne_eqb r pid.0 (λ e. quiet.1 (sym e))) ∙ quiet_unaborted J r quiet.0
quiet_unaborted (entry_is.Base part ∷ J) r quiet = refl
quiet_unaborted (entry ∷ J) r quiet = quiet_unaborted J r quiet

-- a step makes no root
pub no_root_by_step : (pid : Pid) (pick : Option Server) (out : StepOut) (J : Past) → IsLegal (entry_is.Step pid pick out ∷ J) → (r : ℕ) (top : Node) → node_of J r ≡ None → node_of (entry_is.Step pid pick out ∷ J) r ≡ Some top → top.above ≡ [] → ⊥
no_root_by_step pid pick out J legal r top none is at_top =
    let me = step_root pid pick out J legal in
    elim (le_or_lt r (made J)) [
      | inl le ↦ none-some top (sym none ∙ sym (node_same pid pick out J r le) ∙ is)
      | inr lt ↦ let c = new_child pid pick out J me.0 me.1 r lt top is in cons_nil pid.0 me.0.above (ap (λ (n : Node). n.above) (sym c.2) ∙ at_top)
    ]
