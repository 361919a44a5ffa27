-- What the kinds of procedures have to tell, so that the entries of a tree are paid for.
use Rattle.std.proofs.Common.{◌≡◌, ◌≢◌, ℕ, ◌+◌, ◌≤◌, [], ◌∷◌, false, Option, Some, None, slice_get}
use Rattle.hm_names.specs.Server.{Server}
use Rattle.hm_names.specs.declared.pid.Pid.{Pid}
use Rattle.hm_data.specs.declared.answer.Cause.{Cause}
use Rattle.hm_data.specs.declared.args.Args.{Args}
use Rattle.hm_data.specs.declared.call.Told.{Told}
use Rattle.hm_data.specs.declared.entry.Entry.{Entry}
use Rattle.hm_data.specs.declared.entry.Entry.TheVariants as entry_is
use Rattle.hm_data.specs.declared.step.StepOut.{StepOut}
use Rattle.hm_model.specs.Answers.{failing, last_answer}
use Rattle.hm_model.specs.Costs.{cost}
use Rattle.hm_model.specs.Entries.{IsQuiet}
use Rattle.hm_model.specs.Journal.{Past}
use Rattle.hm_model.specs.Phase.{cause, root_ended}
use Rattle.hm_model.specs.Rules.{IsLegal}
use Rattle.hm_model.specs.Tree.{Node, args_in, child_of, made, node_of}
use Rattle.hm_costs.proofs.Sums.{total}

-- a root that is there, undisturbed, without a cause, and hasn't ended
pub record Going (J : Past) (r : ℕ) (top : Node) : Type 0 where
  pub legal : IsLegal J
  pub quiet : IsQuiet J r
  pub is_top : node_of J r ≡ Some top
  pub at_top : top.above ≡ []
  pub unended : root_ended J r ≡ false
  pub clean : cause J r ≡ None

-- an entry that is no step and no report of a procedure
abbrev pub Spares : Entry → ℕ → Type 0
Spares (entry_is.Step pid pick out) q = q ≢ pid.0
Spares (entry_is.Report call told) q = q ≢ call.0
Spares (entry_is.Base part) q = ⊥
Spares entry q = Unit {0}

module _ (At : Past → ℕ → Node → ℕ → Type 0) (Fresh : Past → ℕ → Node → Type 0) (price : Args → ℕ) where
  -- each procedure of the tree may still cost some
  abbrev pub AllAt : Past → ℕ → Type 0
  AllAt J r = (q : ℕ) (x : Node) → node_of J q ≡ Some x → x.root ≡ r → (budget : ℕ) × At J q x budget

  -- a step is paid for: itself, what the procedure may still cost, and its children; it fails only where it is a root's first
  pub record IsPaid (pid : Pid) (pick : Option Server) (out : StepOut) (J : Past) (me : Node) (budget : ℕ) : Type 0 where
    pub fails : (c : Cause) → failing out.answer ≡ Some c → (last_answer J pid.0 ≡ None) × (me.above ≡ [])
    pub rest : ℕ
    pub pays : 1 + rest + total price (args_in out.children) ≤ budget
    pub own : failing out.answer ≡ None → At (entry_is.Step pid pick out ∷ J) pid.0 me rest
    pub children : failing out.answer ≡ None → (i : ℕ) (args : Args) → slice_get (args_in out.children) i ≡ Some args → At (entry_is.Step pid pick out ∷ J) (made J + i + 1) (child_of pid.0 me args) (price args)

  -- what the kinds tell: a new root is fresh, and stays so till its first step; then it may cost what is left of its cost;
  -- steps are paid for, reports too, and all other entries leave what a procedure may cost
  pub record ArePriced : Type 0 where
    pub new : (entry : Entry) (J : Past) → IsLegal (entry ∷ J) → (r : ℕ) (top : Node) → node_of J r ≡ None → node_of (entry ∷ J) r ≡ Some top → top.above ≡ [] → Fresh (entry ∷ J) r top
    pub waits : (entry : Entry) (J : Past) → IsLegal (entry ∷ J) → (r : ℕ) (top : Node) → Going J r top → Going (entry ∷ J) r top → last_answer (entry ∷ J) r ≡ None → Fresh J r top → Fresh (entry ∷ J) r top
    pub one : (J : Past) (r : ℕ) (top : Node) → Fresh J r top → 1 ≤ cost J r top.args
    pub begins : (pid : Pid) (pick : Option Server) (out : StepOut) (J : Past) → IsLegal (entry_is.Step pid pick out ∷ J) → (top : Node) → Going J pid.0 top → last_answer J pid.0 ≡ None → Fresh J pid.0 top → (budget : ℕ) × At J pid.0 top budget × (1 + budget ≤ cost (entry_is.Step pid pick out ∷ J) pid.0 top.args)
    pub costs : (entry : Entry) (J : Past) → IsLegal (entry ∷ J) → (r : ℕ) (top : Node) → node_of J r ≡ Some top → last_answer J r ≢ None → cost (entry ∷ J) r top.args ≡ cost J r top.args
    pub steps : (pid : Pid) (pick : Option Server) (out : StepOut) (J : Past) → IsLegal (entry_is.Step pid pick out ∷ J) → (r : ℕ) (top : Node) → Going J r top → AllAt J r → (me : Node) → node_of J pid.0 ≡ Some me → me.root ≡ r → (budget : ℕ) → At J pid.0 me budget → IsPaid pid pick out J me budget
    pub reports : (call : Pid) (told : Told) (J : Past) → IsLegal (entry_is.Report call told ∷ J) → (r : ℕ) (top : Node) → Going J r top → IsQuiet (entry_is.Report call told ∷ J) r → (me : Node) → node_of J call.0 ≡ Some me → me.root ≡ r → (budget : ℕ) → At J call.0 me budget → (rest : ℕ) × (1 + rest ≤ budget) × At (entry_is.Report call told ∷ J) call.0 me rest
    pub stays : (entry : Entry) (J : Past) → IsLegal (entry ∷ J) → (r : ℕ) (top : Node) → Going J r top → Going (entry ∷ J) r top → AllAt J r → (q : ℕ) (x : Node) → node_of J q ≡ Some x → x.root ≡ r → Spares entry q → (last_answer J r ≢ None) → (budget : ℕ) → At J q x budget → At (entry ∷ J) q x budget
