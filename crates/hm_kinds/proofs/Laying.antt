-- A child that makes a layout makes that of its own root, and no child of a step sweeps one.
use Rattle.std.proofs.Common.{◌≡◌, ℕ, [], true, slice_get, Option, Some, None, is_some, refl, ap, sym, ◌∙◌, subst}
use Rattle.std.proofs.lemmas.Bool.{false≢true}
use Rattle.std.proofs.lemmas.Option.{none-some}
use Rattle.hm_names.specs.Server.{Server}
use Rattle.hm_names.specs.declared.pid.Pid.{Pid}
use Rattle.hm_data.specs.declared.act.Act.TheVariants as act_is
use Rattle.hm_data.specs.declared.args.Args.{Args}
use Rattle.hm_data.specs.declared.args.Args.TheVariants as args_are
use Rattle.hm_data.specs.declared.call.Verb.{Verb}
use Rattle.hm_data.specs.declared.call.Verb.TheVariants as verb_is
use Rattle.hm_data.specs.declared.step.StepIn.{StepIn}
use Rattle.hm_data.specs.declared.step.StepOut.{StepOut}
use Rattle.hm_model.specs.Acts.{act_answer}
use Rattle.hm_model.specs.Answers.{last_answer, row_of}
use Rattle.hm_model.specs.Inputs.{step_input}
use Rattle.hm_model.specs.Journal.{Past}
use Rattle.hm_model.specs.Kinds.{kind_of}
use Rattle.hm_model.specs.Lists.{exact_rows}
use Rattle.hm_model.specs.Tree.{args_in}
use Rattle.hm_model.specs.Verbs.{verb_in}
use Rattle.hm_model.proofs.ExactRows.{IsLed, led_row, row_passes}
use Rattle.hm_model.proofs.LegalSteps.{StepFacts, ready_stops}
use Rattle.hm_model.proofs.PlainActs.{is_caller, is_plain}
use Rattle.hm_model.proofs.StepDoes.{Does, bears_by, calls, crash, exact_row_is, lined, moves, part_of, row_by}
use Rattle.hm_model.proofs.Trees.{Grown}
use Rattle.hm_kinds.proofs.Kids.{AllMade, IsChildOf, MadeBy, kids_act, made_at}

-- who calls so, of the tree of a root, makes the layout of that root, or none, and sweeps none
abbrev pub LaysBy : ℕ → Option Verb → Type 0
LaysBy r None = Unit {0}
LaysBy r (Some (verb_is.AssignRegion region)) = Unit {0}
LaysBy r (Some (verb_is.CloseRegion region)) = Unit {0}
LaysBy r (Some (verb_is.Fence server)) = Unit {0}
LaysBy r (Some (verb_is.Layout root)) = root.0 ≡ r
LaysBy r (Some (verb_is.Sweep root)) = ⊥

abbrev pub Lays : ℕ → Args → Type 0
Lays r made = LaysBy r (verb_in made)

caller_lays : (r : ℕ) (made : Args) → is_caller made ≡ true → Lays r made
caller_lays r (args_are.AssignCall region server) h = tt
caller_lays r (args_are.CloseCall region server) h = tt
caller_lays r made h = absurd (false≢true h)

module _ (pid : Pid) (pick : Option Server) (out : StepOut) (J : Past) (grown : Grown J) (step : StepFacts J pid.0 pick out) (d : Does J pid.0 step.node.args (last_answer J pid.0) step.sheet.rows out) where
  abbrev at : StepIn
  at = step_input J pid.0 step.node pick

  led_on : exact_rows (kind_of step.node.args) ≡ [] → IsLed (kind_of step.node.args) step.sheet.rows (row_of J pid.0 step.node)
  led_on exact = grown.led pid.0 step.node step.node_is exact step.sheet step.sheet_is (ready_stops J pid.0 step.node (last_answer J pid.0) step.ready)

  lays_own : step.row.act ≡ act_is.Layout → AllMade (Lays step.node.root) out.children
  lays_own is = subst (λ (o : StepOut). AllMade (Lays step.node.root) o.children) (sym step.out_is)
      (row_by (λ (o : StepOut). AllMade (Lays step.node.root) o.children) step.row at (λ c. tt) (subst (λ a. AllMade (Lays step.node.root) (act_answer a step.row.next at).children) (sym is) (refl, tt)))

  plain_lays : is_plain step.row.act ≡ true → (i : ℕ) (made : Args) → slice_get (args_in out.children) i ≡ Some made → Lays step.node.root made
  plain_lays plain i made get = by made get (made_at (IsChildOf step.row.act step.node.args) out.children kids i made get)
    where
      kids : MadeBy step.row.act step.node.args out
      kids = subst (MadeBy step.row.act step.node.args) (sym step.out_is) (row_by (MadeBy step.row.act step.node.args) step.row at (λ c. tt) (kids_act step.row.act plain step.row.next at))

      by : (made : Args) → slice_get (args_in out.children) i ≡ Some made → IsChildOf step.row.act step.node.args made → Lays step.node.root made
      by (args_are.LayoutCall root) g k = made_at (Lays step.node.root) out.children (lays_own k) i (args_are.LayoutCall root) g
      by (args_are.SweepLayout root) g k = absurd k
      by args g k = tt

  pub child_lays : (i : ℕ) (made : Args) → slice_get (args_in out.children) i ≡ Some made → Lays step.node.root made
  child_lays i made get = elim (part_of step.node.args) [
    | lined exact unmoved uncalled ↦ plain_lays (led_row (kind_of step.node.args) step.sheet step.valid (row_of J pid.0 step.node) (led_on exact) step.row step.row_is).plain i made get
    | crash kind unmoved uncalled ↦ plain_lays (row_passes (λ row. is_plain row.act) (exact_rows 11) refl (row_of J pid.0 step.node) step.row (exact_row_is J pid.0 pick out step 11 kind _ _ refl)) i made get
    | moves r m kind uncalled ↦ caller_lays step.node.root made (sym (ap (λ o. bears_by (is_some o) (is_some (verb_in step.node.args)) (is_caller made)) m) ∙ d.bearing i made get)
    | calls verb v unmoved exact ↦ absurd (none-some made (sym (ap (λ c. slice_get (args_in c) i) (d.calls verb v).childless) ∙ get))
  ]
