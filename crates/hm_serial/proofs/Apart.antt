-- No two roots that hold ask for what clashes.
use Rattle.std.proofs.Common.{◌≡◌, ◌≢◌, ℕ, List, [], ◌∷◌, true, false, Option, Some, None, refl, ap, sym, ◌∙◌, subst, inl, inr}
use Rattle.std.proofs.lemmas.Bool.{cases_Bool, cases_eq}
use Rattle.std.proofs.lemmas.Option.{none-some, same_Some}
use Rattle.hm_names.specs.Server.{Server}
use Rattle.hm_names.specs.declared.pid.Pid.{Pid}
use Rattle.hm_data.specs.declared.answer.Answer.{Answer}
use Rattle.hm_data.specs.declared.catalog.CatKey.{CatKey}
use Rattle.hm_data.specs.declared.entry.Entry.TheVariants as entry_is
use Rattle.hm_data.specs.declared.step.StepOut.{StepOut}
use Rattle.hm_model.specs.Answers.{last_answer}
use Rattle.hm_model.specs.Journal.{Past}
use Rattle.hm_model.specs.Locks.{Clash, asks}
use Rattle.hm_model.specs.Reads.{covers, guards}
use Rattle.hm_model.specs.Tree.{Node, made, node_of}
use Rattle.hm_model.specs.Rules.{IsLegal}
use Rattle.hm_model.proofs.Free.{step_free}
use Rattle.hm_model.proofs.LegalSteps.{StepFacts, ready_stops}
use Rattle.hm_model.proofs.StepDoes.{Does}
use Rattle.hm_model.proofs.Taken.{clash_sym}
use Rattle.hm_model.proofs.Trees.{Grown, IsWaiting, le_or_lt, new_child, node_same}
use Rattle.hm_kinds.proofs.Covering.{rows_table}
use Rattle.hm_kinds.proofs.LockForms.{IsRight, lock_law}
use Rattle.hm_serial.proofs.Fallen.{some_cons}
use Rattle.hm_model.proofs.Tops.{TopHolds, TopIs, holds_with, tops_conflict}
use Rattle.hm_serial.proofs.Standing.{holds_left, live_child, step_left, step_open}

abbrev pub Apart : Past → Type 0
Apart J = (s t : ℕ) (x y : Node) → TopHolds J s x → TopHolds J t y → s ≢ t → Clash (asks x.args) (asks y.args) → ⊥

-- each procedure's request could be submitted
abbrev pub Asked : Past → Type 0
Asked J = (q : ℕ) (x : Node) → node_of J q ≡ Some x → IsRight x.args

-- of a root and another that holds, neither covers a row that the other one guards
abbrev pub Aside : Past → ℕ → Node → Type 0
Aside J R top =
    (s : ℕ) (x : Node) → TopHolds J s x → s ≢ R → (key : CatKey)
    → (guards x.args key ≡ true → covers top.args key ≡ false) × (guards top.args key ≡ true → covers x.args key ≡ false)

-- so it is where their asks don't clash
pub aside_from : (J : Past) (R : ℕ) (top : Node) → ((s : ℕ) (x : Node) → TopHolds J s x → s ≢ R → Clash (asks top.args) (asks x.args) → ⊥) → Asked J → ((q : ℕ) (x : Node) → TopIs J q x → rows_table x.args ≡ None) → TopIs J R top → Aside J R top
aside_from J R top apart asked rows top_is s x h differs key = (
  λ g. elim (cases_Bool (covers top.args key)) [
    | inr off ↦ off
    | inl on ↦ absurd (apart s x h differs (lock_law top.args x.args (asked R top top_is.0) (asked s x h.0.0) (rows s x h.0) key on g))
  ],
  λ g. elim (cases_Bool (covers x.args key)) [
    | inr off ↦ off
    | inl on ↦ absurd (apart s x h differs (clash_sym (asks x.args) (asks top.args) (lock_law x.args top.args (asked s x h.0.0) (asked R top top_is.0) (rows R top top_is) key on g)))
  ],
)

-- at its first step a root's asks clash with those of no other root that holds
abbrev pub BeginsApart : Past → ℕ → Type 0
BeginsApart J p =
    (node : Node) → node_of J p ≡ Some node → node.above ≡ [] → last_answer J p ≡ None
    → (s : ℕ) (x : Node) → TopHolds J s x → s ≢ p → Clash (asks node.args) (asks x.args) → ⊥

-- so it is, since who steps conflicts with none that holds
pub begins_apart : (pid : Pid) (pick : Option Server) (out : StepOut) (J : Past) → IsLegal (entry_is.Step pid pick out ∷ J) → BeginsApart J pid.0
begins_apart pid pick out J legal node is top none s x h differs clash = step_free pid pick out J legal s (holds_with J s x h) (tops_conflict J pid.0 s node x (is, top) h.0 (λ e. differs (sym e)) clash)

-- a root after a step was one before
module _ (pid : Pid) (pick : Option Server) (out : StepOut) (J : Past) (step : StepFacts J pid.0 pick out) where
  pub step_top : (s : ℕ) (x : Node) → TopIs (entry_is.Step pid pick out ∷ J) s x → TopIs J s x
  step_top s x is = elim (le_or_lt s (made J)) [
    | inl le ↦ (sym (node_same pid pick out J s le) ∙ is.0, is.1)
    | inr lt ↦ let c = new_child pid pick out J step.node step.node_is s lt x is.0 in absurd (some_cons pid.0 step.node.above (ap (λ (n : Node). n.above) (sym c.2) ∙ is.1))
  ]

-- at a step nobody else who holds clashes with the root of its tree
module _ (pid : Pid) (pick : Option Server) (out : StepOut) (J : Past) (grown : Grown J) (step : StepFacts J pid.0 pick out) (d : Does J pid.0 step.node.args (last_answer J pid.0) step.sheet.rows out) (apart : Apart J) (begins : BeginsApart J pid.0) (top : Node) (top_is : TopIs J step.node.root top) where
  by_above : (above : List ℕ) → step.node.above ≡ above → (o : Option Answer) → last_answer J step.node.root ≡ o → (s : ℕ) (x : Node) → TopHolds J s x → s ≢ step.node.root → Clash (asks top.args) (asks x.args) → ⊥
  by_above above e (Some answer) last s x h differs clash =
      apart step.node.root s top x (top_is, (λ none. none-some answer (sym none ∙ last)), step_open pid pick out J grown step d) h (λ same. differs (sym same)) clash
  by_above [] e None last s x h differs clash =
      let root : step.node.root ≡ pid.0 = grown.tops pid.0 step.node step.node_is e in
      let one : top ≡ step.node = same_Some top step.node (sym top_is.0 ∙ ap (node_of J) root ∙ step.node_is) in
      begins step.node step.node_is e (ap (last_answer J) (sym root) ∙ last) s x h (λ same. differs (same ∙ sym root)) (subst (λ (n : Node). Clash (asks n.args) (asks x.args)) one clash)
  by_above (u ∷ rest) e None last s x h differs clash =
      let l = live_child J grown step.node.above pid.0 step.node step.node_is refl (λ n. some_cons u rest (sym e ∙ n)) (ready_stops J pid.0 step.node (last_answer J pid.0) step.ready) in
      subst IsWaiting last l.5

  pub step_apart : (s : ℕ) (x : Node) → TopHolds J s x → s ≢ step.node.root → Clash (asks top.args) (asks x.args) → ⊥
  step_apart s x h differs clash = by_above step.node.above refl (last_answer J step.node.root) refl s x h differs clash

  before : (s : ℕ) (x : Node) → TopHolds (entry_is.Step pid pick out ∷ J) s x → s ≢ step.node.root → TopHolds J s x
  before s x h differs = holds_left J (entry_is.Step pid pick out ∷ J) s x (step_left pid pick out J grown step d s x (step_top pid pick out J step s x h.0) differs) h

  own_is : (s : ℕ) (x : Node) → TopHolds (entry_is.Step pid pick out ∷ J) s x → s ≡ step.node.root → top ≡ x
  own_is s x h same = same_Some top x (sym top_is.0 ∙ ap (node_of J) (sym same) ∙ (step_top pid pick out J step s x h.0).0)

  pub apart_step : Apart (entry_is.Step pid pick out ∷ J)
  apart_step s t x y h k differs clash = elim (cases_eq s step.node.root) [
    | inl mine ↦
        let other : t ≢ step.node.root = (λ e. differs (mine ∙ sym e)) in
        step_apart t y (before t y k other) other (subst (λ (n : Node). Clash (asks n.args) (asks y.args)) (sym (own_is s x h mine)) clash)
    | inr other ↦ elim (cases_eq t step.node.root) [
      | inl mine ↦ step_apart s x (before s x h other) other (subst (λ (n : Node). Clash (asks n.args) (asks x.args)) (sym (own_is t y k mine)) (clash_sym (asks x.args) (asks y.args) clash))
      | inr neither ↦ apart s t x y (before s x h other) (before t y k neither) differs clash
    ]
  ]

pub apart_back : (J J' : Past) → ((r : ℕ) (node : Node) → TopHolds J' r node → TopHolds J r node) → Apart J → Apart J'
apart_back J J' holds apart s t x y h k differs clash = apart s t x y (holds s x h) (holds t y k) differs clash
