-- Roots that hold, and that those that have ended stay so.
use Rattle.hm_model.proofs.Parted.{no_node}
use Rattle.std.proofs.Common.{◌≡◌, ◌≢◌, ℕ, ◌+◌, ◌==◌, [], ◌∷◌, Bool, true, false, not, ◌&&◌, cond, Option, Some, None, is_some, refl, ap, sym, ◌∙◌, subst, inl, inr, ◌⊎◌, arith}
use Rattle.std.proofs.lemmas.Bool.{and_parts, cases_Bool, cases_eq, eqb-true, true≢false, false≢true}
use Rattle.std.proofs.lemmas.Option.{none-some, same_Some}
use Rattle.hm_names.specs.Server.{Server}
use Rattle.hm_names.specs.declared.pid.Pid.{Pid}
use Rattle.hm_data.specs.declared.answer.Cause.{Cause}
use Rattle.hm_data.specs.declared.entry.Entry.{Entry}
use Rattle.hm_data.specs.declared.entry.Entry.TheVariants as entry_is
use Rattle.hm_data.specs.declared.step.StepOut.{StepOut}
use Rattle.hm_model.specs.Answers.{failing, is_stopped, last_answer}
use Rattle.hm_model.specs.Apart.{tree_of}
use Rattle.hm_model.specs.Holding.{HoldsWith, InConflict}
use Rattle.hm_model.specs.Journal.{Past}
use Rattle.hm_model.specs.Locks.{AsksClash, Clash, IsAbove, IsIn, asks}
use Rattle.hm_model.specs.Phase.{all_stopped, cause, ended, ended_node, or_else, root_ended}
use Rattle.hm_model.specs.Procedures.{latest, left_to_undo}
use Rattle.hm_model.specs.Rules.{IsLegal}
use Rattle.hm_model.specs.Tree.{Node, is_root, is_root_in, is_top, made, node_of, root_in, root_of}
use Rattle.hm_model.specs.Undo.{is_empty, stack}
use Rattle.hm_model.proofs.Apart.{others_stay}
use Rattle.hm_model.proofs.Forest.{roots_wait}
use Rattle.hm_model.proofs.Grown.{nodes_stay}
use Rattle.hm_model.proofs.LegalSteps.{ready_stops}
use Rattle.hm_model.proofs.Trees.{answer_now, grown_all, is_there, other_answer, some_of, step_of}
use Rattle.hm_model.proofs.RootTrees.{ended_by, over_stopped, tree_root}
use Rattle.hm_model.proofs.Small.{top_is}
use Rattle.hm_model.proofs.Answered.{done_stops}

-- a root, by its number
abbrev pub TopIs : Past → ℕ → Node → Type 0
TopIs J r node = (node_of J r ≡ Some node) × (node.above ≡ [])

-- a root that has a step and hasn't ended
abbrev pub TopHolds : Past → ℕ → Node → Type 0
TopHolds J r node = TopIs J r node × (last_answer J r ≢ None) × (root_ended J r ≡ false)

-- a root has ended as its tree has
pub ended_top : (J : Past) (r : ℕ) (top : Node) → node_of J r ≡ Some top → top.above ≡ [] → ended J r ≡ root_ended J r
ended_top J r top is at_top = ap (ended_node J r) is ∙ ap (λ a. cond (is_top a) (root_ended J r) (is_stopped (last_answer J r))) at_top

-- a tree in which a step is made hasn't ended
pub step_open : (pid : Pid) (pick : Option Server) (out : StepOut) (J : Past) → IsLegal (entry_is.Step pid pick out ∷ J) → root_ended J (root_of J pid.0) ≡ false
step_open pid pick out J legal = elim (cases_Bool (root_ended J (root_of J pid.0))) [ inr off ↦ off | inl over ↦ absurd (by over) ]
  where
    by : root_ended J (root_of J pid.0) ≡ true → ⊥
    by over =
        let step = step_of pid pick out J (grown_all J legal.0) legal in
        let runs = ready_stops J pid.0 step.node (last_answer J pid.0) step.ready in
        let t = tree_root J legal.0 pid.0 step.node step.node_is in
        let root : root_of J pid.0 ≡ step.node.root = ap root_in step.node_is in
        elim (cases_eq pid.0 step.node.root) [
          | inr below ↦ true≢false (sym (over_stopped J legal.0 step.node.root t.0 t.1 t.2 (ap (root_ended J) (sym root) ∙ over) pid.0 step.node step.node_is refl below) ∙ runs)
          | inl mine ↦
              let one : t.0 ≡ step.node = same_Some t.0 step.node (sym t.1 ∙ ap (node_of J) (sym mine) ∙ step.node_is) in
              let none = step.uncaused (ap (λ (n : Node). is_top n.above) (sym one) ∙ ap is_top t.2) in
              true≢false (sym (done_stops (last_answer J pid.0) (sym (ended_by J pid.0 none) ∙ ap (root_ended J) (mine ∙ sym root) ∙ over)) ∙ runs)
        ]

-- nor has one in which a step is undone
pub undo_open : (pid : Pid) (row : ℕ) (out : StepOut) (J : Past) → IsLegal (entry_is.Undo pid row out ∷ J) → root_ended J (root_of J pid.0) ≡ false
undo_open pid row out J legal = by (root_ended J (root_of J pid.0)) refl
  where
    by : (b : Bool) → root_ended J (root_of J pid.0) ≡ b → b ≡ false
    by false e = refl
    by true e =
        let l = legal.1.1.0 in
        let none : left_to_undo J (root_of J pid.0) ≡ [] = ap (λ b. cond b [] (stack J (root_of J pid.0))) e in
        absurd (none-some l.3 (ap latest (sym none) ∙ l.4))

-- a root of another tree that has ended stays so
other_stays : (entry : Entry) (J : Past) → IsLegal (entry ∷ J) → (s : ℕ) (x : Node) → TopIs J s x → s ≢ tree_of J entry → root_ended J s ≡ true → root_ended (entry ∷ J) s ≡ true
other_stays entry J legal s x top other over =
    let same = others_stay entry J legal s x top.0 top.1 other in
    sym (ended_top (entry ∷ J) s x (nodes_stay entry J legal s x top.0) top.1) ∙ same.ends s x top.0 ((grown_all J legal.0).tops s x top.0 top.1) ∙ ended_top J s x top.0 top.1 ∙ over

-- who is there isn't the next
not_next : (J : Past) → IsLegal J → (s : ℕ) (x : Node) → node_of J s ≡ Some x → s ≢ made J + 1
not_next J legal s x is same = let le = is_there J (grown_all J legal) s x is in omega (arith, le, same)

-- a root that has ended stays so
pub root_stays : (entry : Entry) (J : Past) → IsLegal (entry ∷ J) → (s : ℕ) (x : Node) → TopIs J s x → root_ended J s ≡ true → root_ended (entry ∷ J) s ≡ true
root_stays (entry_is.Base part) J legal s x top over = absurd (none-some x (sym (no_node part J legal.1.0 s) ∙ top.0))
root_stays (entry_is.Submit nonce request) J legal s x top over = other_stays (entry_is.Submit nonce request) J legal s x top (not_next J legal.0 s x top.0) over
root_stays (entry_is.Down server) J legal s x top over = other_stays (entry_is.Down server) J legal s x top (not_next J legal.0 s x top.0) over
root_stays (entry_is.Step pid pick out) J legal s x top over = elim (cases_eq s (root_of J pid.0)) [
  | inr other ↦ other_stays (entry_is.Step pid pick out) J legal s x top other over
  | inl mine ↦ absurd (true≢false (sym over ∙ ap (root_ended J) mine ∙ step_open pid pick out J legal))
]
root_stays (entry_is.Undo pid row out) J legal s x top over = elim (cases_eq s (root_of J pid.0)) [
  | inr other ↦ other_stays (entry_is.Undo pid row out) J legal s x top other over
  | inl mine ↦ absurd (true≢false (sym over ∙ ap (root_ended J) mine ∙ undo_open pid row out J legal))
]
root_stays entry J legal s x top over = over

-- who holds after an entry, and made no step by it, held before
pub held : (entry : Entry) (J : Past) → IsLegal (entry ∷ J) → (s : ℕ) (x : Node) → TopHolds (entry ∷ J) s x → last_answer (entry ∷ J) s ≡ last_answer J s → TopHolds J s x
held entry J legal s x h same =
    let begun : last_answer J s ≢ None = (λ none. h.1 (same ∙ none)) in
    let was = some_of (node_of J s) (λ none. begun ((grown_all J legal.0).unmade s none)) in
    let one : was.0 ≡ x = same_Some was.0 x (sym (nodes_stay entry J legal s was.0 was.1) ∙ h.0.0) in
    let top : TopIs J s x = (was.1 ∙ ap Some one, h.0.1) in
    (top, begun, elim (cases_Bool (root_ended J s)) [ inr off ↦ off | inl over ↦ absurd (true≢false (sym (root_stays entry J legal s x top over) ∙ h.2)) ])

pub holds_open : (J : Past) (s : ℕ) (x : Node) → TopHolds J s x → ended J s ≡ false
holds_open J s x h = ended_top J s x h.0.0 h.0.1 ∙ h.2

pub top_root : (J : Past) (s : ℕ) (x : Node) → TopIs J s x → is_root J s ≡ true
top_root J s x top = ap is_root_in top.0 ∙ ap is_top top.1

-- it holds, with nobody taken
pub holds_with : (J : Past) (s : ℕ) (x : Node) → TopHolds J s x → HoldsWith J [] s
holds_with J s x h = ((λ none. none-some x (sym none ∙ h.0.0)), holds_open J s x h, inl h.1)

-- who holds after a step held before, or makes its first step
pub held_or : (pid : Pid) (pick : Option Server) (out : StepOut) (J : Past) → IsLegal (entry_is.Step pid pick out ∷ J) → (s : ℕ) (x : Node) → TopHolds (entry_is.Step pid pick out ∷ J) s x → TopHolds J s x ⊎ ((s ≡ pid.0) × TopIs J s x)
held_or pid pick out J legal s x h = elim (cases_eq s pid.0) [
  | inr other ↦ inl (held (entry_is.Step pid pick out) J legal s x h (other_answer pid pick out J s other))
  | inl mine ↦
      let step = step_of pid pick out J (grown_all J legal.0) legal in
      let there : node_of J s ≡ Some step.node = ap (node_of J) mine ∙ step.node_is in
      let one : step.node ≡ x = same_Some step.node x (sym (nodes_stay (entry_is.Step pid pick out) J legal s step.node there) ∙ h.0.0) in
      inr (mine, (there ∙ ap Some one, h.0.1))
]

-- whose descendant goes on has a step
pub root_begun : (J : Past) → IsLegal J → (q : ℕ) (x : Node) → node_of J q ≡ Some x → is_stopped (last_answer J q) ≡ false → q ≢ x.root → last_answer J x.root ≢ None
root_begun J legal q x is runs below none =
    let w = roots_wait J legal q x is (λ top. below (sym ((grown_all J legal).tops q x is top))) runs in
    none-some _ (sym none ∙ w.1)

-- a root whose tree failed has a step
pub caused_begun : (J : Past) → IsLegal J → (r : ℕ) (c : Cause) → cause J r ≡ Some c → last_answer J r ≢ None
caused_begun [] legal r c is = absurd (none-some c is)
caused_begun (entry_is.Step pid pick out ∷ J) legal r c is = elim (cases_eq r pid.0) [
  | inl mine ↦ λ none. none-some out.answer (sym none ∙ ap (last_answer (entry_is.Step pid pick out ∷ J)) mine ∙ answer_now pid pick out J)
  | inr other ↦ λ none. before (caused_begun J legal.0 r c) other (root_of J pid.0 == r) refl is (sym (other_answer pid pick out J r other) ∙ none)
]
  where
    before : (cause J r ≡ Some c → last_answer J r ≢ None) → r ≢ pid.0 → (b : Bool) → (root_of J pid.0 == r) ≡ b → cond b (or_else (cause J r) (failing out.answer)) (cause J r) ≡ Some c → last_answer J r ≡ None → ⊥
    before on other false e is none = on is none
    before on other true e is none =
        let step = step_of pid pick out J (grown_all J legal.0) legal in
        let root : step.node.root ≡ r = ap root_in (sym step.node_is) ∙ eqb-true (root_of J pid.0) r e in
        root_begun J legal.0 pid.0 step.node step.node_is (ready_stops J pid.0 step.node (last_answer J pid.0) step.ready) (λ same. other (sym (same ∙ root))) (ap (last_answer J) root ∙ none)
caused_begun (entry_is.Base part ∷ J) legal r c is = absurd (none-some c is)
caused_begun (entry ∷ J) legal r c is = caused_begun J legal.0 r c is

-- a tree in which a step is undone is that of a root, and has failed
pub undo_facts : (pid : Pid) (row : ℕ) (out : StepOut) (J : Past) → IsLegal (entry_is.Undo pid row out ∷ J) → (top : Node) × TopIs J (root_of J pid.0) top × (c : Cause) × (cause J (root_of J pid.0) ≡ Some c)
undo_facts pid row out J legal =
    let l = legal.1.1.0 in
    let parts = and_parts (is_top l.0.above) (is_some (cause J (root_of J pid.0)) && (all_stopped J (root_of J pid.0) && not (is_empty (stack J (root_of J pid.0))))) l.2 in
    let c = by (cause J (root_of J pid.0)) (and_parts (is_some (cause J (root_of J pid.0))) (all_stopped J (root_of J pid.0) && not (is_empty (stack J (root_of J pid.0)))) parts.1).0 in
    (l.0, (l.1, top_is l.0.above parts.0), c.0, c.1)
  where
    by : (o : Option Cause) → is_some o ≡ true → (c : Cause) × (o ≡ Some c)
    by None h = absurd (false≢true h)
    by (Some c) h = (c, refl)

not_above : (J : Past) (s : ℕ) (x : Node) → TopIs J s x → (q : ℕ) → IsAbove q (node_of J s) → ⊥
not_above J s x top q up = subst (IsIn q) top.1 (subst (IsAbove q) top.0 up)

-- two roots that ask for what clashes conflict
pub tops_conflict : (J : Past) (p s : ℕ) (x y : Node) → TopIs J p x → TopIs J s y → p ≢ s → Clash (asks x.args) (asks y.args) → InConflict J p s
tops_conflict J p s x y p_is s_is differs clash = (differs, (not_above J s y s_is p, not_above J p x p_is s, subst (λ o. AsksClash o (node_of J s)) (sym p_is.0) (subst (AsksClash (Some x)) (sym s_is.0) clash)))
