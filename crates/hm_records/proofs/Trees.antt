-- The tree that an entry belongs to, and what ends.
use Rattle.std.proofs.Common.{◌≡◌, ◌≢◌, ℕ, ◌+◌, ◌<◌, ◌==◌, [], ◌∷◌, Bool, true, false, not, ◌&&◌, ◌||◌, if◌then◌else◌, Option, Some, None, is_some, refl, ap, sym, ◌∙◌, inl, inr, ◌⊎◌, arith}
use Rattle.std.proofs.lemmas.Bool.{and_parts, cases_Bool, cases_eq, cond-false, eq-eqb, false≢true, ne_eqb, not-true, true≢false}
use Rattle.std.proofs.lemmas.Option.{none-some, same_Some}
use Rattle.hm_names.specs.Server.{Server}
use Rattle.hm_names.specs.declared.pid.Pid.{Pid}
use Rattle.hm_data.specs.declared.answer.Answer.{Answer}
use Rattle.hm_data.specs.declared.answer.Answer.TheVariants as answer_is
use Rattle.hm_data.specs.declared.answer.Cause.{Cause}
use Rattle.hm_data.specs.declared.call.Told.{Told}
use Rattle.hm_data.specs.declared.entry.Entry.{Entry}
use Rattle.hm_data.specs.declared.entry.Entry.TheVariants as entry_is
use Rattle.hm_data.specs.declared.part.Part.{Part}
use Rattle.hm_data.specs.declared.step.StepOut.{StepOut}
use Rattle.hm_model.specs.Answers.{done_with, is_stopped, last_answer}
use Rattle.hm_model.specs.Apart.{tree_of}
use Rattle.hm_model.specs.Journal.{Past}
use Rattle.hm_model.specs.Phase.{all_stopped, cause, ended, ended_node, in_tree, rolled_back, root_ended, root_over, stopped_in}
use Rattle.hm_model.specs.Reports.{verb_of}
use Rattle.hm_model.specs.Rules.{IsLegal}
use Rattle.hm_model.specs.Tree.{Node, is_root, is_root_in, is_top, made, node_of, root_in, root_of}
use Rattle.hm_model.specs.Undo.{is_empty, stack}
use Rattle.hm_model.proofs.Apart.{others_stay}
use Rattle.hm_model.proofs.Forest.{forest_all, rooted_all, roots_wait, top_is_own}
use Rattle.hm_model.proofs.Grown.{grown_all, made_up_to, nodes_stay}
use Rattle.hm_model.proofs.LegalSteps.{ready_stops}
use Rattle.hm_model.proofs.Parted.{no_node}
use Rattle.hm_model.proofs.Trees.{all_below_at, grown_all as trees_all, some_of, step_of}
use Rattle.hm_model.proofs.Small.{top_is}

-- who isn't there hasn't ended
pub none_open : (J : Past) (p : ℕ) → node_of J p ≡ None → ended J p ≡ false
none_open J p none = ap (ended_node J p) none

-- whether a procedure is there
pub there_or_not : (J : Past) (p : ℕ) → (node_of J p ≡ None) ⊎ ((x : Node) × (node_of J p ≡ Some x))
there_or_not J p = by (node_of J p) refl
  where
    by : (o : Option Node) → node_of J p ≡ o → (node_of J p ≡ None) ⊎ ((x : Node) × (node_of J p ≡ Some x))
    by None e = inl e
    by (Some x) e = inr (x, e)

-- a descendant has ended where its last step ended it
pub below_ended : (J : Past) (p : ℕ) (x : Node) → node_of J p ≡ Some x → is_top x.above ≡ false → ended J p ≡ is_stopped (last_answer J p)
below_ended J p x is below = ap (ended_node J p) is ∙ ap (λ b. if b then root_ended J p else is_stopped (last_answer J p)) below

not_done : (last : Option Answer) → is_stopped last ≡ false → done_with last ≡ None
not_done None e = refl
not_done (Some (answer_is.More n)) e = refl
not_done (Some (answer_is.Wait n)) e = refl
not_done (Some (answer_is.Await n)) e = refl
not_done (Some (answer_is.Done told)) e = absurd (true≢false e)
not_done (Some (answer_is.Fail cause)) e = refl
not_done (Some answer_is.Undone) e = refl

-- a root without a failure, or one that isn't rolled back, hasn't ended while it isn't done
pub not_over : (c : Option Cause) (rolled : Bool) (told : Option Told) → (c ≡ None) ⊎ (rolled ≡ false) → told ≡ None → root_over c rolled told ≡ false
not_over None rolled told h none = ap is_some none
not_over (Some c) true told h none = elim h [ inl e ↦ cc | inr e ↦ cc ]
not_over (Some c) false told h none = refl

from_test : (a b c : Bool) → a ≡ true → b ≡ false → (not a || (b || c)) ≡ true → c ≡ true
from_test true false c ea eb h = h
from_test true true c ea eb h = absurd (true≢false eb)
from_test false b c ea eb h = absurd (false≢true ea)

-- a descendant that goes on keeps its tree from being rolled back
keeps_tree : (J : Past) → IsLegal J → (p : ℕ) (x : Node) → node_of J p ≡ Some x → p ≢ x.root → is_stopped (last_answer J p) ≡ false → rolled_back J x.root ≡ false
keeps_tree J legal p x is differs runs = by (all_stopped J x.root) refl
  where
    few : p < made J + 1
    few = let within = (made_up_to J (grown_all J legal) p x is).1 in omega (arith, within)

    by : (b : Bool) → all_stopped J x.root ≡ b → (all_stopped J x.root && is_empty (stack J x.root)) ≡ false
    by false e = ap (λ b. b && is_empty (stack J x.root)) e
    by true e =
        absurd (true≢false (sym (from_test (in_tree x.root (node_of J p)) (p == x.root) (is_stopped (last_answer J p)) (ap (in_tree x.root) is ∙ eq-eqb x.root x.root refl) (ne_eqb p x.root differs) (all_below_at (made J + 1) (stopped_in J x.root) p e few)) ∙ runs))

-- while a procedure hasn't ended, its root hasn't
pub root_open : (J : Past) → IsLegal J → (p : ℕ) (x : Node) → node_of J p ≡ Some x → ended J p ≡ false → ended J x.root ≡ false
root_open J legal p x is goes = elim (cases_Bool (is_top x.above)) [
  | inl top ↦ ap (ended J) (top_is_own J (forest_all J legal) p x is (top_is x.above top)) ∙ goes
  | inr below ↦
      let runs : is_stopped (last_answer J p) ≡ false = sym (below_ended J p x is below) ∙ goes in
      let root = rooted_all J legal p x is in
      let differs : p ≢ x.root = λ same. true≢false (sym (ap is_top root.at_top) ∙ sym (ap (λ (n : Node). is_top n.above) (same_Some x root.root (sym is ∙ ap (node_of J) same ∙ root.there))) ∙ below) in
      let waits = roots_wait J legal p x is (λ e. true≢false (sym (ap is_top e) ∙ below)) runs in
      ap (ended_node J x.root) root.there
      ∙ ap (λ t. if is_top t then root_ended J x.root else is_stopped (last_answer J x.root)) root.at_top
      ∙ not_over (cause J x.root) (rolled_back J x.root) (done_with (last_answer J x.root)) (inr (keeps_tree J legal p x is differs runs)) (ap done_with waits.1)
]

-- the procedure of a legal step is there
pub stepper_there : (pid : Pid) (pick : Option Server) (out : StepOut) (J : Past) → IsLegal (entry_is.Step pid pick out ∷ J) → (me : Node) × (node_of J pid.0 ≡ Some me)
stepper_there pid pick out J legal = let may = legal.1.1.0 in (may.0, may.1)

-- the procedure of a legal step hasn't ended
stepper_runs : (pid : Pid) (pick : Option Server) (out : StepOut) (J : Past) → IsLegal (entry_is.Step pid pick out ∷ J) → is_stopped (last_answer J pid.0) ≡ false
stepper_runs pid pick out J legal = let step = step_of pid pick out J (trees_all J legal.0) legal in ready_stops J pid.0 step.node (last_answer J pid.0) step.ready

pub stepper_open : (pid : Pid) (pick : Option Server) (out : StepOut) (J : Past) → IsLegal (entry_is.Step pid pick out ∷ J) → ended J pid.0 ≡ false
stepper_open pid pick out J legal =
    let step = step_of pid pick out J (trees_all J legal.0) legal in
    let runs = stepper_runs pid pick out J legal in
    elim (cases_Bool (is_top step.node.above)) [
      | inr below ↦ below_ended J pid.0 step.node step.node_is below ∙ runs
      | inl top ↦
          ap (ended_node J pid.0) step.node_is
          ∙ ap (λ b. if b then root_ended J pid.0 else is_stopped (last_answer J pid.0)) top
          ∙ not_over (cause J pid.0) (rolled_back J pid.0) (done_with (last_answer J pid.0)) (inl (step.uncaused top)) (not_done (last_answer J pid.0) runs)
    ]

-- a root with something left to undo hasn't ended
undoing_open : (c : Option Cause) (stopped empty : Bool) (told : Option Told) → (is_some c && (stopped && not empty)) ≡ true → root_over c (stopped && empty) told ≡ false
undoing_open None stopped empty told e = absurd (false≢true e)
undoing_open (Some c) true true told e = absurd (false≢true e)
undoing_open (Some c) true false told e = refl
undoing_open (Some c) false empty told e = absurd (false≢true e)

module _ (pid : Pid) (row : ℕ) (out : StepOut) (J : Past) (legal : IsLegal (entry_is.Undo pid row out ∷ J)) where
  abbrev r : ℕ
  r = root_of J pid.0

  abbrev root : Node
  root = legal.1.1.0.0

  undoing : (is_top root.above ≡ true) × ((is_some (cause J r) && (all_stopped J r && not (is_empty (stack J r)))) ≡ true)
  undoing = and_parts (is_top root.above) (is_some (cause J r) && (all_stopped J r && not (is_empty (stack J r)))) legal.1.1.0.2

  -- the root of the tree of what is undone is one
  pub undone_root : is_top root.above ≡ true
  undone_root = undoing.0

  undone_open : ended J r ≡ false
  undone_open =
      ap (ended_node J r) legal.1.1.0.1
      ∙ ap (λ b. if b then root_ended J r else is_stopped (last_answer J r)) undoing.0
      ∙ undoing_open (cause J r) (all_stopped J r) (is_empty (stack J r)) (done_with (last_answer J r)) undoing.1

  -- something is left to undo of the tree of what is undone
  pub undone_left : is_empty (stack J r) ≡ false
  undone_left =
      let more = and_parts (is_some (cause J r)) (all_stopped J r && not (is_empty (stack J r))) undoing.1 in
      not-true (is_empty (stack J r)) (and_parts (all_stopped J r) (not (is_empty (stack J r))) more.1).1

-- a call that is reported is that of a procedure
caller_there : (call : Pid) (told : Told) (J : Past) → IsLegal (entry_is.Report call told ∷ J) → (x : Node) × (node_of J call.0 ≡ Some x)
caller_there call told J legal =
    let verb = some_of (verb_of J call.0) legal.1.1.0.0 in
    let own = (trees_all J legal.0).verbs call.0 verb.0 verb.1 in (own.0, own.1)

-- a root is there
root_is_there : (J : Past) (p : ℕ) → is_root J p ≡ true → (x : Node) × (node_of J p ≡ Some x)
root_is_there J p root = elim (there_or_not J p) [
  | inl none ↦ absurd (false≢true (sym (ap is_root_in none) ∙ root))
  | inr x ↦ x
]

-- the root of the tree that an entry belongs to hasn't ended before it
pub tree_open : (entry : Entry) (J : Past) → IsLegal (entry ∷ J) → ended J (tree_of J entry) ≡ false
tree_open (entry_is.Submit nonce request) J legal = none_open J (made J + 1) ((grown_all J legal.0).numbered (made J + 1) (omega arith))
tree_open (entry_is.Step pid pick out) J legal =
    let me = stepper_there pid pick out J legal in
    ap (ended J) (ap root_in me.1) ∙ root_open J legal.0 pid.0 me.0 me.1 (stepper_open pid pick out J legal)
tree_open (entry_is.Undo pid row out) J legal = undone_open pid row out J legal
tree_open (entry_is.Report call told) J legal =
    let x = caller_there call told J legal in
    ap (ended J) (ap root_in x.1) ∙ root_open J legal.0 call.0 x.0 x.1 legal.1.1.0.2
tree_open (entry_is.Down server) J legal = none_open J (made J + 1) ((grown_all J legal.0).numbered (made J + 1) (omega arith))
tree_open (entry_is.Abort pid) J legal =
    let x = root_is_there J pid.0 legal.1.1.0.0 in
    ap (ended J) (ap root_in x.1) ∙ root_open J legal.0 pid.0 x.0 x.1 legal.1.1.0.1
tree_open entry J legal = none_open J 0 (grown_all J legal.0).none

-- the root of the tree that an entry belongs to is one, if it was there
pub tree_root : (entry : Entry) (J : Past) → IsLegal (entry ∷ J) → (top : Node) → node_of J (tree_of J entry) ≡ Some top → top.above ≡ []
tree_root entry J legal top is = by entry legal is
  where
    none : node_of J 0 ≡ Some top → top.above ≡ []
    none e = absurd (none-some top (sym (grown_all J legal.0).none ∙ e))

    new : node_of J (made J + 1) ≡ Some top → top.above ≡ []
    new e = absurd (none-some top (sym ((grown_all J legal.0).numbered (made J + 1) (omega arith)) ∙ e))

    old : (p : ℕ) → node_of J (root_of J p) ≡ Some top → top.above ≡ []
    old p e = elim (there_or_not J p) [
      | inl none_there ↦ none (sym (ap (node_of J) (ap root_in none_there)) ∙ e)
      | inr x ↦ (let root = rooted_all J legal.0 p x.0 x.1 in ap (λ (n : Node). n.above) (same_Some top root.root (sym e ∙ ap (node_of J) (ap root_in x.1) ∙ root.there)) ∙ root.at_top)
    ]

    by : (one : Entry) → IsLegal (one ∷ J) → node_of J (tree_of J one) ≡ Some top → top.above ≡ []
    by (entry_is.Submit nonce request) ok e = new e
    by (entry_is.Step pid pick out) ok e = old pid.0 e
    by (entry_is.Undo pid row out) ok e = old pid.0 e
    by (entry_is.Report call told) ok e = old call.0 e
    by (entry_is.Down server) ok e = new e
    by (entry_is.Abort pid) ok e = old pid.0 e
    by entry ok e = none e

-- before a part of a base nobody has a step
pub none_stepped : (part : Part) (J : Past) → IsLegal (entry_is.Base part ∷ J) → (p : ℕ) → last_answer J p ≡ None
none_stepped part J legal p = (grown_all J legal.0).unmade p (no_node part J legal.1.0 p)

-- who has stopped stays so
pub stays_stopped : (entry : Entry) (J : Past) → IsLegal (entry ∷ J) → (p : ℕ) → is_stopped (last_answer J p) ≡ true → is_stopped (last_answer (entry ∷ J) p) ≡ true
stays_stopped (entry_is.Step pid pick out) J legal p stopped = elim (cases_eq p pid.0) [
  | inl same ↦
      absurd (true≢false (sym stopped ∙ ap (λ q. is_stopped (last_answer J q)) same ∙ stepper_runs pid pick out J legal))
  | inr differs ↦ ap is_stopped (cond-false (p == pid.0) (Some out.answer) (last_answer J p) (ne_eqb p pid.0 differs)) ∙ stopped
]
stays_stopped (entry_is.Base part) J legal p stopped =
    absurd (true≢false (sym stopped ∙ ap is_stopped (none_stepped part J legal p)))
stays_stopped entry J legal p stopped = stopped

-- who has ended stays so
pub stays_ended : (entry : Entry) (J : Past) → IsLegal (entry ∷ J) → (p : ℕ) → ended J p ≡ true → ended (entry ∷ J) p ≡ true
stays_ended entry J legal p over = elim (there_or_not J p) [
  | inl none ↦ absurd (true≢false (sym over ∙ none_open J p none))
  | inr x ↦ by x.0 x.1
]
  where
    by : (x : Node) → node_of J p ≡ Some x → ended (entry ∷ J) p ≡ true
    by x is = elim (cases_Bool (is_top x.above)) [
      | inr below ↦
          below_ended (entry ∷ J) p x (nodes_stay entry J legal p x is) below
          ∙ stays_stopped entry J legal p (sym (below_ended J p x is below) ∙ over)
      | inl top ↦
          (let differs : p ≢ tree_of J entry = λ same. true≢false (sym over ∙ ap (ended J) same ∙ tree_open entry J legal) in
          let at_top = top_is x.above top in
          (others_stay entry J legal p x is at_top differs).ends p x is (top_is_own J (forest_all J legal.0) p x is at_top) ∙ over)
    ]

-- who isn't there before an entry has no step after it
pub none_answers : (entry : Entry) (J : Past) → IsLegal (entry ∷ J) → (p : ℕ) → node_of J p ≡ None → last_answer (entry ∷ J) p ≡ None
none_answers entry J legal p none = by entry legal
  where
    was : last_answer J p ≡ None
    was = (grown_all J legal.0).unmade p none

    by : (one : Entry) → IsLegal (one ∷ J) → last_answer (one ∷ J) p ≡ None
    by (entry_is.Step pid pick out) ok =
        let me = stepper_there pid pick out J ok in
        let differs : p ≢ pid.0 = λ same. none-some me.0 (sym none ∙ ap (node_of J) same ∙ me.1) in
        cond-false (p == pid.0) (Some out.answer) (last_answer J p) (ne_eqb p pid.0 differs) ∙ was
    by (entry_is.Base part) ok = refl
    by entry ok = was
