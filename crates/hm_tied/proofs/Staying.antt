-- What an entry leaves alone of a tree that it doesn't belong to.
use Rattle.std.proofs.Common.{Some, ap, arith, false, inl, inr, is_some, not, refl, subst, sym, true, ℕ, ◌&&◌, ◌+◌, ◌∙◌, ◌∷◌, ◌≡◌, ◌≢◌}
use Rattle.std.proofs.lemmas.Option.{same_Some}
use Rattle.hm_names.specs.Server.{Server}
use Rattle.hm_data.specs.declared.entry.Entry.{Entry}
use Rattle.hm_model.specs.Answers.{report_of}
use Rattle.hm_model.specs.Apart.{IsSameTree, tree_of}
use Rattle.hm_model.specs.Fleet.{is_fenced}
use Rattle.hm_model.specs.Inputs.{undoes}
use Rattle.hm_model.specs.Journal.{Past}
use Rattle.hm_model.specs.Phase.{all_stopped, cause, phase}
use Rattle.hm_model.specs.Rest.{IsAnswered, IsReady}
use Rattle.hm_model.specs.Rules.{IsLegal}
use Rattle.hm_model.specs.Tree.{Node, is_root_in, is_top, made, node_of}
use Rattle.hm_model.specs.Undo.{is_empty, stack}
use Rattle.hm_model.specs.Whereabouts.{called_by}
use Rattle.hm_model.proofs.Apart.{others_stay}
use Rattle.hm_model.proofs.Forest.{forest_all, rooted_all, top_is_own}
use Rattle.hm_model.proofs.Grown.{nodes_stay}
use Rattle.hm_model.proofs.Trees.{grown_all, is_there, sheets_stay}
use Rattle.hm_tied.specs.Tied.{CanGo, IsCalm, LacksPick}
use Rattle.hm_model.proofs.Running.{top_or_below}
use Rattle.hm_model.proofs.Small.{top_is}
use Rattle.hm_tied.proofs.Picking.{SeesSame, fenced_still, lacks_on}

-- a root that is made next is of another tree than all that were there
pub old_tree : (J : Past) → IsLegal J → (q : ℕ) (x : Node) → node_of J q ≡ Some x → x.root ≢ made J + 1
old_tree J legal q x is same =
    let root = rooted_all J legal q x is in
    let le = is_there J (grown_all J legal) x.root root.root root.there in
    omega (arith, le, same)

-- one below a root has nothing undone
pub below_none : (J : Past) (q : ℕ) (x : Node) → is_top x.above ≡ false → undoes J q x ≡ false
below_none J q x below = ap (λ b. b && (is_some (cause J q) && (all_stopped J q && not (is_empty (stack J q))))) below

-- an entry leaves calls and fences as they are
pub record SameCalls (J after : Past) : Type 0 where
  pub reports : (q : ℕ) → report_of after q ≡ report_of J q
  pub fenced : (s : Server) → is_fenced after s ≡ true → is_fenced J s ≡ true

pub answered_before : (J after : Past) (q : ℕ) (x : Node) → SameCalls J after → IsAnswered after q x → IsAnswered J q x
answered_before J after q x same (inl some) = inl (λ none. some (same.reports q ∙ none))
answered_before J after q x same (inr fenced) = inr (fenced_still after J same.fenced (called_by x.args) fenced)

module _ (entry : Entry) (J : Past) (legal : IsLegal (entry ∷ J)) (q : ℕ) (x : Node) (is : node_of J q ≡ Some x) (other : x.root ≢ tree_of J entry) where
  pub same_tree : IsSameTree J (entry ∷ J) x.root
  same_tree = let root = rooted_all J legal.0 q x is in others_stay entry J legal x.root root.root root.there root.at_top other

  own : is_top x.above ≡ true → x.root ≡ q
  own top = top_is_own J (forest_all J legal.0) q x is (top_is x.above top)

  pub same_undoes : undoes (entry ∷ J) q x ≡ undoes J q x
  same_undoes = elim (top_or_below x.above) [
    | inr below ↦ below_none (entry ∷ J) q x below.0 ∙ sym (below_none J q x below.0)
    | inl top ↦
        let tree = subst (IsSameTree J (entry ∷ J)) (own top) same_tree in
        ap (λ c. is_top x.above && (is_some c && (all_stopped (entry ∷ J) q && not (is_empty (stack (entry ∷ J) q))))) tree.cause_is
        ∙ ap (λ b. is_top x.above && (is_some (cause J q) && (b && not (is_empty (stack (entry ∷ J) q))))) tree.stopped
        ∙ ap (λ l. is_top x.above && (is_some (cause J q) && (all_stopped J q && not (is_empty l)))) tree.stack_is
  ]

  pub same_calm : IsCalm J q → IsCalm (entry ∷ J) q
  same_calm calm root =
      let now : is_root_in (Some x) ≡ true = ap is_root_in (sym (nodes_stay entry J legal q x is)) ∙ root in
      let tree = subst (IsSameTree J (entry ∷ J)) (own now) same_tree in
      tree.stopped ∙ calm (ap is_root_in is ∙ now)

  pub same_go : SameCalls J (entry ∷ J) → CanGo (entry ∷ J) q → CanGo J q
  same_go calls (inl may) =
      let same : may.0 ≡ x = same_Some may.0 x (sym may.1 ∙ nodes_stay entry J legal q x is) in
      let ready : IsReady (entry ∷ J) q x = subst (IsReady (entry ∷ J) q) same may.2 in
      let tree = same_tree in
      let phases = tree.phases q x is refl in
      inl (x, is, elim ready [ inl runs ↦ inl (sym phases ∙ runs) | inr waits ↦ inr (sym phases ∙ waits.0, answered_before J (entry ∷ J) q x calls waits.1) ])
  same_go calls (inr undo) =
      let same : undo.0 ≡ x = same_Some undo.0 x (sym undo.1 ∙ nodes_stay entry J legal q x is) in
      inr (x, is, sym same_undoes ∙ ap (undoes (entry ∷ J) q) (sym same) ∙ undo.2)

-- who lacks a server to be picked goes on lacking one, where nothing of it comes to be undone
pub lacks_after : (entry : Entry) (J : Past) → IsLegal (entry ∷ J) → (q : ℕ) (lacks : LacksPick J q) → (let x = lacks.0 in (undoes (entry ∷ J) q x ≡ false) × SeesSame J (entry ∷ J) q x.args) → LacksPick (entry ∷ J) q
lacks_after entry J legal q lacks sees =
    let there = nodes_stay entry J legal q lacks.0 lacks.1 in
    (lacks.0, there, sees.0, lacks_on J (entry ∷ J) q lacks.0 lacks.1 there (sheets_stay entry J legal q lacks.0 lacks.1) lacks.2 sees.0 sees.1 lacks.3, (let same = sees.1 in same.opening lacks.4))

-- an entry that leaves procedures and phases as they are, and calls
pub going_same : (entry : Entry) (J : Past) → ((q : ℕ) → node_of (entry ∷ J) q ≡ node_of J q) → SameCalls J (entry ∷ J) → ((q : ℕ) (x : Node) → phase (entry ∷ J) q x ≡ phase J q x) → ((q : ℕ) (x : Node) → undoes (entry ∷ J) q x ≡ undoes J q x) → (q : ℕ) → CanGo (entry ∷ J) q → CanGo J q
going_same entry J nodes calls phases undos q (inr undo) = inr (undo.0, sym (nodes q) ∙ undo.1, sym (undos q undo.0) ∙ undo.2)
going_same entry J nodes calls phases undos q (inl (x, is, inl on)) = inl (x, sym (nodes q) ∙ is, inl (sym (phases q x) ∙ on))
going_same entry J nodes calls phases undos q (inl (x, is, inr waits)) = inl (x, sym (nodes q) ∙ is, inr (sym (phases q x) ∙ waits.0, answered_before J (entry ∷ J) q x calls waits.1))
