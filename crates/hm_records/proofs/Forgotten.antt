-- Whose steps are left to be undone: roots' that haven't ended alone.
use Rattle.std.proofs.Common.{◌≡◌, ◌≢◌, ℕ, ◌==◌, [], ◌∷◌, List, true, false, not, if◌then◌else◌, Some, is_some, refl, ap, sym, ◌∙◌, inl, inr, map}
use Rattle.std.proofs.lemmas.Bool.{cases_Bool, cases_eq, cond-false, eq-eqb, ne_eqb, true≢false}
use Rattle.hm_names.specs.declared.pid.Pid.{Pid}
use Rattle.hm_data.specs.declared.entry.Entry.{Entry}
use Rattle.hm_data.specs.declared.entry.Entry.TheVariants as entry_is
use Rattle.hm_data.specs.declared.part.Part.{Part}
use Rattle.hm_model.specs.Answers.{failing}
use Rattle.hm_model.specs.Apart.{tree_of}
use Rattle.hm_model.specs.Base.{PartFits}
use Rattle.hm_model.specs.Journal.{Past}
use Rattle.hm_model.specs.Phase.{ended}
use Rattle.hm_model.specs.Rules.{IsLegal}
use Rattle.hm_model.specs.Sheets.{undo_of_next}
use Rattle.hm_model.specs.Tree.{Node, is_root, is_root_in, is_top, node_of, pid_of, root_in, root_of}
use Rattle.hm_model.specs.Undo.{pushed, rest_of, row_if_there, stack}
use Rattle.hm_model.proofs.Apart.{others_stay}
use Rattle.hm_model.proofs.Forest.{forest_all, rooted_all, top_is_own}
use Rattle.hm_model.proofs.Grown.{nodes_stay}
use Rattle.hm_model.proofs.Parted.{by_parts}
use Rattle.hm_model.proofs.Small.{top_is}
use Rattle.hm_undo.specs.Laws.{Tells, kept_of}
use Rattle.hm_undo.specs.Stacks.{AreWith, Stacks, steps_of}
use Rattle.hm_undo.specs.declared.slot.Step.{Step}
use Rattle.hm_records.specs.Records.{AreForgotten, is_open}
use Rattle.hm_records.proofs.Trees.{stepper_there, there_or_not, tree_open, undone_root}

-- before a part of a base nothing is left to undo
pub none_stacked : (part : Part) (J : Past) → PartFits part J → (p : ℕ) → stack J p ≡ []
none_stacked = by_parts (λ J. (p : ℕ) → stack J p ≡ []) (λ p. refl) (λ own older p. refl)

-- what is left of another tree stays
stack_stays : (entry : Entry) (J : Past) → IsLegal (entry ∷ J) → (p : ℕ) → p ≢ tree_of J entry → stack (entry ∷ J) p ≡ stack J p
stack_stays (entry_is.Step pid pick out) J legal p other =
    cond-false (root_of J pid.0 == p) (pushed (undo_of_next J pid.0 (node_of J pid.0)) (is_some (failing out.answer)) pid.0 (row_if_there J pid.0 (node_of J pid.0)) out.edits (stack J p)) (stack J p) (ne_eqb (root_of J pid.0) p (λ e. other (sym e)))
stack_stays (entry_is.Undo pid row out) J legal p other = cond-false (root_of J pid.0 == p) (rest_of (stack J p)) (stack J p) (ne_eqb (root_of J pid.0) p (λ e. other (sym e)))
stack_stays (entry_is.Base part) J legal p other = sym (none_stacked part J legal.1.0 p)
stack_stays entry J legal p other = refl

-- who is a root stays one
root_stays : (entry : Entry) (J : Past) → IsLegal (entry ∷ J) → (p : ℕ) (x : Node) → node_of J p ≡ Some x → is_root (entry ∷ J) p ≡ is_root J p
root_stays entry J legal p x is = ap is_root_in (nodes_stay entry J legal p x is) ∙ sym (ap is_root_in is)

-- who is no root after an entry was none before it
was_no_root : (entry : Entry) (J : Past) → IsLegal (entry ∷ J) → (p : ℕ) → is_root (entry ∷ J) p ≡ false → is_root J p ≡ false
was_no_root entry J legal p rootless = elim (there_or_not J p) [
  | inl none ↦ ap is_root_in none
  | inr x ↦ sym (root_stays entry J legal p x.0 x.1) ∙ rootless
]

-- the root of a procedure is one after an entry
root_is : (entry : Entry) (J : Past) → IsLegal (entry ∷ J) → (p : ℕ) (x : Node) → node_of J p ≡ Some x → is_root (entry ∷ J) (root_of J p) ≡ true
root_is entry J legal p x is =
    let root = rooted_all J legal.0 p x is in
    ap (is_root (entry ∷ J)) (ap root_in is) ∙ root_stays entry J legal x.root root.root root.there ∙ ap is_root_in root.there ∙ ap is_top root.at_top

-- nothing is left to undo of who is no root
none_below : (J : Past) → IsLegal J → (p : ℕ) → is_root J p ≡ false → stack J p ≡ []
none_below [] legal p rootless = refl
none_below (entry_is.Step pid pick out ∷ J) legal p rootless =
    let me = stepper_there pid pick out J legal in
    stack_stays (entry_is.Step pid pick out) J legal p (λ same. true≢false (sym (root_is (entry_is.Step pid pick out) J legal pid.0 me.0 me.1) ∙ sym (ap (is_root (entry_is.Step pid pick out ∷ J)) same) ∙ rootless))
    ∙ none_below J legal.0 p (was_no_root (entry_is.Step pid pick out) J legal p rootless)
none_below (entry_is.Undo pid row out ∷ J) legal p rootless =
    let root = legal.1.1.0 in
    let undone = entry_is.Undo pid row out in
    let top : is_root (undone ∷ J) (root_of J pid.0) ≡ true = root_stays undone J legal (root_of J pid.0) root.0 root.1 ∙ ap is_root_in root.1 ∙ undone_root pid row out J legal in
    stack_stays undone J legal p (λ same. true≢false (sym top ∙ sym (ap (is_root (undone ∷ J)) same) ∙ rootless))
    ∙ none_below J legal.0 p (was_no_root undone J legal p rootless)
none_below (entry_is.Base part ∷ J) legal p rootless = refl
none_below (entry ∷ J) legal p rootless = none_below J legal.0 p (was_no_root entry J legal p rootless)

module _ (entry : Entry) (J : Past) (legal : IsLegal (entry ∷ J)) where
  -- who has ended is of another tree
  not_tree : (p : ℕ) → ended J p ≡ true → p ≢ tree_of J entry
  not_tree p over same = true≢false (sym over ∙ ap (ended J) same ∙ tree_open entry J legal)

  -- steps that come or go in the tree of an entry are of nobody who had ended
  pub still_forgotten : (old : Stacks) → AreForgotten J old → (steps : List Step) (new : Stacks) → AreWith old (pid_of (tree_of J entry)) steps new → AreForgotten J new
  still_forgotten old forgotten steps new with_it p over =
      with_it p ∙ cond-false (tree_of J entry == p.0) steps (steps_of old p) (ne_eqb (tree_of J entry) p.0 (λ e. not_tree p.0 over (sym e))) ∙ forgotten p over

  -- of another tree only a descendant ends, of which nothing is told
  pub ends_below : (p : ℕ) → p ≢ tree_of J entry → ended J p ≡ false → ended (entry ∷ J) p ≡ true → is_root J p ≡ false
  ends_below p other was over = elim (there_or_not J p) [
    | inl none ↦ ap is_root_in none
    | inr x ↦ elim (cases_Bool (is_top x.0.above)) [
      | inr below ↦ ap is_root_in x.1 ∙ below
      | inl top ↦
          (let at_top = top_is x.0.above top in
          let own = top_is_own J (forest_all J legal.0) p x.0 x.1 at_top in
          absurd (true≢false (sym over ∙ (others_stay entry J legal p x.0 x.1 at_top other).ends p x.0 x.1 own ∙ was)))
    ]
  ]

  module _ (stacks : Stacks) (tells : Tells (is_open J) (entry ∷ J) stacks) (forgotten : AreForgotten J stacks) where
    -- nothing is left of who has ended in another tree
    others_forgotten : (p : Pid) → p.0 ≢ tree_of J entry → ended (entry ∷ J) p.0 ≡ true → steps_of stacks p ≡ []
    others_forgotten p other over = elim (cases_Bool (ended J p.0)) [
      | inl was ↦ forgotten p was
      | inr goes ↦
          tells p (ap not goes)
          ∙ ap (map kept_of) (stack_stays entry J legal p.0 other ∙ none_below J legal.0 p.0 (ends_below p.0 other goes over))
    ]

    -- while the tree's root goes on
    pub forgotten_on : ended (entry ∷ J) (tree_of J entry) ≡ false → AreForgotten (entry ∷ J) stacks
    forgotten_on goes p over = others_forgotten p (λ same. true≢false (sym over ∙ ap (ended (entry ∷ J)) same ∙ goes)) over

    -- the tree's root is forgotten as it ends
    pub forgotten_over : (new : Stacks) → AreWith stacks (pid_of (tree_of J entry)) [] new → AreForgotten (entry ∷ J) new
    forgotten_over new with_it p over = elim (cases_eq (tree_of J entry) p.0) [
      | inl same ↦ with_it p ∙ ap (λ b. if b then [] else steps_of stacks p) (eq-eqb (tree_of J entry) p.0 same)
      | inr differs ↦
          with_it p ∙ cond-false (tree_of J entry == p.0) [] (steps_of stacks p) (ne_eqb (tree_of J entry) p.0 differs)
          ∙ others_forgotten p (λ e. differs (sym e)) over
    ]
