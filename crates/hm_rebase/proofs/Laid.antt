-- Which layouts are there: those of the base and of roots that entries made; an image has just the same.
use Rattle.std.proofs.Common.{◌≡◌, ℕ, zero, suc, ◌+◌, ◌-◌, ◌<◌, ◌≤◌, List, [], ◌∷◌, ◌++◌, ◌==◌, Bool, true, false, cond, map, Option, Some, None, refl, ap, sym, ◌∙◌, subst, inl, inr, ◌⊎◌, arith}
use Rattle.std.specs.List.{filter}
use Rattle.std.proofs.lemmas.Bool.{cases_Bool, cases_eq, cond-false, cond-true, eq-eqb, false≢true, ne_eqb}
use Rattle.std.proofs.lemmas.Option.{none-some, same_Some}
use Rattle.hm_names.specs.declared.pid.Pid.{Pid}
use Rattle.hm_data.specs.declared.args.Args.{Args}
use Rattle.hm_data.specs.declared.args.Args.TheVariants as args_are
use Rattle.hm_data.specs.declared.call.Told.{Told}
use Rattle.hm_data.specs.declared.call.Told.TheVariants as told_is
use Rattle.hm_data.specs.declared.call.Verb.{Verb}
use Rattle.hm_data.specs.declared.call.Verb.TheVariants as verb_is
use Rattle.hm_data.specs.declared.entry.Entry.TheVariants as entry_is
use Rattle.hm_data.specs.declared.part.Part.{Part}
use Rattle.hm_data.specs.declared.part.Part.TheVariants as part_is
use Rattle.hm_model.specs.Image.{first_made, layout_parts, numbers_of, old_layouts, with_layout}
use Rattle.hm_model.specs.Journal.{Past}
use Rattle.hm_model.specs.Layouts.{is_laid, laid_by, laid_if, layout_called}
use Rattle.hm_model.specs.Locks.{IsIn}
use Rattle.hm_model.specs.Parts.{part_laid}
use Rattle.hm_model.specs.Procedures.{number_at, offset}
use Rattle.hm_model.specs.Reports.{fits_verb, verb_of}
use Rattle.hm_model.specs.Rules.{IsLegal}
use Rattle.hm_model.specs.Tree.{Node, made, node_of, pid_of, root_node, submitted}
use Rattle.hm_model.specs.Verbs.{verb_in}
use Rattle.hm_model.proofs.Grown.{down_new, ends_parted, submit_new}
use Rattle.hm_model.proofs.Parted.{by_parts}
use Rattle.hm_model.proofs.Trees.{does_of, grown_all, le_or_lt, new_child, node_same, old_or_new, root_within, some_of, step_of, undo_rooted}
use Rattle.hm_model.proofs.Small.{in_left, in_right}
use Rattle.hm_kinds.proofs.Laying.{Lays as LaysOwn, child_lays}
use Rattle.hm_costs.proofs.Dead.{IsFollower, follower_is}
use Rattle.hm_rebase.proofs.Bounds.{root_above}
use Rattle.hm_rebase.proofs.Cores.{Core}
use Rattle.hm_rebase.proofs.Putting.{put}
use Rattle.hm_rebase.proofs.Rooting.{Tells}

-- a call to lay out files is about its own root
abbrev Lays : ℕ → Args → Type 0
Lays r (args_are.LayoutCall root) = root.0 ≡ r
Lays r args = Unit {0}

follower_lays : (r : ℕ) (args : Args) → IsFollower args → Lays r args
follower_lays r (args_are.LayoutCall root) h = absurd h
follower_lays r args h = tt

made_lays : (r : ℕ) (args : Args) → LaysOwn r args → Lays r args
made_lays r (args_are.LayoutCall root) h = h
made_lays r args h = tt

-- so is each of a legal journal
all_lay : (J : Past) → IsLegal J → (q : ℕ) (x : Node) → node_of J q ≡ Some x → Lays x.root x.args
all_lay [] legal q x is = absurd (none-some x is)
all_lay (entry_is.Submit nonce request ∷ J) legal q x is = elim (cases_eq q (made J + 1)) [
  | inl same ↦ subst (λ (n : Node). Lays n.root n.args) (same_Some (submitted J request q) x (sym (submit_new nonce request J q same) ∙ is)) tt
  | inr differs ↦ all_lay J legal.0 q x (sym (cond-false (q == made J + 1) (Some (submitted J request q)) (node_of J q) (ne_eqb q (made J + 1) differs)) ∙ is)
]
all_lay (entry_is.Step pid pick out ∷ J) legal q x is = elim (le_or_lt q (made J)) [
  | inl le ↦ all_lay J legal.0 q x (sym (node_same pid pick out J q le) ∙ is)
  | inr lt ↦
      let grown = grown_all J legal.0 in
      let s = step_of pid pick out J grown legal in
      let c = new_child pid pick out J s.node s.node_is q lt x is in
      subst (λ (n : Node). Lays n.root n.args) (sym c.2) (made_lays s.node.root c.0 (child_lays pid pick out J grown s (does_of pid pick out J grown s) (q - made J - 1) c.0 c.1))
]
all_lay (entry_is.Undo pid row out ∷ J) legal q x is =
    let grown = grown_all J legal.0 in
    elim (old_or_new J (entry_is.Undo pid row out ∷ J) (undo_rooted pid row out J grown) grown q x is) [
      | inl old ↦ all_lay J legal.0 q x old
      | inr top ↦ follower_lays x.root x.args (follower_is pid row out J legal q x (grown.numbered q top.4) is)
    ]
all_lay (entry_is.Down server ∷ J) legal q x is = elim (cases_eq q (made J + 1)) [
  | inl same ↦ subst (λ (n : Node). Lays n.root n.args) (same_Some (root_node q (args_are.Crash server) 1) x (sym (down_new server J q same) ∙ is)) tt
  | inr differs ↦ all_lay J legal.0 q x (sym (cond-false (q == made J + 1) (Some (root_node q (args_are.Crash server) 1)) (node_of J q) (ne_eqb q (made J + 1) differs)) ∙ is)
]
all_lay (entry_is.Base part ∷ J) legal q x is = absurd (none-some x is)
all_lay (entry ∷ J) legal q x is = all_lay J legal.0 q x is

-- a layout is there because it was before, or because a report now says so
laid_or : (c : Option ℕ) (t : Option Bool) (root : ℕ) (before : Bool) → laid_if c t root before ≡ true → (before ≡ true) ⊎ ((c ≡ Some root) × (t ≡ Some true))
laid_or None t root before h = inl h
laid_or (Some own) None root before h = inl h
laid_or (Some own) (Some now) root before h = elim (cases_eq own root) [
  | inl same ↦ inr (ap Some same, ap Some (sym (cond-true (own == root) now before (eq-eqb own root same)) ∙ h))
  | inr differs ↦ inl (sym (cond-false (own == root) now before (ne_eqb own root differs)) ∙ h)
]

sweep_not : (p : Pid) (told : Told) → fits_verb (verb_is.Sweep p) told ≡ true → laid_by told ≡ Some true → ⊥
sweep_not p told_is.LaidOut fit is = false≢true fit
sweep_not p told_is.Swept fit is = false≢true (same_Some false true is)
sweep_not p told fit is = none-some true is

-- who reports that a layout is there is a call to make it
told_lays : (args : Args) (told : Told) (root r : ℕ) → Lays r args → layout_called (verb_in args) ≡ Some root → ((verb : Verb) → verb_in args ≡ Some verb → fits_verb verb told ≡ true) → laid_by told ≡ Some true → root ≡ r
told_lays (args_are.LayoutCall p) told root r lays about fits is = sym (same_Some p.0 root about) ∙ lays
told_lays (args_are.SweepLayout p) told root r lays about fits is = absurd (sweep_not p told (fits (verb_is.Sweep p) refl) is)
told_lays args told root r lays about fits is = absurd (none-some root about)

-- what a base says is there it tells as a layout
part_tells : (part : Part) (root : ℕ) (list : List ℕ) (before : Bool) → (before ≡ true → IsIn root list) → part_laid part root before ≡ true → IsIn root (with_layout part list)
part_tells (part_is.Layout pid) root list before old h = elim (cases_eq pid.0 root) [
  | inl same ↦ in_right root list (pid.0 ∷ []) (inl (sym same))
  | inr differs ↦ in_left root list (pid.0 ∷ []) (old (sym (cond-false (pid.0 == root) true before (ne_eqb pid.0 root differs)) ∙ h))
]
part_tells part root list before old h = old h

base_tells : (J : Past) → IsLegal J → ends_parted J ≡ true → (root : ℕ) → is_laid J root ≡ true → IsIn root (old_layouts J)
base_tells [] legal parted root h = absurd (false≢true h)
base_tells (entry_is.Base part ∷ J) legal parted root h =
    part_tells part root (old_layouts J) (is_laid J root) (base_tells J legal.0 (by_parts (λ j. ends_parted j ≡ true) refl (λ o older. refl) part J legal.1.0) root) h
base_tells (entry ∷ J) legal parted root h = absurd (false≢true parted)

-- a root whose layout is there is one of the base's, or was made behind it
abbrev IsKnown : Past → ℕ → Type 0
IsKnown J root = IsIn root (old_layouts J) ⊎ ((offset J < root) × (root ≤ made J))

known_on : (J : Past) (root more : ℕ) → IsKnown J root → IsIn root (old_layouts J) ⊎ ((offset J < root) × (root ≤ made J + more))
known_on J root more (inl old) = inl old
known_on J root more (inr new) = let le = new.1 in inr (new.0, omega (arith, le))

laid_known : (J : Past) → IsLegal J → (root : ℕ) → is_laid J root ≡ true → IsKnown J root
laid_known [] legal root h = absurd (false≢true h)
laid_known (entry_is.Submit nonce request ∷ J) legal root h = known_on J root 1 (laid_known J legal.0 root h)
laid_known (entry_is.Step pid pick out ∷ J) legal root h = known_on J root _ (laid_known J legal.0 root h)
laid_known (entry_is.Undo pid row out ∷ J) legal root h = known_on J root _ (laid_known J legal.0 root h)
laid_known (entry_is.Report call told ∷ J) legal root h = elim (laid_or (layout_called (verb_of J call.0)) (laid_by told) root (is_laid J root) h) [
  | inl before ↦ laid_known J legal.0 root before
  | inr now ↦
      let grown = grown_all J legal.0 in
      let verb = some_of (verb_of J call.0) legal.1.1.0.0 in
      let x = grown.verbs call.0 verb.0 verb.1 in
      let same : verb_of J call.0 ≡ verb_in x.0.args = verb.1 ∙ sym x.2 in
      let own : root ≡ x.0.root = told_lays x.0.args told root x.0.root (all_lay J legal.0 call.0 x.0 x.1) (ap layout_called (sym same) ∙ now.0) (λ v is. legal.1.1.1.0 v (same ∙ is)) now.1 in
      let above = root_above J legal.0 call.0 x.0 x.1 in
      let within = root_within J grown call.0 x.0 x.1 in
      inr (omega (arith, own, above), omega (arith, own, within))
]
laid_known (entry_is.Down server ∷ J) legal root h = known_on J root 1 (laid_known J legal.0 root h)
laid_known (entry_is.Base part ∷ J) legal root h = inl (base_tells (entry_is.Base part ∷ J) legal refl root h)
laid_known (entry ∷ J) legal root h = laid_known J legal.0 root h

-- each number behind the base is among the first so many
pub first_has : (J : Past) (n q : ℕ) → offset J < q → q ≤ offset J + n → IsIn q (first_made J n)
first_has J zero q low high = absurd (omega (arith, low, high))
first_has J (suc n) q low high = elim (cases_eq q (number_at J n)) [
  | inl same ↦ in_right q (first_made J n) (number_at J n ∷ []) (inl same)
  | inr differs ↦ in_left q (first_made J n) (number_at J n ∷ []) (first_has J n q low (omega (arith, high, differs)))
]

pub laid_listed : (J : Past) → IsLegal J → (root : ℕ) → is_laid J root ≡ true → IsIn root (old_layouts J ++ numbers_of J)
laid_listed J legal root h = elim (laid_known J legal root h) [
  | inl old ↦ in_left root (old_layouts J) (numbers_of J) old
  | inr new ↦ let low = new.0 in let high = new.1 in in_right root (old_layouts J) (numbers_of J) (first_has J (made J - offset J) root low (omega (arith, low, high)))
]

-- behind the layouts of the listed roots that pass a test that of a root is there just where it passes
abbrev Tested : (ℕ → Bool) → ℕ → List ℕ → Type 0
Tested test root list =
    (P : Past) → (is_laid P root ≡ test root) ⊎ ((is_laid P root ≡ false) × IsIn root list)
    → is_laid (put P (map (λ n. part_is.Layout (pid_of n)) (filter test list))) root ≡ test root

tested_one : (test : ℕ → Bool) (root n : ℕ) (list : List ℕ) → Tested test root list → Tested test root (n ∷ list)
tested_one test root n list rest P h = by (test n) refl
  where
    by : (b : Bool) → test n ≡ b → is_laid (put P (map (λ k. part_is.Layout (pid_of k)) (cond b (n ∷ filter test list) (filter test list)))) root ≡ test root
    by true on = rest (entry_is.Base (part_is.Layout (pid_of n)) ∷ P) (elim (cases_eq n root) [
      | inl same ↦ inl (cond-true (n == root) true (is_laid P root) (eq-eqb n root same) ∙ sym on ∙ ap test same)
      | inr differs ↦
          let old = cond-false (n == root) true (is_laid P root) (ne_eqb n root differs) in
          elim h [ inl same ↦ inl (old ∙ same) | inr among ↦ inr (old ∙ among.0, elim among.1 [ inl here ↦ absurd (differs (sym here)) | inr later ↦ later ]) ]
    ])
    by false off = rest P (elim h [
      | inl same ↦ inl same
      | inr among ↦ elim among.1 [ inl here ↦ inl (among.0 ∙ sym off ∙ ap test (sym here)) | inr later ↦ inr (among.0, later) ]
    ])

tested : (test : ℕ → Bool) (root : ℕ) (list : List ℕ) → Tested test root list
tested test root [] P (inl same) = same
tested test root [] P (inr among) = absurd among.1
tested test root (n ∷ list) P h = tested_one test root n list (tested test root list) P h

-- parts of roots tell no layouts
pub roots_unlaid : (parts : List Part) (list : List Core) → Tells parts list → (P : Past) (root : ℕ) → is_laid (put P parts) root ≡ is_laid P root
roots_unlaid [] [] tells P root = refl
roots_unlaid (part_is.Root pid nonce args cause ∷ parts) (core ∷ list) tells P root = roots_unlaid parts list tells.1 (entry_is.Base (part_is.Root pid nonce args cause) ∷ P) root
roots_unlaid parts list tells P root = absurd tells

-- behind parts that tell no layouts, those of an image tell the journal's
pub image_laid : (J : Past) → IsLegal J → (P : Past) (root : ℕ) → is_laid P root ≡ false → is_laid (put P (layout_parts J)) root ≡ is_laid J root
image_laid J legal P root none = tested (is_laid J) root (old_layouts J ++ numbers_of J) P (elim (cases_Bool (is_laid J root)) [
  | inl on ↦ inr (none, laid_listed J legal root on)
  | inr off ↦ inl (none ∙ sym off)
])
