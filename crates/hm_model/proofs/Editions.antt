-- What journals keep of the sheets that were adopted.
use Rattle.std.proofs.Common.{◌≡◌, ◌<◌, ◌≤◌, ◌+◌, ◌-◌, ℕ, List, [], ◌∷◌, Bool, true, false, Option, Some, None, ◌==◌, nat_lt, cond, option_map, refl, ap, sym, ◌∙◌, subst, inl, inr, arith, slice_get}
use Rattle.std.proofs.lemmas.Bool.{cases_Bool, cases_eq, cond-false, cond-true, eq-eqb, false≢true, lt-ltb, ne_eqb}
use Rattle.hm_data.specs.declared.args.Args.{Args}
use Rattle.hm_data.specs.declared.args.Args.TheVariants as args_are
use Rattle.hm_data.specs.declared.entry.Entry.{Entry}
use Rattle.hm_data.specs.declared.entry.Entry.TheVariants as entry_is
use Rattle.hm_data.specs.declared.part.Part.{Part}
use Rattle.hm_data.specs.declared.part.Part.TheVariants as part_is
use Rattle.hm_data.specs.declared.sheet.Sheet.{Sheet}
use Rattle.hm_data.specs.declared.step.StepIn.{StepIn}
use Rattle.hm_names.specs.Server.{Server}
use Rattle.hm_model.specs.Base.{AreSheets, IsBegun, PartFits}
use Rattle.hm_model.specs.Editions.{edition_of, editions, sheets_in}
use Rattle.hm_model.specs.Inputs.{input, step_input, turn_input, undo_input, undoes}
use Rattle.hm_model.specs.Journal.{Past}
use Rattle.hm_model.specs.Rules.{IsLegal}
use Rattle.hm_model.specs.Sheets.{sheets_by, sheets_of}
use Rattle.hm_model.specs.Tree.{Node, args_in, children_of, is_root, is_root_in, made, node_of, root_node, submitted}
use Rattle.hm_model.specs.Undo.{Undoable, stack}
use Rattle.hm_model.proofs.Grown.{begun_some, grown_all, sheets_are}
use Rattle.hm_model.proofs.Parted.{by_parts}
use Rattle.hm_model.proofs.RootSheets.{not_next}

if_within : (new : Bool) (now was last : ℕ) → now ≤ last → was ≤ last → cond new now was ≤ last
if_within true now was last is own = is
if_within false now was last is own = own

-- the edition of a root is one of the journal's
pub edition_within : (J : Past) (root : ℕ) → edition_of J root ≤ editions J
edition_within [] root = omega arith
edition_within (entry_is.Submit nonce request ∷ before) root = if_within (root == made before + 1) (editions before) (edition_of before root) (editions before) (omega arith) (edition_within before root)
edition_within (entry_is.Undo pid row out ∷ before) root = if_within (nat_lt (made before) root) (editions before) (edition_of before root) (editions before) (omega arith) (edition_within before root)
edition_within (entry_is.Down server ∷ before) root = if_within (root == made before + 1) (editions before) (edition_of before root) (editions before) (omega arith) (edition_within before root)
edition_within (entry_is.Adopt sheets ∷ before) root = let le = edition_within before root in omega (arith, le)
edition_within (entry_is.Base part ∷ before) root = omega arith
edition_within (entry ∷ before) root = edition_within before root

-- the sheets in force are those of the last edition
pub last_in_force : (J : Past) → sheets_in J (editions J) ≡ sheets_of J
last_in_force [] = refl
last_in_force (entry_is.Start sheets ∷ before) = refl
last_in_force (entry_is.Adopt sheets ∷ before) = cond-true (editions before + 1 == editions before + 1) sheets (sheets_in before (editions before + 1)) (eq-eqb (editions before + 1) (editions before + 1) refl)
last_in_force (entry_is.Base part ∷ before) = refl
last_in_force (entry ∷ before) = last_in_force before

based : (part : Part) (J : Past) → PartFits part J → IsBegun J → (edition : ℕ) → sheets_of J ≡ sheets_in J edition
based = by_parts (λ J. IsBegun J → (edition : ℕ) → sheets_of J ≡ sheets_in J edition) (λ begun edition. absurd begun) (λ own older begun edition. refl)

part_keeps : (part : Part) (J : Past) → PartFits part J → IsBegun J → (edition : ℕ) → sheets_of (entry_is.Base part ∷ J) ≡ sheets_in J edition
part_keeps (part_is.Head entries last parts sheets) J fits begun edition = absurd (subst IsBegun fits.0 begun)
part_keeps part J fits begun edition = based part J fits begun edition

-- the sheets of an edition stay
pub edition_keeps : (entry : Entry) (J : Past) → IsLegal (entry ∷ J) → IsBegun J → (edition : ℕ) → edition ≤ editions J → sheets_in (entry ∷ J) edition ≡ sheets_in J edition
edition_keeps (entry_is.Start sheets) J legal begun edition le = absurd (subst IsBegun legal.1.0.0 begun)
edition_keeps (entry_is.Adopt sheets) J legal begun edition le = cond-false (edition == editions J + 1) sheets (sheets_in J edition) (not_next edition (editions J) le)
edition_keeps (entry_is.Base part) J legal begun edition le = part_keeps part J legal.1.0 begun edition
edition_keeps entry J legal begun edition le = refl

-- they are sheets of all kinds
pub editions_are : (J : Past) → IsLegal J → IsBegun J → (edition : ℕ) → edition ≤ editions J → AreSheets (sheets_in J edition)
editions_are [] legal begun edition le = absurd begun
editions_are (entry_is.Start sheets ∷ before) legal begun edition le = legal.1.0.1
editions_are (entry_is.Adopt sheets ∷ before) legal begun edition le = elim (cases_eq edition (editions before + 1)) [
  | inl last ↦ rw (eq-eqb edition (editions before + 1) last) legal.1.1.0.0
  | inr differs ↦ rw (ne_eqb edition (editions before + 1) differs) (editions_are before legal.0 legal.1.0 edition (omega (arith, le, differs)))
]
editions_are (entry_is.Base part ∷ before) legal begun edition le = sheets_are (entry_is.Base part ∷ before) legal (λ none. cc)
editions_are (entry ∷ before) legal begun edition le = editions_are before legal.0 legal.1.0 edition le

-- these are the sheets of an edition, and of all kinds
abbrev Has : List Sheet → Past → ℕ → Type 0
Has sheets J edition = (sheets ≡ sheets_in J edition) × AreSheets sheets

has_if : (new : Bool) (J : Past) (root : ℕ) → IsLegal J → IsBegun J → (new ≡ false → Has (sheets_by J root) J (edition_of J root)) → Has (cond new (sheets_of J) (sheets_by J root)) J (cond new (editions J) (edition_of J root))
has_if true J root legal begun was = (sym (last_in_force J), sheets_are J legal (begun_some J begun))
has_if false J root legal begun was = was refl

child_below : (pid : ℕ) (up : Option Node) (args : Option Args) → is_root_in (children_of pid up args) ≡ true → ⊥
child_below pid None args is = false≢true is
child_below pid (Some up) None is = false≢true is
child_below pid (Some up) (Some args) is = false≢true is

-- a root is made in the edition in force
module _ (before : Past) (legal : IsLegal before) (root : ℕ) (lt : made before < root) where
  nobody : is_root_in (node_of before root) ≡ true → ⊥
  nobody is = false≢true (sym (ap is_root_in ((grown_all before legal).numbered root lt)) ∙ is)

  next_made : (node : Node) (now was : List Sheet) (last own : ℕ) → is_root_in (cond (root == made before + 1) (Some node) (node_of before root)) ≡ true → (cond (root == made before + 1) now was ≡ now) × (cond (root == made before + 1) last own ≡ last)
  next_made node now was last own is = elim (cases_Bool (root == made before + 1)) [
    | inl new ↦ (cond-true (root == made before + 1) now was new, cond-true (root == made before + 1) last own new)
    | inr old ↦ absurd (nobody (ap is_root_in (sym (cond-false (root == made before + 1) (Some node) (node_of before root) old)) ∙ is))
  ]

pub made_in_force : (entry : Entry) (before : Past) → IsLegal (entry ∷ before) → (root : ℕ) → made before < root → is_root (entry ∷ before) root ≡ true
    → (sheets_by (entry ∷ before) root ≡ sheets_of before) × (edition_of (entry ∷ before) root ≡ editions before)
made_in_force (entry_is.Submit nonce request) before legal root lt is = next_made before legal.0 root lt (submitted before request root) (sheets_of before) (sheets_by before root) (editions before) (edition_of before root) is
made_in_force (entry_is.Step pid pick out) before legal root lt is =
    let args = slice_get (args_in out.children) (root - made before - 1) in
    absurd (child_below pid.0 (node_of before pid.0) args (ap is_root_in (sym (cond-true (nat_lt (made before) root) (children_of pid.0 (node_of before pid.0) args) (node_of before root) (lt-ltb (made before) root lt))) ∙ is))
made_in_force (entry_is.Undo pid row out) before legal root lt is =
    let new = lt-ltb (made before) root lt in
    (cond-true (nat_lt (made before) root) (sheets_of before) (sheets_by before root) new, cond-true (nat_lt (made before) root) (editions before) (edition_of before root) new)
made_in_force (entry_is.Down server) before legal root lt is = next_made before legal.0 root lt (root_node root (args_are.Crash server) 1) (sheets_of before) (sheets_by before root) (editions before) (edition_of before root) is
made_in_force (entry_is.Base part) before legal root lt is = absurd (false≢true is)
made_in_force entry before legal root lt is = absurd (nobody before legal.0 root lt is)

-- what a step, or what undoes one, sees
pub seen_edition : (J : Past) (p : ℕ) (node : Node) (pick : Option Server) → (let seen = input J p node pick in seen.edition) ≡ edition_of J node.root
seen_edition J p node pick = by (undoes J p node) (stack J p)
  where
    by : (undoing : Bool) (steps : List Undoable) → (let seen = turn_input J undoing steps (step_input J p node pick) in seen.edition) ≡ edition_of J node.root
    by false steps = refl
    by true [] = refl
    by true (latest ∷ below) = its (node_of J latest.pid)
      where
        its : (o : Option Node) → (let seen = elim o as (λ n. StepIn) [ None ↦ step_input J p node pick | Some own ↦ undo_input latest own (step_input J p node pick) ] in seen.edition) ≡ edition_of J node.root
        its None = refl
        its (Some own) = refl

-- the sheets of a root are those of its edition
pub root_has : (J : Past) → IsLegal J → (root : ℕ) → is_root J root ≡ true → Has (sheets_by J root) J (edition_of J root)
root_has [] legal root is = absurd (false≢true is)
root_has (entry_is.Start sheets ∷ before) legal root is = absurd (false≢true (sym (ap (λ j. is_root j root) legal.1.0.0) ∙ is))
root_has (entry_is.Submit nonce request ∷ before) legal root is =
    has_if (root == made before + 1) before root legal.0 legal.1.0 (λ old. root_has before legal.0 root (ap is_root_in (sym (cond-false (root == made before + 1) (Some (submitted before request root)) (node_of before root) old)) ∙ is))
root_has (entry_is.Step pid pick out ∷ before) legal root is =
    let child = children_of pid.0 (node_of before pid.0) (slice_get (args_in out.children) (root - made before - 1)) in
    elim (cases_Bool (nat_lt (made before) root)) [
      | inl new ↦ absurd (child_below pid.0 (node_of before pid.0) (slice_get (args_in out.children) (root - made before - 1)) (ap is_root_in (sym (cond-true (nat_lt (made before) root) child (node_of before root) new)) ∙ is))
      | inr old ↦ root_has before legal.0 root (ap is_root_in (sym (cond-false (nat_lt (made before) root) child (node_of before root) old)) ∙ is)
    ]
root_has (entry_is.Undo pid row out ∷ before) legal root is =
    has_if (nat_lt (made before) root) before root legal.0 legal.1.0 (λ old. root_has before legal.0 root (ap is_root_in (sym (cond-false (nat_lt (made before) root) (option_map (λ args. root_node root args 1) (slice_get (args_in out.followers) (root - made before - 1))) (node_of before root) old)) ∙ is))
root_has (entry_is.Down server ∷ before) legal root is =
    has_if (root == made before + 1) before root legal.0 legal.1.0 (λ old. root_has before legal.0 root (ap is_root_in (sym (cond-false (root == made before + 1) (Some (root_node root (args_are.Crash server) 1)) (node_of before root) old)) ∙ is))
root_has (entry_is.Adopt sheets ∷ before) legal root is =
    let was = root_has before legal.0 root is in
    let edition = edition_of before root in
    (was.0 ∙ sym (cond-false (edition == editions before + 1) sheets (sheets_in before edition) (not_next edition (editions before) (edition_within before root))), was.1)
root_has (entry_is.Base part ∷ before) legal root is = absurd (false≢true is)
root_has (entry ∷ before) legal root is = root_has before legal.0 root is
