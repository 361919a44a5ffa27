-- The calls of a legal journal, and their reports.
use Rattle.hm_model.proofs.Parted.{no_node}
use Rattle.std.proofs.Common.{None, Option, Some, ap, inl, inr, sym, true, ℕ, ◌==◌, ◌∙◌, ◌∷◌, ◌≡◌, ◌≢◌}
use Rattle.std.specs.Option.{option_or}
use Rattle.std.proofs.lemmas.Bool.{cases_eq, cond-false, cond-true, eq-eqb, ne_eqb}
use Rattle.std.proofs.lemmas.Option.{none-some, same_Some}
use Rattle.hm_data.specs.declared.call.Told.{Told}
use Rattle.hm_names.specs.Region.{Region}
use Rattle.hm_data.specs.declared.call.Verb.{Verb}
use Rattle.hm_data.specs.declared.call.Verb.TheVariants as verb_is
use Rattle.hm_data.specs.declared.entry.Entry.{Entry}
use Rattle.hm_data.specs.declared.entry.Entry.TheVariants as entry_is
use Rattle.hm_model.specs.Answers.{report_of}
use Rattle.hm_model.specs.Journal.{Past}
use Rattle.hm_model.specs.Reports.{fits_verb, verb_of}
use Rattle.hm_model.specs.Rules.{IsLegal}
use Rattle.hm_model.specs.Tree.{Node, node_of}
use Rattle.hm_model.specs.Verbs.{verb_in}
use Rattle.hm_model.proofs.Grown.{nodes_stay}
use Rattle.hm_model.proofs.Trees.{grown_all, some_of}

-- to open a region is not to close it
pub open_close : (r : Region) → verb_is.AssignRegion r ≡ verb_is.CloseRegion r → ⊥
open_close r e = cc

-- the verb of a call is its procedure's
pub calls_own : (J : Past) → IsLegal J → (p : ℕ) (verb : Verb) → verb_of J p ≡ Some verb → (node : Node) × (node_of J p ≡ Some node) × (verb_in node.args ≡ Some verb)
calls_own J legal = (grown_all J legal).verbs

-- a call stays one
called_on : (entry : Entry) (before : Past) → IsLegal (entry ∷ before) → (p : ℕ) (verb : Verb) → verb_of before p ≡ Some verb → verb_of (entry ∷ before) p ≢ None
called_on (entry_is.Step pid pick out) before legal p verb is none = elim (cases_eq p pid.0) [
  | inl same ↦ by out.call (sym none ∙ cond-true (p == pid.0) (option_or out.call (verb_of before p)) (verb_of before p) (eq-eqb p pid.0 same) ∙ ap (option_or out.call) is)
  | inr differs ↦ none-some verb (sym none ∙ cond-false (p == pid.0) (option_or out.call (verb_of before p)) (verb_of before p) (ne_eqb p pid.0 differs) ∙ is)
]
  where
    by : (o : Option Verb) → None ≡ option_or o (Some verb) → ⊥
    by None e = none-some verb e
    by (Some x) e = none-some x e
called_on (entry_is.Base part) before legal p verb is none = let own = calls_own before legal.0 p verb is in none-some own.0 (sym (no_node part before legal.1.0 p) ∙ own.1)
called_on entry before legal p verb is none = none-some verb (sym none ∙ is)

-- and its verb never changes
pub calls_stay : (entry : Entry) (before : Past) → IsLegal (entry ∷ before) → (p : ℕ) (verb : Verb) → verb_of before p ≡ Some verb → verb_of (entry ∷ before) p ≡ Some verb
calls_stay entry before legal p verb is =
    let now = some_of (verb_of (entry ∷ before) p) (called_on entry before legal p verb is) in
    let was = calls_own before legal.0 p verb is in
    let own = calls_own (entry ∷ before) legal p now.0 now.1 in
    let same : own.0 ≡ was.0 = same_Some own.0 was.0 (sym own.1 ∙ nodes_stay entry before legal p was.0 was.1) in
    now.1 ∙ sym own.2 ∙ ap (λ n. verb_in n.args) same ∙ was.2

-- a report fits its call's verb
pub reports_fit : (J : Past) → IsLegal J → (p : ℕ) (told : Told) → report_of J p ≡ Some told → (verb : Verb) × (verb_of J p ≡ Some verb) × (fits_verb verb told ≡ true)
reports_fit J legal = (grown_all J legal).fits
