-- The calls of a legal journal and their reports, whatever the kinds: laws.
use Rattle.std.specs.Prelude.{Some, true, ℕ, ◌∷◌, ◌≡◌}
use Rattle.hm_data.specs.declared.call.Told.{Told}
use Rattle.hm_data.specs.declared.call.Verb.{Verb}
use Rattle.hm_data.specs.declared.entry.Entry.{Entry}
use Rattle.hm_model.specs.Answers.{report_of}
use Rattle.hm_model.specs.Journal.{Past}
use Rattle.hm_model.specs.Reports.{fits_verb, verb_of}
use Rattle.hm_model.specs.Rules.{IsLegal}
use Rattle.hm_model.specs.Tree.{Node, node_of}
use Rattle.hm_model.specs.Verbs.{verb_in}

-- the verb of a call is its procedure's
abbrev pub CallsAreOwn : Type 0
CallsAreOwn =
    (J : Past) → IsLegal J → (p : ℕ) (verb : Verb) → verb_of J p ≡ Some verb
    → (node : Node) × (node_of J p ≡ Some node) × (verb_in node.args ≡ Some verb)

-- and never changes
abbrev pub CallsStay : Type 0
CallsStay =
    (entry : Entry) (before : Past) → IsLegal (entry ∷ before)
    → (p : ℕ) (verb : Verb) → verb_of before p ≡ Some verb → verb_of (entry ∷ before) p ≡ Some verb

-- a report fits its call's verb
abbrev pub ReportsFit : Type 0
ReportsFit =
    (J : Past) → IsLegal J → (p : ℕ) (told : Told) → report_of J p ≡ Some told
    → (verb : Verb) × (verb_of J p ≡ Some verb) × (fits_verb verb told ≡ true)
