-- By which sheets procedures are evaluated: those of the edition of their root, which are of all kinds.
use Rattle.std.proofs.Common.{◌≡◌, ◌≤◌, ℕ, [], ◌∷◌, true, Option, Some, ap, sym, subst, ◌∙◌}
use Rattle.std.proofs.lemmas.Option.{none-some}
use Rattle.hm_names.specs.Server.{Server}
use Rattle.hm_data.specs.declared.entry.Entry.TheVariants as entry_is
use Rattle.hm_data.specs.declared.record.Record.{Record}
use Rattle.hm_data.specs.declared.step.StepIn.{StepIn}
use Rattle.hm_model.specs.Answers.{row_of}
use Rattle.hm_model.specs.Base.{AreSheets, IsBegun}
use Rattle.hm_model.specs.Editions.{edition_of, editions, sheets_in}
use Rattle.hm_model.specs.Inputs.{input}
use Rattle.hm_model.specs.Journal.{Past}
use Rattle.hm_model.specs.Kinds.{kind_of}
use Rattle.hm_model.specs.Records.{record_at, record_of}
use Rattle.hm_model.specs.Rules.{IsLegal}
use Rattle.hm_model.specs.Sheets.{next_row, row_in, sheet_for, sheets_by}
use Rattle.hm_model.specs.Tree.{Node, is_root, is_root_in, is_top, node_of}
use Rattle.hm_model.proofs.Editions.{edition_within, root_has, seen_edition}
use Rattle.hm_model.proofs.RootTrees.{tree_root}
use Rattle.hm_judge.proofs.Found.{there_of}

-- a journal that made a procedure has begun
pub made_begun : (J : Past) (p : ℕ) (node : Node) → node_of J p ≡ Some node → IsBegun J
made_begun [] p node is = absurd (none-some node is)
made_begun (entry_is.Base part ∷ before) p node is = absurd (none-some node is)
made_begun (entry ∷ before) p node is = tt

-- the root of a procedure is one
pub roots_are : (J : Past) → IsLegal J → (p : ℕ) (node : Node) → node_of J p ≡ Some node → is_root J node.root ≡ true
roots_are J legal p node is = let top = tree_root J legal p node is in ap is_root_in top.1 ∙ ap is_top top.2

-- so its sheets are of all kinds
pub all_kinds_by : (J : Past) → IsLegal J → (p : ℕ) (node : Node) → node_of J p ≡ Some node → AreSheets (sheets_by J node.root)
all_kinds_by J legal p node is = (root_has J legal node.root (roots_are J legal p node is)).1

-- and those of its edition
own_edition : (J : Past) → IsLegal J → (p : ℕ) (node : Node) → node_of J p ≡ Some node → sheets_by J node.root ≡ sheets_in J (edition_of J node.root)
own_edition J legal p node is = (root_has J legal node.root (roots_are J legal p node is)).0

-- the edition that is shown of a procedure is one of the journal's
pub shown_within : (J : Past) (p : ℕ) (its : Record) → Some its ≡ record_of J p → its.edition ≤ editions J
shown_within J p its some =
    let there = there_of J p its some in
    subst (λ (r : Record). r.edition ≤ editions J) (sym there.2) (edition_within J there.0.root)

-- the row that a procedure runs next, as it is shown, is of the sheets of that edition
pub next_is : (J : Past) → IsLegal J → (p : ℕ) (its : Record) (x : Node) → node_of J p ≡ Some x → its ≡ record_at J p x → next_row J p x ≡ row_in (sheet_for (sheets_in J its.edition) its.kind) its.row
next_is J legal p its x is shown =
    ap (λ sheets. row_in (sheet_for sheets (kind_of x.args)) (row_of J p x)) (own_edition J legal p x is)
    ∙ ap (λ (r : Record). row_in (sheet_for (sheets_in J r.edition) r.kind) r.row) (sym shown)

-- the sheets of a procedure are those of the edition that the next call of its handler sees
pub seen_sheets : (J : Past) → IsLegal J → (p : ℕ) (node : Node) → node_of J p ≡ Some node → (pick : Option Server) (at : StepIn) → at ≡ input J p node pick → sheets_by J node.root ≡ sheets_in J at.edition
seen_sheets J legal p node is pick at sees =
    own_edition J legal p node is ∙ ap (sheets_in J) (sym (ap (λ (seen : StepIn). seen.edition) sees ∙ seen_edition J p node pick))
