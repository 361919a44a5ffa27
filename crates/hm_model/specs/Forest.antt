-- How the procedures of a legal journal stand in their trees, whatever their kinds: laws.
use Rattle.std.specs.Prelude.{List, Option, Some, [], false, true, ℕ, ◌<◌, ◌∷◌, ◌≡◌, ◌≢◌}
use Rattle.hm_data.specs.declared.answer.Answer.{Answer}
use Rattle.hm_data.specs.declared.answer.Answer.TheVariants as answer_is
use Rattle.hm_data.specs.declared.entry.Entry.{Entry}
use Rattle.hm_model.specs.Answers.{is_aborted, is_stopped, last_answer}
use Rattle.hm_model.specs.Journal.{Past}
use Rattle.hm_model.specs.Rules.{IsLegal}
use Rattle.hm_model.specs.Tree.{Node, is_root, node_of}

-- the last answer waits for children
abbrev pub IsWait : Option Answer → Type 0
IsWait last = (next : ℕ) × (last ≡ Some (answer_is.Wait next))

-- ancestors stand where a procedure says, up to its root, which is its own; each was made before its children
abbrev pub Stands : Past → ℕ → List ℕ → ℕ → Type 0
Stands J p [] root = root ≡ p
Stands J p (up ∷ above) root =
    (parent : Node) × (node_of J up ≡ Some parent) × (parent.above ≡ above) × (parent.root ≡ root) × (up < p)

-- the root of a procedure is there, and is a root
pub record HasRoot (J : Past) (node : Node) : Type 0 where
  pub root : Node
  pub there : node_of J node.root ≡ Some root
  pub at_top : root.above ≡ []
  pub own : root.root ≡ node.root

-- trees: ancestors stand; whose last step didn't end it has a parent that waits, and only roots are aborted
pub record IsForest (J : Past) : Type 0 where
  pub stands : (p : ℕ) (node : Node) → node_of J p ≡ Some node → Stands J p node.above node.root
  pub waits : (p : ℕ) (node : Node) (up : ℕ) (above : List ℕ)
      → node_of J p ≡ Some node → node.above ≡ up ∷ above → is_stopped (last_answer J p) ≡ false → IsWait (last_answer J up)
  pub aborted : (p : ℕ) → is_aborted J p ≡ true → is_root J p ≡ true

-- each legal journal's procedures stand in trees
abbrev pub AllForest : Type 0
AllForest = (J : Past) → IsLegal J → IsForest J

-- each procedure has a root
abbrev pub AllRooted : Type 0
AllRooted = (J : Past) → IsLegal J → (p : ℕ) (node : Node) → node_of J p ≡ Some node → HasRoot J node

-- while a descendant goes on, its root waits
abbrev pub RootsWait : Type 0
RootsWait =
    (J : Past) → IsLegal J → (p : ℕ) (node : Node) → node_of J p ≡ Some node → node.above ≢ []
    → is_stopped (last_answer J p) ≡ false → IsWait (last_answer J node.root)

-- what was made stays as it is
abbrev pub NodesStay : Type 0
NodesStay =
    (entry : Entry) (before : Past) → IsLegal (entry ∷ before)
    → (p : ℕ) (node : Node) → node_of before p ≡ Some node → node_of (entry ∷ before) p ≡ Some node
