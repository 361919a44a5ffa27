-- What an entry of a legal journal leaves alone of other trees, whatever the kinds: laws.
use Rattle.std.specs.Prelude.{Some, [], ℕ, ◌+◌, ◌∷◌, ◌≡◌, ◌≢◌}
use Rattle.hm_data.specs.declared.entry.Entry.{Entry}
use Rattle.hm_data.specs.declared.entry.Entry.TheVariants as entry_is
use Rattle.hm_model.specs.Answers.{is_aborted, last_answer, report_of}
use Rattle.hm_model.specs.Catalog.{was}
use Rattle.hm_model.specs.Journal.{Past}
use Rattle.hm_model.specs.Phase.{all_stopped, cause, children_ended, ended, phase}
use Rattle.hm_model.specs.Places.{tries_of}
use Rattle.hm_model.specs.Reports.{verb_of}
use Rattle.hm_model.specs.Rules.{IsLegal}
use Rattle.hm_model.specs.Tree.{Node, made, node_of, root_of}
use Rattle.hm_model.specs.Undo.{stack}

-- the root of the tree that an entry belongs to, 0 where it belongs to none. The followers of an undo are trees of
-- their own.
abbrev pub tree_of : Past → Entry → ℕ
tree_of before (entry_is.Submit nonce request) = made before + 1
tree_of before (entry_is.Step pid pick out) = root_of before pid.0
tree_of before (entry_is.Undo pid row out) = root_of before pid.0
tree_of before (entry_is.Report call told) = root_of before call.0
tree_of before (entry_is.Down server) = made before + 1
tree_of before (entry_is.Abort pid) = root_of before pid.0
tree_of before entry = 0

-- what is told of a procedure is the same
pub record IsSame (J J' : Past) (p : ℕ) : Type 0 where
  pub last : last_answer J' p ≡ last_answer J p
  pub verb : verb_of J' p ≡ verb_of J p
  pub report : report_of J' p ≡ report_of J p
  pub aborted : is_aborted J' p ≡ is_aborted J p
  pub tries : tries_of J' p ≡ tries_of J p

-- the tree of a root has the same procedures, of which the same is told, and the same of the whole tree
pub record IsSameTree (J J' : Past) (s : ℕ) : Type 0 where
  pub members : (p : ℕ) (node : Node) → node_of J' p ≡ Some node → node.root ≡ s → node_of J p ≡ Some node
  pub same : (p : ℕ) (node : Node) → node_of J p ≡ Some node → node.root ≡ s → IsSame J J' p
  pub cause_is : cause J' s ≡ cause J s
  pub stack_is : stack J' s ≡ stack J s
  pub was_is : was J' s ≡ was J s
  pub stopped : all_stopped J' s ≡ all_stopped J s
  pub children : (p : ℕ) (node : Node) → node_of J p ≡ Some node → node.root ≡ s → children_ended J' p ≡ children_ended J p
  pub phases : (p : ℕ) (node : Node) → node_of J p ≡ Some node → node.root ≡ s → phase J' p node ≡ phase J p node
  pub ends : (p : ℕ) (node : Node) → node_of J p ≡ Some node → node.root ≡ s → ended J' p ≡ ended J p

-- an entry leaves each other tree alone
abbrev pub OthersStay : Type 0
OthersStay =
    (entry : Entry) (before : Past) → IsLegal (entry ∷ before)
    → (s : ℕ) (top : Node) → node_of before s ≡ Some top → top.above ≡ [] → s ≢ tree_of before entry
    → IsSameTree before (entry ∷ before) s
