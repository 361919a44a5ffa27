-- How many children and descendants haven't ended, and how each entry of a legal journal changes that: laws.
use Rattle.std.specs.Prelude.{Bool, false, if◌then◌else◌, length, not, ℕ, ◌&&◌, ◌+◌, ◌==◌, ◌∷◌, ◌≡◌}
use Rattle.hm_data.specs.declared.entry.Entry.{Entry}
use Rattle.hm_data.specs.declared.entry.Entry.TheVariants as entry_is
use Rattle.hm_model.specs.Answers.{is_stop, is_stopped, last_answer}
use Rattle.hm_model.specs.Counts.{count_below, one_if}
use Rattle.hm_model.specs.Journal.{Past}
use Rattle.hm_model.specs.Phase.{all_stopped, child_in, children_ended, in_tree}
use Rattle.hm_model.specs.Rules.{IsLegal}
use Rattle.hm_model.specs.Tree.{args_in, made, node_of}

-- q is a child of p that hasn't ended
abbrev pub is_open_child : Past → ℕ → ℕ → Bool
is_open_child J p q = child_in p (node_of J q) && not (is_stopped (last_answer J q))

-- how many children of a procedure haven't ended
abbrev pub open_children : Past → ℕ → ℕ
open_children J p = count_below (is_open_child J p) (made J + 1)

-- q is a descendant of the root r that hasn't ended
abbrev pub is_open_under : Past → ℕ → ℕ → Bool
is_open_under J r q = in_tree r (node_of J q) && (not (q == r) && not (is_stopped (last_answer J q)))

-- how many descendants of a root haven't ended
abbrev pub open_under : Past → ℕ → ℕ
open_under J r = count_below (is_open_under J r) (made J + 1)

-- how many procedures a step makes, and none by any other entry
abbrev pub children_made : Entry → ℕ
children_made (entry_is.Step pid pick out) = length (args_in out.children)
children_made entry = 0

-- who steps passes a test, 0 where nobody does
abbrev pub steps_one : (ℕ → Bool) → Entry → Bool
steps_one test (entry_is.Step pid pick out) = test pid.0
steps_one test entry = false

-- who steps passes a test and ends by it
abbrev pub ends_one : (ℕ → Bool) → Entry → Bool
ends_one test (entry_is.Step pid pick out) = test pid.0 && is_stop out.answer
ends_one test entry = false

-- what an entry adds to a count: the procedures that a step makes of one that passes the test
abbrev pub added : (ℕ → Bool) → Entry → ℕ
added test entry = if steps_one test entry then children_made entry else 0

-- no child is open exactly where all have ended
abbrev pub OpenChildrenTell : Type 0
OpenChildrenTell = (J : Past) (p : ℕ) → children_ended J p ≡ (open_children J p == 0)

-- a step of p adds its children, and the end of a child takes one
abbrev pub OpenChildrenChange : Type 0
OpenChildrenChange =
    (entry : Entry) (before : Past) → IsLegal (entry ∷ before) → (p : ℕ)
    → open_children (entry ∷ before) p + one_if (ends_one (λ q. child_in p (node_of before q)) entry)
    ≡ open_children before p + added (λ q. q == p) entry

-- no descendant is open exactly where all have ended
abbrev pub OpenUnderTell : Type 0
OpenUnderTell = (J : Past) (r : ℕ) → all_stopped J r ≡ (open_under J r == 0)

-- a step in the tree adds its children, and the end of a descendant takes one
abbrev pub OpenUnderChange : Type 0
OpenUnderChange =
    (entry : Entry) (before : Past) → IsLegal (entry ∷ before) → (r : ℕ)
    → open_under (entry ∷ before) r + one_if (ends_one (λ q. in_tree r (node_of before q) && not (q == r)) entry)
    ≡ open_under before r + added (λ q. in_tree r (node_of before q)) entry
