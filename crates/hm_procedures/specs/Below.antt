-- The descendants that haven't ended.
use Rattle.std.specs.Prelude.{ℕ, ◌+◌, Bool, false, not, ◌&&◌, Option, Some, None}
use Rattle.hm_model.specs.Answers.{is_stopped, last_answer}
use Rattle.hm_model.specs.Counts.{count_below}
use Rattle.hm_model.specs.Journal.{Past}
use Rattle.hm_model.specs.Tree.{Node, is_top, made, node_of}

-- it is there, and a descendant
abbrev pub is_below : Option Node → Bool
is_below None = false
is_below (Some node) = not (is_top node.above)

-- q is a descendant that hasn't ended
abbrev pub is_open_below : Past → ℕ → Bool
is_open_below past q = is_below (node_of past q) && not (is_stopped (last_answer past q))

-- how many descendants haven't ended
abbrev pub open_below : Past → ℕ
open_below past = count_below (is_open_below past) (made past + 1)
