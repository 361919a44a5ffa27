-- The procedures as callers see them.
use Rattle.std.specs.Prelude.{◌≡◌, ℕ, zero, suc, ◌+◌, ◌<◌, List, [], ◌∷◌, ◌++◌, Bool, true, false, not, ◌&&◌, Option, Some, None, is_some, filter, map, if◌then◌else◌}
use Rattle.hm_names.specs.declared.pid.Pid.{Pid}
use Rattle.hm_model.specs.Counts.{count_below}
use Rattle.hm_model.specs.Journal.{Past}
use Rattle.hm_model.specs.Phase.{child_in, ended}
use Rattle.hm_model.specs.Pieces.{numbers_from}
use Rattle.hm_model.specs.Tree.{is_root, made, node_of, pid_of}

-- the journal, back from its newest entry, for how many procedures more there is room, and how much memory there is
pub record ProceduresView : Type 0 where
  pub past : Past
  pub spare : ℕ
  pub room : ℕ

-- the roots, in the order of their numbers
abbrev pub roots : Past → List Pid
roots past = map pid_of (filter (is_root past) (numbers_from 1 (made past)))

-- the children of a procedure among those below a number
abbrev pub children_below : Past → ℕ → ℕ → List Pid
children_below past p zero = []
children_below past p (suc n) = children_below past p n ++ (if child_in p (node_of past n) then pid_of n ∷ [] else [])

-- the children of a procedure, in the order of their numbers
abbrev pub children : Past → ℕ → List Pid
children past p = children_below past p (made past + 1)

-- it is there, and hasn't ended
abbrev pub is_unfinished : Past → ℕ → Bool
is_unfinished past q = is_some (node_of past q) && not (ended past q)

-- how many procedures haven't ended, roots and descendants
abbrev pub unfinished_procedures : Past → ℕ
unfinished_procedures past = count_below (is_unfinished past) (made past + 1)

-- the next child of a procedure after a number
abbrev pub IsNextChild : Past → ℕ → ℕ → Option Pid → Type 0
IsNextChild past p low None = (q : ℕ) → low < q → child_in p (node_of past q) ≡ false
IsNextChild past p low (Some next) =
    (low < next.0) × (child_in p (node_of past next.0) ≡ true) × ((q : ℕ) → low < q → q < next.0 → child_in p (node_of past q) ≡ false)
