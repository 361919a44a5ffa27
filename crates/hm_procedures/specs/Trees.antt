-- The procedures in their trees.
use Rattle.std.specs.Prelude.{◌≡◌, ℕ, ◌+◌, ◌-◌, ◌<◌, ◌≤◌, ◌==◌, List, [], ◌∷◌, Bool, map, Option, Some, None, if◌then◌else◌, slice_get}
use Rattle.hm_names.specs.declared.pid.Pid.{Pid}
use Rattle.hm_procedures.specs.declared.trees.Member.{Member}

-- the number before that of the first procedure, the root of each, for how many more there is room, and how much memory there is
pub record TreesView : Type 0 where
  pub from : ℕ
  pub roots : List Pid
  pub spare : ℕ
  pub room : ℕ

-- the roots of members
abbrev pub roots_of : List Member → List Pid
roots_of members = map (λ member. member.root) members

-- the roots among procedures that are numbered from p on, by the root of each: those that are their own
abbrev pub tops_from : ℕ → List Pid → List Pid
tops_from p [] = []
tops_from p (root ∷ roots) = if root.0 == p then root ∷ tops_from (p + 1) roots else tops_from (p + 1) roots

-- the next procedure of a root's tree after the one at a place, where there is one; the first has the number after `from`
abbrev pub IsNext : ℕ → List Pid → Pid → ℕ → Option Pid → Type 0
IsNext from roots root place None = (i : ℕ) → place < i → slice_get roots i ≡ Some root → ⊥
IsNext from roots root place (Some next) =
    (from + place + 1 < next.0) × (slice_get roots (next.0 - from - 1) ≡ Some root)
    × ((i : ℕ) → place < i → from + i + 1 < next.0 → slice_get roots i ≡ Some root → ⊥)

-- the last procedure of a root's tree
abbrev pub IsLast : ℕ → List Pid → Pid → Pid → Type 0
IsLast from roots root last =
    (from < last.0) × (slice_get roots (last.0 - from - 1) ≡ Some root) × ((i : ℕ) → last.0 ≤ from + i → slice_get roots i ≡ Some root → ⊥)

-- with this one as the next
abbrev pub nexted : Bool → Pid → Member → Member
nexted own next member = record member { next = if own then Some next else member.next }

-- with this one as the last of its tree
abbrev pub lasted : Bool → Pid → Member → Member
lasted own last member = record member { last = if own then last else member.last }

-- each procedure leads to the next of its tree, and each root, which is numbered first, to the last
pub record AreLinked (from : ℕ) (members : List Member) : Type 0 where
  pub low : (i : ℕ) (member : Member) → slice_get members i ≡ Some member → (let root = member.root in root.0) ≤ from + i + 1
  pub next : (i : ℕ) (member : Member) → slice_get members i ≡ Some member → IsNext from (roots_of members) member.root i member.next
  pub last : (i : ℕ) (member : Member) → slice_get members i ≡ Some member → (let root = member.root in root.0) ≡ from + i + 1 → IsLast from (roots_of members) member.root member.last
