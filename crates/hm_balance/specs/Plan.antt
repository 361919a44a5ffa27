-- The plan: which server gives to which.
use Rattle.std.specs.Prelude.{◌≡◌, nat_lt, if◌then◌else◌, ℕ, zero, suc, ◌+◌, ◌-◌, ◌/◌, ◌%◌, List, [], ◌∷◌, ◌++◌, length, map, IsPermutation, IsSorted}
use Rattle.std.specs.Ordering.{nat_cmp, on, then_cmp}
use Rattle.std.specs.declared.cmp.Ordering.{Ordering}
use Rattle.hm_names.specs.Order.{server_cmp}
use Rattle.hm_names.specs.Server.{Server}
use Rattle.hm_balance.specs.declared.shift.Shift.{Shift}
use Rattle.hm_balance.specs.declared.share.Share.{Share}
use Rattle.hm_balance.specs.declared.share.Falling.{Falling}
use Rattle.hm_balance.specs.Loads.{Loads, sum_over, total}

-- a server by its load
abbrev pub by_load : (Server × ℕ) → Falling
by_load server = record { load = record { 0 = server.1 }; name = server.0 }

-- by falling load, ties by name
abbrev pub falling_cmp : Falling → Falling → Ordering
falling_cmp = then_cmp (on (λ f. f.load.0) (λ x y. nat_cmp y x)) (on (λ f. f.name) server_cmp)

-- the first r servers get one more than the others
abbrev pub with_targets : ℕ → ℕ → List Falling → List Share
with_targets q r [] = []
with_targets q r (server ∷ more) =
    record { name = server.name; load = server.load.0; target = if nat_lt 0 r then q + 1 else q } ∷ with_targets q (r - 1) more

-- shares in name order
abbrev pub share_cmp : Share → Share → Ordering
share_cmp = then_cmp (on (λ s. s.name) server_cmp) (then_cmp (on (λ s. s.load) nat_cmp) (on (λ s. s.target) nat_cmp))

-- a name so many times
abbrev pub times : ℕ → Server → List Server
times zero name = []
times (suc n) name = name ∷ times n name

-- the names of the servers above their target, each once for each region above it
abbrev pub givers : List Share → List Server
givers [] = []
givers (share ∷ more) = times (share.load - share.target) share.name ++ givers more

-- the names of the servers below their target, each once for each region that it lacks
abbrev pub takers : List Share → List Server
takers [] = []
takers (share ∷ more) = times (share.target - share.load) share.name ++ takers more

-- the first of one list gives to the first of the other, and so on
abbrev pub paired : List Server → List Server → List Shift
paired [] tos = []
paired (from ∷ froms) [] = []
paired (from ∷ froms) (to ∷ tos) = record { from = from; to = to } ∷ paired froms tos

-- how much lies above the targets
abbrev pub above : List Share → ℕ
above shares = sum_over (λ share. share.load - share.target) shares

-- the servers with their targets, in name order: by falling load, ties by name, the first get one more than the others
pub record AreShares (loads : Loads) (shares : List Share) : Type 0 where
  pub falling : List Falling
  pub same : IsPermutation (map by_load loads) falling
  pub falls : IsSorted falling_cmp falling
  pub targets : IsPermutation (with_targets (total loads / length loads) (total loads % length loads) falling) shares
  pub by_name : IsSorted share_cmp shares

-- in name order each server above its target gives one region at a time to the first that is below its own
pub record IsPlan (loads : Loads) (shifts : List Shift) : Type 0 where
  pub shares : List Share
  pub are_shares : AreShares loads shares
  pub gives : shifts ≡ paired (givers shares) (takers shares)
  pub sum_above : length shifts ≡ above shares
