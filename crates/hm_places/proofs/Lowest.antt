-- The first server of the lowest load, as servers are met.
use Rattle.std.proofs.Common.{◌≡◌, ℕ, zero, suc, ◌≤◌, List, [], ◌∷◌, length, drop, Option, Some, None, refl, arith}
use Rattle.hm_names.specs.Server.{Server}
use Rattle.hm_model.specs.Choice.{lower}
use Rattle.hm_places.specs.declared.picking.Loaded.{Loaded}

-- the best so far with the best of those that are left
abbrev pub with_best : (Server → ℕ) → Option Server → Option Server → Option Server
with_best load None rest = rest
with_best load (Some best) rest = Some (lower load best rest)

abbrev pub server_of : Option Loaded → Option Server
server_of None = None
server_of (Some best) = Some best.server.now

abbrev pub IsLoaded : (Server → ℕ) → Option Loaded → Type 0
IsLoaded load None = Unit {0}
IsLoaded load (Some best) = best.load ≡ load best.server.now

pub none_left : (numbers : List ℕ) (i : ℕ) → length numbers ≤ i → drop i numbers ≡ []
none_left [] zero le = refl
none_left [] (suc i) le = refl
none_left (n ∷ numbers) zero le = absurd (omega arith)
none_left (n ∷ numbers) (suc i) le = none_left numbers i (omega arith)
