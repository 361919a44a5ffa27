-- What a seat added, weighed.
use Rattle.std.specs.Prelude.{◌≡◌, ℕ, ◌+◌, List, [], ◌∷◌, length, drop}
use Rattle.hm_gate.specs.declared.view.View.{View}
use Rattle.hm_gate.specs.Seats.{Ends}
use Rattle.hm_gate.specs.Whole.{Whole}

-- the weights of the items together
abbrev pub weigh : {I : Type 0} → (I → ℕ) → List I → ℕ
weigh f [] = 0
weigh f (x ∷ xs) = f x + weigh f xs

-- the weights of the items of some pairs together
abbrev pub weigh_pairs : {I : Type 0} → (I → ℕ) → List (ℕ × I) → ℕ
weigh_pairs f [] = 0
weigh_pairs f (p ∷ ps) = f p.1 + weigh_pairs f ps

-- however items are weighed, what the seat with all parts added weighs what the list gained
abbrev pub MineWeighs : {I T S : Type 0} → (S → Whole I T) → Type 0
MineWeighs {I} {T} {S} shown = (v : View I T) (x : S) (f : I → ℕ) → Ends shown v x → weigh_pairs f v.mine ≡ weigh f (drop (length v.opening) ((shown x).items))
