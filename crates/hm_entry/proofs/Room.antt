-- Pieces that are put one after the other.
use Rattle.std.proofs.Common.{◌≡◌, ℕ, ◌+◌, ◌≤◌, ◌<◌, List, [], ◌∷◌, ◌++◌, length, take, get_or, sym, ap, subst, ◌∙◌, append_assoc, arith, length-append}
use Rattle.std.proofs.lemmas.List.{append-nil, take_more}
use Rattle.std.proofs.lemmas.List.Concat.{flat_map-append}
use Rattle.std.proofs.lemmas.List.Elements.{All-head, All-tail}
use Rattle.std.proofs.lemmas.List.Folds.{length-flat_map-take}
use Rattle.std.specs.Global.{Vec}
use Rattle.std.specs.List.{All, flat_map}
use Rattle.hm_wire.specs.Room.{Puts}

-- the pieces before an item and its own are no longer than all
pub piece_fits : {X : Type 0} (f : X → List ℕ) (xs : List X) (i : ℕ) (x : X) → i < length xs → x ≡ get_or xs i x → length (flat_map f (take i xs)) + length (f x) ≤ length (flat_map f xs)
piece_fits {X} f xs i x lt is = subst (λ (y : X). length (flat_map f (take i xs)) + length (f y) ≤ length (flat_map f xs)) (sym is) (length-flat_map-take f xs i x lt)

pieces_more : {X : Type 0} (f : X → List ℕ) (xs : List X) (i : ℕ) (x : X) → i < length xs → x ≡ get_or xs i x → flat_map f (take (i + 1) xs) ≡ flat_map f (take i xs) ++ f x
pieces_more {X} f xs i x lt is =
    ap (flat_map f) (take_more xs i x lt)
    ∙ flat_map-append f (take i xs) (get_or xs i x ∷ [])
    ∙ ap (λ (y : X). flat_map f (take i xs) ++ (f y ++ [])) (sym is)
    ∙ ap (λ (l : List ℕ). flat_map f (take i xs) ++ l) (append-nil (f x))

-- an item's piece behind those before it
pub one_more : {X : Type 0} (f : X → List ℕ) (xs : List X) (i : ℕ) (x : X) (old mid new : Vec ℕ) → i < length xs → x ≡ get_or xs i x → Puts old (flat_map f (take i xs)) mid → Puts mid (f x) new → Puts old (flat_map f (take (i + 1) xs)) new
one_more f xs i x old mid new lt is before piece =
    let whole = pieces_more f xs i x lt is in (
      piece.0
          ∙ ap (λ (l : List ℕ). l ++ f x) before.0
          ∙ append_assoc old.items (flat_map f (take i xs)) (f x)
          ∙ ap (λ (l : List ℕ). old.items ++ l) (sym whole),
      omega (arith, piece.1, before.1, ap (λ (l : List ℕ). length l) whole, length-append (flat_map f (take i xs)) (f x)),
      piece.2 ∙ before.2,
    )

-- where no piece is empty, there are no more pieces than items in them
pub at_least : {X : Type 0} (P : X → Type 0) (f : X → List ℕ) (some : (x : X) → P x → 1 ≤ length (f x)) (xs : List X) → All P xs → length xs ≤ length (flat_map f xs)
at_least P f some [] all = omega arith
at_least P f some (x ∷ xs) all =
    omega (arith, some x (All-head P x xs all), at_least P f some xs (All-tail P x xs all), length-append (f x) (flat_map f xs))
