-- Pairs whose keys rise, and what each gives by what is found of its key.
use Rattle.std.proofs.Common.{◌≡◌, ℕ, suc, List, [], ◌∷◌, ◌++◌, slice_get, cond, Some, refl, ap, sym, ◌∙◌, inl, inr, arith}
use Rattle.std.specs.List.{flat_map}
use Rattle.std.specs.Ordering.{is_eq}
use Rattle.std.specs.declared.cmp.Ordering.{Ordering}
use Rattle.std.specs.declared.cmp.Ordering.TheVariants.{Equal, Greater, Less}
use Rattle.std.proofs.lemmas.Option.{none-some}
use Rattle.hm_index.specs.Index.{IsRising, find}
use Rattle.hm_model.specs.Locks.{IsIn}
use Rattle.hm_rebase.proofs.Orders.{AllLater, InOrder, later_in}

module _ {K V : Type 0} (cmp : K → K → Ordering) where
  -- the keys of pairs
  abbrev pub keys : List (K × V) → List K
  keys [] = []
  keys (pair ∷ more) = pair.0 ∷ keys more

  all_later : (x : K) (list : List (K × V)) → ((j : ℕ) (b : K × V) → slice_get list j ≡ Some b → cmp x b.0 ≡ Less) → AllLater cmp x (keys list)
  all_later x [] each = tt
  all_later x (b ∷ more) each = (each 0 b refl, all_later x more (λ j c at. each (suc j) c at))

  pub rising_order : (pairs : List (K × V)) → IsRising cmp pairs → InOrder cmp (keys pairs)
  rising_order [] rises = tt
  rising_order (pair ∷ more) rises = (
    all_later pair.0 more (λ j b at. rises 0 (suc j) pair b (omega arith) refl at),
    rising_order more (λ i j a b lt at bt. rises (suc i) (suc j) a b (omega (arith, lt)) at bt),
  )

  module _ (ties : (x y : K) → cmp x y ≡ Equal → x ≡ y) (tied : (x : K) → cmp x x ≡ Equal) where
    -- a key of which something is found is among them
    pub found_in : (pairs : List (K × V)) (key : K) (value : V) → find cmp pairs key ≡ Some value → IsIn key (keys pairs)
    found_in [] key value is = absurd (none-some value is)
    found_in ((here, v) ∷ more) key value is = by (found_in more key value) (cmp here key) refl is
      where
        by : (find cmp more key ≡ Some value → IsIn key (keys more)) → (o : Ordering) → cmp here key ≡ o → cond (is_eq o) (Some v) (find cmp more key) ≡ Some value → IsIn key (here ∷ keys more)
        by rest Less e at = inr (rest at)
        by rest Equal e at = inl (sym (ties here key e))
        by rest Greater e at = inr (rest at)

    -- what the pairs give is what their keys give, where that is so for each that is found
    pub told_each : {B : Type 0} (F : K × V → List B) (G : K → List B) (pairs : List (K × V)) → InOrder cmp (keys pairs)
        → ((key : K) (value : V) → find cmp pairs key ≡ Some value → F (key, value) ≡ G key) → flat_map F pairs ≡ flat_map G (keys pairs)
    told_each F G [] order each = refl
    told_each F G ((here, v) ∷ more) order each =
        ap (λ l. l ++ flat_map F more) (each here v own)
        ∙ ap (λ l. G here ++ l) (told_each F G more order.1 (λ key value at. each key value (further key value at)))
      where
        own : find cmp ((here, v) ∷ more) here ≡ Some v
        own = ap (λ o. cond (is_eq o) (Some v) (find cmp more here)) (tied here)

        further : (key : K) (value : V) → find cmp more key ≡ Some value → find cmp ((here, v) ∷ more) key ≡ Some value
        further key value at = ap (λ o. cond (is_eq o) (Some v) (find cmp more key)) (later_in cmp here key (keys more) order.0 (found_in more key value at)) ∙ at
