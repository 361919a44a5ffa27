-- Lists in order, one behind the other, and what each key of a list gives.
use Rattle.std.proofs.Common.{◌≡◌, List, [], ◌∷◌, ◌++◌, Bool, true, false, cond, Option, Some, None, refl, ap, sym, ◌∙◌, inl, inr}
use Rattle.std.specs.List.{filter, flat_map}
use Rattle.std.specs.declared.cmp.Ordering.{Ordering}
use Rattle.std.specs.declared.cmp.Ordering.TheVariants.{Less}
use Rattle.hm_data.specs.declared.catalog.CatKey.{CatKey}
use Rattle.hm_data.specs.declared.catalog.CatRow.{CatRow}
use Rattle.hm_data.specs.declared.part.Part.{Part}
use Rattle.hm_model.specs.Catalog.{Catalog, keep, rows_at}
use Rattle.hm_model.specs.Locks.{IsIn}
use Rattle.hm_rebase.proofs.Orders.{AllLater, InOrder}

module _ {A : Type 0} (cmp : A → A → Ordering) where
  later_append : (x : A) (xs ys : List A) → AllLater cmp x xs → ((y : A) → IsIn y ys → cmp x y ≡ Less) → AllLater cmp x (xs ++ ys)
  later_append x [] [] all each = tt
  later_append x [] (y ∷ ys) all each = (each y (inl refl), later_append x [] ys tt (λ z among. each z (inr among)))
  later_append x (first ∷ xs) ys all each = (all.0, later_append x xs ys all.1 each)

  -- a list in order behind another whose elements all come before its own
  pub order_append : (xs ys : List A) → InOrder cmp xs → InOrder cmp ys → ((x y : A) → IsIn x xs → IsIn y ys → cmp x y ≡ Less) → InOrder cmp (xs ++ ys)
  order_append [] ys up down each = down
  order_append (x ∷ xs) ys up down each =
      (later_append x xs ys up.0 (λ y among. each x y (inl refl) among), order_append xs ys up.1 down (λ z y there among. each z y (inr there) among))

-- what the rows of a catalog give is what those keys give that pass a test, where the rows of the others give nothing
module _ (there : Catalog) (test : CatKey → Bool) (F : CatKey × CatRow → List Part) (G : CatKey → List Part)
    (passes : (key : CatKey) (row : CatRow) → there key ≡ Some row → test key ≡ true → F (key, row) ≡ G key)
    (fails : (key : CatKey) (row : CatRow) → test key ≡ false → F (key, row) ≡ [])
    (bare : (key : CatKey) → there key ≡ None → test key ≡ true → G key ≡ []) where
  pub by_keys : (keys : List CatKey) → flat_map F (rows_at (λ key. true) there keys) ≡ flat_map G (filter test keys)
  by_keys [] = refl
  by_keys (key ∷ keys) = by (there key) refl (test key) refl (rows_at (λ key. true) there keys) (filter test keys) (by_keys keys)
    where
      by : (o : Option CatRow) → there key ≡ o → (b : Bool) → test key ≡ b → (rows : List (CatKey × CatRow)) (kept : List CatKey) → flat_map F rows ≡ flat_map G kept
          → flat_map F (keep true key o rows) ≡ flat_map G (cond b (key ∷ kept) kept)
      by None is true on rows kept rest = rest ∙ ap (λ l. l ++ flat_map G kept) (sym (bare key is on))
      by None is false off rows kept rest = rest
      by (Some row) is true on rows kept rest = ap (λ l. l ++ flat_map F rows) (passes key row is on) ∙ ap (λ l. G key ++ l) rest
      by (Some row) is false off rows kept rest = ap (λ l. l ++ flat_map F rows) (fails key row off) ∙ rest
