-- What is listed stands at some place, regions in the order of their names too; each of some regions gets its transit.
use Rattle.std.proofs.Common.{◌≡◌, ℕ, suc, List, [], ◌∷◌, Bool, true, false, Some, None, cond, map, refl, ap, sym, ◌∙◌, inl, inr, ◌⊎◌, slice_get}
use Rattle.std.specs.declared.cmp.Ordering.{Ordering}
use Rattle.std.specs.declared.cmp.Ordering.TheVariants.{Less, Equal, Greater}
use Rattle.hm_names.specs.Order.{region_cmp}
use Rattle.hm_names.specs.Region.{Region}
use Rattle.hm_data.specs.declared.args.Args.{Args}
use Rattle.hm_data.specs.declared.args.Args.TheVariants as args_are
use Rattle.hm_data.specs.declared.args.Child.TheVariants as child_is
use Rattle.hm_data.specs.declared.place.Goal.{Goal}
use Rattle.hm_model.specs.Keys.{same_table}
use Rattle.hm_model.specs.Locks.{IsIn, in_name_order, with_region, with_region_at}
use Rattle.hm_model.specs.Pieces.{Batch, batches, transits, with_batch}
use Rattle.hm_model.specs.Tree.{args_in}
use Rattle.hm_model.proofs.KeyTests.{same_table-is}

pub in_slice : {A : Type 0} (x : A) (list : List A) → IsIn x list → (i : ℕ) × (slice_get list i ≡ Some x)
in_slice x [] h = elim h [ ]
in_slice x (first ∷ more) (inl here) = (0, ap Some (sym here))
in_slice x (first ∷ more) (inr later) = let on = in_slice x more later in (suc on.0, on.1)

in_with_region_at : (y region first : Region) (more rest : List Region) → ((y ≡ region) ⊎ IsIn y more → IsIn y rest) → (o : Ordering) → (y ≡ region) ⊎ IsIn y (first ∷ more) → IsIn y (with_region_at o region first more rest)
in_with_region_at y region first more rest on Less h = h
in_with_region_at y region first more rest on Equal h = h
in_with_region_at y region first more rest on Greater h = elim h [
  | inl new ↦ inr (on (inl new))
  | inr old ↦ elim old [ inl here ↦ inl here | inr later ↦ inr (on (inr later)) ]
]

pub in_with_region : (y region : Region) (list : List Region) → (y ≡ region) ⊎ IsIn y list → IsIn y (with_region region list)
in_with_region y region [] h = h
in_with_region y region (first ∷ more) h = in_with_region_at y region first more (with_region region more) (in_with_region y region more) (region_cmp region first) h

pub in_ordered : (y : Region) (list : List Region) → IsIn y list → IsIn y (in_name_order list)
in_ordered y [] h = h
in_ordered y (region ∷ more) (inl here) = in_with_region y region (in_name_order more) (inl here)
in_ordered y (region ∷ more) (inr later) = in_with_region y region (in_name_order more) (inr (in_ordered y more later))

module _ (goal : Goal) where
  abbrev sent : Region → Args
  sent y = args_are.Transit y goal None

  abbrev sends : List Batch → List Args
  sends list = args_in (map (λ batch. child_is.Transits batch.table batch.ids goal) list)

  in_with_batch : (y region : Region) (list : List Batch) → (y ≡ region) ⊎ IsIn (sent y) (sends list) → IsIn (sent y) (sends (with_batch region list))
  in_with_batch y region [] h = elim h [ inl here ↦ inl (ap sent here) | inr later ↦ elim later [ ] ]
  in_with_batch y region (batch ∷ more) h = by (same_table region.table batch.table) refl
    where
      by : (b : Bool) → same_table region.table batch.table ≡ b → IsIn (sent y) (sends (cond b (record { table = batch.table; ids = region.id ∷ batch.ids } ∷ more) (record { table = region.table; ids = region.id ∷ [] } ∷ batch ∷ more)))
      by false e = elim h [ inl here ↦ inl (ap sent here) | inr later ↦ inr later ]
      by true e = elim h [ inl here ↦ inl (ap sent here ∙ ap (λ t. sent (record { table = t; id = region.id })) (same_table-is region.table batch.table e)) | inr later ↦ inr later ]

  in_batches : (y : Region) (list : List Region) → IsIn y list → IsIn (sent y) (sends (batches list))
  in_batches y [] h = elim h [ ]
  in_batches y (region ∷ more) (inl here) = in_with_batch y region (batches more) (inl here)
  in_batches y (region ∷ more) (inr later) = in_with_batch y region (batches more) (inr (in_batches y more later))

  -- each of some regions gets its transit
  pub transit_made : (y : Region) (regions : List Region) → IsIn y regions → (i : ℕ) × (slice_get (args_in (transits goal regions)) i ≡ Some (args_are.Transit y goal None))
  transit_made y regions h = in_slice (sent y) (args_in (transits goal regions)) (in_batches y (in_name_order regions) (in_ordered y regions h))
