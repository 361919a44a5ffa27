-- Regions in name order.
use Rattle.std.proofs.Common.{◌≡◌, ℕ, zero, suc, ◌+◌, List, ◌∷◌, refl, ap, ◌∙◌, arith}
use Rattle.std.specs.Ordering.{nat_cmp, ordering_then}
use Rattle.std.specs.declared.cmp.Ordering.{Ordering}
use Rattle.std.specs.declared.cmp.Ordering.TheVariants.{Less}
use Rattle.std.proofs.lemmas.Bool.Decides.{nat_tests}
use Rattle.hm_data.specs.declared.catalog.CatKey.TheVariants as key_is
use Rattle.hm_model.proofs.KeyTests.{key_cmp-refl}
use Rattle.hm_names.specs.Order.{region_cmp}
use Rattle.hm_names.specs.Region.{Region}
use Rattle.hm_names.specs.declared.table.TableName.{TableName}
use Rattle.hm_model.specs.Locks.{in_name_order, with_region, with_region_at}
use Rattle.hm_model.specs.Pieces.{numbers_from}
use Rattle.hm_model.specs.Views.{regions_in}

lower : (n : ℕ) → nat_cmp n (n + 1) ≡ Less
lower n = grind (arith, nat_tests)

-- a region in front of one that isn't below it
in_front : (region next : Region) (more rest : List Region) (o : Ordering) → region_cmp region next ≡ o → o ≡ Less → with_region_at (region_cmp region next) region next more rest ≡ region ∷ next ∷ more
in_front region next more rest o is less = ap (λ p. with_region_at p region next more rest) (is ∙ less)

rises : (table : TableName) (id : ℕ) → region_cmp (record { table = table; id = id }) (record { table = table; id = id + 1 }) ≡ Less
rises table id =
    ap (λ o. ordering_then o (nat_cmp id (id + 1))) (key_cmp-refl (key_is.Table table)) ∙ lower id

-- regions of one table with rising ids stand in order
pub rising_ordered : (table : TableName) (first count : ℕ) → in_name_order (regions_in table (numbers_from first count)) ≡ regions_in table (numbers_from first count)
rising_ordered table first zero = refl
rising_ordered table first (suc zero) = refl
rising_ordered table first (suc (suc count)) =
    let next : Region = record { table = table; id = first + 1 } in
    let more = regions_in table (numbers_from (first + 1 + 1) count) in
    let region : Region = record { table = table; id = first } in
    ap (with_region region) (rising_ordered table (first + 1) (suc count))
    ∙ in_front region next more (with_region region more) Less (rises table first) refl
