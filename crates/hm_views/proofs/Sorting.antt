-- Regions and parts, as a stable sort puts them.
use Rattle.std.proofs.Common.{◌≡◌, ℕ, List, ◌∷◌, cond, if◌then◌else◌, refl, ap, sym, ◌∙◌}
use denote.Ref.{Bor}
use denote.Param.Members.{Mut}
use Rattle.std.proofs.lemmas.Fn.{always_returns_same}
use Rattle.std.specs.Fn.{Called, ComparesAs}
use Rattle.std.proofs.lemmas.Cmp.{nat_list_cmp_total}
use Rattle.std.proofs.lemmas.List.Sorted.{ranks_by}
use Rattle.std.specs.Cmp.{IsStrictWeakOrder}
use Rattle.std.specs.List.Sorted.{IsSorted, IsSortedByKey, IsStable, IsStableByKey}
use Rattle.std.specs.Ordering.{is_le, is_lt, ordering_reverse}
use Rattle.std.specs.declared.cmp.Ordering.{Ordering}
use Rattle.std.specs.declared.cmp.Ordering.TheVariants.{Less, Equal, Greater}
use Rattle.hm_names.specs.Order.{bytes_cmp, region_cmp}
use Rattle.hm_names.specs.Region.{Region}
use Rattle.hm_model.proofs.NameTies.{regions_total}
use Rattle.hm_model.specs.Checks.{by_start, with_part}
use Rattle.hm_model.specs.Locks.{in_name_order, with_region, with_region_at}
use Rattle.hm_model.specs.declared.merged.Merged.{Merged}
use Rattle.hm_views.proofs.Stable.{sorts}

beside : (o : Ordering) (region first : Region) (more rest : List Region) → with_region_at o region first more rest ≡ cond (is_lt (ordering_reverse o)) (first ∷ rest) (region ∷ first ∷ more)
beside Less region first more rest = refl
beside Equal region first more rest = refl
beside Greater region first more rest = refl

among_regions : (region first : Region) (more : List Region) → with_region region (first ∷ more) ≡ cond (is_lt (region_cmp first region)) (first ∷ with_region region more) (region ∷ first ∷ more)
among_regions region first more =
    beside (region_cmp region first) region first more (with_region region more)
    ∙ ap (λ o. cond (is_lt o) (first ∷ with_region region more) (region ∷ first ∷ more)) (sym (regions_total.antisymm first region))

-- regions in name order
pub regions_sorted : (regions sorted : List Region) → IsSorted region_cmp sorted → IsStable region_cmp regions sorted → sorted ≡ in_name_order regions
regions_sorted = sorts (λ a b. is_lt (region_cmp a b)) (ranks_by regions_total (λ (region : Region). region)) with_region (λ region. refl) among_regions in_name_order refl (λ region more. refl)

turned : {X : Type 0} (o : Ordering) (here behind : X) → (if is_le o then here else behind) ≡ cond (is_lt (ordering_reverse o)) behind here
turned Less here behind = refl
turned Equal here behind = refl
turned Greater here behind = refl

abbrev start_of : Merged → List ℕ
start_of part = part.range.start

among_parts : (part first : Merged) (more : List Merged) → with_part part (first ∷ more) ≡ cond (is_lt (bytes_cmp first.range.start part.range.start)) (first ∷ with_part part more) (part ∷ first ∷ more)
among_parts part first more =
    turned (bytes_cmp part.range.start first.range.start) (part ∷ first ∷ more) (first ∷ with_part part more)
    ∙ ap (λ o. cond (is_lt o) (first ∷ with_part part more) (part ∷ first ∷ more)) (sym (nat_list_cmp_total.antisymm first.range.start part.range.start))

-- parts by their start keys
pub parts_sorted : (parts sorted : List Merged) → IsSortedByKey start_of bytes_cmp sorted → IsStableByKey start_of bytes_cmp parts sorted → sorted ≡ by_start parts
parts_sorted = sorts (λ a b. is_lt (bytes_cmp a.range.start b.range.start)) (ranks_by nat_list_cmp_total start_of) with_part (λ part. refl) among_parts by_start refl (λ part more. refl)

-- the order of parts by their start keys
pub starts_order : IsStrictWeakOrder (λ (a b : Merged). is_lt (bytes_cmp a.range.start b.range.start))
starts_order = ranks_by nat_list_cmp_total start_of

-- what a closure answers that compares start keys
pub compares : {F : Type 0} (g : Mut F (Bor Merged × (Bor Merged × Unit {0})) Ordering) (f : F) → ((a : Bor Merged × (Bor Merged × Unit {0})) (r : Ordering) (f' : F) → Called g f a r f' → (r ≡ bytes_cmp a.0.now.range.start a.1.0.now.range.start) × (f' ≡ f)) → ComparesAs g (λ a b. is_lt (bytes_cmp a.range.start b.range.start)) f
compares g f h = always_returns_same g (λ a r. is_lt r ≡ is_lt (bytes_cmp a.0.now.range.start a.1.0.now.range.start)) f (λ a r f' k. (ap is_lt (h a r f' k).0, (h a r f' k).1))
