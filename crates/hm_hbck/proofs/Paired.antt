-- What is found of two that are held is exactly what is so of two.
use Rattle.std.proofs.Common.{◌≡◌, List, [], ◌∷◌, ◌++◌, Option, Some, None, Bool, true, false, ◌&&◌, if◌then◌else◌, refl, inl, inr, ◌⊎◌, ap, sym, ◌∙◌, subst}
use Rattle.std.specs.Cmp.{IsTotalOrder}
use Rattle.std.specs.List.{flat_map}
use Rattle.std.specs.Ordering.{ordering_reverse}
use Rattle.std.specs.declared.cmp.Ordering.{Ordering}
use Rattle.std.specs.declared.cmp.Ordering.TheVariants.{Less, Equal, Greater}
use Rattle.std.proofs.lemmas.Cmp.{on_total, then_total, tied_itself}
use Rattle.hm_names.specs.Ranges.{ends_behind}
use Rattle.hm_names.specs.declared.range.KeyRange.{KeyRange}
use Rattle.hm_model.specs.Keys.{same_region, same_table}
use Rattle.hm_model.specs.Locks.{IsIn}
use Rattle.hm_model.specs.RowsSaid.{range_in}
use Rattle.hm_model.specs.Single.{overlap_if}
use Rattle.hm_model.proofs.KeyTests.{same_region-is, same_region-refl, same_table-is, same_table-refl}
use Rattle.hm_model.proofs.NameTies.{regions_total, servers_total}
use Rattle.hm_ranges.proofs.Lists.{in_either, in_front, in_rest}
use Rattle.hm_hbck.specs.Found.{Adds, Hold}
use Rattle.hm_hbck.specs.Pairs.{IsPairOf, by_name, meet, name_cmp, of_pair, of_pairs, twice}
use Rattle.hm_hbck.specs.declared.finding.Finding.{Finding}
use Rattle.hm_hbck.proofs.Lists.{flat_map_in, in_flat_map}
use Rattle.hm_hbck.proofs.Order.{alike, true_less}

names_total : IsTotalOrder name_cmp
names_total = then_total (on_total (λ (h : Hold). h.region) regions_total) (on_total (λ (h : Hold). h.server) servers_total)

and_back : (a b : Bool) → (a && b) ≡ (b && a)
and_back true true = refl
and_back true false = refl
and_back false true = refl
and_back false false = refl

overlap_back : (a b : Option KeyRange) → overlap_if a b ≡ overlap_if b a
overlap_back None None = refl
overlap_back None (Some b) = refl
overlap_back (Some a) None = refl
overlap_back (Some a) (Some b) = and_back (ends_behind a b.start) (ends_behind b a.start)

meet_back : (a b : Hold) → meet a b ≡ meet b a
meet_back a b =
    rw (alike same_region same_region-is same_region-refl a.region b.region, alike same_table same_table-is same_table-refl a.region.table b.region.table, overlap_back (range_in a.row) (range_in b.row)) refl

-- one of two comes before the other, they meet, and the finding says so
abbrev IsPair : Hold → Hold → Finding → Type 0
IsPair one other finding = (name_cmp one other ≡ Less) × (meet one other ≡ true) × (finding ≡ twice one other)

pair_found : (one other : Hold) (finding : Finding) → IsIn finding (of_pair one other) → IsPair one other finding ⊎ IsPair other one finding
pair_found one other finding there = by (meet one other) refl there
  where
    named : (o : Ordering) → name_cmp one other ≡ o → meet one other ≡ true → IsIn finding (by_name o one other) → IsPair one other finding ⊎ IsPair other one finding
    named Less e on (inl same) = inl (e, on, same)
    named Less e on (inr more) = absurd more
    named Equal e on more = absurd more
    named Greater e on (inl same) = inr (names_total.antisymm other one ∙ ap ordering_reverse e, meet_back other one ∙ on, same)
    named Greater e on (inr more) = absurd more

    by : (b : Bool) → meet one other ≡ b → IsIn finding (if b then by_name (name_cmp one other) one other else []) → IsPair one other finding ⊎ IsPair other one finding
    by true on more = named (name_cmp one other) refl on more
    by false off more = absurd more

pair_front : (one other : Hold) (finding : Finding) → IsPair one other finding → IsIn finding (of_pair one other)
pair_front one other finding is = rw (is.1, is.0) (inl is.2)

pair_back : (one other : Hold) (finding : Finding) → IsPair one other finding → IsIn finding (of_pair other one)
pair_back one other finding is = rw (meet_back other one ∙ is.1, names_total.antisymm other one ∙ ap ordering_reverse is.0) (inl is.2)

pub pairs_so : (list : List Hold) (finding : Finding) → IsIn finding (of_pairs list) → IsPairOf list finding
pairs_so [] finding there = absurd there
pairs_so (first ∷ more) finding there = elim (in_either finding (flat_map (of_pair first) more) (of_pairs more) there) [
  | inl here ↦ let at = in_flat_map (of_pair first) finding more here in
      elim (pair_found first at.0 finding at.2) [
        | inl is ↦ (first, at.0, inl refl, inr at.1, is.0, is.1, is.2)
        | inr is ↦ (at.0, first, inr at.1, inl refl, is.0, is.1, is.2)
      ]
  | inr further ↦ let rest = pairs_so more finding further in (rest.0, rest.1, inr rest.2, inr rest.3, rest.4, rest.5, rest.6)
]

pub so_pairs : (list : List Hold) (finding : Finding) → IsPairOf list finding → IsIn finding (of_pairs list)
so_pairs [] finding is = absurd is.2
so_pairs (first ∷ more) finding (one, other, one_in, other_in, less, on, same) = by (λ here too. so_pairs more finding (one, other, here, too, less, on, same)) one_in other_in
  where
    by : (IsIn one more → IsIn other more → IsIn finding (of_pairs more)) → IsIn one (first ∷ more) → IsIn other (first ∷ more) → IsIn finding (flat_map (of_pair first) more ++ of_pairs more)
    by rest (inl here) (inl too) = absurd (true_less (sym less ∙ ap (name_cmp one) (too ∙ sym here) ∙ tied_itself names_total one))
    by rest (inl here) (inr too) =
        in_front finding (flat_map (of_pair first) more) (of_pairs more)
        (flat_map_in (of_pair first) finding other more too (subst (λ (h : Hold). IsIn finding (of_pair h other)) here (pair_front one other finding (less, on, same))))
    by rest (inr here) (inl too) =
        in_front finding (flat_map (of_pair first) more) (of_pairs more)
        (flat_map_in (of_pair first) finding one more here (subst (λ (h : Hold). IsIn finding (of_pair h one)) too (pair_back one other finding (less, on, same))))
    by rest (inr here) (inr too) = in_rest finding (flat_map (of_pair first) more) (of_pairs more) (rest here too)

-- some that are the same in another order have the same pairs
pub pairs_of_same : (xs ys : List Hold) → ((h : Hold) → IsIn h xs → IsIn h ys) → (finding : Finding) → IsPairOf xs finding → IsPairOf ys finding
pairs_of_same xs ys into finding (one, other, one_in, other_in, less, on, same) = (one, other, into one one_in, into other other_in, less, on, same)

pub pairs_added : (xs ys : List Hold) (old new : List Finding) → ((h : Hold) → IsIn h xs → IsIn h ys) → ((h : Hold) → IsIn h ys → IsIn h xs) → new ≡ old ++ of_pairs ys → Adds (IsPairOf xs) old new
pairs_added xs ys old new into back is = λ finding. (
  λ there. elim (in_either finding old (of_pairs ys) (subst (IsIn finding) is there)) [
    | inl before ↦ inl before
    | inr added ↦ inr (pairs_of_same ys xs back finding (pairs_so ys finding added))
  ],
  λ either. subst (IsIn finding) (sym is) (elim either [
    | inl before ↦ in_front finding old (of_pairs ys) before
    | inr so ↦ in_rest finding old (of_pairs ys) (so_pairs ys finding (pairs_of_same xs ys into finding so))
  ]),
)
