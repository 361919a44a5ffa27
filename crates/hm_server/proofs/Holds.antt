-- The regions that are held, among what was served.
use Rattle.std.proofs.Common.{◌≡◌, ◌↔◌, ℕ, zero, suc, List, [], ◌∷◌, Option, Some, None, Bool, true, false, if◌then◌else◌, slice_get, refl, inl, inr, arith, ap, sym, ◌∙◌}
use Rattle.std.specs.List.{AllByRecursion}
use Rattle.std.specs.List.Sorted.{IsStrictlySortedBy}
use Rattle.std.specs.Option.{option_map}
use Rattle.std.specs.Ordering.{is_eq}
use Rattle.std.specs.declared.cmp.Ordering.{Ordering}
use Rattle.std.specs.declared.cmp.Ordering.TheVariants.{Less, Equal, Greater}
use Rattle.std.proofs.lemmas.Bool.{false≢true}
use Rattle.std.proofs.lemmas.Cmp.{tied_itself}
use Rattle.hm_names.specs.Order.{region_cmp}
use Rattle.hm_names.specs.Region.{Region}
use Rattle.hm_index.specs.Index.{IsRising, find}
use Rattle.hm_model.specs.Actors.{holds_if}
use Rattle.hm_model.specs.Locks.{IsIn}
use Rattle.hm_model.proofs.KeyTests.{region_cmp-is}
use Rattle.hm_model.proofs.NameTies.{regions_total}
use Rattle.hm_server.specs.Actors.{held_in, served}
use Rattle.hm_server.specs.declared.duty.Duty.{Duty}

abbrev Duties : Type 0
Duties = List (Region × Duty)

-- each of some regions comes after this one
abbrev AllLater : Region → List Region → Type 0
AllLater region list = AllByRecursion (λ other. region_cmp region other ≡ Less) list

later : (region : Region) (duties : Duties) → ((j : ℕ) (b : Region × Duty) → slice_get duties j ≡ Some b → region_cmp region b.0 ≡ Less) → AllLater region (held_in duties)
later region [] low = tt
later region ((other, duty) ∷ more) low = by (later region more (λ j b there. low (suc j) b there)) duty.holds
  where
    by : AllLater region (held_in more) → (b : Bool) → AllLater region (if b then other ∷ held_in more else held_in more)
    by rest true = (low zero (other, duty) refl, rest)
    by rest false = rest

rest_rises : (first : Region × Duty) (more : Duties) → IsRising region_cmp (first ∷ more) → IsRising region_cmp more
rest_rises first more rising = λ i j a b less one two. rising (suc i) (suc j) a b (omega (arith, less)) one two

rest_later : (first : Region × Duty) (more : Duties) → IsRising region_cmp (first ∷ more) → AllLater first.0 (held_in more)
rest_later first more rising = later first.0 more (λ j b there. rising zero (suc j) first b (omega arith) refl there)

-- they are in name order, each once
pub held_rises : (duties : Duties) → IsRising region_cmp duties → IsStrictlySortedBy region_cmp (held_in duties)
unfolding IsStrictlySortedBy
held_rises [] rising = tt
held_rises ((region, duty) ∷ more) rising = by (held_rises more (rest_rises (region, duty) more rising)) duty.holds
  where
    by : IsStrictlySortedBy region_cmp (held_in more) → (b : Bool) → IsStrictlySortedBy region_cmp (if b then region ∷ held_in more else held_in more)
    by rest true = (rest_later (region, duty) more rising, rest)
    by rest false = rest

is_later : (region other : Region) (list : List Region) → AllLater region list → IsIn other list → region_cmp region other ≡ Less
is_later region other [] all there = absurd there
is_later region other (first ∷ more) all (inl same) = ap (region_cmp region) same ∙ all.0
is_later region other (first ∷ more) all (inr there) = is_later region other more all.1 there

abbrev IsHeld : Duties → Region → Type 0
IsHeld duties region = holds_if (option_map served (find region_cmp duties region)) ≡ true

-- a region is one of them exactly if what was served last about it left it held
pub held_exact : (duties : Duties) → IsRising region_cmp duties → (region : Region) → IsIn region (held_in duties) ↔ IsHeld duties region
held_exact [] rising region = (λ there. absurd there, λ held. absurd (false≢true held))
held_exact ((here, duty) ∷ more) rising region = by (held_exact more (rest_rises (here, duty) more rising) region) (region_cmp here region) refl
  where
    apart : (o : Ordering) → region_cmp here region ≡ o → is_eq o ≡ false → region ≡ here → ⊥
    apart o compares unequal same = false≢true (sym unequal ∙ ap is_eq (sym compares ∙ ap (region_cmp here) same ∙ tied_itself regions_total here))

    other : IsIn region (held_in more) ↔ IsHeld more region → (o : Ordering) → region_cmp here region ≡ o → is_eq o ≡ false
        → (b : Bool) → IsIn region (if b then here ∷ held_in more else held_in more) ↔ IsHeld more region
    other rest o compares unequal true = (λ there. elim there [ inl same ↦ absurd (apart o compares unequal same) | inr further ↦ rest.0 further ], λ held. inr (rest.1 held))
    other rest o compares unequal false = rest

    less≢equal : Less ≡ Equal → ⊥
    less≢equal e = cc

    tied : region_cmp here region ≡ Equal → (b : Bool) → IsIn region (if b then here ∷ held_in more else held_in more) ↔ (b ≡ true)
    tied compares true = (λ there. refl, λ held. inl (sym (region_cmp-is here region compares)))
    tied compares false = (λ there. absurd (less≢equal (sym (is_later here region (held_in more) (rest_later (here, duty) more rising) there) ∙ compares)), λ held. absurd (false≢true held))

    by : IsIn region (held_in more) ↔ IsHeld more region → (o : Ordering) → region_cmp here region ≡ o
        → IsIn region (held_in ((here, duty) ∷ more)) ↔ (holds_if (option_map served (if is_eq o then Some duty else find region_cmp more region)) ≡ true)
    by rest Less compares = other rest Less compares refl duty.holds
    by rest Equal compares = tied compares duty.holds
    by rest Greater compares = other rest Greater compares refl duty.holds
