-- The regions at a server are in the order of their names, each once.
use Rattle.hm_data.specs.declared.part.Part.{Part}
use Rattle.hm_data.specs.declared.part.Part.TheVariants as part_is
use Rattle.std.proofs.Common.{◌≡◌, List, [], ◌∷◌, Bool, true, false, cond, Option, Some, None, refl, ap, sym, ◌∙◌, subst, inl, inr}
use Rattle.std.proofs.lemmas.Cmp.{tied_itself}
use Rattle.std.specs.List.{filter}
use Rattle.std.specs.Ordering.{ordering_reverse}
use Rattle.std.specs.declared.cmp.Ordering.{Ordering}
use Rattle.std.specs.declared.cmp.Ordering.TheVariants.{Equal, Greater, Less}
use Rattle.hm_names.specs.Order.{region_cmp}
use Rattle.hm_names.specs.Region.{Region}
use Rattle.hm_names.specs.Server.{Server}
use Rattle.hm_data.specs.declared.entry.Entry.TheVariants as entry_is
use Rattle.hm_data.specs.declared.place.Place.{Place}
use Rattle.hm_model.specs.Journal.{Past}
use Rattle.hm_model.specs.Locks.{IsIn}
use Rattle.hm_model.specs.Places.{at_server, is_at, joined_at, joined_by, joined_if, place_of, placed, region_if, part_placed}
use Rattle.hm_model.specs.Tree.{node_of}
use Rattle.hm_model.proofs.NameTies.{regions_total}

-- each of the regions comes after this one
abbrev pub AllLater : Region → List Region → Type 0
AllLater region [] = Unit {0}
AllLater region (first ∷ more) = (region_cmp region first ≡ Less) × AllLater region more

abbrev pub InOrder : List Region → Type 0
InOrder [] = Unit {0}
InOrder (region ∷ more) = AllLater region more × InOrder more

later_on : (one region : Region) (list : List Region) → region_cmp one region ≡ Less → AllLater region list → AllLater one list
later_on one region [] less all = tt
later_on one region (first ∷ more) less all = (regions_total.trans one region first less all.0, later_on one region more less all.1)

later_joined_at : (o : Ordering) (one region first : Region) (more rest : List Region) → region_cmp one region ≡ Less → region_cmp one first ≡ Less → AllLater one more → AllLater one rest → AllLater one (joined_at o region first more rest)
later_joined_at Less one region first more rest less here all on = (less, (here, all))
later_joined_at Equal one region first more rest less here all on = (here, all)
later_joined_at Greater one region first more rest less here all on = (here, on)

later_joined : (one region : Region) (list : List Region) → region_cmp one region ≡ Less → AllLater one list → AllLater one (joined_by region list)
later_joined one region [] less all = (less, tt)
later_joined one region (first ∷ more) less all = later_joined_at (region_cmp region first) one region first more (joined_by region more) less all.0 all.1 (later_joined one region more less all.1)

order_joined : (region : Region) (list : List Region) → InOrder list → InOrder (joined_by region list)
order_joined region [] order = (tt, tt)
order_joined region (first ∷ more) order = by (order_joined region more order.1) (region_cmp region first) refl
  where
    by : InOrder (joined_by region more) → (o : Ordering) → region_cmp region first ≡ o → InOrder (joined_at o region first more (joined_by region more))
    by on Less e = ((e, later_on region first more e order.0), order)
    by on Equal e = order
    by on Greater e = (later_joined first region more (regions_total.antisymm first region ∙ ap ordering_reverse e) order.0, on)

order_if : (own : Option Region) (place : Option Place) (list : List Region) → InOrder list → InOrder (joined_if own place list)
order_if own None list order = order
order_if None (Some place) list order = order
order_if (Some region) (Some place) list order = order_joined region list order

order_part : (part : Part) (list : List Region) → InOrder list → InOrder (part_placed part list)
order_part (part_is.Region region range status parents place) list order = order_joined region list order
order_part part list order = order

-- the regions that ever had a place are in order, each once
placed_order : (J : Past) → InOrder (placed J)
placed_order [] = tt
placed_order (entry_is.Step pid pick out ∷ J) = order_if (region_if (node_of J pid.0)) out.place (placed J) (placed_order J)
placed_order (entry_is.Base part ∷ J) = order_part part (placed J) (placed_order J)
placed_order (entry ∷ J) = placed_order J

pub filter_if : (test : Region → Bool) (region : Region) (more : List Region) (b : Bool) → test region ≡ b → (filter test (region ∷ more) ≡ cond b (region ∷ filter test more) (filter test more))
filter_if test region more b e = ap (λ x. cond x (region ∷ filter test more) (filter test more)) e

later_filter : (test : Region → Bool) (one : Region) (list : List Region) → AllLater one list → AllLater one (filter test list)
later_filter test one [] all = tt
later_filter test one (region ∷ more) all = subst (AllLater one) (sym (filter_if test region more (test region) refl)) (by (test region) (later_filter test one more all.1))
  where
    by : (b : Bool) → AllLater one (filter test more) → AllLater one (cond b (region ∷ filter test more) (filter test more))
    by true on = (all.0, on)
    by false on = on

order_filter : (test : Region → Bool) (list : List Region) → InOrder list → InOrder (filter test list)
order_filter test [] order = tt
order_filter test (region ∷ more) order = subst InOrder (sym (filter_if test region more (test region) refl)) (by (test region) (order_filter test more order.1))
  where
    by : (b : Bool) → InOrder (filter test more) → InOrder (cond b (region ∷ filter test more) (filter test more))
    by true on = (later_filter test region more order.0, on)
    by false on = on

pub at_order : (J : Past) (server : Server) → InOrder (at_server J server)
at_order J server = order_filter (λ region. is_at server (place_of J region)) (placed J) (placed_order J)

pub not_later : (region : Region) (list : List Region) → AllLater region list → IsIn region list → ⊥
not_later region [] all h = elim h [ ]
not_later region (first ∷ more) all h = elim h [
  | inl here ↦ let tied : region_cmp region first ≡ Equal = ap (region_cmp region) (sym here) ∙ tied_itself regions_total region in cc (tied, all.0)
  | inr later ↦ not_later region more all.1 later
]
