-- The orders of regions at servers, and of keys that may be none.
use Rattle.std.proofs.Common.{◌≡◌, Option, Some, None, refl, ap, ◌∙◌}
use Rattle.std.specs.Cmp.{IsTotalOrder}
use Rattle.std.specs.Ordering.{is_eq, ordering_reverse}
use Rattle.std.specs.declared.cmp.Ordering.{Ordering}
use Rattle.std.specs.declared.cmp.Ordering.TheVariants.{Less, Equal, Greater}
use Rattle.std.proofs.lemmas.Cmp.{on_total, then_total}
use Rattle.hm_names.specs.Order.{server_cmp}
use Rattle.hm_names.specs.Region.{Region}
use Rattle.hm_names.specs.Server.{Server}
use Rattle.hm_model.specs.Fleet.{same_server}
use Rattle.hm_model.proofs.NameTies.{regions_total, servers_total, server_ties}
use Rattle.hm_places.specs.Chosen.{cmp_if}
use Rattle.hm_places.specs.Places.{held_cmp}

pub held_total : IsTotalOrder held_cmp
held_total = then_total (on_total (λ (h : Server × Region). h.0) servers_total) (on_total (λ (h : Server × Region). h.1) regions_total)

module _ {K : Type 0} (cmp : K → K → Ordering) (total : IsTotalOrder cmp) where
  antisymm : (a b : Option K) → cmp_if cmp a b ≡ ordering_reverse (cmp_if cmp b a)
  antisymm None None = refl
  antisymm None (Some b) = refl
  antisymm (Some a) None = refl
  antisymm (Some a) (Some b) = total.antisymm a b

  trans : (a b c : Option K) → cmp_if cmp a b ≡ Less → cmp_if cmp b c ≡ Less → cmp_if cmp a c ≡ Less
  trans a b None less more = by b more
    where
      by : (b : Option K) → cmp_if cmp b None ≡ Less → cmp_if cmp a None ≡ Less
      by None e = cc
      by (Some b) e = cc
  trans None b (Some c) less more = refl
  trans (Some a) None (Some c) less more = cc
  trans (Some a) (Some b) (Some c) less more = total.trans a b c less more

  congr : (a b c : Option K) → cmp_if cmp a b ≡ Equal → cmp_if cmp a c ≡ cmp_if cmp b c
  congr None None c ties = refl
  congr None (Some b) c ties = cc
  congr (Some a) None c ties = cc
  congr (Some a) (Some b) None ties = refl
  congr (Some a) (Some b) (Some c) ties = total.congr a b c ties

  pub total_if : IsTotalOrder (cmp_if cmp)
  total_if = record { antisymm = antisymm; trans = trans; congr = congr }

turned_ties : (o : Ordering) → is_eq (ordering_reverse o) ≡ is_eq o
turned_ties Less = refl
turned_ties Equal = refl
turned_ties Greater = refl

-- the tie of two servers, the other way round
pub server_ties_back : (a b : Server) → is_eq (server_cmp a b) ≡ same_server b a
server_ties_back a b = ap is_eq (servers_total.antisymm a b) ∙ turned_ties (server_cmp b a) ∙ server_ties b a
