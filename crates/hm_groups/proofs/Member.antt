-- A server of an address among some in name order.
use Rattle.std.proofs.Common.{◌≡◌, ◌+◌, ℕ, nat_lt, List, get_or, length, false, ◌&&◌, ◌==◌, Result, Ok, Err, is_ok, refl, ap, sym, ◌∙◌, inl, inr, arith}
use Rattle.std.specs.Cmp.{IsTotalOrder}
use Rattle.std.specs.Cmp.Lexicographic.{texts_ties}
use Rattle.std.specs.List.Sorted.{IsBinarySearchResult, IsNonDecreasingBy, IsSearchInRange, IsSorted}
use Rattle.std.specs.Ordering.{is_eq, is_lt, nat_cmp, ordering_index, ordering_then}
use Rattle.std.specs.declared.cmp.Ordering.{Ordering}
use Rattle.std.specs.declared.cmp.Ordering.TheVariants.{Less, Equal, Greater}
use Rattle.std.proofs.lemmas.Bool.{cases_Bool}
use Rattle.std.proofs.lemmas.Bool.Decides.{nat_tests}
use Rattle.std.proofs.lemmas.Cmp.{nat_cmp_total, nat_list_cmp_total, on_total, then_total}
use Rattle.std.proofs.lemmas.List.Elements.{All-from_all_within}
use Rattle.std.proofs.lemmas.List.Folds.{list_any_at, list_any_none}
use Rattle.std.proofs.lemmas.List.Sorted.{searchable_from_sorted}
use Rattle.hm_names.specs.Order.{bytes_cmp, server_cmp}
use Rattle.hm_names.specs.Server.{Server}
use Rattle.hm_model.specs.Fleet.{same_address}
use Rattle.hm_places.specs.Servers.{address_cmp}
use Rattle.hm_groups.specs.Groups.{has_address}
use Rattle.hm_groups.proofs.Changed.{then_ties}

addresses_total : IsTotalOrder address_cmp
addresses_total = then_total (on_total (λ (s : Server). s.host) nat_list_cmp_total) (on_total (λ (s : Server). s.port) nat_cmp_total)

port_ties : (m n : ℕ) → is_eq (nat_cmp m n) ≡ (m == n)
port_ties m n = grind (arith, nat_tests)

address_ties : (a b : Server) → same_address a b ≡ is_eq (address_cmp a b)
address_ties a b =
    ap (λ t. t && (a.port == b.port)) (texts_ties a.host b.host) ∙ ap (λ t. is_eq (bytes_cmp a.host b.host) && t) (sym (port_ties a.port b.port))
    ∙ sym (then_ties (bytes_cmp a.host b.host) (nat_cmp a.port b.port))

-- what isn't below by name isn't below by address
not_below : (hosts ports starts : Ordering) → is_lt (ordering_then hosts (ordering_then ports starts)) ≡ false → is_lt (ordering_then hosts ports) ≡ false
not_below Less ports starts off = off
not_below Equal Less starts off = off
not_below Equal Equal starts off = refl
not_below Equal Greater starts off = refl
not_below Greater ports starts off = refl

not_below_by : (a b : Server) → is_lt (server_cmp a b) ≡ false → is_lt (address_cmp a b) ≡ false
not_below_by a b off = not_below (bytes_cmp a.host b.host) (nat_cmp a.port b.port) (nat_cmp a.start b.start) off

module _ (servers : List Server) (server : Server) where
  rise : IsSorted server_cmp servers → IsNonDecreasingBy (λ other. ordering_index (address_cmp other server)) servers
  rise sorted = searchable_from_sorted addresses_total (λ other. other) servers server (λ k d low high. not_below_by (get_or servers (k + 1) d) (get_or servers k d) (sorted k d low high))

  apart : (other : Server) (o : Ordering) → address_cmp other server ≡ o → is_eq o ≡ false → same_address other server ≡ false
  apart other o is off = address_ties other server ∙ ap is_eq is ∙ off

  -- a search ends at a server of the address exactly where there is one
  pub sought : (r : Result ℕ ℕ) → IsSorted server_cmp servers → IsSearchInRange r (length servers) → IsBinarySearchResult (λ other. address_cmp other server) servers r → is_ok r ≡ has_address servers server
  sought (Ok at) sorted range position = sym (list_any_at (λ other. same_address other server) servers at server range (address_ties (get_or servers at server) server ∙ ap is_eq (position server)))
  sought (Err at) sorted range position =
      let ends = position (rise sorted) in
      sym (list_any_none (λ other. same_address other server) servers (All-from_all_within (λ other. same_address other server ≡ false) servers (λ k d low high. (
      elim (cases_Bool (nat_lt k at)) [
        | inl before ↦ apart (get_or servers k d) Less (ends.0 k d low (grind (arith, nat_tests))) refl
        | inr after ↦ apart (get_or servers k d) Greater (ends.1 k d (grind (arith, nat_tests)) high) refl
      ]))))
