-- The live server at an address, where a search ends: the addresses of those before it are below, and its own isn't.
use Rattle.std.proofs.Common.{◌≡◌, ◌≤◌, ℕ, zero, suc, List, [], ◌∷◌, length, map, slice_get, Option, Some, None, true, false, refl, arith, ap, sym, ◌∙◌}
use Rattle.std.specs.List.{AllWithin, cons_option}
use Rattle.std.specs.Ordering.{is_eq, is_lt, ordering_index, ordering_reverse, ordering_then, nat_cmp}
use Rattle.std.specs.declared.cmp.Ordering.{Ordering}
use Rattle.std.specs.declared.cmp.Ordering.TheVariants.{Less, Equal, Greater}
use Rattle.std.proofs.lemmas.Cmp.{tied_back}
use Rattle.std.proofs.lemmas.Option.{none-some, same_Some}
use Rattle.hm_names.specs.Order.{server_cmp}
use Rattle.hm_names.specs.Server.{Server}
use Rattle.hm_model.specs.Fleet.{same_address}
use Rattle.hm_model.specs.declared.standing.Standing.{Standing}
use Rattle.hm_places.specs.Chosen.{cmp_if, IsBelow, Rises}
use Rattle.hm_places.specs.Servers.{address_cmp, first_there, name_of}
use Rattle.hm_places.proofs.Addresses.{address_ties, addresses_total, by_parts, still_above}
use Rattle.hm_places.proofs.Live.{live_names}
use Rattle.hm_places.proofs.Sorted.{lowers}

-- servers that rise don't fall by their addresses
pub addresses_rise : (server : Server) (a b : Option Server) → cmp_if server_cmp a b ≡ Less → ordering_index (cmp_if address_cmp a (Some server)) ≤ ordering_index (cmp_if address_cmp b (Some server))
addresses_rise server None b less = omega arith
addresses_rise server (Some a) None less = cc
addresses_rise server (Some a) (Some b) less = by (address_cmp a b) refl
  where
    whole : ordering_then (address_cmp a b) (nat_cmp a.start b.start) ≡ Less
    whole = sym (by_parts a b) ∙ less

    by : (o : Ordering) → address_cmp a b ≡ o → ordering_index (address_cmp a server) ≤ ordering_index (address_cmp b server)
    by Less e = lowers address_cmp addresses_total a b server e
    by Equal e = rw (addresses_total.congr a b server e) (omega arith)
    by Greater e = let high : Greater ≡ Less = sym (ap (λ o. ordering_then o (nat_cmp a.start b.start)) e) ∙ whole in cc

module _ (came : List (Server × Standing)) (server : Server) where
  abbrev pub rank : ℕ → Ordering
  rank n = cmp_if address_cmp (name_of came n) (Some server)

  -- one whose address is below has another
  lower_off : (other : Server) → is_lt (address_cmp other server) ≡ true → same_address server other ≡ false
  lower_off other low = address_ties server other ∙ by (address_cmp other server) refl low
    where
      by : (o : Ordering) → address_cmp other server ≡ o → is_lt o ≡ true → is_eq (address_cmp server other) ≡ false
      by Less e low = ap is_eq (addresses_total.antisymm server other ∙ ap ordering_reverse e)
      by Equal e low = cc
      by Greater e low = cc

  step : (n : ℕ) (numbers : List ℕ) → is_lt (rank n) ≡ true → first_there (live_names came (n ∷ numbers)) server ≡ first_there (live_names came numbers) server
  step n numbers low = by (name_of came n) low
    where
      by : (name : Option Server) → is_lt (cmp_if address_cmp name (Some server)) ≡ true → first_there (cons_option name (live_names came numbers)) server ≡ first_there (live_names came numbers) server
      by None low = refl
      by (Some other) low = rw (lower_off other low) refl

  pub there_found : (numbers : List ℕ) (at n : ℕ) (row : Server × Standing) → slice_get numbers at ≡ Some n → slice_get came n ≡ Some row → same_address server row.0 ≡ true
      → AllWithin (λ m. is_lt (rank m) ≡ true) numbers 0 at → first_there (live_names came numbers) server ≡ Some row.0
  there_found [] at n row here is on low = absurd (none-some n here)
  there_found (m ∷ numbers) zero n row here is on low = rw (same_Some m n here, is, on) refl
  there_found (m ∷ numbers) (suc at) n row here is on low =
      step m numbers (low zero m (omega arith) (omega arith)) ∙ there_found numbers at n row here is on (λ k d le lt. low (suc k) d (omega arith) (omega arith))

  pub there_ended : (numbers : List ℕ) (at : ℕ) → slice_get numbers at ≡ None → AllWithin (λ m. is_lt (rank m) ≡ true) numbers 0 at → first_there (live_names came numbers) server ≡ None
  there_ended [] at here low = refl
  there_ended (m ∷ numbers) zero here low = absurd (none-some m (sym here))
  there_ended (m ∷ numbers) (suc at) here low =
      step m numbers (low zero m (omega arith) (omega arith)) ∙ there_ended numbers at here (λ k d le lt. low (suc k) d (omega arith) (omega arith))

  -- after one whose address is above, none has it
  none_above : (first : Server) (numbers : List ℕ) → address_cmp server first ≡ Less → IsBelow (cmp_if server_cmp) (Some first) (map (name_of came) numbers) → first_there (live_names came numbers) server ≡ None
  none_above first [] high below = refl
  none_above first (n ∷ numbers) high below = by (name_of came n) below.0 (none_above first numbers high below.1)
    where
      by : (name : Option Server) → cmp_if server_cmp (Some first) name ≡ Less → first_there (live_names came numbers) server ≡ None → first_there (cons_option name (live_names came numbers)) server ≡ None
      by None less more = more
      by (Some other) less more = rw (still_above server first other high less) more

  above : (first : Server) → is_lt (address_cmp first server) ≡ false → same_address server first ≡ false → address_cmp server first ≡ Less
  above first from off = by (address_cmp first server) refl from
    where
      apart : is_eq (address_cmp server first) ≡ false
      apart = sym (address_ties server first) ∙ off

      by : (o : Ordering) → address_cmp first server ≡ o → is_lt o ≡ false → address_cmp server first ≡ Less
      by Less e from = cc
      by Equal e from = let both : true ≡ false = sym (ap is_eq (tied_back addresses_total first server e)) ∙ apart in cc
      by Greater e from = addresses_total.antisymm server first ∙ ap ordering_reverse e

  pub there_other : (numbers : List ℕ) (at n : ℕ) (row : Server × Standing) → slice_get numbers at ≡ Some n → slice_get came n ≡ Some row → same_address server row.0 ≡ false
      → Rises (cmp_if server_cmp) (map (name_of came) numbers) → AllWithin (λ m. is_lt (rank m) ≡ true) numbers 0 at → AllWithin (λ m. is_lt (rank m) ≡ false) numbers at (length numbers)
      → first_there (live_names came numbers) server ≡ None
  there_other [] at n row here is off rises low high = refl
  there_other (m ∷ numbers) zero n row here is off rises low high =
      let named : name_of came m ≡ Some row.0 = rw (same_Some m n here, is) refl in
      let from : is_lt (address_cmp row.0 server) ≡ false = rw named at (high zero m (omega arith) (omega arith)) in
      rw (named, off) (none_above row.0 numbers (above row.0 from off) (rw named at rises.0))
  there_other (m ∷ numbers) (suc at) n row here is off rises low high =
      step m numbers (low zero m (omega arith) (omega arith))
      ∙ there_other numbers at n row here is off rises.1 (λ k d le lt. low (suc k) d (omega arith) (omega arith)) (λ k d le lt. high (suc k) d (omega arith) (omega arith))

  -- each number that isn't below is of a server
  pub there_none : (numbers : List ℕ) (at n : ℕ) → slice_get numbers at ≡ Some n → slice_get came n ≡ None → AllWithin (λ m. is_lt (rank m) ≡ false) numbers at (length numbers) → ⊥
  there_none [] at n here is high = none-some n here
  there_none (m ∷ numbers) zero n here is high =
      let named : name_of came m ≡ None = rw (same_Some m n here, is) refl in
      let from : true ≡ false = rw named at (high zero m (omega arith) (omega arith)) in
      cc
  there_none (m ∷ numbers) (suc at) n here is high = there_none numbers at n here is (λ k d le lt. high (suc k) d (omega arith) (omega arith))
