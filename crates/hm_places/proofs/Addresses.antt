-- The order of servers by their addresses, and the start codes at an address.
use Rattle.std.proofs.Common.{nat_lt, ◌≡◌, ℕ, zero, suc, ◌<◌, ◌≤◌, List, [], ◌∷◌, max, slice_get, Some, true, false, ◌&&◌, ◌==◌, refl, inl, inr, arith, ap, sym, ◌∙◌}
use Rattle.std.specs.Cmp.{IsTotalOrder}
use Rattle.std.specs.Cmp.Lexicographic.{texts_ties}
use Rattle.std.specs.Ordering.{is_eq, is_lt, ordering_then, ordering_reverse, nat_cmp}
use Rattle.std.specs.declared.cmp.Ordering.{Ordering}
use Rattle.std.specs.declared.cmp.Ordering.TheVariants.{Less, Equal, Greater}
use Rattle.std.proofs.lemmas.Bool.{cases_Bool}
use Rattle.std.proofs.lemmas.Bool.Decides.{nat_tests}
use Rattle.std.proofs.lemmas.Cmp.{nat_list_cmp_total, nat_cmp_total, on_total, then_total, tied_back, alike_right, ranked}
use Rattle.hm_names.specs.Order.{bytes_cmp, server_cmp}
use Rattle.hm_names.specs.Server.{Server}
use Rattle.hm_index.specs.Index.{IsRising, pairs_from, or_more}
use Rattle.hm_model.specs.Fleet.{same_address}
use Rattle.hm_model.specs.Standings.{greatest_start}
use Rattle.hm_places.specs.Servers.{address_cmp}
use Rattle.hm_model.specs.declared.standing.Standing.{Standing}
use Rattle.hm_model.proofs.NameTies.{servers_total}
use Rattle.hm_places.proofs.Sorted.{is_equal}

pub addresses_total : IsTotalOrder address_cmp
addresses_total = then_total (on_total (λ (s : Server). s.host) nat_list_cmp_total) (on_total (λ (s : Server). s.port) nat_cmp_total)

assoc : (o p q : Ordering) → ordering_then o (ordering_then p q) ≡ ordering_then (ordering_then o p) q
assoc Less p q = refl
assoc Equal p q = refl
assoc Greater p q = refl

pub by_parts : (a b : Server) → server_cmp a b ≡ ordering_then (address_cmp a b) (nat_cmp a.start b.start)
by_parts a b = assoc (bytes_cmp a.host b.host) (nat_cmp a.port b.port) (nat_cmp a.start b.start)

port_ties : (m n : ℕ) → is_eq (nat_cmp m n) ≡ (m == n)
port_ties m n = grind (arith, nat_tests)

both_tie : (o p : Ordering) → is_eq (ordering_then o p) ≡ (is_eq o && is_eq p)
both_tie Less p = refl
both_tie Equal p = refl
both_tie Greater p = refl

pub address_ties : (a b : Server) → same_address a b ≡ is_eq (address_cmp a b)
address_ties a b = ap (λ t. t && (a.port == b.port)) (texts_ties a.host b.host) ∙ ap (λ t. is_eq (bytes_cmp a.host b.host) && t) (sym (port_ties a.port b.port)) ∙ sym (both_tie (bytes_cmp a.host b.host) (nat_cmp a.port b.port))

-- servers that aren't below one
abbrev pub AreFrom : Server → List (Server × Standing) → Type 0
AreFrom server [] = Unit {0}
AreFrom server (row ∷ more) = (is_lt (server_cmp row.0 server) ≡ false) × AreFrom server more

pub rising_tail : (row : Server × Standing) (rows : List (Server × Standing)) → IsRising server_cmp (row ∷ rows) → IsRising server_cmp rows
rising_tail row rows rising i j a b lt one two = rising (suc i) (suc j) a b (omega arith) one two

first_low : (row : Server × Standing) (rows : List (Server × Standing)) → IsRising server_cmp (row ∷ rows) → (j : ℕ) (b : Server × Standing) → slice_get rows j ≡ Some b → server_cmp row.0 b.0 ≡ Less
first_low row rows rising j b there = rising zero (suc j) row b (omega arith) refl there

module _ (server : Server) where
  not_lower : (p y : Server) → is_lt (server_cmp p server) ≡ false → server_cmp p y ≡ Less → is_lt (server_cmp y server) ≡ false
  not_lower p y from less = by (server_cmp y server) refl
    where
      by : (o : Ordering) → server_cmp y server ≡ o → is_lt o ≡ false
      by Less e = let low : server_cmp p server ≡ Less = servers_total.trans p y server less e in ap is_lt (sym low) ∙ from
      by Equal e = refl
      by Greater e = refl

  all_from : (p : Server) (rows : List (Server × Standing)) → is_lt (server_cmp p server) ≡ false → ((j : ℕ) (b : Server × Standing) → slice_get rows j ≡ Some b → server_cmp p b.0 ≡ Less) → AreFrom server rows
  all_from p [] from low = tt
  all_from p (row ∷ rows) from low = (not_lower p row.0 from (low zero row refl), all_from p rows from (λ j b there. low (suc j) b there))

  pub from_all : (rows : List (Server × Standing)) → IsRising server_cmp rows → AreFrom server (pairs_from server_cmp rows server)
  from_all [] rising = tt
  from_all (row ∷ rows) rising = by (server_cmp row.0 server) refl (from_all rows (rising_tail row rows rising))
    where
      by : (o : Ordering) → server_cmp row.0 server ≡ o → AreFrom server (pairs_from server_cmp rows server) → AreFrom server (or_more o row rows (pairs_from server_cmp rows server))
      by Less e more = more
      by Equal e more = (ap is_lt e, all_from row.0 rows (ap is_lt e) (first_low row rows rising))
      by Greater e more = (ap is_lt e, all_from row.0 rows (ap is_lt e) (first_low row rows rising))

  pub from_rising : (rows : List (Server × Standing)) → IsRising server_cmp rows → IsRising server_cmp (pairs_from server_cmp rows server)
  from_rising [] rising = rising
  from_rising (row ∷ rows) rising = by (server_cmp row.0 server) (from_rising rows (rising_tail row rows rising))
    where
      by : (o : Ordering) → IsRising server_cmp (pairs_from server_cmp rows server) → IsRising server_cmp (or_more o row rows (pairs_from server_cmp rows server))
      by Less more = more
      by Equal more = rising
      by Greater more = rising

  -- after one that is above the address, none has it
  above_address : (p : Server) → is_lt (server_cmp p server) ≡ false → same_address server p ≡ false → address_cmp server p ≡ Less
  above_address p from off = by (address_cmp p server) refl
    where
      apart : is_eq (address_cmp server p) ≡ false
      apart = sym (address_ties server p) ∙ off

      by : (o : Ordering) → address_cmp p server ≡ o → address_cmp server p ≡ Less
      by Less e = let low : is_lt (server_cmp p server) ≡ true = ap is_lt (by_parts p server) ∙ ap (λ o. is_lt (ordering_then o (nat_cmp p.start server.start))) e in cc
      by Equal e = let on : is_eq (address_cmp server p) ≡ true = ap is_eq (tied_back addresses_total p server e) in let both : true ≡ false = sym on ∙ apart in cc
      by Greater e = addresses_total.antisymm server p ∙ ap ordering_reverse e

  pub still_above : (p y : Server) → address_cmp server p ≡ Less → server_cmp p y ≡ Less → same_address server y ≡ false
  still_above p y low less = address_ties server y ∙ by (address_cmp p y) refl
    where
      by : (o : Ordering) → address_cmp p y ≡ o → is_eq (address_cmp server y) ≡ false
      by Less e = ap is_eq (addresses_total.trans server p y low e)
      by Equal e = ap is_eq (sym (alike_right addresses_total p y server e) ∙ low)
      by Greater e = let high : server_cmp p y ≡ Greater = by_parts p y ∙ ap (λ o. ordering_then o (nat_cmp p.start y.start)) e in cc

  none_there : (p : Server) (rows : List (Server × Standing)) → address_cmp server p ≡ Less → ((j : ℕ) (b : Server × Standing) → slice_get rows j ≡ Some b → server_cmp p b.0 ≡ Less) → greatest_start rows server ≡ 0
  none_there p [] low each = refl
  none_there p (row ∷ rows) low each = rw (still_above p row.0 low (each zero row refl)) (none_there p rows low (λ j b there. each (suc j) b there))

  pub past : (row : Server × Standing) (rows : List (Server × Standing)) → IsRising server_cmp (row ∷ rows) → is_lt (server_cmp row.0 server) ≡ false → same_address server row.0 ≡ false
      → greatest_start (row ∷ rows) server ≡ 0
  past row rows rising from off = rw off (none_there row.0 rows (above_address row.0 from off) (first_low row rows rising))

  none_behind : (p : Server) (rows : List (Server × Standing)) → address_cmp server p ≡ Less → ((j : ℕ) (b : Server × Standing) → slice_get rows j ≡ Some b → server_cmp p b.0 ≡ Less) → (j : ℕ) (b : Server × Standing) → slice_get rows j ≡ Some b → same_address server b.0 ≡ false
  none_behind p rows low each j b there = still_above p b.0 low (each j b there)

  pub above_all : (row : Server × Standing) (rows : List (Server × Standing)) → IsRising server_cmp (row ∷ rows) → is_lt (server_cmp row.0 server) ≡ false → same_address server row.0 ≡ false
      → (j : ℕ) (b : Server × Standing) → slice_get rows j ≡ Some b → same_address server b.0 ≡ false
  above_all row rows rising from off = none_behind row.0 rows (above_address row.0 from off) (first_low row rows rising)

  -- what stands below a server at its address has a lesser start code
  pub older : (p : Server) → server_cmp p server ≡ Less → same_address server p ≡ true → p.start < server.start
  older p less on =
      let tie : address_cmp server p ≡ Equal = is_equal (address_cmp server p) (sym (address_ties server p) ∙ on) in
      let back : address_cmp p server ≡ Equal = tied_back addresses_total server p tie in
      let low : nat_cmp p.start server.start ≡ Less = ap (λ o. ordering_then o (nat_cmp p.start server.start)) (sym back) ∙ sym (by_parts p server) ∙ less in
      ranked p.start server.start Less (sym low)

  -- and what doesn't has none
  pub not_older : (p : Server) → is_lt (server_cmp p server) ≡ false → same_address server p ≡ true → nat_lt p.start server.start ≡ false
  not_older p from on =
      let tie : address_cmp server p ≡ Equal = is_equal (address_cmp server p) (sym (address_ties server p) ∙ on) in
      let back : address_cmp p server ≡ Equal = tied_back addresses_total server p tie in
      let whole : server_cmp p server ≡ nat_cmp p.start server.start = by_parts p server ∙ ap (λ o. ordering_then o (nat_cmp p.start server.start)) back in
      let not_less : is_lt (nat_cmp p.start server.start) ≡ false = ap is_lt (sym whole) ∙ from in
      grind (arith, nat_tests, not_less)

  pub below_from : 1 ≤ server.start → (rows : List (Server × Standing))
      → record { most : ℕ; less : most < server.start; is : greatest_start rows server ≡ max most (greatest_start (pairs_from server_cmp rows server) server) }
  below_from start [] = record { most = 0; less = omega arith; is = refl }
  below_from start (row ∷ rows) = by (server_cmp row.0 server) refl (below_from start rows)
    where
      by : (o : Ordering) → server_cmp row.0 server ≡ o → record { most : ℕ; less : most < server.start; is : greatest_start rows server ≡ max most (greatest_start (pairs_from server_cmp rows server) server) }
          → record { most : ℕ; less : most < server.start; is : greatest_start (row ∷ rows) server ≡ max most (greatest_start (or_more o row rows (pairs_from server_cmp rows server)) server) }
      by Less e more = elim (cases_Bool (same_address server row.0)) [
        | inl on ↦ (let low = older row.0 e on in record { most = max row.0.start more.most; less = omega (arith, low, more.less); is = rw on (omega (arith, more.is)) })
        | inr off ↦ record { most = more.most; less = more.less; is = rw off more.is }
      ]
      by Equal e more = record { most = 0; less = omega arith; is = omega arith }
      by Greater e more = record { most = 0; less = omega arith; is = omega arith }

  pub judged : 1 ≤ server.start → (rows : List (Server × Standing)) (greatest : ℕ) → greatest ≡ greatest_start (pairs_from server_cmp rows server) server
      → record { old : server.start ≤ greatest → greatest ≡ greatest_start rows server; new : (server.start ≤ greatest → ⊥) → greatest_start rows server < server.start }
  judged start rows greatest is =
      let below = below_from start rows in
      record { old = λ le. omega (arith, below.is, below.less, is, le); new = λ not. omega (arith, below.is, below.less, is, not) }

  pub further : (row : Server × Standing) (rows : List (Server × Standing)) (total greatest : ℕ) → total ≡ max greatest (greatest_start (row ∷ rows) server) → same_address server row.0 ≡ true
      → total ≡ max (max row.0.start greatest) (greatest_start rows server)
  further row rows total greatest is on = let e = rw on at is in omega (arith, e)

  pub all_met : (row : Server × Standing) (rows : List (Server × Standing)) (total greatest : ℕ) → total ≡ max greatest (greatest_start (row ∷ rows) server) → IsRising server_cmp (row ∷ rows) → AreFrom server (row ∷ rows)
      → same_address server row.0 ≡ false → greatest ≡ total
  all_met row rows total greatest is rising from off = omega (arith, is, past row rows rising from.0 off)
