-- Servers of one address that came up with a start code or a greater one, and other servers that are live.
use Rattle.std.proofs.Common.{◌≡◌, ℕ, zero, suc, ◌<◌, ◌≤◌, List, [], ◌∷◌, Bool, true, false, not, ◌&&◌, ◌||◌, nat_lt, length, drop, get_or, slice_get, Some, refl, ap, sym, ◌∙◌, subst, inl, inr, arith}
use Rattle.std.specs.List.{list_any}
use Rattle.std.specs.Ordering.{is_eq, is_lt}
use Rattle.std.specs.declared.cmp.Ordering.{Ordering}
use Rattle.std.specs.declared.cmp.Ordering.TheVariants.{Less, Equal, Greater}
use Rattle.std.proofs.lemmas.Bool.{cases_Bool, lt-ltb, true≢false}
use Rattle.hm_names.specs.Order.{server_cmp}
use Rattle.hm_names.specs.Server.{Server}
use Rattle.hm_index.specs.Index.{IsRising, or_more, pairs_from}
use Rattle.hm_model.specs.Fleet.{same_address, same_server}
use Rattle.hm_model.specs.Standings.{live_servers}
use Rattle.hm_model.proofs.NameTies.{server_cmp-is}
use Rattle.hm_model.specs.declared.standing.Standing.{Standing}
use Rattle.hm_places.specs.Chosen.{has}
use Rattle.hm_places.specs.Servers.{AreServers, first_there, has_newer_in, has_older_in}
use Rattle.hm_places.proofs.Addresses.{AreFrom, above_all, from_all, from_rising, not_older, older}
use Rattle.hm_places.proofs.Fleets.{first_is, older_one}
use Rattle.hm_places.proofs.Live.{live_names}

module _ (server : Server) where
  abbrev is_newer : Server × Standing → Bool
  is_newer row = same_address server row.0 && not (nat_lt row.0.start server.start)

  below_not : (row : Server × Standing) → server_cmp row.0 server ≡ Less → is_newer row ≡ false
  below_not row less = elim (cases_Bool (same_address server row.0)) [
    | inl on ↦ rw (on, lt-ltb row.0.start server.start (older server row.0 less on)) refl
    | inr off ↦ rw off refl
  ]

  newer_from : (rows : List (Server × Standing)) → has_newer_in rows server ≡ has_newer_in (pairs_from server_cmp rows server) server
  newer_from [] = refl
  newer_from (row ∷ rows) = by (server_cmp row.0 server) refl (newer_from rows)
    where
      by : (o : Ordering) → server_cmp row.0 server ≡ o → has_newer_in rows server ≡ has_newer_in (pairs_from server_cmp rows server) server
          → has_newer_in (row ∷ rows) server ≡ has_newer_in (or_more o row rows (pairs_from server_cmp rows server)) server
      by Less e rest = ap (λ b. b || has_newer_in rows server) (below_not row e) ∙ rest
      by Equal e rest = refl
      by Greater e rest = refl

  none_newer : (rows : List (Server × Standing)) → ((j : ℕ) (row : Server × Standing) → slice_get rows j ≡ Some row → same_address server row.0 ≡ false) → has_newer_in rows server ≡ false
  none_newer [] off = refl
  none_newer (row ∷ rows) off = rw (off zero row refl) (none_newer rows (λ j other there. off (suc j) other there))

  newer_first : (row : Server × Standing) (rows : List (Server × Standing)) → IsRising server_cmp (row ∷ rows) → is_lt (server_cmp row.0 server) ≡ false → has_newer_in (row ∷ rows) server ≡ same_address server row.0
  newer_first row rows rising from = elim (cases_Bool (same_address server row.0)) [
    | inl on ↦ rw (on, not_older server row.0 from on) refl
    | inr off ↦ rw off (none_newer rows (above_all server row rows rising from off))
  ]

  first_from : (rows : List (Server × Standing)) (row : Server × Standing) (rest : List (Server × Standing)) → IsRising server_cmp rows → pairs_from server_cmp rows server ≡ row ∷ rest
      → IsRising server_cmp (row ∷ rest) × (is_lt (server_cmp row.0 server) ≡ false)
  first_from rows row rest rising is =
      let all = subst (λ l. AreFrom server l) is (from_all server rows rising) in
      (subst (IsRising server_cmp) is (from_rising server rows rising), all.0)

  pub newer_seen : (rows : List (Server × Standing)) (row : Server × Standing) (rest : List (Server × Standing)) → IsRising server_cmp rows → pairs_from server_cmp rows server ≡ row ∷ rest → same_address server row.0 ≡ has_newer_in rows server
  newer_seen rows row rest rising is =
      let first = first_from rows row rest rising is in
      sym (newer_from rows ∙ ap (λ l. has_newer_in l server) is ∙ newer_first row rest first.0 first.1)

  pub newer_unseen : (rows : List (Server × Standing)) → pairs_from server_cmp rows server ≡ [] → false ≡ has_newer_in rows server
  newer_unseen rows is = sym (newer_from rows ∙ ap (λ l. has_newer_in l server) is)

-- the live one of an address tells whether an older one is live
any_by : (test : Server → Bool) (servers : List Server) (one : Server) → has server_cmp servers one ≡ true → test one ≡ true → list_any test servers ≡ true
any_by test [] one there passes = there
any_by test (server ∷ servers) one there passes = by (server_cmp server one) refl there (any_by test servers one)
  where
    right : (a b : Bool) → b ≡ true → (a || b) ≡ true
    right true b e = refl
    right false b e = e

    by : (o : Ordering) → server_cmp server one ≡ o → (is_eq o || has server_cmp servers one) ≡ true → (has server_cmp servers one ≡ true → test one ≡ true → list_any test servers ≡ true) → (test server || list_any test servers) ≡ true
    by Less e in_rest rest = right (test server) (list_any test servers) (rest in_rest passes)
    by Greater e in_rest rest = right (test server) (list_any test servers) (rest in_rest passes)
    by Equal e in_rest rest = ap (λ b. b || list_any test servers) (ap test (server_cmp-is server one e) ∙ passes)

pub older_first : (came servers : List (Server × Standing)) (numbers : List ℕ) → AreServers came servers numbers → (server first : Server) → first_there (live_servers servers) server ≡ Some first
    → nat_lt first.start server.start ≡ has_older_in servers server
older_first came servers numbers are server first is = by (nat_lt first.start server.start) refl
  where
    there : (has server_cmp (live_servers servers) first ≡ true) × (same_address server first ≡ true)
    there = first_is (live_servers servers) server first is

    by : (b : Bool) → nat_lt first.start server.start ≡ b → b ≡ has_older_in servers server
    by true e = sym (any_by (λ other. same_address server other && nat_lt other.start server.start) (live_servers servers) first there.0 (rw (there.1, e) refl))
    by false e = none (has_older_in servers server) refl
      where
        none : (b : Bool) → has_older_in servers server ≡ b → false ≡ b
        none false h = refl
        none true h = absurd (true≢false (sym (older_one came servers numbers are server first is h) ∙ e))

-- another one that is live
module _ (came : List (Server × Standing)) (server : Server) where
  abbrev is_other : Server → Bool
  is_other other = not (same_server server other)

  pub other_met : (row : Server × Standing) (numbers : List ℕ) (i : ℕ) → i < length numbers → slice_get came (get_or numbers i 0) ≡ Some row → same_server server row.0 ≡ false
      → list_any is_other (live_names came (drop i numbers)) ≡ true
  other_met row [] i lt is off = absurd (omega arith)
  other_met row (n ∷ numbers) zero lt is off = rw (is, off) refl
  other_met row (n ∷ numbers) (suc i) lt is off = other_met row numbers i (omega arith) is off

  pub other_none : (numbers : List ℕ) (i : ℕ) → length numbers ≤ i → list_any is_other (live_names came (drop i numbers)) ≡ false
  other_none [] zero le = refl
  other_none [] (suc i) le = refl
  other_none (n ∷ numbers) zero le = absurd (omega arith)
  other_none (n ∷ numbers) (suc i) le = other_none numbers i (omega arith)
