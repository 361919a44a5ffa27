-- The servers of a journal in name order, and that of those of one address only the latest is live.
use Rattle.std.proofs.Common.{◌≡◌, ℕ, List, [], ◌∷◌, Bool, true, false, cond, not, ◌&&◌, ◌||◌, ◌==◌, nat_lt, Option, Some, None, refl, ap, sym, ◌∙◌, inl, inr, bytes_eq, arith}
use Rattle.std.specs.List.{list_any}
use Rattle.std.specs.Ordering.{nat_cmp, ordering_then}
use Rattle.std.specs.declared.cmp.Ordering.TheVariants.{Equal, Greater, Less}
use Rattle.std.proofs.lemmas.Bool.{and_from, and_parts, eqb-true, eq-eqb, false≢true, or_cases, true≢false}
use Rattle.std.proofs.lemmas.Bool.Decides.{nat_tests}
use Rattle.std.proofs.lemmas.Cmp.{nat_cmp_total, tied_itself}
use Rattle.hm_names.specs.Order.{bytes_cmp, server_cmp}
use Rattle.hm_names.specs.Server.{Server}
use Rattle.hm_data.specs.declared.catalog.CatKey.TheVariants as key_is
use Rattle.hm_data.specs.declared.entry.Entry.TheVariants as entry_is
use Rattle.hm_data.specs.declared.part.Part.TheVariants as part_is
use Rattle.hm_model.specs.Fleet.{came_up, has_newer, has_older_live, is_live, same_address, same_server, servers_of, with_server}
use Rattle.hm_model.specs.Journal.{Past}
use Rattle.hm_model.specs.Locks.{IsIn}
use Rattle.hm_model.specs.Parts.{part_server}
use Rattle.hm_model.specs.Rules.{IsLegal}
use Rattle.hm_model.proofs.CameUp.{any_with, live_came}
use Rattle.hm_model.proofs.KeyTests.{bytes_eq-is, bytes_eq-refl, key_cmp-refl}
use Rattle.hm_model.proofs.NameTies.{same_server-is, same_server-refl, servers_total}
use Rattle.hm_rebase.proofs.Orders.{InOrder, order_with}
use Rattle.std.proofs.Math.Bool.{and-true}

pub servers_order : (J : Past) → InOrder server_cmp (servers_of J)
servers_order [] = tt
servers_order (entry_is.Up server ∷ J) = order_with server_cmp servers_total server (servers_of J) (servers_order J)
servers_order (entry_is.Base part ∷ J) = by (part_server part) (servers_order J)
  where
    by : (o : Option (Server × Bool)) → InOrder server_cmp (servers_of J) → InOrder server_cmp (elim o as (λ s. List Server) [ None ↦ servers_of J | Some both ↦ with_server both.0 (servers_of J) ])
    by None order = order
    by (Some both) order = order_with server_cmp servers_total both.0 (servers_of J) order
servers_order (entry ∷ J) = servers_order J

-- who is in the list came up
pub in_came : (server : Server) (list : List Server) → IsIn server list → list_any (λ o. same_server server o) list ≡ true
in_came server [] h = elim h [ ]
in_came server (first ∷ more) (inl here) = ap (λ o. same_server server o || list_any (λ x. same_server server x) more) (sym here) ∙ ap (λ b. b || list_any (λ x. same_server server x) more) (same_server-refl server)
in_came server (first ∷ more) (inr later) = by (same_server server first) (in_came server more later)
  where
    by : (b : Bool) → list_any (λ x. same_server server x) more ≡ true → (b || list_any (λ x. same_server server x) more) ≡ true
    by true on = refl
    by false on = on

pub came_in : (server : Server) (list : List Server) → list_any (λ o. same_server server o) list ≡ true → IsIn server list
came_in server [] h = absurd (false≢true h)
came_in server (first ∷ more) h = elim (or_cases (same_server server first) (list_any (λ o. same_server server o) more) h) [
  | inl here ↦ inl (same_server-is server first here)
  | inr later ↦ inr (came_in server more later)
]

pub any_none : (f : Server → Bool) (list : List Server) → ((y : Server) → IsIn y list → f y ≡ false) → list_any f list ≡ false
any_none f [] off = refl
any_none f (first ∷ more) off = ap (λ b. b || list_any f more) (off first (inl refl)) ∙ any_none f more (λ y among. off y (inr among))

pub any_in : (f : Server → Bool) (list : List Server) (y : Server) → IsIn y list → f y ≡ true → list_any f list ≡ true
any_in f [] y h on = elim h [ ]
any_in f (first ∷ more) y (inl here) on = ap (λ b. b || list_any f more) (ap f (sym here) ∙ on)
any_in f (first ∷ more) y (inr later) on = by (f first) (any_in f more y later on)
  where
    by : (b : Bool) → list_any f more ≡ true → (b || list_any f more) ≡ true
    by true h = refl
    by false h = h

-- of two servers of one address the first in name order has the lower start code
pub start_less : (y s : Server) → same_address s y ≡ true → server_cmp y s ≡ Less → nat_lt y.start s.start ≡ true
start_less y s near less = by (nat_lt y.start s.start) (y.start == s.start) (sym both ∙ less)
  where
    parts : (bytes_eq s.host y.host ≡ true) × ((s.port == y.port) ≡ true)
    parts = and_parts (bytes_eq s.host y.host) (s.port == y.port) near

    hosts : bytes_cmp y.host s.host ≡ Equal
    hosts = ap (bytes_cmp y.host) (bytes_eq-is s.host y.host (and_parts (bytes_eq s.host y.host) (s.port == y.port) near).0) ∙ key_cmp-refl (key_is.Ns y.host)

    ports : nat_cmp y.port s.port ≡ Equal
    ports = ap (nat_cmp y.port) (eqb-true s.port y.port (and_parts (bytes_eq s.host y.host) (s.port == y.port) near).1) ∙ tied_itself nat_cmp_total y.port

    both : server_cmp y s ≡ nat_cmp y.start s.start
    both = ap (λ o. ordering_then o (ordering_then (nat_cmp y.port s.port) (nat_cmp y.start s.start))) hosts ∙ ap (λ o. ordering_then o (nat_cmp y.start s.start)) ports

    by : (a b : Bool) → cond a Less (cond b Equal Greater) ≡ Less → a ≡ true
    by true b e = refl
    by false true e = absurd (cc)
    by false false e = absurd (cc)

near_turned : (a b : Server) → same_address a b ≡ true → same_address b a ≡ true
near_turned a b near =
    let parts = and_parts (bytes_eq a.host b.host) (a.port == b.port) near in
    and_from (bytes_eq b.host a.host) (b.port == a.port) (ap (bytes_eq b.host) (bytes_eq-is a.host b.host parts.0) ∙ bytes_eq-refl b.host) (eq-eqb b.port a.port (sym (eqb-true a.port b.port parts.1)))

-- only the latest of an address is live
abbrev IsLatest : Past → Type 0
IsLatest J = (y s : Server) → came_up J s ≡ true → is_live J y ≡ true → same_address s y ≡ true → nat_lt y.start s.start ≡ true → ⊥

not_both : (a b : ℕ) → nat_lt a b ≡ true → not (nat_lt b a) ≡ true
not_both a b less = grind (arith, nat_tests)

-- one comes up, or is brought by a part, alive or not
module _ (J : Past) (o : Server) (alive : Bool) (old : IsLatest J) (newer : has_newer J o ≡ false) (older : has_older_live J o ≡ false) where
  latest_with : (y s : Server) → (same_server s o || came_up J s) ≡ true → ((same_server y o && alive) || is_live J y) ≡ true → same_address s y ≡ true → nat_lt y.start s.start ≡ true → ⊥
  latest_with y s came live near less = elim (or_cases (same_server s o) (came_up J s) came) [
    | inl new ↦
        let one = same_server-is s o new in
        elim (or_cases (same_server y o && alive) (is_live J y) live) [
          | inl too ↦
              let other = same_server-is y o (and_parts (same_server y o) alive too).0 in
              (let same : y.start ≡ s.start = ap (λ (x : Server). x.start) (other ∙ sym one) in false≢true (sym (ap (λ n. nat_lt n s.start) same ∙ grind (arith, nat_tests)) ∙ less))
          | inr was ↦
              let near_o : same_address o y ≡ true = ap (λ x. same_address x y) (sym one) ∙ near in
              let less_o : nat_lt y.start o.start ≡ true = ap (λ (x : Server). nat_lt y.start x.start) (sym one) ∙ less in
              true≢false (sym (any_in (λ x. same_address o x && (nat_lt x.start o.start && is_live J x)) (servers_of J) y (came_in y (servers_of J) (live_came J y was)) (and_from (same_address o y) (nat_lt y.start o.start && is_live J y) near_o (and_from (nat_lt y.start o.start) (is_live J y) less_o was))) ∙ older)
        ]
    | inr came_old ↦ elim (or_cases (same_server y o && alive) (is_live J y) live) [
      | inr was ↦ old y s came_old was near less
      | inl new ↦
          let one = same_server-is y o (and_parts (same_server y o) alive new).0 in
          let near_o : same_address o s ≡ true = ap (λ x. same_address x s) (sym one) ∙ near_turned s y near in
          let less_o : not (nat_lt s.start o.start) ≡ true = ap (λ (x : Server). not (nat_lt s.start x.start)) (sym one) ∙ not_both y.start s.start less in
          true≢false (sym (any_in (λ x. same_address o x && not (nat_lt x.start o.start)) (servers_of J) s (came_in s (servers_of J) came_old) (and_from (same_address o s) (not (nat_lt s.start o.start)) near_o less_o)) ∙ newer)
    ]
  ]

pub latest_all : (J : Past) → IsLegal J → IsLatest J
latest_all [] legal y s came live near less = false≢true live
latest_all (entry_is.Up o ∷ J) legal y s came live near less =
    latest_with J o true (latest_all J legal.0) legal.1.1.0 legal.1.1.1.0 y s (sym (any_with (λ x. same_server s x) o (servers_of J)) ∙ came) (ap (λ b. b || is_live J y) (and-true (same_server y o)) ∙ live) near less
latest_all (entry_is.Down o ∷ J) legal y s came live near less = latest_all J legal.0 y s came (and_parts (not (same_server y o)) (is_live J y) live).1 near less
latest_all (entry_is.Base (part_is.Server o gone) ∷ J) legal y s came live near less =
    latest_with J o (not gone) (latest_all J legal.0) legal.1.0.1 legal.1.0.2 y s (sym (any_with (λ x. same_server s x) o (servers_of J)) ∙ came) live near less
latest_all (entry_is.Base (part_is.Head entries last parts sheets) ∷ J) legal y s came live near less = latest_all J legal.0 y s came live near less
latest_all (entry_is.Base (part_is.Namespace ns) ∷ J) legal y s came live near less = latest_all J legal.0 y s came live near less
latest_all (entry_is.Base (part_is.Table table own row) ∷ J) legal y s came live near less = latest_all J legal.0 y s came live near less
latest_all (entry_is.Base (part_is.Region region range status parents place) ∷ J) legal y s came live near less = latest_all J legal.0 y s came live near less
latest_all (entry_is.Base (part_is.Root pid nonce args cause) ∷ J) legal y s came live near less = latest_all J legal.0 y s came live near less
latest_all (entry_is.Base (part_is.Layout pid) ∷ J) legal y s came live near less = latest_all J legal.0 y s came live near less
latest_all (entry ∷ J) legal y s came live near less = latest_all J legal.0 y s came live near less
