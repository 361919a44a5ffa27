-- Servers and regions compare as equal exactly where their tests call them the same.
use Rattle.std.proofs.Common.{Bool, List, [], ap, arith, false, inl, inr, nat_eq, nat_lt, not, refl, sym, true, ◌&&◌, ◌==◌, ◌∙◌, ◌∷◌, ◌≡◌}
use Rattle.std.specs.Cmp.{IsTotalOrder}
use Rattle.std.specs.Cmp.Lexicographic.{texts_ties}
use Rattle.std.specs.Ordering.{is_eq, ordering_then, nat_cmp}
use Rattle.std.specs.Str.{bytes_eq}
use Rattle.std.specs.declared.cmp.Ordering.{Ordering}
use Rattle.std.specs.declared.cmp.Ordering.TheVariants.{Less, Equal, Greater}
use Rattle.std.specs.List.{list_any}
use Rattle.std.proofs.lemmas.Bool.Decides.{nat_tests}
use Rattle.std.proofs.lemmas.Cmp.{nat_list_cmp_total, nat_cmp_total, on_total, then_total, tied_itself}
use Rattle.std.proofs.lemmas.Bool.{and_from, and_parts, false≢true, or_cases, or_left, or_right}
use Rattle.hm_names.specs.Order.{bytes_cmp, table_cmp, region_cmp, server_cmp}
use Rattle.hm_names.specs.Region.{Region}
use Rattle.hm_names.specs.Server.{Server}
use Rattle.hm_names.specs.declared.table.TableName.{TableName}
use Rattle.hm_model.specs.Fleet.{same_address, same_server}
use Rattle.hm_model.specs.Keys.{same_region}
use Rattle.hm_model.proofs.KeyTests.{both_equal, bytes_eq-is, bytes_eq-refl, nat_cmp-is, region_cmp-is, same_region-is, same_region-refl}

pub tables_total : IsTotalOrder table_cmp
tables_total = then_total (on_total (λ (t : TableName). t.ns) nat_list_cmp_total) (on_total (λ (t : TableName). t.qualifier) nat_list_cmp_total)

pub regions_total : IsTotalOrder region_cmp
regions_total = then_total (on_total (λ (r : Region). r.table) tables_total) (on_total (λ (r : Region). r.id) nat_cmp_total)

pub servers_total : IsTotalOrder server_cmp
servers_total = then_total (on_total (λ (s : Server). s.host) nat_list_cmp_total) (then_total (on_total (λ (s : Server). s.port) nat_cmp_total) (on_total (λ (s : Server). s.start) nat_cmp_total))

-- what comes of a test and of a comparison that agree on what is one
ties_by : {K : Type 0} (cmp : K → K → Ordering) (same : K → K → Bool) → IsTotalOrder cmp → ((a b : K) → cmp a b ≡ Equal → a ≡ b) → ((a b : K) → same a b ≡ true → a ≡ b) → ((a : K) → same a a ≡ true)
    → (a b : K) → (t : Bool) → same a b ≡ t → is_eq (cmp a b) ≡ t
ties_by cmp same total is one itself a b true e = ap (λ x. is_eq (cmp a x)) (sym (one a b e)) ∙ ap is_eq (tied_itself total a)
ties_by cmp same total is one itself a b false e = by (cmp a b) refl
  where
    by : (o : Ordering) → cmp a b ≡ o → is_eq o ≡ false
    by Less h = refl
    by Greater h = refl
    by Equal h =
        let on : same a b ≡ true = ap (same a) (sym (is a b h)) ∙ itself a in
        cc

pub region_ties : (a b : Region) → is_eq (region_cmp a b) ≡ same_region a b
region_ties a b = ties_by region_cmp same_region regions_total region_cmp-is same_region-is same_region-refl a b (same_region a b) refl

by_parts : (a b : Server) → a.host ≡ b.host → a.port ≡ b.port → a.start ≡ b.start → a ≡ b
by_parts a b one two three =
    ap (λ h. let s : Server = record { host = h; port = a.port; start = a.start } in s) one
    ∙ ap (λ p. let s : Server = record { host = b.host; port = p; start = a.start } in s) two
    ∙ ap (λ n. let s : Server = record { host = b.host; port = b.port; start = n } in s) three

pub server_cmp-is : (a b : Server) → server_cmp a b ≡ Equal → a ≡ b
server_cmp-is a b h =
    let parts = both_equal (bytes_cmp a.host b.host) (ordering_then (nat_cmp a.port b.port) (nat_cmp a.start b.start)) h in
    let more = both_equal (nat_cmp a.port b.port) (nat_cmp a.start b.start) parts.1 in
    by_parts a b (bytes_eq-is a.host b.host (texts_ties a.host b.host ∙ ap is_eq parts.0)) (nat_cmp-is a.port b.port more.0) (nat_cmp-is a.start b.start more.1)

pub same_server-is : (a b : Server) → same_server a b ≡ true → a ≡ b
same_server-is a b e =
    let parts = split (bytes_eq a.host b.host) (a.port == b.port) (a.start == b.start) e in
    by_parts a b (bytes_eq-is a.host b.host parts.0) (grind (arith, nat_tests, parts.1.0)) (grind (arith, nat_tests, parts.1.1))
  where
    split : (a b c : Bool) → ((a && b) && c) ≡ true → (a ≡ true) × ((b ≡ true) × (c ≡ true))
    split true true true e = (refl, (refl, refl))
    split true true false e = cc
    split true false c e = cc
    split false b c e = cc

pub same_server-refl : (a : Server) → same_server a a ≡ true
same_server-refl a = all (bytes_eq a.host a.host) (a.port == a.port) (a.start == a.start) (bytes_eq-refl a.host) (grind (arith, nat_tests)) (grind (arith, nat_tests))
  where
    all : (a b c : Bool) → a ≡ true → b ≡ true → c ≡ true → ((a && b) && c) ≡ true
    all a b c e f g = rw (e, f, g) refl

pub server_ties : (a b : Server) → is_eq (server_cmp a b) ≡ same_server a b
server_ties a b = ties_by server_cmp same_server servers_total server_cmp-is same_server-is same_server-refl a b (same_server a b) refl

-- where a server is listed, one of its host and port is with its start code or a greater one
pub newer_own : (s : Server) (servers : List Server) → list_any (λ x. same_server s x) servers ≡ true → list_any (λ x. same_address s x && not (nat_lt x.start s.start)) servers ≡ true
newer_own s [] h = absurd (false≢true h)
newer_own s (first ∷ more) h = elim (or_cases (same_server s first) (list_any (λ x. same_server s x) more) h) [
  | inl own ↦ or_left (same_address s first && not (nat_lt first.start s.start)) _ (and_from (same_address s first) (not (nat_lt first.start s.start)) (and_parts (same_address s first) (nat_eq s.start first.start) own).0 (not_older (same_server-is s first own)))
  | inr later ↦ or_right (same_address s first && not (nat_lt first.start s.start)) _ (newer_own s more later)
]
  where
    not_older : s ≡ first → not (nat_lt first.start s.start) ≡ true
    not_older e = (let f : s.start ≡ first.start = ap (λ (x : Server). x.start) e in grind (arith, nat_tests, f))
