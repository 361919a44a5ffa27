-- What is printed is read as the same name.
use Rattle.std.proofs.Common.{◌≡◌, ℕ, ◌+◌, ◌-◌, ◌<◌, ◌≤◌, ◌^◌, ◌==◌, nat_le, nat_lt, ◌||◌, Bool, true, false, cond, List, ◌∷◌, ◌++◌, length, get_or, Option, Some, None, Ok, refl, sym, ap, ◌∙◌, codes, arith}
use Rattle.std.specs.Fmt.{decimal}
use Rattle.std.specs.Str.{bytes_eq}
use Rattle.std.proofs.lemmas.List.{append_assoc}
use Rattle.std.proofs.lemmas.Slice.Eq.{bytes_eq-Decides}
use Rattle.std.proofs.lemmas.Bool.Decides.{nat_tests}
use Rattle.hm_names.specs.declared.fault.NameFault.{NameFault}
use Rattle.hm_names.specs.declared.fault.NameFault.TheVariants.{Empty, TooLong}
use Rattle.hm_names.specs.declared.table.TableName.{TableName}
use Rattle.hm_names.specs.Region.{Region}
use Rattle.hm_names.specs.Server.{Server}
use Rattle.hm_names.specs.Decimal.{within}
use Rattle.hm_names.specs.Names.{first_wrong, part_fault, is_ns_byte, is_qualifier_byte, is_host_byte, ns_fault, qualifier_fault, first_wrong_of_qualifier}
use Rattle.hm_names.specs.Reading.{unless, wrong_byte, first_fault}
use Rattle.hm_names.specs.Tables.{IsTable, table_text, table_fault, read_table}
use Rattle.hm_names.specs.Regions.{IsRegion, region_text, read_region}
use Rattle.hm_names.specs.Servers.{IsServer, server_text, read_server}
use Rattle.hm_names.proofs.Ascii.{right_at, part_fault-None, no_other}
use Rattle.hm_names.proofs.Cuts.{Lacks, is_empty-at, cut_first-at, cut_first-Lacks, cut_last-at}
use Rattle.hm_names.proofs.Decimals.{number_of-decimal, digit_of_decimal}
use Rattle.hm_names.proofs.Names.{qualifier_at}

-- a byte that can't stand in a part isn't in it
Lacks-right : (is_right : ℕ → Bool) (c : ℕ) (s : List ℕ) → is_right c ≡ false → first_wrong is_right s ≡ None → Lacks c s
Lacks-right is_right c s refused e i inside same =
    let right = right_at is_right s e i inside in
    let wrong : is_right (get_or s i 0) ≡ false = ap is_right same ∙ refused in cc

lacks_comma : (n : ℕ) → n < 2 ^ 64 → Lacks 44 (decimal n)
lacks_comma n small i inside = let h = digit_of_decimal n i small inside in λ e. absurd (omega arith)

not_empty_by : (empty : Bool) (fault : NameFault) (rest : Option NameFault) → cond empty (Some fault) rest ≡ None → empty ≡ false
not_empty_by true fault rest e = cc
not_empty_by false fault rest e = refl

-- a part without a fault isn't empty
not_empty : (most at : ℕ) (part : List ℕ) (wrong : Option ℕ) → part_fault most at part wrong ≡ None → (length part == 0) ≡ false
not_empty most at part wrong e =
    not_empty_by (length part == 0) Empty (cond (nat_lt most (length part)) (Some (TooLong (length part))) (wrong_byte at wrong)) e

-- a number in a range is read as itself
within-Some : (low high n : ℕ) → low ≤ n → n ≤ high → within low high (Some n) ≡ Some n
within-Some low high n a b =
    let above : nat_le low n ≡ true = grind (arith, nat_tests) in
    let below : nat_le n high ≡ true = grind (arith, nat_tests) in
    rw (above, below)

no_fault : (a b : Bool) (f g : Option NameFault) → a ≡ false → b ≡ false → f ≡ None → g ≡ None → cond (a || b) (Some Empty) (first_fault f g) ≡ None
no_fault true b f g p q r s = cc
no_fault false true f g p q r s = cc
no_fault false false None g p q r s = s
no_fault false false (Some x) g p q r s = cc

-- two names as parts have no fault
table_fault-None : (ns : List ℕ) (place : ℕ) (qualifier : List ℕ) → ns_fault 0 ns ≡ None → qualifier_fault 0 qualifier ≡ None → table_fault ns place qualifier ≡ None
table_fault-None ns place qualifier named_ns named_qualifier =
    let has_ns = not_empty 64 0 ns (first_wrong is_ns_byte ns) named_ns in
    let has_qualifier = not_empty 128 0 qualifier (first_wrong_of_qualifier qualifier) named_qualifier in
    let right = qualifier_at 0 place qualifier named_qualifier in
    no_fault (length ns == 0) (length qualifier == 0) (ns_fault 0 ns) (qualifier_fault place qualifier) has_ns has_qualifier named_ns right

table_by : (t : TableName) (bare : Bool) → bytes_eq t.ns (codes "default") ≡ bare → IsTable t → read_table (cond bare t.qualifier (t.ns ++ codes ":" ++ t.qualifier)) ≡ Ok t
unfolding read_table
table_by t true e named =
    let same : t.ns ≡ codes "default" = (bytes_eq-Decides t.ns (codes "default")).0 e in
    let whole = cut_first-Lacks 58 t.qualifier (Lacks-right is_qualifier_byte 58 t.qualifier refl (no_other t.qualifier named.1)) in
    rw whole (ap (λ fault. unless fault (record { ns = codes "default"; qualifier = t.qualifier })) named.1 ∙ ap (λ (ns : List ℕ). Ok (record { ns = ns; qualifier = t.qualifier })) (sym same))
table_by t false e named =
    let lacks = Lacks-right is_ns_byte 58 t.ns refl (part_fault-None 64 0 t.ns (first_wrong is_ns_byte t.ns) named.0) in
    let parts = cut_first-at 58 t.ns t.qualifier lacks in
    rw (append_assoc, parts) (ap (λ fault. unless fault t) (table_fault-None t.ns (length t.ns + 1) t.qualifier named.0 named.1))

pub read_table-table_text : (t : TableName) → IsTable t → read_table (table_text t) ≡ Ok t
read_table-table_text t named = table_by t (bytes_eq t.ns (codes "default")) refl named

pub read_region-region_text : (r : Region) → IsRegion r → read_region (region_text r) ≡ Ok r
read_region-region_text r named =
    let text = table_text r.table in
    let id = decimal r.id in
    let parts = cut_last-at 44 text id (lacks_comma r.id named.2) in
    let number = number_of-decimal r.id named.2 in
    let inside = within-Some 1 (2 ^ 64 - 1) r.id named.1 (omega arith) in
    let table = read_table-table_text r.table named.0 in
    rw (append_assoc, is_empty-at 44 text id, parts, table, number, inside)

pub read_server-server_text : (s : Server) → IsServer s → read_server (server_text s) ≡ Ok s
read_server-server_text s named =
    let port = decimal s.port in
    let start = decimal s.start in
    let host_right = part_fault-None 64 0 s.host (first_wrong is_host_byte s.host) named.0 in
    let small : s.port < 2 ^ 64 = omega arith in
    let text : server_text s ≡ s.host ++ 44 ∷ (port ++ 44 ∷ start) = simp append_assoc in
    let first = cut_first-at 44 s.host (port ++ 44 ∷ start) (Lacks-right is_host_byte 44 s.host refl host_right) in
    let second = cut_first-at 44 port start (lacks_comma s.port small) in
    let third = cut_first-Lacks 44 start (lacks_comma s.start named.4) in
    let has_host = not_empty 64 0 s.host (first_wrong is_host_byte s.host) named.0 in
    let port_number = number_of-decimal s.port small in
    let start_number = number_of-decimal s.start named.4 in
    let port_inside = within-Some 1 65535 s.port named.1 named.2 in
    let start_inside = within-Some 1 (2 ^ 64 - 1) s.start named.3 (omega arith) in
    rw (text, first, has_host, second, third, named.0, port_number, port_inside, start_number, start_inside)
