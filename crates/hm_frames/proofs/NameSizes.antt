-- How many bytes names and requests have as they are spelled.
use Rattle.std.proofs.Common.{◌≡◌, ℕ, ◌+◌, ◌*◌, ◌≤◌, ◌==◌, ◌&&◌, nat_le, nat_lt, Bool, true, false, not, cond, if◌then◌else◌, List, [], ◌∷◌, ◌++◌, length, Option, Some, None, All, refl, arith, length-append}
use Rattle.std.specs.Int.{bytes_low_first}
use Rattle.std.specs.List.{flat_map}
use Rattle.std.specs.Prelude.{IfSome}
use Rattle.std.proofs.lemmas.Bool.{and_parts, leb-true, ltb-false}
use Rattle.std.proofs.lemmas.List.Elements.{All-head, All-tail}
use Rattle.hm_wire.specs.Wire.{text}
use Rattle.hm_names.specs.Names.{IsNs, IsQualifier, IsHost, first_wrong, first_wrong_of_qualifier, is_ns_byte, is_host_byte}
use Rattle.hm_names.specs.Reading.{wrong_byte}
use Rattle.hm_names.specs.Region.{Region}
use Rattle.hm_names.specs.Regions.{IsRegion}
use Rattle.hm_names.specs.Server.{Server}
use Rattle.hm_names.specs.Servers.{IsServer}
use Rattle.hm_names.specs.Tables.{IsTable}
use Rattle.hm_names.specs.declared.fault.NameFault.{NameFault}
use Rattle.hm_names.specs.declared.fault.NameFault.TheVariants.{Empty, TooLong}
use Rattle.hm_names.specs.declared.nonce.Nonce.{Nonce}
use Rattle.hm_names.specs.declared.table.TableName.{TableName}
use Rattle.hm_data.specs.declared.request.Request.{Request}
use Rattle.hm_data.specs.declared.request.Request.TheVariants as request_is
use Rattle.hm_entry.specs.Fits.{KeyFits, RequestFits}
use Rattle.hm_entry.specs.Spelling.{list, number, nonce, option, region, request, server, table}
use Rattle.hm_model.specs.Requests.{are_siblings, may_merge, rise, wrong_in}

not_long : (empty long : Bool) (a b : NameFault) (wrong : Option NameFault) → cond empty (Some a) (cond long (Some b) wrong) ≡ None → long ≡ false
not_long true long a b wrong e = absurd cc
not_long false true a b wrong e = absurd cc
not_long false false a b wrong e = refl

-- a namespace has at most 64 bytes
pub ns_short : (ns : List ℕ) → IsNs ns → length ns ≤ 64
ns_short ns is = ltb-false 64 (length ns) (not_long (length ns == 0) (nat_lt 64 (length ns)) Empty (TooLong (length ns)) (wrong_byte 0 (first_wrong is_ns_byte ns)) is)

-- a qualifier at most 128
pub qualifier_short : (name : List ℕ) → IsQualifier name → length name ≤ 128
qualifier_short name is = ltb-false 128 (length name) (not_long (length name == 0) (nat_lt 128 (length name)) Empty (TooLong (length name)) (wrong_byte 0 (first_wrong_of_qualifier name)) is)

-- a host at most 64
pub host_short : (host : List ℕ) → IsHost host → length host ≤ 64
host_short host is = ltb-false 64 (length host) (not_long (length host == 0) (nat_lt 64 (length host)) Empty (TooLong (length host)) (wrong_byte 0 (first_wrong is_host_byte host)) is)

pub nonce_long : (n : Nonce) → length (nonce n) ≡ 16
unfolding nonce
nonce_long n = omega arith

pub text_long : (s : List ℕ) → length (text s) ≡ length s + 2
text_long s = omega arith

pub table_short : (t : TableName) → IsTable t → length (table t) ≤ 196
unfolding table
table_short t is = omega (arith, ns_short t.ns is.0, qualifier_short t.qualifier is.1, text_long t.qualifier, length-append t.ns (text t.qualifier))

pub region_short : (r : Region) → IsTable r.table → length (region r) ≤ 204
unfolding region
region_short r is = omega (arith, table_short r.table is, length-append (table r.table) (number r.id))

pub server_short : (s : Server) → IsServer s → length (server s) ≤ 76
unfolding server
server_short s is = omega (arith, host_short s.host is.0, length-append s.host (bytes_low_first 0 2 s.port ++ number s.start))

pub server_if_short : (s : Option Server) → IfSome s IsServer → length (option server s) ≤ 77
server_if_short None is = omega arith
server_if_short (Some s) is = omega (arith, server_short s is)

pub keys_short : (keys : List (List ℕ)) → All KeyFits keys → length (flat_map text keys) ≤ 130 * length keys
keys_short [] fit = omega arith
keys_short (key ∷ keys) fit =
    omega (arith, (All-head KeyFits key keys fit).0, text_long key, keys_short keys (All-tail KeyFits key keys fit), length-append (text key) (flat_map text keys))

-- what is wrong with keys that rise or don't, and are too many or aren't
abbrev pub wrong_if : Bool → Bool → Option ℕ
wrong_if rising long = if not rising then Some 2 else (if long then Some 3 else None)

pub few_keys : (rising long : Bool) → wrong_if rising long ≡ None → long ≡ false
few_keys true true e = absurd cc
few_keys true false e = refl
few_keys false long e = absurd cc

-- two to ten regions are merged
abbrev wrong_unless : Bool → Option ℕ
wrong_unless may = if may then None else Some 4

wrong_merge : (may : Bool) → wrong_unless may ≡ None → may ≡ true
wrong_merge true e = refl
wrong_merge false e = absurd cc

pub few_merge : (rs : List Region) → wrong_in (request_is.MergeRegions rs) ≡ None → length rs ≤ 10
few_merge rs right =
    let may = and_parts (nat_le 2 (length rs)) (nat_le (length rs) 10 && are_siblings rs) (wrong_merge (may_merge rs) right) in
    leb-true (length rs) 10 (and_parts (nat_le (length rs) 10) (are_siblings rs) may.1).0

regions_short : (rs : List Region) → All IsRegion rs → length (flat_map region rs) ≤ 204 * length rs
regions_short [] fit = omega arith
regions_short (r ∷ rs) fit =
    omega (arith, region_short r (All-head IsRegion r rs fit).0, regions_short rs (All-tail IsRegion r rs fit), length-append (region r) (flat_map region rs))

-- a request that nothing is wrong with
pub request_short : (asked : Request) → wrong_in asked ≡ None → RequestFits asked → length (request asked) ≤ 33349
unfolding request
request_short (request_is.CreateNamespace ns) right fits = omega (arith, ns_short ns fits, text_long ns)
request_short (request_is.DropNamespace ns) right fits = omega (arith, ns_short ns fits, text_long ns)
request_short (request_is.CreateTable t keys) right fits =
    omega (
      arith,
      table_short t fits.0,
      keys_short keys fits.1.1,
      ltb-false 255 (length keys) (few_keys (rise [] keys) (nat_lt 255 (length keys)) right),
      length-append (table t) (list text keys),
    )
request_short (request_is.DeleteTable t) right fits = omega (arith, table_short t fits)
request_short (request_is.EnableTable t) right fits = omega (arith, table_short t fits)
request_short (request_is.DisableTable t) right fits = omega (arith, table_short t fits)
request_short (request_is.ModifyTable t version) right fits = omega (arith, table_short t fits.0, length-append (table t) (number version))
request_short (request_is.SplitRegion r key) right fits =
    omega (arith, region_short r fits.0.0, fits.1.0, text_long key, length-append (region r) (text key))
request_short (request_is.MergeRegions rs) right fits =
    omega (arith, regions_short rs fits.1, few_merge rs right)
request_short (request_is.Move r to) right fits =
    omega (arith, region_short r fits.0.0, server_if_short to fits.1, length-append (region r) (option server to))
