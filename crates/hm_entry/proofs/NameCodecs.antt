-- The codecs of names.
use Rattle.std.proofs.Common.{◌≡◌, ℕ, ◌^◌, ◌<◌, ◌≤◌, Bool, true, false, cond, eqb, ltb, List, length, Option, Some, None, Result, Ok, Err, refl, ap, subst, arith, lit<}
use Rattle.std.proofs.lemmas.Bool.{ltb-false, le-ltb}
use Rattle.std.proofs.lemmas.List.Elements.{All-from_get_or}
use Rattle.byteorder.specs.Endian.{little_bytes}
use Rattle.hm_wire.specs.Wire.{text}
use Rattle.hm_wire.specs.Laws.{IsBytes}
use Rattle.hm_names.specs.Names.{part_fault, first_wrong, first_wrong_of_qualifier, is_ns_byte, is_host_byte, ns_fault, qualifier_fault, host_fault, IsNs, IsQualifier, IsHost, read_ns, read_qualifier, read_host}
use Rattle.hm_names.specs.Keys.{limited}
use Rattle.hm_names.specs.Nonces.{IsNonce}
use Rattle.hm_names.specs.Reading.{unless, wrong_byte}
use Rattle.hm_names.specs.Regions.{IsRegion}
use Rattle.hm_names.specs.Servers.{IsServer}
use Rattle.hm_names.specs.Tables.{IsTable}
use Rattle.hm_names.specs.declared.fault.NameFault.{NameFault}
use Rattle.hm_names.specs.declared.fault.NameFault.TheVariants.{Empty, TooLong}
use Rattle.hm_entry.specs.Spelling.{number, pid, table, region, server, range, nonce}
use Rattle.hm_entry.specs.Fits.{IsNumber, PidFits, KeyFits, RangeFits}
use Rattle.hm_entry.specs.Reading.{ns_at, qualifier_at, host_at, key_at, id_at, port_at, pid_at, table_at, region_at, server_at, range_at, nonce_at}
use Rattle.hm_entry.proofs.Codec.{IsCodec, one_codec, two_codec, three_codec}
use Rattle.hm_entry.proofs.FieldCodecs.{named_codec, from_one_codec, u16_codec, u64_codec}

abbrev good : List ℕ → Result (List ℕ) NameFault
good v = Ok v

value_is : (x y : List ℕ) → good x ≡ good y → x ≡ y
value_is x y e = cc

unless_ok : (o : Option NameFault) (t v : List ℕ) → unless o t ≡ Ok v → (o ≡ None) × (t ≡ v)
unless_ok None t v e = (refl, value_is t v e)
unless_ok (Some f) t v e = absurd cc

short_enough : (a b : Bool) (e f : NameFault) (o : Option NameFault) → cond a (Some e) (cond b (Some f) o) ≡ None → b ≡ false
short_enough true b e f o is = absurd cc
short_enough false true e f o is = absurd cc
short_enough false false e f o is = refl

-- a part without a fault isn't too long
part_short : (most at : ℕ) (part : List ℕ) (wrong : Option ℕ) → part_fault most at part wrong ≡ None → length part ≤ most
part_short most at part wrong is =
    ltb-false most (length part) (short_enough (eqb (length part) 0) (ltb most (length part)) Empty (TooLong (length part)) (wrong_byte at wrong) is)

pub ns_codec : IsCodec ns_at text IsNs
unfolding ns_at
ns_codec = named_codec 64 read_ns IsNs (lit< tt)
    (λ t v bytes e. let u = unless_ok (ns_fault 0 t) t v e in (u.1, subst IsNs u.1 u.0))
    (λ v f. (part_short 64 0 v (first_wrong is_ns_byte v) f, ap (λ (o : Option NameFault). unless o v) f))

pub qualifier_codec : IsCodec qualifier_at text IsQualifier
unfolding qualifier_at
qualifier_codec = named_codec 128 read_qualifier IsQualifier (lit< tt)
    (λ t v bytes e. let u = unless_ok (qualifier_fault 0 t) t v e in (u.1, subst IsQualifier u.1 u.0))
    (λ v f. (part_short 128 0 v (first_wrong_of_qualifier v) f, ap (λ (o : Option NameFault). unless o v) f))

pub host_codec : IsCodec host_at text IsHost
unfolding host_at
host_codec = named_codec 64 read_host IsHost (lit< tt)
    (λ t v bytes e. let u = unless_ok (host_fault 0 t) t v e in (u.1, subst IsHost u.1 u.0))
    (λ v f. (part_short 64 0 v (first_wrong is_host_byte v) f, ap (λ (o : Option NameFault). unless o v) f))

limited_ok : (b : Bool) (f : NameFault) (t v : List ℕ) → cond b (Err f) (Ok t) ≡ Ok v → (b ≡ false) × (t ≡ v)
limited_ok true f t v e = absurd cc
limited_ok false f t v e = (refl, value_is t v e)

key_back : (t v : List ℕ) → IsBytes t → limited t ≡ Ok v → (t ≡ v) × KeyFits v
key_back t v bytes e =
    let u = limited_ok (ltb 128 (length t)) (TooLong (length t)) t v e in
    let short : length t ≤ 128 = ltb-false 128 (length t) u.0 in
    (u.1, subst KeyFits u.1 (short, All-from_get_or (λ (b : ℕ). b < 256) t 0 (λ i lt. bytes i)))

key_on : (v : List ℕ) → KeyFits v → (length v ≤ 128) × (limited v ≡ Ok v)
key_on v f = (f.0, ap (λ (b : Bool). cond b (Err (TooLong (length v))) (good v)) (le-ltb 128 (length v) f.0))

pub key_codec : IsCodec key_at text KeyFits
unfolding key_at
key_codec = named_codec 128 limited KeyFits (lit< tt) key_back key_on

-- ---- compound names

pub id_codec : IsCodec id_at number (λ n. (1 ≤ n) × IsNumber n)
unfolding id_at
id_codec = from_one_codec u64_codec

pub port_codec : IsCodec port_at (little_bytes 2) (λ n. (1 ≤ n) × (n < 2 ^ 16))
unfolding port_at
port_codec = from_one_codec u16_codec

pub pid_codec : IsCodec pid_at pid PidFits
unfolding pid_at
pid_codec = one_codec u64_codec (λ n. record { 0 = n }) pid PidFits (λ n f. (refl, f)) (λ v f. (v.0, f, refl))

pub table_codec : IsCodec table_at table IsTable
unfolding table_at table
table_codec = two_codec ns_codec qualifier_codec (λ ns qualifier. record { ns = ns; qualifier = qualifier }) table IsTable
    (λ p q fp fq. (refl, (fp, fq)))
    (λ v f. (v.ns, v.qualifier, f.0, f.1, refl))

pub region_codec : IsCodec region_at region IsRegion
unfolding region_at region
region_codec = two_codec table_codec id_codec (λ table id. record { table = table; id = id }) region IsRegion
    (λ p q fp fq. (refl, (fp, fq.0, fq.1)))
    (λ v f. (v.table, v.id, f.0, (f.1, f.2), refl))

pub server_codec : IsCodec server_at server IsServer
unfolding server_at server
server_codec = three_codec host_codec port_codec id_codec (λ host port start. record { host = host; port = port; start = start }) server IsServer
    (λ p q r fp fq fr. (refl, (fp, fq.0, omega (arith, fq.1), fr.0, fr.1)))
    (λ v f. (v.host, v.port, v.start, f.0, (f.1, omega (arith, f.2)), (f.3, f.4), refl))

pub range_codec : IsCodec range_at range RangeFits
unfolding range_at range
range_codec = two_codec key_codec key_codec (λ start end. record { start = start; end = end }) range RangeFits
    (λ p q fp fq. (refl, (fp, fq)))
    (λ v f. (v.start, v.end, f.0, f.1, refl))

pub nonce_codec : IsCodec nonce_at nonce IsNonce
unfolding nonce_at nonce
nonce_codec = two_codec u64_codec u64_codec (λ group number. record { group = group; number = number }) nonce IsNonce
    (λ p q fp fq. (refl, (fp, fq)))
    (λ v f. (v.group, v.number, f.0, f.1, refl))
