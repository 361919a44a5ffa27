-- The texts of names and numbers are words.
use Rattle.std.proofs.Common.{◌≡◌, ℕ, ◌/◌, ◌%◌, ◌<◌, ◌≤◌, ◌^◌, ◌&&◌, ◌++◌, Bool, true, false, cond, nat_lt, List, [], ◌∷◌, length, get_or, None, refl, ap, ◌∙◌, arith}
use Rattle.std.specs.Fmt.{decimal}
use Rattle.std.specs.List.{list_all, flat_map}
use Rattle.std.specs.Str.{bytes_eq}
use Rattle.std.proofs.lemmas.Bool.Decides.{nat_tests}
use Rattle.std.proofs.lemmas.Fmt.{decimal_nonempty}
use Rattle.std.proofs.lemmas.List.Elements.{All-from_get_or}
use Rattle.std.proofs.lemmas.List.Folds.{list_all-append}
use Rattle.std.proofs.lemmas.List.Sums.{list_all-from_AllPass}
use Rattle.std.specs.Prelude.{codes}
use Rattle.hm_names.specs.declared.nonce.Nonce.{Nonce}
use Rattle.hm_names.specs.declared.table.TableName.{TableName}
use Rattle.hm_names.specs.Keys.{is_plain, hex_digit, byte_text, key_text}
use Rattle.hm_names.specs.Names.{is_ns_byte, ns_fault, is_qualifier_byte, qualifier_fault, is_host_byte, host_fault, first_wrong}
use Rattle.hm_names.specs.Nonces.{nonce_text}
use Rattle.hm_names.specs.Region.{Region}
use Rattle.hm_names.specs.Regions.{region_text}
use Rattle.hm_names.specs.Server.{Server}
use Rattle.hm_names.specs.Servers.{server_text}
use Rattle.hm_names.specs.Tables.{IsTable, table_text}
use Rattle.hm_names.proofs.Ascii.{right_at, part_fault-None, no_other}
use Rattle.hm_names.proofs.Decimals.{digit_of_decimal}
use Rattle.hm_script.specs.Printing.{is_word_byte, is_word}

pub and_both : (a b : Bool) → a ≡ true → b ≡ true → (a && b) ≡ true
and_both a b e f = rw (e, f) refl

pub and_parts : (a b : Bool) → (a && b) ≡ true → (a ≡ true) × (b ≡ true)
and_parts true true e = (refl, refl)
and_parts true false e = cc
and_parts false b e = cc

pub is_word-from_all : (word : List ℕ) → 0 < length word → list_all is_word_byte word ≡ true → is_word word ≡ true
is_word-from_all [] some e = absurd (omega arith)
is_word-from_all (b ∷ word) some e = e

byte_within : (b : ℕ) → 33 ≤ b → b ≤ 126 → is_word_byte b ≡ true
byte_within b low high = grind (arith, nat_tests)

all_from : (p : ℕ → Bool) (s : List ℕ) → ((i : ℕ) → i < length s → p (get_or s i 0) ≡ true) → list_all p s ≡ true
all_from p s each = list_all-from_AllPass p s (All-from_get_or (λ x. p x ≡ true) s 0 each)

all_append : (a b : List ℕ) → list_all is_word_byte a ≡ true → list_all is_word_byte b ≡ true → list_all is_word_byte (a ++ b) ≡ true
all_append a b e f = list_all-append is_word_byte a b ∙ and_both _ _ e f

some_append : (a b : List ℕ) → 0 < length a → 0 < length (a ++ b)
some_append [] b some = absurd (omega arith)
some_append (x ∷ a) b some = omega arith

all_decimal : (n : ℕ) → n < 2 ^ 64 → list_all is_word_byte (decimal n) ≡ true
all_decimal n small =
    all_from is_word_byte (decimal n) (λ i within. let d = digit_of_decimal n i small within in byte_within (get_or (decimal n) i 0) (omega (arith, d.0)) (omega (arith, d.1)))

pub word_decimal : (n : ℕ) → n < 2 ^ 64 → is_word (decimal n) ≡ true
word_decimal n small = is_word-from_all (decimal n) (decimal_nonempty n small) (all_decimal n small)

pub word_nonce : (v : Nonce) → v.group < 2 ^ 64 → v.number < 2 ^ 64 → is_word (nonce_text v) ≡ true
word_nonce v group number =
    is_word-from_all (nonce_text v) (some_append _ (decimal v.number) (some_append (decimal v.group) (codes ":") (decimal_nonempty v.group group)))
    (all_append (decimal v.group ++ codes ":") (decimal v.number) (all_append (decimal v.group) (codes ":") (all_decimal v.group group) refl) (all_decimal v.number number))

ns_byte : (b : ℕ) → is_ns_byte b ≡ true → is_word_byte b ≡ true
ns_byte b e = let low : 33 ≤ b = grind (arith, nat_tests) in let high : b ≤ 126 = grind (arith, nat_tests) in byte_within b low high

qualifier_byte : (b : ℕ) → is_qualifier_byte b ≡ true → is_word_byte b ≡ true
qualifier_byte b e = let low : 33 ≤ b = grind (arith, nat_tests) in let high : b ≤ 126 = grind (arith, nat_tests) in byte_within b low high

host_byte : (b : ℕ) → is_host_byte b ≡ true → is_word_byte b ≡ true
host_byte b e = let low : 33 ≤ b = grind (arith, nat_tests) in let high : b ≤ 126 = grind (arith, nat_tests) in byte_within b low high

all_ns : (s : List ℕ) → ns_fault 0 s ≡ None → list_all is_word_byte s ≡ true
all_ns s e = all_from is_word_byte s (λ i within. ns_byte (get_or s i 0) (right_at is_ns_byte s (part_fault-None 64 0 s (first_wrong is_ns_byte s) e) i within))

all_qualifier : (s : List ℕ) → qualifier_fault 0 s ≡ None → list_all is_word_byte s ≡ true
all_qualifier s e = all_from is_word_byte s (λ i within. qualifier_byte (get_or s i 0) (right_at is_qualifier_byte s (no_other s e) i within))

all_host : (s : List ℕ) → host_fault 0 s ≡ None → list_all is_word_byte s ≡ true
all_host s e = all_from is_word_byte s (λ i within. host_byte (get_or s i 0) (right_at is_host_byte s (part_fault-None 64 0 s (first_wrong is_host_byte s) e) i within))

some_ns : (s : List ℕ) → ns_fault 0 s ≡ None → 0 < length s
some_ns [] e = cc
some_ns (b ∷ s) e = omega arith

some_qualifier : (s : List ℕ) → qualifier_fault 0 s ≡ None → 0 < length s
some_qualifier [] e = cc
some_qualifier (b ∷ s) e = omega arith

some_host : (s : List ℕ) → host_fault 0 s ≡ None → 0 < length s
some_host [] e = cc
some_host (b ∷ s) e = omega arith

pub word_ns : (s : List ℕ) → ns_fault 0 s ≡ None → is_word s ≡ true
word_ns s e = is_word-from_all s (some_ns s e) (all_ns s e)

all_either : (b : Bool) (x y : List ℕ) → list_all is_word_byte x ≡ true → list_all is_word_byte y ≡ true → list_all is_word_byte (cond b x y) ≡ true
all_either true x y e f = e
all_either false x y e f = f

some_either : (b : Bool) (x y : List ℕ) → 0 < length x → 0 < length y → 0 < length (cond b x y)
some_either true x y e f = e
some_either false x y e f = f

all_table : (t : TableName) → IsTable t → list_all is_word_byte (table_text t) ≡ true
all_table t named =
    all_either (bytes_eq t.ns (codes "default")) _ _ (all_qualifier t.qualifier named.1)
    (all_append (t.ns ++ codes ":") t.qualifier (all_append t.ns (codes ":") (all_ns t.ns named.0) refl) (all_qualifier t.qualifier named.1))

some_table : (t : TableName) → IsTable t → 0 < length (table_text t)
some_table t named =
    some_either (bytes_eq t.ns (codes "default")) _ _ (some_qualifier t.qualifier named.1)
    (some_append (t.ns ++ codes ":") t.qualifier (some_append t.ns (codes ":") (some_ns t.ns named.0)))

pub word_table : (t : TableName) → IsTable t → is_word (table_text t) ≡ true
word_table t named = is_word-from_all (table_text t) (some_table t named) (all_table t named)

pub word_region : (r : Region) → IsTable r.table → r.id < 2 ^ 64 → is_word (region_text r) ≡ true
word_region r named small =
    is_word-from_all (region_text r) (some_append (table_text r.table ++ codes ",") (decimal r.id) (some_append (table_text r.table) (codes ",") (some_table r.table named)))
    (all_append (table_text r.table ++ codes ",") (decimal r.id) (all_append (table_text r.table) (codes ",") (all_table r.table named) refl) (all_decimal r.id small))

pub word_server : (s : Server) → host_fault 0 s.host ≡ None → s.port < 2 ^ 64 → s.start < 2 ^ 64 → is_word (server_text s) ≡ true
word_server s named port start =
    let front = s.host ++ codes "," ++ decimal s.port ++ codes "," in
    is_word-from_all (server_text s)
    (some_append front (decimal s.start) (some_append (s.host ++ codes "," ++ decimal s.port) (codes ",") (some_append (s.host ++ codes ",") (decimal s.port) (some_append s.host (codes ",") (some_host s.host named)))))
    (all_append front (decimal s.start)
    (all_append (s.host ++ codes "," ++ decimal s.port) (codes ",")
    (all_append (s.host ++ codes ",") (decimal s.port) (all_append s.host (codes ",") (all_host s.host named) refl) (all_decimal s.port port)) refl)
    (all_decimal s.start start))

plain_byte : (b : ℕ) → is_plain b ≡ true → is_word_byte b ≡ true
plain_byte b e = let low : 33 ≤ b = grind (arith, nat_tests) in let high : b ≤ 126 = grind (arith, nat_tests) in byte_within b low high

hex_byte : (n : ℕ) → n < 16 → is_word_byte (hex_digit n) ≡ true
hex_byte n small = let low : 33 ≤ hex_digit n = grind (arith, nat_tests) in let high : hex_digit n ≤ 126 = grind (arith, nat_tests) in byte_within (hex_digit n) low high

all_plain : (plain : Bool) (b : ℕ) → b < 256 → is_plain b ≡ plain → list_all is_word_byte (cond plain (b ∷ []) (92 ∷ 120 ∷ hex_digit (b / 16) ∷ hex_digit (b % 16) ∷ [])) ≡ true
all_plain true b small e = and_both _ _ (plain_byte b e) refl
all_plain false b small e = and_both _ _ (hex_byte (b / 16) (omega arith)) (and_both _ _ (hex_byte (b % 16) (omega arith)) refl)

all_key : (key : List ℕ) → list_all (λ b. nat_lt b 256) key ≡ true → list_all is_word_byte (flat_map byte_text key) ≡ true
all_key [] e = refl
all_key (b ∷ key) e =
    let h : (nat_lt b 256 ≡ true) × (list_all (λ x. nat_lt x 256) key ≡ true) = and_parts _ _ e in
    let low = h.0 in
    let small : b < 256 = grind (arith, nat_tests) in
    all_append (byte_text b) (flat_map byte_text key) (all_plain (is_plain b) b small refl) (all_key key h.1)

some_plain : (plain : Bool) (b : ℕ) (s : List ℕ) → 0 < length (cond plain (b ∷ []) (92 ∷ 120 ∷ hex_digit (b / 16) ∷ hex_digit (b % 16) ∷ []) ++ s)
some_plain true b s = omega arith
some_plain false b s = omega arith

key_shown : (b : ℕ) (key : List ℕ) → key_text (b ∷ key) ≡ flat_map byte_text (b ∷ key)
key_shown b key = grind (arith, nat_tests)

pub word_key : (key : List ℕ) → list_all (λ b. nat_lt b 256) key ≡ true → is_word (key_text key) ≡ true
word_key [] e = refl
word_key (b ∷ key) e =
    ap is_word (key_shown b key)
    ∙ is_word-from_all (flat_map byte_text (b ∷ key)) (some_plain (is_plain b) b (flat_map byte_text key)) (all_key (b ∷ key) e)
