-- A chain of ranges has each key of its hull once.
use Rattle.std.proofs.Common.{◌≡◌, ℕ, ◌+◌, Bool, true, false, not, ◌||◌, ◌&&◌, ◌==◌, List, [], ◌∷◌, ◌++◌, length, refl, sym, ap, ◌∙◌, arith, if◌then◌else◌}
use Rattle.std.proofs.lemmas.Bool.{and_parts, and_from, or_right}
use Rattle.std.specs.Str.{bytes_eq}
use Rattle.std.specs.Ordering.{is_lt, is_le, is_eq, nat_cmp}
use Rattle.std.specs.Cmp.Lexicographic.{slice_cmp, texts_ties}
use Rattle.std.specs.declared.cmp.Ordering.{Ordering}
use Rattle.std.specs.declared.cmp.Ordering.TheVariants.{Less, Equal, Greater}
use Rattle.hm_names.specs.Order.{bytes_cmp}
use Rattle.hm_names.specs.declared.range.KeyRange.{KeyRange}
use Rattle.hm_names.specs.Ranges.{holds, inner, ends_behind, lower_part, upper_part, joined}
use Rattle.hm_names.proofs.Orders.{below, upto, upto_self, upto_weaker}
use Rattle.hm_names.proofs.Ranges.{held_in_parts, held_apart, holds_start}
use Rattle.hm_model.proofs.KeyTests.{bytes_eq-is}
use Rattle.hm_model.specs.Checks.{by_start, hull, is_chain, with_part}
use Rattle.hm_model.specs.Counts.{one_if}
use Rattle.hm_model.specs.Pieces.{ranges_between, ranges_from}
use Rattle.hm_model.specs.Requests.{rise}
use Rattle.hm_model.specs.declared.merged.Merged.{Merged}

-- how many of the ranges have the key
abbrev pub holders : List ℕ → List KeyRange → ℕ
holders k [] = 0
holders k (r ∷ more) = one_if (holds r k) + holders k more

-- how many of the parts have the key
abbrev pub part_holders : List ℕ → List Merged → ℕ
part_holders k [] = 0
part_holders k (p ∷ more) = one_if (holds p.range k) + part_holders k more

-- a range that has its start has a key
abbrev pub HasKey : KeyRange → Type 0
HasKey r = holds r r.start ≡ true

abbrev pub HaveKeys : List KeyRange → Type 0
HaveKeys [] = Unit {0}
HaveKeys (r ∷ rs) = HasKey r × HaveKeys rs

abbrev pub PartsHaveKeys : List Merged → Type 0
PartsHaveKeys [] = Unit {0}
PartsHaveKeys (p ∷ more) = HasKey p.range × PartsHaveKeys more

one_if_parts : (whole a b : Bool) → whole ≡ (a || b) → (a && b) ≡ false → one_if a + one_if b ≡ one_if whole
one_if_parts whole true true e n = cc
one_if_parts whole true false e n = rw e refl
one_if_parts whole false b e n = rw e (omega arith)

-- a range cut at an inner key has each key in one of its parts
pub parts_once : (r : KeyRange) (m k : List ℕ) → inner r m ≡ true → one_if (holds (lower_part r m) k) + one_if (holds (upper_part r m) k) ≡ one_if (holds r k)
parts_once r m k e = one_if_parts (holds r k) (holds (lower_part r m) k) (holds (upper_part r m) k) (held_in_parts r m e k) (held_apart r m e k)

less_differs : (o : Ordering) → is_lt o ≡ true → not (is_eq o) ≡ true
less_differs Less e = refl
less_differs Equal e = cc
less_differs Greater e = cc

below_differs : (a b : List ℕ) → below a b ≡ true → not (bytes_eq a b) ≡ true
below_differs a b p = ap not (texts_ties a b) ∙ less_differs (slice_cmp nat_cmp a b) p

-- the end of a range with a key is above its start, or open
above_by : (open_end lower : Bool) → not open_end ≡ true → (open_end || lower) ≡ true → lower ≡ true
above_by true lower some e = cc
above_by false lower some e = e

-- the place where two ranges with keys touch is inner to the range of both
meets : (r s : KeyRange) → HasKey r → HasKey s → not (length r.end == 0) ≡ true → r.end ≡ s.start → inner (joined r s) r.end ≡ true
meets r s p q some e =
    let ends = and_parts (upto r.start r.start) (ends_behind r r.start) p in
    let above = above_by (length r.end == 0) (below r.start r.end) some ends.1 in
    let far = and_parts (upto s.start s.start) (ends_behind s s.start) q in
    and_from (holds (joined r s) r.end) (not (bytes_eq r.start r.end))
    (and_from (upto r.start r.end) (ends_behind s r.end) (upto_weaker r.start r.end above) (ap (ends_behind s) e ∙ far.1))
    (below_differs r.start r.end above)

back_is : (r s : KeyRange) → r.end ≡ s.start → upper_part (joined r s) r.end ≡ s
back_is r s e = ap (λ x. let one : KeyRange = record { start = x; end = s.end } in one) e

-- two ranges that touch have each key of both once
joined_once : (r s : KeyRange) (k : List ℕ) → HasKey r → HasKey s → not (length r.end == 0) ≡ true → r.end ≡ s.start → one_if (holds r k) + one_if (holds s k) ≡ one_if (holds (joined r s) k)
joined_once r s k p q some e =
    ap (λ x. one_if (holds r k) + one_if (holds x k)) (sym (back_is r s e)) ∙ parts_once (joined r s) r.end k (meets r s p q some e)

joined_has_key : (r s : KeyRange) → HasKey r → HasKey s → not (length r.end == 0) ≡ true → r.end ≡ s.start → HasKey (joined r s)
joined_has_key r s p q some e =
    holds_start (joined r s) r.end (and_parts (holds (joined r s) r.end) (not (bytes_eq r.start r.end)) (meets r s p q some e)).0

chain_same : (a b : KeyRange) (more : List Merged) → a.end ≡ b.end → is_chain a more ≡ is_chain b more
chain_same a b [] e = refl
chain_same a b (next ∷ more) e = rw e refl

-- what a chain says of its first two
chain_on : (r : KeyRange) (next : Merged) (more : List Merged) → is_chain r (next ∷ more) ≡ true → (not (length r.end == 0) ≡ true) × (r.end ≡ next.range.start) × (is_chain (joined r next.range) more ≡ true)
chain_on r next more chain =
    let one = and_parts (not (length r.end == 0)) (bytes_eq r.end next.range.start && is_chain next.range more) chain in
    let two = and_parts (bytes_eq r.end next.range.start) (is_chain next.range more) one.1 in
    (one.0, bytes_eq-is r.end next.range.start two.0, chain_same (joined r next.range) next.range more refl ∙ two.1)

-- each key of the hull is in one range of the chain, and no other key is in any
pub chain_once : (r : KeyRange) (more : List Merged) (k : List ℕ) → HasKey r → PartsHaveKeys more → is_chain r more ≡ true → one_if (holds r k) + part_holders k more ≡ one_if (holds (hull r more) k)
chain_once r [] k here keys chain = omega arith
chain_once r (next ∷ more) k here keys chain =
    let on = chain_on r next more chain in
    let two = joined_once r next.range k here keys.0 on.0 on.1 in
    let rest = chain_once (joined r next.range) more k (joined_has_key r next.range here keys.0 on.0 on.1) keys.1 on.2 in
    omega (arith, two, rest)

pub hull_has_key : (r : KeyRange) (more : List Merged) → HasKey r → PartsHaveKeys more → is_chain r more ≡ true → HasKey (hull r more)
hull_has_key r [] here keys chain = here
hull_has_key r (next ∷ more) here keys chain =
    let on = chain_on r next more chain in
    hull_has_key (joined r next.range) more (joined_has_key r next.range here keys.0 on.0 on.1) keys.1 on.2

-- the order of parts doesn't matter
with_part_holders : (k : List ℕ) (p : Merged) (ps : List Merged) → part_holders k (with_part p ps) ≡ one_if (holds p.range k) + part_holders k ps
with_part_holders k p [] = refl
with_part_holders k p (first ∷ more) = by (is_le (bytes_cmp p.range.start first.range.start)) (with_part_holders k p more)
  where
    by : (b : Bool) → part_holders k (with_part p more) ≡ one_if (holds p.range k) + part_holders k more → part_holders k (if b then (p ∷ first ∷ more) else (first ∷ with_part p more)) ≡ one_if (holds p.range k) + (one_if (holds first.range k) + part_holders k more)
    by true rest = refl
    by false rest = omega (arith, rest)

pub by_start_holders : (k : List ℕ) (ps : List Merged) → part_holders k (by_start ps) ≡ part_holders k ps
by_start_holders k [] = refl
by_start_holders k (p ∷ ps) = with_part_holders k p (by_start ps) ∙ ap (λ x. one_if (holds p.range k) + x) (by_start_holders k ps)

with_part_keys : (p : Merged) (ps : List Merged) → HasKey p.range → PartsHaveKeys ps → PartsHaveKeys (with_part p ps)
with_part_keys p [] one more = (one, tt)
with_part_keys p (first ∷ more) one keys = by (is_le (bytes_cmp p.range.start first.range.start)) (with_part_keys p more one keys.1)
  where
    by : (b : Bool) → PartsHaveKeys (with_part p more) → PartsHaveKeys (if b then (p ∷ first ∷ more) else (first ∷ with_part p more))
    by true rest = (one, (keys.0, keys.1))
    by false rest = (keys.0, rest)

pub by_start_keys : (ps : List Merged) → PartsHaveKeys ps → PartsHaveKeys (by_start ps)
by_start_keys [] keys = tt
by_start_keys (p ∷ ps) keys = with_part_keys p (by_start ps) keys.0 (by_start_keys ps keys.1)

-- the ranges between rising keys have each key from the start on once
rising_from : (start : List ℕ) (keys : List (List ℕ)) (k : List ℕ) → rise start keys ≡ true → holders k (ranges_from start (keys ++ [] ∷ [])) ≡ one_if (holds (record { start = start; end = [] }) k)
rising_from start [] k rises = omega arith
rising_from start (key ∷ keys) k rises =
    let parts = and_parts (is_lt (bytes_cmp start key)) (rise key keys) rises in
    let rest = rising_from key keys k parts.1 in
    let whole : KeyRange = record { start = start; end = [] } in
    let in_it = and_from (holds whole key) (not (bytes_eq start key)) (and_from (upto start key) true (upto_weaker start key parts.0) refl) (below_differs start key parts.0) in
    ap (λ n. one_if (holds (lower_part whole key) k) + n) rest ∙ parts_once whole key k in_it

-- every key is from the empty key on
from_empty : (k : List ℕ) → holds (record { start = []; end = [] }) k ≡ true
from_empty [] = refl
from_empty (x ∷ k) = refl

-- the ranges of a new table have each key once
pub bounds_once : (keys : List (List ℕ)) (k : List ℕ) → rise [] keys ≡ true → holders k (ranges_between ([] ∷ keys ++ [] ∷ [])) ≡ 1
bounds_once keys k rises = rising_from [] keys k rises ∙ ap one_if (from_empty k)

rising_keys : (start : List ℕ) (keys : List (List ℕ)) → rise start keys ≡ true → HaveKeys (ranges_from start (keys ++ [] ∷ []))
rising_keys start [] rises = (and_from (upto start start) true (upto_self start) refl, tt)
rising_keys start (key ∷ keys) rises =
    let parts = and_parts (is_lt (bytes_cmp start key)) (rise key keys) rises in
    (and_from (upto start start) ((length key == 0) || below start key) (upto_self start) (or_right (length key == 0) (below start key) parts.0), rising_keys key keys parts.1)

pub bounds_keys : (keys : List (List ℕ)) → rise [] keys ≡ true → HaveKeys (ranges_between ([] ∷ keys ++ [] ∷ []))
bounds_keys keys rises = rising_keys [] keys rises
