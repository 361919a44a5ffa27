-- What a range holds, and what its parts hold.
use Rattle.std.proofs.Common.{◌≡◌, ◌≢◌, ℕ, Bool, true, false, not, ◌||◌, ◌&&◌, ◌==◌, List, [], ◌∷◌, length, refl, ap, ◌∙◌}
use Rattle.std.specs.Str.{bytes_eq}
use Rattle.hm_names.specs.declared.range.KeyRange.{KeyRange}
use Rattle.hm_names.specs.Ranges.{ends_behind, holds, inner, overlaps, lower_part, upper_part}
use Rattle.hm_names.proofs.Orders.{below, upto, upto_not, upto_self, below_trans, upto_below, below_upto, below_unequal, upto_weaker, not_empty}

pub both : (a b : Bool) → (a && b) ≡ true → (a ≡ true) × (b ≡ true)
both true true e = (refl, refl)
both true false e = cc
both false b e = cc

not_true : (a : Bool) → not a ≡ true → a ≡ false
not_true true e = cc
not_true false e = refl

-- an inner key is above the start, isn't empty, and the end lies after it
pub inner_is : (r : KeyRange) (m : List ℕ) → inner r m ≡ true → (below r.start m ≡ true) × ((length m == 0) ≡ false) × (ends_behind r m ≡ true)
inner_is r m e =
    let parts = both (holds r m) (not (bytes_eq r.start m)) e in
    let held = both (upto r.start m) (ends_behind r m) parts.0 in
    let above = below_unequal r.start m held.0 (not_true (bytes_eq r.start m) parts.1) in
    (above, not_empty r.start m above, held.1)

-- the end lies after each key below one that it lies after
ends_by : (unbounded : Bool) (k m e : List ℕ) → below k m ≡ true → (unbounded || below m e) ≡ true → (unbounded || below k e) ≡ true
ends_by true k m e p q = refl
ends_by false k m e p q = below_trans k m e p q

held_by : (empty lower : Bool) (from from_mid end : Bool) → empty ≡ false → from_mid ≡ not lower → (lower ≡ true → end ≡ true) → (lower ≡ false → from ≡ true)
    → (from && end) ≡ ((from && (empty || lower)) || (from_mid && end))
held_by true lower from from_mid end n a b c = cc
held_by false true true true end n a b c = cc
held_by false true true false end n a b c = b refl
held_by false true false true end n a b c = cc
held_by false true false false end n a b c = refl
held_by false false true true end n a b c = refl
held_by false false true false end n a b c = cc
held_by false false false from_mid end n a b c = let no = c refl in cc

-- a range cut at an inner key has the keys of its parts
pub held_in_parts : (r : KeyRange) (m : List ℕ) → inner r m ≡ true → (k : List ℕ) → holds r k ≡ (holds (lower_part r m) k || holds (upper_part r m) k)
held_in_parts r m e k =
    let is = inner_is r m e in
    held_by (length m == 0) (below k m) (upto r.start k) (upto m k) (ends_behind r k) is.1 (upto_not m k)
    (λ lower. ends_by (length r.end == 0) k m r.end lower is.2)
    (λ higher. upto_weaker r.start k (below_upto r.start m k is.0 (upto_not m k ∙ ap not higher)))

apart_by : (empty lower from from_mid end : Bool) → empty ≡ false → from_mid ≡ not lower → ((from && (empty || lower)) && (from_mid && end)) ≡ false
apart_by true lower from from_mid end n a = cc
apart_by false true true true end n a = cc
apart_by false true true false end n a = refl
apart_by false true false from_mid end n a = refl
apart_by false false true from_mid end n a = refl
apart_by false false false from_mid end n a = refl

-- and no key lies in both
pub held_apart : (r : KeyRange) (m : List ℕ) → inner r m ≡ true → (k : List ℕ) → (holds (lower_part r m) k && holds (upper_part r m) k) ≡ false
held_apart r m e k =
    apart_by (length m == 0) (below k m) (upto r.start k) (upto m k) (ends_behind r k) (inner_is r m e).1 (upto_not m k)

-- the end of a range lies after what is up to a key that it lies after
ends_upto : (unbounded : Bool) (s k e : List ℕ) → upto s k ≡ true → (unbounded || below k e) ≡ true → (unbounded || below s e) ≡ true
ends_upto true s k e p q = refl
ends_upto false s k e p q = upto_below s k e p q

-- where two ranges have a key in common each one's end lies after the other's start
pub shared_ends : (a b : KeyRange) (k : List ℕ) → holds a k ≡ true → holds b k ≡ true → ends_behind a b.start ≡ true
shared_ends a b k p q =
    let in_a = both (upto a.start k) (ends_behind a k) p in
    let in_b = both (upto b.start k) (ends_behind b k) q in
    ends_upto (length a.end == 0) b.start k a.end in_b.0 in_a.1

and_true : (a b : Bool) → a ≡ true → b ≡ true → (a && b) ≡ true
and_true true true p q = refl
and_true true false p q = cc
and_true false b p q = cc

or_right : (a b : Bool) → b ≡ true → (a || b) ≡ true
or_right true b p = refl
or_right false b p = p

-- a range that has a key has its start
pub holds_start : (r : KeyRange) (k : List ℕ) → holds r k ≡ true → holds r r.start ≡ true
holds_start r k p = and_true (upto r.start r.start) (ends_behind r r.start) (upto_self r.start) (shared_ends r r k p p)

common_by : (a b : KeyRange) (lower : Bool) → below b.start a.start ≡ lower → holds a a.start ≡ true → holds b b.start ≡ true
    → ends_behind a b.start ≡ true → ends_behind b a.start ≡ true → (key : List ℕ) × (holds a key ≡ true) × (holds b key ≡ true)
common_by a b true e p q in_a in_b =
    (a.start, p, and_true (upto b.start a.start) (ends_behind b a.start) (upto_weaker b.start a.start e) in_b)
common_by a b false e p q in_a in_b =
    (b.start, and_true (upto a.start b.start) (ends_behind a b.start) (upto_not a.start b.start ∙ ap not e) in_a, q)

-- where each one's end lies after the other's start, two ranges that have keys have the greater start in common
pub common_key : (a b : KeyRange) (in_a in_b : List ℕ) → holds a in_a ≡ true → holds b in_b ≡ true → overlaps a b ≡ true
    → (key : List ℕ) × (holds a key ≡ true) × (holds b key ≡ true)
common_key a b in_a in_b p q e =
    let ends = both (ends_behind a b.start) (ends_behind b a.start) e in
    common_by a b (below b.start a.start) refl (holds_start a in_a p) (holds_start b in_b q) ends.0 ends.1

pub filled_not_nil : (s : List ℕ) → (length s == 0) ≡ false → s ≢ []
filled_not_nil [] e = absurd (cc)
filled_not_nil (x ∷ s) e = λ p. cc

-- the parts of a range that is cut have keys: each has its start
pub parts_hold_starts : (r : KeyRange) (m : List ℕ) → inner r m ≡ true → (holds (lower_part r m) r.start ≡ true) × (holds (upper_part r m) m ≡ true)
parts_hold_starts r m e =
    let is = inner_is r m e in (
      and_true (upto r.start r.start) ((length m == 0) || below r.start m) (upto_self r.start) (or_right (length m == 0) (below r.start m) is.0),
      and_true (upto m m) (ends_behind r m) (upto_self m) is.2,
    )
