-- Hints don't fall in the order of names.
use Rattle.std.proofs.Common.{◌≡◌, ℕ, zero, suc, ◌+◌, ◌*◌, ◌<◌, ◌≤◌, Bool, true, false, List, [], ◌∷◌, refl, sym, ap, ◌∙◌, inl, inr, arith, nat_lt, min, cond}
use Rattle.std.specs.Ordering.{nat_cmp, ordering_then}
use Rattle.std.specs.Cmp.Lexicographic.{slice_cmp}
use Rattle.std.specs.declared.cmp.Ordering.{Ordering}
use Rattle.std.specs.declared.cmp.Ordering.TheVariants.{Less, Equal, Greater}
use Rattle.std.proofs.lemmas.Bool.{cases_lt, cases_eq}
use Rattle.std.proofs.lemmas.Bool.Decides.{nat_tests}
use Rattle.hm_names.specs.Hints.{front, nonce_hint}
use Rattle.hm_names.specs.Order.{nonce_cmp, server_cmp}
use Rattle.hm_names.specs.Server.{Server}
use Rattle.hm_names.specs.declared.nonce.Nonce.{Nonce}

is_byte : (x : ℕ) → x < 256 → nat_lt x 256 ≡ true
is_byte x lt = grind (arith, nat_tests, lt)

no_byte : (x : ℕ) → 256 ≤ x → nat_lt x 256 ≡ false
no_byte x le = grind (arith, nat_tests, le)

-- what stands before decides
pub apart : (n a b : ℕ) (xs ys : List ℕ) → a < b → front n a xs < front n b ys
apart zero a b xs ys lt = lt
apart (suc n) a b [] [] lt = apart n (a * 256) (b * 256) [] [] (omega (arith, lt))
apart (suc n) a b [] (y ∷ ys) lt = elim (cases_lt y 256) [
  | inl byte ↦ rw (is_byte y byte) (apart n (a * 256) (b * 256 + y) [] ys (omega (arith, lt)))
  | inr more ↦ rw (no_byte y more) (apart n (a * 256) (b * 256 + 255) [] (y ∷ ys) (omega (arith, lt)))
]
apart (suc n) a b (x ∷ xs) [] lt = elim (cases_lt x 256) [
  | inl byte ↦ rw (is_byte x byte) (apart n (a * 256 + x) (b * 256) xs [] (omega (arith, lt, byte)))
  | inr more ↦ rw (no_byte x more) (apart n (a * 256 + 255) (b * 256) (x ∷ xs) [] (omega (arith, lt)))
]
apart (suc n) a b (x ∷ xs) (y ∷ ys) lt = elim (cases_lt x 256) [
  | inl byte ↦ elim (cases_lt y 256) [
    | inl byte' ↦ rw (is_byte x byte, is_byte y byte') (apart n (a * 256 + x) (b * 256 + y) xs ys (omega (arith, lt, byte)))
    | inr more' ↦ rw (is_byte x byte, no_byte y more') (apart n (a * 256 + x) (b * 256 + 255) xs (y ∷ ys) (omega (arith, lt, byte)))
  ]
  | inr more ↦ elim (cases_lt y 256) [
    | inl byte' ↦ rw (no_byte x more, is_byte y byte') (apart n (a * 256 + 255) (b * 256 + y) (x ∷ xs) ys (omega (arith, lt)))
    | inr more' ↦ rw (no_byte x more, no_byte y more') (apart n (a * 256 + 255) (b * 256 + 255) (x ∷ xs) (y ∷ ys) (omega (arith, lt)))
  ]
]

-- nothing is above what begins with no byte
full : (n a x : ℕ) (xs ys : List ℕ) → 256 ≤ x → front n a ys ≤ front n a (x ∷ xs)
full zero a x xs ys le = omega arith
full (suc n) a x xs [] le = rw (no_byte x le) (omega (arith, apart n (a * 256) (a * 256 + 255) [] (x ∷ xs) (omega arith)))
full (suc n) a x xs (y ∷ ys) le = elim (cases_lt y 256) [
  | inl byte ↦ elim (cases_eq y 255) [
    | inl last ↦ rw (no_byte x le, is_byte y byte, last) (full n (a * 256 + 255) x xs ys le)
    | inr other ↦ rw (no_byte x le, is_byte y byte) (omega (arith, apart n (a * 256 + y) (a * 256 + 255) ys (x ∷ xs) (omega (arith, byte, other))))
  ]
  | inr more ↦ rw (no_byte x le, no_byte y more) (full n (a * 256 + 255) x xs (y ∷ ys) le)
]

not_below_none : (xs : List ℕ) → slice_cmp nat_cmp xs [] ≡ Less → ⊥
not_below_none [] is = cc
not_below_none (x ∷ xs) is = cc

first_less : (x y : ℕ) (o : Ordering) → x < y → ordering_then (nat_cmp x y) o ≡ Less
first_less x y o lt = let first : nat_cmp x y ≡ Less = grind (arith, nat_tests, lt) in rw first refl

first_same : (x y : ℕ) (o : Ordering) → x ≡ y → ordering_then (nat_cmp x y) o ≡ o
first_same x y o is = let first : nat_cmp x y ≡ Equal = grind (arith, nat_tests, is) in rw first refl

-- after the same number, the names with the lesser hint are the lesser
pub rises : (n a : ℕ) (xs ys : List ℕ) → front n a xs < front n a ys → slice_cmp nat_cmp xs ys ≡ Less
rises zero a xs ys lt = absurd (omega (arith, lt))
rises (suc n) a [] [] lt = absurd (omega (arith, lt))
rises (suc n) a [] (y ∷ ys) lt = refl
rises (suc n) a (x ∷ xs) [] lt = elim (cases_lt x 256) [
  | inl byte ↦ elim (cases_eq x 0) [
    | inl none ↦ (
        let e : a * 256 + x ≡ a * 256 = omega (arith, none) in
        let less : front n (a * 256) xs < front n (a * 256) [] = rw (is_byte x byte, e) at lt in
        absurd (not_below_none xs (rises n (a * 256) xs [] less)))
    | inr some ↦ (
        let less : front n (a * 256 + x) xs < front n (a * 256) [] = rw (is_byte x byte) at lt in
        absurd (omega (arith, less, apart n (a * 256) (a * 256 + x) [] xs (omega (arith, some)))))
  ]
  | inr more ↦ absurd (omega (arith, lt, full (suc n) a x xs [] more))
]
rises (suc n) a (x ∷ xs) (y ∷ ys) lt = elim (cases_lt x y) [
  | inl below ↦ first_less x y (slice_cmp nat_cmp xs ys) below
  | inr upto ↦ elim (cases_lt x 256) [
    | inl byte ↦ (
        let byte' : y < 256 = omega (arith, upto, byte) in
        let less : front n (a * 256 + x) xs < front n (a * 256 + y) ys = rw (is_byte x byte, is_byte y byte') at lt in
        elim (cases_eq x y) [
          | inl same ↦ (
              let e : a * 256 + y ≡ a * 256 + x = omega (arith, same) in
              let rest : front n (a * 256 + x) xs < front n (a * 256 + x) ys = rw e at less in
              first_same x y (slice_cmp nat_cmp xs ys) same ∙ rises n (a * 256 + x) xs ys rest)
          | inr other ↦ absurd (omega (arith, less, apart n (a * 256 + y) (a * 256 + x) ys xs (omega (arith, upto, other))))
        ])
    | inr more ↦ absurd (omega (arith, lt, full (suc n) a x xs (y ∷ ys) more))
  ]
]

-- a nonce with a lesser hint is lesser
pub nonces_rise : (a b : Nonce) → nonce_hint a < nonce_hint b → nonce_cmp a b ≡ Less
nonces_rise a b lt = elim (cases_lt a.group b.group) [
  | inl less ↦ first_less a.group b.group (nat_cmp a.number b.number) less
  | inr le ↦ elim (cases_lt a.group 65536) [
    | inl few ↦ (
        let small : nat_lt a.group 65536 ≡ true = grind (arith, nat_tests, few) in
        let small' : nat_lt b.group 65536 ≡ true = grind (arith, nat_tests, few, le) in
        let less : a.group * 281474976710656 + min a.number 281474976710655 < b.group * 281474976710656 + min b.number 281474976710655 = rw (small, small') at lt in
        let same : a.group ≡ b.group = omega (arith, less, le) in
        let lower : a.number < b.number = omega (arith, less, same) in
        let last : nat_cmp a.number b.number ≡ Less = grind (arith, nat_tests, lower) in
        first_same a.group b.group (nat_cmp a.number b.number) same ∙ last)
    | inr many ↦ (
        let large : nat_lt a.group 65536 ≡ false = grind (arith, nat_tests, many) in
        let less : 18446744073709551615 < nonce_hint b = rw large at lt in
        absurd (omega (arith, less, most b)))
  ]
]
  where
    most : (v : Nonce) → nonce_hint v ≤ 18446744073709551615
    most v = elim (cases_lt v.group 65536) [
      | inl few ↦ (let small : nat_lt v.group 65536 ≡ true = grind (arith, nat_tests, few) in rw small (omega (arith, few)))
      | inr many ↦ (let large : nat_lt v.group 65536 ≡ false = grind (arith, nat_tests, many) in rw large (omega arith))
    ]

-- a server whose host has a lesser hint is lesser
pub servers_rise : (n a : ℕ) (s t : Server) → front n a s.host < front n a t.host → server_cmp s t ≡ Less
servers_rise n a s t lt = let first = rises n a s.host t.host lt in rw first refl
