-- Blocks one after another: where each begins, what an item more or a split does, and a search in two levels.
use Rattle.std.proofs.Common.{◌≡◌, ◌≢◌, ℕ, zero, suc, ◌+◌, ◌-◌, ◌<◌, ◌≤◌, List, [], ◌∷◌, ◌++◌, length, get_or, set, take, drop, Ok, Err, refl, inl, inr, arith, ap, sym, ◌∙◌, subst, length-append, append_assoc, zero-add}
use Rattle.std.specs.List.{insert}
use Rattle.std.specs.List.Sorted.{IsBinarySearchResult, IsNonDecreasingBy}
use Rattle.std.specs.Ordering.{ordering_index}
use Rattle.std.specs.declared.cmp.Ordering.{Ordering}
use Rattle.std.specs.declared.cmp.Ordering.TheVariants.{Less, Equal, Greater}
use Rattle.std.proofs.lemmas.Bool.{cases_lt, cases_eq}
use Rattle.std.proofs.lemmas.List.{get_or_append_left, get_or-append-add, get_or_default, take-append-drop, length-take-le, length-drop}
use Rattle.std.proofs.Math.ListN.{length-set}
use Rattle.std.proofs.lemmas.List.Edits.{insert-append_left, insert-append_right, length-insert}
use Rattle.hm_index.specs.Blocks.{laid, start, block_at, split_at, lead, IsPacked, IsSpot, IsBlockFor, IsBetween}

-- Where blocks begin.

pub read : {X : Type 0} (blocks : List (List X)) (b i : ℕ) (d : X) → b < length blocks → i < length (block_at blocks b) → get_or (laid blocks) (start blocks b + i) d ≡ get_or (block_at blocks b) i d
read [] b i d lt within = absurd (omega arith)
read (block ∷ blocks) zero i d lt within = rw zero-add (get_or_append_left block (laid blocks) d i within)
read (block ∷ blocks) (suc b) i d lt within =
    let place : length block + start blocks b + i ≡ length block + (start blocks b + i) = omega arith in
    rw place (get_or-append-add block (laid blocks) (start blocks b + i) d ∙ read blocks b i d (omega arith) within)

-- a block ends within the order
pub ends : {X : Type 0} (blocks : List (List X)) (b : ℕ) → b < length blocks → start blocks b + length (block_at blocks b) ≤ length (laid blocks)
ends [] b lt = absurd (omega arith)
ends (block ∷ blocks) zero lt = omega (arith, length-append block (laid blocks))
ends (block ∷ blocks) (suc b) lt = omega (arith, length-append block (laid blocks), ends blocks b (omega arith))

-- the last block ends with the order
pub last : {X : Type 0} (blocks : List (List X)) (b : ℕ) → b + 1 ≡ length blocks → start blocks b + length (block_at blocks b) ≡ length (laid blocks)
last [] b is = absurd (omega arith)
last (block ∷ []) zero is = omega (arith, length-append block [])
last (block ∷ next ∷ blocks) zero is = absurd (omega arith)
last (block ∷ blocks) (suc b) is = omega (arith, length-append block (laid blocks), last blocks b (omega arith))

-- the next block begins where one ends
pub begins : {X : Type 0} (blocks : List (List X)) (b : ℕ) → b + 1 < length blocks → start blocks (b + 1) ≡ start blocks b + length (block_at blocks b)
begins [] b lt = absurd (omega arith)
begins (block ∷ []) zero lt = absurd (omega arith)
begins (block ∷ next ∷ blocks) zero lt = omega arith
begins (block ∷ blocks) (suc b) lt =
    let e : suc b + 1 ≡ suc (b + 1) = omega arith in
    rw e (omega (arith, begins blocks b (omega arith)))

-- a later block begins after the end of an earlier one
order : {X : Type 0} (blocks : List (List X)) (i j : ℕ) → i < j → j < length blocks → start blocks i + length (block_at blocks i) ≤ start blocks j
order [] i j less lt = absurd (omega arith)
order (block ∷ blocks) i zero less lt = absurd (omega arith)
order (block ∷ blocks) zero (suc j) less lt = omega arith
order (block ∷ blocks) (suc i) (suc j) less lt = omega (arith, order blocks i j (omega arith) (omega arith))

-- the order begins with the first block
pub start-zero : {X : Type 0} (blocks : List (List X)) → start blocks 0 + 0 ≡ 0
start-zero [] = refl
start-zero (block ∷ blocks) = refl

-- after the end of a block stands the first item of the next, and then the spot after that
pub behind_end : {X : Type 0} (blocks : List (List X)) (b at : ℕ) → IsPacked blocks → IsSpot blocks b at → at ≡ length (block_at blocks b) → start blocks b + at < length (laid blocks)
    → record { spot : IsSpot blocks (b + 1) 1; next : start blocks (b + 1) + 1 ≡ start blocks b + at + 1 }
behind_end blocks b at packed spot end more =
    let lt : b + 1 < length blocks = elim (cases_lt (b + 1) (length blocks)) [
      | inl lt ↦ lt
      | inr le ↦ (let ends_all = last blocks b (omega (arith, spot.block)) in absurd (omega arith))
    ] in
    record { spot = record { block = lt; within = packed.filled (b + 1) (omega arith) lt }; next = omega (arith, begins blocks b lt) }

-- What an item more and a split do.

pub laid-put : {X : Type 0} (blocks : List (List X)) (b at : ℕ) (mark : X) → b < length blocks → at ≤ length (block_at blocks b) → laid (set blocks b (insert (block_at blocks b) at mark)) ≡ insert (laid blocks) (start blocks b + at) mark
laid-put [] b at mark lt within = absurd (omega arith)
laid-put (block ∷ blocks) zero at mark lt within = rw zero-add (sym (insert-append_left block (laid blocks) at mark within))
laid-put (block ∷ blocks) (suc b) at mark lt within =
    let there : length block + start blocks b + at - length block ≡ start blocks b + at = omega arith in
    sym (insert-append_right block (laid blocks) (length block) (length block + start blocks b + at) mark refl (omega arith) ∙ ap (λ k. block ++ insert (laid blocks) k mark) there ∙ ap (λ l. block ++ l) (sym (laid-put blocks b at mark (omega arith) within)))

set-here : {X : Type 0} (blocks : List (List X)) (b : ℕ) (block : List X) → b < length blocks → block_at (set blocks b block) b ≡ block
set-here [] b block lt = absurd (omega arith)
set-here (first ∷ blocks) zero block lt = refl
set-here (first ∷ blocks) (suc b) block lt = set-here blocks b block (omega arith)

set-other : {X : Type 0} (blocks : List (List X)) (b k : ℕ) (block : List X) → k ≢ b → block_at (set blocks b block) k ≡ block_at blocks k
set-other [] b k block other = refl
set-other (first ∷ blocks) zero zero block other = absurd (other refl)
set-other (first ∷ blocks) zero (suc k) block other = refl
set-other (first ∷ blocks) (suc b) zero block other = refl
set-other (first ∷ blocks) (suc b) (suc k) block other = set-other blocks b k block (λ is. other (ap suc is))

pub packed-put : {X : Type 0} (blocks : List (List X)) (b at : ℕ) (mark : X) → IsPacked blocks → b < length blocks → at ≤ length (block_at blocks b) → IsPacked (set blocks b (insert (block_at blocks b) at mark))
packed-put blocks b at mark packed lt le =
    let size = length-set blocks b (insert (block_at blocks b) at mark) in
    record {
      some = omega (arith, size, packed.some);
      filled = λ k low high. elim (cases_eq k b) [
        | inl is ↦ rw (is, set-here blocks b (insert (block_at blocks b) at mark) lt) (omega (arith, length-insert (block_at blocks b) at mark le))
        | inr other ↦ rw (set-other blocks b k (insert (block_at blocks b) at mark) other) (packed.filled k low (omega (arith, size, high)))
      ];
    }

pub split-insert : {X : Type 0} (blocks : List (List X)) (b half : ℕ) → b < length blocks → insert (set blocks b (take half (block_at blocks b))) (b + 1) (drop half (block_at blocks b)) ≡ split_at blocks b half
split-insert [] b half lt = absurd (omega arith)
split-insert (block ∷ blocks) zero half lt = refl
split-insert (block ∷ blocks) (suc b) half lt = let e : suc b + 1 ≡ suc (b + 1) = omega arith in rw e (ap (λ l. block ∷ l) (split-insert blocks b half (omega arith)))

pub laid-split : {X : Type 0} (blocks : List (List X)) (b half : ℕ) → b < length blocks → laid (split_at blocks b half) ≡ laid blocks
laid-split [] b half lt = refl
laid-split (block ∷ blocks) zero half lt = sym (append_assoc (take half block) (drop half block) (laid blocks)) ∙ ap (λ l. l ++ laid blocks) (take-append-drop half block)
laid-split (block ∷ blocks) (suc b) half lt = ap (λ l. block ++ l) (laid-split blocks b half (omega arith))

pub length-split : {X : Type 0} (blocks : List (List X)) (b half : ℕ) → b < length blocks → length (split_at blocks b half) ≡ length blocks + 1
length-split [] b half lt = absurd (omega arith)
length-split (block ∷ blocks) zero half lt = omega arith
length-split (block ∷ blocks) (suc b) half lt = omega (arith, length-split blocks b half (omega arith))

split-below : {X : Type 0} (blocks : List (List X)) (b half k : ℕ) → k < b → block_at (split_at blocks b half) k ≡ block_at blocks k
split-below [] b half k lt = refl
split-below (block ∷ blocks) zero half k lt = absurd (omega arith)
split-below (block ∷ blocks) (suc b) half zero lt = refl
split-below (block ∷ blocks) (suc b) half (suc k) lt = split-below blocks b half k (omega arith)

pub split-lower : {X : Type 0} (blocks : List (List X)) (b half : ℕ) → b < length blocks → block_at (split_at blocks b half) b ≡ take half (block_at blocks b)
split-lower [] b half lt = absurd (omega arith)
split-lower (block ∷ blocks) zero half lt = refl
split-lower (block ∷ blocks) (suc b) half lt = split-lower blocks b half (omega arith)

pub split-upper : {X : Type 0} (blocks : List (List X)) (b half : ℕ) → b < length blocks → block_at (split_at blocks b half) (b + 1) ≡ drop half (block_at blocks b)
split-upper [] b half lt = absurd (omega arith)
split-upper (block ∷ blocks) zero half lt = refl
split-upper (block ∷ blocks) (suc b) half lt = let e : suc b + 1 ≡ suc (b + 1) = omega arith in rw e (split-upper blocks b half (omega arith))

split-above : {X : Type 0} (blocks : List (List X)) (b half k : ℕ) → b < k → block_at (split_at blocks b half) (suc k) ≡ block_at blocks k
split-above [] b half k lt = refl
split-above (block ∷ blocks) zero half zero lt = absurd (omega arith)
split-above (block ∷ blocks) zero half (suc k) lt = refl
split-above (block ∷ blocks) (suc b) half zero lt = absurd (omega arith)
split-above (block ∷ blocks) (suc b) half (suc k) lt = split-above blocks b half k (omega arith)

start-lower : {X : Type 0} (blocks : List (List X)) (b half : ℕ) → start (split_at blocks b half) b ≡ start blocks b
start-lower [] b half = refl
start-lower (block ∷ blocks) zero half = refl
start-lower (block ∷ blocks) (suc b) half = ap (λ n. length block + n) (start-lower blocks b half)

start-upper : {X : Type 0} (blocks : List (List X)) (b half : ℕ) → b < length blocks → half ≤ length (block_at blocks b) → start (split_at blocks b half) (b + 1) ≡ start blocks b + half
start-upper [] b half lt le = absurd (omega arith)
start-upper (block ∷ blocks) zero half lt le = omega (arith, length-take-le half block le)
start-upper (block ∷ blocks) (suc b) half lt le = let e : suc b + 1 ≡ suc (b + 1) = omega arith in rw e (omega (arith, start-upper blocks b half (omega arith) le))

pub packed-split : {X : Type 0} (blocks : List (List X)) (b half : ℕ) → IsPacked blocks → b < length blocks → 0 < half → half < length (block_at blocks b) → IsPacked (split_at blocks b half)
packed-split blocks b half packed lt some less = record {
  some = omega (arith, length-split blocks b half lt);
  filled = λ k low high.
      let size = length-split blocks b half lt in
      elim (cases_lt k b) [
        | inl below ↦ rw (split-below blocks b half k below) (packed.filled k low (omega arith))
        | inr le ↦ elim (cases_eq k b) [
          | inl is ↦ rw (is, split-lower blocks b half lt) (omega (arith, length-take-le half (block_at blocks b) (omega arith)))
          | inr other ↦ elim (cases_eq k (b + 1)) [
            | inl next ↦ rw (next, split-upper blocks b half lt) (omega (arith, length-drop half (block_at blocks b)))
            | inr far ↦ (
                let e : suc (k - 1) ≡ k = omega arith in
                subst (λ n. 0 < length (block_at (split_at blocks b half) n)) e (rw (split-above blocks b half (k - 1) (omega arith)) (packed.filled (k - 1) (omega arith) (omega arith))))
          ]
        ]
      ];
}

-- a spot of a full block, after the block was split
pub lower_spot : {X : Type 0} (blocks : List (List X)) (b at half : ℕ) → b < length blocks → half < length (block_at blocks b) → at ≤ half
    → record { spot : IsSpot (split_at blocks b half) b at; same : start (split_at blocks b half) b + at ≡ start blocks b + at; size : length (block_at (split_at blocks b half) b) ≡ half }
lower_spot blocks b at half lt less le =
    let size : length (block_at (split_at blocks b half) b) ≡ half = rw (split-lower blocks b half lt) (length-take-le half (block_at blocks b) (omega arith)) in
    record {
      spot = record { block = omega (arith, length-split blocks b half lt); within = omega arith };
      same = ap (λ n. n + at) (start-lower blocks b half);
      size = size;
    }

pub upper_spot : {X : Type 0} (blocks : List (List X)) (b at half : ℕ) → b < length blocks → half < length (block_at blocks b) → half < at → at ≤ length (block_at blocks b)
    → record { spot : IsSpot (split_at blocks b half) (b + 1) (at - half); same : start (split_at blocks b half) (b + 1) + (at - half) ≡ start blocks b + at; size : length (block_at (split_at blocks b half) (b + 1)) ≡ length (block_at blocks b) - half }
upper_spot blocks b at half lt less far le =
    let size : length (block_at (split_at blocks b half) (b + 1)) ≡ length (block_at blocks b) - half = rw (split-upper blocks b half lt) (length-drop half (block_at blocks b)) in
    record {
      spot = record { block = omega (arith, length-split blocks b half lt); within = omega arith };
      same = omega (arith, start-upper blocks b half lt (omega arith));
      size = size;
    }

-- a block that was read
pub taken : {X : Type 0} (blocks blocks' : List (List X)) (b : ℕ) (block : List X) → blocks ≡ blocks' → b < length blocks' → block ≡ get_or blocks b block → block ≡ block_at blocks' b
taken blocks blocks' b block same lt is = is ∙ ap (λ l. get_or l b block) same ∙ get_or_default blocks' b block [] lt

-- all that stands from a number on
pub all_from : {X : Type 0} (marks : List X) (n : ℕ) → take (length marks - n) (drop n marks) ≡ drop n marks
all_from marks n = take_all (length marks - n) (drop n marks) (omega (arith, length-drop n marks))
  where
    take_all : {X : Type 0} (n : ℕ) (marks : List X) → length marks ≤ n → take n marks ≡ marks
    take_all zero [] le = refl
    take_all (suc n) [] le = refl
    take_all zero (mark ∷ marks) le = absurd (omega arith)
    take_all (suc n) (mark ∷ marks) le = ap (λ l. mark ∷ l) (take_all n marks (omega arith))

-- A search in two levels, for ranks that don't fall.

least : (o : Ordering) → ordering_index o ≤ 0 → o ≡ Less
least Less le = refl
least Equal le = absurd (omega arith)
least Greater le = absurd (omega arith)

greatest : (o : Ordering) → 2 ≤ ordering_index o → o ≡ Greater
greatest Less le = absurd (omega arith)
greatest Equal le = absurd (omega arith)
greatest Greater le = refl

module _ {X : Type 0} (rank : X → Ordering) where
  lead_is : (block : List X) (d : X) → 0 < length block → lead rank block ≡ rank (get_or block 0 d)
  lead_is [] d lt = absurd (omega arith)
  lead_is (mark ∷ more) d lt = refl

  one_of : (block : List X) → 0 < length block → X
  one_of [] some = absurd (omega arith)
  one_of (mark ∷ more) some = mark

  module _ (blocks : List (List X)) where
    abbrev pub AreRising : Type 0
    AreRising = IsNonDecreasingBy (λ mark. ordering_index (rank mark)) (laid blocks)

    -- the rank where a block begins
    first_is : (b : ℕ) (d : X) → b < length blocks → 0 < length (block_at blocks b) → lead rank (block_at blocks b) ≡ rank (get_or (laid blocks) (start blocks b) d)
    first_is b d lt some = lead_is (block_at blocks b) d some ∙ ap rank (sym (ap (λ k. get_or (laid blocks) k d) (let e : start blocks b + 0 ≡ start blocks b = omega arith in sym e) ∙ read blocks b 0 d lt some))

    pub leads_rise : AreRising → (i j : ℕ) → i ≤ j → j < length blocks → (0 < j → 0 < length (block_at blocks j)) → ordering_index (lead rank (block_at blocks i)) ≤ ordering_index (lead rank (block_at blocks j))
    leads_rise rises i j le lt some = elim (cases_eq i j) [
      | inl is ↦ rw is (omega arith)
      | inr other ↦ elim (cases_eq (length (block_at blocks i)) 0) [
        | inl none ↦ rw (empty_leads (block_at blocks i) none) (omega arith)
        | inr filled ↦ (
            let up = order blocks i j (omega arith) lt in
            let there : 0 < length (block_at blocks j) = some (omega arith) in
            let within = ends blocks j lt in
            let d : X = one_of (block_at blocks j) there in
            rw (first_is i d (omega arith) (omega arith), first_is j d lt there) (rises (start blocks i) (start blocks j) d (omega arith) (omega arith)))
      ]
    ]
      where
        empty_leads : (block : List X) → length block ≡ 0 → lead rank block ≡ Less
        empty_leads [] is = refl
        empty_leads (mark ∷ more) is = absurd (omega arith)

    module _ (b : ℕ) (lt : b < length blocks) where
      -- a mark found in the block is one found in the order
      pub found_in : (at : ℕ) → at < length (block_at blocks b) → IsBinarySearchResult rank (block_at blocks b) (Ok at) → IsBinarySearchResult rank (laid blocks) (Ok (start blocks b + at))
      found_in at within is d = rw (read blocks b at d lt within) (is d)

      in_block : (k : ℕ) (d : X) → start blocks b ≤ k → k < start blocks b + length (block_at blocks b) → get_or (laid blocks) k d ≡ get_or (block_at blocks b) (k - start blocks b) d
      in_block k d low high =
          let e : start blocks b + (k - start blocks b) ≡ k = omega arith in
          ap (λ n. get_or (laid blocks) n d) (sym e) ∙ read blocks b (k - start blocks b) d lt (omega arith)

      block_rises : AreRising → IsNonDecreasingBy (λ mark. ordering_index (rank mark)) (block_at blocks b)
      block_rises rises i j d le within =
          let end = ends blocks b lt in
          rw (sym (read blocks b i d lt (omega arith)), sym (read blocks b j d lt within)) (rises (start blocks b + i) (start blocks b + j) d (omega arith) (omega arith))

      module _ (packed : IsPacked blocks) (taken : IsBlockFor rank blocks b) (at : ℕ) (within : at ≤ length (block_at blocks b)) (inner : IsBinarySearchResult rank (block_at blocks b) (Err at)) (rises : AreRising) where
        -- a block that begins with the key has it
        between : IsBetween rank blocks b
        between = elim (taken rises) [ inl tie ↦ absurd (no_tie tie) | inr is ↦ is ]
          where
            no_tie : lead rank (block_at blocks b) ≡ Equal → ⊥
            no_tie tie = elim (cases_eq (length (block_at blocks b)) 0) [
              | inl none ↦ empty (block_at blocks b) none tie
              | inr some ↦ (
                  let d : X = one_of (block_at blocks b) (omega arith) in
                  let first = lead_is (block_at blocks b) d (omega arith) in
                  elim (cases_lt 0 at) [
                    | inl low ↦ (let less = (inner (block_rises rises)).0 0 d (omega arith) low in cc)
                    | inr high ↦ (let more = (inner (block_rises rises)).1 0 d high (omega arith) in cc)
                  ])
            ]
              where
                empty : (block : List X) → length block ≡ 0 → lead rank block ≡ Equal → ⊥
                empty [] is e = cc
                empty (mark ∷ more) is e = absurd (omega arith)

        before : (k : ℕ) (d : X) → 0 ≤ k → k < start blocks b + at → rank (get_or (laid blocks) k d) ≡ Less
        before k d low less = elim (cases_lt k (start blocks b)) [
          | inl front ↦ (
              let far : 0 < b = positive blocks b (omega arith) in
              let some = packed.filled b far lt in
              let end = ends blocks b lt in
              let up = rises k (start blocks b) d (omega arith) (omega arith) in
              let first : rank (get_or (laid blocks) (start blocks b) d) ≡ Less = sym (first_is b d lt some) ∙ between.below far in
              least (rank (get_or (laid blocks) k d)) (subst (λ o. ordering_index (rank (get_or (laid blocks) k d)) ≤ ordering_index o) first up))
          | inr here ↦ rw (in_block k d here (omega arith)) ((inner (block_rises rises)).0 (k - start blocks b) d (omega arith) (omega arith))
        ]
          where
            positive : (blocks : List (List X)) (b : ℕ) → 0 < start blocks b → 0 < b
            positive [] b some = absurd (omega arith)
            positive (block ∷ blocks) zero some = absurd (omega arith)
            positive (block ∷ blocks) (suc b) some = omega arith

        behind : (k : ℕ) (d : X) → start blocks b + at ≤ k → k < length (laid blocks) → rank (get_or (laid blocks) k d) ≡ Greater
        behind k d low high = elim (cases_lt k (start blocks b + length (block_at blocks b))) [
          | inl here ↦ rw (in_block k d (omega arith) here) ((inner (block_rises rises)).1 (k - start blocks b) d (omega arith) (omega arith))
          | inr past ↦ elim (cases_lt (b + 1) (length blocks)) [
            | inl more ↦ (
                let some = packed.filled (b + 1) (omega arith) more in
                let begin = begins blocks b more in
                let up = rises (start blocks (b + 1)) k d (omega arith) high in
                let first : rank (get_or (laid blocks) (start blocks (b + 1)) d) ≡ Greater = sym (first_is (b + 1) d more some) ∙ between.above more in
                greatest (rank (get_or (laid blocks) k d)) (subst (λ o. ordering_index o ≤ ordering_index (rank (get_or (laid blocks) k d))) first up))
            | inr none ↦ (let end = last blocks b (omega arith) in absurd (omega arith))
          ]
        ]

      -- where the key belongs in the block is where it belongs in the order
      pub absent_in : IsPacked blocks → IsBlockFor rank blocks b → (at : ℕ) → at ≤ length (block_at blocks b) → IsBinarySearchResult rank (block_at blocks b) (Err at) → IsBinarySearchResult rank (laid blocks) (Err (start blocks b + at))
      absent_in packed taken at within inner rises = (before packed taken at within inner rises, behind packed taken at within inner rises)
