-- Keys that rise: what is among them, what one more or one less does to them, and a search among them.
use Rattle.std.proofs.Common.{◌≡◌, ℕ, zero, suc, ◌<◌, ◌≤◌, List, [], ◌∷◌, map, length, get_or, take, drop, slice_get, Result, Ok, Err, IfOk, IfErr, IfSome, Bool, true, false, not, ◌&&◌, ◌||◌, ◌==◌, if◌then◌else◌, refl, inl, inr, arith, ap, sym, ◌∙◌, subst}
use Rattle.std.specs.Cmp.{IsTotalOrder}
use Rattle.std.specs.List.{insert, remove}
use Rattle.std.specs.List.Sorted.{IsSearchInRange, IsBinarySearchResult, IsNonDecreasingBy}
use Rattle.std.specs.Ordering.{ordering_index, ordering_reverse, is_eq}
use Rattle.std.specs.declared.cmp.Ordering.{Ordering}
use Rattle.std.specs.declared.cmp.Ordering.TheVariants.{Less, Equal, Greater}
use Rattle.std.proofs.lemmas.Bool.{cases_Bool, cases_eq}
use Rattle.std.proofs.lemmas.Bool.Decides.{nat_tests}
use Rattle.std.proofs.lemmas.Cmp.{alike_right, tied_itself}
use Rattle.hm_places.specs.Chosen.{IsBelow, AreBelow, Rises, has, HasGap, HasAt}

pub is_equal : (o : Ordering) → is_eq o ≡ true → o ≡ Equal
is_equal Less e = cc
is_equal Equal e = refl
is_equal Greater e = cc

swap_or : (a b c : Bool) → (a || (b || c)) ≡ (b || (a || c))
swap_or true true c = refl
swap_or true false c = refl
swap_or false true c = refl
swap_or false false c = refl

strip : (a b c : Bool) → a ≡ false → (a || b) ≡ (a || c) → b ≡ c
strip true b c off e = cc
strip false b c off e = e

module _ {K : Type 0} (cmp : K → K → Ordering) (total : IsTotalOrder cmp) where
  above : (a b : K) → cmp a b ≡ Less → cmp b a ≡ Greater
  above a b less = total.antisymm b a ∙ ap ordering_reverse less

  below : (a b : K) → cmp a b ≡ Greater → cmp b a ≡ Less
  below a b greater = total.antisymm b a ∙ ap ordering_reverse greater

  -- what is below the first of some is below all
  below-down : (a b : K) (keys : List K) → cmp a b ≡ Less → IsBelow cmp b keys → IsBelow cmp a keys
  below-down a b [] less all = tt
  below-down a b (key ∷ keys) less all = (total.trans a b key less all.0, below-down a b keys less all.1)

  -- a key that ties with one below all is not among them
  pub below-has : (a key : K) (keys : List K) → cmp a key ≡ Equal → IsBelow cmp a keys → has cmp keys key ≡ false
  below-has a key [] ties all = refl
  below-has a key (other ∷ keys) ties all =
      let apart : cmp other key ≡ Greater = above key other (sym (total.congr a key other ties) ∙ all.0) in
      rw apart (below-has a key keys ties all.1)

  below-at : (a key : K) (keys : List K) (at : ℕ) → IsBelow cmp a keys → HasAt cmp keys key at → cmp a key ≡ Less
  below-at a key [] at all there = absurd (omega (arith, there.within))
  below-at a key (x ∷ keys) zero all there = sym (alike_right total x key a there.ties) ∙ all.0
  below-at a key (x ∷ keys) (suc at) all there = below-at a key keys at all.1 (record { within = omega (arith, there.within); ties = there.ties })

  -- a key that stands somewhere is among them
  pub at-has : (key : K) (keys : List K) (at : ℕ) → HasAt cmp keys key at → has cmp keys key ≡ true
  at-has key [] at there = absurd (omega (arith, there.within))
  at-has key (x ∷ keys) zero there = rw there.ties refl
  at-has key (x ∷ keys) (suc at) there = rw (at-has key keys at (record { within = omega (arith, there.within); ties = there.ties })) (or_true (is_eq (cmp x key)))
    where
      or_true : (b : Bool) → (b || true) ≡ true
      or_true true = refl
      or_true false = refl

  -- a key that has its gap isn't among them
  pub gap-has : (key : K) (keys : List K) (at : ℕ) → HasGap cmp keys key at → has cmp keys key ≡ false
  gap-has key [] at gap = refl
  gap-has key (x ∷ keys) zero gap = rw (above key x gap.greater.0) (none keys gap.greater.1)
    where
      none : (keys : List K) → IsBelow cmp key keys → has cmp keys key ≡ false
      none [] all = refl
      none (x ∷ keys) all = rw (above key x all.0) (none keys all.1)
  gap-has key (x ∷ keys) (suc at) gap = rw gap.less.0 (gap-has key keys at (record { within = omega (arith, gap.within); less = gap.less.1; greater = gap.greater }))

  -- two lists that rise and have the same are one
  first_same : (x : K) (xs ys : List K) → IsBelow cmp x xs → IsBelow cmp x ys → ((key : K) → has cmp (x ∷ xs) key ≡ has cmp (x ∷ ys) key) → (key : K) → has cmp xs key ≡ has cmp ys key
  first_same x xs ys low low' same key = elim (cases_Bool (is_eq (cmp x key))) [
    | inl on ↦ (let ties = is_equal (cmp x key) on in below-has x key xs ties low ∙ sym (below-has x key ys ties low'))
    | inr off ↦ strip (is_eq (cmp x key)) (has cmp xs key) (has cmp ys key) off (same key)
  ]

  not_lower : (x : K) (xs : List K) (y : K) (ys : List K) → IsBelow cmp y ys → ((key : K) → has cmp (x ∷ xs) key ≡ has cmp (y ∷ ys) key) → cmp x y ≡ Less → ⊥
  not_lower x xs y ys low same less =
      let gone : has cmp (y ∷ ys) x ≡ false = below-has x x (y ∷ ys) (tied_itself total x) (less, below-down x y ys less low) in
      let there : has cmp (x ∷ xs) x ≡ true = rw (tied_itself total x) refl in
      let e : true ≡ false = sym there ∙ same x ∙ gone in
      cc

  pub unique : ((a b : K) → cmp a b ≡ Equal → a ≡ b) → (xs ys : List K) → Rises cmp xs → Rises cmp ys → ((key : K) → has cmp xs key ≡ has cmp ys key) → xs ≡ ys
  unique is [] [] rise rise' same = refl
  unique is [] (y ∷ ys) rise rise' same = let e : false ≡ true = same y ∙ rw (tied_itself total y) refl in cc
  unique is (x ∷ xs) [] rise rise' same = let e : true ≡ false = sym (rw (tied_itself total x) refl) ∙ same x in cc
  unique is (x ∷ xs) (y ∷ ys) rise rise' same = by (unique is xs ys rise.1 rise'.1) (cmp x y) refl
    where
      by : (((key : K) → has cmp xs key ≡ has cmp ys key) → xs ≡ ys) → (o : Ordering) → cmp x y ≡ o → x ∷ xs ≡ y ∷ ys
      by more Less e = absurd (not_lower x xs y ys rise'.0 same e)
      by more Greater e = absurd (not_lower y ys x xs rise.0 (λ key. sym (same key)) (below x y e))
      by more Equal e =
          let one : x ≡ y = is x y e in
          let low : IsBelow cmp x ys = subst (λ z. IsBelow cmp z ys) (sym one) rise'.0 in
          let alike : (key : K) → has cmp (x ∷ xs) key ≡ has cmp (x ∷ ys) key = subst (λ z. (key : K) → has cmp (x ∷ xs) key ≡ has cmp (z ∷ ys) key) (sym one) same in
          ap (λ z. z ∷ xs) one ∙ ap (λ l. y ∷ l) (more (first_same x xs ys rise.0 low alike))

  -- one more in its gap
  below-insert : (a key : K) (keys : List K) (at : ℕ) → cmp a key ≡ Less → IsBelow cmp a keys → IsBelow cmp a (insert keys at key)
  below-insert a key keys zero less all = (less, all)
  below-insert a key [] (suc at) less all = (less, tt)
  below-insert a key (x ∷ keys) (suc at) less all = (all.0, below-insert a key keys at less all.1)

  pub rises-insert : (key : K) (keys : List K) (at : ℕ) → Rises cmp keys → HasGap cmp keys key at → Rises cmp (insert keys at key)
  rises-insert key keys zero rise gap = (gap.greater, rise)
  rises-insert key [] (suc at) rise gap = (tt, tt)
  rises-insert key (x ∷ keys) (suc at) rise gap =
      (below-insert x key keys at gap.less.0 rise.0, rises-insert key keys at rise.1 (record { within = omega (arith, gap.within); less = gap.less.1; greater = gap.greater }))

  pub has-insert : (key : K) (keys : List K) (at : ℕ) (other : K) → has cmp (insert keys at key) other ≡ (is_eq (cmp key other) || has cmp keys other)
  has-insert key keys zero other = refl
  has-insert key [] (suc at) other = refl
  has-insert key (x ∷ keys) (suc at) other =
      ap (λ b. is_eq (cmp x other) || b) (has-insert key keys at other) ∙ swap_or (is_eq (cmp x other)) (is_eq (cmp key other)) (has cmp keys other)

  -- one less
  below-remove : (a : K) (keys : List K) (at : ℕ) → IsBelow cmp a keys → IsBelow cmp a (remove keys at)
  below-remove a [] zero all = tt
  below-remove a [] (suc at) all = tt
  below-remove a (x ∷ keys) zero all = all.1
  below-remove a (x ∷ keys) (suc at) all = (all.0, below-remove a keys at all.1)

  pub rises-remove : (keys : List K) (at : ℕ) → Rises cmp keys → Rises cmp (remove keys at)
  rises-remove [] zero rise = tt
  rises-remove [] (suc at) rise = tt
  rises-remove (x ∷ keys) zero rise = rise.1
  rises-remove (x ∷ keys) (suc at) rise = (below-remove x keys at rise.0, rises-remove keys at rise.1)

  pub has-remove : (key : K) (keys : List K) (at : ℕ) (other : K) → Rises cmp keys → HasAt cmp keys key at → has cmp (remove keys at) other ≡ (not (is_eq (cmp key other)) && has cmp keys other)
  has-remove key [] at other rise there = absurd (omega (arith, there.within))
  has-remove key (x ∷ keys) zero other rise there =
      let alike : cmp x other ≡ cmp key other = total.congr x key other there.ties in
      elim (cases_Bool (is_eq (cmp key other))) [
        | inl on ↦ rw (alike, on) (below-has x other keys (alike ∙ is_equal (cmp key other) on) rise.0)
        | inr off ↦ rw (alike, off) refl
      ]
  has-remove key (x ∷ keys) (suc at) other rise there =
      let here : HasAt cmp keys key at = record { within = omega (arith, there.within); ties = there.ties } in
      let more = has-remove key keys at other rise.1 here in
      elim (cases_Bool (is_eq (cmp key other))) [
        | inl on ↦ (let apart : cmp x other ≡ Less = sym (alike_right total key other x (is_equal (cmp key other) on)) ∙ below-at x key keys at rise.0 here in
            rw (more, apart, on) refl)
        | inr off ↦ rw (more, off) refl
      ]

  -- the lesser of two keys stands no higher against any third
  pub lowers : (a b key : K) → cmp a b ≡ Less → ordering_index (cmp a key) ≤ ordering_index (cmp b key)
  lowers a b key less = by (cmp b key) refl
    where
      high : (o : Ordering) → ordering_index o ≤ 2
      high Less = omega arith
      high Equal = omega arith
      high Greater = omega arith

      by : (o : Ordering) → cmp b key ≡ o → ordering_index (cmp a key) ≤ ordering_index o
      by Less e = rw (total.trans a b key less e) (omega arith)
      by Equal e = rw (sym (alike_right total b key a e) ∙ less) (omega arith)
      by Greater e = high (cmp a key)

  module _ (f : ℕ → K) where
    below-get : (a : K) (ns : List ℕ) (j d : ℕ) → IsBelow cmp a (map f ns) → j < length ns → cmp a (f (get_or ns j d)) ≡ Less
    below-get a [] j d all lt = absurd (omega arith)
    below-get a (n ∷ ns) zero d all lt = all.0
    below-get a (n ∷ ns) (suc j) d all lt = below-get a ns j d all.1 (omega arith)

    -- numbers whose keys rise don't fall by what doesn't fall with the keys
    pub not_falling_by : (rank : K → Ordering) → ((a b : K) → cmp a b ≡ Less → ordering_index (rank a) ≤ ordering_index (rank b)) → (ns : List ℕ) → Rises cmp (map f ns) → IsNonDecreasingBy (λ n. ordering_index (rank (f n))) ns
    not_falling_by rank up [] rise i j d le lt = absurd (omega arith)
    not_falling_by rank up (n ∷ ns) rise zero zero d le lt = omega arith
    not_falling_by rank up (n ∷ ns) rise zero (suc j) d le lt = up (f n) (f (get_or ns j d)) (below-get (f n) ns j d rise.0 (omega arith))
    not_falling_by rank up (n ∷ ns) rise (suc i) zero d le lt = absurd (omega arith)
    not_falling_by rank up (n ∷ ns) rise (suc i) (suc j) d le lt = not_falling_by rank up ns rise.1 i j d (omega arith) (omega arith)

    not_falling : (key : K) (ns : List ℕ) → Rises cmp (map f ns) → IsNonDecreasingBy (λ n. ordering_index (cmp (f n) key)) ns
    not_falling key ns rise = not_falling_by (λ a. cmp a key) (λ a b less. lowers a b key less) ns rise

    firsts : (key : K) (ns : List ℕ) (i : ℕ) → ((j d : ℕ) → j < i → cmp (f (get_or ns j d)) key ≡ Less) → AreBelow cmp (take i (map f ns)) key
    firsts key [] zero less = tt
    firsts key [] (suc i) less = tt
    firsts key (n ∷ ns) zero less = tt
    firsts key (n ∷ ns) (suc i) less = (less zero n (omega arith), firsts key ns i (λ j d lt. less (suc j) d (omega arith)))

    rests : (key : K) (ns : List ℕ) (i : ℕ) → ((j d : ℕ) → i ≤ j → j < length ns → cmp (f (get_or ns j d)) key ≡ Greater) → IsBelow cmp key (drop i (map f ns))
    rests key [] zero greater = tt
    rests key [] (suc i) greater = tt
    rests key (n ∷ ns) zero greater = (below (f n) key (greater zero n (omega arith) (omega arith)), rests key ns zero (λ j d le lt. greater (suc j) d (omega arith) (omega arith)))
    rests key (n ∷ ns) (suc i) greater = rests key ns i (λ j d le lt. greater (suc j) d (omega arith) (omega arith))

    tied : (key : K) (ns : List ℕ) (i : ℕ) → i < length ns → ((d : ℕ) → cmp (f (get_or ns i d)) key ≡ Equal) → IfSome (slice_get (map f ns) i) (λ other. cmp other key ≡ Equal)
    tied key [] i lt ties = absurd (omega arith)
    tied key (n ∷ ns) zero lt ties = ties n
    tied key (n ∷ ns) (suc i) lt ties = tied key ns i (omega arith) ties

    length-mapped : (ns : List ℕ) → length (map f ns) ≡ length ns
    length-mapped [] = refl
    length-mapped (n ∷ ns) = omega (arith, length-mapped ns)

    -- a binary search of numbers ends at the key, or at the gap for it
    pub searched : (key : K) (ns : List ℕ) → Rises cmp (map f ns) → (r : Result ℕ ℕ) → IsSearchInRange r (length ns) → IsBinarySearchResult (λ n. cmp (f n) key) ns r
        → record { found : IfOk r (HasAt cmp (map f ns) key); absent : IfErr r (HasGap cmp (map f ns) key) }
    searched key ns rise (Ok i) range equal = record { found = record { within = omega (arith, range, length-mapped ns); ties = tied key ns i range equal }; absent = tt }
    searched key ns rise (Err i) range split =
        let parts = split (not_falling key ns rise) in
        record { found = tt; absent = record { within = omega (arith, range, length-mapped ns); less = firsts key ns i (λ j d lt. parts.0 j d (omega arith) lt); greater = rests key ns i (λ j d le lt. parts.1 j d le lt) } }

    pub map-insert : (ns : List ℕ) (at n : ℕ) → map f (insert ns at n) ≡ insert (map f ns) at (f n)
    map-insert ns zero n = refl
    map-insert [] (suc at) n = refl
    map-insert (x ∷ ns) (suc at) n = ap (λ l. f x ∷ l) (map-insert ns at n)

    pub map-remove : (ns : List ℕ) (at : ℕ) → map f (remove ns at) ≡ remove (map f ns) at
    map-remove [] zero = refl
    map-remove [] (suc at) = refl
    map-remove (x ∷ ns) zero = refl
    map-remove (x ∷ ns) (suc at) = ap (λ l. f x ∷ l) (map-remove ns at)

    -- another key of a number that isn't among them
    pub framed : (g : ℕ → K) (number : ℕ) (key : K) (ns : List ℕ) → ((m : ℕ) → g m ≡ (if m == number then key else f m)) → has cmp (map f ns) (f number) ≡ false → map g ns ≡ map f ns
    framed g number key [] each gone = refl
    framed g number key (n ∷ ns) each gone = elim (cases_eq n number) [
      | inl same ↦ absurd (there (is_eq (cmp (f n) (f number))) (has cmp (map f ns) (f number)) (ap (λ m. is_eq (cmp (f m) (f number))) same ∙ ap is_eq (tied_itself total (f number))) gone)
      | inr other ↦ (let stays : g n ≡ f n = each n ∙ grind (arith, nat_tests, other) in
          rw (stays, framed g number key ns each (rest (is_eq (cmp (f n) (f number))) (has cmp (map f ns) (f number)) gone)) refl)
    ]
      where
        there : (a b : Bool) → a ≡ true → (a || b) ≡ false → ⊥
        there true b on e = cc
        there false b on e = cc

        rest : (a b : Bool) → (a || b) ≡ false → b ≡ false
        rest true b e = cc
        rest false b e = e
