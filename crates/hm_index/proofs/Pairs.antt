-- What is found among pairs in the order of their keys, and what a pair more does to it.
use Rattle.std.proofs.Common.{◌≡◌, ◌≢◌, ℕ, zero, suc, ◌+◌, ◌-◌, ◌<◌, ◌≤◌, List, [], ◌∷◌, true, false, length, get_or, set, drop, if◌then◌else◌, slice_get, Option, Some, None, Result, Ok, Err, IfOk, IfErr, refl, inl, inr, arith, ap, sym, ◌∙◌, subst}
use Rattle.std.specs.Cmp.{IsTotalOrder}
use Rattle.std.specs.List.{insert}
use Rattle.std.specs.List.Sorted.{IsSearchInRange, IsBinarySearchResult, IsNonDecreasingBy}
use Rattle.std.specs.Ordering.{ordering_index, ordering_reverse, is_eq}
use Rattle.std.specs.declared.cmp.Ordering.{Ordering}
use Rattle.std.specs.declared.cmp.Ordering.TheVariants.{Less, Equal, Greater}
use Rattle.std.proofs.Math.ListN.{length-set}
use Rattle.std.proofs.lemmas.Bool.{cases_Bool, cases_lt, cases_eq}
use Rattle.std.proofs.lemmas.Cmp.{alike_right}
use Rattle.std.proofs.lemmas.List.{get_or-set_same, get_or-set_other}
use Rattle.std.proofs.lemmas.List.Edits.{length-insert, get_or-insert_below, get_or-insert_at, get_or-insert_above}
use Rattle.hm_index.specs.Index.{IsRising, find, placed, changed, pairs_from}
use Rattle.hm_index.specs.Blocks.{compared, KeysRise, HasAt, HasGap}

module _ {K : Type 0} (cmp : K → K → Ordering) (total : IsTotalOrder cmp) where
  is_equal : (o : Ordering) → is_eq o ≡ true → o ≡ Equal
  is_equal Less e = cc
  is_equal Equal e = refl
  is_equal Greater e = cc

  -- the lesser of two keys stands no higher against any third
  rises : (a b key : K) → cmp a b ≡ Less → ordering_index (cmp a key) ≤ ordering_index (cmp b key)
  rises a b key less = by_case (cmp b key) refl
    where
      high : (o : Ordering) → ordering_index o ≤ 2
      high Less = omega arith
      high Equal = omega arith
      high Greater = omega arith

      by_case : (o : Ordering) → cmp b key ≡ o → ordering_index (cmp a key) ≤ ordering_index o
      by_case Less e = rw (total.trans a b key less e) (omega arith)
      by_case Equal e = rw (sym (alike_right total b key a e) ∙ less) (omega arith)
      by_case Greater e = high (cmp a key)

  -- what ties with a key below this one doesn't tie with this one
  apart : (here key other : K) → cmp here key ≡ Less → cmp here other ≡ Equal → is_eq (cmp key other) ≡ false
  apart here key other less ties = by_case (cmp key other) refl
    where
      by_case : (o : Ordering) → cmp key other ≡ o → is_eq o ≡ false
      by_case Less e = refl
      by_case Equal e = let same = alike_right total key other here e in cc
      by_case Greater e = refl

module _ {K V : Type 0} (cmp : K → K → Ordering) (total : IsTotalOrder cmp) where
  comparisons_rise : (pairs : List (K × V)) → KeysRise cmp pairs → (key : K) → IsNonDecreasingBy (λ (pair : K × V). ordering_index (cmp pair.0 key)) pairs
  comparisons_rise pairs rising key i j d le within = elim (cases_eq i j) [
    | inl same ↦ rw same (omega arith)
    | inr other ↦ rises cmp total (get_or pairs i d).0 (get_or pairs j d).0 key (rising i j d (omega arith) within)
  ]

  -- a binary search ends at the key, or at the gap for it
  pub searched : (pairs : List (K × V)) → KeysRise cmp pairs → (key : K) (r : Result ℕ ℕ) → IsSearchInRange r (length pairs) → IsBinarySearchResult (λ (pair : K × V). cmp pair.0 key) pairs r → record { found : IfOk r (HasAt cmp pairs key); absent : IfErr r (HasGap cmp pairs key) }
  searched pairs rising key (Ok i) within equal = record { found = record { within = within; ties = equal }; absent = tt }
  searched pairs rising key (Err i) within split =
      let parts = split (comparisons_rise pairs rising key) in
      record { found = tt; absent = record { within = within; less = λ j d lt. parts.0 j d (omega arith) lt; greater = λ j d le lt. parts.1 j d le lt } }

  -- the pairs after the first
  rising_tail : (pair : K × V) (pairs : List (K × V)) → KeysRise cmp (pair ∷ pairs) → KeysRise cmp pairs
  rising_tail pair pairs rising i j d lt within = rising (suc i) (suc j) d (omega arith) (omega arith)

  has_tail : (pair : K × V) (pairs : List (K × V)) (key : K) (i : ℕ) → HasAt cmp (pair ∷ pairs) key (suc i) → HasAt cmp pairs key i
  has_tail pair pairs key i has = record { within = omega (arith, has.within); ties = has.ties }

  -- the first key is below one that a later place has
  first_less : (pair : K × V) (pairs : List (K × V)) (key : K) (i : ℕ) → KeysRise cmp (pair ∷ pairs) → HasAt cmp (pair ∷ pairs) key (suc i) → cmp pair.0 key ≡ Less
  first_less pair pairs key i rising has =
      sym (alike_right total (get_or pairs i pair).0 key pair.0 (has.ties pair)) ∙ rising zero (suc i) pair (omega arith) has.within

  -- the value at the place of a key
  pub found : (pairs : List (K × V)) (key : K) (i : ℕ) → KeysRise cmp pairs → HasAt cmp pairs key i → (d : K × V) → find cmp pairs key ≡ Some (get_or pairs i d).1
  found [] key i rising has d = absurd (omega (arith, has.within))
  found (pair ∷ pairs) key zero rising has d = rw (has.ties d) refl
  found (pair ∷ pairs) key (suc i) rising has d = rw (first_less pair pairs key i rising has) (found pairs key i (rising_tail pair pairs rising) (has_tail pair pairs key i has) d)

  -- no key ties with this one
  none_ties : (pairs : List (K × V)) (key : K) → ((j : ℕ) (d : K × V) → j < length pairs → is_eq (compared cmp pairs j d key) ≡ false) → find cmp pairs key ≡ None
  none_ties [] key none = refl
  none_ties (pair ∷ pairs) key none = rw (none zero pair (omega arith)) (none_ties pairs key (λ j d lt. none (suc j) d (omega arith)))

  pub absent : (pairs : List (K × V)) (key : K) (i : ℕ) → HasGap cmp pairs key i → find cmp pairs key ≡ None
  absent pairs key i gap = none_ties pairs key (λ j d lt. elim (cases_lt j i) [ inl below ↦ rw (gap.less j d below) refl | inr le ↦ rw (gap.greater j d le lt) refl ])

  -- a first pair below the key, in front of pairs that have it
  in_front : (here key other : K) (first value : V) (old new : Option V) → cmp here key ≡ Less → new ≡ (if is_eq (cmp key other) then Some value else old)
      → (if is_eq (cmp here other) then Some first else new) ≡ (if is_eq (cmp key other) then Some value else (if is_eq (cmp here other) then Some first else old))
  in_front here key other first value old new less more = elim (cases_Bool (is_eq (cmp here other))) [
    | inl on ↦ rw (on, apart cmp total here key other less (is_equal cmp total (cmp here other) on)) refl
    | inr off ↦ rw off more
  ]

  -- the pair at the place of a key written over
  pub find-set : (pairs : List (K × V)) (key : K) (value : V) (i : ℕ) → KeysRise cmp pairs → HasAt cmp pairs key i → (other : K)
      → find cmp (set pairs i (key, value)) other ≡ (if is_eq (cmp key other) then Some value else find cmp pairs other)
  find-set [] key value i rising has other = absurd (omega (arith, has.within))
  find-set (pair ∷ pairs) key value zero rising has other = elim (cases_Bool (is_eq (cmp key other))) [
    | inl on ↦ rw on refl
    | inr off ↦ rw (total.congr pair.0 key other (has.ties pair), off) refl
  ]
  find-set (pair ∷ pairs) key value (suc i) rising has other =
      in_front pair.0 key other pair.1 value (find cmp pairs other) (find cmp (set pairs i (key, value)) other) (first_less pair pairs key i rising has)
      (find-set pairs key value i (rising_tail pair pairs rising) (has_tail pair pairs key i has) other)

  gap_tail : (pair : K × V) (pairs : List (K × V)) (key : K) (i : ℕ) → HasGap cmp (pair ∷ pairs) key (suc i) → HasGap cmp pairs key i
  gap_tail pair pairs key i gap = record { within = omega (arith, gap.within); less = λ j d lt. gap.less (suc j) d (omega arith); greater = λ j d le lt. gap.greater (suc j) d (omega arith) (omega arith) }

  -- a pair in the gap
  pub find-insert : (pairs : List (K × V)) (key : K) (value : V) (i : ℕ) → HasGap cmp pairs key i → (other : K)
      → find cmp (insert pairs i (key, value)) other ≡ (if is_eq (cmp key other) then Some value else find cmp pairs other)
  find-insert pairs key value zero gap other = refl
  find-insert [] key value (suc i) gap other = refl
  find-insert (pair ∷ pairs) key value (suc i) gap other =
      in_front pair.0 key other pair.1 value (find cmp pairs other) (find cmp (insert pairs i (key, value)) other) (gap.less zero pair (omega arith))
      (find-insert pairs key value i (gap_tail pair pairs key i gap) other)

  -- after a pair that was put in, each stands one place further
  moved : (pairs : List (K × V)) (pair : K × V) (at j : ℕ) (d : K × V) → at ≤ length pairs → at < j → get_or (insert pairs at pair) j d ≡ get_or pairs (j - 1) d
  moved pairs pair at j d within lt = subst (λ q. get_or (insert pairs at pair) q d ≡ get_or pairs (j - 1) d) {x = j - 1 + 1} (omega arith) (get_or-insert_above pairs at pair d (j - 1) (omega arith) within)

  -- the keys stay in order
  pub rising-set : (pairs : List (K × V)) (key : K) (value : V) (at : ℕ) → KeysRise cmp pairs → HasAt cmp pairs key at → KeysRise cmp (set pairs at (key, value))
  rising-set pairs key value at rising has i j d lt within =
      let size = length-set pairs at (key, value) in
      elim (cases_eq i at) [
        | inl here ↦ (let other : j ≢ at = omega arith in
            rw (here, get_or-set_same pairs at (key, value) d has.within, get_or-set_other pairs at j (key, value) d other)
            (sym (total.congr (get_or pairs at d).0 key (get_or pairs j d).0 (has.ties d)) ∙ rising at j d (omega arith) (omega arith)))
        | inr far ↦ elim (cases_eq j at) [
          | inl here ↦ (
              rw (here, get_or-set_same pairs at (key, value) d has.within, get_or-set_other pairs at i (key, value) d far)
              (sym (alike_right total (get_or pairs at d).0 key (get_or pairs i d).0 (has.ties d)) ∙ rising i at d (omega arith) has.within))
          | inr away ↦ rw (get_or-set_other pairs at i (key, value) d far, get_or-set_other pairs at j (key, value) d away) (rising i j d lt (omega arith))
        ]
      ]

  pub rising-insert : (pairs : List (K × V)) (key : K) (value : V) (at : ℕ) → KeysRise cmp pairs → HasGap cmp pairs key at → KeysRise cmp (insert pairs at (key, value))
  rising-insert pairs key value at rising gap i j d lt within =
      let size = length-insert pairs at (key, value) gap.within in
      elim (cases_lt j at) [
        | inl below ↦ rw (get_or-insert_below pairs at (key, value) d i (omega arith) gap.within, get_or-insert_below pairs at (key, value) d j below gap.within) (rising i j d lt (omega arith))
        | inr above ↦ elim (cases_eq j at) [
          | inl here ↦ (let below : i < at = omega arith in
              rw (here, get_or-insert_at pairs at (key, value) d gap.within, get_or-insert_below pairs at (key, value) d i below gap.within) (gap.less i d below))
          | inr far ↦ (let up : at < j = omega arith in
              rw (moved pairs (key, value) at j d gap.within up) (elim (cases_lt i at) [
                | inl below ↦ rw (get_or-insert_below pairs at (key, value) d i below gap.within) (rising i (j - 1) d (omega arith) (omega arith))
                | inr le ↦ elim (cases_eq i at) [
                  | inl here ↦ rw (here, get_or-insert_at pairs at (key, value) d gap.within) (total.antisymm key (get_or pairs (j - 1) d).0 ∙ ap ordering_reverse (gap.greater (j - 1) d (omega arith) (omega arith)))
                  | inr past ↦ (let over : at < i = omega arith in rw (moved pairs (key, value) at i d gap.within over) (rising (i - 1) (j - 1) d (omega arith) (omega arith)))
                ]
              ]))
        ]
      ]

  -- a pair that was put at its place
  pub placed-set : (pairs : List (K × V)) (key : K) (value : V) (i : ℕ) → KeysRise cmp pairs → HasAt cmp pairs key i → placed cmp pairs key value ≡ set pairs i (key, value)
  placed-set [] key value i rising has = absurd (omega (arith, has.within))
  placed-set (pair ∷ pairs) key value zero rising has = rw (has.ties pair) refl
  placed-set (pair ∷ pairs) key value (suc i) rising has =
      rw (first_less pair pairs key i rising has) (ap (λ l. pair ∷ l) (placed-set pairs key value i (rising_tail pair pairs rising) (has_tail pair pairs key i has)))

  pub placed-insert : (pairs : List (K × V)) (key : K) (value : V) (i : ℕ) → HasGap cmp pairs key i → placed cmp pairs key value ≡ insert pairs i (key, value)
  placed-insert [] key value zero gap = refl
  placed-insert [] key value (suc i) gap = absurd (omega (arith, gap.within))
  placed-insert (pair ∷ pairs) key value zero gap = rw (gap.greater zero pair (omega arith) (omega arith)) refl
  placed-insert (pair ∷ pairs) key value (suc i) gap =
      rw (gap.less zero pair (omega arith)) (ap (λ l. pair ∷ l) (placed-insert pairs key value i (gap_tail pair pairs key i gap)))

  changed-set : (pairs : List (K × V)) (key : K) (pair : K × V) (value : V) (i : ℕ) → KeysRise cmp pairs → HasAt cmp pairs key i → get_or pairs i pair ≡ pair
      → changed cmp pairs key value ≡ set pairs i (pair.0, value)
  changed-set [] key pair value i rising has is = absurd (omega (arith, has.within))
  changed-set (first ∷ pairs) key pair value zero rising has is = rw (has.ties first) (ap (λ (p : K × V). (p.0, value) ∷ pairs) is)
  changed-set (first ∷ pairs) key pair value (suc i) rising has is =
      rw (first_less first pairs key i rising has) (ap (λ l. first ∷ l) (changed-set pairs key pair value i (rising_tail first pairs rising) (has_tail first pairs key i has) is))

  -- another value for the pair at the place of a key
  pub with_value : (pairs : List (K × V)) (key : K) (pair : K × V) (value : V) (i : ℕ) → KeysRise cmp pairs → HasAt cmp pairs key i → get_or pairs i pair ≡ pair
      → record {
        order : changed cmp pairs key value ≡ set pairs i (pair.0, value);
        found : (other : K) → find cmp (set pairs i (pair.0, value)) other ≡ (if is_eq (cmp key other) then Some value else find cmp pairs other);
        rises : KeysRise cmp (set pairs i (pair.0, value));
      }
  with_value pairs key pair value i rising has is =
      let ties : cmp pair.0 key ≡ Equal = ap (λ (p : K × V). cmp p.0 key) (sym is) ∙ has.ties pair in
      let here : HasAt cmp pairs pair.0 i = record { within = has.within; ties = λ d. alike_right total pair.0 key (get_or pairs i d).0 ties ∙ has.ties d } in
      record {
        order = changed-set pairs key pair value i rising has is;
        found = λ other. find-set pairs pair.0 value i rising here other ∙ ap (λ o. if is_eq o then Some value else find cmp pairs other) (total.congr pair.0 key other ties);
        rises = rising-set pairs pair.0 value i rising here;
      }

  -- the pairs from a key on, or from the gap for it
  pub from-has : (pairs : List (K × V)) (key : K) (i : ℕ) → KeysRise cmp pairs → HasAt cmp pairs key i → pairs_from cmp pairs key ≡ drop i pairs
  from-has [] key i rising has = absurd (omega (arith, has.within))
  from-has (pair ∷ pairs) key zero rising has = rw (has.ties pair) refl
  from-has (pair ∷ pairs) key (suc i) rising has =
      rw (first_less pair pairs key i rising has) (from-has pairs key i (rising_tail pair pairs rising) (has_tail pair pairs key i has))

  pub from-gap : (pairs : List (K × V)) (key : K) (i : ℕ) → HasGap cmp pairs key i → pairs_from cmp pairs key ≡ drop i pairs
  from-gap [] key zero gap = refl
  from-gap [] key (suc i) gap = refl
  from-gap (pair ∷ pairs) key zero gap = rw (gap.greater zero pair (omega arith) (omega arith)) refl
  from-gap (pair ∷ pairs) key (suc i) gap = rw (gap.less zero pair (omega arith)) (from-gap pairs key i (gap_tail pair pairs key i gap))

  -- the keys rise, by the pairs that stand somewhere
  pub in_order : (pairs : List (K × V)) → KeysRise cmp pairs → IsRising cmp pairs
  in_order pairs rising i j a b less first second =
      let here = stands pairs i a b first in
      let there = stands pairs j b b second in
      ap (λ (p : K × V). cmp p.0 b.0) (sym here.is) ∙ ap (λ (q : K × V). cmp (get_or pairs i b).0 q.0) (sym there.is) ∙ rising i j b less there.within
    where
      stands : (pairs : List (K × V)) (i : ℕ) (a d : K × V) → slice_get pairs i ≡ Some a → record { is : get_or pairs i d ≡ a; within : i < length pairs }
      stands [] i a d e = cc
      stands (pair ∷ pairs) zero a d e = record { is = cc; within = omega arith }
      stands (pair ∷ pairs) (suc i) a d e = let rest = stands pairs i a d e in record { is = rest.is; within = omega (arith, rest.within) }
