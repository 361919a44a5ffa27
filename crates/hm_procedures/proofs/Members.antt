-- The procedures in their trees, after one more.
use Rattle.std.proofs.Common.{◌≡◌, ◌≢◌, ℕ, suc, ◌+◌, ◌-◌, ◌<◌, ◌≤◌, ◌==◌, List, [], ◌∷◌, ◌++◌, if◌then◌else◌, Option, Some, None, length, slice_get, refl, ap, sym, ◌∙◌, subst, inl, inr, arith, length-append}
use Rattle.std.specs.Option.{option_map}
use Rattle.std.proofs.lemmas.Bool.{cases_eq, cases_lt, cond-false, cond-true, eq-eqb, ne_eqb}
use Rattle.std.proofs.lemmas.Option.{none-some, same_Some, slice_get-map, slice_get_past, slice_get_within}
use Rattle.hm_names.specs.declared.pid.Pid.{Pid}
use Rattle.hm_procedures.specs.Trees.{AreLinked, IsLast, IsNext, lasted, nexted, roots_of}
use Rattle.hm_procedures.specs.declared.trees.Member.{Member}
use Rattle.hm_procedures.proofs.Places.{pid_is, slice_get-high, slice_get-low}

pub extent : {X : Type 0} (xs ys : List X) → ((i : ℕ) → slice_get xs i ≡ slice_get ys i) → xs ≡ ys
extent [] [] each = refl
extent [] (y ∷ ys) each = absurd (none-some y (each 0))
extent (x ∷ xs) [] each = absurd (none-some x (sym (each 0)))
extent (x ∷ xs) (y ∷ ys) each = ap (λ l. x ∷ l) (extent xs ys (λ i. each (suc i))) ∙ ap (λ z. z ∷ ys) (same_Some x y (each 0))

-- roots with one more at the end
module _ (roots : List Pid) (root : Pid) where
  abbrev more : List Pid
  more = roots ++ root ∷ []

  pub low_at : (i : ℕ) → i < length roots → slice_get more i ≡ slice_get roots i
  low_at i lt = slice_get-low roots (root ∷ []) i lt

  pub end_at : slice_get more (length roots) ≡ Some root
  end_at = let e : length roots - length roots ≡ 0 = omega arith in slice_get-high roots (root ∷ []) (length roots) (omega arith) ∙ ap (slice_get (root ∷ [])) e

  pub past_at : (i : ℕ) → length roots < i → slice_get more i ≡ None
  past_at i lt = let long = length-append roots (root ∷ []) in slice_get_past more i (omega (arith, lt, long))

  module _ (from : ℕ) where
    -- a next one stays
    pub some_stays : (r : Pid) (i : ℕ) (next : Pid) → IsNext from roots r i (Some next) → IsNext from more r i (Some next)
    some_stays r i next was =
        let within = slice_get_within roots (next.0 - from - 1) r was.1 in (
          was.0,
          low_at (next.0 - from - 1) within ∙ was.1,
          λ j lt below is. was.2 j lt below (sym (low_at j (omega (arith, within, below))) ∙ is),
        )

    -- and none too, where the new one is of another tree
    pub next_stays : (r : Pid) (i : ℕ) (next : Option Pid) → (root ≢ r) → IsNext from roots r i next → IsNext from more r i next
    next_stays r i None other was = λ j lt is. elim (cases_lt j (length roots)) [
      | inl low ↦ was j lt (sym (low_at j low) ∙ is)
      | inr high ↦ elim (cases_eq j (length roots)) [
        | inl here ↦ other (same_Some root r (sym (ap (slice_get more) here ∙ end_at) ∙ is))
        | inr far ↦ none-some r (sym (past_at j (omega (arith, high, far))) ∙ is)
      ]
    ]
    next_stays r i (Some next) other was = some_stays r i next was

    pub last_stays : (r last : Pid) → (root ≢ r) → IsLast from roots r last → IsLast from more r last
    last_stays r last other was =
        let within = slice_get_within roots (last.0 - from - 1) r was.1 in (
          was.0,
          low_at (last.0 - from - 1) within ∙ was.1,
          λ j le is. elim (cases_lt j (length roots)) [
            | inl low ↦ was.2 j le (sym (low_at j low) ∙ is)
            | inr high ↦ elim (cases_eq j (length roots)) [
              | inl here ↦ other (same_Some root r (sym (ap (slice_get more) here ∙ end_at) ∙ is))
              | inr far ↦ none-some r (sym (past_at j (omega (arith, high, far))) ∙ is)
            ]
          ],
        )

    pub none_next : IsNext from more root (length roots) None
    none_next = λ j lt is. none-some root (sym (past_at j lt) ∙ is)

    pub own_last : (own : Pid) → own.0 ≡ from + length roots + 1 → IsLast from more root own
    own_last own own_is =
        let e : own.0 - from - 1 ≡ length roots = omega (arith, own_is) in (
          omega (arith, own_is),
          ap (slice_get more) e ∙ end_at,
          λ j le is. none-some root (sym (past_at j (omega (arith, le, own_is))) ∙ is),
        )

roots_len : (members : List Member) → length (roots_of members) ≡ length members
roots_len [] = refl
roots_len (m ∷ members) = ap suc (roots_len members)

root_at : (members : List Member) (i : ℕ) (m : Member) → slice_get members i ≡ Some m → slice_get (roots_of members) i ≡ Some m.root
root_at members i m is = slice_get-map (λ (x : Member). x.root) members i ∙ ap (option_map (λ (x : Member). x.root)) is

pub roots_push : (members : List Member) (m : Member) → roots_of (members ++ m ∷ []) ≡ roots_of members ++ m.root ∷ []
roots_push [] m = refl
roots_push (x ∷ members) m = ap (λ l. x.root ∷ l) (roots_push members m)

-- one at the end, or one of those before
at_end : (members : List Member) (new : Member) (P : ℕ → Member → Type 0) → ((i : ℕ) (m : Member) → slice_get members i ≡ Some m → P i m) → P (length members) new → (i : ℕ) (m : Member) → slice_get (members ++ new ∷ []) i ≡ Some m → P i m
at_end members new P old here i m is = elim (cases_lt i (length members)) [
  | inl lt ↦ old i m (sym (slice_get-low members (new ∷ []) i lt) ∙ is)
  | inr le ↦ elim (cases_eq i (length members)) [
    | inl same ↦ (let e : i - length members ≡ 0 = omega (arith, same) in
        let found : new ≡ m = same_Some new m (sym (slice_get-high members (new ∷ []) i le ∙ ap (slice_get (new ∷ [])) e) ∙ is) in
        subst (λ j. P j m) (sym same) (subst (P (length members)) found here))
    | inr far ↦ (let long = length-append members (new ∷ []) in absurd (none-some m (sym (slice_get_past (members ++ new ∷ []) i (omega (arith, le, far, long))) ∙ is)))
  ]
]

-- a new root
pub linked_root : (from : ℕ) (members : List Member) (own : Pid) → own.0 ≡ from + length members + 1 → AreLinked from members → AreLinked from (members ++ record { root = own; next = None; last = own } ∷ [])
linked_root from members own own_is was =
    let new : Member = record { root = own; next = None; last = own } in
    let len = roots_len members in
    let apart : (i : ℕ) (m : Member) → slice_get members i ≡ Some m → own ≢ m.root = λ i m is e. (let within = slice_get_within members i m is in let low = was.low i m is in let same = ap (λ (p : Pid). p.0) e in omega (arith, within, low, same, own_is)) in
    record {
      low = at_end members new (λ i m. (let root = m.root in root.0) ≤ from + i + 1) was.low (omega (arith, own_is));
      next = at_end members new (λ i m. IsNext from (roots_of (members ++ new ∷ [])) m.root i m.next)
          (λ i m is. subst (λ l. IsNext from l m.root i m.next) (sym (roots_push members new)) (next_stays (roots_of members) own from m.root i m.next (apart i m is) (was.next i m is)))
          (subst (λ l. IsNext from l own (length members) None) (sym (roots_push members new)) (subst (λ n. IsNext from (roots_of members ++ own ∷ []) own n None) len (none_next (roots_of members) own from)));
      last = at_end members new (λ i m. (let root = m.root in root.0) ≡ from + i + 1 → IsLast from (roots_of (members ++ new ∷ [])) m.root m.last)
          (λ i m is at. subst (λ l. IsLast from l m.root m.last) (sym (roots_push members new)) (last_stays (roots_of members) own from m.root m.last (apart i m is) (was.last i m is at)))
          (λ at. subst (λ l. IsLast from l own own) (sym (roots_push members new)) (own_last (roots_of members) own from own (omega (arith, own_is, len))));
    }

-- one more in the tree of a root
module _ (from : ℕ) (members one two : List Member) (root own last : Pid) (was : AreLinked from members) (low : from < root.0) (rooted : slice_get (roots_of members) (root.0 - from - 1) ≡ Some root) (last_is : IsLast from (roots_of members) root last) (own_is : own.0 ≡ from + length members + 1)
    (first : (i : ℕ) → slice_get one i ≡ option_map (nexted (last.0 == from + i + 1) own) (slice_get members i))
    (second : (i : ℕ) → slice_get two i ≡ option_map (lasted (root.0 == from + i + 1) own) (slice_get one i)) where
  abbrev new : Member
  new = record { root = root; next = None; last = own }

  abbrev roots : List Pid
  roots = roots_of members

  each : (i : ℕ) → slice_get two i ≡ option_map (λ m. lasted (root.0 == from + i + 1) own (nexted (last.0 == from + i + 1) own m)) (slice_get members i)
  each i = second i ∙ ap (option_map (lasted (root.0 == from + i + 1) own)) (first i) ∙ by (slice_get members i)
    where
      by : (o : Option Member) → option_map (lasted (root.0 == from + i + 1) own) (option_map (nexted (last.0 == from + i + 1) own) o) ≡ option_map (λ m. lasted (root.0 == from + i + 1) own (nexted (last.0 == from + i + 1) own m)) o
      by None = refl
      by (Some m) = refl

  pub roots_two : roots_of two ≡ roots
  roots_two = extent (roots_of two) roots (λ i. slice_get-map (λ (x : Member). x.root) two i ∙ ap (option_map (λ (x : Member). x.root)) (each i) ∙ by i (slice_get members i) ∙ sym (slice_get-map (λ (x : Member). x.root) members i))
    where
      by : (i : ℕ) (o : Option Member) → option_map (λ (x : Member). x.root) (option_map (λ m. lasted (root.0 == from + i + 1) own (nexted (last.0 == from + i + 1) own m)) o) ≡ option_map (λ (x : Member). x.root) o
      by i None = refl
      by i (Some m) = refl

  two_len : length two ≡ length members
  two_len = sym (roots_len two) ∙ ap length roots_two ∙ roots_len members

  len : length roots ≡ length members
  len = roots_len members

  pub roots_new : roots_of (two ++ new ∷ []) ≡ roots ++ root ∷ []
  roots_new = roots_push two new ∙ ap (λ l. l ++ root ∷ []) roots_two

  -- each that was there, changed
  from_old : (P : ℕ → Member → Type 0) → ((i : ℕ) (m : Member) → slice_get members i ≡ Some m → P i (lasted (root.0 == from + i + 1) own (nexted (last.0 == from + i + 1) own m))) → (i : ℕ) (x : Member) → slice_get two i ≡ Some x → P i x
  from_old P old i x is = by (slice_get members i) refl (sym (each i) ∙ is)
    where
      by : (o : Option Member) → slice_get members i ≡ o → option_map (λ m. lasted (root.0 == from + i + 1) own (nexted (last.0 == from + i + 1) own m)) o ≡ Some x → P i x
      by None e h = absurd (none-some x h)
      by (Some m) e h = subst (P i) (same_Some (lasted (root.0 == from + i + 1) own (nexted (last.0 == from + i + 1) own m)) x h) (old i m e)

  next_old : (i : ℕ) (m : Member) → slice_get members i ≡ Some m → IsNext from (roots ++ root ∷ []) m.root i (if last.0 == from + i + 1 then Some own else m.next)
  next_old i m is = elim (cases_eq last.0 (from + i + 1)) [
    | inl same ↦
        let e : last.0 - from - 1 ≡ i = omega (arith, same) in
        let of : root ≡ m.root = same_Some root m.root (sym (sym (ap (slice_get roots) e) ∙ last_is.1) ∙ root_at members i m is) in
        subst (IsNext from (roots ++ root ∷ []) m.root i) (sym (cond-true (last.0 == from + i + 1) (Some own) m.next (eq-eqb last.0 (from + i + 1) same)))
        (subst (λ r. IsNext from (roots ++ root ∷ []) r i (Some own)) of
        (let within = slice_get_within members i m is in let f : own.0 - from - 1 ≡ length roots = omega (arith, own_is, len) in (
          omega (arith, within, own_is),
          ap (slice_get (roots ++ root ∷ [])) f ∙ end_at roots root,
          λ j lt below h. last_is.2 j (omega (arith, same, lt)) (sym (low_at roots root j (omega (arith, below, own_is, len))) ∙ h),
        )))
    | inr differs ↦
        subst (IsNext from (roots ++ root ∷ []) m.root i) (sym (cond-false (last.0 == from + i + 1) (Some own) m.next (ne_eqb last.0 (from + i + 1) differs)))
        (by differs m.next (was.next i m is))
  ]
    where
      by : last.0 ≢ from + i + 1 → (next : Option Pid) → IsNext from roots m.root i next → IsNext from (roots ++ root ∷ []) m.root i next
      by differs (Some next) h = some_stays roots root from m.root i next h
      by differs None h = next_stays roots root from m.root i None (λ of.
          let at = last_is.1 in
          let ge = last_is.0 in
          elim (cases_lt i (last.0 - from - 1)) [
            | inl lt ↦ h (last.0 - from - 1) lt (at ∙ ap Some of)
            | inr le ↦ last_is.2 i (omega (arith, le, ge, differs)) (root_at members i m is ∙ ap Some (sym of))
          ]) h

  last_old : (i : ℕ) (m : Member) → slice_get members i ≡ Some m → (let root = m.root in root.0) ≡ from + i + 1 → IsLast from (roots ++ root ∷ []) m.root (if root.0 == from + i + 1 then own else m.last)
  last_old i m is at = elim (cases_eq root.0 (from + i + 1)) [
    | inl same ↦
        subst (IsLast from (roots ++ root ∷ []) m.root) (sym (cond-true (root.0 == from + i + 1) own m.last (eq-eqb root.0 (from + i + 1) same)))
        (subst (λ r. IsLast from (roots ++ root ∷ []) r own) (pid_is root m.root (same ∙ sym at)) (own_last roots root from own (omega (arith, own_is, len))))
    | inr differs ↦
        subst (IsLast from (roots ++ root ∷ []) m.root) (sym (cond-false (root.0 == from + i + 1) own m.last (ne_eqb root.0 (from + i + 1) differs)))
        (last_stays roots root from m.root m.last (λ e. differs (ap (λ (p : Pid). p.0) e ∙ at)) (was.last i m is at))
  ]

  pub linked_more : AreLinked from (two ++ new ∷ [])
  linked_more = record {
    low = at_end two new (λ i m. (let root = m.root in root.0) ≤ from + i + 1) (from_old (λ i m. (let root = m.root in root.0) ≤ from + i + 1) was.low) (let within = slice_get_within roots (root.0 - from - 1) root rooted in omega (arith, within, two_len, len));
    next = at_end two new (λ i m. IsNext from (roots_of (two ++ new ∷ [])) m.root i m.next)
        (from_old (λ i m. IsNext from (roots_of (two ++ new ∷ [])) m.root i m.next) (λ i m is. subst (λ l. IsNext from l m.root i (if last.0 == from + i + 1 then Some own else m.next)) (sym roots_new) (next_old i m is)))
        (subst (λ l. IsNext from l root (length two) None) (sym roots_new) (subst (λ n. IsNext from (roots ++ root ∷ []) root n None) (len ∙ sym two_len) (none_next roots root from)));
    last = at_end two new (λ i m. (let root = m.root in root.0) ≡ from + i + 1 → IsLast from (roots_of (two ++ new ∷ [])) m.root m.last)
        (from_old (λ i m. (let root = m.root in root.0) ≡ from + i + 1 → IsLast from (roots_of (two ++ new ∷ [])) m.root m.last) (λ i m is at. subst (λ l. IsLast from l m.root (if root.0 == from + i + 1 then own else m.last)) (sym roots_new) (last_old i m is at)))
        (λ at. (let within = slice_get_within roots (root.0 - from - 1) root rooted in absurd (omega (arith, within, two_len, len, at, low))));
  }

-- the root of a procedure is numbered no later
pub root_low : (from : ℕ) (members : List Member) → AreLinked from members → (i : ℕ) (root : Pid) → slice_get (roots_of members) i ≡ Some root → root.0 ≤ from + i + 1
root_low from members was i root is = by (slice_get members i) refl (sym (slice_get-map (λ (x : Member). x.root) members i) ∙ is)
  where
    by : (o : Option Member) → slice_get members i ≡ o → option_map (λ (x : Member). x.root) o ≡ Some root → root.0 ≤ from + i + 1
    by None e h = absurd (none-some root h)
    by (Some m) e h = (let low = was.low i m e in let same = ap (λ (p : Pid). p.0) (same_Some m.root root h) in omega (arith, low, same))

-- the last of a root's tree, as it is kept
pub last_of : (from : ℕ) (members : List Member) → AreLinked from members → (root : Pid) (top : Member) → from < root.0 → slice_get (roots_of members) (root.0 - from - 1) ≡ Some root → slice_get members (root.0 - from - 1) ≡ Some top → IsLast from (roots_of members) root top.last
last_of from members was root top low is top_is =
    let same : top.root ≡ root = same_Some top.root root (sym (root_at members (root.0 - from - 1) top top_is) ∙ is) in
    subst (λ r. IsLast from (roots_of members) r top.last) same (was.last (root.0 - from - 1) top top_is (let e = ap (λ (p : Pid). p.0) same in omega (arith, e, low)))

pub within_of : (members : List Member) (i : ℕ) (root : Pid) → slice_get (roots_of members) i ≡ Some root → i < length members
within_of members i root is = let within = slice_get_within (roots_of members) i root is in let long = roots_len members in omega (arith, within, long)
