-- The roots of a base: their numbers rise, and one is found by its number.
use Rattle.std.proofs.Common.{◌≡◌, ◌≢◌, ◌<◌, ◌≤◌, ◌-◌, ℕ, List, [], ◌∷◌, ◌++◌, ◌==◌, true, Option, Some, None, Ok, Err, get_or, length, nat_lt, slice_get, refl, ap, sym, ◌∙◌, subst, inl, inr, ◌⊎◌, arith, tests, length-append}
use Rattle.std.specs.List.Sorted.{IsBinarySearchResult}
use Rattle.std.specs.Ordering.{nat_cmp, ordering_index}
use Rattle.std.specs.declared.cmp.Ordering.{Ordering}
use Rattle.std.specs.declared.cmp.Ordering.TheVariants.{Less, Equal, Greater}
use Rattle.std.proofs.lemmas.Bool.{cases_eq, cases_lt, cond-false, cond-true, eq-eqb, false≢true, le-ltb, ne_eqb}
use Rattle.std.proofs.lemmas.Option.{get_or_from_slice_get, none-some, same_Some, slice_get-get_or, slice_get_past, slice_get_within}
use Rattle.hm_names.specs.declared.pid.Pid.{Pid}
use Rattle.hm_data.specs.declared.answer.Cause.{Cause}
use Rattle.hm_data.specs.declared.args.Args.{Args}
use Rattle.hm_data.specs.declared.entry.Entry.TheVariants as entry_is
use Rattle.hm_data.specs.declared.part.Part.{Part}
use Rattle.hm_data.specs.declared.part.Part.TheVariants as part_is
use Rattle.hm_data.specs.declared.record.Record.{Record}
use Rattle.hm_model.specs.Base.{PartFits, Rises, rises}
use Rattle.hm_model.specs.Journal.{Past}
use Rattle.hm_model.specs.Rules.{IsLegal}
use Rattle.hm_model.specs.OldRoots.{old_record, old_record_of, old_records}
use Rattle.hm_procedures.specs.OldRoots.{AreRising, IsFound}
use Rattle.hm_procedures.proofs.Places.{slice_get-high, slice_get-low}

-- a part stands before a root of this number: a root of a lower one, or a part of another sort than layouts
abbrev Before : Part → ℕ → Type 0
Before (part_is.Root pid nonce args cause) n = pid.0 < n
Before (part_is.Layout pid) n = ⊥
Before part n = Unit {0}

-- so does the newest of parts, if there is one
abbrev Ends : Past → ℕ → Type 0
Ends [] n = Unit {0}
Ends (entry_is.Base own ∷ before) n = Before own n
Ends (entry ∷ before) n = ⊥

lower : (a b : ℕ) → nat_lt a b ≡ true → a < b
lower a b is = elim (cases_lt a b) [
  | inl lt ↦ lt
  | inr le ↦ absurd (false≢true (sym (le-ltb a b le) ∙ is))
]

before_root : (own : Part) (pid : Pid) (nonce : _) (args : Args) (cause : Option Cause) → rises own (part_is.Root pid nonce args cause) ≡ true → Before own pid.0
before_root (part_is.Root one used work why) pid nonce args cause up = lower one.0 pid.0 up
before_root (part_is.Layout one) pid nonce args cause up = absurd (false≢true up)
before_root part pid nonce args cause up = tt

further : (own : Part) (m n : ℕ) → Before own m → m ≤ n → Before own n
further (part_is.Root pid nonce args cause) m n is le = omega (arith, is, le)
further (part_is.Layout pid) m n is le = is
further part m n is le = tt

root_ends : (before : Past) (pid : Pid) (nonce : _) (args : Args) (cause : Option Cause) → Rises before (part_is.Root pid nonce args cause) → Ends before pid.0
root_ends (entry_is.Base own ∷ before) pid nonce args cause up = before_root own pid nonce args cause up
root_ends before pid nonce args cause up = absurd up

ends_on : (before : Past) (m n : ℕ) → Ends before m → m ≤ n → Ends before n
ends_on [] m n is le = tt
ends_on (entry_is.Base own ∷ before) m n is le = further own m n is le
ends_on before m n is le = absurd is

-- before a part of an earlier sort stands no root
abbrev IsEarly : Part → Type 0
IsEarly (part_is.Root pid nonce args cause) = ⊥
IsEarly (part_is.Layout pid) = ⊥
IsEarly part = Unit {0}

early : (one own : Part) (n : ℕ) → IsEarly own → rises one own ≡ true → Before one n
early (part_is.Root pid nonce args cause) (part_is.Head entries last parts sheets) n is up = absurd (false≢true up)
early (part_is.Root pid nonce args cause) (part_is.Namespace ns) n is up = absurd (false≢true up)
early (part_is.Root pid nonce args cause) (part_is.Table table own row) n is up = absurd (false≢true up)
early (part_is.Root pid nonce args cause) (part_is.Region region range status parents place) n is up = absurd (false≢true up)
early (part_is.Root pid nonce args cause) (part_is.Server server fenced) n is up = absurd (false≢true up)
early (part_is.Root pid nonce args cause) (part_is.Root other used work why) n is up = absurd is
early (part_is.Root pid nonce args cause) (part_is.Layout other) n is up = absurd is
early (part_is.Layout pid) (part_is.Head entries last parts sheets) n is up = absurd (false≢true up)
early (part_is.Layout pid) (part_is.Namespace ns) n is up = absurd (false≢true up)
early (part_is.Layout pid) (part_is.Table table own row) n is up = absurd (false≢true up)
early (part_is.Layout pid) (part_is.Region region range status parents place) n is up = absurd (false≢true up)
early (part_is.Layout pid) (part_is.Server server fenced) n is up = absurd (false≢true up)
early (part_is.Layout pid) (part_is.Root other used work why) n is up = absurd is
early (part_is.Layout pid) (part_is.Layout other) n is up = absurd is
early part own n is up = tt

early_ends : (before : Past) (own : Part) (n : ℕ) → IsEarly own → Rises before own → Ends before n
early_ends (entry_is.Base one ∷ before) own n is up = early one own n is up
early_ends before own n is up = absurd up

-- lists with one more at the end
at_last : {X : Type 0} (xs : List X) (x : X) (i : ℕ) (one : X) → slice_get (xs ++ x ∷ []) i ≡ Some one → ((i < length xs) × (slice_get xs i ≡ Some one)) ⊎ ((i ≡ length xs) × (x ≡ one))
at_last xs x i one is = elim (cases_lt i (length xs)) [
  | inl lt ↦ inl (lt, sym (slice_get-low xs (x ∷ []) i lt) ∙ is)
  | inr le ↦ elim (cases_eq i (length xs)) [
    | inl same ↦ (let e : i - length xs ≡ 0 = omega (arith, same) in inr (same, same_Some x one (sym (slice_get-high xs (x ∷ []) i le ∙ ap (slice_get (x ∷ [])) e) ∙ is)))
    | inr far ↦ (let long = length-append xs (x ∷ []) in absurd (none-some one (sym (slice_get_past (xs ++ x ∷ []) i (omega (arith, le, far, long))) ∙ is)))
  ]
]

last_here : {X : Type 0} (xs : List X) (x : X) → slice_get (xs ++ x ∷ []) (length xs) ≡ Some x
last_here xs x = let e : length xs - length xs ≡ 0 = omega arith in slice_get-high xs (x ∷ []) (length xs) (omega arith) ∙ ap (slice_get (x ∷ [])) e

abbrev number : Record → ℕ
number one = let pid = one.pid in pid.0

-- all are lower
pub records_below : (J : Past) → IsLegal J → (n : ℕ) → Ends J n → (i : ℕ) (one : Record) → slice_get (old_records J) i ≡ Some one → number one < n
records_below [] legal n ends i one is = absurd (none-some one is)
records_below (entry_is.Base own ∷ before) legal n ends i one is = by (records_below before legal.0) own legal.1.0 ends is
  where
    by : ((m : ℕ) → Ends before m → (i : ℕ) (one : Record) → slice_get (old_records before) i ≡ Some one → number one < m) → (part : Part) → PartFits part before → Before part n → slice_get (old_records (entry_is.Base part ∷ before)) i ≡ Some one → number one < n
    by on (part_is.Head entries last parts sheets) fits less at = absurd (none-some one (sym (ap (λ j. slice_get (old_records j) i) fits.0) ∙ at))
    by on (part_is.Namespace ns) fits less at = on n (early_ends before (part_is.Namespace ns) n tt fits) i one at
    by on (part_is.Root pid nonce args cause) fits less at = elim (at_last (old_records before) (old_record pid args cause) i one at) [
      | inl old ↦ on n (ends_on before pid.0 n (root_ends before pid nonce args cause fits.0) (omega (arith, less))) i one old.1
      | inr new ↦ subst (λ r. number r < n) new.1 less
    ]
    by on (part_is.Layout pid) fits less at = absurd less
    by on part fits less at = on n (early_ends before part n tt fits.0) i one at
records_below J legal n ends i one is = absurd ends

-- before a root all are lower
roots_below : (pid : Pid) (nonce : _) (args : Args) (cause : Option Cause) (before : Past) → IsLegal (entry_is.Base (part_is.Root pid nonce args cause) ∷ before) → (i : ℕ) (one : Record) → slice_get (old_records before) i ≡ Some one → number one < pid.0
roots_below pid nonce args cause before legal = records_below before legal.0 pid.0 (root_ends before pid nonce args cause legal.1.0.0)

rises_more : (xs : List Record) (x : Record) → AreRising xs → ((i : ℕ) (one : Record) → slice_get xs i ≡ Some one → number one < number x) → AreRising (xs ++ x ∷ [])
rises_more xs x up below i j one other lt at then = elim (at_last xs x j other then) [
  | inl old ↦ elim (at_last xs x i one at) [
    | inl first ↦ up i j one other lt first.1 old.1
    | inr last ↦ (let few = old.0 in let same = last.0 in absurd (omega (arith, few, same, lt)))
  ]
  | inr new ↦ elim (at_last xs x i one at) [
    | inl first ↦ subst (λ r. number one < number r) new.1 (below i one first.1)
    | inr last ↦ (let a = new.0 in let b = last.0 in absurd (omega (arith, a, b, lt)))
  ]
]

part_rises : (part : Part) (before : Past) → IsLegal (entry_is.Base part ∷ before) → AreRising (old_records before) → AreRising (old_records (entry_is.Base part ∷ before))
part_rises (part_is.Root pid nonce args cause) before legal up = rises_more (old_records before) (old_record pid args cause) up (roots_below pid nonce args cause before legal)
part_rises part before legal up = up

-- the numbers of the roots rise
pub rising : (J : Past) → IsLegal J → AreRising (old_records J)
rising [] legal = λ i j one other lt at then. absurd (none-some one at)
rising (entry_is.Base part ∷ before) legal = part_rises part before legal (rising before legal.0)
rising (entry ∷ before) legal = rising before legal.0

-- who stands in the list is shown under its number
in_list : (J : Past) → IsLegal J → (i : ℕ) (one : Record) → slice_get (old_records J) i ≡ Some one → old_record_of J (number one) ≡ Some one
in_list [] legal i one is = absurd (none-some one is)
in_list (entry_is.Base own ∷ before) legal i one is = by (in_list before legal.0 i one) own legal is
  where
    by : (slice_get (old_records before) i ≡ Some one → old_record_of before (number one) ≡ Some one) → (part : Part) → IsLegal (entry_is.Base part ∷ before) → slice_get (old_records (entry_is.Base part ∷ before)) i ≡ Some one → old_record_of (entry_is.Base part ∷ before) (number one) ≡ Some one
    by on (part_is.Root pid nonce args cause) legal' at = elim (at_last (old_records before) (old_record pid args cause) i one at) [
      | inl old ↦
          (let lt = roots_below pid nonce args cause before legal' i one old.1 in
          cond-false (number one == pid.0) (Some (old_record pid args cause)) (old_record_of before (number one)) (ne_eqb (number one) pid.0 (λ e. omega (arith, e, lt)))
          ∙ on old.1)
      | inr new ↦
          cond-true (number one == pid.0) (Some (old_record pid args cause)) (old_record_of before (number one)) (eq-eqb (number one) pid.0 (ap number (sym new.1)))
          ∙ ap Some new.1
    ]
    by on part legal' at = on at
in_list (entry ∷ before) legal i one is = in_list before legal.0 i one is

-- whose number none has isn't shown
not_in : (J : Past) (p : ℕ) → ((i : ℕ) (one : Record) → slice_get (old_records J) i ≡ Some one → number one ≢ p) → old_record_of J p ≡ None
not_in [] p none = refl
not_in (entry_is.Base own ∷ before) p none = by (not_in before p) own none
  where
    by : (((i : ℕ) (one : Record) → slice_get (old_records before) i ≡ Some one → number one ≢ p) → old_record_of before p ≡ None) → (part : Part) → ((i : ℕ) (one : Record) → slice_get (old_records (entry_is.Base part ∷ before)) i ≡ Some one → number one ≢ p) → old_record_of (entry_is.Base part ∷ before) p ≡ None
    by on (part_is.Root pid nonce args cause) non =
        cond-false (p == pid.0) (Some (old_record pid args cause)) (old_record_of before p) (ne_eqb p pid.0 (λ e. non (length (old_records before)) (old_record pid args cause) (last_here (old_records before) (old_record pid args cause)) (sym e)))
        ∙ on (λ i one at. non i one (slice_get-low (old_records before) (old_record pid args cause ∷ []) i (slice_get_within (old_records before) i one at) ∙ at))
    by on part non = on non
not_in (entry ∷ before) p none = not_in before p none

-- who is found is shown
pub found_shown : (J : Past) → IsLegal J → (p : ℕ) (found : Option Record) → IsFound (old_records J) p found → found ≡ old_record_of J p
found_shown J legal p None is = sym (not_in J p is)
found_shown J legal p (Some one) is = sym (ap (old_record_of J) (sym is.0) ∙ in_list J legal is.1 one is.2)

-- what a binary search finds
equal_is : (a b : ℕ) → nat_cmp a b ≡ Equal → a ≡ b
equal_is a b e = grind (arith, tests)

less_not : (a b : ℕ) → nat_cmp a b ≡ Less → a ≢ b
less_not a b e = λ same. grind (arith, tests)

greater_not : (a b : ℕ) → nat_cmp a b ≡ Greater → a ≢ b
greater_not a b e = λ same. grind (arith, tests)

higher : (a b p : ℕ) → a ≤ b → ordering_index (nat_cmp a p) ≤ ordering_index (nat_cmp b p)
higher a b p le = grind (arith, tests)

module _ (shown : List Record) (up : AreRising shown) (p : ℕ) where
  abbrev rank : Record → Ordering
  rank one = nat_cmp (number one) p

  pub searched_ok : (i : ℕ) (one : Record) → slice_get shown i ≡ Some one → IsBinarySearchResult rank shown (Ok i) → number one ≡ p
  searched_ok i one at found = equal_is (number one) p (ap rank (sym (get_or_from_slice_get shown i one one at)) ∙ found one)

  rises_by : (a b : ℕ) (d : Record) → a ≤ b → b < length shown → ordering_index (rank (get_or shown a d)) ≤ ordering_index (rank (get_or shown b d))
  rises_by a b d le lt = higher (number (get_or shown a d)) (number (get_or shown b d)) p (elim (cases_lt a b) [
    | inl less ↦ (let below = up a b (get_or shown a d) (get_or shown b d) less (slice_get-get_or shown a d (omega (arith, less, lt))) (slice_get-get_or shown b d lt) in omega (arith, below))
    | inr same ↦ (let e : a ≡ b = omega (arith, same, le) in subst (λ k. number (get_or shown a d) ≤ number (get_or shown k d)) e (omega arith))
  ])

  pub searched_err : (i : ℕ) → IsBinarySearchResult rank shown (Err i) → (j : ℕ) (one : Record) → slice_get shown j ≡ Some one → number one ≢ p
  searched_err i found j one at =
      let here : one ≡ get_or shown j one = sym (get_or_from_slice_get shown j one one at) in
      let parted = found rises_by in
      elim (cases_lt j i) [
        | inl lt ↦ less_not (number one) p (ap rank here ∙ parted.0 j one (omega arith) lt)
        | inr le ↦ greater_not (number one) p (ap rank here ∙ parted.1 j one le (slice_get_within shown j one at))
      ]
