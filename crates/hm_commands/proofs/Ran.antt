-- What registries ran for a journal.
use Rattle.std.proofs.Common.{◌≡◌, ◌<◌, ◌≤◌, ◌+◌, ◌-◌, ◌^◌, ◌⊎◌, ℕ, zero, suc, min, List, [], ◌∷◌, ◌++◌, length, map, sum, get_or, set, slice_index_or, Any, refl, sym, ap, ◌∙◌, subst, inl, inr, append-nil, append_assoc, arith}
use Rattle.std.proofs.lemmas.List.Sums.{sum_by-cons}
use Rattle.hm_data.specs.declared.entry.Entry.{Entry}
use Rattle.hm_data.specs.declared.sheet.Sheet.{Sheet}
use Rattle.hm_commands.specs.Hands.{HandsUse, NoneFell, Ran, RunBy, SumRisesBy, steps_in}

none_fell_on : (a b c : List ℕ) → NoneFell a b → NoneFell b c → NoneFell a c
none_fell_on [] [] [] first then = tt
none_fell_on [] [] (z ∷ c) first then = absurd then
none_fell_on [] (y ∷ b) c first then = absurd first
none_fell_on (x ∷ a) [] c first then = absurd first
none_fell_on (x ∷ a) (y ∷ b) [] first then = absurd then
none_fell_on (x ∷ a) (y ∷ b) (z ∷ c) first then =
    let one = first.0 in
    let two = then.0 in
    (omega arith, none_fell_on a b c first.1 then.1)

none_fell_here : (a : List ℕ) → NoneFell a a
none_fell_here [] = tt
none_fell_here (x ∷ a) = (omega arith, none_fell_here a)

-- counts none of which fell have a sum that didn't
sum_later : (a b : List ℕ) → NoneFell a b → sum a ≤ sum b
sum_later [] [] later = omega arith
sum_later [] (y ∷ b) later = absurd later
sum_later (x ∷ a) [] later = absurd later
sum_later (x ∷ a) (y ∷ b) later =
    let here = later.0 in
    let rest = sum_later a b later.1 in
    omega (arith, here, rest, sum_by-cons (λ n. n) x a, sum_by-cons (λ n. n) y b)

full_at : (k n : ℕ) (a b : List ℕ) → NoneFell a b → k < length a → slice_index_or a k n ≡ n → 2 ^ 64 - 1 ≤ n → Any (λ m. 2 ^ 64 - 1 ≤ m) b
full_at k n [] b later within is big = absurd (omega arith)
full_at k n (x ∷ a) [] later within is big = absurd later
full_at zero n (x ∷ a) (y ∷ b) later within is big = let here = later.0 in let same : x ≡ n = is in (0, y, omega arith, refl, omega arith)
full_at (suc k) n (x ∷ a) (y ∷ b) later within is big =
    let rest = full_at k n a b later.1 (omega arith) is big in
    let inside = rest.2 in
    (suc rest.0, rest.1, omega arith, rest.3, rest.4)

-- a count that stands at its end still does
full_later : (a b : List ℕ) → NoneFell a b → Any (λ m. 2 ^ 64 - 1 ≤ m) a → Any (λ m. 2 ^ 64 - 1 ≤ m) b
full_later a b later full = full_at full.0 full.1 a b later full.2 full.3 full.4

rises_on : (i j : ℕ) (a b c : List ℕ) → NoneFell b c → SumRisesBy i a b → SumRisesBy j b c → SumRisesBy (i + j) a c
rises_on i j a b c later (inl some) (inl more) = inl (omega arith)
rises_on i j a b c later (inl some) (inr full) = inr full
rises_on i j a b c later (inr full) then = inr (full_later b c later full)

-- one call after another
pub run_on : (i j : ℕ) (before mid after : List (List Sheet)) (a b c : List ℕ) → RunBy (record { before = before; after = mid; runs_before = a; runs_after = b }) i
    → RunBy (record { before = mid; after = after; runs_before = b; runs_after = c }) j → RunBy (record { before = before; after = after; runs_before = a; runs_after = c }) (i + j)
run_on i j before mid after a b c first then = record {
  alike = then.alike ∙ first.alike;
  kept = none_fell_on a b c first.kept then.kept;
  rises = rises_on i j a b c then.kept first.rises then.rises;
}

-- no call
pub run_none : (sheets : List (List Sheet)) (runs : List ℕ) → RunBy (record { before = sheets; after = sheets; runs_before = runs; runs_after = runs }) 0
run_none sheets runs = record { alike = refl; kept = none_fell_here runs; rises = inl (omega arith) }

-- how many steps the parts have
pub steps_more : (first more : List Entry) → steps_in (first ++ more) ≡ steps_in first + steps_in more
steps_more [] more = omega arith
steps_more (entry ∷ first) more = let rest = steps_more first more in omega arith

-- one call after another, each for its part of the journal
pub ran_on : (old mid new : List Entry) (before between after : List (List Sheet)) (a b c : List ℕ) → Ran (record { before = before; after = between; runs_before = a; runs_after = b }) old mid
    → Ran (record { before = between; after = after; runs_before = b; runs_after = c }) mid new → Ran (record { before = before; after = after; runs_before = a; runs_after = c }) old new
ran_on old mid new before between after a b c first then = (
  first.0 ++ then.0,
  then.1 ∙ ap (λ l. l ++ then.0) first.1 ∙ append_assoc old first.0 then.0,
  subst (RunBy (record { before = before; after = after; runs_before = a; runs_after = c })) (sym (steps_more first.0 then.0)) (run_on (steps_in first.0) (steps_in then.0) before between after a b c first.2 then.2),
)

-- nothing was recorded
pub ran_idle : (hands : HandsUse) (old new : List Entry) → new ≡ old → RunBy hands 0 → Ran hands old new
ran_idle hands old new same run = ([], same ∙ sym (append-nil old), run)

-- what was recorded is no step
pub ran_none : (hands : HandsUse) (old new : List Entry) → ((added : List Entry) × (new ≡ old ++ added) × (steps_in added ≡ 0)) → RunBy hands 0 → Ran hands old new
ran_none hands old new adds run = (adds.0, adds.1, subst (RunBy hands) (sym adds.2) run)

rises_less : (count : ℕ) (before now : List ℕ) → SumRisesBy count before now → SumRisesBy 0 before now
rises_less count before now (inl rose) = inl (omega arith)
rises_less count before now (inr full) = inr full

-- some runs are none at least
pub run_less : (hands : HandsUse) (count : ℕ) → RunBy hands count → RunBy hands 0
run_less hands count run = record { alike = run.alike; kept = run.kept; rises = rises_less count hands.runs_before hands.runs_after run.rises }

-- a count that was raised rose by one, or stands at its end
pub one_run : (before now : ℕ) → now ≡ min (before + 1) (2 ^ 64 - 1) → (before + 1 ≤ now) ⊎ (2 ^ 64 - 1 ≤ now)
one_run before now raised = by ((2 ^ 64 - 1) - before) refl
  where
    by : (left : ℕ) → (2 ^ 64 - 1) - before ≡ left → (before + 1 ≤ now) ⊎ (2 ^ 64 - 1 ≤ now)
    by zero e = inr (omega arith)
    by (suc left) e = inl (omega arith)

module _ {R : Type 0} (f : R → List Sheet) (runs : R → ℕ) where
  -- the first was called, and the others weren't
  abbrev pub first_use : List R → R → HandsUse
  first_use hands y = record { before = map f hands; after = map f (set hands 0 y); runs_before = map runs hands; runs_after = map runs (set hands 0 y) }

  first_alike : (hands : List R) (x y : R) → x ≡ get_or hands 0 x → f y ≡ f x → map f (set hands 0 y) ≡ map f hands
  first_alike [] x y is same = refl
  first_alike (r ∷ rs) x y is same = ap (λ s. s ∷ map f rs) (same ∙ ap f is)

  first_later : (hands : List R) (x y : R) → x ≡ get_or hands 0 x → runs x ≤ runs y → NoneFell (map runs hands) (map runs (set hands 0 y))
  first_later [] x y is later = tt
  first_later (r ∷ rs) x y is later = let same : runs x ≡ runs r = ap runs is in (omega arith, none_fell_here (map runs rs))

  first_rises : (hands : List R) (x y : R) (count : ℕ) → 0 < length hands → x ≡ get_or hands 0 x → (runs x + count ≤ runs y) ⊎ (2 ^ 64 - 1 ≤ runs y) → SumRisesBy count (map runs hands) (map runs (set hands 0 y))
  first_rises [] x y count some is rises = absurd (omega arith)
  first_rises (r ∷ rs) x y count some is (inl more) = let same : runs x ≡ runs r = ap runs is in inl (omega (arith, sum_by-cons (λ n. n) (runs r) (map runs rs), sum_by-cons (λ n. n) (runs y) (map runs rs)))
  first_rises (r ∷ rs) x y count some is (inr full) = inr (0, runs y, omega arith, refl, full)

  -- it was run so often at least
  pub first_run : (hands : List R) (x y : R) (count : ℕ) → 0 < length hands → x ≡ get_or hands 0 x → f y ≡ f x → runs x ≤ runs y → (runs x + count ≤ runs y) ⊎ (2 ^ 64 - 1 ≤ runs y) → RunBy (first_use hands y) count
  first_run hands x y count some is same later rises = record {
    alike = first_alike hands x y is same;
    kept = first_later hands x y is later;
    rises = first_rises hands x y count some is rises;
  }
