-- How many are set: each pid is set once.
use Rattle.std.proofs.Common.{◌≡◌, ℕ, zero, suc, ◌+◌, ◌%◌, ◌<◌, ◌≤◌, ◌^◌, Bool, true, false, not, ◌==◌, ◌||◌, nat_le, List, [], ◌∷◌, ◌++◌, length, map, refl, sym, ap, ◌∙◌, subst, inl, inr, arith}
use Rattle.std.proofs.Math.Dec.{eqb}
use Rattle.std.proofs.lemmas.Bool.Decides.{nat_tests}
use Rattle.std.proofs.lemmas.List.Filters.{length-filter_both}
use Rattle.std.proofs.lemmas.Map.Steps.{length-le_from_distinct_below}
use Rattle.std.specs.List.{AllByRecursion, IsDistinct, list_any}
use Rattle.std.specs.Prelude.{filter, if◌then◌else◌}
use Rattle.hm_lists.specs.Chains.{Differ, list_at}
use Rattle.hm_lists.specs.Map.{AreApart, Map}
use Rattle.hm_timer.specs.Timers.{View, Has, IsWheel, Timers, at_due, due_after, due_by, dues_from, is_due, put_in, reach, timers}
use Rattle.hm_timer.proofs.Turning.{from_dues, from_slot, has_parts, reach_is, set_from}

-- no pid is set twice
abbrev Once : Timers → Type 0
Once [] = Unit {0}
Once (first ∷ more) = ((due : ℕ) → Has more first.0 due → ⊥) × Once more

once_append : (xs ys : Timers) → Once xs → Once ys → ((pid d e : ℕ) → Has xs pid d → Has ys pid e → ⊥) → Once (xs ++ ys)
once_append [] ys a b apart = b
once_append (x ∷ xs) ys a b apart = (
  (λ d h. elim (has_parts xs ys x.0 d h) [ inl here ↦ a.0 d here | inr later ↦ apart x.0 x.1 d (inl (refl, refl)) later ]),
  once_append xs ys a.1 b (λ pid d e h. apart pid d e (inr h)),
)

once_slot : (due : ℕ) (xs : List ℕ) → Differ xs → Once (map (λ pid. (pid, due)) xs)
once_slot due [] differ = tt
once_slot due (x ∷ xs) differ = ((λ d h. differ.0 (from_slot due xs x d h).0), once_slot due xs differ.1)

once_dues : (count first : ℕ) (lists : List (List ℕ)) → count ≤ 512 → AreApart lists → Once (dues_from count first lists)
once_dues zero first lists few apart = tt
once_dues (suc count) first lists few apart =
    once_append (at_due lists first) (dues_from count (first + 1) lists) (once_slot first (list_at lists (first % 512)) (apart.once (first % 512))) (once_dues count (first + 1) lists (omega arith) apart) (λ pid d e here later. (
    let at = (from_slot first (list_at lists (first % 512)) pid d here).0 in
    let from = from_dues count (first + 1) lists pid e later in
    let same = apart.in_one (first % 512) (e % 512) pid at from.2 in
    let low = from.0 in
    let high = from.1 in
    omega (arith, same, low, high, few)))

once_set : (now : ℕ) (lists : List (List ℕ)) → AreApart lists → Once (timers now lists)
once_set now lists apart = let r = reach_is in once_dues reach (now + 1) lists (omega (arith, r)) apart

-- one more
pub length_put_in : (pid due : ℕ) (xs : Timers) → length (put_in pid due xs) ≡ length xs + 1
length_put_in pid due [] = refl
length_put_in pid due (x ∷ xs) = by (nat_le x.1 due) (length_put_in pid due xs)
  where
    by : (b : Bool) → length (put_in pid due xs) ≡ length xs + 1 → length (if b then x ∷ put_in pid due xs else ((pid, due) ∷ x ∷ xs)) ≡ length (x ∷ xs) + 1
    by true rest = omega (arith, rest)
    by false rest = omega arith

-- one less
abbrev others : ℕ → Timers → Timers
others pid xs = filter (λ timer. not (timer.0 == pid)) xs

none_less : (pid : ℕ) (xs : Timers) → ((d : ℕ) → Has xs pid d → ⊥) → length (others pid xs) ≡ length xs
none_less pid [] out = refl
none_less pid (x ∷ xs) out = by (x.0 == pid) refl (none_less pid xs (λ d h. out d (inr h)))
  where
    by : (b : Bool) → (x.0 == pid) ≡ b → length (others pid xs) ≡ length xs → length (if not b then x ∷ others pid xs else others pid xs) ≡ length (x ∷ xs)
    by true e rest = let same : pid ≡ x.0 = grind (arith, nat_tests) in absurd (out x.1 (inl (same, refl)))
    by false e rest = ap suc rest

one_less : (pid d : ℕ) (xs : Timers) → Once xs → Has xs pid d → length (others pid xs) + 1 ≡ length xs
one_less pid d [] once h = absurd h
one_less pid d (x ∷ xs) once h = by (one_less pid d xs once.1) (x.0 == pid) refl h
  where
    by : (Has xs pid d → length (others pid xs) + 1 ≡ length xs) → (b : Bool) → (x.0 == pid) ≡ b → Has (x ∷ xs) pid d
        → length (if not b then x ∷ others pid xs else others pid xs) + 1 ≡ length (x ∷ xs)
    by less true e h =
        let same : x.0 ≡ pid = grind (arith, nat_tests) in
        let rest = none_less pid xs (λ d later. once.0 d (subst (λ p. Has xs p d) (sym same) later)) in
        omega (arith, rest)
    by less false e (inl here) = let same = here.0 in absurd (grind (arith, nat_tests))
    by less false e (inr later) = let rest = less later in omega (arith, rest)

pub cancelled : (now : ℕ) (lists : List (List ℕ)) → AreApart lists → (pid d : ℕ) → Has (timers now lists) pid d → length (others pid (timers now lists)) + 1 ≡ length (timers now lists)
cancelled now lists apart pid d h = one_less pid d (timers now lists) (once_set now lists apart) h

-- few are set: each has a pid below a number
no_other : (pid : ℕ) (xs : Timers) → ((d : ℕ) → Has xs pid d → ⊥) → AllByRecursion (λ y. eqb pid y ≡ false) (map (λ (timer : ℕ × ℕ). timer.0) xs)
no_other pid [] out = tt
no_other pid (x ∷ xs) out = (by (eqb pid x.0) refl, no_other pid xs (λ d h. out d (inr h)))
  where
    by : (b : Bool) → eqb pid x.0 ≡ b → b ≡ false
    by true e = let same : pid ≡ x.0 = grind (arith, nat_tests) in absurd (out x.1 (inl (same, refl)))
    by false e = refl

pids_distinct : (xs : Timers) → Once xs → IsDistinct eqb (map (λ (timer : ℕ × ℕ). timer.0) xs)
unfolding IsDistinct
pids_distinct [] once = tt
pids_distinct (x ∷ xs) once = (no_other x.0 xs once.0, pids_distinct xs once.1)

any_has : (xs : Timers) (q : ℕ) → list_any (eqb q) (map (λ (timer : ℕ × ℕ). timer.0) xs) ≡ true → (d : ℕ) × Has xs q d
any_has [] q any = absurd (cc)
any_has (x ∷ xs) q any = by (any_has xs q) (eqb q x.0) refl any
  where
    by : (list_any (eqb q) (map (λ (timer : ℕ × ℕ). timer.0) xs) ≡ true → (d : ℕ) × Has xs q d) → (b : Bool) → eqb q x.0 ≡ b
        → (b || list_any (eqb q) (map (λ (timer : ℕ × ℕ). timer.0) xs)) ≡ true → (d : ℕ) × Has (x ∷ xs) q d
    by more true e found = let same : q ≡ x.0 = grind (arith, nat_tests) in (x.1, inl (same, refl))
    by more false e found = let rest = more found in (rest.0, inr rest.1)

length_pids : (xs : Timers) → length (map (λ (timer : ℕ × ℕ). timer.0) xs) ≡ length xs
length_pids [] = refl
length_pids (x ∷ xs) = ap suc (length_pids xs)

pub few_set : (now : ℕ) (dues : List ℕ) (m : Map) → IsWheel now dues m → AreApart m.lists → length (timers now m.lists) < 2 ^ 32
few_set now dues m w apart =
    let most = length-le_from_distinct_below (map (λ timer. timer.0) (timers now m.lists)) (length dues) (pids_distinct (timers now m.lists) (once_set now m.lists apart)) (λ q any. (
    let found = any_has (timers now m.lists) q any in
    w.known (found.0 % 512) q (set_from now dues m w q found.0 found.1).2)) in
    let long = length_pids (timers now m.lists) in
    let small = w.small in
    omega (arith, most, long, small)

-- of a wheel that callers see as v: those that are due, and those that aren't yet
pub both_counted : (to : ℕ) (v : View) (now spare room : ℕ) (lists : List (List ℕ)) → record { now = now; set = timers now lists; spare = spare; room = room } ≡ v
    → length (due_by to v.set) + length (due_after to v.set) ≡ length (timers now lists)
both_counted to v now spare room lists seen =
    length-filter_both (is_due to) (λ timer. not (is_due to timer)) (λ timer. refl) v.set ∙ ap (λ (x : View). length x.set) (sym seen)
