-- Timers by their places from a first pid on, and by their pids.
use Rattle.std.proofs.Common.{◌≡◌, ℕ, zero, suc, ◌+◌, ◌<◌, Bool, true, false, not, nat_le, [], ◌∷◌, length, map, get_or, refl, ap, inl, inr, arith}
use Rattle.std.proofs.lemmas.Grind.{common_steps}
use Rattle.std.specs.Prelude.{if◌then◌else◌}
use Rattle.hm_names.specs.declared.pid.Pid.{Pid}
use Rattle.hm_timer.specs.Timers.{Timers, Has, due_after, due_by, pid_of, put_in}
use Rattle.hm_clock.specs.Clock.{pid_from, raised}

-- what a place is set to its pid is set to, and nothing else
pub has_raised : (low : ℕ) (xs : Timers) (place due : ℕ) → Has xs place due → Has (raised low xs) (low + place) due
has_raised low [] place due h = absurd h
has_raised low (x ∷ xs) place due (inl e) = inl (ap (λ p. low + p) e.0, e.1)
has_raised low (x ∷ xs) place due (inr r) = inr (has_raised low xs place due r)

pub has_place : (low : ℕ) (xs : Timers) (pid due : ℕ) → Has (raised low xs) pid due → (place : ℕ) × ((pid ≡ low + place) × Has xs place due)
has_place low [] pid due h = absurd h
has_place low (x ∷ xs) pid due (inl e) = (x.0, (e.0, inl (refl, e.1)))
has_place low (x ∷ xs) pid due (inr r) = let rest = has_place low xs pid due r in (rest.0, (rest.1.0, inr rest.1.1))

-- a setting, and what an advance takes and leaves
pub raised-put_in : (low place due : ℕ) (xs : Timers) → raised low (put_in place due xs) ≡ put_in (low + place) due (raised low xs)
raised-put_in low place due [] = refl
raised-put_in low place due (x ∷ xs) = by (nat_le x.1 due) (raised-put_in low place due xs)
  where
    by : (b : Bool) → raised low (put_in place due xs) ≡ put_in (low + place) due (raised low xs)
        → raised low (if b then x ∷ put_in place due xs else ((place, due) ∷ x ∷ xs))
        ≡ (if b then (low + x.0, x.1) ∷ put_in (low + place) due (raised low xs) else ((low + place, due) ∷ (low + x.0, x.1) ∷ raised low xs))
    by true rest = ap (λ ys. (low + x.0, x.1) ∷ ys) rest
    by false rest = refl

pub raised-due_after : (low to : ℕ) (xs : Timers) → raised low (due_after to xs) ≡ due_after to (raised low xs)
raised-due_after low to [] = refl
raised-due_after low to (x ∷ xs) = by (nat_le x.1 to) (raised-due_after low to xs)
  where
    by : (b : Bool) → raised low (due_after to xs) ≡ due_after to (raised low xs)
        → raised low (if not b then x ∷ due_after to xs else due_after to xs) ≡ (if not b then (low + x.0, x.1) ∷ due_after to (raised low xs) else due_after to (raised low xs))
    by true rest = rest
    by false rest = ap (λ ys. (low + x.0, x.1) ∷ ys) rest

pub raised-due_by : (low to : ℕ) (xs : Timers) → raised low (due_by to xs) ≡ due_by to (raised low xs)
raised-due_by low to [] = refl
raised-due_by low to (x ∷ xs) = by (nat_le x.1 to) (raised-due_by low to xs)
  where
    by : (b : Bool) → raised low (due_by to xs) ≡ due_by to (raised low xs)
        → raised low (if b then x ∷ due_by to xs else due_by to xs) ≡ (if b then (low + x.0, x.1) ∷ due_by to (raised low xs) else due_by to (raised low xs))
    by true rest = ap (λ ys. (low + x.0, x.1) ∷ ys) rest
    by false rest = rest

pub length-raised : (low : ℕ) (xs : Timers) → length (raised low xs) ≡ length xs
length-raised low [] = refl
length-raised low (x ∷ xs) = ap suc (length-raised low xs)

pub map-pid_of-raised : (low : ℕ) (xs : Timers) → map (pid_from low) (map pid_of xs) ≡ map pid_of (raised low xs)
map-pid_of-raised low [] = refl
map-pid_of-raised low (x ∷ xs) = ap (λ ys. pid_of (low + x.0, x.1) ∷ ys) (map-pid_of-raised low xs)

-- what is due was set
has-due_by : (to : ℕ) (xs : Timers) (place due : ℕ) → Has (due_by to xs) place due → Has xs place due
has-due_by to [] place due h = absurd h
has-due_by to (x ∷ xs) place due h = by (nat_le x.1 to) (has-due_by to xs place due) h
  where
    by : (b : Bool) → (Has (due_by to xs) place due → Has xs place due) → Has (if b then x ∷ due_by to xs else due_by to xs) place due → Has (x ∷ xs) place due
    by true rest (inl e) = inl e
    by true rest (inr r) = inr (rest r)
    by false rest h = inr (rest h)

all_below : (n : ℕ) (xs : Timers) → ((place due : ℕ) → Has xs place due → place < n) → (k : ℕ) (d : Pid) → k < length (map pid_of xs) → (get_or (map pid_of xs) k d).0 < n
all_below n [] low k d lt = absurd (grind (arith, common_steps))
all_below n (x ∷ xs) low zero d lt = low x.0 x.1 (inl (refl, refl))
all_below n (x ∷ xs) low (suc k) d lt = all_below n xs (λ place due h. low place due (inr h)) k d (grind (arith, common_steps))

-- the places that are woken are below a number that all that are set are below
pub woken_below : (n to : ℕ) (xs : Timers) → ((place due : ℕ) → Has xs place due → place < n) → (k : ℕ) (d : Pid) → k < length (map pid_of (due_by to xs)) → (get_or (map pid_of (due_by to xs)) k d).0 < n
woken_below n to xs low = all_below n (due_by to xs) (λ place due h. low place due (has-due_by to xs place due h))
