-- A clock as callers see it, over its wheel.
use Rattle.std.proofs.Common.{◌≡◌, ℕ, ◌+◌, ◌<◌, ◌≤◌, ◌^◌, Bool, true, false, ◌==◌, ◌||◌, nat_le, List, [], ◌∷◌, ◌++◌, length, map, take, drop, get_or, Option, Some, None, MatchOption, is_some, refl, sym, ap, ◌∙◌, subst, inl, inr, arith}
use Rattle.std.proofs.Math.Seq.{drop-append_seam, take-append_seam}
use Rattle.std.proofs.lemmas.Bool.{cases_Bool}
use Rattle.std.proofs.lemmas.Bool.Decides.{nat_tests}
use Rattle.hm_names.specs.declared.pid.Pid.{Pid}
use Rattle.hm_timer.specs.Timers.{Timers, View, Has, IsUnset, due_by, pid_of, put_in}
use Rattle.hm_clock.specs.Clock.{ClockView, IsClock, IsKnown, is_set_in, pid_from, raised}
use Rattle.hm_clock.proofs.Raised.{has_place, has_raised, map-pid_of-raised, raised-due_by, raised-put_in, woken_below}

-- a clock as callers see it
abbrev pub shown : View → ℕ → ℕ → ClockView
shown w low wait = record { now = w.now; wait = wait; set = raised low w.set; low = low; pids = low + w.spare; room = w.room }

-- a place is that of a pid, where the pid has one
pub record IsPlace (low pid place : ℕ) : Type 0 where
  pub known : low ≤ pid → pid ≡ low + place
  pub below : pid < low → 2 ^ 64 ≤ place + 1

-- each place that is set is there
abbrev pub PlacesKnown : View → Type 0
PlacesKnown w = (place due : ℕ) → Has w.set place due → place < w.spare

module _ (v : ClockView) (w : View) (low wait : ℕ) (seen : shown w low wait ≡ v) where
  -- each pid that is set is known
  pub pids_known : PlacesKnown w → (pid due : ℕ) → Has v.set pid due → IsKnown v pid
  pids_known known = subst (λ (x : ClockView). (pid due : ℕ) → Has x.set pid due → IsKnown x pid) seen (λ pid due h. (
      let at = has_place low w.set pid due h in
      let is = at.1.0 in
      let lt = known at.0 due at.1.1 in
      (omega (arith, is), omega (arith, is, lt))))

  -- what it is set to is one tick
  pub one_due : ((place d e : ℕ) → Has w.set place d → Has w.set place e → d ≡ e) → (pid d e : ℕ) → Has v.set pid d → Has v.set pid e → d ≡ e
  one_due one = subst (λ (x : ClockView). (pid d e : ℕ) → Has x.set pid d → Has x.set pid e → d ≡ e) seen (λ pid d e a b. (
      let at = has_place low w.set pid d a in
      let too = has_place low w.set pid e b in
      let is = at.1.0 in
      let also = too.1.0 in
      let same : too.0 ≡ at.0 = omega (arith, is, also) in
      one at.0 d e at.1.1 (subst (λ p. Has w.set p e) same too.1.1)))

  -- a place is set to what its pid is
  due_there : IsClock w low wait → PlacesKnown w → (pid place : ℕ) → IsPlace low pid place → (due : ℕ) → Has w.set place due → Has (raised low w.set) pid due
  due_there is known pid place at due h = elim (cases_Bool (nat_le low pid)) [
    | inl on ↦ (let e = at.known (grind (arith, nat_tests)) in subst (λ p. Has (raised low w.set) p due) (sym e) (has_raised low w.set place due h))
    | inr off ↦ (
        let far = at.below (grind (arith, nat_tests)) in
        let fits = is.fits in
        let lt = known place due h in absurd (omega (arith, far, fits, lt)))
  ]

  place_there : (pid place : ℕ) → IsPlace low pid place → (due : ℕ) → Has (raised low w.set) pid due → Has w.set place due
  place_there pid place at due h =
      let found = has_place low w.set pid due h in
      let is = found.1.0 in
      let e = at.known (omega (arith, is)) in
      let same : found.0 ≡ place = omega (arith, is, e) in
      subst (λ p. Has w.set p due) same found.1.1

  pub due_of_pid : IsClock w low wait → PlacesKnown w → (pid place : ℕ) → IsPlace low pid place → (due : Option ℕ) → MatchOption due (IsUnset w.set place) (λ d. Has w.set place d) → MatchOption due (IsUnset v.set pid) (λ d. Has v.set pid d)
  due_of_pid is known pid place at None out = subst (λ (x : ClockView). IsUnset x.set pid) seen (λ d h. out d (place_there pid place at d h))
  due_of_pid is known pid place at (Some d) there = subst (λ (x : ClockView). Has x.set pid d) seen (due_there is known pid place at d there)

  -- a pid that isn't set has a place that isn't
  pub place_out : (pid place : ℕ) → IsPlace low pid place → IsKnown v pid → IsUnset v.set pid → IsUnset w.set place
  place_out pid place at known out d h =
      let e = at.known (let is = known.0 in let same = ap (λ (x : ClockView). x.low) seen in omega (arith, is, same)) in
      out d (subst (λ (x : ClockView). Has x.set pid d) seen (subst (λ p. Has (raised low w.set) p d) (sym e) (has_raised low w.set place d h)))

  -- a pid is set
  pub set_is : (w' : View) (pid place due : ℕ) → IsPlace low pid place → IsKnown v pid → w'.set ≡ put_in place due w.set → w'.now ≡ w.now → w'.spare ≡ w.spare → w'.room ≡ w.room
      → shown w' low wait ≡ record v { set = put_in pid due v.set }
  set_is w' pid place due at known put now spare room =
      let e = at.known (let is = known.0 in let same = ap (λ (x : ClockView). x.low) seen in omega (arith, is, same)) in
      let here : raised low w'.set ≡ put_in pid due (raised low w.set) = ap (raised low) put ∙ raised-put_in low place due w.set ∙ ap (λ p. put_in p due (raised low w.set)) (sym e) in
      let changed : shown w' low wait ≡ record (shown w low wait) { set = put_in pid due (raised low w.set) } = cc in
      changed ∙ ap (λ (x : ClockView). record x { set = put_in pid due x.set }) seen

-- what an advance wakes
module _ (low to from : ℕ) (old new : List Pid) (xs : Timers) (is : from ≡ length old) (are : new ≡ old ++ map pid_of (due_by to xs)) where
  behind : drop from new ≡ map pid_of (due_by to xs)
  behind = ap (λ n. drop n new) is ∙ ap (drop (length old)) are ∙ drop-append_seam old (map pid_of (due_by to xs))

  before : take from new ≡ old
  before = ap (λ n. take n new) is ∙ ap (take (length old)) are ∙ take-append_seam old (map pid_of (due_by to xs))

  -- each place has its pid
  pub woken_fit : (n : ℕ) → ((place due : ℕ) → Has xs place due → place < n) → low + n < 2 ^ 64 → (k : ℕ) (d : Pid) → k < length (drop from new) → low + (get_or (drop from new) k d).0 < 2 ^ 64
  woken_fit n known fits k d lt =
      let least = woken_below n to xs known k d (let same = ap length behind in omega (arith, lt, same)) in
      let same = ap (λ ys. (get_or ys k d).0) behind in
      omega (arith, least, same, fits)

  -- the pids come after those that were there
  pub woken_are : (turned : List Pid) → turned ≡ take from new ++ map (pid_from low) (drop from new) → turned ≡ old ++ map pid_of (due_by to (raised low xs))
  woken_are turned e =
      e ∙ ap (λ ys. ys ++ map (pid_from low) (drop from new)) before ∙ ap (λ ys. old ++ map (pid_from low) ys) behind
      ∙ ap (λ ys. old ++ ys) (map-pid_of-raised low (due_by to xs) ∙ ap (map pid_of) (raised-due_by low to xs))

-- whether a pid is set
set_any : (xs : Timers) (pid due : ℕ) → Has xs pid due → is_set_in xs pid ≡ true
set_any [] pid due h = absurd h
set_any (x ∷ xs) pid due (inl e) = by (x.0 == pid) (let same = e.0 in grind (arith, nat_tests))
  where
    by : (b : Bool) → b ≡ true → (b || is_set_in xs pid) ≡ true
    by true on = refl
    by false on = absurd (cc)
set_any (x ∷ xs) pid due (inr r) = by (x.0 == pid) (set_any xs pid due r)
  where
    by : (b : Bool) → is_set_in xs pid ≡ true → (b || is_set_in xs pid) ≡ true
    by true rest = refl
    by false rest = rest

unset_none : (xs : Timers) (pid : ℕ) → IsUnset xs pid → is_set_in xs pid ≡ false
unset_none [] pid out = refl
unset_none (x ∷ xs) pid out = by (x.0 == pid) refl (unset_none xs pid (λ d h. out d (inr h)))
  where
    by : (b : Bool) → (x.0 == pid) ≡ b → is_set_in xs pid ≡ false → (b || is_set_in xs pid) ≡ false
    by true on rest = let same : pid ≡ x.0 = grind (arith, nat_tests) in absurd (out x.1 (inl (same, refl)))
    by false off rest = rest

pub set_tells : (xs : Timers) (pid : ℕ) (due : Option ℕ) → MatchOption due (IsUnset xs pid) (λ d. Has xs pid d) → is_some due ≡ is_set_in xs pid
set_tells xs pid None out = sym (unset_none xs pid out)
set_tells xs pid (Some d) there = sym (set_any xs pid d there)
