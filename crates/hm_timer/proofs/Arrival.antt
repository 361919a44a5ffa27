-- Where an advance ends.
use Rattle.std.proofs.Common.{◌≡◌, ℕ, suc, ◌+◌, ◌-◌, ◌%◌, ◌<◌, ◌≤◌, min, nat_le, List, [], ◌∷◌, ◌++◌, length, map, set, refl, sym, ap, ◌∙◌, subst, inl, inr, arith, append-nil, length-append}
use Rattle.std.proofs.lemmas.Bool.{cases_Bool}
use Rattle.std.proofs.lemmas.Bool.Decides.{nat_tests}
use Rattle.hm_lists.specs.Chains.{list_at}
use Rattle.hm_lists.specs.Map.{Map}
use Rattle.hm_names.specs.declared.pid.Pid.{Pid}
use Rattle.hm_timer.specs.Timers.{View, Timers, Has, due_by, due_after, pid_of, at_due, timers, IsWheel}
use Rattle.hm_timer.proofs.Turning.{Turns, tick, here_empty, set_from, jump, advanced, has_right}

length_slot : (due : ℕ) (xs : List ℕ) → length {A = ℕ × ℕ} (map (λ p. (p, due)) xs) ≡ length xs
length_slot due [] = refl
length_slot due (x ∷ xs) = ap suc (length_slot due xs)

pub length_pids : (xs : Timers) → length (map pid_of xs) ≡ length xs
length_pids [] = refl
length_pids (x ∷ xs) = ap suc (length_pids xs)

-- a tick takes the pids of its list
pub tick_length : (now : ℕ) (dues : List ℕ) (m : Map) (lists' : List (List ℕ)) → IsWheel now dues m → lists' ≡ set m.lists ((now + 1) % 512) []
    → length (timers now m.lists) ≡ length (list_at m.lists ((now + 1) % 512)) + length (timers (now + 1) lists')
tick_length now dues m lists' w is =
    ap length (tick now m.lists w.count (here_empty now dues m w)) ∙ length-append (at_due m.lists (now + 1)) (timers (now + 1) (set m.lists ((now + 1) % 512) []))
    ∙ ap (λ n. n + length (timers (now + 1) (set m.lists ((now + 1) % 512) []))) (length_slot (now + 1) (list_at m.lists ((now + 1) % 512)))
    ∙ ap (λ ls. length (list_at m.lists ((now + 1) % 512)) + length (timers (now + 1) ls)) (sym is)

no_timer : (xs : Timers) → ((p d : ℕ) → Has xs p d → ⊥) → xs ≡ []
no_timer [] none = refl
no_timer (x ∷ xs) none = absurd (none x.0 x.1 (inl (refl, refl)))

pub record Arrives (to : ℕ) (set0 : Timers) (woken0 : List Pid) (dues : List ℕ) (m : Map) (woken : List Pid) : Type 0 where
  pub wheel : IsWheel to dues m
  pub set_is : timers to m.lists ≡ due_after to set0
  pub woken_is : woken ≡ woken0 ++ map pid_of (due_by to set0)
  pub longer : length woken ≡ length woken0 + length (due_by to set0)

longer_by : (woken woken0 : List Pid) (gone : Timers) → woken ≡ woken0 ++ map pid_of gone → length woken ≡ length woken0 + length gone
longer_by woken woken0 gone e = ap length e ∙ length-append woken0 (map pid_of gone) ∙ ap (λ n. length woken0 + n) (length_pids gone)

arrives : (now0 now to counter : ℕ) (dues0 dues : List ℕ) (m0 m : Map) (woken0 woken : List Pid) → IsWheel now0 dues0 m0 → IsWheel now dues m
    → Turns now0 (timers now0 m0.lists) woken0 now m.lists woken → now ≡ now0 + counter → min (to - now0) 511 ≤ counter → counter ≤ to - now0 → now0 ≤ to
    → Arrives to (timers now0 m0.lists) woken0 dues m woken
arrives now0 now to counter dues0 dues m0 m woken0 woken w0 w t now_is round most le = elim (cases_Bool (nat_le (to - now0) counter)) [
  | inl near ↦ (
      let all : to - now0 ≤ counter = grind (arith, nat_tests) in
      let there : now ≡ to = omega (arith, now_is, all, most, le) in
      let wheel = subst (λ n. IsWheel n dues m) there w in
      let done = advanced now0 to (timers now0 m0.lists) woken0 now m.lists woken t (omega (arith, there)) (λ p d h. (let a = (set_from now dues m w p d h).0 in omega (arith, a, there))) in record {
        wheel = wheel;
        set_is = ap (λ n. timers n m.lists) (sym there) ∙ done.1;
        woken_is = done.0;
        longer = longer_by woken woken0 (due_by to (timers now0 m0.lists)) done.0;
      })
  | inr far ↦ (
      let less : counter < to - now0 = grind (arith, nat_tests) in
      let once : 511 ≤ counter = omega (arith, round, less) in
      let none : timers now m.lists ≡ [] = no_timer (timers now m.lists) (λ p d h. (
      let old = subst (λ ts. Has ts p d) (sym t.split) (has_right t.gone (timers now m.lists) p d h) in
      let a = (set_from now0 dues0 m0 w0 p d old).1 in
      let b = (set_from now dues m w p d h).0 in
      omega (arith, a, b, now_is, once))) in
      let on = jump now to dues m w none in
      let done = advanced now0 to (timers now0 m0.lists) woken0 now m.lists woken t (omega (arith, now_is, less)) (λ p d h. absurd (subst (λ ts. Has ts p d) none h)) in record {
        wheel = on.0;
        set_is = on.1 ∙ sym none ∙ done.1;
        woken_is = done.0;
        longer = longer_by woken woken0 (due_by to (timers now0 m0.lists)) done.0;
      })
]

-- the advance of a wheel that callers see as v
pub comes_to : (v : View) (now0 now to counter : ℕ) (dues0 dues : List ℕ) (memory : ℕ) (m0 m : Map) (woken0 woken : List Pid) → record { now = now0; set = timers now0 m0.lists; spare = length dues0; room = memory } ≡ v
    → IsWheel now0 dues0 m0 → IsWheel now dues m → Turns now0 (timers now0 m0.lists) woken0 now m.lists woken → now ≡ now0 + counter → min (to - now0) 511 ≤ counter → counter ≤ to - now0 → v.now ≤ to
    → Arrives to v.set woken0 dues m woken
comes_to v now0 now to counter dues0 dues memory m0 m woken0 woken seen w0 w t now_is round most le =
    let same_now = ap (λ (x : View). x.now) seen in
    subst (λ (x : View). Arrives to x.set woken0 dues m woken) seen (arrives now0 now to counter dues0 dues m0 m woken0 woken w0 w t now_is round most (omega (arith, same_now, le)))

pub starts : (now : ℕ) (lists : List (List ℕ)) (woken : List Pid) → Turns now (timers now lists) woken now lists woken
starts now lists woken = record { gone = []; split = refl; woken_are = sym (append-nil woken); past = λ p d h. absurd h }
