-- Places that are turned back into pids, one after another.
use Rattle.std.proofs.Common.{◌≡◌, ℕ, zero, suc, ◌+◌, ◌-◌, ◌<◌, ◌≤◌, List, [], ◌∷◌, ◌++◌, length, map, set, take, drop, get_or, refl, ap, ◌∙◌, arith, length-drop}
use Rattle.std.proofs.lemmas.Grind.{common_steps}
use Rattle.std.proofs.lemmas.List.{get_or-append_right, length-take-le, set-append_right}
use Rattle.hm_names.specs.declared.pid.Pid.{Pid}
use Rattle.hm_clock.specs.Clock.{pid_from}

-- places of which so many are turned back
abbrev pub turned : ℕ → ℕ → List Pid → List Pid
turned low count places = map (pid_from low) (take count places) ++ drop count places

-- one more
turned_next : (low count : ℕ) (places : List Pid) (d : Pid) → count < length places → set (turned low count places) count (pid_from low (get_or (turned low count places) count d)) ≡ turned low (suc count) places
turned_next low count [] d lt = absurd (grind (arith, common_steps))
turned_next low zero (x ∷ xs) d lt = refl
turned_next low (suc count) (x ∷ xs) d lt = ap (λ ys. pid_from low x ∷ ys) (turned_next low count xs d (grind (arith, common_steps)))

-- the same behind the first ones
pub turned_more : (low from at : ℕ) (old items : List Pid) (place : Pid) → from ≤ at → at < length old → items ≡ take from old ++ turned low (at - from) (drop from old) → place ≡ get_or items at place
    → set items at (pid_from low place) ≡ take from old ++ turned low (at + 1 - from) (drop from old)
turned_more low from at old items place le lt are is =
    let rest = drop from old in
    let front : length (take from old) ≡ from = length-take-le from old (omega (arith, le, lt)) in
    let long = length-drop from old in
    let next : suc (at - from) ≡ at + 1 - from = omega (arith, le) in
    let read : place ≡ get_or (turned low (at - from) rest) (at - from) place = is ∙ ap (λ xs. get_or xs at place) are ∙ get_or-append_right (take from old) (turned low (at - from) rest) from at place front le in
    ap (λ xs. set xs at (pid_from low place)) are
    ∙ set-append_right (take from old) (turned low (at - from) rest) from at (pid_from low place) front le
    ∙ ap (λ p. take from old ++ set (turned low (at - from) rest) (at - from) (pid_from low p)) read
    ∙ ap (λ xs. take from old ++ xs) (turned_next low (at - from) rest place (omega (arith, long, le, lt)))
    ∙ ap (λ n. take from old ++ turned low n rest) next
