-- No list of shifts that leaves balanced loads is shorter than the plan.
use Rattle.std.proofs.Common.{◌≡◌, ℕ, zero, suc, ◌+◌, ◌-◌, ◌*◌, ◌/◌, ◌%◌, ◌<◌, ◌≤◌, Bool, true, false, ◌==◌, ◌&&◌, nat_lt, if◌then◌else◌, List, [], ◌∷◌, length, map, get_or, add-one, refl, sym, ap, ◌∙◌, inl, inr, ◌⊎◌, arith}
use Rattle.std.proofs.lemmas.Bool.{cases_Bool}
use Rattle.std.proofs.lemmas.Bool.Decides.{nat_tests}
use Rattle.std.proofs.lemmas.Grind.{common_steps}
use Rattle.std.specs.Prelude.{IsSorted}
use Rattle.std.specs.Ordering.{is_lt}
use Rattle.hm_balance.specs.declared.shift.Shift.{Shift}
use Rattle.hm_balance.specs.declared.share.Share.{Share}
use Rattle.hm_balance.specs.declared.share.Falling.{Falling}
use Rattle.hm_balance.specs.Loads.{Loads, one_if, sum_over, given, taken, NamesDiffer, total, sum_of, up, AllAre, Leave, Balance}
use Rattle.hm_balance.specs.Plan.{above, by_load, falling_cmp, with_targets, AreShares, givers, takers, paired}
use Rattle.hm_balance.proofs.Sums.{sum_over-permutation, sum_over-map, all_given, all_given_is, leave_keeps, leave_length}
use Rattle.hm_balance.proofs.Targets.{targets-suc, plan_length, whole_sum, rest_small, falling_length}

-- the first has at least the load of each other, and so on
abbrev Falls : List Falling → Type 0
Falls [] = Unit {0}
Falls (server ∷ []) = Unit {0}
Falls (server ∷ (next ∷ more)) = (next.load.0 ≤ server.load.0) × Falls (next ∷ more)

not_above : (a b : Falling) → is_lt (falling_cmp b a) ≡ false → b.load.0 ≤ a.load.0
not_above a b e = elim (cases_Bool (nat_lt a.load.0 b.load.0)) [
  | inl lower ↦ (let less : is_lt (falling_cmp b a) ≡ true = rw lower refl in absurd (cc))
  | inr higher ↦ grind (arith, nat_tests)
]

sorted_rest : (server : Falling) (more : List Falling) → IsSorted falling_cmp (server ∷ more) → (k : ℕ) (d : Falling) → k + 1 < length more → is_lt (falling_cmp (get_or more (k + 1) d) (get_or more k d)) ≡ false
sorted_rest server more sorted k d lt =
    let shifted : (j : ℕ) → get_or (server ∷ more) (j + 1) d ≡ get_or more j d = λ j. rw add-one refl in
    let two : k + 1 + 1 < length (server ∷ more) = grind (arith, common_steps) in
    let at = sorted (k + 1) d (omega arith) two in
    sym (ap (λ x. is_lt (falling_cmp x (get_or (server ∷ more) (k + 1) d))) (shifted (k + 1)) ∙ ap (λ x. is_lt (falling_cmp (get_or more (k + 1) d) x)) (shifted k)) ∙ at

falls_from : (servers : List Falling) → IsSorted falling_cmp servers → Falls servers
falls_from [] sorted = tt
falls_from (server ∷ []) sorted = tt
falls_from (server ∷ (next ∷ more)) sorted =
    (not_above server next (let two : 1 < length (server ∷ (next ∷ more)) = grind (arith, common_steps) in sorted 0 server (omega arith) two), falls_from (next ∷ more) (λ k d le lt. sorted_rest server (next ∷ more) sorted k d lt))

abbrev AllLow : ℕ → List Falling → Type 0
AllLow q [] = Unit {0}
AllLow q (server ∷ more) = (server.load.0 ≤ q) × AllLow q more

falls_low : (q : ℕ) (server : Falling) (more : List Falling) → Falls (server ∷ more) → server.load.0 ≤ q → AllLow q more
falls_low q server [] falls low = tt
falls_low q server (next ∷ more) falls low =
    let here = falls.0 in
    let lower : next.load.0 ≤ q = omega (arith, here, low) in (lower, falls_low q next more falls.1 lower)

falls_rest : (server : Falling) (more : List Falling) → Falls (server ∷ more) → Falls more
falls_rest server [] falls = tt
falls_rest server (next ∷ more) falls = falls.1

-- what lies above q, and how many do
excess : ℕ → List Falling → ℕ
excess q servers = sum_over (λ server. server.load.0 - q) servers

highs : ℕ → List Falling → ℕ
highs q servers = sum_over (λ server. one_if (nat_lt q server.load.0)) servers

nothing_high : (q r : ℕ) (servers : List Falling) → AllLow q servers → (above (with_targets q r servers) ≡ 0) × (sum_over (λ server. server.load.0 - q) servers ≡ 0) × (sum_over (λ server. one_if (nat_lt q server.load.0)) servers ≡ 0)
nothing_high q r [] low = (refl, refl, refl)
nothing_high q r (server ∷ more) low =
    let rest = nothing_high q (r - 1) more low.1 in
    let here = low.0 in
    let test : nat_lt q server.load.0 ≡ false = grind (arith, nat_tests, here) in
    let target : server.load.0 - (if nat_lt 0 r then q + 1 else q) ≡ 0 = over (nat_lt 0 r) here in
    (omega (arith, target, rest.0), omega (arith, here, rest.1), rw test (let z = rest.2 in omega (arith, z)))
  where
    over : (b : Bool) → server.load.0 ≤ q → server.load.0 - (if b then q + 1 else q) ≡ 0
    over true le = omega (arith, le)
    over false le = omega (arith, le)

zero_off : (q : ℕ) (servers : List Falling) → above (with_targets q 0 servers) + 0 ≡ sum_over (λ server. server.load.0 - q) servers
zero_off q [] = refl
zero_off q (server ∷ more) = let rest = zero_off q more in omega (arith, rest)

-- the targets take off the excess as many as there are targets or high loads, whichever is less
taken_off : (q r : ℕ) (servers : List Falling) → Falls servers → r ≤ length servers
    → (least : ℕ) × (above (with_targets q r servers) + least ≡ sum_over (λ server. server.load.0 - q) servers) × ((least ≡ r) ⊎ (least ≡ sum_over (λ server. one_if (nat_lt q server.load.0)) servers))
taken_off q r [] falls le = (0, refl, inr refl)
taken_off q zero (server ∷ more) falls le =
    (0, zero_off q (server ∷ more), inl refl)
taken_off q (suc r) (server ∷ more) falls le = elim (cases_Bool (nat_lt q server.load.0)) [
  | inl high ↦ (
      let rest = taken_off q r more (falls_rest server more falls) (grind (arith, common_steps)) in
      let lt : q < server.load.0 = grind (arith, nat_tests) in
      let head = ap above (targets-suc q r server more) in
      let one : one_if (nat_lt q server.load.0) ≡ 1 = ap one_if high in
      let sums = rest.1 in
      (suc rest.0, ap (λ x. x + suc rest.0) head ∙ (omega (arith, lt, sums)), elim rest.2 [ inl most ↦ inl (ap suc most) | inr few ↦ inr (omega (arith, few, one)) ]))
  | inr low ↦ (
      let le : server.load.0 ≤ q = grind (arith, nat_tests) in
      let none = nothing_high q (suc r) (server ∷ more) (le, falls_low q server more falls le) in
      (0, (let a = none.0 in let b = none.1 in omega (arith, a, b)), inr (sym none.2)))
]

-- any balanced loads: a server gives what it has above q, but for one where it stays one above
abbrev bonus : ℕ → Loads → List ℕ → ℕ
bonus q [] now = 0
bonus q (server ∷ more) [] = 0
bonus q (server ∷ more) (x ∷ now) = one_if (nat_lt q x && nat_lt q server.1) + bonus q more now

gives_enough : (q u : ℕ) (shifts : List Shift) (loads : Loads) (now : List ℕ) → (u ≡ q) ⊎ (u ≡ q + 1) → Leave shifts loads now → AllAre q u now
    → (sum_over (λ server. server.1 - q) loads ≤ all_given loads shifts + bonus q loads now)
    × (length loads * q + bonus q loads now ≤ sum_of now)
    × (bonus q loads now ≤ sum_over (λ server. one_if (nat_lt q server.1)) loads)
gives_enough q u shifts [] [] up leave all = (omega arith, omega arith, omega arith)
gives_enough q u shifts [] (x ∷ now) up leave all = absurd leave
gives_enough q u shifts (server ∷ more) [] up leave all = absurd leave
gives_enough q u shifts (server ∷ more) (x ∷ now) up leave all =
    let rest = gives_enough q u shifts more now up leave.1 all.1 in
    let is : (x ≡ q) ⊎ (x ≡ q + 1) = elim all.0 [ inl low ↦ inl low | inr high ↦ elim up [ inl same ↦ inl (high ∙ same) | inr one ↦ inr (high ∙ one) ] ] in
    let here = by_now (nat_lt q x) (nat_lt q server.1) is refl refl leave.0 in
    ((let a = here.0 in let b = rest.0 in omega (arith, a, b)), (let a = here.1 in let b = rest.1 in grind (arith, common_steps, a, b)), (let a = here.2 in let b = rest.2 in omega (arith, a, b)))
  where
    most : (x ≡ q) ⊎ (x ≡ q + 1) → x ≤ q + 1
    most (inl low) = omega (arith, low)
    most (inr high) = omega (arith, high)

    least : (x ≡ q) ⊎ (x ≡ q + 1) → q ≤ x
    least (inl low) = omega (arith, low)
    least (inr high) = omega (arith, high)

    by_now : (hx hl : Bool) → (x ≡ q) ⊎ (x ≡ q + 1) → nat_lt q x ≡ hx → nat_lt q server.1 ≡ hl → server.1 + taken server.0 shifts ≡ x + given server.0 shifts
        → (server.1 - q ≤ given server.0 shifts + one_if (hx && hl)) × (q + one_if (hx && hl) ≤ x) × (one_if (hx && hl) ≤ one_if hl)
    by_now true true is ex el e = let m = most is in let lt : q < x = grind (arith, nat_tests) in (omega (arith, m, e), omega (arith, lt), omega arith)
    by_now true false is ex el e = let lt : q < x = grind (arith, nat_tests) in let low : server.1 ≤ q = grind (arith, nat_tests) in (omega (arith, low), omega (arith, lt), omega arith)
    by_now false true is ex el e = let m = least is in let low : x ≤ q = grind (arith, nat_tests) in (omega (arith, low, e), omega (arith, m), omega arith)
    by_now false false is ex el e = let m = least is in let low : x ≤ q = grind (arith, nat_tests) in (omega (arith, low, e), omega (arith, m), omega arith)

up_is : (s n : ℕ) → (up s n ≡ s / n) ⊎ (up s n ≡ s / n + 1)
up_is s n = elim (cases_Bool (s % n == 0)) [ inl none ↦ inl (rw none refl) | inr some ↦ inr (rw some refl) ]

-- the plan against any other list
module _ (loads : Loads) (shares : List Share) (are : AreShares loads shares) (differ : NamesDiffer loads) (some : 1 ≤ length loads) where
  over_falling : (g : ℕ → ℕ) → sum_over (λ server. g server.load.0) are.falling ≡ sum_over (λ server. g server.1) loads
  over_falling g =
      sum_over-permutation (λ server. g server.load.0) (map by_load loads) are.falling are.same ∙ sum_over-map (λ server. g server.load.0) by_load loads

  pub plan_fewest : (other : List Shift) → Balance loads other → length (paired (givers shares) (takers shares)) ≤ length other
  plan_fewest other (now, among, leave, even) =
      let q : ℕ = total loads / length loads in
      let r : ℕ = total loads % length loads in
      let keeps = leave_keeps other loads now differ among leave in
      let len = leave_length other loads now leave in
      let u : ℕ = up (total loads) (length loads) in
      let all : AllAre q u now = rw (keeps, len) at even in
      let enough = gives_enough q u other loads now (up_is (total loads) (length loads)) leave all in
      let gives = all_given_is loads other differ among in
      let small = rest_small loads shares are differ some in
      let flen = falling_length loads shares are differ some in
      let off = taken_off q r are.falling (falls_from are.falling are.falls) (omega (arith, small, flen)) in
      let sums = off.1 in
      let which = off.2 in
      let moved = sum_over-permutation (λ (share : Share). share.load - share.target) (with_targets q r are.falling) shares are.targets in
      let excess_is = over_falling (λ load. load - q) in
      let highs_are = over_falling (λ load. one_if (nat_lt q load)) in
      let whole = whole_sum loads shares are differ some in
      let long = plan_length loads shares are differ some in
      let e0 = enough.0 in
      let e1 = enough.1 in
      let e2 = enough.2 in
      let bonus_small : bonus q loads now ≤ off.0 = elim which [ inl all ↦ omega (arith, all, e1, keeps, whole) | inr high ↦ omega (arith, high, e2, highs_are) ] in
      omega (arith, bonus_small, e0, gives, sums, moved, excess_is, long)
