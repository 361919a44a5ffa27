-- The plan leaves balanced loads.
use Rattle.std.proofs.Common.{◌≡◌, ℕ, zero, suc, ◌+◌, ◌-◌, ◌*◌, ◌/◌, ◌%◌, ◌<◌, ◌≤◌, Bool, true, false, ◌==◌, nat_lt, List, [], ◌∷◌, length, map, refl, sym, ap, ◌∙◌, subst, inl, inr, ◌⊎◌, arith}
use Rattle.std.proofs.lemmas.Bool.{cases_Bool}
use Rattle.std.proofs.lemmas.Bool.Decides.{nat_tests}
use Rattle.std.proofs.lemmas.Grind.{common_steps}
use Rattle.std.proofs.lemmas.List.Sorted.{length_permutation}
use Rattle.std.proofs.Math.Nat.{div-add-mod, mod-lt}
use Rattle.hm_names.specs.Server.{Server}
use Rattle.hm_balance.specs.declared.shift.Shift.{Shift}
use Rattle.hm_balance.specs.declared.share.Share.{Share}
use Rattle.hm_balance.specs.declared.share.Falling.{Falling}
use Rattle.hm_balance.specs.Loads.{Loads, same_name, one_if, sum_over, given, taken, IsNamed, NamesDiffer, total, up, AllAre, AreAmong, Leave, Balance}
use Rattle.hm_balance.specs.Plan.{givers, takers, paired, above, by_load, with_targets, AreShares}
use Rattle.hm_balance.proofs.Sums.{sum_over-permutation, sum_over-map, sum_over-same, sum_over-plus, self_name, name_is, named_times, is_named, named_once, leave_keeps, leave_length, length-givers, below, length-takers, length-paired, given-paired, taken-paired, if_same, count-givers, count-takers}

share_of : Falling → ℕ → Share
share_of server target = record { name = server.name; load = server.load.0; target = target }

pub targets-zero : (q : ℕ) (server : Falling) (more : List Falling) → with_targets q 0 (server ∷ more) ≡ record { name = server.name; load = server.load.0; target = q } ∷ with_targets q 0 more
targets-zero q server more = refl

pub targets-suc : (q r : ℕ) (server : Falling) (more : List Falling) → with_targets q (suc r) (server ∷ more) ≡ record { name = server.name; load = server.load.0; target = q + 1 } ∷ with_targets q r more
targets-suc q r server more =
    let test : nat_lt 0 (suc r) ≡ true = grind (arith, nat_tests) in
    let fewer : suc r - 1 ≡ r = omega arith in
    rw (test, fewer) refl

pub targets_sum : (q r : ℕ) (servers : List Falling) → r ≤ length servers → sum_over (λ share. share.target) (with_targets q r servers) ≡ length servers * q + r
targets_sum q zero [] le = omega arith
targets_sum q (suc r) [] le = absurd (grind (arith, common_steps))
targets_sum q zero (server ∷ more) le =
    let rest = targets_sum q 0 more (omega arith) in grind (arith, common_steps, rest)
targets_sum q (suc r) (server ∷ more) le =
    let rest = targets_sum q r more (grind (arith, common_steps)) in
    ap (sum_over (λ share. share.target)) (targets-suc q r server more) ∙ grind (arith, common_steps, rest)

-- what doesn't look at the targets
pub targets_skip : (g : Server → ℕ → ℕ) (q r : ℕ) (servers : List Falling) → sum_over (λ share. g share.name share.load) (with_targets q r servers) ≡ sum_over (λ server. g server.name server.load.0) servers
targets_skip g q r [] = refl
targets_skip g q r (server ∷ more) = ap (λ n. g server.name server.load.0 + n) (targets_skip g q (r - 1) more)

-- each target is one of two
abbrev TargetsAre : ℕ → ℕ → List Share → Type 0
TargetsAre q u [] = Unit {0}
TargetsAre q u (share ∷ more) = ((share.target ≡ q) ⊎ (share.target ≡ u)) × TargetsAre q u more

targets_are : (q u r : ℕ) (servers : List Falling) → (0 < r → u ≡ q + 1) → TargetsAre q u (with_targets q r servers)
targets_are q u r [] high = tt
targets_are q u zero (server ∷ more) high = (inl refl, targets_are q u 0 more high)
targets_are q u (suc r) (server ∷ more) high =
    subst (TargetsAre q u) (sym (targets-suc q r server more)) (inr (sym (high (omega arith))), targets_are q u r more (λ some. high (omega arith)))

none_sum : (name : Server) (f : Share → ℕ) (shares : List Share) → sum_over (λ share. one_if (same_name name share.name)) shares ≡ 0 → sum_over (λ share. if_same (same_name name share.name) (f share)) shares ≡ 0
none_sum name f [] e = refl
none_sum name f (share ∷ more) e =
    let rest = none_sum name f more (omega (arith, e)) in
    let here : one_if (same_name name share.name) ≡ 0 = omega (arith, e) in
    by_test (same_name name share.name) here rest
  where
    by_test : (b : Bool) → one_if b ≡ 0 → sum_over (λ s. if_same (same_name name s.name) (f s)) more ≡ 0 → if_same b (f share) + sum_over (λ s. if_same (same_name name s.name) (f s)) more ≡ 0
    by_test true e rest = absurd (omega (arith, e))
    by_test false e rest = omega (arith, rest)

-- the target of a name that is there once is one of the two
pick_target : (name : Server) (q u : ℕ) (shares : List Share) → TargetsAre q u shares → sum_over (λ share. one_if (same_name name share.name)) shares ≡ 1
    → (sum_over (λ share. if_same (same_name name share.name) share.target) shares ≡ q) ⊎ (sum_over (λ share. if_same (same_name name share.name) share.target) shares ≡ u)
pick_target name q u [] are e = absurd (omega (arith, e))
pick_target name q u (share ∷ more) are e = by_test (same_name name share.name) e (pick_target name q u more are.1)
  where
    R : ℕ
    R = sum_over (λ s. if_same (same_name name s.name) s.target) more

    by_test : (b : Bool) → one_if b + sum_over (λ s. one_if (same_name name s.name)) more ≡ 1
        → (sum_over (λ s. one_if (same_name name s.name)) more ≡ 1 → (sum_over (λ s. if_same (same_name name s.name) s.target) more ≡ q) ⊎ (sum_over (λ s. if_same (same_name name s.name) s.target) more ≡ u))
        → (if_same b share.target + sum_over (λ s. if_same (same_name name s.name) s.target) more ≡ q) ⊎ (if_same b share.target + sum_over (λ s. if_same (same_name name s.name) s.target) more ≡ u)
    by_test true e rest =
        let none = none_sum name (λ s. s.target) more (omega (arith, e)) in
        elim are.0 [ inl low ↦ inl (omega (arith, low, none)) | inr high ↦ inr (omega (arith, high, none)) ]
    by_test false e rest = elim (rest (omega (arith, e))) [ inl low ↦ inl (omega (arith, low)) | inr high ↦ inr (omega (arith, high)) ]

-- a server among servers
abbrev IsServer : (Server × ℕ) → Loads → Type 0
IsServer server [] = ⊥
IsServer server (first ∷ more) = (server ≡ first) ⊎ IsServer server more

server_named : (server : Server × ℕ) (loads : Loads) → IsServer server loads → IsNamed server.0 loads
server_named server [] is = is
server_named server (first ∷ more) (inl same) = inl (ap (λ s. s.0) same)
server_named server (first ∷ more) (inr other) = inr (server_named server more other)

abbrev load_named : Server → Loads → ℕ
load_named name loads = sum_over (λ server. if_same (same_name name server.0) server.1) loads

load_none : (name : Server) (loads : Loads) → (IsNamed name loads → ⊥) → load_named name loads ≡ 0
load_none name [] none = refl
load_none name (server ∷ more) none = elim (cases_Bool (same_name name server.0)) [
  | inl same ↦ absurd (none (inl (name_is name server.0 same)))
  | inr differs ↦ (let rest = load_none name more (λ is. none (inr is)) in let here : if_same (same_name name server.0) server.1 ≡ 0 = ap (λ b. if_same b server.1) differs in omega (arith, rest, here))
]

-- where names differ the load of a name is that of its server
load_of : (server : Server × ℕ) (loads : Loads) → NamesDiffer loads → IsServer server loads → load_named server.0 loads ≡ server.1
load_of server [] differ is = absurd is
load_of server (first ∷ more) differ (inl same) =
    let none = load_none first.0 more differ.0 in
    let here : load_named first.0 (first ∷ more) ≡ first.1 = ap (λ b. if_same b first.1 + load_named first.0 more) (self_name first.0) ∙ (omega (arith, none)) in
    ap (λ (s : Server × ℕ). load_named s.0 (first ∷ more)) same ∙ here ∙ sym (ap (λ (s : Server × ℕ). s.1) same)
load_of server (first ∷ more) differ (inr other) = elim (cases_Bool (same_name server.0 first.0)) [
  | inl same ↦ absurd (differ.0 (subst (λ x. IsNamed x more) (name_is server.0 first.0 same) (server_named server more other)))
  | inr differs ↦ (let rest = load_of server more differ.1 other in let here : if_same (same_name server.0 first.0) first.1 ≡ 0 = ap (λ b. if_same b first.1) differs in omega (arith, rest, here))
]

leave_by : (shifts : List Shift) (g : Server → ℕ) (some : Loads) → ((server : Server × ℕ) → IsServer server some → server.1 + taken server.0 shifts ≡ g server.0 + given server.0 shifts)
    → Leave shifts some (map (λ server. g server.0) some)
leave_by shifts g [] each = tt
leave_by shifts g (server ∷ more) each = (each server (inl refl), leave_by shifts g more (λ other is. each other (inr is)))

all_by : (q u : ℕ) (g : Server → ℕ) (some : Loads) → ((server : Server × ℕ) → IsServer server some → (g server.0 ≡ q) ⊎ (g server.0 ≡ u)) → AllAre q u (map (λ server. g server.0) some)
all_by q u g [] each = tt
all_by q u g (server ∷ more) each = (each server (inl refl), all_by q u g more (λ other is. each other (inr is)))

among_by : (loads : Loads) (shifts : List Shift) → ((x : Server) → 1 ≤ given x shifts → IsNamed x loads) → ((x : Server) → 1 ≤ taken x shifts → IsNamed x loads) → AreAmong loads shifts
among_by loads [] gives takes = tt
among_by loads (shift ∷ shifts) gives takes =
    let from : 1 ≤ given shift.from (shift ∷ shifts) = (let one : one_if (same_name shift.from shift.from) ≡ 1 = ap one_if (self_name shift.from) in omega (arith, one)) in
    let to : 1 ≤ taken shift.to (shift ∷ shifts) = (let one : one_if (same_name shift.to shift.to) ≡ 1 = ap one_if (self_name shift.to) in omega (arith, one)) in
    (gives shift.from from, takes shift.to to, among_by loads shifts (λ x le. gives x (omega (arith, le))) (λ x le. takes x (omega (arith, le))))

exchange : (b : Bool) (load target : ℕ) → if_same b load + if_same b (target - load) ≡ if_same b target + if_same b (load - target)
exchange true load target = omega arith
exchange false load target = refl

if_same_some : (name : Server) (f : Share → ℕ) (shares : List Share) → 1 ≤ sum_over (λ share. if_same (same_name name share.name) (f share)) shares → 1 ≤ sum_over (λ share. one_if (same_name name share.name)) shares
if_same_some name f shares le = by_number (sum_over (λ share. one_if (same_name name share.name)) shares) refl
  where
    by_number : (n : ℕ) → sum_over (λ share. one_if (same_name name share.name)) shares ≡ n → 1 ≤ n
    by_number zero e = (let none = none_sum name f shares e in absurd (omega (arith, le, none)))
    by_number (suc n) e = omega arith

module _ (loads : Loads) (shares : List Share) (are : AreShares loads shares) (differ : NamesDiffer loads) (some : 1 ≤ length loads) where
  abbrev q : ℕ
  q = total loads / length loads

  abbrev r : ℕ
  r = total loads % length loads

  abbrev shifts : List Shift
  shifts = paired (givers shares) (takers shares)

  abbrev placed : List Share
  placed = with_targets q r are.falling

  -- a sum that doesn't look at the targets
  over_loads : (g : Server → ℕ → ℕ) → sum_over (λ share. g share.name share.load) shares ≡ sum_over (λ server. g server.0 server.1) loads
  over_loads g =
      sum_over-permutation (λ share. g share.name share.load) placed shares are.targets
      ∙ targets_skip g q r are.falling
      ∙ sum_over-permutation (λ server. g server.name server.load.0) (map by_load loads) are.falling are.same
      ∙ sum_over-map (λ server. g server.name server.load.0) by_load loads

  pub falling_length : length are.falling ≡ length loads
  falling_length = length_permutation (map by_load loads) are.falling are.same ∙ grind (arith, common_steps)

  pub rest_small : r < length loads
  rest_small = mod-lt (total loads) some

  pub whole_sum : length loads * q + r ≡ total loads
  whole_sum = div-add-mod (total loads) (length loads)

  targets_total : sum_over (λ share. share.target) shares ≡ total loads
  targets_total =
      sum_over-permutation (λ share. share.target) placed shares are.targets
      ∙ targets_sum q r are.falling (let l = falling_length in let small = rest_small in omega (arith, l, small))
      ∙ ap (λ n. n * q + r) falling_length ∙ whole_sum

  pub above_below : above shares ≡ below shares
  above_below =
      let loads_are = over_loads (λ name load. load) in
      let t = targets_total in
      let one = sum_over-plus (λ (share : Share). share.load) (λ share. share.target - share.load) shares in
      let other = sum_over-plus (λ (share : Share). share.target) (λ share. share.load - share.target) shares in
      let same = sum_over-same (λ (share : Share). share.load + (share.target - share.load)) (λ share. share.target + (share.load - share.target)) shares (λ share. omega arith) in
      omega (arith, loads_are, t, one, other, same)

  even : length (givers shares) ≡ length (takers shares)
  even = length-givers shares ∙ above_below ∙ sym (length-takers shares)

  pub plan_length : length shifts ≡ above shares
  plan_length = length-paired (givers shares) (takers shares) even ∙ length-givers shares

  given_is : (name : Server) → given name shifts ≡ sum_over (λ share. if_same (same_name name share.name) (share.load - share.target)) shares
  given_is name = given-paired name (givers shares) (takers shares) even ∙ count-givers name shares

  taken_is : (name : Server) → taken name shifts ≡ sum_over (λ share. if_same (same_name name share.name) (share.target - share.load)) shares
  taken_is name = taken-paired name (givers shares) (takers shares) even ∙ count-takers name shares

  -- what a server comes to
  target_of : Server → ℕ
  target_of name = sum_over (λ share. if_same (same_name name share.name) share.target) shares

  named_is : (name : Server) → sum_over (λ share. one_if (same_name name share.name)) shares ≡ named_times name loads
  named_is name = over_loads (λ other load. one_if (same_name name other))

  each_leaves : (server : Server × ℕ) → IsServer server loads → server.1 + taken server.0 shifts ≡ target_of server.0 + given server.0 shifts
  unfolding target_of
  each_leaves server is =
      let name = server.0 in
      let own = load_of server loads differ is in
      let loads_are = over_loads (λ other load. if_same (same_name name other) load) in
      let one = sum_over-plus (λ (share : Share). if_same (same_name name share.name) share.load) (λ share. if_same (same_name name share.name) (share.target - share.load)) shares in
      let other = sum_over-plus (λ (share : Share). if_same (same_name name share.name) share.target) (λ share. if_same (same_name name share.name) (share.load - share.target)) shares in
      let same = sum_over-same (λ (share : Share). if_same (same_name name share.name) share.load + if_same (same_name name share.name) (share.target - share.load))
      (λ share. if_same (same_name name share.name) share.target + if_same (same_name name share.name) (share.load - share.target)) shares (λ share. exchange (same_name name share.name) share.load share.target) in
      let g = given_is name in
      let t = taken_is name in
      omega (arith, own, loads_are, one, other, same, g, t)

  abbrev now : List ℕ
  now = map (λ server. target_of server.0) loads

  among : AreAmong loads shifts
  among = among_by loads shifts
      (λ x le. (let g = given_is x in let some = if_same_some x (λ share. share.load - share.target) shares (omega (arith, le, g)) in let n = named_is x in is_named x loads (omega (arith, some, n))))
      (λ x le. (let t = taken_is x in let some = if_same_some x (λ share. share.target - share.load) shares (omega (arith, le, t)) in let n = named_is x in is_named x loads (omega (arith, some, n))))

  leaves : Leave shifts loads now
  leaves = leave_by shifts target_of loads each_leaves

  high : 0 < r → up (total loads) (length loads) ≡ q + 1
  high lt = let test : (r == 0) ≡ false = grind (arith, nat_tests) in rw test refl

  each_target : (server : Server × ℕ) → IsServer server loads → (target_of server.0 ≡ q) ⊎ (target_of server.0 ≡ up (total loads) (length loads))
  unfolding target_of
  each_target server is =
      let name = server.0 in
      let once = named_is name ∙ named_once name loads differ (server_named server loads is) in
      let once_placed = sym (sum_over-permutation (λ (share : Share). one_if (same_name name share.name)) placed shares are.targets) ∙ once in
      let moved = sum_over-permutation (λ (share : Share). if_same (same_name name share.name) share.target) placed shares are.targets in
      elim (pick_target name q (up (total loads) (length loads)) placed (targets_are q (up (total loads) (length loads)) r are.falling high) once_placed) [
        | inl low ↦ inl (moved ∙ low)
        | inr upper ↦ inr (moved ∙ upper)
      ]

  pub plan_balances : Balance loads shifts
  plan_balances =
      let keeps = leave_keeps shifts loads now differ among leaves in
      let len = leave_length shifts loads now leaves in
      let all = all_by q (up (total loads) (length loads)) target_of loads each_target in
      (now, among, leaves, rw (keeps, len) all)
