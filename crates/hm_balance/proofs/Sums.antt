-- Sums over lists, and how names count in them.
use Rattle.std.proofs.Common.{◌≡◌, ℕ, zero, suc, ◌+◌, ◌-◌, ◌≤◌, Bool, true, false, ◌==◌, ◌&&◌, List, [], ◌∷◌, ◌++◌, length, map, refl, sym, ap, ◌∙◌, subst, inl, inr, arith, length-append}
use Rattle.std.proofs.lemmas.Bool.{cases_Bool, and_parts, and_from, eqb-true, eq-eqb, true≢false}
use Rattle.std.proofs.lemmas.Slice.Eq.{bytes_eq-Decides}
use Rattle.std.specs.Str.{bytes_eq}
use Rattle.std.proofs.lemmas.Grind.{common_steps}
use Rattle.std.specs.Prelude.{IsPermutation}
use Rattle.std.proofs.lemmas.List.Sorted.{sum_by-IsPermutation}
use Rattle.std.proofs.lemmas.List.Recursion.{is_sum_by}
use Rattle.hm_names.specs.Server.{Server}
use Rattle.hm_balance.specs.declared.shift.Shift.{Shift}
use Rattle.hm_balance.specs.declared.share.Share.{Share}
use Rattle.hm_balance.specs.Loads.{Loads, same_name, one_if, sum_over, given, taken, IsNamed, NamesDiffer, total, sum_of, AreAmong, Leave}
use Rattle.hm_balance.specs.Plan.{times, givers, takers, paired, above}

-- the order of a list doesn't matter
pub sum_over-permutation : {A : Type 0} (f : A → ℕ) (xs ys : List A) → IsPermutation xs ys → sum_over f ys ≡ sum_over f xs
sum_over-permutation f xs ys p =
    is_sum_by (sum_over f) f refl (λ x more. refl) ys ∙ sum_by-IsPermutation f xs ys p ∙ sym (is_sum_by (sum_over f) f refl (λ x more. refl) xs)

pub sum_over-append : {A : Type 0} (f : A → ℕ) (xs ys : List A) → sum_over f (xs ++ ys) ≡ sum_over f xs + sum_over f ys
sum_over-append f [] ys = omega arith
sum_over-append f (x ∷ xs) ys = let rest = sum_over-append f xs ys in omega (arith, rest)

pub sum_over-map : {A B : Type 0} (f : B → ℕ) (g : A → B) (xs : List A) → sum_over f (map g xs) ≡ sum_over (λ x. f (g x)) xs
sum_over-map f g [] = refl
sum_over-map f g (x ∷ xs) = ap (λ n. f (g x) + n) (sum_over-map f g xs)

pub sum_over-same : {A : Type 0} (f g : A → ℕ) (xs : List A) → ((x : A) → f x ≡ g x) → sum_over f xs ≡ sum_over g xs
sum_over-same f g [] e = refl
sum_over-same f g (x ∷ xs) e = let rest = sum_over-same f g xs e in let here = e x in omega (arith, rest, here)

pub sum_over-plus : {A : Type 0} (f g : A → ℕ) (xs : List A) → sum_over (λ x. f x + g x) xs ≡ sum_over f xs + sum_over g xs
sum_over-plus f g [] = refl
sum_over-plus f g (x ∷ xs) = let rest = sum_over-plus f g xs in omega (arith, rest)

pub sum_over-le : {A : Type 0} (f g : A → ℕ) (xs : List A) → ((x : A) → f x ≤ g x) → sum_over f xs ≤ sum_over g xs
sum_over-le f g [] e = omega arith
sum_over-le f g (x ∷ xs) e = let rest = sum_over-le f g xs e in let here = e x in omega (arith, rest, here)

pub self_name : (a : Server) → same_name a a ≡ true
self_name a =
    and_from (bytes_eq a.host a.host) ((a.port == a.port) && (a.start == a.start)) ((bytes_eq-Decides a.host a.host).1 refl)
    (and_from (a.port == a.port) (a.start == a.start) (eq-eqb a.port a.port refl) (eq-eqb a.start a.start refl))

pub name_is : (a b : Server) → same_name a b ≡ true → a ≡ b
name_is a b e =
    let parts = and_parts (bytes_eq a.host b.host) ((a.port == b.port) && (a.start == b.start)) e in
    let numbers = and_parts (a.port == b.port) (a.start == b.start) parts.1 in
    ap (λ h. let s : Server = record { host = h; port = a.port; start = a.start } in s) ((bytes_eq-Decides a.host b.host).0 parts.0)
    ∙ ap (λ p. let s : Server = record { host = b.host; port = p; start = a.start } in s) (eqb-true a.port b.port numbers.0)
    ∙ ap (λ n. let s : Server = record { host = b.host; port = b.port; start = n } in s) (eqb-true a.start b.start numbers.1)

one_if_some : (b : Bool) → 1 ≤ one_if b → b ≡ true
one_if_some true le = refl
one_if_some false le = absurd (omega (arith, le))

-- how often a name is one of the servers'
abbrev pub named_times : Server → Loads → ℕ
named_times name loads = sum_over (λ server. one_if (same_name name server.0)) loads

pub is_named : (name : Server) (loads : Loads) → 1 ≤ named_times name loads → IsNamed name loads
is_named name [] le = absurd (omega (arith, le))
is_named name (server ∷ more) le = elim (cases_Bool (same_name name server.0)) [
  | inl same ↦ inl (name_is name server.0 same)
  | inr differs ↦ inr (is_named name more (let none : one_if (same_name name server.0) ≡ 0 = ap one_if differs in omega (arith, le, none)))
]

not_named : (name : Server) (loads : Loads) → (IsNamed name loads → ⊥) → named_times name loads ≡ 0
not_named name loads none = by_number (named_times name loads) refl
  where
    by_number : (n : ℕ) → named_times name loads ≡ n → n ≡ 0
    by_number zero e = refl
    by_number (suc n) e = absurd (none (is_named name loads (omega (arith, e))))

-- where names differ each is there once
pub named_once : (name : Server) (loads : Loads) → NamesDiffer loads → IsNamed name loads → named_times name loads ≡ 1
named_once name [] differ is = absurd is
named_once name (server ∷ more) differ (inl same) =
    let here : same_name name server.0 ≡ true = ap (λ x. same_name x server.0) same ∙ self_name server.0 in
    let there = not_named server.0 more differ.0 in
    let rest : named_times name more ≡ 0 = ap (λ x. named_times x more) same ∙ there in
    let one : one_if (same_name name server.0) ≡ 1 = ap one_if here in
    omega (arith, one, rest)
named_once name (server ∷ more) differ (inr other) = elim (cases_Bool (same_name name server.0)) [
  | inl same ↦ absurd (differ.0 (subst (λ x. IsNamed x more) (name_is name server.0 same) other))
  | inr differs ↦ (let rest = named_once name more differ.1 other in let none : one_if (same_name name server.0) ≡ 0 = ap one_if differs in omega (arith, rest, none))
]

-- the shifts to the servers, and from them, are all
abbrev pub all_taken : Loads → List Shift → ℕ
all_taken loads shifts = sum_over (λ server. taken server.0 shifts) loads

abbrev pub all_given : Loads → List Shift → ℕ
all_given loads shifts = sum_over (λ server. given server.0 shifts) loads

same_name_sym : (a b : Server) → same_name a b ≡ same_name b a
same_name_sym a b = elim (cases_Bool (same_name a b)) [
  | inl same ↦ same ∙ sym (ap (λ x. same_name b x) (name_is a b same) ∙ self_name b)
  | inr differs ↦ elim (cases_Bool (same_name b a)) [
    | inl same ↦ absurd (true≢false (sym (self_name a) ∙ ap (λ x. same_name a x) (sym (name_is b a same)) ∙ differs))
    | inr other ↦ differs ∙ sym other
  ]
]

zeros : (loads : Loads) → sum_over (λ (server : Server × ℕ). 0) loads ≡ 0
zeros [] = refl
zeros (server ∷ more) = let rest = zeros more in omega (arith, rest)

-- each shift's server at this end is one of the servers
abbrev AreNamed : (Shift → Server) → Loads → List Shift → Type 0
AreNamed end loads [] = Unit {0}
AreNamed end loads (shift ∷ shifts) = IsNamed (end shift) loads × AreNamed end loads shifts

all_ends : (end : Shift → Server) (loads : Loads) (shifts : List Shift) → NamesDiffer loads → AreNamed end loads shifts → sum_over (λ server. sum_over (λ shift. one_if (same_name server.0 (end shift))) shifts) loads ≡ length shifts
all_ends end loads [] differ named = zeros loads
all_ends end loads (shift ∷ shifts) differ named =
    let parts = sum_over-plus (λ (server : Server × ℕ). one_if (same_name server.0 (end shift))) (λ server. sum_over (λ s. one_if (same_name server.0 (end s))) shifts) loads in
    let turn = sum_over-same (λ (server : Server × ℕ). one_if (same_name server.0 (end shift))) (λ server. one_if (same_name (end shift) server.0)) loads (λ server. ap one_if (same_name_sym server.0 (end shift))) in
    let one = named_once (end shift) loads differ named.0 in
    let rest = all_ends end loads shifts differ named.1 in
    parts ∙ grind (arith, common_steps, turn, one, rest)

named_from : (loads : Loads) (shifts : List Shift) → AreAmong loads shifts → AreNamed (λ shift. shift.from) loads shifts
named_from loads [] among = tt
named_from loads (shift ∷ shifts) among = (among.0, named_from loads shifts among.2)

named_to : (loads : Loads) (shifts : List Shift) → AreAmong loads shifts → AreNamed (λ shift. shift.to) loads shifts
named_to loads [] among = tt
named_to loads (shift ∷ shifts) among = (among.1, named_to loads shifts among.2)

pub all_taken_is : (loads : Loads) (shifts : List Shift) → NamesDiffer loads → AreAmong loads shifts → all_taken loads shifts ≡ length shifts
all_taken_is loads shifts differ among = all_ends (λ shift. shift.to) loads shifts differ (named_to loads shifts among)

pub all_given_is : (loads : Loads) (shifts : List Shift) → NamesDiffer loads → AreAmong loads shifts → all_given loads shifts ≡ length shifts
all_given_is loads shifts differ among = all_ends (λ shift. shift.from) loads shifts differ (named_from loads shifts among)

leave_sums : (shifts : List Shift) (loads : Loads) (now : List ℕ) → Leave shifts loads now → total loads + all_taken loads shifts ≡ sum_of now + all_given loads shifts
leave_sums shifts [] [] leave = refl
leave_sums shifts [] (x ∷ now) leave = absurd leave
leave_sums shifts (server ∷ more) [] leave = absurd leave
leave_sums shifts (server ∷ more) (x ∷ now) leave = let rest = leave_sums shifts more now leave.1 in let here = leave.0 in omega (arith, rest, here)

-- shifts among the servers keep the sum
pub leave_keeps : (shifts : List Shift) (loads : Loads) (now : List ℕ) → NamesDiffer loads → AreAmong loads shifts → Leave shifts loads now → sum_of now ≡ total loads
leave_keeps shifts loads now differ among leave =
    let sums = leave_sums shifts loads now leave in
    let t = all_taken_is loads shifts differ among in
    let g = all_given_is loads shifts differ among in
    omega (arith, sums, t, g)

pub leave_length : (shifts : List Shift) (loads : Loads) (now : List ℕ) → Leave shifts loads now → length now ≡ length loads
leave_length shifts [] [] leave = refl
leave_length shifts [] (x ∷ now) leave = absurd leave
leave_length shifts (server ∷ more) [] leave = absurd leave
leave_length shifts (server ∷ more) (x ∷ now) leave = ap suc (leave_length shifts more now leave.1)

-- givers and takers
length-times : (n : ℕ) (name : Server) → length (times n name) ≡ n
length-times zero name = refl
length-times (suc n) name = ap suc (length-times n name)

pub length-givers : (shares : List Share) → length (givers shares) ≡ above shares
length-givers [] = refl
length-givers (share ∷ more) =
    let rest = length-givers more in
    let here = length-times (share.load - share.target) share.name in
    length-append (times (share.load - share.target) share.name) (givers more) ∙ omega (arith, rest, here)

abbrev pub below : List Share → ℕ
below shares = sum_over (λ share. share.target - share.load) shares

pub length-takers : (shares : List Share) → length (takers shares) ≡ below shares
length-takers [] = refl
length-takers (share ∷ more) =
    let rest = length-takers more in
    let here = length-times (share.target - share.load) share.name in
    length-append (times (share.target - share.load) share.name) (takers more) ∙ omega (arith, rest, here)

pub length-paired : (froms tos : List Server) → length froms ≡ length tos → length (paired froms tos) ≡ length froms
length-paired [] tos e = refl
length-paired (from ∷ froms) [] e = absurd (grind (arith, common_steps))
length-paired (from ∷ froms) (to ∷ tos) e = ap suc (length-paired froms tos (grind (arith, common_steps)))

-- how often a name is in a list
abbrev pub count_of : Server → List Server → ℕ
count_of name names = sum_over (λ x. one_if (same_name name x)) names

pub given-paired : (name : Server) (froms tos : List Server) → length froms ≡ length tos → given name (paired froms tos) ≡ count_of name froms
given-paired name [] tos e = refl
given-paired name (from ∷ froms) [] e = absurd (grind (arith, common_steps))
given-paired name (from ∷ froms) (to ∷ tos) e = ap (λ n. one_if (same_name name from) + n) (given-paired name froms tos (grind (arith, common_steps)))

pub taken-paired : (name : Server) (froms tos : List Server) → length froms ≡ length tos → taken name (paired froms tos) ≡ count_of name tos
taken-paired name [] [] e = refl
taken-paired name [] (to ∷ tos) e = absurd (grind (arith, common_steps))
taken-paired name (from ∷ froms) [] e = absurd (grind (arith, common_steps))
taken-paired name (from ∷ froms) (to ∷ tos) e = ap (λ n. one_if (same_name name to) + n) (taken-paired name froms tos (grind (arith, common_steps)))

-- a number where the names are the same
abbrev pub if_same : Bool → ℕ → ℕ
if_same true n = n
if_same false n = 0

count-times : (name x : Server) (n : ℕ) → count_of name (times n x) ≡ if_same (same_name name x) n
count-times name x n = by_test (same_name name x) refl n
  where
    by_test : (b : Bool) → same_name name x ≡ b → (n : ℕ) → count_of name (times n x) ≡ if_same b n
    by_test true e zero = refl
    by_test true e (suc n) = let rest = by_test true e n in let one : one_if (same_name name x) ≡ 1 = ap one_if e in omega (arith, rest, one)
    by_test false e zero = refl
    by_test false e (suc n) = let rest = by_test false e n in let none : one_if (same_name name x) ≡ 0 = ap one_if e in omega (arith, rest, none)

pub count-givers : (name : Server) (shares : List Share) → count_of name (givers shares) ≡ sum_over (λ share. if_same (same_name name share.name) (share.load - share.target)) shares
count-givers name [] = refl
count-givers name (share ∷ more) =
    sum_over-append (λ x. one_if (same_name name x)) (times (share.load - share.target) share.name) (givers more)
    ∙ (let here = count-times name share.name (share.load - share.target) in let rest = count-givers name more in omega (arith, here, rest))

pub count-takers : (name : Server) (shares : List Share) → count_of name (takers shares) ≡ sum_over (λ share. if_same (same_name name share.name) (share.target - share.load)) shares
count-takers name [] = refl
count-takers name (share ∷ more) =
    sum_over-append (λ x. one_if (same_name name x)) (times (share.target - share.load) share.name) (takers more)
    ∙ (let here = count-times name share.name (share.target - share.load) in let rest = count-takers name more in omega (arith, here, rest))
