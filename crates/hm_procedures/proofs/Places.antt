-- Lists after a write at one place and after new items, and numbers by place.
use Rattle.std.proofs.Common.{◌≡◌, ◌≢◌, ℕ, zero, suc, ◌+◌, ◌-◌, ◌<◌, ◌≤◌, List, [], ◌∷◌, ◌++◌, Bool, true, false, Option, Some, None, cond, eqb, set, length, map, take, drop, slice_get, refl, ap, sym, ◌∙◌, inl, inr, arith, length-append}
use Rattle.std.specs.Option.{option_map}
use Rattle.std.proofs.lemmas.Bool.{cases_eq, cond-false, cond-true, eq-eqb, ne_eqb}
use Rattle.std.proofs.lemmas.Bool.Decides.{nat_tests}
use Rattle.std.proofs.lemmas.Option.{none-some, same_Some, slice_get_within}
use Rattle.std.proofs.lemmas.List.{append_assoc, take_at}
use Rattle.hm_names.specs.declared.pid.Pid.{Pid}
use Rattle.hm_data.specs.declared.args.Args.{Args}
use Rattle.hm_procedures.specs.Changes.{added, fresh}
use Rattle.hm_procedures.specs.declared.kept.Tracked.{Tracked}

pub slice_get-set : {X : Type 0} (xs : List X) (i : ℕ) (y : X) (k : ℕ) → i < length xs → slice_get (set xs i y) k ≡ cond (eqb k i) (Some y) (slice_get xs k)
slice_get-set [] i y k lt = absurd (omega arith)
slice_get-set (x ∷ xs) zero y zero lt = refl
slice_get-set (x ∷ xs) zero y (suc k) lt = grind (arith, nat_tests)
slice_get-set (x ∷ xs) (suc i) y zero lt = grind (arith, nat_tests)
slice_get-set (x ∷ xs) (suc i) y (suc k) lt = grind (arith, nat_tests, slice_get-set xs i y k (omega arith))

-- a change of one item, told of each place
pub changed : {X : Type 0} (xs : List X) (place : ℕ) (one : X) (f : Bool → X → X) (mine : ℕ → Bool)
    → slice_get xs place ≡ Some one → mine place ≡ true → ((p : ℕ) → p ≢ place → mine p ≡ false) → ((x : X) → f false x ≡ x)
    → (p : ℕ) → slice_get (set xs place (f true one)) p ≡ option_map (f (mine p)) (slice_get xs p)
changed {X = X} xs place one f mine here own other still p =
    slice_get-set xs place (f true one) p (slice_get_within xs place one here) ∙ elim (cases_eq p place) [
      | inl same ↦
          cond-true (eqb p place) (Some (f true one)) (slice_get xs p) (eq-eqb p place same)
          ∙ sym (ap (option_map (f (mine p))) (ap (slice_get xs) same ∙ here) ∙ ap (λ b. Some (f b one)) (ap mine same ∙ own))
      | inr far ↦ cond-false (eqb p place) (Some (f true one)) (slice_get xs p) (ne_eqb p place far) ∙ by (slice_get xs p) (other p far)
    ]
  where
    by : (o : Option X) → mine p ≡ false → o ≡ option_map (f (mine p)) o
    by None e = refl
    by (Some x) e = sym (ap (λ b. Some (f b x)) e ∙ ap Some (still x))

pub slice_get-low : {X : Type 0} (xs ys : List X) (k : ℕ) → k < length xs → slice_get (xs ++ ys) k ≡ slice_get xs k
slice_get-low [] ys k lt = absurd (omega (arith, lt))
slice_get-low (x ∷ xs) ys zero lt = refl
slice_get-low (x ∷ xs) ys (suc k) lt = slice_get-low xs ys k (omega (arith, lt))

pub slice_get-high : {X : Type 0} (xs ys : List X) (k : ℕ) → length xs ≤ k → slice_get (xs ++ ys) k ≡ slice_get ys (k - length xs)
slice_get-high [] ys k le = let e : k ≡ k - 0 = omega arith in ap (slice_get ys) e
slice_get-high (x ∷ xs) ys zero le = absurd (omega (arith, le))
slice_get-high (x ∷ xs) ys (suc k) le = let e : k - length xs ≡ suc k - suc (length xs) = omega arith in slice_get-high xs ys k (omega (arith, le)) ∙ ap (slice_get ys) e

pub length-added : (n : ℕ) (up : Option (Pid × Pid)) (edition : ℕ) (made : List Args) → length (added n up edition made) ≡ length made
length-added n up edition [] = refl
length-added n up edition (args ∷ more) = ap suc (length-added (n + 1) up edition more)

pub slice_get-added : (n : ℕ) (up : Option (Pid × Pid)) (edition : ℕ) (made : List Args) (i : ℕ) → slice_get (added n up edition made) i ≡ option_map (fresh (n + i + 1) up edition) (slice_get made i)
slice_get-added n up edition [] i = refl
slice_get-added n up edition (args ∷ more) zero = let e : n + 1 ≡ n + 0 + 1 = omega arith in ap (λ k. Some (fresh k up edition args)) e
slice_get-added n up edition (args ∷ more) (suc i) = let e : n + 1 + i + 1 ≡ n + suc i + 1 = omega arith in slice_get-added (n + 1) up edition more i ∙ ap (λ k. option_map (fresh k up edition) (slice_get more i)) e

-- one more after others
added_snoc : (n : ℕ) (up : Option (Pid × Pid)) (edition : ℕ) (ys : List Args) (args : Args) → added n up edition (ys ++ args ∷ []) ≡ added n up edition ys ++ added (n + length ys) up edition (args ∷ [])
added_snoc n up edition [] args = let e : n + 1 ≡ n + 0 + 1 = omega arith in ap (λ k. fresh k up edition args ∷ []) e
added_snoc n up edition (y ∷ ys) args =
    let e : n + 1 + length ys ≡ n + suc (length ys) = omega arith in
    ap (λ l. fresh (n + 1) up edition y ∷ l) (added_snoc (n + 1) up edition ys args ∙ ap (λ k. added (n + 1) up edition ys ++ added k up edition (args ∷ [])) e)

-- so many are kept after new ones
pub long_now : (low : ℕ) (old : List Tracked) (up : Option (Pid × Pid)) (edition : ℕ) (ys : List Args) (now : List Tracked) → now ≡ old ++ added (low + length old) up edition ys → low + length now ≡ low + length old + length ys
long_now low old up edition ys now is =
    let a = ap length is ∙ length-append old (added (low + length old) up edition ys) in
    let b = length-added (low + length old) up edition ys in
    omega (arith, a, b)

pub added_next : (low : ℕ) (old : List Tracked) (up : Option (Pid × Pid)) (edition : ℕ) (ys : List Args) (args : Args) (now : List Tracked) → now ≡ old ++ added (low + length old) up edition ys
    → now ++ added (low + length now) up edition (args ∷ []) ≡ old ++ added (low + length old) up edition (ys ++ args ∷ [])
added_next low old up edition ys args now is =
    let n : ℕ = low + length old in
    ap (λ l. l ++ added (low + length now) up edition (args ∷ [])) is
    ∙ append_assoc old (added n up edition ys) (added (low + length now) up edition (args ∷ []))
    ∙ ap (λ k. old ++ (added n up edition ys ++ added k up edition (args ∷ []))) (long_now low old up edition ys now is)
    ∙ ap (λ l. old ++ l) (sym (added_snoc n up edition ys args))

-- and so their roots
pub roots_next : (roots : List Pid) (f : Tracked → Pid) (n : ℕ) (up : Option (Pid × Pid)) (edition : ℕ) (ys : List Args) (args : Args) (m : ℕ) (now : List Pid) → m ≡ n + length ys → now ≡ roots ++ map f (added n up edition ys)
    → now ++ map f (added m up edition (args ∷ [])) ≡ roots ++ map f (added n up edition (ys ++ args ∷ []))
roots_next roots f n up edition ys args m now long is =
    ap (λ l. l ++ map f (added m up edition (args ∷ []))) is
    ∙ append_assoc roots (map f (added n up edition ys)) (map f (added m up edition (args ∷ [])))
    ∙ ap (λ k. roots ++ (map f (added n up edition ys) ++ map f (added k up edition (args ∷ [])))) long
    ∙ ap (λ l. roots ++ l) (sym (map-append f (added n up edition ys) (added (n + length ys) up edition (args ∷ []))) ∙ ap (map f) (sym (added_snoc n up edition ys args)))
  where
    map-append : {A B : Type 0} (g : A → B) (xs zs : List A) → map g (xs ++ zs) ≡ map g xs ++ map g zs
    map-append g [] zs = refl
    map-append g (x ∷ xs) zs = ap (λ l. g x ∷ l) (map-append g xs zs)

-- a slice that was written back
pub written : {X : Type 0} (items new : List X) (len : ℕ) → length new ≡ length items → len ≡ length items → take len (new ++ drop (length new) items) ≡ new
written items new len same long = take_at new (drop (length new) items) len (same ∙ sym long)

-- what a change of an item came from
pub from_map : {X Y : Type 0} (f : X → Y) (o : Option X) (y : Y) → option_map f o ≡ Some y → (x : X) × (o ≡ Some x) × (f x ≡ y)
from_map f None y is = absurd (none-some y is)
from_map f (Some x) y is = (x, refl, same_Some (f x) y is)

pub three_maps : {X : Type 0} (f g h : X → X) (o : Option X) → option_map h (option_map g (option_map f o)) ≡ option_map (λ k. h (g (f k))) o
three_maps f g h None = refl
three_maps f g h (Some x) = refl

pub pid_is : (a b : Pid) → a.0 ≡ b.0 → a ≡ b
pid_is a b e = ap (λ (n : ℕ). record { 0 = n }) e
