-- The lowest of numbers that may be there.
use Rattle.std.proofs.Common.{◌≡◌, ℕ, zero, suc, ◌+◌, ◌<◌, ◌≤◌, Bool, true, false, List, [], ◌∷◌, Option, Some, None, slice_get, cond, refl, sym, ap, ◌∙◌, subst, inl, inr, ◌⊎◌, arith}
use Rattle.std.proofs.lemmas.Bool.{cases_lt, lt-ltb, le-ltb, false≢true}
use Rattle.std.proofs.lemmas.Bool.Decides.{nat_tests}
use Rattle.std.proofs.lemmas.Option.{same_Some, none-some}
use Rattle.hm_lists.specs.Chains.{IsIn, list_at}
use Rattle.hm_locks.specs.declared.entry.Want.{Want}
use Rattle.hm_locks.specs.Kept.{lane}
use Rattle.hm_locks.specs.Lowest.{lower, lowest_by, lowest_for, lowest_in, lowest_of}

pub lower_assoc : (a b c : Option ℕ) → lower (lower a b) c ≡ lower a (lower b c)
lower_assoc None b c = refl
lower_assoc (Some a) None c = refl
lower_assoc (Some a) (Some b) None = refl
lower_assoc (Some a) (Some b) (Some c) = grind (arith, nat_tests)

pub lower_none : (a : Option ℕ) → lower a None ≡ a
lower_none None = refl
lower_none (Some a) = refl

-- what is given is the lowest of those that are
abbrev pub IsLowest : (ℕ → Type 0) → Option ℕ → Type 0
IsLowest Has None = (q : ℕ) → Has q → ⊥
IsLowest Has (Some h) = Has h × ((q : ℕ) → Has q → h ≤ q)

pub lowest_same : (A B : ℕ → Type 0) → ((q : ℕ) → A q → B q) → ((q : ℕ) → B q → A q) → (o : Option ℕ) → IsLowest A o → IsLowest B o
lowest_same A B to from None is = λ q b. is q (from q b)
lowest_same A B to from (Some h) is = (to h is.0, λ q b. is.1 q (from q b))

-- one that may be there
pub lowest_one : (o : Option ℕ) → IsLowest (λ q. o ≡ Some q) o
lowest_one None = λ q e. none-some q e
lowest_one (Some h) = (refl, λ q e. let same = same_Some h q e in omega (arith, same))

pub lowest_both : (A B : ℕ → Type 0) (a b : Option ℕ) → IsLowest A a → IsLowest B b → IsLowest (λ q. A q ⊎ B q) (lower a b)
lowest_both A B None None never nor = λ q either. elim either [ inl x ↦ never q x | inr y ↦ nor q y ]
lowest_both A B None (Some b) never is = (inr is.0, λ q either. elim either [ inl x ↦ absurd (never q x) | inr y ↦ is.1 q y ])
lowest_both A B (Some a) None is never = (inl is.0, λ q either. elim either [ inl x ↦ is.1 q x | inr y ↦ absurd (never q y) ])
lowest_both A B (Some a) (Some b) one other = elim (cases_lt b a) [
  | inl lt ↦ subst (IsLowest (λ q. A q ⊎ B q)) (sym (ap (λ t. Some (cond t b a)) (lt-ltb b a lt)))
      (inr other.0, λ q either. elim either [ inl x ↦ (let l = one.1 q x in omega (arith, l, lt)) | inr y ↦ other.1 q y ])
  | inr le ↦ subst (IsLowest (λ q. A q ⊎ B q)) (sym (ap (λ t. Some (cond t b a)) (le-ltb b a le)))
      (inl one.0, λ q either. elim either [ inl x ↦ one.1 q x | inr y ↦ (let l = other.1 q y in omega (arith, l, le)) ])
]

-- the lowest of what the nodes of a list give
pub lowest_list : (gives : ℕ → Option ℕ) (ns : List ℕ) → IsLowest (λ q. (n : ℕ) × IsIn n ns × (gives n ≡ Some q)) (lowest_in gives ns)
lowest_list gives [] = λ q there. there.1
lowest_list gives (n ∷ ns) =
    lowest_same (λ q. (gives n ≡ Some q) ⊎ ((m : ℕ) × IsIn m ns × (gives m ≡ Some q))) (λ q. (m : ℕ) × IsIn m (n ∷ ns) × (gives m ≡ Some q))
    (λ q either. elim either [ inl here ↦ (n, inl refl, here) | inr there ↦ (there.0, inr there.1, there.2) ])
    (λ q there. elim there.1 [ inl same ↦ inl (ap gives (sym same) ∙ there.2) | inr more ↦ inr (there.0, more, there.2) ])
    (lower (gives n) (lowest_in gives ns))
    (lowest_both (λ q. gives n ≡ Some q) (λ q. (m : ℕ) × IsIn m ns × (gives m ≡ Some q)) (gives n) (lowest_in gives ns) (lowest_one (gives n)) (lowest_list gives ns))

-- a node of one of the two lists of a resource gives it: of those who hold it exclusively, or where one wants it so of the others
abbrev pub Gives : (ℕ → Option ℕ) → List (List ℕ) → ℕ → Bool → ℕ → Type 0
Gives gives lists desk exclusive q = (x : Bool) × ((exclusive ≡ true) ⊎ (x ≡ true)) × ((n : ℕ) × IsIn n (list_at lists (lane desk x)) × (gives n ≡ Some q))

exclusively : (x : Bool) → (false ≡ true) ⊎ (x ≡ true) → x ≡ true
exclusively x (inl e) = absurd (false≢true e)
exclusively x (inr e) = e

lowest_desk : (gives : ℕ → Option ℕ) (lists : List (List ℕ)) (desk : ℕ) (exclusive : Bool) → IsLowest (Gives gives lists desk exclusive) (lowest_by exclusive gives lists desk)
lowest_desk gives lists desk false =
    lowest_same (λ q. (n : ℕ) × IsIn n (list_at lists (lane desk true)) × (gives n ≡ Some q)) (Gives gives lists desk false)
    (λ q there. (true, inr refl, there))
    (λ q there. subst (λ x. (n : ℕ) × IsIn n (list_at lists (lane desk x)) × (gives n ≡ Some q)) (exclusively there.0 there.1) there.2)
    (lowest_in gives (list_at lists (lane desk true))) (lowest_list gives (list_at lists (lane desk true)))
lowest_desk gives lists desk true =
    lowest_same (λ q. ((n : ℕ) × IsIn n (list_at lists (lane desk true)) × (gives n ≡ Some q)) ⊎ ((n : ℕ) × IsIn n (list_at lists (lane desk false)) × (gives n ≡ Some q))) (Gives gives lists desk true)
    (λ q either. elim either [ inl a ↦ (true, inl refl, a) | inr b ↦ (false, inl refl, b) ])
    (λ q there. by q there.0 there.2)
    (lower (lowest_in gives (list_at lists (lane desk true))) (lowest_in gives (list_at lists (lane desk false))))
    (lowest_both (λ q. (n : ℕ) × IsIn n (list_at lists (lane desk true)) × (gives n ≡ Some q)) (λ q. (n : ℕ) × IsIn n (list_at lists (lane desk false)) × (gives n ≡ Some q))
    (lowest_in gives (list_at lists (lane desk true))) (lowest_in gives (list_at lists (lane desk false)))
    (lowest_list gives (list_at lists (lane desk true))) (lowest_list gives (list_at lists (lane desk false))))
  where
    by : (q : ℕ) (x : Bool) → (n : ℕ) × IsIn n (list_at lists (lane desk x)) × (gives n ≡ Some q)
        → ((n : ℕ) × IsIn n (list_at lists (lane desk true)) × (gives n ≡ Some q)) ⊎ ((n : ℕ) × IsIn n (list_at lists (lane desk false)) × (gives n ≡ Some q))
    by q true there = inl there
    by q false there = inr there

abbrev pub GivesFor : (ℕ → Option ℕ) → List (List ℕ) → Option Want → ℕ → Type 0
GivesFor gives lists None q = ⊥
GivesFor gives lists (Some want) q = Gives gives lists want.desk want.exclusive q

lowest_want : (gives : ℕ → Option ℕ) (lists : List (List ℕ)) (o : Option Want) → IsLowest (GivesFor gives lists o) (lowest_for gives lists o)
lowest_want gives lists None = λ q there. there
lowest_want gives lists (Some want) = lowest_desk gives lists want.desk want.exclusive

-- one of so many wants from one on gives it
abbrev pub GivesOf : (ℕ → Option ℕ) → List (List ℕ) → List Want → ℕ → ℕ → ℕ → Type 0
GivesOf gives lists wants first count q = (k : ℕ) × (k < count) × GivesFor gives lists (slice_get wants (first + k)) q

pub lowest_wants : (gives : ℕ → Option ℕ) (lists : List (List ℕ)) (wants : List Want) (first count : ℕ) → IsLowest (GivesOf gives lists wants first count) (lowest_of gives lists wants first count)
lowest_wants gives lists wants first zero = λ q there. absurd (let lt = there.1 in omega (arith, lt))
lowest_wants gives lists wants first (suc count) =
    lowest_same (λ q. GivesOf gives lists wants first count q ⊎ GivesFor gives lists (slice_get wants (first + count)) q) (GivesOf gives lists wants first (suc count))
    (λ q either. elim either [ inl before ↦ (before.0, (let lt = before.1 in omega (arith, lt)), before.2) | inr here ↦ (count, omega arith, here) ])
    (λ q there. elim (cases_lt there.0 count) [
      | inl lt ↦ inl (there.0, lt, there.2)
      | inr ge ↦ inr (
          let same : there.0 ≡ count = (let lt = there.1 in omega (arith, lt, ge)) in
          subst (λ k. GivesFor gives lists (slice_get wants (first + k)) q) same there.2)
    ])
    (lower (lowest_of gives lists wants first count) (lowest_for gives lists (slice_get wants (first + count))))
    (lowest_both (GivesOf gives lists wants first count) (GivesFor gives lists (slice_get wants (first + count))) (lowest_of gives lists wants first count)
    (lowest_for gives lists (slice_get wants (first + count))) (lowest_wants gives lists wants first count) (lowest_want gives lists (slice_get wants (first + count))))
