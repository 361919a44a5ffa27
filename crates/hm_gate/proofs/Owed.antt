-- What a seat owes after it left.
use Rattle.std.proofs.Common.{◌≡◌, ◌≢◌, ℕ, zero, suc, ◌+◌, ◌≤◌, List, [], ◌∷◌, ◌++◌, sym, refl, ap, ◌∙◌, ⊎_elim, arith}
use mathlib.Core.Logic.{dite}
use native.Mathlib.Decide.{ℕ_discrete}
use Rattle.hm_gate.specs.Total.{same, times, either, among, beyond}
use Rattle.hm_gate.proofs.Totals.{same-cases, times-append}

pick-yes : {A : Type 0} (k : ℕ) (a b : A) → k ≢ 0 → either k a b ≡ a
pick-yes zero a b h = absurd (h refl)
pick-yes (suc k) a b h = refl

pick-no : {A : Type 0} (k : ℕ) (a b : A) → k ≡ 0 → either k a b ≡ b
pick-no k a b h = ap (λ (n : ℕ). either n a b) h

-- two numbers of which one stands in the list and the other doesn't
apart : (n x : ℕ) (ys : List ℕ) → times n ys ≢ 0 → times x ys ≡ 0 → same n x ≡ 0
apart n x ys h z = ⊎_elim (λ e. absurd (h (ap (λ (k : ℕ). times k ys) e.0 ∙ z))) (λ e. e.1) (same-cases n x)

among-in : (n : ℕ) (ys xs : List ℕ) → times n ys ≢ 0 → times n (among ys xs) ≡ times n xs
among-in n ys [] h = refl
among-in n ys (x ∷ xs) h = let r = among-in n ys xs h in dite (ℕ_discrete (times x ys) 0)
    (λ z. let a = apart n x ys h z in let p : times n (among ys (x ∷ xs)) ≡ times n (among ys xs) = ap (times n) (pick-no (times x ys) (x ∷ among ys xs) (among ys xs) z) in omega arith)
    (λ nz. let p : times n (among ys (x ∷ xs)) ≡ times n (x ∷ among ys xs) = ap (times n) (pick-yes (times x ys) (x ∷ among ys xs) (among ys xs) nz) in omega arith)

among-out : (n : ℕ) (ys xs : List ℕ) → times n ys ≡ 0 → times n (among ys xs) ≡ 0
among-out n ys [] h = refl
among-out n ys (x ∷ xs) h = let r = among-out n ys xs h in dite (ℕ_discrete (times x ys) 0)
    (λ z. ap (times n) (pick-no (times x ys) (x ∷ among ys xs) (among ys xs) z) ∙ r)
    (λ nz. let p : times n (among ys (x ∷ xs)) ≡ times n (x ∷ among ys xs) = ap (times n) (pick-yes (times x ys) (x ∷ among ys xs) (among ys xs) nz) in
    let a : same n x ≡ 0 = ⊎_elim (λ e. absurd (nz (ap (λ (k : ℕ). times k ys) (sym e.0) ∙ h))) (λ e. e.1) (same-cases n x) in omega arith)

beyond-in : (n : ℕ) (ys xs : List ℕ) → times n ys ≢ 0 → times n (beyond ys xs) ≡ 0
beyond-in n ys [] h = refl
beyond-in n ys (x ∷ xs) h = let r = beyond-in n ys xs h in dite (ℕ_discrete (times x ys) 0)
    (λ z. let a = apart n x ys h z in let p : times n (beyond ys (x ∷ xs)) ≡ times n (x ∷ beyond ys xs) = ap (times n) (pick-no (times x ys) (beyond ys xs) (x ∷ beyond ys xs) z) in omega arith)
    (λ nz. ap (times n) (pick-yes (times x ys) (beyond ys xs) (x ∷ beyond ys xs) nz) ∙ r)

beyond-out : (n : ℕ) (ys xs : List ℕ) → times n ys ≡ 0 → times n (beyond ys xs) ≡ times n xs
beyond-out n ys [] h = refl
beyond-out n ys (x ∷ xs) h = let r = beyond-out n ys xs h in dite (ℕ_discrete (times x ys) 0)
    (λ z. let p : times n (beyond ys (x ∷ xs)) ≡ times n (x ∷ beyond ys xs) = ap (times n) (pick-no (times x ys) (beyond ys xs) (x ∷ beyond ys xs) z) in omega arith)
    (λ nz. let p : times n (beyond ys (x ∷ xs)) ≡ times n (beyond ys xs) = ap (times n) (pick-yes (times x ys) (beyond ys xs) (x ∷ beyond ys xs) nz) in
    let a : same n x ≡ 0 = ⊎_elim (λ e. absurd (nz (ap (λ (k : ℕ). times k ys) (sym e.0) ∙ h))) (λ e. e.1) (same-cases n x) in omega arith)

-- what a seat owes after it left: the outs that came less those that went
pub owes-after : (n : ℕ) (owes noted outs : List ℕ) → times n noted ≤ 1 → times n outs ≤ 1 → times n owes ≤ times n noted → (times n noted ≡ 1 → times n outs ≡ 0 → times n owes ≡ 1)
    → times n (among outs owes ++ beyond noted outs) + times n noted ≡ times n owes + times n outs
owes-after n owes noted outs most most' le gone = let cut = times-append n (among outs owes) (beyond noted outs) in
    dite (ℕ_discrete (times n outs) 0)
    (λ z. let a = among-out n outs owes z in dite (ℕ_discrete (times n noted) 0)
    (λ w. let b = beyond-out n noted outs w in omega arith)
    (λ w. let b = beyond-in n noted outs w in let one : times n noted ≡ 1 = omega arith in let g = gone one z in omega arith))
    (λ z. let a = among-in n outs owes z in dite (ℕ_discrete (times n noted) 0)
    (λ w. let b = beyond-out n noted outs w in omega arith)
    (λ w. let b = beyond-in n noted outs w in omega arith))

-- of a number that all seats together owe as often as it was noted, and one of them leaves others
pub owed-after : (n all all' : ℕ) (owes noted outs : List ℕ) → all ≡ times n noted → times n noted ≤ 1 → times n outs ≤ 1 → times n owes ≤ all → (times n noted ≡ 1 → times n outs ≡ 0 → times n owes ≡ 1)
    → all' + times n owes ≡ all + times n (among outs owes ++ beyond noted outs) → all' ≡ times n outs
owed-after n all all' owes noted outs is most most' le gone sum =
    let after = owes-after n owes noted outs most most' (omega (arith, is, le)) gone in omega (arith, is, sum, after)

pub same-self : (n : ℕ) → same n n ≡ 1
same-self zero = refl
same-self (suc n) = same-self n

-- a list in which no number stands
pub nothing-owed : (xs : List ℕ) → ((n : ℕ) → times n xs ≡ 0) → xs ≡ []
nothing-owed [] h = refl
nothing-owed (x ∷ xs) h = absurd (let a = h x in let b = same-self x in omega arith)
