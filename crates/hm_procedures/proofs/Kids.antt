-- Going over the children of a procedure.
use Rattle.std.proofs.Common.{◌≡◌, ℕ, zero, suc, ◌+◌, ◌-◌, ◌<◌, ◌≤◌, [], ◌∷◌, ◌++◌, List, true, false, if◌then◌else◌, Option, Some, None, ap, sym, ◌∙◌, append-nil, inl, inr, arith}
use Rattle.std.proofs.lemmas.Bool.{cases_lt}
use Rattle.hm_names.specs.declared.pid.Pid.{Pid}
use Rattle.hm_model.specs.Journal.{Past}
use Rattle.hm_model.specs.Phase.{child_in}
use Rattle.hm_model.specs.Rules.{IsLegal}
use Rattle.hm_model.specs.Tree.{made, node_of, pid_of}
use Rattle.hm_model.proofs.Grown.{grown_all}
use Rattle.hm_procedures.specs.Procedures.{IsNextChild, children_below}
use Rattle.hm_procedures.proofs.Firsts.{child_within}

-- where one is, and after all at the end
abbrev pub bound : Past → Option Pid → ℕ
bound J None = made J + 1
bound J (Some at) = at.0

-- how far it is to the end
abbrev pub left : Past → Option Pid → ℕ
left J None = 0
left J (Some at) = made J + 1 - at.0

-- where one is, there is a child
abbrev pub IsChild : Past → ℕ → Option Pid → Type 0
IsChild J p None = Unit {0}
IsChild J p (Some at) = child_in p (node_of J at.0) ≡ true

module _ (J : Past) (legal : IsLegal J) (p : ℕ) where
  -- numbers that are no children add none
  skip : (low n : ℕ) → low ≤ n → ((q : ℕ) → low ≤ q → q < n → child_in p (node_of J q) ≡ false) → children_below J p n ≡ children_below J p low
  skip low zero le none = let e : low ≡ zero = omega (arith, le) in ap (children_below J p) (sym e)
  skip low (suc n) le none = elim (cases_lt n low) [
    | inl lt ↦ (let e : suc n ≡ low = omega (arith, le, lt) in ap (children_below J p) e)
    | inr more ↦
        ap (λ b. children_below J p n ++ (if b then pid_of n ∷ [] else [])) (none n more (omega arith))
        ∙ append-nil (children_below J p n)
        ∙ skip low n more (λ q a b. none q a (omega (arith, b)))
  ]

  passes : (low : ℕ) (next : Option Pid) → low ≤ made J → IsNextChild J p low next → children_below J p (bound J next) ≡ children_below J p (suc low)
  passes low None le none = skip (suc low) (made J + 1) (omega (arith, le)) (λ q a b. none q (omega (arith, a)))
  passes low (Some next) le is = let lt = is.0 in skip (suc low) next.0 (omega (arith, lt)) (λ q a b. is.2 q (omega (arith, a)) b)

  -- before the first child there is none
  pub begins : (at : Option Pid) → IsNextChild J p 0 at → children_below J p (bound J at) ≡ []
  begins at is = passes 0 at (omega arith) is ∙ ap (λ o. if child_in p o then pid_of 0 ∷ [] else []) (grown_all J legal).none

  pub next_child : (low : ℕ) (at : Option Pid) → IsNextChild J p low at → IsChild J p at
  next_child low None is = tt
  next_child low (Some at) is = is.1

  -- one further
  pub further : (at : Pid) (next : Option Pid) (was new : List Pid) → IsChild J p (Some at) → IsNextChild J p at.0 next → was ≡ children_below J p at.0 → new ≡ was ++ at ∷ [] → new ≡ children_below J p (bound J next)
  further at next was new child is same more =
      more ∙ ap (λ l. l ++ at ∷ []) same
      ∙ sym (passes at.0 next (child_within J legal p at.0 child).1 is ∙ ap (λ b. children_below J p at.0 ++ (if b then pid_of at.0 ∷ [] else [])) child)

  pub smaller : (at : Pid) (next : Option Pid) → IsChild J p (Some at) → IsNextChild J p at.0 next → left J next < left J (Some at)
  smaller at None child is = let most = (child_within J legal p at.0 child).1 in omega (arith, most)
  smaller at (Some next) child is = let most = (child_within J legal p at.0 child).1 in let over = is.0 in omega (arith, most, over)
