-- Who is claimed, and can go on, where claims come and go.
use Rattle.std.proofs.Common.{◌≡◌, ◌⊎◌, ℕ, List, Err, None, Ok, Some, refl, inl, inr, ap, sym, subst, ◌∙◌}
use Rattle.hm_names.specs.declared.pid.Pid.{Pid}
use Rattle.hm_hall.specs.Recording.{Recording, halt_of, past_in}
use Rattle.hm_hall.specs.declared.fault.HallFault.TheVariants as fault_is
use Rattle.hm_hall.specs.declared.taken.Taken.{Taken}
use Rattle.hm_model.specs.Journal.{Past}
use Rattle.hm_model.specs.Locks.{IsIn}
use Rattle.hm_model.specs.Rest.{IsAvailable, MayStepPicked, MayUndo}
use Rattle.hm_model.specs.Claims.{IsClaimedToo, Unclaims}
use Rattle.hm_roster.specs.Roster.{Follows, claims_on}
use Rattle.hm_roster.specs.declared.desk.Desk.{Desk}
use Rattle.hm_tied.specs.Tied.{CanGo}
use Rattle.hm_exec.specs.Claiming.{AnswersClaim, IsHandedOut}
use Rattle.hm_exec.specs.View.{IsExec}

-- who is available can go on
pub goes : (J : Past) (p : ℕ) → MayStepPicked J p ⊎ MayUndo J p → CanGo J p
goes J p (inl may) = inl (may.0, may.1, may.2)
goes J p (inr may) = inr may

module _ (kept : Recording) (past : Past) (desk new : Desk) (was : IsExec kept past desk) (follows : Follows past new) where
  -- the claims are the same
  pub claims_same : claims_on new ≡ claims_on desk → IsExec kept past new
  claims_same same = record { same = was.same; follows = follows; able = λ q is. was.able q (subst (IsIn q) same is) }

  -- one that can go on is claimed too
  pub claims_more : (claims : List ℕ) (p : ℕ) → claims ≡ claims_on desk → CanGo past p → IsClaimedToo p claims (claims_on new) → IsExec kept past new
  claims_more claims p same go more = record {
    same = was.same;
    follows = follows;
    able = λ q is. elim ((more q).0 is) [ inl one ↦ subst (CanGo past) (sym one) go | inr old ↦ was.able q (subst (IsIn q) same old) ];
  }

  -- a claim ends
  pub claims_less : (p : ℕ) → Unclaims p (claims_on desk) (claims_on new) → IsExec kept past new
  claims_less p less = record { same = was.same; follows = follows; able = λ q is. was.able q ((less q).0 is).0 }

module _ (kept : Recording) (past J : Past) (claims : List ℕ) (going : halt_of kept ≡ None) (same : past_in kept ≡ past) (is_past : J ≡ past) where
  here : J ≡ past_in kept
  here = is_past ∙ sym same

  -- nobody is available where nobody was given
  pub none_left : (new : List ℕ) → new ≡ claims → ((q : ℕ) → IsAvailable J claims claims q → ⊥) → AnswersClaim (record { kept = kept; claimed = claims }) (Ok None) (record { kept = kept; claimed = new })
  none_left new is none = (
    going,
    λ q free. none q (subst (λ (l : Past). IsAvailable l claims claims q) (sym here) free),
    ap (λ c. record { kept = kept; claimed = c }) is,
  )

  -- where memory runs out, whoever was given is available
  pub let_go : (new : List ℕ) (q : ℕ) → new ≡ claims → IsAvailable J claims claims q → AnswersClaim (record { kept = kept; claimed = claims }) (Err fault_is.Memory) (record { kept = kept; claimed = new })
  let_go new q is free = (
    going,
    (q, subst (λ (l : Past). IsAvailable l claims claims q) here free),
    ap (λ c. record { kept = kept; claimed = c }) is,
  )

  -- whoever was given is claimed
  pub one_more : (given new : List ℕ) (pid : Pid) (taken : Taken) → given ≡ claims → taken.pid ≡ pid → IsAvailable J claims claims pid.0 → IsHandedOut past taken → IsClaimedToo pid.0 given new
      → AnswersClaim (record { kept = kept; claimed = claims }) (Ok (Some taken)) (record { kept = kept; claimed = new })
  one_more given new pid taken now one free handed more = (
    going,
    subst (λ (p : Pid). IsAvailable (past_in kept) claims claims p.0) (sym one) (subst (λ (l : Past). IsAvailable l claims claims pid.0) here free),
    subst (λ (l : Past). IsHandedOut l taken) (sym same) handed,
    refl,
    subst (λ (p : Pid). IsClaimedToo p.0 claims new) (sym one) (subst (λ c. IsClaimedToo pid.0 c new) now more),
  )
