-- Whether an answer is fresh.
use Rattle.std.proofs.Common.{◌≡◌, ◌≢◌, ◌↔◌, ℕ, List, Bool, true, false, IsTrue, Option, None, Some, if◌then◌else◌, inl, inr, refl, ap, sym, subst, ◌∙◌}
use Rattle.std.proofs.lemmas.Bool.{true≢false}
use Rattle.hm_data.specs.declared.step.StepIn.{StepIn}
use Rattle.hm_hall.specs.Recording.{Recording, halt_of, past_in}
use Rattle.hm_hall.specs.declared.taken.Taken.{Taken}
use Rattle.hm_judge.specs.Inputs.{IsInput}
use Rattle.hm_model.specs.Inputs.{input}
use Rattle.hm_model.specs.Journal.{Past}
use Rattle.hm_model.specs.Picks.{PicksRight}
use Rattle.hm_model.specs.Tree.{Node, node_of}
use Rattle.hm_model.specs.Claims.{Unclaims}
use Rattle.hm_exec.specs.Claiming.{GivesUp, IsFresh, IsNow, SeesNow}

-- it is there
there : (J : Past) (p : ℕ) → node_of J p ≢ None → (x : Node) × (node_of J p ≡ Some x)
there J p known = by (node_of J p) refl
  where
    by : (o : Option Node) → node_of J p ≡ o → (x : Node) × (node_of J p ≡ Some x)
    by None is = absurd (known is)
    by (Some x) is = (x, is)

module _ (J : Past) (taken : Taken) (now : StepIn) (right : Bool) (picks : IsTrue right ↔ PicksRight J taken.pid.0 taken.was.pick) (sees : IsInput J taken.pid.0 (if right then taken.was.pick else None) now) where
  -- where its pick is right and the input is the same, it is fresh
  pub is_fresh : right ≡ true → now ≡ taken.was → IsFresh J taken
  is_fresh sure same =
      let was = picks.0 sure in
      (was, (was.0, was.1, sym same ∙ sees was.0 was.1 ∙ ap (λ (b : Bool). input J taken.pid.0 was.0 (if b then taken.was.pick else None)) sure))

  -- where it is fresh, its pick is right and the input is the same
  pub fresh_is : IsFresh J taken → (right ≡ true) × (now ≡ taken.was)
  fresh_is fresh =
      let sure : right ≡ true = picks.1 fresh.0 in
      (sure, sees fresh.1.0 fresh.1.1 ∙ ap (λ (b : Bool). input J taken.pid.0 fresh.1.0 (if b then taken.was.pick else None)) sure ∙ sym fresh.1.2)

  -- what the input is now
  pub is_now : node_of J taken.pid.0 ≢ None → IsNow J taken now
  is_now known = by right refl
    where
      at : (b : Bool) → right ≡ b → SeesNow J taken.pid.0 (if b then taken.was.pick else None) now
      at b is =
          let x = there J taken.pid.0 known in
          (x.0, x.1, sees x.0 x.1 ∙ ap (λ (c : Bool). input J taken.pid.0 x.0 (if c then taken.was.pick else None)) is)

      by : (b : Bool) → right ≡ b → IsNow J taken now
      by true is = inl (picks.0 is, at true is)
      by false is = inr (λ told. absurd (true≢false (sym (picks.1 told) ∙ is)), at false is)

-- a claim that is given up
pub gives_up : (kept : Recording) (past : Past) (claims after : List ℕ) (taken : Taken) (now : StepIn) → halt_of kept ≡ None → past_in kept ≡ past → (IsFresh past taken → ⊥) × IsNow past taken now
    → Unclaims taken.pid.0 claims after → GivesUp (record { kept = kept; claimed = claims }) taken now (record { kept = kept; claimed = after })
gives_up kept past claims after taken now going same told less =
    let here = subst (λ (J : Past). (IsFresh J taken → ⊥) × IsNow J taken now) (sym same) told in
    (going, here.0, here.1, refl, less)
