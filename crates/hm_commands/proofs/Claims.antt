-- Who is claimed, and what it takes to be at rest.
use Rattle.std.proofs.Common.{◌≡◌, ◌↔◌, ℕ, List, [], ◌∷◌, Err, inl, inr, refl, sym, ◌∙◌, subst}
use Rattle.std.proofs.lemmas.Option.{none-some}
use Rattle.hm_exec.specs.Claiming.{AnswersClaim}
use Rattle.hm_exec.specs.Moment.{IsGoing, Moment, past_of}
use Rattle.hm_hall.specs.declared.fault.HallFault.{HallFault}
use Rattle.hm_hall.specs.declared.fault.HallFault.TheVariants as fault_is
use Rattle.hm_model.specs.Journal.{Past}
use Rattle.hm_model.specs.Locks.{IsIn}
use Rattle.hm_model.specs.Rest.{IsAtRest, IsAvailable}
use Rattle.hm_model.specs.Claims.{IsClaimedToo, Unclaims}

-- where nobody was claimed, one alone is
pub one_claimed : (p : ℕ) (old new : List ℕ) → old ≡ [] → IsClaimedToo p old new → (q : ℕ) → IsIn q new ↔ (q ≡ p)
one_claimed p old new none too q = (
  λ among. elim ((too q).0 among) [ inl same ↦ same | inr was ↦ absurd (subst (IsIn q) none was) ],
  λ same. (too q).1 (inl same),
)

nobody : (claimed : List ℕ) → ((q : ℕ) → IsIn q claimed → ⊥) → claimed ≡ []
nobody [] none = refl
nobody (q ∷ claimed) none = absurd (none q (inl refl))

-- where one alone was claimed, nobody is behind its claim
pub none_claimed : (p : ℕ) (old new : List ℕ) → ((q : ℕ) → IsIn q old ↔ (q ≡ p)) → Unclaims p old new → new ≡ []
none_claimed p old new only ends = nobody new (λ q among. let was = (ends q).0 among in was.1 ((only q).0 was.0))

-- where nobody is claimed and none is available, it is at rest
pub at_rest : (J : Past) (claimed : List ℕ) → claimed ≡ [] → ((q : ℕ) → IsAvailable J claimed claimed q → ⊥) → IsAtRest J
at_rest J claimed none all = subst (λ (c : List ℕ). (q : ℕ) → IsAvailable J c c q → ⊥) none all

-- where one is available it isn't
pub restless : (J : Past) (claimed : List ℕ) → claimed ≡ [] → (q : ℕ) → IsAvailable J claimed claimed q → IsAtRest J → ⊥
restless J claimed none q available rests = rests q (subst (λ (c : List ℕ). IsAvailable J c c q) none available)

-- nor is it where memory ran out in a claim
pub claim_restless : (old new : Moment) (fault : HallFault) → IsGoing old → old.claimed ≡ [] → AnswersClaim old (Err fault) new → IsAtRest (past_of old) → ⊥
claim_restless old new (fault_is.Halted why) going none answers = absurd (none-some why (sym going ∙ answers.0))
claim_restless old new fault_is.Memory going none answers = restless (past_of old) old.claimed none answers.1.0 answers.1.1
claim_restless old new fault_is.LogFault going none answers = absurd answers
claim_restless old new (fault_is.JournalFull bytes) going none answers = absurd answers
