-- Which rule an entry breaks, and what its rules say where all hold.
use Rattle.std.proofs.Common.{◌≡◌, ℕ, Bool, false, Result, Ok, Err, IfErr, List, [], ◌∷◌, ◌⊎◌, inl, inr, sym, subst}
use Rattle.std.proofs.lemmas.Bool.{cases_eq}
use Rattle.hm_data.specs.declared.entry.Entry.{Entry}
use Rattle.hm_data.specs.declared.entry.Entry.TheVariants as entry_is
use Rattle.hm_model.specs.Journal.{Past}
use Rattle.hm_model.specs.Rules.{FirstFails, rules}
use Rattle.hm_judge.specs.Judge.{AllHoldBut, HoldsBut, IsEvaluation, IsRefusedBy, IsUnrefused}

-- whether a rule is an evaluation is decided
evaluation : (entry : Entry) (rule : ℕ) → IsEvaluation entry rule ⊎ (IsEvaluation entry rule → ⊥)
evaluation (entry_is.Step pid pick out) rule = cases_eq rule 8
evaluation (entry_is.Undo pid row out) rule = cases_eq rule 10
evaluation entry rule = inr (λ none. none)

-- where all rules but the evaluation hold, only that can be broken
only_it : (entry : Entry) (rule : ℕ) (numbered : List (ℕ × Type 0)) → AllHoldBut entry numbered → FirstFails rule numbered → IsEvaluation entry rule
only_it entry rule [] all fails = absurd fails
only_it entry rule ((number, it) ∷ more) all (inl fails) = elim (evaluation entry rule) [
  | inl is ↦ is
  | inr not_so ↦ absurd (fails.1 (all.0 (λ is. not_so (subst (IsEvaluation entry) (sym fails.0) is))))
]
only_it entry rule ((number, it) ∷ more) all (inr later) = only_it entry rule more all.1 later.1

pub unrefused : (J : Past) (entry : Entry) → HoldsBut J entry → IsUnrefused J entry
unrefused J entry all rule fails = only_it entry rule (rules J entry) all fails

-- the last of the rules that are judged is broken, or holds
pub broken_by : (J : Past) (entry : Entry) (number : ℕ) (holds : Bool) {X : Type 0} (r : Result X ℕ) → ((k : ℕ) → k ≡ number → holds ≡ false → IsRefusedBy J entry k)
    → IfErr r (λ k. (k ≡ number) × (holds ≡ false)) → IfErr r (IsRefusedBy J entry)
broken_by J entry number holds (Ok x) breaks said = tt
broken_by J entry number holds (Err k) breaks said = breaks k said.0 said.1
