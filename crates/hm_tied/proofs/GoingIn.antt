-- Who can go on, and what it says of its tree.
use Rattle.std.proofs.Common.{[], inl, inr, sym, true, ℕ, ◌∙◌, ◌≡◌}
use Rattle.std.proofs.lemmas.Bool.{cases_Bool, true≢false}
use Rattle.hm_model.specs.Holding.{IsFree}
use Rattle.hm_model.specs.Journal.{Past}
use Rattle.hm_model.specs.Picks.{needs_server}
use Rattle.hm_model.specs.Rest.{MayStep}
use Rattle.hm_model.specs.Rules.{IsLegal}
use Rattle.hm_tied.proofs.Openings.{unopening}
use Rattle.hm_tied.proofs.PickingIn.{lacking_row}
use Rattle.hm_tied.specs.Bounds.{Bounds, MayStepIn}
use Rattle.hm_tied.specs.TiedIn.{LacksPick}
use Rattle.hm_model.proofs.Running.{ready_runs, run_none}

-- who may make a step, and not with a pick, needs one that isn't there
pub lacks_pick : (bounds : Bounds) (J : Past) → IsLegal J → (p : ℕ) → MayStep J p → (MayStepIn bounds J p → ⊥) → IsFree J [] p → LacksPick bounds J p
lacks_pick bounds J legal p may none free =
    let undone = run_none J legal p may.0 may.1 (ready_runs J p may.0 may.2) in
    let needs : needs_server J p may.0 ≡ true = elim (cases_Bool (needs_server J p may.0)) [ inl on ↦ on | inr off ↦ absurd (none (may.0, may.1, may.2, λ on. absurd (true≢false (sym on ∙ off)))) ] in
    let row = lacking_row J p may.0 may.1 undone needs in
    (may.0, may.1, undone, needs, (λ server fits. none (may.0, may.1, may.2, λ on. (server, fits))), unopening J legal p may.0 may.1 free row.0 row.1 row.2)
