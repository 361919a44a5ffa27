use Rattle.std.proofs.Common.{◌≡◌, ◌∙◌, List, ap, sym}
use Rattle.hm_data.specs.declared.part.Part.{Part}
use Rattle.hm_model.specs.Image.{counted}
use Rattle.hm_model.specs.Rebase.{based}
use Rattle.hm_state.proofs.Heads.{state_based}
use Rattle.hm_state.proofs.state.State.from_base.Goals as goal

pub invariant_of-result : goal.invariant_of-result
invariant_of-result c =
    let same : c.as_slice-2.result.now ≡ c.as_slice.result.now = c.as_slice-2.ensures ∙ sym c.as_slice.ensures in
    state_based c.in_ok-records.records.past (based c.as_slice.result.now) c.entries_in-count.result
    c.in_ok-records.ensures.past c.in_ok-records.ensures.legal c.in_ok-records.ensures.begun
    (c.entries_in-count.ensures.count ∙ ap (λ (parts : List Part). counted (based parts)) same) c.entries_in-count.ensures.few
