use Rattle.hm_state.proofs.Entering.{state_start}
use Rattle.hm_state.proofs.state.State.start.Goals as goal

pub invariant_of-result : goal.invariant_of-result
invariant_of-result c = state_start c.args.sheets c.in_ok-records.records.past c.requires c.in_ok-records.ensures
