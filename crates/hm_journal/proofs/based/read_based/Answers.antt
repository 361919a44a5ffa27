use Rattle.std.proofs.Common.{ap, length}
use Rattle.hm_journal.proofs.Started.{begins_based}
use Rattle.hm_journal.proofs.based.read_based.Goals as goal

pub returns-clause-begins : goal.returns-clause-begins
returns-clause-begins c =
    let read = c.in_ok-state.ensures in
    begins_based c.args.sheets.now c.args.frames.now c.args.parts c.in_ok-state.state.past _ c.counted.result c.requires.leading c.requires.some read.state read.begun
    (ap length c.as_slice.ensures) c.counted.ensures.count c.counted.ensures.small
