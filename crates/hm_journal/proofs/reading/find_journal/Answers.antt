use Rattle.hm_journal.proofs.Found.{found_journal}
use Rattle.hm_journal.proofs.reading.find_journal.Goals as goal

pub returns-in-Ok-clause-found : goal.returns-in-Ok-clause-found
returns-in-Ok-clause-found c =
    let journal = c.in-Ok.ensures.state in
    let origin = c.in-Ok.origin in
    found_journal c.args.sheets.now c.args.frames c.into_vec.result.items journal.0 c.in-Ok.state.past origin.parts origin.based journal.1 journal.2 journal.3 journal.4 c.into_vec.ensures
