use Rattle.hm_records.proofs.Editions.{adopts_valid}
use Rattle.hm_records.proofs.records.Records.adopts_valid.Goals as goal

pub returns : goal.returns
returns c = adopts_valid c.args.entry.now c.args.self.now.past
