use Rattle.hm_catalog.proofs.Follows.{entries_lead, steps_lead, undos_lead}
use Rattle.hm_catalog.proofs.laws.edits_lead.Goals as goal

pub returns : goal.returns
returns c = record { steps = steps_lead; undos = undos_lead; entries = entries_lead }
