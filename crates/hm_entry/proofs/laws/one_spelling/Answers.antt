use Rattle.hm_entry.proofs.EntryCodec.{one_entry}
use Rattle.hm_entry.proofs.laws.one_spelling.Goals as goal

pub returns : goal.returns
returns c = one_entry
