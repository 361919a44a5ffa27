use Rattle.hm_entry.proofs.EntryCodec.{all_again}
use Rattle.hm_entry.proofs.laws.reads_back.Goals as goal

pub returns : goal.returns
returns c = all_again
