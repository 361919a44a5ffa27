use Rattle.hm_names.proofs.KeyLaws.{read_key-key_text}
use Rattle.hm_names.proofs.laws.key_reads_back.Goals as goal

pub returns : goal.returns
returns c = read_key-key_text
