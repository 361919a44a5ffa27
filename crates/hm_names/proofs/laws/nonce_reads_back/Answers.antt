use Rattle.hm_names.proofs.NonceLaws.{read_nonce-nonce_text}
use Rattle.hm_names.proofs.laws.nonce_reads_back.Goals as goal

pub returns : goal.returns
returns c = read_nonce-nonce_text
