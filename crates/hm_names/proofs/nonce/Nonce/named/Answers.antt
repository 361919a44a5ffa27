use Rattle.std.proofs.Common.{arith}
use Rattle.hm_names.proofs.NonceLaws.{read_nonce-nonce_text}
use Rattle.hm_names.proofs.nonce.Nonce.named.Goals as goal

pub returns : goal.returns
returns c = read_nonce-nonce_text c.args.self.now (omega arith, omega arith)
