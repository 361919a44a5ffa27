use Rattle.hm_names.proofs.TextLaws.{read_server-server_text}
use Rattle.hm_names.proofs.laws.server_reads_back.Goals as goal

pub returns : goal.returns
returns c = read_server-server_text
