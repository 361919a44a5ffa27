use Rattle.hm_names.proofs.TextLaws.{read_table-table_text}
use Rattle.hm_names.proofs.laws.table_reads_back.Goals as goal

pub returns : goal.returns
returns c = read_table-table_text
