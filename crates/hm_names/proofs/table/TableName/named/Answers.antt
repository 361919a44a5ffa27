use Rattle.hm_names.proofs.TextLaws.{read_table-table_text}
use Rattle.hm_names.proofs.table.TableName.named.Goals as goal

pub returns-clause-reads_back : goal.returns-clause-reads_back
returns-clause-reads_back c =
    read_table-table_text c.args.self.now (c.as_bytes-ns.ensures.named, c.as_bytes-qualifier.ensures.named)
