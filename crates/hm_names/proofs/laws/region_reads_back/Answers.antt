use Rattle.hm_names.proofs.TextLaws.{read_region-region_text}
use Rattle.hm_names.proofs.laws.region_reads_back.Goals as goal

pub returns : goal.returns
returns c = read_region-region_text
