use Rattle.std.proofs.Common.{length}
use Rattle.hm_rows_sheets.proofs.parts.gap_rows.Given as goal

abbrev pub decreases-loop-rest : goal.decreases-loop-rest
decreases-loop-rest g l = length l.rest
