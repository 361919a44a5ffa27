use Rattle.hm_model.proofs.Ranges.{row_fits}
use Rattle.hm_model.proofs.Rows.{keys_in_order, has_key, read_alike, row_read}
use Rattle.hm_model.proofs.laws.rows_are_read.Goals as goal

pub returns-clause-listed : goal.returns-clause-listed
returns-clause-listed c = λ J. (keys_in_order J, has_key J)

pub returns-clause-read : goal.returns-clause-read
returns-clause-read c = row_read

pub returns-clause-alike : goal.returns-clause-alike
returns-clause-alike c = read_alike

pub returns-clause-bytes : goal.returns-clause-bytes
returns-clause-bytes c = row_fits
