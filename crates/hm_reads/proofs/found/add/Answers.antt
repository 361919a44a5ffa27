use Rattle.std.proofs.Common.{sym, ◌∙◌}
use Rattle.hm_catalog.specs.Kept.{key_of}
use Rattle.hm_reads.proofs.Inserted.{has_none}
use Rattle.hm_reads.proofs.found.add.Goals as goal

pub returns-in-None : goal.returns-in-None
returns-in-None c = λ asked was. was ∙ sym (has_none (key_of c.args.name.now) asked c.args.catalog.now.rows (sym c.in-None.ensures.row))
