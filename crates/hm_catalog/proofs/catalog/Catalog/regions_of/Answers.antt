use Rattle.std.proofs.Common.{ap, ◌∙◌}
use Rattle.hm_catalog.specs.Spans.{regions_in}
use Rattle.hm_catalog.proofs.Spans.{regions_found}
use Rattle.hm_catalog.proofs.catalog.Catalog.regions_of.Goals as goal

pub returns : goal.returns
returns c = c.new.ensures ∙ ap regions_in c.rows_of.ensures ∙ regions_found c.args.table.now c.args.self.now.rows
