use Rattle.std.proofs.Common.{Bor}
use Rattle.std.proofs.lemmas.Iterator.Consumers.{YieldsList-from_first, nth_from_yields_List}
use Rattle.hm_data.specs.declared.catalog.CatKey.{CatKey}
use Rattle.hm_data.specs.declared.catalog.CatRow.{CatRow}
use Rattle.hm_catalog.proofs.catalog.Catalog.row.Goals as goal

pub returns : goal.returns
returns c = nth_from_yields_List c.nth.result c.nth.new.self c.args.number c.nth.ensures.ran (YieldsList-from_first (λ (row : Bor CatKey × Bor CatRow). (row.0.now, row.1.now)) (λ rest. rest) c.args.self.now.rows c.rows.ensures)
