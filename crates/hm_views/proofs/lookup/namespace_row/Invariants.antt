use Rattle.std.proofs.Common.{◌≡◌, drop}
use Rattle.hm_data.specs.declared.catalog.CatKey.TheVariants as key_is
use Rattle.hm_model.specs.Catalog.{row_at}
use Rattle.hm_views.proofs.lookup.namespace_row.Given as goal

abbrev pub invariant-loop-key : goal.invariant-loop-key
invariant-loop-key l = row_at (drop l.key-index l.rows) (key_is.Ns l.ns) ≡ row_at l.rows (key_is.Ns l.ns)
