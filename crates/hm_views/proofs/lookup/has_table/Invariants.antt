use Rattle.std.proofs.Common.{◌≡◌, drop}
use Rattle.hm_model.specs.NamespaceActs.{has_table}
use Rattle.hm_views.proofs.lookup.has_table.Given as goal

abbrev pub invariant-loop-key : goal.invariant-loop-key
invariant-loop-key l = has_table l.ns (drop l.key-index l.rows) ≡ has_table l.ns l.rows
