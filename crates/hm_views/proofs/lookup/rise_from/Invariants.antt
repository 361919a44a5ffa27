use Rattle.std.proofs.Common.{◌≡◌, drop}
use Rattle.hm_views.specs.Order.{keys_rise_from}
use Rattle.hm_views.proofs.lookup.rise_from.Given as goal

abbrev pub invariant-loop-key : goal.invariant-loop-key
invariant-loop-key l = keys_rise_from l.before (drop l.key-index l.rows) ≡ keys_rise_from l.fn.first l.rows
