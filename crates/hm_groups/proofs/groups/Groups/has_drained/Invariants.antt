use Rattle.std.proofs.Common.{◌≡◌}
use Rattle.std.specs.List.{list_any}
use Rattle.hm_groups.proofs.groups.Groups.has_drained.Given as goal

abbrev pub invariant-loop-drained : goal.invariant-loop-drained
invariant-loop-drained l = list_any (λ row. row.1) l.drained-iterator ≡ list_any (λ row. row.1) l.self.drained
