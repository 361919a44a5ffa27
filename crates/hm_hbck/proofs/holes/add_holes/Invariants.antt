use Rattle.std.proofs.Common.{List}
use Rattle.hm_hbck.specs.Found.{Adds}
use Rattle.hm_hbck.specs.Holes.{IsHoleAmong}
use Rattle.hm_hbck.specs.declared.finding.Finding.{Finding}
use Rattle.hm_hbck.proofs.holes.add_holes.Given as goal

abbrev pub invariant-loop-key : goal.invariant-loop-key
invariant-loop-key l =
    (last : List Finding) → Adds (IsHoleAmong l.catalog.rows l.key-iterator) l.found.items last → Adds (IsHoleAmong l.catalog.rows l.catalog.rows) l.fn.found.items last
