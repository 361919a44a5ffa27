use Rattle.std.proofs.Common.{◌≡◌, ◌++◌}
use Rattle.hm_catalog.specs.Spans.{in_span, rows_of}
use Rattle.hm_reads.proofs.found.span_rows.Given as goal

abbrev pub invariant-loop-key : goal.invariant-loop-key
invariant-loop-key l = l.found.items ++ l.key-iterator ≡ rows_of (in_span l.span) l.catalog.rows
