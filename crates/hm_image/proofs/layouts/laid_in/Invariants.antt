use Rattle.hm_image.specs.Layouts.{AreLaid}
use Rattle.hm_image.proofs.layouts.laid_in.Given as goal

abbrev pub invariant-loop-number : goal.invariant-loop-number
invariant-loop-number l =
    AreLaid l.records.past l.number l.laid.pairs
