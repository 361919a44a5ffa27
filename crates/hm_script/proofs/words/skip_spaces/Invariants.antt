use Rattle.std.proofs.Common.{◌≡◌, length}
use Rattle.hm_script.specs.Lines.{words_of}
use Rattle.hm_script.proofs.words.skip_spaces.Given as goal

abbrev pub invariant-loop-after : goal.invariant-loop-after
invariant-loop-after l = words_of l.rest ≡ words_of l.line

abbrev pub decreases-loop-after : goal.decreases-loop-after
decreases-loop-after l = length l.rest
