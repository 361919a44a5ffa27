use Rattle.hm_base.specs.Read.{AreRead}
use Rattle.hm_base.proofs.base.read_rest.Given as goal

abbrev pub invariant-loop-number : goal.invariant-loop-number
invariant-loop-number l = AreRead l.parts l.number l.reader
