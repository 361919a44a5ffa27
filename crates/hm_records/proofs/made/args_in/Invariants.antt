use Rattle.std.proofs.Common.{◌≡◌, take}
use Rattle.hm_model.specs.Tree.{args_in}
use Rattle.hm_records.proofs.made.args_in.Given as goal

abbrev pub invariant-loop-child : goal.invariant-loop-child
invariant-loop-child l = l.made.items ≡ args_in (take l.child-index l.children)
