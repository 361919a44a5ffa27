use Rattle.std.proofs.Common.{refl}
use Rattle.hm_data.specs.declared.args.Args.TheVariants as args_are
use Rattle.hm_kinds.proofs.LockForms.{lock_law}
use Rattle.hm_kinds.proofs.laws.covers_clash.Goals as goal

pub returns : goal.returns
returns c = λ one other first second sound sound' key covers guards. lock_law (args_are.Root one first) (args_are.Root other second) sound sound' refl key covers guards
