use Rattle.std.proofs.Common.{◌≡◌, true, subst}
use Rattle.std.proofs.lemmas.Grind.{common_steps}
use Rattle.std.proofs.Common.{arith}
use Rattle.hm_script.specs.Programs.{may_be_old}
use Rattle.hm_script.specs.Spellings.{spelling}
use Rattle.hm_script.proofs.Answering.{spelled_keyword}
use Rattle.hm_script.proofs.reading.read_old.Goals as goal

pub unreachable-requires : goal.unreachable-requires
unreachable-requires c =
    let may : may_be_old c.in-Some-of.keyword ≡ true = grind (arith, common_steps) in
    c.in-Err.ensures (subst (λ k. may_be_old k ≡ true) (spelled_keyword c.in-Some-of.keyword _ (spelling c.in_ok-command.command) c.in_ok-command.ensures) may)
