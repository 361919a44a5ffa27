use Rattle.std.proofs.Common.{◌∙◌}
use Rattle.hm_names.proofs.Ranges.{shared_ends}
use Rattle.hm_names.proofs.range.KeyRange.overlaps.Goals as goal

pub returns-then-ends_behind-clause-shared : goal.returns-then-ends_behind-clause-shared
returns-then-ends_behind-clause-shared c =
    λ k p q. c.ends_behind-then-ends_behind.ensures ∙ shared_ends c.args.other.now c.args.self.now k q p

pub returns-else-ends_behind-clause-shared : goal.returns-else-ends_behind-clause-shared
returns-else-ends_behind-clause-shared c =
    λ k p q. c.ends_behind.ensures ∙ shared_ends c.args.self.now c.args.other.now k p q
