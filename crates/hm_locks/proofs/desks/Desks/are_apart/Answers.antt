use Rattle.std.proofs.Common.{ap, ◌∙◌}
use Rattle.hm_locks.specs.Kept.{DesksView, desk_of}
use Rattle.hm_locks.specs.Keys.{key_of}
use Rattle.hm_locks.proofs.Keys.{key_of-same}
use Rattle.hm_locks.proofs.desks.Desks.are_apart.Goals as goal

pub returns-clause-apart : goal.returns-clause-apart
returns-clause-apart c a b d one other =
    key_of-same a b (c.self.invariant.apart (key_of a) (key_of b) d
    (ap (λ (v : DesksView). desk_of v.numbers a) c.self.view_is ∙ one)
    (ap (λ (v : DesksView). desk_of v.numbers b) c.self.view_is ∙ other))
