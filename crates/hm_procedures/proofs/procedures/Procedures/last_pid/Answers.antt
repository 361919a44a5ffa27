use Rattle.std.proofs.Common.{arith}
use Rattle.hm_procedures.proofs.Needs.{offset_most}
use Rattle.hm_procedures.proofs.procedures.Procedures.last_pid.Goals as goal

pub overflow_add-result : goal.overflow_add-result
overflow_add-result c =
    let least = offset_most c.self.inside.past.entries c.self.invariant.0.0.legal in
    let begin = c.self.invariant.0.2.begin in
    let long = c.len.ensures in
    omega (arith, least, begin, long, c.self.inside.book.kept.ok.0, c.self.inside.book.kept.small)

pub returns-clause-small : goal.returns-clause-small
returns-clause-small c =
    let least = offset_most c.self.inside.past.entries c.self.invariant.0.0.legal in
    let begin = c.self.invariant.0.2.begin in
    let long = c.len.ensures in
    omega (arith, least, begin, long, c.self.inside.book.kept.ok.0, c.self.inside.book.kept.small)
