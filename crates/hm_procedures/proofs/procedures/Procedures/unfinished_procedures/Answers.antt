use Rattle.std.proofs.Common.{◌≡◌, ◌+◌, ap, ◌∙◌, arith}
use Rattle.hm_model.specs.Journal.{Past}
use Rattle.hm_procedures.specs.Procedures.{ProceduresView, unfinished_procedures}
use Rattle.hm_procedures.specs.declared.book.Book.{Book}
use Rattle.hm_procedures.proofs.Below.{unfinished_most, unfinished_sum}
use Rattle.hm_procedures.proofs.Needs.{offset_most}
use Rattle.hm_procedures.proofs.procedures.Procedures.unfinished_procedures.Goals as goal

pub overflow_add-result : goal.overflow_add-result
overflow_add-result c =
    let J : Past = c.self.inside.past.entries in
    let b : Book = c.self.inside.book in
    let left = c.self.invariant.0.0.left_are in
    let below = c.self.invariant.1 in
    let count = c.self.invariant.0.0.count in
    let sum = unfinished_sum J in
    let most = unfinished_most J in
    let least = offset_most J c.self.invariant.0.0.legal in
    omega (arith, least, left, below, count, sum, most, b.kept.ok.0, b.kept.small)

pub returns : goal.returns
returns c =
    let left = c.self.invariant.0.0.left_are in
    let below = c.self.invariant.1 in
    let sum = unfinished_sum c.self.inside.past.entries in
    let are : c.self.inside.book.unfinished + c.self.inside.below ≡ unfinished_procedures c.self.inside.past.entries = omega (arith, left, below, sum) in
    are ∙ ap (λ (v : ProceduresView). unfinished_procedures v.past) c.self.view_is
