use Rattle.std.proofs.Common.{[]}
use Rattle.hm_model.specs.Journal.{Past}
use Rattle.hm_judge.proofs.Stepping.{steps_listed}
use Rattle.hm_judge.proofs.steps.is_free.Goals as goal

pub is_free_in-requires-clause-enlisted : goal.is_free_in-requires-clause-enlisted
is_free_in-requires-clause-enlisted c = steps_listed c.args.records.now.past c.procedures-legal.ensures.legal _ c.book.ensures.open c.args.pid.0 c.requires

pub returns : goal.returns
returns c =
    let J : Past = c.args.records.now.past in
    let enlisted = steps_listed J c.procedures-legal.ensures.legal _ c.book.ensures.open c.args.pid.0 c.requires in
    let law = c.free_in_book_is_free.ensures J [] _ c.args.pid.0 c.book.ensures.book enlisted in
    (λ on. law.0 (c.is_free_in.ensures.0 on), λ free. c.is_free_in.ensures.1 (law.1 free))
