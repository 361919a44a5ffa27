use Rattle.hm_model.proofs.Grown.{begun_some, by_nonce_made, by_nonce_under, grown_all, sheets_are, start_oldest, stepper_made, ids_within}
use Rattle.hm_model.proofs.laws.journals_grow.Goals as goal

pub returns-clause-grown : goal.returns-clause-grown
returns-clause-grown c = grown_all

pub returns-clause-begin : goal.returns-clause-begin
returns-clause-begin c = λ J legal begun. (start_oldest J legal begun, sheets_are J legal (begun_some J begun))

pub returns-clause-nonces : goal.returns-clause-nonces
returns-clause-nonces c = λ J legal nonce p is.
    let made = by_nonce_made J legal nonce p is in
    (by_nonce_under J legal nonce p is, made.0, made.1)

pub returns-clause-steppers : goal.returns-clause-steppers
returns-clause-steppers c = stepper_made

pub returns-clause-ids : goal.returns-clause-ids
returns-clause-ids c = ids_within
