use Rattle.std.proofs.lemmas.List.Sorted.{All-permutation, IsPermutation-reverse}
use Rattle.hm_entry.specs.Fits.{EntryFits}
use Rattle.hm_model.specs.Journal.{back}
use Rattle.hm_frames.proofs.Recorded.{abort_recorded, adopt_recorded, base_recorded, down_recorded, report_recorded, start_recorded, step_recorded, submit_recorded, undo_recorded, up_recorded}
use Rattle.hm_frames.proofs.laws.entries_fit_frames.Goals as goal

pub returns-clause-start : goal.returns-clause-start
returns-clause-start c = start_recorded

pub returns-clause-submit : goal.returns-clause-submit
returns-clause-submit c = λ nonce request may. submit_recorded nonce request may

pub returns-clause-step : goal.returns-clause-step
returns-clause-step c = λ journal pid pick out legal fit allowed.
    step_recorded (back journal) pid pick out legal (All-permutation EntryFits journal (back journal) (IsPermutation-reverse journal) fit) allowed

pub returns-clause-undo : goal.returns-clause-undo
returns-clause-undo c = λ journal pid row out legal fit allowed.
    undo_recorded (back journal) pid row out legal (All-permutation EntryFits journal (back journal) (IsPermutation-reverse journal) fit) allowed

pub returns-clause-report : goal.returns-clause-report
returns-clause-report c = report_recorded

pub returns-clause-up : goal.returns-clause-up
returns-clause-up c = up_recorded

pub returns-clause-down : goal.returns-clause-down
returns-clause-down c = down_recorded

pub returns-clause-abort : goal.returns-clause-abort
returns-clause-abort c = abort_recorded

pub returns-clause-base : goal.returns-clause-base
returns-clause-base c = λ journal part allowed fits. base_recorded (back journal) part allowed fits

pub returns-clause-adopt : goal.returns-clause-adopt
returns-clause-adopt c = λ journal sheets allowed. adopt_recorded (back journal) sheets allowed
