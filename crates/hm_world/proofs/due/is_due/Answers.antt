use Rattle.std.proofs.Common.{◌∙◌, ap, is_some, sym}
use Rattle.hm_fleet.specs.Fleet.{outside_of}
use Rattle.hm_model.specs.Records.{record_of}
use Rattle.hm_model.specs.Reports.{verb_of}
use Rattle.hm_world.proofs.Dues.{due_at}
use Rattle.hm_world.proofs.due.is_due.Goals as goal

pub returns-clause-due : goal.returns-clause-due
returns-clause-due c on =
    due_at c.args.state.now.past (outside_of c.args.fleet.now) c.args.pid.0 c.in-Some.record.now c.journal.ensures.legal
    (c.in-Some.ensures ∙ ap (λ J. record_of J c.args.pid.0) c.procedures-procedures.ensures)
    (ap (λ J. is_some (verb_of J c.args.pid.0)) (sym c.procedures-procedures.ensures) ∙ sym c.if-not-has_called.ensures)
    (sym c.if-is_settled.ensures)
    (sym c.peer_runs.ensures ∙ on)
