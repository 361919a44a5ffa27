use Rattle.hm_exec.proofs.Recording.{refuses}
use Rattle.hm_exec.proofs.adding.record.Goals as goal

pub returns-in_err-record_entry-clause-adds : goal.returns-in_err-record_entry-clause-adds
returns-in_err-record_entry-clause-adds g c =
    refuses _ _ _ c.args.entry.now c.in_err-record_entry.field-0.0 c.from_residual-in_err-record_entry.result c.requires.going c.in_ok-ready.ensures.kept c.in_err-record_entry.ensures.records c.from_residual-in_err-record_entry.ensures.1
