use Rattle.std.proofs.Common.{◌∙◌}
use Rattle.hm_data.specs.declared.entry.Entry.TheVariants.{Start}
use Rattle.hm_journal.proofs.Moving.{began}
use Rattle.hm_journal.proofs.opening.start.Goals as goal

pub returns-in-Err-clause-began : goal.returns-in-Err-clause-began
returns-in-Err-clause-began g c =
    let kept = c.record_start.new.journal.kept in
    began g.D.Disk (Start c.args.sheets.now) c.args.journal.disk c.into_disk.result c.record_start.new.journal.opened kept.entries kept.tail kept.halted
    (c.in-Err.ensures.opened ∙ c.requires.here) c.in-Err.ensures.err.0 c.in-Err.ensures.err.1 c.into_disk.ensures.since
