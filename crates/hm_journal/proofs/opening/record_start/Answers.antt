use Rattle.std.proofs.Common.{Err, ap, subst}
use Rattle.hm_data.specs.declared.entry.Entry.TheVariants.{Start}
use Rattle.hm_hall.specs.Recording.{next_of}
use Rattle.hm_ports.specs.Faults.{Rose}
use Rattle.hm_journal.proofs.Beginning.{first_failed, first_recorded, only_fault}
use Rattle.hm_frames.proofs.Recorded.{start_recorded}
use Rattle.hm_journal.proofs.opening.record_start.Goals as goal

pub returns-in-Ok-clause-kept : goal.returns-in-Ok-clause-kept
returns-in-Ok-clause-kept g c =
    let ready = c.in_ok-ready_start.ensures.kept in
    first_recorded c.args.journal.now.kept c.ready_start.new.journal.kept c.record_entry.new.self.kept (Start c.args.sheets.now) c.in-Ok.field-0 ready c.requires.empty
    (c.in-Ok.ensures.records (Start c.args.sheets.now) (ap next_of ready))

pub returns-in-Err-clause-fault : goal.returns-in-Err-clause-fault
returns-in-Err-clause-fault g c is =
    let ready = c.in_ok-ready_start.ensures.kept in
    let start = Start c.args.sheets.now in
    let fault = only_fault c.args.journal.now.kept c.ready_start.new.journal.kept c.record_entry.new.self.kept start c.in-Err.field-0 ready c.requires.empty c.requires.live c.requires.hard
    (start_recorded c.args.sheets.now c.requires.sheets).short (c.in-Err.ensures.records start (ap next_of ready)) in
    subst (λ disk. Rose (g.D.Disk.faults disk) (g.D.Disk.faults c.record_entry.new.self.disk)) c.in_ok-ready_start.ensures.disk (c.in-Err.ensures.fault (ap Err fault))

pub returns-in-Err-clause-err : goal.returns-in-Err-clause-err
returns-in-Err-clause-err g c =
    let ready = c.in_ok-ready_start.ensures.kept in
    let start = Start c.args.sheets.now in
    let records = c.in-Err.ensures.records start (ap next_of ready) in
    let fault = only_fault c.args.journal.now.kept c.ready_start.new.journal.kept c.record_entry.new.self.kept start c.in-Err.field-0 ready c.requires.empty c.requires.live c.requires.hard
    (start_recorded c.args.sheets.now c.requires.sheets).short records in
    first_failed c.args.journal.now.kept c.ready_start.new.journal.kept c.record_entry.new.self.kept start c.in-Err.field-0 ready c.requires.empty fault records
