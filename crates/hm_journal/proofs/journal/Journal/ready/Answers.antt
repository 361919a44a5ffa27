use Rattle.std.proofs.Common.{ap}
use Rattle.hm_journal.specs.View.{JournalView}
use Rattle.hm_journal.proofs.Keeping.{readied}
use Rattle.hm_journal.proofs.journal.Journal.ready.Goals as goal

pub returns-clause-kept : goal.returns-clause-kept
returns-clause-kept g c =
    let f = c.self.inside in
    readied f.frames.items c.reserve.new.self.items f.next f.tail f.halted f.limits c.framed.result c.args.entry.now c.args.self.now.kept
    (ap (λ (w : JournalView _). w.kept) c.self.view_is) c.reserve.ensures.items c.framed.ensures.entry
