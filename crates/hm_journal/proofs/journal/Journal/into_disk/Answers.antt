use Rattle.std.proofs.Common.{subst}
use Rattle.hm_journal.specs.Stored.{IsStored}
use Rattle.hm_journal.specs.View.{JournalView}
use Rattle.hm_journal.proofs.journal.Journal.into_disk.Goals as goal

pub returns-clause-reads : goal.returns-clause-reads
returns-clause-reads g c told =
    let d = g.D.Disk in
    let disk = c.into_disk.result in
    subst (λ (w : JournalView _). IsStored w.kept (d.seen disk)) c.self.view_is
    (c.self.invariant.0.stored told (d.seen disk) (subst (λ e. d.image e (d.seen disk)) c.into_disk.ensures.disk (g.met.D.Disk.reads_now disk told)))

pub returns-clause-stored : goal.returns-clause-stored
returns-clause-stored g c told bytes at =
    subst (λ (w : JournalView _). IsStored w.kept bytes) c.self.view_is
    (c.self.invariant.0.stored told bytes (subst (λ e. g.D.Disk.image e bytes) c.into_disk.ensures.disk at))
