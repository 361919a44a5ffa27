use Rattle.std.proofs.Common.{ap, ◌≡◌, ◌∙◌, subst}
use Rattle.hm_journal.specs.Since.{Since}
use Rattle.hm_journal.specs.Stored.{AllStored}
use Rattle.hm_journal.specs.View.{JournalView}
use Rattle.hm_world.specs.Scene.{WorldView}
use Rattle.hm_commands.proofs.cluster.Cluster.into_disk.Goals as goal

pub returns-clause-left : goal.returns-clause-left
returns-clause-left g c =
    let same : c.into_recorder.result ≡ c.args.self.recorder = c.into_recorder.ensures ∙ ap (λ (w : WorldView _). w.recorder) c.self.view_is in
    record {
      stored = subst (λ (j : JournalView _). g.D.Disk.tells → AllStored (g.D.Disk.image c.into_disk.result) j.kept) same c.into_disk.ensures.stored;
      since = subst (λ (j : JournalView _). Since g.D.Disk j.opened c.into_disk.result j.kept.entries j.kept.tail j.kept.halted) same c.into_disk.ensures.since;
      legal = c.keeps.ensures.legal;
      begun = c.keeps.ensures.whole;
    }
